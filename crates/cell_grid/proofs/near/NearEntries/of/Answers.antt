use Rattle.std.proofs.Common.{◌≡◌, ◌∙◌, List, ◌++◌, ap, filter, sym, subst}
use Rattle.std.specs.Prelude.{IsTrue}
use Rattle.std.specs.List.{Contains}
use Rattle.geo_exact.specs.SignTest.{boxes_overlap}
use Rattle.geo_exact.specs.Position.{Position}
use Rattle.cell_grid.specs.declared.bounds.Bounds.{Bounds}
use Rattle.cell_grid.specs.declared.entry.Entry.{Entry}
use Rattle.cell_grid.specs.Bounds.{bounds_of, is_near}
use Rattle.cell_grid.specs.Kept.{kept, IsHeld}
use Rattle.cell_grid.proofs.Bounded.{is_near-is}
use Rattle.cell_grid.proofs.Levels.{given-held, given-all}
use Rattle.cell_grid.proofs.near.NearEntries.of.Goals as goal

-- the long ones that are given are those whose boxes overlap the segment's
given-long : (xs : List Entry) {given : List Entry} (a b : Position) {w : Bounds} → w ≡ bounds_of a b
    → given ≡ xs
    → filter (λ e. boxes_overlap a b e.from e.to) xs ≡ filter (is_near w) given
given-long xs a b is all i =
    filter (λ e. (sym (is_near-is a b e) ∙ ap (λ v. is_near v e) (sym is)) i) (sym all i)

pub returns-clause-held : goal.returns-clause-held
returns-clause-held c =
    let k = kept c.args.segments.now in
    let near = λ (e : Entry). boxes_overlap c.args.from c.args.to e.from e.to in
    subst (λ (long : List Entry). (e : Entry)
    → Contains (c.of.result ++ (c.of-2.result ++ (c.of-3.result ++ (c.of-4.result ++ long)))) e
    → IsHeld k e × IsTrue (near e))
    (given-long c.args.segments.now.long.entries.items c.args.from c.args.to c.bounds_of-bounds.ensures
    c.as_slice.ensures.value)
    (given-held k near c.of.result c.of-2.result c.of-3.result c.of-4.result c.of.ensures.held
    c.of-2.ensures.held c.of-3.ensures.held c.of-4.ensures.held)

pub returns-clause-all : goal.returns-clause-all
returns-clause-all c =
    let k = kept c.args.segments.now in
    let near = λ (e : Entry). boxes_overlap c.args.from c.args.to e.from e.to in
    subst (λ (long : List Entry). (e : Entry) → IsHeld k e → IsTrue (near e)
    → Contains (c.of.result ++ (c.of-2.result ++ (c.of-3.result ++ (c.of-4.result ++ long)))) e)
    (given-long c.args.segments.now.long.entries.items c.args.from c.args.to c.bounds_of-bounds.ensures
    c.as_slice.ensures.value)
    (given-all k near c.of.result c.of-2.result c.of-3.result c.of-4.result c.of.ensures.all
    c.of-2.ensures.all c.of-3.ensures.all c.of-4.ensures.all)
