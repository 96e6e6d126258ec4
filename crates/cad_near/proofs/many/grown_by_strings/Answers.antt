use Rattle.std.proofs.Common.{refl, sym, subst}
use Rattle.std.proofs.lemmas.List.{take_all}
use Rattle.std.proofs.lemmas.Option.{slice_get_read}
use Rattle.std.specs.List.{AllByRecursion}
use Rattle.geo_exact.specs.Position.{Position}
use Rattle.cad_rows.specs.declared.rows.StringRow.{StringRow}
use Rattle.cad_map.specs.Map.{position_of}
use Rattle.cad_near.specs.Near.{OfString}
use Rattle.cad_near.specs.Seen.{IsInReach, HasInReach, lying_string}
use Rattle.cad_near.proofs.SeenNear.{wider_of, row-more, no_row-more}
use Rattle.cad_near.proofs.many.grown_by_strings.Goals as goal
use Rattle.cad_near.proofs.many.grown_by_strings.Goals.{in-Some, in_default}

pub loop-place-init : goal.loop-place-init
loop-place-init g c = record { all = tt; kept = λ q h. h }

pub loop-place-preserved : goal.loop-place-preserved
unfolding OfString
loop-place-preserved g c =
    let m = g.M.MapView.map c.args.map.now in
    let at = slice_get_read c.args.strings.now _ c.loop-place.place c.index-strings-place.result refl c.loop-place-test.true c.index-strings-place.is in
    let old = c.loop-place.so_far in
    let all = c.loop-place.invariant.all in
    elim c.match-string.branch [
      | in-Some w ↦
          let new = w.grown-so_far.result in
          let wider : (q : Position) → IsInReach old q → IsInReach new q = λ q h. w.grown-so_far.ensures.kept q (w.grown.ensures.kept q h) in
          rw w.so_far-is (record {
            all = row-more (λ (r : StringRow). r.number) m.strings c.requires.strings.distinct c.args.strings.now c.loop-place.place _ at
                (λ s. HasInReach old (lying_string m s)) (λ s. HasInReach new (lying_string m s)) (λ s h. wider_of old new wider (lying_string m s) h) all w.in-Some.row.now (sym w.in-Some.ensures)
                (record {
                  a = w.grown-so_far.ensures.kept (position_of m w.in-Some.row.now.from) (subst (IsInReach w.grown.result) w.position.ensures w.grown.ensures.within);
                  b = subst (IsInReach new) w.position-in-Some.ensures w.grown-so_far.ensures.within;
                });
            kept = λ q h. wider q (c.loop-place.invariant.kept q h);
          })
      | in_default w ↦ rw w.so_far-is (record {
        all = no_row-more (λ (r : StringRow). r.number) m.strings c.requires.strings.distinct c.args.strings.now c.loop-place.place _ at
            (λ s. HasInReach old (lying_string m s)) (λ s. HasInReach old (lying_string m s)) (λ s h. h) all (sym w.in_default.ensures);
        kept = c.loop-place.invariant.kept;
      })
    ]

pub returns-clause-all : goal.returns-clause-all
returns-clause-all g c =
    let m = g.M.MapView.map c.args.map.now in
    subst (AllByRecursion (OfString m (λ s. HasInReach c.loop-place.so_far (lying_string m s)))) (take_all c.loop-place.place c.args.strings.now c.loop-place-test.false) c.loop-place.invariant.all

pub returns-clause-kept : goal.returns-clause-kept
returns-clause-kept g c = c.loop-place.invariant.kept
