use Rattle.std.proofs.Common.{◌≡◌, ◌-ℤ◌, ◌∙◌, sym, ap, subst, to_z, of_z, arith}
use Rattle.std.specs.Int.{w128}
use Rattle.std.proofs.lemmas.List.Sorted.{length_permutation}
use Rattle.std.proofs.lemmas.Option.{same_Some}
use Rattle.cad_rows.specs.declared.rows.StringRow.{StringRow}
use Rattle.cad_map.specs.Map.{far_end, position_of, strings_at}
use Rattle.cad_map.proofs.CallerLemmas.{told-is, told-some}
use Rattle.cad_laws.specs.Areas.{if_beside, swept}
use Rattle.cad_near.specs.KeptAreas.{Gains}
use Rattle.edit_records.proofs.AreaNumbers.{read-value}
use Rattle.edit_records.proofs.areas.sweep_beside.Goals as goal

pub unwrap-far-requires : goal.unwrap-far-requires
unwrap-far-requires g c =
    let p = c.args.point in
    let strings = g.M.MapView.view_strings c.args.map.now p in
    let same =
    length_permutation (strings_at (g.M.MapView.map c.args.map.now) p) strings
    c.far_with.ensures.each in
    told-some (λ (s : StringRow). far_end s p) c.far_with.result strings c.args.place
    c.far_with.ensures.far (omega (arith, same, c.requires.there))

pub returns-clause-gains : goal.returns-clause-gains
returns-clause-gains g c f s at =
    let m = g.M.MapView.map c.args.map.now in
    let a = c.args in
    let strings = g.M.MapView.view_strings c.args.map.now a.point in
    let told =
    told-is (λ (r : StringRow). far_end r a.point) c.far_with.result c.unwrap-far.result strings
    a.place c.far_with.ensures.far c.unwrap-far.ensures in
    let row : told.0 ≡ s = same_Some told.0 s (sym told.1 ∙ at) in
    let far : c.unwrap-far.result ≡ far_end s a.point =
    sym told.2 ∙ ap (λ (r : StringRow). far_end r a.point) row in
    let gain : to_z w128 (of_z w128 c.swept_by-gain.result)
    ≡ swept a.from a.to (position_of m (far_end s a.point)) =
    read-value c.swept_by-gain.result c.swept_by-gain.ensures.small
    ∙ c.swept_by-gain.ensures.value
    ∙ ap (swept a.from a.to) (c.position.ensures ∙ ap (position_of m) far) in
    subst (Gains a.areas.now c.add_beside.new.areas f)
    (λ i. if_beside m f (a.point, far i) (gain i) -ℤ if_beside m f (far i, a.point) (gain i))
    (c.add_beside.ensures f)
