use Rattle.std.proofs.Common.{◌≡◌, ◌≢◌, ◌+◌, ◌∙◌, refl, sym, ap, subst, List, [], ◌∷◌, ◌++◌, length, ℕ, None, arith}
use Rattle.std.specs.List.{AllByRecursion}
use Rattle.cad_rows.specs.Limits.{IsNumber, IsLabel}
use Rattle.cad_rows.specs.declared.edits.Edit.TheVariants.{Enclose}
use Rattle.cad_rows.specs.declared.names.Face.{Face}
use Rattle.cad_map.specs.Map.{Map}
use Rattle.cad_map.specs.Chain.{start_of, strings_along}
use Rattle.cad_map.specs.Valid.{EachPair}
use Rattle.cad_map.specs.Refusals.{first_refusal}
use Rattle.cad_map.proofs.CallerLemmas.{allowed, can-enclose, numbers-strings_along, pairs-from_distinct, CanEnclose, whole_valid}
use Rattle.cad_edit.proofs.StringRows.{free-numbers}
use Rattle.cad_edit.proofs.edits.enclose.enclose.Goals as goal

can : (m : Map) (face : Face) (points strings : List ℕ) (parcel : ℕ) (label : List ℕ) (source : ℕ) → AllByRecursion IsNumber strings × IsNumber parcel × IsLabel label → first_refusal m (Enclose face points strings parcel label source) ≡ None
    → CanEnclose m face points strings parcel label source
can m face points strings parcel label source given none = can-enclose m face points strings parcel label source given (allowed m (Enclose face points strings parcel label source) none)

-- a closed chain has one point more
closed-length : (points : List ℕ) (a : ℕ) → length (points ++ a ∷ []) ≡ length points + 1
closed-length [] a = refl
closed-length (p ∷ points) a = let e = closed-length points a in omega (arith, e)

pub enclosed_boundaries-requires-clause-whole : goal.enclosed_boundaries-requires-clause-whole
enclosed_boundaries-requires-clause-whole c = whole_valid c.args.map.now c.requires.valid

pub enclosed_boundaries-requires-clause-long : goal.enclosed_boundaries-requires-clause-long
enclosed_boundaries-requires-clause-long c = let long = (can c.args.map.now c.args.face c.args.points.now c.args.strings.now c.args.new.now.number c.args.new.now.label.now c.args.new.now.source c.requires.range c.requires.allowed).long in omega (arith, long)

pub closed-requires : goal.closed-requires
closed-requires c = let long = (can c.args.map.now c.args.face c.args.points.now c.args.strings.now c.args.new.now.number c.args.new.now.label.now c.args.new.now.source c.requires.range c.requires.allowed).long in omega (arith, long)

-- there are as many strings as sides of the closed chain
as_many : (points strings : List ℕ) (a : ℕ) → length strings ≡ length points → length strings + 1 ≡ length (points ++ a ∷ [])
as_many points strings a same = let e = closed-length points a in omega (arith, e, same)

pub rows_along-requires : goal.rows_along-requires
rows_along-requires c =
    rw (c.as_slice.ensures.value ∙ c.in_ok-closed.ensures) (as_many c.args.points.now c.args.strings.now (start_of c.args.points.now) (can c.args.map.now c.args.face c.args.points.now c.args.strings.now c.args.new.now.number c.args.new.now.label.now c.args.new.now.source c.requires.range c.requires.allowed).as_many)

pub put_strings-requires-clause-new : goal.put_strings-requires-clause-new
put_strings-requires-clause-new c =
    let k = can c.args.map.now c.args.face c.args.points.now c.args.strings.now c.args.new.now.number c.args.new.now.label.now c.args.new.now.source c.requires.range c.requires.allowed in
    let round = c.args.points.now ++ start_of c.args.points.now ∷ [] in
    let rows = c.as_slice-2.ensures.value ∙ c.in_ok-rows.ensures ∙ ap (strings_along (c.args.new.now.source ∷ []) c.args.strings.now) (c.as_slice.ensures.value ∙ c.in_ok-closed.ensures) in
    rw rows (free-numbers c.args.map.now (strings_along (c.args.new.now.source ∷ []) c.args.strings.now round) c.args.strings.now
    (numbers-strings_along (c.args.new.now.source ∷ []) c.args.strings.now round (as_many c.args.points.now c.args.strings.now (start_of c.args.points.now) k.as_many)) k.rows.strings_new)

pub put_strings-requires-clause-distinct : goal.put_strings-requires-clause-distinct
put_strings-requires-clause-distinct c =
    let k = can c.args.map.now c.args.face c.args.points.now c.args.strings.now c.args.new.now.number c.args.new.now.label.now c.args.new.now.source c.requires.range c.requires.allowed in
    let round = c.args.points.now ++ start_of c.args.points.now ∷ [] in
    let rows = c.as_slice-2.ensures.value ∙ c.in_ok-rows.ensures ∙ ap (strings_along (c.args.new.now.source ∷ []) c.args.strings.now) (c.as_slice.ensures.value ∙ c.in_ok-closed.ensures) in
    rw rows (subst (EachPair (λ a b. a ≢ b)) (sym (numbers-strings_along (c.args.new.now.source ∷ []) c.args.strings.now round (as_many c.args.points.now c.args.strings.now (start_of c.args.points.now) k.as_many)))
    (pairs-from_distinct c.args.strings.now k.rows.strings_distinct))

pub put_new_parcel-requires : goal.put_new_parcel-requires
put_new_parcel-requires c = let k = can c.args.map.now c.args.face c.args.points.now c.args.strings.now c.args.new.now.number c.args.new.now.label.now c.args.new.now.source c.requires.range c.requires.allowed in rw c.in_ok-put_strings.ensures k.rows.parcel_new
