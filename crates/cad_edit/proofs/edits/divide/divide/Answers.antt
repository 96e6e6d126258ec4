use Rattle.std.proofs.Common.{◌≡◌, ◌≢◌, ◌∙◌, sym, subst, List, [], ◌∷◌, ℕ, None}
use Rattle.std.specs.List.{AllByRecursion}
use Rattle.std.proofs.lemmas.Option.{same_Some}
use Rattle.cad_rows.specs.Limits.{IsNumber, IsLabel}
use Rattle.cad_rows.specs.declared.edits.Edit.TheVariants.{Divide}
use Rattle.cad_rows.specs.declared.names.Face.{Face}
use Rattle.cad_map.specs.Map.{Map}
use Rattle.cad_map.specs.Chain.{strings_along}
use Rattle.cad_map.specs.Valid.{EachPair}
use Rattle.cad_map.specs.Refusals.{first_refusal}
use Rattle.cad_map.proofs.CallerLemmas.{allowed, can-divide, numbers-strings_along, pairs-from_distinct, chosen, CanDivide, ends-differ, whole_valid}
use Rattle.cad_edit.proofs.StringRows.{free-numbers}
use Rattle.cad_edit.proofs.edits.divide.divide.Goals as goal

can : (m : Map) (face : Face) (chain strings : List ℕ) (parcel : ℕ) (label : List ℕ) (source : ℕ) → AllByRecursion IsNumber strings × IsNumber parcel × IsLabel label → first_refusal m (Divide face chain strings parcel label source) ≡ None
    → CanDivide m face chain strings parcel label source
can m face chain strings parcel label source given none = can-divide m face chain strings parcel label source given (allowed m (Divide face chain strings parcel label source) none)

pub divided_boundaries-requires-clause-whole : goal.divided_boundaries-requires-clause-whole
divided_boundaries-requires-clause-whole c = whole_valid c.args.map.now c.requires.valid

pub divided_boundaries-requires-clause-long : goal.divided_boundaries-requires-clause-long
divided_boundaries-requires-clause-long c = (can c.args.map.now c.args.face c.args.chain.now c.args.strings.now c.args.new.now.number c.args.new.now.label.now c.args.new.now.source c.requires.range c.requires.allowed).long

pub divided_boundaries-requires-clause-apart : goal.divided_boundaries-requires-clause-apart
divided_boundaries-requires-clause-apart c = λ same.
    let m = c.args.map.now in
    let k = can m c.args.face c.args.chain.now c.args.strings.now c.args.new.now.number c.args.new.now.label.now c.args.new.now.source c.requires.range c.requires.allowed in
    let first = chosen m c.args.face _ _ c.args.first.now c.requires.first in
    let last = chosen m c.args.face _ _ c.args.last.now c.requires.last in
    ends-differ m c.requires.valid c.args.face c.args.chain.now c.args.strings.now c.args.new.now.number c.args.new.now.label.now c.args.new.now.source k (sym first.stands ∙ same ∙ last.stands)

pub divided_boundaries-requires-clause-one_ring : goal.divided_boundaries-requires-clause-one_ring
divided_boundaries-requires-clause-one_ring c =
    let k = can c.args.map.now c.args.face c.args.chain.now c.args.strings.now c.args.new.now.number c.args.new.now.label.now c.args.new.now.source c.requires.range c.requires.allowed in
    let first = same_Some k.first c.args.first.now (sym k.at_first ∙ c.requires.first) in
    let last = same_Some k.last c.args.last.now (sym k.at_last ∙ c.requires.last) in
    rw (sym first, sym last) k.one_ring

pub rows_along-requires : goal.rows_along-requires
rows_along-requires c = (can c.args.map.now c.args.face c.args.chain.now c.args.strings.now c.args.new.now.number c.args.new.now.label.now c.args.new.now.source c.requires.range c.requires.allowed).as_many

pub put_strings-requires-clause-new : goal.put_strings-requires-clause-new
put_strings-requires-clause-new c =
    let k = can c.args.map.now c.args.face c.args.chain.now c.args.strings.now c.args.new.now.number c.args.new.now.label.now c.args.new.now.source c.requires.range c.requires.allowed in
    rw (c.as_slice.ensures.value ∙ c.in_ok-rows.ensures) (free-numbers c.args.map.now (strings_along (c.args.new.now.source ∷ []) c.args.strings.now c.args.chain.now) c.args.strings.now (numbers-strings_along (c.args.new.now.source ∷ []) c.args.strings.now c.args.chain.now k.as_many) k.rows.strings_new)

pub put_strings-requires-clause-distinct : goal.put_strings-requires-clause-distinct
put_strings-requires-clause-distinct c =
    let k = can c.args.map.now c.args.face c.args.chain.now c.args.strings.now c.args.new.now.number c.args.new.now.label.now c.args.new.now.source c.requires.range c.requires.allowed in
    rw (c.as_slice.ensures.value ∙ c.in_ok-rows.ensures) (subst (EachPair (λ a b. a ≢ b)) (sym (numbers-strings_along (c.args.new.now.source ∷ []) c.args.strings.now c.args.chain.now k.as_many)) (pairs-from_distinct c.args.strings.now k.rows.strings_distinct))

pub put_new_parcel-requires : goal.put_new_parcel-requires
put_new_parcel-requires c =
    let k = can c.args.map.now c.args.face c.args.chain.now c.args.strings.now c.args.new.now.number c.args.new.now.label.now c.args.new.now.source c.requires.range c.requires.allowed in
    rw c.in_ok-put_strings.ensures k.rows.parcel_new
