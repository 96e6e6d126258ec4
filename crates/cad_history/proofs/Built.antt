-- The map that is shown is the opened one with the standing edits applied in order.
use Rattle.std.proofs.Common.{◌≡◌, ℕ, zero, suc, ◌+◌, List, [], ◌∷◌, length, take, slice_get, Some, refl, sym, ap, ◌∙◌, subst, arith}
use Rattle.std.proofs.lemmas.Option.{same_Some}
use Rattle.cad_rows.specs.declared.edits.Edit.{Edit}
use Rattle.cad_map.specs.Map.{Map}
use Rattle.cad_map.specs.Outcome.{LeadsTo}
use Rattle.cad_history.specs.History.{History, IsHistory, opened, shown_map, standing, LeadAlong}

-- each map leads to the next by its edit
Chain : List Map → List Edit → Type 0
Chain maps edits = (i : ℕ) (e : Edit) (b a : Map) → slice_get edits i ≡ Some e → slice_get maps i ≡ Some b → slice_get maps (i + 1) ≡ Some a → LeadsTo b e a

-- from the first map, the first k edits lead to the k-th
built_to : (k : ℕ) (m : Map) (maps : List Map) (edits : List Edit) (a : Map) → Chain (m ∷ maps) edits → length maps ≡ length edits → slice_get (m ∷ maps) k ≡ Some a → LeadAlong m (take k edits) a
unfolding Chain
built_to zero m maps edits a chain same at = sym (same_Some _ _ at)
built_to (suc k) m [] edits a chain same at = absurd (cc)
built_to (suc k) m (n ∷ maps) [] a chain same at = absurd (omega arith)
built_to (suc k) m (n ∷ maps) (e ∷ edits) a chain same at =
    let first : LeadsTo m e n = chain 0 e m n refl refl refl in
    (n, first, built_to k n maps edits a (λ i f b d p q r. let next : suc i + 1 ≡ suc (i + 1) = omega arith in chain (suc i) f b d p q (ap (slice_get (m ∷ n ∷ maps)) next ∙ r)) (omega arith) at)

built_from : (maps : List Map) (edits : List Edit) (k : ℕ) (first a : Map) → Chain maps edits → length maps ≡ length edits + 1 → slice_get maps 0 ≡ Some first → slice_get maps k ≡ Some a → LeadAlong first (take k edits) a
built_from [] edits k first a chain same at_first at = absurd (omega arith)
built_from (m ∷ maps) edits k first a chain same at_first at =
    let is_first = same_Some _ _ at_first in
    subst (λ x. LeadAlong x (take k edits) a) is_first (built_to k m maps edits a chain (omega arith) at)

pub built_shown : (h : History) (first a : Map) → IsHistory h → opened h ≡ Some first → shown_map h ≡ Some a → LeadAlong first (standing h) a
unfolding Chain
built_shown h first a is at_first at = built_from h.maps h.edits h.place first a is.each is.one_more at_first at
