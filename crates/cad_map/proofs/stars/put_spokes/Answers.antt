use Rattle.std.proofs.Common.{◌∙◌, ◌≡◌, ◌++◌, [], ◌∷◌, ap, sym, refl, append_assoc, Bool, true, false, not, true≢false, List, if◌then◌else◌}
use Rattle.std.specs.Prelude.{◌==◌}
use Rattle.key_lists.specs.Held.{items_at}
use Rattle.cad_map.specs.declared.stars.Spoke.{Spoke}
use Rattle.cad_map.specs.Stars.{spoke_of, spokes_at, marked_star}
use Rattle.cad_map.proofs.Ends.MarkedStars.{marked_append}
use Rattle.cad_map.proofs.stars.put_spokes.Goals as goal

pub returns-in_ok-put_spoke-2 : goal.returns-in_ok-put_spoke-2
returns-in_ok-put_spoke-2 g c p =
    let m = g.M.MapView.map c.args.map.now in
    let s = c.args.string.now in
    let marks = c.args.marks.now in
    let before : List Spoke = items_at c.args.spokes.now p in
    let a = c.spoke_from.result in
    let b = c.spoke_from-then-ne.result in
    let a-is : Spoke = spoke_of m c.args.place s s.from in
    let b-is : Spoke = spoke_of m c.args.place s s.to in
    let told : a ∷ b ∷ [] ≡ spokes_at m c.args.place s
    = ap (λ (x : Spoke). x ∷ b ∷ []) c.spoke_from.ensures
    ∙ ap (λ (x : Spoke). a-is ∷ x ∷ []) c.spoke_from-then-ne.ensures
    ∙ ap (λ (k : Bool). if k then a-is ∷ [] else (a-is ∷ b-is ∷ [])) (sym (apart (s.from == s.to) refl)) in
    c.in_ok-put_spoke-2.ensures p
    ∙ ap (λ (l : List Spoke). l ++ marked_star marks p (b ∷ [])) (c.in_ok-put_spoke.ensures p)
    ∙ append_assoc before (marked_star marks p (a ∷ [])) (marked_star marks p (b ∷ []))
    ∙ ap (λ (l : List Spoke). before ++ l) (marked_append marks p (a ∷ []) (b ∷ []))
    ∙ ap (λ (l : List Spoke). before ++ marked_star marks p l) told
  where
    apart : (b : Bool) → (c.args.string.now.from == c.args.string.now.to) ≡ b → (c.args.string.now.from == c.args.string.now.to) ≡ false
    apart true is = absurd (true≢false (sym c.if-ne.true ∙ c.ne.ensures ∙ ap not is))
    apart false is = is
