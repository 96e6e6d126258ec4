-- The faces of sides where the rings are whole, whether or not the map is valid.
use Rattle.std.proofs.Common.{◌≡◌, ◌≢◌, inl, inr, refl, sym, ap, subst, ◌∙◌, Some}
use Rattle.std.proofs.lemmas.List.Sorted.{IsPermutation-sym, Contains-permutation}
use Rattle.std.specs.List.{Contains}
use Rattle.std.specs.Prelude.{flat_map}
use Rattle.cad_rows.specs.declared.names.Face.{Face}
use Rattle.cad_rows.specs.declared.rows.StringRow.{StringRow}
use Rattle.cad_rings.specs.Cycle.{Side, opposite, sides_of}
use Rattle.cad_map.specs.declared.boundary.Boundary.{Boundary}
use Rattle.cad_map.specs.Map.{Map, side_of, face_at, left_face, right_face, rings_at, all_sides, string_sides}
use Rattle.cad_map.specs.Rings.{HasWholeRings}
use Rattle.cad_map.specs.Views.{HasSide}
use Rattle.cad_map.proofs.CallerLemmas.{All-at_each, Contains-in_part, IsSideOf, one_face, beside, has_side-Contains, string_side, both_sides, first_face-some, once-from_pairs}

module _ (m : Map) (whole : HasWholeRings m) where
  -- a side stands in one ring alone, whose face is found for it
  pub one-ring : (s : Side) (b : Boundary) → Contains m.boundaries b → Contains (sides_of b.ring) s
      → face_at m s ≡ Some b.face
  one-ring s b there has =
      one_face s m.boundaries b (once-from_pairs (all_sides m) whole.once s) there has

  -- the face that has a side is the one at it
  pub face-told : (f : Face) (s : Side) → HasSide m f s → face_at m s ≡ Some f
  face-told f s has =
      let k = beside f s m.boundaries
      (has_side-Contains s (flat_map sides_of (rings_at f m.boundaries)) has) in
      one-ring s k.boundary k.there k.has ∙ ap Some (sym k.face)

  -- and no other face has it
  pub one-face : (f g : Face) (s : Side) → HasSide m f s → HasSide m g s → f ≡ g
  one-face f g s has too =
      let same : Some f ≡ Some g = sym (face-told f s has) ∙ face-told g s too in cc

  -- each side has a face
  pub side-face : (s : Side) → Contains (all_sides m) s
      → (f : Face) × (face_at m s ≡ Some f) × HasSide m f s
  side-face s h =
      let part = Contains-in_part (λ b. sides_of b.ring) m.boundaries s h in
      let is = one-ring s part.0 part.1 part.2 in
      (part.0.face, is, first_face-some s m.boundaries part.0.face is)

  -- each side is one of a string, and both sides of a string are sides of rings
  pub side-string : (s : Side) → Contains (all_sides m) s → IsSideOf s m.strings
  side-string s h =
      string_side m s (Contains-permutation (all_sides m) (string_sides m) s
      (IsPermutation-sym (string_sides m) (all_sides m) whole.v5.once) h)

  pub string-sides : (t : StringRow) → Contains m.strings t
      → Contains (all_sides m) (side_of t) × Contains (all_sides m) (opposite (side_of t))
  string-sides t h =
      let both = both_sides m t h in (
        Contains-permutation (string_sides m) (all_sides m) (side_of t) whole.v5.once both.0,
        Contains-permutation (string_sides m) (all_sides m) (opposite (side_of t)) whole.v5.once
            both.1,
      )

  -- the faces on the two hands of a string differ
  pub faces-differ : (t : StringRow) (f g : Face) → Contains m.strings t → HasSide m f (side_of t)
      → HasSide m g (opposite (side_of t)) → f ≢ g
  faces-differ t f g h left right same =
      All-at_each (λ s. left_face m s ≢ right_face m s) m.strings t whole.v5.two_faces h
      (face-told f (side_of t) left ∙ ap Some same ∙ sym (face-told g (opposite (side_of t)) right))

  -- so no face has a side and its opposite
  pub not-both_hands : (s : Side) (f : Face) → Contains (all_sides m) s → HasSide m f s
      → HasSide m f (opposite s) → ⊥
  not-both_hands s f h has back =
      let k = side-string s h in
      elim k.is [
        | inl e ↦
            faces-differ k.string f f k.there (subst (HasSide m f) e has)
            (subst (λ (t : Side). HasSide m f (opposite t)) e back) refl
        | inr e ↦
            faces-differ k.string f f k.there
            (subst (λ (t : Side). HasSide m f (opposite t)) e back)
            (subst (HasSide m f) e has) refl
      ]
