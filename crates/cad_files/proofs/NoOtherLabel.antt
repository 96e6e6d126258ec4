-- In a valid map the follower of each side has the side's face.
use Rattle.std.proofs.Common.{◌≡◌, inl, inr, refl, sym, ap, subst, ◌∙◌, List, [], ◌∷◌, map, Option, None, true, not, arith}
use Rattle.std.specs.Prelude.{◌&&◌, unwrap_or}
use Rattle.std.specs.List.{Contains, list_any}
use Rattle.cad_rows.specs.declared.names.Face.{Face}
use Rattle.cad_rows.specs.declared.names.Face.TheVariants.{Outside}
use Rattle.cad_rows.specs.declared.rows.StringRow.{StringRow}
use Rattle.cad_rings.specs.Cycle.{Side, is_side, opposite}
use Rattle.cad_map.specs.Boundaries.{is_face}
use Rattle.cad_map.specs.Map.{Map, all_sides, face_at, side_of, string_sides}
use Rattle.cad_map.specs.Valid.{IsValid}
use Rattle.cad_map.proofs.CallerLemmas.{Contains-cases, Contains-map, list_any-Contains, is_face-refl, side_behind, is_side-refl, find-nothing, map-Contains, in_all, of_string, both_sides}
use Rattle.cad_files.specs.Follower.{followers, LabelledSide, labelled_sides}
use Rattle.cad_files.specs.Building.{map_of, rows_of, plan_string_of, keeps_face, other_label}
use Rattle.cad_files.proofs.RingCorners.{behind-in_all, same_face}
use Rattle.cad_files.proofs.MapAgain.{same_followers}
use Rattle.cad_files.proofs.NoBadCorner.{plan_sides, follower_of}

-- the face of a side in a plan of the map
abbrev told : Map → Side → Face
told m s = unwrap_or (face_at m s) Outside

-- each side of the plan has the face that is told of it
told-label : (m : Map) (strings : List StringRow) (t : LabelledSide) → Contains (labelled_sides (map (plan_string_of m) strings)) t → t.face ≡ told m t.side
told-label m [] t h = let low = h.1 in absurd (omega (arith, low))
told-label m (s ∷ strings) t h =
    let first : LabelledSide = record { side = side_of s; string = s.number; face = told m (side_of s) } in
    let second : LabelledSide = record { side = opposite (side_of s); string = s.number; face = told m (opposite (side_of s)) } in
    let rest = labelled_sides (map (plan_string_of m) strings) in
    elim (Contains-cases first (second ∷ rest) t h) [
      | inl same ↦ subst (λ (u : LabelledSide). u.face ≡ told m u.side) same refl
      | inr later ↦ elim (Contains-cases second rest t later) [
        | inl same ↦ subst (λ (u : LabelledSide). u.face ≡ told m u.side) same refl
        | inr more ↦ told-label m strings t more
      ]
    ]

module _ (m : Map) (valid : IsValid m) where
  abbrev sides : List LabelledSide
  sides = labelled_sides (map (plan_string_of m) m.strings)

  -- a side of a string is one of the plan's
  labelled : (s : Side) → Contains (string_sides m) s → (t : LabelledSide) × Contains sides t × (t.side ≡ s)
  labelled s h = map-Contains (λ (t : LabelledSide). t.side) sides s (subst (λ (l : List Side). Contains l s) (sym (plan_sides m m.strings)) h)

  in_strings : (s : Side) → Contains (all_sides m) s → Contains (string_sides m) s
  in_strings s h =
      let k = of_string m valid s h in
      let both = both_sides m k.string k.there in
      elim k.is [ inl e ↦ subst (Contains (string_sides m)) (sym e) both.0 | inr e ↦ subst (Contains (string_sides m)) (sym e) both.1 ]

  -- the side behind it is its follower, and has its face
  keeps : (s : LabelledSide) → Contains sides s → Contains (all_sides m) s.side → keeps_face m sides s ≡ true
  keeps s there h =
      let c = follower_of m valid s.side h in
      let next = labelled (side_behind c.0) (in_strings (side_behind c.0) (behind-in_all m valid c.0 c.1)) in
      let t = next.0 in
      let faces : s.face ≡ t.face = told-label m m.strings s there ∙ ap (told m) (sym c.2) ∙ ap (λ (o : Option Face). unwrap_or o Outside) (same_face m valid c.0 c.1) ∙ ap (told m) (sym next.2) ∙ sym (told-label m m.strings t next.1) in
      let side : (s.side.1, c.0.after) ≡ t.side = ap (λ (r : Side). (r.1, c.0.after)) (sym c.2) ∙ sym next.2 in
      list_any-Contains (λ t. list_any (λ w. is_side (s.side.1, w) t.side) (followers m s.side) && is_face s.face t.face) sides t next.1
      (rw (
        c.3,
        ap (λ (r : Side). is_side r t.side) side ∙ is_side-refl t.side,
        ap (λ (f : Face). is_face f t.face) faces ∙ is_face-refl t.face,
      ) refl)

  pub no_other_label : other_label (map_of (rows_of m)) (map (plan_string_of m) m.strings) ≡ None
  unfolding other_label
  no_other_label =
      rw (find-nothing (λ s. not (keeps_face (map_of (rows_of m)) sides s)) sides (λ s h.
      let side = subst (λ (l : List Side). Contains l s.side) (plan_sides m m.strings) (Contains-map (λ (t : LabelledSide). t.side) sides s h) in
      let same : keeps_face (map_of (rows_of m)) sides s ≡ keeps_face m sides s =
      λ i. list_any (λ t. list_any (λ w. is_side (s.side.1, w) t.side) (same_followers m s.side i) && is_face s.face t.face) sides in
      ap not (same ∙ keeps s h (in_all m valid s.side side)))) refl
