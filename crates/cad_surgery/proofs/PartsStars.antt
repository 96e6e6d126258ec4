-- What the stars tell of the sides of the map.
use Rattle.std.proofs.Common.{◌≡◌, ℕ, ◌==◌, Bool, true, false, List, [], ◌∷◌, length, filter, refl, sym, ◌∙◌, subst, arith, Option, Some, None}
use Rattle.std.specs.Prelude.{IfSome, IfNone}
use Rattle.std.specs.List.{Contains}
use Rattle.std.proofs.lemmas.List.Sorted.{length_permutation}
use Rattle.cad_rows.specs.declared.rows.StringRow.{StringRow}
use Rattle.cad_rings.specs.Cycle.{Side, has_side}
use Rattle.cad_map.specs.Map.{is_end, degree, string_of, all_sides}
use Rattle.cad_map.specs.Views.{HasSide, IsNoSide, ComesAfter, HasFaces, HasNoFaces}
use Rattle.cad_map.proofs.CallerLemmas.{find-Contains, has_side-Contains}
use Rattle.half_table.specs.declared.half.Half.{Half}
use Rattle.half_table.specs.Half.{twin, forward_of, backward_of}
use Rattle.half_table.specs.Rows.{HalfRows, has, next, origin_of, face}
use Rattle.key_lists.specs.Held.{items_at}
use Rattle.map_parts.specs.Stars.{spoke, spokes_at}
use Rattle.map_parts.specs.Parts.{Parts, FitTogether, rows_of, map_of}
use Rattle.map_parts.specs.Views.{view_half}
use Rattle.map_parts.specs.Labels.{IsAlong}
use Rattle.map_parts.proofs.StarHalves.{spoke-is, by_ends-some, told-by_ends}
use Rattle.map_parts.proofs.PartsRings.{ends-of, shown-string, half-side, half-corner, side-half}

-- a star has one spoke for each string at its point
pub length-star : (p : ℕ) (strings : List StringRow) → length (spokes_at p strings) ≡ length (filter (λ s. is_end s p) strings)
length-star p [] = refl
length-star p (s ∷ strings) = by (s.from == p) (s.to == p) refl refl (length-star p strings)
  where
    by : (t u : Bool) → (s.from == p) ≡ t → (s.to == p) ≡ u → length (spokes_at p strings) ≡ length (filter (λ s. is_end s p) strings) → length (spokes_at p (s ∷ strings)) ≡ length (filter (λ s. is_end s p) (s ∷ strings))
    by true u is is_to rest = rw is (omega (arith, rest))
    by false true is is_to rest = rw (is, is_to) (omega (arith, rest))
    by false false is is_to rest = rw (is, is_to) rest

module _ (d : Parts) (is : FitTogether d) where
  abbrev rows : HalfRows
  rows = d.table.rows

  -- ---- What is told

  pub star-degree : (p : ℕ) → length (items_at d.stars p) ≡ degree (map_of d) p
  star-degree p = length_permutation (spokes_at p d.strings) (items_at d.stars p) (is.stars p) ∙ length-star p d.strings

  -- a half of a star ends where the star tells
  pub spoke-ends : (p : ℕ) (h : Half) (far : ℕ) → Contains (items_at d.stars p) (spoke h far) → far ≡ origin_of rows (twin h)
  spoke-ends p h far among = sym (spoke-is d is.ends is.two_ends is.stars p (spoke h far) among).far

  pub half-some : (s : Side) (o : Option Half) → o ≡ view_half d s → IfSome o (IsAlong (rows_of d) d.table.rows s)
  half-some s o told = by_ends-some d is.ends is.two_ends is.stars s o told

  pub half-none : (s : Side) (o : Option Half) → o ≡ view_half d s → IfNone o (IsNoSide (map_of d) s)
  half-none s (Some h) told = tt
  half-none s None told = by (has_side s (all_sides (map_of d))) refl
    where
      by : (b : Bool) → has_side s (all_sides (map_of d)) ≡ b → b ≡ false
      by false has = refl
      by true has =
          let it = side-half d is s (has_side-Contains s (all_sides (map_of d)) has) in
          absurd (told-by_ends d is.ends is.two_ends is.stars s it.0 it.1 it.2 (sym told))

  pub along-face : (s : Side) (h : Half) → IsAlong (rows_of d) d.table.rows s h → HasSide (map_of d) (face rows h) s
  along-face s h along = subst (HasSide (map_of d) (face rows h)) along.side (half-side d is h along.shown)

  pub along-after : (s : Side) (h : Half) → IsAlong (rows_of d) d.table.rows s h → ComesAfter (map_of d) s (origin_of rows (twin (next rows h)))
  along-after s h along = subst (λ (t : Side). ComesAfter (map_of d) t (origin_of rows (twin (next rows h)))) along.side (half-corner d is h along.shown)

  -- the faces of a string's halves
  pub string-faces : (n : ℕ) (s : StringRow) → string_of (map_of d) n ≡ Some s → HasFaces (map_of d) n (face rows (forward_of s.number)) (face rows (backward_of s.number))
  string-faces n s found =
      let there = (find-Contains (λ r. r.number == n) d.strings s found).0 in
      let e = ends-of d is s there in
      record {
        string = s;
        there = found;
        on_left = subst (HasSide (map_of d) (face rows (forward_of s.number))) (λ i. (e.from i, e.to i)) (half-side d is (forward_of s.number) (shown-string d is s there true));
        on_right = subst (HasSide (map_of d) (face rows (backward_of s.number))) (λ i. (e.to i, e.from i)) (half-side d is (backward_of s.number) (shown-string d is s there false));
      }

  pub no_string-faces : (n : ℕ) → string_of (map_of d) n ≡ None → HasNoFaces (map_of d) n
  no_string-faces n none left right has = let e : Some has.string ≡ None = sym has.there ∙ none in cc

  -- the halves of a string that is found are in the table
  pub found-there : (n : ℕ) (s : StringRow) → string_of (map_of d) n ≡ Some s → has rows (forward_of s.number) ≡ true
  found-there n s found = (ends-of d is s (find-Contains (λ r. r.number == n) d.strings s found).0).there

  pub found-back : (n : ℕ) (s : StringRow) → string_of (map_of d) n ≡ Some s → has rows (backward_of s.number) ≡ true
  found-back n s found = (ends-of d is s (find-Contains (λ r. r.number == n) d.strings s found).0).back
