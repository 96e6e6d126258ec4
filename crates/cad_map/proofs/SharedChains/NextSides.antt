-- The sides of a valid map, each followed by the next one of its ring, and faces that have their twins.
use Rattle.std.proofs.Common.{◌≡◌, ℕ, refl, sym, ap, subst, ◌∙◌, List, [], ◌∷◌, filter, Option, Some, None, Bool, true, false, true≢false}
use Rattle.std.proofs.lemmas.Option.{same_Some}
use Rattle.std.specs.Prelude.{◌&&◌, IfNone, IsSome}
use Rattle.std.specs.List.{Contains}
use Rattle.cad_rows.specs.declared.names.Face.{Face}
use Rattle.cad_rings.specs.Cycle.{Ring, Side, is_side, has_side, opposite, sides_of}
use Rattle.cad_rings.proofs.CallerLemmas.{is_side-same}
use Rattle.cad_map.specs.declared.boundary.Boundary.{Boundary}
use Rattle.cad_map.specs.Boundaries.{is_face, bounding}
use Rattle.cad_map.specs.Map.{Map, rings_of, all_sides}
use Rattle.cad_map.specs.Valid.{IsValid}
use Rattle.cad_map.specs.Views.{HasSide, IsNoSide, ComesAfter}
use Rattle.cad_map.specs.Steps.{next_side, has_twin_in}
use Rattle.cad_map.proofs.Lists.Elements.{Contains-flat_map}
use Rattle.cad_map.proofs.Boundaries.Looks.{is_face-refl, face-side}
use Rattle.cad_map.proofs.Boundaries.FacesBeside.{is_face-same, face-told, beside, has_side-Contains, Contains-has_side}
use Rattle.cad_map.proofs.Boundaries.RingsOfMap.{whole_valid}
use Rattle.cad_map.proofs.SharedChains.StepsOfRings.{IsWalked}
use Rattle.cad_map.proofs.SharedChains.WholeSides as whole
pub use Rattle.cad_map.proofs.SharedChains.WholeSides.{one_boundary}

module _ (m : Map) (valid : IsValid m) where
  -- where a point comes after a side, the side to it is the next one
  pub next-is : (s : Side) (w : ℕ) → ComesAfter m s w → next_side m s ≡ (s.1, w)
  next-is = whole.next-is m (whole_valid m valid)

  pub ring-walked : (b : Boundary) → Contains m.boundaries b → IsWalked (next_side m) b.ring
  ring-walked = whole.ring-walked m (whole_valid m valid)

  -- the ring of a side has the next one
  pub next-in_all : (s : Side) → Contains (all_sides m) s → Contains (all_sides m) (next_side m s)
  next-in_all = whole.next-in_all m (whole_valid m valid)

  -- and a ring that has the next one has the side
  pub comes_from : (b : Boundary) → Contains m.boundaries b → (s : Side) → Contains (all_sides m) s → Contains (sides_of b.ring) (next_side m s) → Contains (sides_of b.ring) s
  comes_from = whole.comes_from m (whole_valid m valid)

  -- the opposite of a side is one too
  pub opposite-in_all : (s : Side) → Contains (all_sides m) s → Contains (all_sides m) (opposite s)
  opposite-in_all = whole.opposite-in_all m (whole_valid m valid)

  -- ---- A face that has the twin of a side

  -- one of its rings has the opposite
  pub beyond-ring : (f : Face) (s : Side) → has_twin_in m f s ≡ true → (ring : Ring) × Contains m.boundaries (bounding f ring) × Contains (sides_of ring) (opposite s)
  beyond-ring f s beyond =
      let it = beside f (opposite s) m.boundaries (has_side-Contains (opposite s) _ beyond) in
      (it.boundary.ring, subst (Contains m.boundaries) (λ i. bounding (sym it.face i) it.boundary.ring) it.there, it.has)

  pub beyond-from : (f : Face) (s : Side) (ring : Ring) → Contains (rings_of m f) ring → Contains (sides_of ring) (opposite s) → has_twin_in m f s ≡ true
  beyond-from f s ring there has = Contains-has_side (opposite s) _ (Contains-flat_map sides_of (rings_of m f) ring (opposite s) there has)

  -- the face that is told to have the opposite
  pub told-beyond : (f g : Face) (s : Side) → HasSide m g (opposite s) → is_face f g ≡ has_twin_in m f s
  told-beyond f g s has = by (is_face f g) (has_twin_in m f s) refl refl
    where
      by : (a b : Bool) → is_face f g ≡ a → has_twin_in m f s ≡ b → a ≡ b
      by true true same beyond = refl
      by false false same beyond = refl
      by true false same beyond = absurd (true≢false (sym has ∙ ap (λ (h : Face). has_twin_in m h s) (sym (is_face-same f g same)) ∙ beyond))
      by false true same beyond =
          let e = same_Some f g (sym (face-told m valid f (opposite s) beyond) ∙ face-told m valid g (opposite s) has) in
          absurd (true≢false (sym (is_face-refl f) ∙ ap (is_face f) e ∙ same))

  pub untold-beyond : (f : Face) (s : Side) → IsNoSide m (opposite s) → has_twin_in m f s ≡ false
  untold-beyond f s none = by (has_twin_in m f s) refl
    where
      by : (b : Bool) → has_twin_in m f s ≡ b → b ≡ false
      by true beyond = absurd (true≢false (sym (face-side (opposite s) f m.boundaries beyond) ∙ none))
      by false beyond = refl

  -- a point is told to come after a side of the map
  pub some-after : (s : Side) → Contains (all_sides m) s → (o : Option ℕ) → IfNone o (IsNoSide m s) → IsSome o
  some-after s there None none = absurd (true≢false (sym (Contains-has_side s (all_sides m) there) ∙ none))
  some-after s there (Some w) told = refl

-- a side stays among those that pass a test where it is one and passes
pub has_side-filter : (test : Side → Bool) (s : Side) (sides : List Side) → (has_side s sides && test s) ≡ has_side s (filter test sides)
has_side-filter test s [] = refl
has_side-filter test s (t ∷ sides) = by (is_side s t) (test t) refl refl (has_side-filter test s sides)
  where
    and_false : (a : Bool) → (a && false) ≡ false
    and_false true = refl
    and_false false = refl

    by : (a b : Bool) → is_side s t ≡ a → test t ≡ b → (has_side s sides && test s) ≡ has_side s (filter test sides) → (has_side s (t ∷ sides) && test s) ≡ has_side s (filter test (t ∷ sides))
    by true true same passes rest = let passed = ap test (is_side-same s t same) ∙ passes in simp (same, passes, passed) refl
    by true false same fails rest = let failed = ap test (is_side-same s t same) ∙ fails in simp (same, fails, failed) (sym (and_false (has_side s sides)) ∙ ap (λ (b : Bool). has_side s sides && b) (sym failed) ∙ rest)
    by false true other passes rest = simp (other, passes) rest
    by false false other fails rest = simp (other, fails) rest
