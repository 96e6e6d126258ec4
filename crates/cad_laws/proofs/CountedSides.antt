-- The sides of rings that each edit changes or hands over, at least.
use Rattle.std.proofs.Common.{◌≡◌, ℕ, ◌≤◌, refl, sym, ap, subst, ◌∙◌, List, [], ◌∷◌, length, filter, not, ◌==◌, ◌&&◌, Bool, true, false, true≢false, Option, None, is_some, arith}
use Rattle.std.proofs.lemmas.Bool.{eqb-true}
use Rattle.std.proofs.lemmas.List.Sums.{sum_by-cons}
use Rattle.std.proofs.lemmas.Slice.Eq.{bytes_eq-Decides}
use Rattle.std.specs.Prelude.{sum_by, IsTrue}
use Rattle.std.specs.List.{AllByRecursion, Contains}
use Rattle.std.specs.Str.{bytes_eq as is_same_list}
use Rattle.cad_rows.specs.declared.edits.Edit.{Edit}
use Rattle.cad_rows.specs.declared.edits.Edit.TheVariants.{AddSource, AddPoint, DropPoint, Split, Join, Divide, Merge, Move, Attach, Detach, Rename, Enclose}
use Rattle.cad_rows.specs.declared.names.Face.{Face}
use Rattle.cad_rows.specs.declared.names.Face.TheVariants.{Parcel}
use Rattle.cad_rows.specs.declared.rows.ParcelRow.{ParcelRow}
use Rattle.cad_rows.specs.declared.rows.PointRow.{PointRow}
use Rattle.cad_map.specs.declared.boundary.Boundary.{Boundary}
use Rattle.cad_map.specs.Asked.{GivesInRange}
use Rattle.cad_map.specs.Boundaries.{is_face}
use Rattle.cad_map.specs.Costs.{has_boundary, sides_missing, sides_changed}
use Rattle.cad_map.specs.Effects.{after}
use Rattle.cad_map.specs.Map.{Map, has_face, has_point, parcel_of}
use Rattle.cad_map.specs.Refusals.{first_refusal}
use Rattle.cad_map.specs.Valid.{IsValid, HasSoundRows}
use Rattle.cad_map.proofs.CallerLemmas.{allowed, free-split, can-divide, can-enclose, list_any-none, All-at_each, Contains-first, Contains-later, is_face-same, kept, list_any-found}
use Rattle.cad_laws.specs.Counts.{sides_where, sides_of_face, sides_through, sides_by}
use Rattle.cad_laws.specs.Touching.{passes}
use Rattle.cad_laws.proofs.Elsewhere.{none-without}
use Rattle.cad_laws.proofs.NamedParcels.{of-parcels}

-- ---- Lists

-- what passes one test passes the other
sum-passing : {X : Type 0} (f : X → ℕ) (p q : X → Bool) (xs : List X)
    → ((x : X) → Contains xs x → p x ≡ true → q x ≡ true)
    → sum_by f (filter p xs) ≤ sum_by f (filter q xs)
sum-passing f p q [] each = omega arith
sum-passing {X} f p q (x ∷ xs) each =
    by (p x) (q x) refl refl (sum-passing f p q xs (λ y h. each y (Contains-later x xs y h)))
  where
    by : (a b : Bool) → p x ≡ a → q x ≡ b
        → sum_by f (filter p xs) ≤ sum_by f (filter q xs)
        → sum_by f (filter p (x ∷ xs)) ≤ sum_by f (filter q (x ∷ xs))
    by true true is it rest =
        let one = sum_by-cons f x (filter p xs) in
        let two = sum_by-cons f x (filter q xs) in
        rw (is, it) (omega (arith, rest, one, two))
    by false true is it rest =
        let two = sum_by-cons f x (filter q xs) in
        rw (is, it) (omega (arith, rest, two))
    by false false is it rest = rw (is, it) rest
    by true false is it rest =
        absurd (true≢false (sym (each x (Contains-first x xs) is) ∙ it))

both : (a b : Bool) → (a && b) ≡ true → (a ≡ true) × (b ≡ true)
both true true h = (refl, refl)
both true false h = cc
both false b h = cc

-- ---- Boundaries that another map hasn't

-- the same ring in the same face is the same boundary
same-boundary : (b c : Boundary) → (is_face c.face b.face && is_same_list c.ring b.ring) ≡ true
    → c ≡ b
same-boundary b c h =
    let parts = both (is_face c.face b.face) (is_same_list c.ring b.ring) h in
    let face = is_face-same c.face b.face parts.0 in
    let ring = (bytes_eq-Decides c.ring b.ring).0 parts.1 in
    λ i. record { face = face i; ring = ring i }

-- what isn't one of a map's boundaries is missing there
pub not-there : (new : Map) (b : Boundary) → (Contains new.boundaries b → ⊥)
    → has_boundary new b ≡ false
not-there new b none =
    list_any-none (λ c. is_face c.face b.face && is_same_list c.ring b.ring) new.boundaries (λ c h.
    by c h (is_face c.face b.face && is_same_list c.ring b.ring) refl)
  where
    by : (c : Boundary) → Contains new.boundaries c → (t : Bool)
        → (is_face c.face b.face && is_same_list c.ring b.ring) ≡ t
        → (is_face c.face b.face && is_same_list c.ring b.ring) ≡ false
    by c h false at = at
    by c h true at = absurd (none (subst (Contains new.boundaries) (same-boundary b c at) h))

sides-missing : (test : Boundary → Bool) (m new : Map)
    → ((b : Boundary) → Contains new.boundaries b → test b ≡ true → ⊥)
    → sides_where test m ≤ sides_missing m new
sides-missing test m new none =
    sum-passing (λ (b : Boundary). length b.ring) test (λ b. not (has_boundary new b)) m.boundaries
    (λ b h is. ap not (not-there new b (λ k. none b k is)))

-- a map with sound rows has no ring of a face that isn't there
pub no-face : (m : Map) → HasSoundRows m → (f : Face) → has_face m f ≡ false
    → (b : Boundary) → Contains m.boundaries b → is_face f b.face ≡ true → ⊥
no-face m v1 f none b h is =
    true≢false (sym (All-at_each (λ b. IsTrue (has_face m b.face)) m.boundaries b
    v1.faces_of_rings h) ∙ ap (has_face m) (sym (is_face-same f b.face is)) ∙ none)

-- and none through a point that isn't there
no-point : (m : Map) → HasSoundRows m → (p : ℕ) → has_point m p ≡ false
    → (b : Boundary) → Contains m.boundaries b → passes p b.ring ≡ true → ⊥
no-point m v1 p none b h is =
    let at = list_any-found (λ q. q == p) b.ring is in
    true≢false (sym (All-at_each (λ q. IsTrue (has_point m q)) b.ring at.0
    (All-at_each (λ b. AllByRecursion (λ q. IsTrue (has_point m q)) b.ring) m.boundaries b
    v1.points_of_rings h) at.1) ∙ ap (has_point m) (eqb-true at.0 p at.2) ∙ none)

face-missing : (f : Face) (m new : Map) → HasSoundRows new → has_face new f ≡ false
    → sides_of_face f m ≤ sides_missing m new
face-missing f m new v1 none =
    sides-missing (λ b. is_face f b.face) m new (no-face new v1 f none)

point-missing : (p : ℕ) (m new : Map) → HasSoundRows new → has_point new p ≡ false
    → sides_through p m ≤ sides_missing m new
point-missing p m new v1 none =
    sides-missing (λ b. passes p b.ring) m new (no-point new v1 p none)

-- the sides of a parcel that comes are missing before
new-parcel : (m new : Map) (parcel : ℕ) → HasSoundRows m → parcel_of m parcel ≡ None
    → sides_of_face (Parcel parcel) new ≤ sides_missing new m
new-parcel m new parcel v1 none =
    face-missing (Parcel parcel) new m v1 (ap (λ (o : Option ParcelRow). is_some o) none)

-- ---- Each edit

-- the row of an ended parcel is gone
pub ended-gone : (m : Map) (k n : ℕ)
    → has_face (after m (Merge (Parcel k) (Parcel n))) (Parcel n) ≡ false
unfolding after
ended-gone m k n =
    ap (λ (o : Option ParcelRow). is_some o)
    (none-without (λ (r : ParcelRow). r.number) n m.parcels)

point-gone : (m : Map) (p new : ℕ) → has_point (after m (Join p new)) p ≡ false
unfolding after
point-gone m p new =
    ap (λ (o : Option PointRow). is_some o)
    (none-without (λ (r : PointRow). r.number) p m.points)

pub sides-counted : (m : Map) (e : Edit) → IsValid m → GivesInRange e → first_refusal m e ≡ None
    → sides_by m e ≤ sides_changed m (after m e)
sides-counted m (AddSource s text) v given none = omega arith
sides-counted m (AddPoint p x y) v given none = omega arith
sides-counted m (DropPoint p) v given none = omega arith
sides-counted m (Split s p x y one two) v given none =
    let e = Split s p x y one two in
    let free = free-split m s p x y one two (allowed m e none).taken in
    let few = point-missing p (after m e) m v.sound.v1
    (ap (λ (o : Option PointRow). is_some o) free.0) in
    omega (arith, few)
sides-counted m (Join p new) v given none =
    let e = Join p new in
    let few = point-missing p m (after m e) (kept m e v given none).v1 (point-gone m p new) in
    omega (arith, few)
sides-counted m (Divide face chain strings parcel label source) v given none =
    let e = Divide face chain strings parcel label source in
    let can = can-divide m face chain strings parcel label source given (allowed m e none) in
    let few = new-parcel m (after m e) parcel v.sound.v1 can.rows.parcel_new in
    omega (arith, few)
sides-counted m (Merge k e) v given none =
    let gone =
    of-parcels m (λ k e. has_face (after m (Merge k e)) e ≡ false) (λ a b free. ended-gone m a b) k e
    (allowed m (Merge k e) none) in
    let few = face-missing e m (after m (Merge k e)) (kept m (Merge k e) v given none).v1 gone in
    omega (arith, few)
sides-counted m (Move p x y) v given none = omega arith
sides-counted m (Attach i s) v given none = omega arith
sides-counted m (Detach i s) v given none = omega arith
sides-counted m (Rename p label) v given none = omega arith
sides-counted m (Enclose face points strings parcel label source) v given none =
    let e = Enclose face points strings parcel label source in
    let can = can-enclose m face points strings parcel label source given (allowed m e none) in
    let few = new-parcel m (after m e) parcel v.sound.v1 can.rows.parcel_new in
    omega (arith, few)
