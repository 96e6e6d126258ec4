-- The map of a plan's rows is one, and so is what a plan comes to.
-- Without a fault each side has one follower, so two rings with a side in common are one, two
-- maps of the rows have the same rings, each with the face of its sides, and canonical order does
-- the rest.
use Rattle.std.proofs.Common.{◌≡◌, ◌≢◌, ℕ, zero, suc, ◌+◌, ◌≤◌, inl, inr, refl, sym, ap, subst, ◌∙◌, List, [], ◌∷◌, ◌++◌, length, map, Some, None, true, cond, true≢false, arith}
use Rattle.std.proofs.lemmas.Bool.{eqb-true}
use Rattle.std.proofs.lemmas.List.{take_all}
use Rattle.std.proofs.lemmas.Option.{same_Some}
use Rattle.std.proofs.lemmas.List.Sums.{sum_by-append}
use Rattle.std.proofs.lemmas.List.Sorted.{IsPermutation-refl, IsPermutation-cons, IsPermutation-sym, IsPermutation-trans, IsPermutation-middle, Contains-permutation, sum_by-IsPermutation}
use Rattle.std.specs.Prelude.{IsPermutation, count_by, ◌==◌, get_or}
use Rattle.std.specs.List.{AllByRecursion, Contains}
use Rattle.cad_rows.specs.declared.rows.StringRow.{StringRow}
use Rattle.cad_rings.specs.Canonical.{least_rotation}
use Rattle.cad_rings.specs.Cycle.{Ring, Side, is_side, sides_of, corners_of, opposite, turned}
use Rattle.cad_rings.proofs.CallerLemmas.{IsSameRing-turned, least_rotation-same}
use Rattle.cad_map.specs.declared.boundary.Boundary.{Boundary}
use Rattle.cad_map.specs.Boundaries.{bounding, canonical_form, canonical_order, sides_in}
use Rattle.cad_map.specs.Map.{Map, all_sides, all_corners, face_at, side_of, string_sides}
use Rattle.cad_map.specs.Steps.{steps}
use Rattle.cad_map.specs.Valid.{IsValid, FirstBroken}
use Rattle.cad_map.specs.Walk.{first_side}
use Rattle.cad_map.proofs.CallerLemmas.{All-at_each, All-permuted, Contains-cases, Contains-first, Contains-later, Contains-flat_map, Contains-in_part, Contains-map, HaveDistinctSides, IsWalked, broken-one, canonical_order-permuted, count-some, each_canonical, has_first, is_side-refl, map-canonical_form, none_broken, once-from_pairs, once-in_ring, one_face, parted-at, points_along-ring, round-least, side-place, side_before, sides-before, steps-round, times-flat_map, times-permuted, walked-same}
use Rattle.cad_files.specs.Follower.{followers, labelled_sides}
use Rattle.cad_files.specs.Rows.{Rows}
use Rattle.cad_files.specs.Building.{map_of, first_fault, IsMapOf, IsBuilt, IsBuildFault}
use Rattle.cad_files.specs.Building.IsBuildFault.{at_once, breaking}
use Rattle.cad_files.specs.Plan.{Plan, plan_of, opened, faulty, is_unfinished}
use Rattle.cad_files.specs.PlanMap.{IsPlanOf, IsFaultOf}
use Rattle.cad_files.specs.PlanMap.IsFaultOf.{of_record, of_end, of_rows}
use Rattle.cad_files.specs.declared.faults.PlanFault.{PlanFault}
use Rattle.cad_files.specs.declared.faults.PlanFault.TheVariants.{Breaks}
use Rattle.cad_files.specs.declared.rows.PlanString.{PlanString}
use Rattle.cad_files.proofs.CycleRings.{followers-same, sides-labelled}
use Rattle.cad_files.proofs.CycleSides.{one-each, sides-once}
use Rattle.cad_files.proofs.ValidFacts.{faultless}

-- ---- Rings by steps

module _ (next : Side → Side) (joins : (s : Side) → (next s).0 ≡ s.1) where
  -- two rings along the same steps that begin with one side are one list
  same-list : (K L : Ring) (s : Side) → IsWalked next K → IsWalked next L → first_side K ≡ Some s → first_side L ≡ Some s → K ≡ L
  same-list K L s kw lw k l = by (length K) (length L) refl refl
    where
      by : (q p : ℕ) → length K ≡ q → length L ≡ p → K ≡ L
      by zero p is too = let some = kw.two in absurd (omega (arith, is, some))
      by (suc q) zero is too = let some = lw.two in absurd (omega (arith, too, some))
      by (suc q) (suc p) is too =
          let round_k : steps next (suc q) s ≡ s = ap (λ (n : ℕ). steps next n s) (sym is) ∙ steps-round next joins K s kw k in
          let round_l : steps next (suc p) s ≡ s = ap (λ (n : ℕ). steps next n s) (sym too) ∙ steps-round next joins L s lw l in
          let a = round-least next joins L s lw l q round_k in
          let b = round-least next joins K s kw k p round_l in
          sym (take_all (suc q) K (omega (arith, is))) ∙ sym (points_along-ring next joins K s kw k q (omega (arith, is)))
          ∙ points_along-ring next joins L s lw l q (omega (arith, is, too, a, b)) ∙ take_all (suc q) L (omega (arith, is, too, a, b))

  -- two rings along the same steps with a side in common have one canonical form
  same-form : (r q : Ring) (s : Side) → IsWalked next r → IsWalked next q → Contains (sides_of r) s → Contains (sides_of q) s → least_rotation r ≡ least_rotation q
  same-form r q s rwalk qwalk h k =
      let i = side-place r s h in
      let j = side-place q s k in
      let R = turned i.0 r in
      let Q = turned j.0 q in
      let rs = IsSameRing-turned i.0 r in
      let qs = IsSameRing-turned j.0 q in
      least_rotation-same r R rs ∙ ap least_rotation (same-list R Q s (walked-same next r R rs rwalk) (walked-same next q Q qs qwalk) i.2 j.2) ∙ sym (least_rotation-same q Q qs)

-- ---- Rings that have no side in common

count-first : (s : Side) (b : Boundary) (bs : List Boundary) → count_by (is_side s) (sides_in (b ∷ bs)) ≡ count_by (is_side s) (sides_of b.ring) + count_by (is_side s) (sides_in bs)
count-first s b bs = sum_by-append (λ (t : Side). cond (is_side s t) 1 0) (sides_of b.ring) (sides_in bs)

apart-later : (b : Boundary) (bs : List Boundary) → HaveDistinctSides (b ∷ bs) → HaveDistinctSides bs
apart-later b bs apart = record { two = apart.two.1; once = λ s. let few = apart.once s in let e = count-first s b bs in omega (arith, few, e) }

apart-permuted : (bs cs : List Boundary) → IsPermutation bs cs → HaveDistinctSides bs → HaveDistinctSides cs
apart-permuted bs cs same apart = record {
  two = All-permuted (λ b. 2 ≤ length b.ring) bs cs same apart.two;
  once = λ s.
      let few = apart.once s in
      let old = times-flat_map s (λ (b : Boundary). sides_of b.ring) bs in
      let new = times-flat_map s (λ (b : Boundary). sides_of b.ring) cs in
      let e = sum_by-IsPermutation (λ (b : Boundary). count_by (is_side s) (sides_of b.ring)) bs cs same in
      omega (arith, few, old, new, e);
}

-- the first of them is none of the others
apart-other : (b : Boundary) (bs : List Boundary) → HaveDistinctSides (b ∷ bs) → (c : Boundary) → Contains bs c → b ≢ c
apart-other b bs apart c there same =
    let s = has_first b.ring apart.two.0 in
    let here = count-some (is_side s.0) (sides_of b.ring) s.0 s.2 (is_side-refl s.0) in
    let too = Contains-flat_map (λ (d : Boundary). sides_of d.ring) bs c s.0 there (subst (λ (d : Boundary). Contains (sides_of d.ring) s.0) same s.2) in
    let later = count-some (is_side s.0) (sides_in bs) s.0 too (is_side-refl s.0) in
    let few = apart.once s.0 in
    let e = count-first s.0 b bs in
    absurd (omega (arith, here, later, few, e))

-- those that have the same rings have them in another order
same-rings : (bs cs : List Boundary) → HaveDistinctSides bs → HaveDistinctSides cs → ((b : Boundary) → Contains bs b → Contains cs b) → ((b : Boundary) → Contains cs b → Contains bs b) → IsPermutation bs cs
same-rings [] [] a b into back = IsPermutation-refl []
same-rings [] (c ∷ cs) a b into back = let low = (back c (Contains-first c cs)).1 in absurd (omega arith)
same-rings (x ∷ bs) cs a b into back =
    let at = parted-at cs x (into x (Contains-first x bs)) in
    let rest = at.0 ++ at.1 in
    let moved : IsPermutation cs (x ∷ rest) = subst (λ (l : List Boundary). IsPermutation l (x ∷ rest)) (sym at.2) (IsPermutation-middle at.0 x at.1) in
    let away = apart-permuted cs (x ∷ rest) moved b in
    let inner = same-rings bs rest (apart-later x bs a) (apart-later x rest away)
    (λ c h. elim (Contains-cases x rest c (Contains-permutation cs (x ∷ rest) c moved (into c (Contains-later x bs c h)))) [
      | inl same ↦ absurd (apart-other x bs a c h same)
      | inr later ↦ later
    ])
    (λ c h. elim (Contains-cases x bs c (back c (Contains-permutation (x ∷ rest) cs c (IsPermutation-sym cs (x ∷ rest) moved) (Contains-later x rest c h)))) [
      | inl same ↦ absurd (apart-other x rest away c h same)
      | inr later ↦ later
    ]) in
    IsPermutation-trans (x ∷ bs) (x ∷ rest) cs (IsPermutation-cons x bs rest inner) (IsPermutation-sym cs (x ∷ rest) moved)

-- ---- The rings of a plan's strings

-- the one element of a list of length one
one-only : (ns : List ℕ) (w : ℕ) → (length ns == 1) ≡ true → Contains ns w → get_or ns 0 0 ≡ w
one-only ns w one h = by ns (eqb-true (length ns) 1 one) h
  where
    by : (l : List ℕ) → length l ≡ 1 → Contains l w → get_or l 0 0 ≡ w
    by [] is there = absurd (omega (arith, is))
    by (n ∷ []) is there = elim (Contains-cases n [] w there) [ inl same ↦ same | inr none ↦ let low = none.1 in absurd (omega arith) ]
    by (n ∷ k ∷ l) is there = absurd (omega (arith, is))

module _ (rows : Rows) (none : first_fault rows ≡ None) where
  -- both sides of each string
  abbrev sides : List Side
  sides = map (λ l. l.side) (labelled_sides rows.strings)

  -- the side after a side: on to its follower
  abbrev next : Side → Side
  next s = (s.1, get_or (followers (map_of rows) s) 0 0)

  one-follower : (s : Side) → Contains sides s → (length (followers (map_of rows) s) == 1) ≡ true
  one-follower s h = All-at_each (λ s. (length (followers (map_of rows) s) == 1) ≡ true) sides s (one-each (map_of rows) rows.strings (faultless rows none).corner) h

  module _ (m : Map) (is : IsMapOf rows m) where
    all-sides : IsPermutation sides (all_sides m)
    all-sides =
        let same : string_sides m ≡ sides = ap (λ (l : List StringRow). string_sides (record m { strings = l })) is.rings.rows ∙ sym (sides-labelled rows.strings) in
        subst (λ (l : List Side). IsPermutation l (all_sides m)) same is.rings.once

    apart : HaveDistinctSides m.boundaries
    apart = record {
      two = is.rings.two;
      once = λ s.
          let few = once-from_pairs sides (sides-once (map_of rows) rows.strings (faultless rows none).corner) s in
          let e = times-permuted s sides (all_sides m) all-sides in
          omega (arith, few, e);
    }

    side-there : (b : Boundary) → Contains m.boundaries b → (s : Side) → Contains (sides_of b.ring) s → Contains sides s
    side-there b there s has = Contains-permutation (all_sides m) sides s (IsPermutation-sym sides (all_sides m) all-sides) (Contains-flat_map (λ (d : Boundary). sides_of d.ring) m.boundaries b s there has)

    -- each ring goes from follower to follower
    walked : (b : Boundary) → Contains m.boundaries b → IsWalked next b.ring
    walked b there = record {
      two = All-at_each (λ b. 2 ≤ length b.ring) m.boundaries b is.rings.two there;
      follows = λ c h.
          let two = All-at_each (λ b. 2 ≤ length b.ring) m.boundaries b is.rings.two there in
          let among = Contains-flat_map (λ (d : Boundary). corners_of d.ring) m.boundaries b c there h in
          let follows : Contains (followers m (c.before, c.at)) c.after = All-at_each (λ c. Contains (followers m (c.before, c.at)) c.after) (all_corners m) c is.rings.followers among in
          let has : Contains (sides_of b.ring) (side_before c) = subst (λ (l : List Side). Contains l (side_before c)) (sides-before b.ring two) (Contains-map side_before (corners_of b.ring) c h) in
          let one = one-follower (side_before c) (side-there b there (side_before c) has) in
          let same : followers m (c.before, c.at) ≡ followers (map_of rows) (c.before, c.at) = followers-same m (map_of rows) is.rings.rows is.points (c.before, c.at) in
          λ i. (c.at, one-only (followers (map_of rows) (c.before, c.at)) c.after one (subst (λ (l : List ℕ). Contains l c.after) same follows) i);
      once = let first = has_first b.ring (All-at_each (λ b. 2 ≤ length b.ring) m.boundaries b is.rings.two there) in once-in_ring m.boundaries apart b there first.0 first.1;
    }

    -- the ring that has a side, and its face
    home : (s : Side) → Contains sides s → (b : Boundary) × Contains m.boundaries b × Contains (sides_of b.ring) s × (face_at m s ≡ Some b.face)
    home s h =
        let part = Contains-in_part (λ (b : Boundary). sides_of b.ring) m.boundaries s (Contains-permutation sides (all_sides m) s all-sides h) in
        (part.0, part.1, part.2, one_face s m.boundaries part.0 (apart.once s) part.1 part.2)

    canonical-each : (b : Boundary) → Contains m.boundaries b → canonical_form b ≡ b
    canonical-each b there = All-at_each (λ b. canonical_form b ≡ b) (canonical_order m.boundaries) b (each_canonical m.boundaries) (subst (λ (l : List Boundary). Contains l b) (sym is.rings.canonical) there)

  abbrev Left : Map → PlanString → Type 0
  Left m t = face_at m (side_of t.row) ≡ Some t.left

  abbrev Right : Map → PlanString → Type 0
  Right m t = face_at m (opposite (side_of t.row)) ≡ Some t.right

  same-faces : (m n : Map) → IsMapOf rows m → IsMapOf rows n → (s : Side) → Contains sides s → face_at m s ≡ face_at n s
  same-faces m n x y s h =
      All-at_each (λ s. face_at m s ≡ face_at n s) sides s (by rows.strings x.rings.left x.rings.right y.rings.left y.rings.right) h
    where
      by : (ts : List PlanString) → AllByRecursion (Left m) ts → AllByRecursion (Right m) ts → AllByRecursion (Left n) ts → AllByRecursion (Right n) ts
          → AllByRecursion (λ s. face_at m s ≡ face_at n s) (map (λ l. l.side) (labelled_sides ts))
      by [] a b c d = tt
      by (t ∷ ts) a b c d = (a.0 ∙ sym c.0, (b.0 ∙ sym d.0, by ts a.1 b.1 c.1 d.1))

  -- a ring of one map is one of the other
  stands-too : (m n : Map) → IsMapOf rows m → IsMapOf rows n → (b : Boundary) → Contains m.boundaries b → Contains n.boundaries b
  stands-too m n x y b there =
      let first = has_first b.ring (All-at_each (λ b. 2 ≤ length b.ring) m.boundaries b x.rings.two there) in
      let s = first.0 in
      let among = side-there m x b there s first.2 in
      let c = home n y s among in
      let face : b.face ≡ c.0.face =
      same_Some b.face c.0.face (sym (one_face s m.boundaries b ((apart m x).once s) there first.2) ∙ same-faces m n x y s among ∙ c.3) in
      let ring = same-form next (λ t. refl) b.ring c.0.ring s (walked m x b there) (walked n y c.0 c.1) first.2 c.2 in
      let form : canonical_form c.0 ≡ canonical_form b = λ i. bounding (sym face i) (sym ring i) in
      subst (Contains n.boundaries) (sym (canonical-each n y c.0 c.1) ∙ form ∙ canonical-each m x b there) c.1

  -- so the two have the same rings
  same-boundaries : (m n : Map) → IsMapOf rows m → IsMapOf rows n → m.boundaries ≡ n.boundaries
  same-boundaries m n x y =
      let shown : (k : Map) → IsMapOf rows k → map canonical_form k.boundaries ≡ k.boundaries =
      λ k z. subst (λ (l : List Boundary). map canonical_form l ≡ l) z.rings.canonical (map-canonical_form (canonical_order k.boundaries) (each_canonical k.boundaries)) in
      let order : IsPermutation m.boundaries n.boundaries = same-rings m.boundaries n.boundaries (apart m x) (apart n y) (stands-too m n x y) (stands-too n m y x) in
      sym x.rings.canonical
      ∙ canonical_order-permuted m.boundaries n.boundaries (subst (λ (l : List Boundary). IsPermutation l (map canonical_form n.boundaries)) (sym (shown m x)) (subst (IsPermutation m.boundaries) (sym (shown n y)) order))
      ∙ y.rings.canonical

  -- rows without a fault are those of one map
  pub one-map : (m n : Map) → IsMapOf rows m → IsMapOf rows n → m ≡ n
  one-map m n x y =
      let strings : m.strings ≡ n.strings = x.rings.rows ∙ sym y.rings.rows in
      let sources : m.sources ≡ n.sources = x.sources ∙ sym y.sources in
      let points : m.points ≡ n.points = x.points ∙ sym y.points in
      let parcels : m.parcels ≡ n.parcels = x.parcels ∙ sym y.parcels in
      let retired : m.retired ≡ n.retired = x.retired ∙ sym y.retired in
      let boundaries = same-boundaries m n x y in
      λ i. record { sources = sources i; points = points i; parcels = parcels i; strings = strings i; retired = retired i; boundaries = boundaries i }

-- ---- What a plan comes to

one-built : (rows : Rows) (m n : Map) → IsBuilt rows m → IsBuilt rows n → m ≡ n
one-built rows m n x y = one-map rows x.faultless m n x.is y.is

built-no_fault : (rows : Rows) (m : Map) (fault : PlanFault) → IsBuilt rows m → ¬ IsBuildFault rows fault
built-no_fault rows m fault built (at_once is) = let never : None ≡ Some fault = sym built.faultless ∙ is in absurd (cc)
built-no_fault rows m fault built (breaking {m = n} {rule} none of broken) =
    none_broken n rule (subst IsValid (one-map rows none m n built.is of) built.valid) broken

one-fault : (rows : Rows) (f g : PlanFault) → IsBuildFault rows f → IsBuildFault rows g → f ≡ g
one-fault rows f g (at_once is) (at_once too) = same_Some f g (sym is ∙ too)
one-fault rows f g (at_once is) (breaking none of broken) = let never : None ≡ Some f = sym none ∙ is in absurd (cc)
one-fault rows f g (breaking none of broken) (at_once is) = let never : None ≡ Some g = sym none ∙ is in absurd (cc)
one-fault rows f g (breaking {m} {rule} none of broken) (breaking {m = n} {rule = other} none' of' broken') =
    ap Breaks (broken-one n rule other (subst (λ (k : Map). FirstBroken k rule) (one-map rows none m n of of') broken) broken')

-- an open plan isn't unfinished
not-open : (plan : Plan) (rows : Rows) → plan ≡ opened rows → is_unfinished plan ≡ true → ⊥
not-open plan rows is unfinished = true≢false (sym unfinished ∙ ap is_unfinished is)

not-faulty : (plan : Plan) (f : PlanFault) → plan ≡ faulty f → is_unfinished plan ≡ true → ⊥
not-faulty plan f is unfinished = true≢false (sym unfinished ∙ ap is_unfinished is)

same-rows : (r s : Rows) → opened r ≡ opened s → r ≡ s
same-rows r s same = cc

-- records are a plan of one map
pub one-plan : (records : List (List (List ℕ))) (m n : Map) → IsPlanOf records m → IsPlanOf records n → m ≡ n
one-plan records m n x y = one-built y.rows m n (subst (λ (r : Rows). IsBuilt r m) (same-rows x.rows y.rows (sym x.opens ∙ y.opens)) x.built) y.built

-- or of none, where they have a fault
pub plan-no_fault : (records : List (List (List ℕ))) (m : Map) (f : PlanFault) → IsPlanOf records m → ¬ IsFaultOf records f
plan-no_fault records m f x (of_record is) = let never : opened x.rows ≡ faulty f = sym x.opens ∙ is in absurd (cc)
plan-no_fault records m f x (of_end unfinished) = not-open (plan_of records) x.rows x.opens unfinished
plan-no_fault records m f x (of_rows {rows} opens fault) =
    built-no_fault rows m f (subst (λ (r : Rows). IsBuilt r m) (same-rows x.rows rows (sym x.opens ∙ opens)) x.built) fault

-- they have one fault
pub one-plan_fault : (records : List (List (List ℕ))) (f g : PlanFault) → IsFaultOf records f → IsFaultOf records g → f ≡ g
one-plan_fault records f g (of_record is) (of_record too) = let same : faulty f ≡ faulty g = sym is ∙ too in cc
one-plan_fault records f g (of_record is) (of_end unfinished) = absurd (not-faulty (plan_of records) f is unfinished)
one-plan_fault records f g (of_record is) (of_rows {rows} opens fault) = let never : opened rows ≡ faulty f = sym opens ∙ is in absurd (cc)
one-plan_fault records f g (of_end unfinished) (of_record is) = absurd (not-faulty (plan_of records) g is unfinished)
one-plan_fault records f g (of_end unfinished) (of_end too) = refl
one-plan_fault records f g (of_end unfinished) (of_rows {rows} opens fault) = absurd (not-open (plan_of records) rows opens unfinished)
one-plan_fault records f g (of_rows {rows} opens fault) (of_record is) = let never : opened rows ≡ faulty g = sym opens ∙ is in absurd (cc)
one-plan_fault records f g (of_rows {rows} opens fault) (of_end unfinished) = absurd (not-open (plan_of records) rows opens unfinished)
one-plan_fault records f g (of_rows {rows} opens fault) (of_rows {rows = others} too other) =
    one-fault others f g (subst (λ (r : Rows). IsBuildFault r f) (same-rows rows others (sym opens ∙ too)) fault) other
