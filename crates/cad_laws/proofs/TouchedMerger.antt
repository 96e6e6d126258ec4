-- What a merger touches.
use Rattle.std.proofs.Common.{◌≡◌, ◌≢◌, ℕ, ◌+◌, ◌⊎◌, inl, inr, refl, sym, ap, subst, ◌∙◌, List, [], ◌∷◌, ◌++◌, length, map, filter, Bool, true, false, true≢false, not, Option, None, Some, is_some, arith}
use Rattle.std.proofs.lemmas.List.{append-nil, length-take-le}
use Rattle.std.proofs.lemmas.List.Sorted.{IsPermutation-sym, Contains-permutation}
use Rattle.std.specs.Prelude.{IsTrue, ◌↔◌, ◌||◌, flat_map}
use Rattle.std.specs.List.{Contains}
use Rattle.cad_rows.specs.declared.edits.Edit.TheVariants.{Merge}
use Rattle.cad_rows.specs.declared.names.Face.{Face}
use Rattle.cad_rows.specs.declared.names.Face.TheVariants.{Outside, Parcel}
use Rattle.cad_rows.specs.declared.rows.ParcelRow.{ParcelRow}
use Rattle.cad_rows.specs.declared.rows.StringRow.{StringRow}
use Rattle.cad_rings.specs.Cycle.{Ring, Side, has_side, opposite, turned, Corner}
use Rattle.cad_rings.specs.Surgery.{chain_from}
use Rattle.cad_map.specs.declared.boundary.Boundary.{Boundary}
use Rattle.cad_map.specs.Boundaries.{is_face, bounding}
use Rattle.cad_map.specs.Changes.{merge}
use Rattle.cad_map.specs.Effects.{after}
use Rattle.cad_map.specs.Map.{Map, has_face, is_end, side_of, rings_of}
use Rattle.cad_map.specs.Merger.{ChainInRings, shared_sides, is_shared, shared_chains, is_taken_out, handed_over, boundaries_merged}
use Rattle.cad_map.specs.Merger.ChainInRings.{along, around}
use Rattle.cad_map.specs.Refusals.{first_refusal}
use Rattle.numbered_rows.specs.Rows.{row_with}
use Rattle.cad_map.specs.Touched.{Touched, IsTouched}
use Rattle.cad_map.specs.Valid.{IsValid}
use Rattle.cad_map.proofs.CallerLemmas.{allowed, can-merge, Contains-first, Contains-flat_map, map-Contains, has_side-Contains, is_face-same, filter-append, ends, shared-chain, CanMerge, faces-differ, shared_chain-there, merge-is, none-filter, along-found, around-found, along-passed, IsFound, found}
use Rattle.cad_laws.specs.Parting.{HasCorner, IsMergedBy}
use Rattle.cad_laws.specs.Touching.{touching, points_of_shared_chain, touched_by}
use Rattle.cad_laws.proofs.CornersElsewhere.{chain-ends, ring-ends, corners-parted, corners-island}
use Rattle.cad_laws.proofs.Elsewhere.{one-face, not-face, filter-none, filter-among, filter-changed, rings-elsewhere, none-without}
use Rattle.cad_laws.proofs.MergedCorners.{merged-corners}
use Rattle.cad_laws.proofs.StandsElsewhere.{KeepsPoints, KeepsStrings, stands-elsewhere}
use Rattle.cad_laws.proofs.NamedParcels.{of-parcels}

-- ---- The shared chain's points

module _ (m : Map) (valid : IsValid m) (kept ended : Face) (two : kept ≢ ended) where
  -- the ends of a shared side are points of the shared chain
  shared_chain-ends : (x : ChainInRings) → IsFound m valid kept ended x → (s : Side)
      → Contains (shared_sides m kept ended) s
      → Contains (points_of_shared_chain x) s.0 × Contains (points_of_shared_chain x) s.1
  unfolding along-found around-found
  shared_chain-ends x (IsFound.by_round k e k_there e_there is) s h =
      let it = around-found m kept ended k e k_there e_there is in
      let shared = shared_sides m kept ended in
      ring-ends k s
      (Contains-permutation shared it.chain s
      (IsPermutation-sym it.chain shared (shared-chain m kept ended valid two (around k e) it)) h)
  shared_chain-ends x (IsFound.by_chain k i e j k_there e_there is) s h =
      let it = along-found m kept ended k e k_there e_there i j is in
      let shared = shared_sides m kept ended in
      let n = length shared in
      chain-ends (chain_from i n k) s
      (Contains-permutation shared it.chain s
      (IsPermutation-sym it.chain shared
      (shared-chain m kept ended valid two (along n k i e j) it)) h)

  -- at another point the corners are the same
  shared_chain-corners : (x : ChainInRings) → IsFound m valid kept ended x → (merged : Map)
      → IsMergedBy x merged m → (q : ℕ) → (¬ Contains (points_of_shared_chain x) q) → (c : Corner)
      → c.at ≡ q → HasCorner merged c ↔ HasCorner m c
  shared_chain-corners x (IsFound.by_round k e k_there e_there is) merged it q off c at =
      let k = corners-island merged m k it q off c at in
      (k.1, k.0)
  shared_chain-corners x (IsFound.by_chain k i e j k_there e_there is) merged it q off c at =
      let n = length (shared_sides m kept ended) in
      let passed = along-passed n (turned i k) (turned j e) is in
      let some = passed.some in
      let more = passed.more_in_kept in
      let long = length-take-le (n + 1) (turned i k) (omega (arith, more)) in
      let both =
      corners-parted merged m (chain_from i n k) it.0 it.1 it.2 (omega (arith, long, some)) q off
      c at in
      (both.1, both.0)

-- ---- Two parcels

module _ (m : Map) (k e : ℕ) (valid : IsValid m) (can : CanMerge m k e) where
  abbrev K : Face
  K = Parcel k

  abbrev E : Face
  E = Parcel e

  abbrev made : Map
  made = merge m K E

  abbrev named : Touched
  named = touching (flat_map points_of_shared_chain (shared_chains m K E)) [] (K ∷ [])

  abbrev Any : ℕ → Type 0
  Any q = Unit {0}

  shared_chain-in : Contains (shared_chains m K E) can.shared_chain
  shared_chain-in =
      subst (λ (l : List ChainInRings). Contains l can.shared_chain) (sym can.found)
      (Contains-first can.shared_chain can.others)

  in-named : (q : ℕ) → Contains (points_of_shared_chain can.shared_chain) q → Contains named.points q
  in-named q h = Contains-flat_map points_of_shared_chain (shared_chains m K E) can.shared_chain q shared_chain-in h

  it-found : IsFound m valid K E can.shared_chain
  it-found = found m valid K E can.shared_chain shared_chain-in

  on-points : KeepsPoints m made named valid.sound.v1 Any
  on-points = record { position = λ q known ok. refl; points = λ q known. inr (known, tt) }

  on-strings : KeepsStrings m made named valid.sound.v1 Any
  on-strings = record {
    stays = λ s. not (is_shared m K E s);
    added = [];
    strings = sym (append-nil (filter (λ s. not (is_shared m K E s)) m.strings));
    kept = λ s h is. inr (tt, tt);
    went = λ s h is q end known. went s is q end;
    came = λ s h. let low = h.1 in absurd (omega arith);
  }
    where
      shared : List Side
      shared = shared_sides m K E

      of-side : (s : StringRow) (u : Side) → (u ≡ side_of s) ⊎ (u ≡ opposite (side_of s))
          → has_side u shared ≡ true → (q : ℕ) → is_end s q ≡ true → Contains named.points q
      of-side s u which has q end =
          let k =
          shared_chain-ends m valid K E (faces-differ m k e valid can) can.shared_chain it-found u
          (has_side-Contains u shared has) in
          let from_to : Contains (points_of_shared_chain can.shared_chain) s.from
          × Contains (points_of_shared_chain can.shared_chain) s.to = elim which [
            | inl f ↦
                subst (λ (v : Side).
                Contains (points_of_shared_chain can.shared_chain) v.0 × Contains (points_of_shared_chain can.shared_chain) v.1) f k
            | inr f ↦
                let back =
                subst (λ (v : Side).
                Contains (points_of_shared_chain can.shared_chain) v.0
                × Contains (points_of_shared_chain can.shared_chain) v.1) f k in
                (back.1, back.0)
          ] in
          in-named q (elim (ends s q end) [
            | inl f ↦ subst (Contains (points_of_shared_chain can.shared_chain)) f.0 from_to.0
            | inr f ↦ subst (Contains (points_of_shared_chain can.shared_chain)) f.0 from_to.1
          ])

      went : (s : StringRow) → not (is_shared m K E s) ≡ false → (q : ℕ) → is_end s q ≡ true
          → Contains named.points q
      went s is q end =
          by (has_side (side_of s) shared) (has_side (opposite (side_of s)) shared) refl refl is
        where
          by : (a b : Bool) → has_side (side_of s) shared ≡ a
              → has_side (opposite (side_of s)) shared ≡ b → not (a || b) ≡ false
              → Contains named.points q
          by true b one other h = of-side s (side_of s) (inl refl) one q end
          by false true one other h = of-side s (opposite (side_of s)) (inr refl) other q end
          by false false one other h = absurd (true≢false h)

  -- a face of the new map was there, and isn't the ended one
  face-there : (f : Face) → IsTrue (has_face made f) → IsTrue (has_face m f) × (f ≢ E)
  face-there Outside known = (refl, λ same. cc)
  face-there (Parcel n) known = (
    by (row_with (λ (r : ParcelRow). r.number) n m.parcels) refl,
    λ same. true≢false (sym known ∙ gone same),
  )
    where
      by : (o : Option ParcelRow) → row_with (λ (r : ParcelRow). r.number) n m.parcels ≡ o
          → IsTrue (has_face m (Parcel n))
      by (Some r) is = ap (λ (o : Option ParcelRow). is_some o) is
      by None is =
          absurd (true≢false (sym known ∙ ap (λ (o : Option ParcelRow). is_some o)
          (none-filter (λ (r : ParcelRow). r.number) _ n m.parcels is)))

      gone : Parcel n ≡ E → has_face made (Parcel n) ≡ false
      gone same =
          let number : n ≡ e = cc in
          ap (λ (q : ℕ). has_face made (Parcel q)) number
          ∙ ap (λ (o : Option ParcelRow). is_some o)
          (none-without (λ (r : ParcelRow). r.number) e m.parcels)

  abbrev it_more : List Ring
  it_more = (shared_chain-there m k e valid can).more

  abbrev taken : Boundary → Bool
  taken b = is_taken_out K E (shared_chain-there m k e valid can).k (shared_chain-there m k e valid can).e b

  -- the rings of another face are among those that stay
  rings-merged : (f : Face) → f ≢ K → f ≢ E
      → filter (λ b. is_face f b.face) (boundaries_merged m K E (shared_chain-there m k e valid can).k
      (shared_chain-there m k e valid can).e it_more)
      ≡ filter (λ b. is_face f b.face) m.boundaries
  rings-merged f not_k not_e =
      let own : Boundary → Bool = λ b. is_face f b.face in
      let left = filter (λ (b : Boundary). not (taken b)) m.boundaries in
      filter-append own (map (bounding K) it_more) (map (handed_over K E) left)
      ∙ ap (λ (l : List Boundary). l ++ filter own (map (handed_over K E) left))
      (filter-none own (map (bounding K) it_more) new-ones)
      ∙ filter-changed own (handed_over K E) left keeps out
      ∙ filter-among own (λ b. not (taken b)) m.boundaries stays
    where
      own : Boundary → Bool
      own b = is_face f b.face

      new-ones : (b : Boundary) → Contains (map (bounding K) it_more) b → is_face f b.face ≡ false
      new-ones b h =
          let from = map-Contains (bounding K) it_more b h in
          ap (λ (c : Boundary). is_face f c.face) (sym from.2) ∙ not-face f K not_k

      keeps : (b : Boundary) → Contains (filter (λ (b : Boundary). not (taken b)) m.boundaries) b
          → is_face f b.face ≡ true → handed_over K E b ≡ b
      keeps b h is =
          let other = not-face E b.face (λ same. not_e (is_face-same f b.face is ∙ sym same)) in
          simp other refl

      out : (b : Boundary) → Contains (filter (λ (b : Boundary). not (taken b)) m.boundaries) b
          → is_face f b.face ≡ false → is_face f (handed_over K E b).face ≡ false
      out b h is = by (is_face E b.face) refl
        where
          by : (v : Bool) → is_face E b.face ≡ v → is_face f (handed_over K E b).face ≡ false
          by true same = simp same (not-face f K not_k)
          by false other = simp other is

      stays : (b : Boundary) → Contains m.boundaries b → is_face f b.face ≡ true
          → not (taken b) ≡ true
      stays b h is =
          let same = is_face-same f b.face is in
          let one = not-face K b.face (λ e. not_k (same ∙ sym e)) in
          let other = not-face E b.face (λ e. not_e (same ∙ sym e)) in
          simp (one, other) refl

  touched-merged : IsMergedBy can.shared_chain made m → IsTouched m made named
  touched-merged by_shared_chain =
      stands-elsewhere m made named valid.sound.v1 Any on-points on-strings
      (λ q known off.
      shared_chain-corners m valid K E (faces-differ m k e valid can) can.shared_chain it-found made by_shared_chain q
      (λ h. off (in-named q h))) (λ f known. elim (one-face f K) [
        | inl same ↦ inl (subst (Contains named.faces) (sym same) (Contains-first K []))
        | inr not_k ↦
            let k = face-there f known in
            inr (record {
              there = k.0;
              rings = same-rings f not_k k.1;
              points = λ r there q has. tt;
            })
      ]) tt tt
    where
      same-rings : (f : Face) → f ≢ K → f ≢ E → rings_of made f
          ≡ rings_of m f
      same-rings f not_k not_e =
          ap (λ (n : Map). rings_of n f) (merge-is m k e valid can)
          ∙ rings-elsewhere m valid.sound.v1 f _ (rings-merged f not_k not_e)

pub merged-touched : (m : Map) (kept ended : Face) → IsValid m
    → first_refusal m (Merge kept ended) ≡ None
    → IsTouched m (after m (Merge kept ended)) (touched_by m (Merge kept ended))
unfolding after
merged-touched m kept ended valid none =
    of-parcels m (λ k e. first_refusal m (Merge k e) ≡ None
    → IsTouched m (merge m k e) (touched_by m (Merge k e)))
    (λ k e free at. two-parcels k e at) kept ended (allowed m (Merge kept ended) none) none
  where
    two-parcels : (k e : ℕ) → first_refusal m (Merge (Parcel k) (Parcel e)) ≡ None
        → IsTouched m (merge m (Parcel k) (Parcel e)) (touched_by m (Merge (Parcel k) (Parcel e)))
    two-parcels k e at =
        let can = can-merge m k e (allowed m (Merge (Parcel k) (Parcel e)) at) in
        touched-merged m k e valid can
        (merged-corners m (Parcel k) (Parcel e) can.shared_chain valid at (shared_chain-in m k e valid can))
