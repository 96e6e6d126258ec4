-- The chain that two parcels share, as a path of half-edges.
use Rattle.std.proofs.Common.{◌≡◌, ℕ, ◌+◌, zero, suc, add-one, ◌<◌, ◌≤◌, inl, inr, true, true≢false, false, refl, sym, ap, subst, ◌∙◌, List, [], ◌∷◌, map, filter, length, take, reverse, not, Some, arith}
use Rattle.std.specs.Prelude.{IsPermutation}
use Rattle.std.specs.List.{Contains}
use Rattle.std.proofs.lemmas.List.{append-nil, length-map, length-take-le, reverse-reverse, take-map}
use Rattle.std.proofs.lemmas.List.Sorted.{Contains-permutation, IsPermutation-sym}
use Rattle.cad_rows.specs.declared.edits.Edit.TheVariants.{Merge}
use Rattle.cad_rows.specs.declared.names.Face.{Face}
use Rattle.cad_rows.specs.declared.names.Face.TheVariants.{Parcel}
use Rattle.cad_rings.specs.Cycle.{Ring, Side, opposite, sides_along, sides_of, turned, IsSameRing}
use Rattle.cad_rings.specs.Surgery.{chain_from, sides_of_chain, HaveChainInCommon}
use Rattle.cad_rings.proofs.CallerLemmas.{IsSameRing-length, IsSameRing-sym, IsSameRing-turned, length-turned, sides_of-same}
use Rattle.cad_map.specs.Boundaries.{bounding}
use Rattle.cad_map.specs.Chain.{start_of, next_of, end_of, last_but_one}
use Rattle.cad_map.specs.Map.{Map}
use Rattle.cad_map.specs.Merger.{is_along, shared_chains, shared_sides}
use Rattle.cad_map.specs.Merger.ChainInRings.{along}
use Rattle.cad_map.specs.Rings.{HasWholeRings}
use Rattle.cad_map.specs.Steps.{next_side}
use Rattle.cad_map.specs.Walk.{first_side}
use Rattle.cad_map.proofs.CallerLemmas.{IsChainInRings, IsWalked, along-found, along-passed, common-along, first-is, points_along-ring, ring-walked, walked-same, whole_valid, All-from_each, Contains-first, Contains-later, Contains-cases}
use Rattle.half_table.specs.declared.half.Half.{Half}
use Rattle.half_table.specs.Cycle.{holds}
use Rattle.half_table.specs.Half.{twin}
use Rattle.half_table.specs.Rows.{HalfRows, next, origin_of, cycle}
use Rattle.half_table.proofs.Halves.{twin-twin}
use Rattle.half_paths.specs.Path.{strings_of}
use Rattle.half_paths.specs.Loose.{numbers_of}
use Rattle.cad_laws.specs.Counts.{shared_strings}
use Rattle.cad_laws.specs.Local.{IsShown, side_by}
use Rattle.cad_laws.specs.Tried.{IsTried}
use Rattle.edit_records.specs.HeldChains.{Follows, HeldChain, IsSharedAlong, LeadsAlong, NamesRings, rings_beside}
use Rattle.map_parts.specs.Fits.{FitRings}
use Rattle.map_parts.specs.Merging.{IsMerging}
use Rattle.map_parts.specs.Parts.{Parts, FitTogether, map_of, kept_at}
use Rattle.map_parts.specs.Paths.{AreAlong}
use Rattle.map_parts.proofs.MergedChain.{faces-apart, merged-chain}
use Rattle.map_parts.proofs.ReversedChain.{side-turned}
use Rattle.map_parts.proofs.ToHalves.{fits}
use Rattle.map_parts.proofs.WholeStrings.{strings-once}
use Rattle.cad_surgery.proofs.HalvesRound.{all-shown, leads-round, names-rings, same-round}
use Rattle.cad_surgery.specs.Mergers.{HasFoundPath}
use Rattle.cad_surgery.proofs.DividedBack.{first_side as chain-begins}
use Rattle.cad_surgery.proofs.DividedCrossing.{leads-now}
use Rattle.cad_surgery.proofs.HeldPaths.{path-at-hand, rows-led}
use Rattle.cad_surgery.proofs.SharedRings.{shared-path}

-- the first sides of a ring are those of the chain of its first points
sides-begin : (n a : ℕ) (points : List ℕ) (z : ℕ) → n ≤ length points → take n (sides_along a points z) ≡ sides_of_chain (take (suc n) (a ∷ points))
sides-begin zero a points z within = refl
sides-begin (suc n) a [] z within = absurd (omega (arith, within))
sides-begin (suc n) a (b ∷ points) z within = λ i. (a, b) ∷ sides-begin n b points z (omega (arith, within)) i

ring-begins : (n : ℕ) (ring : Ring) → n < length ring → take n (sides_of ring) ≡ sides_of_chain (take (suc n) ring)
ring-begins n [] within = absurd (omega (arith, within))
ring-begins n (a ∷ points) within = sides-begin n a points a (omega (arith, within))

-- the side with which a ring begins is on it
pub first-there : (ring : Ring) (s : Side) → first_side ring ≡ Some s → Contains (sides_of ring) s
first-there [] s is = let no : true ≡ false = cc in absurd (true≢false no)
first-there (a ∷ []) s is = let e : (a, a) ≡ s = cc in subst (Contains ((a, a) ∷ [])) e (Contains-first (a, a) [])
first-there (a ∷ b ∷ points) s is = let e : (a, b) ≡ s = cc in subst (Contains (sides_of (a ∷ b ∷ points))) e (Contains-first (a, b) (sides_along b points a))

-- and it leads from the first to the second of the points
side-begins : (n : ℕ) (ring : Ring) (s : Side) → first_side ring ≡ Some s → 0 < n → n < length ring
    → (start_of (take (suc n) ring), next_of (take (suc n) ring)) ≡ s
side-begins zero ring s is some within = absurd (omega (arith, some))
side-begins (suc n) [] s is some within = absurd (omega (arith, within))
side-begins (suc n) (a ∷ []) s is some within = absurd (omega (arith, within))
side-begins (suc n) (a ∷ b ∷ points) s is some within = let e : (a, b) ≡ s = cc in e

-- the first of some are some of them
pub take-in : (n : ℕ) (xs : List Half) (x : Half) → Contains (take n xs) x → Contains xs x
take-in zero xs x among = let low = among.1 in absurd (omega (arith, low))
take-in (suc n) [] x among = among
take-in (suc n) (y ∷ xs) x among = elim (Contains-cases y (take n xs) x among) [
  | inl is ↦ subst (Contains (y ∷ xs)) is (Contains-first y xs)
  | inr later ↦ Contains-later y xs x (take-in n xs x later)
]

module _ (d : Parts) (fit : FitTogether d) (keeper : Face) (ended : ℕ) (tried : IsTried (map_of d) (Merge keeper (Parcel ended))) where
  abbrev m : Map
  m = map_of d

  abbrev rows : HalfRows
  rows = d.table.rows

  abbrev n : ℕ
  n = length (shared_sides m keeper (Parcel ended))

  whole : HasWholeRings m
  whole = whole_valid m tried.valid

  rings : FitRings d m.boundaries
  rings = fits d fit (strings-once m whole)

  -- the ended parcel's ring, written from the chain's first side on, and the half along that side
  module _ (k : Ring) (i : ℕ) (e : Ring) (j : ℕ) (k_there : Contains m.boundaries (bounding keeper k)) (e_there : Contains m.boundaries (bounding (Parcel ended) e))
      (is : is_along n (turned i k) (turned j e) ≡ true) (there : Contains (shared_chains m keeper (Parcel ended)) (along n k i e j))
      (h : Half) (h_shown : IsShown m h) (begins : first_side (turned j e) ≡ Some (side_by rows h)) where
    abbrev ring : List Half
    ring = cycle rows h

    abbrev points : Ring
    points = map (origin_of rows) ring

    abbrev path : List Half
    path = take n ring

    abbrev chain : List ℕ
    chain = chain_from j n e

    pub on-ended : Contains (sides_of e) (side_by rows h)
    on-ended =
        Contains-permutation (sides_of (turned j e)) (sides_of e) (side_by rows h)
        (IsPermutation-sym (sides_of e) (sides_of (turned j e)) (sides_of-same e (turned j e) (IsSameRing-turned j e))) (first-there (turned j e) (side_by rows h) begins)

    same : IsSameRing points e
    same = same-round d fit whole (Parcel ended) e e_there h h_shown on-ended

    round : AreAlong rows ring (sides_of points)
    round = leads-round d fit whole (Parcel ended) e e_there h h_shown on-ended

    walked : IsWalked (next_side m) e
    walked = ring-walked m whole (bounding (Parcel ended) e) e_there

    ended_more : n < length (turned j e)
    ended_more = (along-passed n (turned i k) (turned j e) is).more_in_ended

    pub more-round : n < length ring
    more-round =
        let more = ended_more in
        let one = length-turned j e in
        let two = IsSameRing-length points e same in
        let three = length-map ring (origin_of rows) in
        omega (arith, more, one, two, three)

    more_points : n < length points
    more_points = let more = more-round in let long = length-map ring (origin_of rows) in omega (arith, more, long)

    -- the chain's points are the first of the ring
    pub chain-round : chain ≡ take (suc n) points
    chain-round =
        ap (λ (l : ℕ). take l (turned j e)) (add-one n)
        ∙ sym (points_along-ring (next_side m) (λ t. refl) (turned j e) (side_by rows h) (walked-same (next_side m) e (turned j e) (IsSameRing-turned j e) walked) begins n ended_more)
        ∙ points_along-ring (next_side m) (λ t. refl) points (side_by rows h) (walked-same (next_side m) e points (IsSameRing-sym points e same) walked)
        (first-is points (side_by rows h) _ (sym round)) n more_points

    -- the path leads along the chain
    pub leads : AreAlong rows path (sides_of_chain chain)
    leads = sym (take-map (side_by rows) n ring) ∙ ap (take n) round ∙ ring-begins n points more_points ∙ ap sides_of_chain (sym chain-round)

    along_it : IsChainInRings m keeper (Parcel ended) (along n k i e j)
    along_it = along-found m keeper (Parcel ended) k e k_there e_there i j is

    common : HaveChainInCommon i j n k e
    common = common-along n i j k e is

    path-shown : (g : Half) → Contains path g → IsShown m g
    path-shown g among = all-shown d fit whole (Parcel ended) e e_there h h_shown on-ended g (take-in n ring g among)

    path_long : length path ≡ length along_it.chain
    path_long =
        let more = more-round in
        length-take-le n ring (omega (arith, more)) ∙ sym along_it.long

    pub path-strings : IsPermutation (numbers_of (shared_strings m keeper (Parcel ended))) (strings_of path)
    unfolding along_it along-found
    path-strings =
        shared-path m tried.valid keeper (Parcel ended) (faces-apart m keeper (Parcel ended) tried) tried.allowed (along n k i e j) along_it rows rings.ends rings.local.apart path
        (All-from_each (IsShown m) path path-shown)
        (λ s chained.
        subst (λ (l : List Side). Contains l (opposite s)) (sym leads)
        (subst (λ (l : List ℕ). Contains (sides_of_chain l) (opposite s)) (ap reverse common.common ∙ reverse-reverse chain) (side-turned (chain_from i n k) s chained)))
        path_long

    -- the merger goes along it
    pub path-is : IsMerging m keeper ended path
    path-is = record {
      tried = tried;
      sides = n;
      kept_ring = k;
      kept_place = i;
      ended_ring = e;
      ended_place = j;
      there = there;
      taken = merged-chain m keeper (Parcel ended) n k i e j tried there;
      shared = path-strings;
    }

    -- ---- What its record says of the chain

    -- the half with which the ring begins leads along the chain's first side
    pub begins-chain : side_by rows h ≡ (start_of chain, next_of chain)
    begins-chain =
        sym (ap (λ (l : ℕ). (start_of (take l (turned j e)), next_of (take l (turned j e)))) (add-one n)
        ∙ side-begins n (turned j e) (side_by rows h) begins (along-passed n (turned i k) (turned j e) is).some ended_more)

    -- the next of a half follows its side
    follows : (g : Half) → IsShown m g → (s : Side) → side_by rows g ≡ s → Follows m s (next rows g)
    follows g shown s side = subst (λ (t : Side). Follows m t (next rows g)) side (record {
      to = origin_of rows (twin (next rows g));
      along =
          subst (LeadsAlong m (next rows g)) (λ q. (rings.local.meets g shown q, origin_of rows (twin (next rows g))))
          (leads-now d fit m [] (sym (append-nil m.strings)) (next rows g) (rings.local.inside g shown));
      there = rings.local.corners g shown;
    })

    -- the chain's last side, by the first of the kept parcel's along it
    begins-kept : (first : Side) → first_side (turned i k) ≡ Some first → (start_of (chain_from i n k), next_of (chain_from i n k)) ≡ first
    begins-kept first kept_begins =
        ap (λ (l : ℕ). (start_of (take l (turned i k)), next_of (take l (turned i k)))) (add-one n)
        ∙ side-begins n (turned i k) first kept_begins (along-passed n (turned i k) (turned j e) is).some (along-passed n (turned i k) (turned j e) is).more_in_kept

    pub ends-chain : (first : Side) → first_side (turned i k) ≡ Some first → opposite first ≡ (last_but_one chain, end_of chain)
    ends-chain first kept_begins =
        ap opposite (sym (begins-kept first kept_begins)) ∙ ap (λ (l : List ℕ). opposite (start_of l, next_of l)) common.common

    pub ends-there : (first : Side) → first_side (turned i k) ≡ Some first → Contains (sides_of e) (opposite first)
    unfolding along_it along-found
    ends-there first kept_begins =
        along_it.in_ended first
        (subst (Contains (sides_of_chain (chain_from i n k))) (begins-kept first kept_begins)
        (chain-begins (chain_from i n k) (let long = length-take-le (n + 1) (turned i k) (let more = (along-passed n (turned i k) (turned j e) is).more_in_kept in omega (arith, more)) in
        let some = (along-passed n (turned i k) (turned j e) is).some in omega (arith, long, some))))

    -- the half back along the first side
    back-side : side_by rows (twin h) ≡ (next_of chain, start_of chain)
    back-side = (λ q. (origin_of rows (twin h), origin_of rows (twin-twin h q))) ∙ ap opposite begins-chain

    -- the chain is the one that the two share
    path-shared : IsSharedAlong m keeper (Parcel ended) chain
    path-shared = record {
      sides = n;
      kept_ring = k;
      kept_place = i;
      ended_ring = e;
      ended_place = j;
      there = there;
      is = refl;
    }

    module _ (last : Half) (last_shown : IsShown m last) (first : Side) (kept_begins : first_side (turned i k) ≡ Some first) (ends : side_by rows last ≡ opposite first)
        (moved : List Half) (moved_is : moved ≡ filter (λ g. not (holds ring g)) (kept_at d (Parcel ended))) where
      path-held : HeldChain m (Parcel ended) chain (next rows (twin h)) (next rows last) moved
      path-held = record {
        start_is = follows (twin h) h_shown (next_of chain, start_of chain) back-side;
        end_is = follows last last_shown (last_but_one chain, end_of chain) (ends ∙ ends-chain first kept_begins);
        moved_are =
            subst (λ (s : Side). NamesRings m moved (rings_beside m (Parcel ended) s)) begins-chain
            (names-rings d fit whole (Parcel ended) e e_there h h_shown on-ended moved moved_is);
      }

      -- what the merger goes by
      pub path-found : HasFoundPath m rows keeper ended path chain (next rows (twin h)) (next rows last) moved
      unfolding path-is
      path-found = record {
        merger =
            path-at-hand m keeper ended path path-is (next rows (twin h)) (next rows last) moved path-held
            (rows-led m rows rings.ends path path-shown (sides_of_chain chain) leads) rows rings.ends leads;
        along = leads;
        long =
            let more = more-round in
            let points_more = more_points in
            let a = ap length chain-round in
            let b = length-take-le (suc n) points (omega (arith, points_more)) in
            let c = length-take-le n ring (omega (arith, more)) in
            omega (arith, a, b, c);
        shared = path-shared;
        held = path-held;
      }
