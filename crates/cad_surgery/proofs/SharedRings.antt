-- The ring that two parcels share round an island, as a path of half-edges.
use Rattle.std.proofs.Common.{◌≡◌, ◌≢◌, ◌≤◌, ◌||◌, ℕ, Bool, true, false, true≢false, refl, sym, ap, subst, ◌∙◌, List, [], ◌∷◌, map, filter, length, None, arith}
use Rattle.std.specs.Prelude.{not, IsPermutation, Option, Some, IsFalse, IsSome, IfNone}
use Rattle.std.specs.List.{AllByRecursion, Contains}
use Rattle.std.proofs.lemmas.List.{length-map}
use Rattle.std.proofs.lemmas.List.Sorted.{Contains-permutation, IsPermutation-sym, length_permutation}
use Rattle.cad_rows.specs.declared.edits.Edit.TheVariants.{Merge}
use Rattle.cad_rows.specs.declared.names.Face.{Face}
use Rattle.cad_rows.specs.declared.names.Face.TheVariants.{Parcel}
use Rattle.cad_rows.specs.declared.rows.StringRow.{StringRow}
use Rattle.cad_rings.specs.Cycle.{Ring, Side, has_side, opposite, sides_of, IsSameRing}
use Rattle.cad_rings.proofs.CallerLemmas.{IsSameRing-length, IsSameRing-sym, length-sides_of, sides_of-same}
use Rattle.cad_map.specs.declared.boundary.Boundary.{Boundary}
use Rattle.cad_map.specs.Boundaries.{bounding}
use Rattle.cad_map.specs.Chain.{start_of, next_of}
use Rattle.cad_map.specs.Map.{Map, all_sides, side_of}
use Rattle.cad_map.specs.Merger.{ChainInRings, is_around, is_shared, shared_chains, shared_sides}
use Rattle.cad_map.specs.Merger.ChainInRings.{along, around}
use Rattle.cad_map.specs.Refusals.{first_refusal}
use Rattle.cad_map.specs.Rings.{HasWholeRings}
use Rattle.cad_map.specs.SharedChains.{IsChainOf, IsSharedChain}
use Rattle.cad_map.specs.declared.shared_chain.SharedChain.TheVariants.{Around}
use Rattle.cad_map.specs.Valid.{IsValid}
use Rattle.cad_map.specs.Views.{IsNoSide}
use Rattle.cad_map.proofs.CallerLemmas.{IsChainInRings, IsFound, found, around-back, around-found, has_side-Contains, shared-chain, whole_valid, All-at_each, All-from_each, Contains-flat_map, Contains-has_side, Contains-map, filter-Contains, map-Contains}
use Rattle.cad_map.proofs.Lists.TakenOut.{fills}
use Rattle.half_table.specs.declared.half.Half.{Half}
use Rattle.half_table.specs.Cycle.{holds}
use Rattle.half_table.specs.Half.{backward_of, forward_of}
use Rattle.half_table.specs.Rows.{HalfRows, has, origin_of, cycle}
use Rattle.half_paths.specs.Path.{AreIn, strings_of}
use Rattle.half_paths.specs.Loose.{numbers_of}
use Rattle.cad_laws.specs.Counts.{shared_strings}
use Rattle.cad_laws.specs.Local.{IsShown, side_by}
use Rattle.cad_laws.specs.Tried.{IsTried}
use Rattle.cad_laws.proofs.CallerLemmas.{shared-counted}
use Rattle.map_parts.specs.Fits.{FitRings}
use Rattle.edit_records.specs.HeldChains.{IsOfRing, NamesRings, rings_beside}
use Rattle.map_parts.specs.MergingIsland.{IsMergingIsland}
use Rattle.map_parts.specs.Labels.{IsAlong}
use Rattle.map_parts.specs.Parts.{Parts, FitTogether, HasHalves, map_of, rows_of, kept_at}
use Rattle.map_parts.specs.Paths.{AreAlong}
use Rattle.map_parts.proofs.AlongPaths.{first-of}
use Rattle.map_parts.proofs.MergedChain.{faces-apart}
use Rattle.map_parts.proofs.MergedIsland.{merged-island}
use Rattle.map_parts.proofs.MergedRows as rows_of_merged
use Rattle.map_parts.proofs.MergingIsland as merging
use Rattle.map_parts.proofs.PartsRings.{row-there}
use Rattle.map_parts.proofs.StringRowsPut.{each-left}
use Rattle.map_parts.proofs.ToHalves.{fits}
use Rattle.map_parts.proofs.WholeStrings.{strings-once}
use Rattle.cad_surgery.specs.IslandMergers.{HasSharedRing, HasFoundRing}
use Rattle.cad_surgery.proofs.HalvesRound.{all-shown, leads-round, names-rings, same-round}
use Rattle.cad_surgery.proofs.NamedRings.{named-on, named-once, named-rings}

-- A path that leads back along the chain that two parcels share, with as many halves, has the strings
-- that they share.
module _ (m : Map) (valid : IsValid m) (kept ended : Face) (two : kept ≢ ended) (free : first_refusal m (Merge kept ended) ≡ None)
    (x : ChainInRings) (it : IsChainInRings m kept ended x) (rows : HalfRows) (ends : AllByRecursion (HasHalves rows) m.strings)
    (apart : (g h : Half) → IsShown m g → IsShown m h → side_by rows g ≡ side_by rows h → g ≡ h) (path : List Half) (shown : AllByRecursion (IsShown m) path)
    (leads : (s : Side) → Contains it.chain s → Contains (map (side_by rows) path) (opposite s)) (long : length path ≡ length it.chain) where
  abbrev number : StringRow → ℕ
  number r = r.number

  abbrev shares : List StringRow
  shares = shared_strings m kept ended

  -- the half back along a shared side is on the path
  on-path : (t : Side) → has_side t (shared_sides m kept ended) ≡ true → (g : Half) → IsShown m g → side_by rows g ≡ opposite t → Contains (strings_of path) g.string
  on-path t has g g_shown side =
      let chained = Contains-permutation (shared_sides m kept ended) it.chain t (IsPermutation-sym it.chain (shared_sides m kept ended) (shared-chain m kept ended valid two x it))
      (has_side-Contains t (shared_sides m kept ended) has) in
      let h = map-Contains (side_by rows) path (opposite t) (leads t chained) in
      let same = apart h.0 g (All-at_each (IsShown m) path h.0 shown h.1) g_shown (h.2 ∙ sym side) in
      subst (Contains (strings_of path)) (ap (λ (k : Half). k.string) same) (Contains-map (λ (k : Half). k.string) path h.0 h.1)

  within : (n : ℕ) → Contains (numbers_of shares) n → Contains (strings_of path) n
  within n among =
      let s = map-Contains number shares n among in
      let at = filter-Contains (is_shared m kept ended) m.strings s.0 s.1 in
      let halves = All-at_each (HasHalves rows) m.strings s.0 ends at.0 in
      let there = row-there m.strings s.0 at.0 in
      subst (Contains (strings_of path)) s.2 (by s.0 halves there (has_side (side_of s.0) (shared_sides m kept ended)) refl at.1)
    where
      by : (s : StringRow) → HasHalves rows s → IsShown m (forward_of s.number) → (b : Bool) → has_side (side_of s) (shared_sides m kept ended) ≡ b
          → (has_side (side_of s) (shared_sides m kept ended) || has_side (opposite (side_of s)) (shared_sides m kept ended)) ≡ true → Contains (strings_of path) s.number
      by s halves there true is either = on-path (side_of s) is (backward_of s.number) there (λ i. (halves.to i, halves.from i))
      by s halves there false is either = on-path (opposite (side_of s)) (rw is at either) (forward_of s.number) there (λ i. (halves.from i, halves.to i))

  pub shared-path : IsPermutation (numbers_of shares) (strings_of path)
  shared-path =
      fills (numbers_of shares) (strings_of path) (each-left number (is_shared m kept ended) m.strings valid.sound.v1.strings.distinct) within
      (let a = length-map path (λ (h : Half). h.string) in
      let b = length-map shares number in
      let c = shared-counted m kept ended valid free in
      let d = it.long in
      omega (arith, a, b, c, d, long))

-- ---- Round an island

-- what is said of a ring that two parcels share, and of a chain nothing
abbrev AreRound : Map → Face → Face → ChainInRings → Type 0
AreRound m kept ended (along n k i e j) = Unit {0}
AreRound m kept ended (around k e) =
    Contains m.boundaries (bounding kept k) × Contains m.boundaries (bounding ended e) × (is_around (length (shared_sides m kept ended)) k e ≡ true)

are-round : (m : Map) (valid : IsValid m) (kept ended : Face) (x : ChainInRings) → IsFound m valid kept ended x → AreRound m kept ended x
are-round m valid kept ended x (IsFound.by_round k e k_there e_there is) = (k_there, e_there, is)
are-round m valid kept ended x (IsFound.by_chain k i e j k_there e_there is) = tt

module _ (d : Parts) (fit : FitTogether d) (keeper : Face) (ended : ℕ) (tried : IsTried (map_of d) (Merge keeper (Parcel ended)))
    (k e : Ring) (there : Contains (shared_chains (map_of d) keeper (Parcel ended)) (around k e)) (h : Half) (h_shown : IsShown (map_of d) h)
    (on : Contains (sides_of e) (side_by d.table.rows h)) where
  abbrev m : Map
  m = map_of d

  abbrev rows : HalfRows
  rows = d.table.rows

  abbrev path : List Half
  path = cycle rows h

  abbrev points : Ring
  points = map (origin_of rows) path

  whole : HasWholeRings m
  whole = whole_valid m tried.valid

  rings : FitRings d m.boundaries
  rings = fits d fit (strings-once m whole)

  facts : AreRound m keeper (Parcel ended) (around k e)
  facts = are-round m tried.valid keeper (Parcel ended) (around k e) (found m tried.valid keeper (Parcel ended) (around k e) there)

  abbrev round : IsSameRing points e
  round = same-round d fit whole (Parcel ended) e facts.1 h h_shown on

  around_it : IsChainInRings m keeper (Parcel ended) (around k e)
  around_it = around-found m keeper (Parcel ended) k e facts.0 facts.1 facts.2

  path-long : length path ≡ length (sides_of k)
  path-long =
      sym (length-map path (origin_of rows)) ∙ sym (IsSameRing-length points e round) ∙ sym (length-sides_of e)
      ∙ length_permutation (map opposite (sides_of k)) (sides_of e) (around-back _ k e facts.2) ∙ length-map (sides_of k) opposite

  pub round-strings : IsPermutation (numbers_of (shared_strings m keeper (Parcel ended))) (strings_of path)
  unfolding around_it around-found
  round-strings =
      shared-path m tried.valid keeper (Parcel ended) (faces-apart m keeper (Parcel ended) tried) tried.allowed (around k e) around_it rows rings.ends rings.local.apart path
      (All-from_each (IsShown m) path (all-shown d fit whole (Parcel ended) e facts.1 h h_shown on))
      (λ s chained.
      subst (λ (l : List Side). Contains l (opposite s)) (sym (leads-round d fit whole (Parcel ended) e facts.1 h h_shown on))
      (Contains-permutation (sides_of e) (sides_of points) (opposite s) (sides_of-same e points (IsSameRing-sym points e round)) (around_it.in_ended s chained)))
      path-long

  pub round-is : IsMergingIsland m keeper ended points path
  round-is = record {
    tried = tried;
    kept_ring = k;
    ended_ring = e;
    there = there;
    leads = round;
    taken = merged-island m keeper (Parcel ended) points k e tried there round;
    shared = round-strings;
  }

  -- the first of them is the half itself
  first-is : side_by rows h ≡ (start_of points, next_of points)
  first-is = by points (merging.long m keeper ended points path round-is) (leads-round d fit whole (Parcel ended) e facts.1 h h_shown on)
    where
      by : (ps : Ring) → 2 ≤ length ps → AreAlong rows path (sides_of ps) → side_by rows h ≡ (start_of ps, next_of ps)
      by [] low sides = absurd (omega (arith, low))
      by (a ∷ []) low sides = absurd (omega (arith, low))
      by (a ∷ b ∷ ps) low sides = first-of sides

  module _ (moved : List Half) (moved_is : moved ≡ filter (λ g. not (holds path g)) (kept_at d (Parcel ended))) where
    abbrev named : NamesRings m moved (rings_beside m (Parcel ended) (side_by rows h))
    named = names-rings d fit whole (Parcel ended) e facts.1 h h_shown on moved moved_is

    pub has-ring : HasSharedRing m rows keeper ended path moved
    unfolding round-is
    has-ring =
        let law = round-is.taken.1 in
        let right = bounding keeper k in
        let led = λ (b : Boundary) (among : Contains round-is.taken.0 b) (g : Half) (it : IsOfRing m b g). named-on m rows rings.ends b g it in
        record {
          points = points;
          is = round-is;
          along = leads-round d fit whole (Parcel ended) e facts.1 h h_shown on;
          moved_are =
              named-rings m whole (Parcel ended) (bounding (Parcel ended) e) right round-is.taken.0 law.were refl (faces-apart m keeper (Parcel ended) tried) (side_by rows h) on rows led moved named;
          once = named-once m whole (Parcel ended) (bounding (Parcel ended) e) right round-is.taken.0 law.were refl (faces-apart m keeper (Parcel ended) tried) (side_by rows h) on rows led moved named;
          named = subst (λ (t : Side). NamesRings m moved (rings_beside m (Parcel ended) t)) first-is named;
        }

  -- by what is at hand
  found-ring : (p : List Half) → p ≡ path → (own : List Half) → own ≡ kept_at d (Parcel ended) → (moved : List Half)
      → moved ≡ filter (λ g. not (holds p g)) own → HasSharedRing m rows keeper ended p moved
  found-ring p p_is own own_is moved is =
      subst (λ (l : List Half). HasSharedRing m rows keeper ended l moved) (sym p_is) (has-ring moved (is ∙ (λ i. filter (λ g. not (holds (p_is i) g)) (own_is i))))

-- ---- By a side of the kept parcel's ring

module _ (m : Map) (valid : IsValid m) (kept ended : Face) (side : Side) (told : IsSharedChain m kept ended (Around side)) where
  the-ring : (k : Ring) × (e : Ring) × Contains (shared_chains m kept ended) (around k e) × Contains (sides_of k) side
  the-ring = by told.shared_chain told.there told.is
    where
      by : (x : ChainInRings) → Contains (shared_chains m kept ended) x → IsChainOf x (Around side)
          → (k : Ring) × (e : Ring) × Contains (shared_chains m kept ended) (around k e) × Contains (sides_of k) side
      by (around k e) there on = (k, e, there, on)
      by (along n k i e j) there never = absurd never

  is-round : AreRound m kept ended (around the-ring.0 the-ring.1)
  is-round = are-round m valid kept ended (around the-ring.0 the-ring.1) (found m valid kept ended (around the-ring.0 the-ring.1) the-ring.2)

  -- the ended parcel has the opposite side
  back-on : Contains (sides_of the-ring.1) (opposite side)
  back-on =
      Contains-permutation (map opposite (sides_of the-ring.0)) (sides_of the-ring.1) (opposite side) (around-back _ the-ring.0 the-ring.1 is-round.2)
      (Contains-map opposite (sides_of the-ring.0) side the-ring.3)

  pub some-half : (o : Option Half) → IfNone o (IsNoSide m (opposite side)) → IsSome o
  some-half (Some h) none = refl
  some-half None none =
      absurd (true≢false (sym (Contains-has_side (opposite side) (all_sides m)
      (Contains-flat_map (λ (b : Boundary). sides_of b.ring) m.boundaries (bounding ended the-ring.1) (opposite side) is-round.1 back-on)) ∙ is_no none))
    where
      is_no : {b : Bool} → IsFalse b → b ≡ false
      is_no h = h

module _ (d : Parts) (fit : FitTogether d) (keeper : Face) (ended : ℕ) (tried : IsTried (map_of d) (Merge keeper (Parcel ended)))
    (side : Side) (told : IsSharedChain (map_of d) keeper (Parcel ended) (Around side)) (h : Half) (h_along : IsAlong (rows_of d) d.table.rows (opposite side) h) where
  abbrev ring : (k : Ring) × (e : Ring) × Contains (shared_chains (map_of d) keeper (Parcel ended)) (around k e) × Contains (sides_of k) side
  ring = the-ring (map_of d) tried.valid keeper (Parcel ended) side told

  on-it : Contains (sides_of ring.1) (side_by d.table.rows h)
  on-it = subst (Contains (sides_of ring.1)) (sym h_along.side) (back-on (map_of d) tried.valid keeper (Parcel ended) side told)

  -- its halves are in the table
  pub ring-in : AreIn d.table.rows (cycle d.table.rows h)
  ring-in =
      rows_of_merged.within (map_of d) keeper ended (cycle d.table.rows h) tried (round-strings d fit keeper ended tried ring.0 ring.1 ring.2 h h_along.shown on-it) d.table.rows fit.ends

  -- and what the merger goes by
  pub ring-found : (p : List Half) → p ≡ cycle d.table.rows h → (own : List Half) → own ≡ kept_at d (Parcel ended) → (moved : List Half)
      → moved ≡ filter (λ g. not (holds p g)) own → (origins : List ℕ) → origins ≡ map (origin_of d.table.rows) p → HasFoundRing (map_of d) d.table.rows keeper ended p origins moved
  ring-found p p_is own own_is moved is origins origins_are = record {
    merger = found-ring d fit keeper ended tried ring.0 ring.1 ring.2 h h_along.shown on-it p p_is own own_is moved is;
    points_are = origins_are;
  }
