-- A merger keeps the rules of numbers and references, that strings have two ends, and that rings are complete.
use Rattle.std.proofs.Common.{◌≡◌, ◌≢◌, ℕ, ◌+◌, ◌≤◌, inl, inr, refl, sym, ap, subst, ◌∙◌, List, [], ◌∷◌, ◌++◌, length, map, filter, Bool, true, false, true≢false, nat_eq, Option, Some, None, is_some, arith}
use Rattle.std.proofs.lemmas.Bool.{eqb-true}
use Rattle.std.proofs.lemmas.List.{length-append}
use Rattle.std.proofs.lemmas.List.Sums.{length-filter, count_by-le-length}
use Rattle.std.specs.Prelude.{◌==◌, not, IsTrue, IsFalse}
use Rattle.std.specs.List.{AllByRecursion, Contains}
use Rattle.cad_rows.specs.Limits.{IsNumber, IsLabel, row_limit}
use Rattle.cad_rows.specs.declared.names.Face.{Face}
use Rattle.cad_rows.specs.declared.names.Face.TheVariants.{Outside, Parcel}
use Rattle.cad_rows.specs.declared.rows.ParcelRow.{ParcelRow}
use Rattle.cad_rows.specs.declared.rows.StringRow.{StringRow}
use Rattle.cad_map.specs.declared.boundary.Boundary.{Boundary}
use Rattle.cad_map.specs.Boundaries.{canonical_form, canonical_order}
use Rattle.cad_map.specs.Changes.{with_boundaries, merge, merge_at}
use Rattle.cad_map.specs.Map.{Map, has_point, has_parcel, has_face}
use Rattle.cad_map.specs.Merger.{ChainInRings, shared_chains, is_shared, boundaries_merged}
use Rattle.numbered_rows.specs.Rows.{row_with, without_row}
use Rattle.cad_map.specs.Valid.{AreSources, HasSoundRows, HasCompleteRings, IsSound, IsValid}
use Rattle.cad_map.proofs.Lists.Elements.{Contains-first, Contains-map, All-at_each, All-from_each}
use Rattle.cad_map.proofs.Lists.ElementFacts.{filter-Contains, find-Contains, find-nothing}
use Rattle.cad_map.proofs.Boundaries.TwoFaces.{complete}
use Rattle.cad_map.proofs.Edits.KeptRows.{AreNumbers-push, points-of_ends, differs}
use Rattle.cad_map.proofs.Boundaries.CanonicalOrder.{IsPermutation-canonical_order, canonical_order-canonical_order}
use Rattle.cad_map.proofs.Lists.EachElement.{All-push, All-filter, All-follows, All-map, All-permuted, All-filter-map, EachPair-filter-map, found-without, length-without_row}
use Rattle.cad_map.proofs.Mergers.Merged.{face_over, come-from, once-merged, three-merged, apart-merged}
use Rattle.cad_map.proofs.SharedChains.FoundChains.{IsChainInRings, shared_chain-found}

-- what speaks for a merger: none of its refusals applies
pub record CanMerge (m : Map) (kept ended : ℕ) : Type 0 where
  pub kept_there : has_parcel m kept ≡ true
  pub ended_there : has_parcel m ended ≡ true
  pub two : kept ≢ ended
  pub shared_chain : ChainInRings
  pub others : List ChainInRings
  pub found : shared_chains m (Parcel kept) (Parcel ended) ≡ shared_chain ∷ others
  pub few_retired : length m.retired + 1 ≤ row_limit

-- ---- A row left out

module _ {R : Type 0} (number : R → ℕ) where
  -- the number is none of those that are left
  gone : (n : ℕ) (rows : List R) → is_some (row_with number n (without_row number n rows)) ≡ false
  gone n rows =
      ap (λ (o : Option R). is_some o)
      (find-nothing (λ r. number r == n) (without_row number n rows) (λ r h. not-is (number r == n) (filter-Contains (λ r. not (number r == n)) rows r h).1))
    where
      not-is : (b : Bool) → not b ≡ true → b ≡ false
      not-is true h = absurd (true≢false (sym h))
      not-is false h = refl

  -- nor one that was none before
  none-without : (n p : ℕ) (rows : List R) → is_some (row_with number n rows) ≡ false → is_some (row_with number n (without_row number p rows)) ≡ false
  none-without n p [] none = refl
  none-without n p (r ∷ rows) none = by (nat_eq (number r) p) (nat_eq (number r) n) refl refl (λ rest. none-without n p rows rest)
    where
      by : (b c : Bool) → nat_eq (number r) p ≡ b → nat_eq (number r) n ≡ c → (is_some (row_with number n rows) ≡ false → is_some (row_with number n (without_row number p rows)) ≡ false)
          → is_some (row_with number n (without_row number p (r ∷ rows))) ≡ false
      by b true isb isc again = absurd (true≢false (rw isc at none))
      by true false isb isc again = rw isb (again (rw isc at none))
      by false false isb isc again = rw (isb, isc) (again (rw isc at none))

  -- a fact of each number is one of a row that is found
  number-of : (P : ℕ → Type 0) (n : ℕ) (rows : List R) → AllByRecursion P (map number rows) → is_some (row_with number n rows) ≡ true → P n
  number-of P n rows all there = by (row_with number n rows) refl
    where
      by : (o : Option R) → row_with number n rows ≡ o → P n
      by None none = absurd (true≢false (sym there ∙ ap (λ (o : Option R). is_some o) none))
      by (Some row) some =
          let found = find-Contains (λ r. number r == n) rows row some in
          subst P (eqb-true (number row) n found.1) (All-at_each P (map number rows) (number row) all (Contains-map number rows row found.0))

-- ---- The map after the merger

module _ (m : Map) (kept ended : ℕ) (valid : IsValid m) (can : CanMerge m kept ended) where
  abbrev K : Face
  K = Parcel kept

  abbrev E : Face
  E = Parcel ended

  pub faces-differ : K ≢ E
  faces-differ same = let e : kept ≡ ended = cc in can.two e

  pub shared_chain-there : IsChainInRings m K E can.shared_chain
  shared_chain-there = shared_chain-found m K E can.shared_chain (subst (λ (l : List ChainInRings). Contains l can.shared_chain) (sym can.found) (Contains-first can.shared_chain can.others))

  abbrev pub boundaries : List Boundary
  boundaries = boundaries_merged m K E shared_chain-there.k shared_chain-there.e shared_chain-there.more

  -- the rows after the merger, with the boundaries as they were
  abbrev pub rows : Map
  rows = record m {
    parcels = without_row (λ r. r.number) ended m.parcels;
    strings = filter (λ s. not (is_shared m K E s)) m.strings;
    retired = m.retired ++ ended ∷ [];
  }

  pub merge-is : merge m K E ≡ with_boundaries boundaries rows
  merge-is = ap (λ (bs : List Boundary). with_boundaries bs rows) (ap (λ (found : List ChainInRings). merge_at m K E found) can.found ∙ shared_chain-there.merged)

  abbrev after_all : Map
  after_all = with_boundaries boundaries rows

  merged-complete : HasCompleteRings after_all
  merged-complete =
      complete rows boundaries (three-merged m K E valid faces-differ can.shared_chain shared_chain-there) (once-merged m K E valid faces-differ can.shared_chain shared_chain-there) (apart-merged m K E valid faces-differ can.shared_chain shared_chain-there)

  -- a face that was there is there still, or the kept one in its place
  face-over-there : (f : Face) → IsTrue (has_face m f) → IsTrue (has_face rows (face_over K E f))
  face-over-there Outside known = refl
  face-over-there (Parcel n) known = by (nat_eq ended n) refl
    where
      by : (b : Bool) → nat_eq ended n ≡ b → IsTrue (has_face rows (face_over K E (Parcel n)))
      by true is = rw is (found-without (λ (r : ParcelRow). r.number) kept ended m.parcels can.two can.kept_there)
      by false is = rw is (found-without (λ (r : ParcelRow). r.number) n ended m.parcels (λ same. differs ended n is (sym same)) known)

  faces-merged : AllByRecursion (λ b. IsTrue (has_face rows b.face)) boundaries
  faces-merged = All-from_each (λ b. IsTrue (has_face rows b.face)) boundaries known
    where
      known : (b : Boundary) → Contains boundaries b → IsTrue (has_face rows b.face)
      known b h = elim (come-from m K E valid faces-differ can.shared_chain shared_chain-there b h) [
        | inl more ↦ subst (λ (c : Boundary). IsTrue (has_face rows c.face)) (sym more.2) (found-without (λ (r : ParcelRow). r.number) kept ended m.parcels can.two can.kept_there)
        | inr old ↦ subst (λ (c : Boundary). IsTrue (has_face rows c.face)) (sym old.2)
            (face-over-there old.0.face (All-at_each (λ b. IsTrue (has_face m b.face)) m.boundaries old.0 valid.sound.v1.faces_of_rings old.1))
      ]

  merged-rows : HasSoundRows after_all
  merged-rows =
      let v = valid.sound.v1 in
      let ends = All-filter (λ (s : StringRow). IsTrue (has_point m s.from) × IsTrue (has_point m s.to)) (λ s. not (is_shared m K E s)) m.strings v.ends in
      record {
        sources = v.sources;
        points = v.points;
        texts = v.texts;
        positions = v.positions;
        point_sources = v.point_sources;
        few_sources = v.few_sources;
        few_points = v.few_points;
        parcels = record {
          in_range = All-filter-map IsNumber (λ (r : ParcelRow). r.number) _ m.parcels v.parcels.in_range;
          distinct = EachPair-filter-map (λ a b. a ≢ b) (λ (r : ParcelRow). r.number) _ m.parcels v.parcels.distinct;
        };
        strings = record {
          in_range = All-filter-map IsNumber (λ (r : StringRow). r.number) _ m.strings v.strings.in_range;
          distinct = EachPair-filter-map (λ a b. a ≢ b) (λ (r : StringRow). r.number) _ m.strings v.strings.distinct;
        };
        retired = AreNumbers-push m.retired ended v.retired (number-of (λ (r : ParcelRow). r.number) IsNumber ended m.parcels v.parcels.in_range can.ended_there)
            (All-follows (λ n. IsFalse (has_parcel m n)) (λ n. n ≢ ended) (λ n none same. true≢false (sym can.ended_there ∙ ap (has_parcel m) (sym same) ∙ none)) m.retired v.retired_for_good);
        retired_for_good = All-push (λ n. IsFalse (has_parcel rows n)) m.retired ended
            (All-follows (λ n. IsFalse (has_parcel m n)) (λ n. IsFalse (has_parcel rows n)) (λ n none. none-without (λ (r : ParcelRow). r.number) n ended m.parcels none) m.retired v.retired_for_good)
            (gone (λ (r : ParcelRow). r.number) ended m.parcels);
        labels = All-filter (λ (r : ParcelRow). IsLabel r.label) _ m.parcels v.labels;
        ends = ends;
        points_of_rings = points-of_ends (λ p. IsTrue (has_point m p)) after_all merged-complete.once ends;
        faces_of_rings = All-permuted (λ b. IsTrue (has_face rows b.face)) (map canonical_form boundaries) (canonical_order boundaries) (IsPermutation-canonical_order boundaries)
            (All-map (λ b. IsTrue (has_face rows b.face)) canonical_form boundaries faces-merged);
        parcel_sources = All-filter (λ (r : ParcelRow). AreSources m.sources r.sources) _ m.parcels v.parcel_sources;
        string_sources = All-filter (λ (r : StringRow). AreSources m.sources r.sources) _ m.strings v.string_sources;
        few_parcels = let fewer = length-without_row (λ (r : ParcelRow). r.number) ended m.parcels in omega (arith, fewer, v.few_parcels);
        few_strings = let e = length-filter (λ (s : StringRow). not (is_shared m K E s)) m.strings in let fewer = count_by-le-length (λ (s : StringRow). not (is_shared m K E s)) m.strings in omega (arith, e, fewer, v.few_strings);
        few_retired = let e = length-append m.retired (ended ∷ []) in omega (arith, e, can.few_retired);
        canonical = canonical_order-canonical_order boundaries;
      }

-- A merger that nothing speaks against leaves a map of which V1, V2 and V5 hold.
pub merged-sound : (m : Map) (kept ended : ℕ) → IsValid m → CanMerge m kept ended → IsSound (merge m (Parcel kept) (Parcel ended))
merged-sound m kept ended valid can =
    subst IsSound (sym (merge-is m kept ended valid can)) (record {
      v1 = merged-rows m kept ended valid can;
      v2 = All-filter (λ (s : StringRow). s.from ≢ s.to) (λ s. not (is_shared m (Parcel kept) (Parcel ended) s)) m.strings valid.sound.v2;
      v5 = merged-complete m kept ended valid can;
    })
