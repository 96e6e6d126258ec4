-- A merger along a chain on a map on half-edges that is made in place, and taken back.
use Rattle.std.proofs.Common.{◌≡◌, ◌≢◌, ℕ, suc, ◌+◌, ◌≤◌, ◌==◌, refl, sym, ap, subst, ◌∙◌, List, [], ◌∷◌, ◌++◌, length, reverse, take, add-one, arith}
use Rattle.std.specs.Prelude.{IsPermutation}
use Rattle.std.proofs.lemmas.Bool.{eqb-true, eq-eqb}
use Rattle.std.proofs.lemmas.List.{length-take-le, reverse-reverse}
use Rattle.std.proofs.lemmas.List.Elements.{Contains-append_right}
use Rattle.std.proofs.lemmas.List.Sorted.{IsPermutation-reverse}
use Rattle.cad_rows.specs.declared.names.Face.{Face}
use Rattle.cad_rows.specs.declared.names.Face.TheVariants.{Parcel}
use Rattle.cad_rows.specs.declared.rows.ParcelRow.{ParcelRow}
use Rattle.cad_rings.specs.Cycle.{turned}
use Rattle.cad_rings.specs.Surgery.{chain_from, joined, sides_of_chain}
use Rattle.cad_map.specs.declared.boundary.Boundary.{Boundary}
use Rattle.cad_map.specs.Boundaries.{bounding, canonical_form}
use Rattle.cad_map.specs.Chain.{start_of, end_of}
use Rattle.cad_map.specs.Map.{Map}
use Rattle.cad_map.specs.Chain.{are_distinct}
use Rattle.cad_map.specs.Merger.{ChainInRings, shared_sides}
use Rattle.cad_map.specs.Merger.ChainInRings.{along, around}
use Rattle.cad_map.specs.Rings.{HasWholeRings}
use Rattle.cad_map.specs.Valid.{EachPair, IsValid}
use Rattle.cad_map.proofs.CallerLemmas.{IsFound, found, along-passed, pairs-from_distinct, pairs-IsPermutation, All-at_each, Contains-first, Contains-later}
use Rattle.half_table.specs.declared.half.Half.{Half}
use Rattle.half_table.specs.Rows.{HalfRows}
use Rattle.key_lists.specs.Held.{Held, IsSame}
use Rattle.map_parts.specs.Islands.{AreOfRings}
use Rattle.map_parts.specs.declared.edits.placed_strings.PlacedString.{PlacedString}
use Rattle.cad_map.specs.declared.map_rows.MapRows.{MapRows}
use Rattle.map_parts.specs.declared.stars.Spoke.{Spoke}
use Rattle.map_parts.specs.Adding.{HasRoomToExchange}
use Rattle.map_parts.specs.Paths.{AreAlong, HasStringsMore}
use Rattle.map_parts.specs.Chains.{IsChainOf}
use Rattle.map_parts.specs.FaceChanges.{CanBringAcross, CanTakeAcross, GoesWith, GoesWithChain, GoesWithoutChain, HasChainMore}
use Rattle.map_parts.specs.Splitting.{FitMap}
use Rattle.map_parts.specs.Merging.{IsMerging, merged, shared_chain, first_corner, last_corner, rings_past, CanBeginMerge, CanUnmerge}
use Rattle.map_parts.proofs.ChainAcross.{place-across, tied-across, two-last, ends-last}
use Rattle.map_parts.proofs.MergedRows as rows_of
use Rattle.map_parts.proofs.RoomMade.{fit-grown}

-- ---- The shared chain

-- the ends of a chain of different points differ
ends-apart : (xs : List ℕ) (c d : ℕ) → EachPair (λ a b. a ≢ b) (xs ++ c ∷ d ∷ []) → start_of (xs ++ c ∷ d ∷ []) ≢ d
ends-apart [] c d each = each.0.0
ends-apart (a ∷ xs) c d each =
    All-at_each (λ b. a ≢ b) (xs ++ c ∷ d ∷ []) d each.0
    (Contains-append_right xs (c ∷ d ∷ []) d (Contains-later c (d ∷ []) d (Contains-first d [])))

chain-ends : (chain : List ℕ) → 2 ≤ length chain → EachPair (λ a b. a ≢ b) chain → start_of chain ≢ end_of chain
chain-ends chain long each =
    let it = two-last chain long in
    let at = ends-last it.0 it.1 it.2 in
    subst (λ (l : List ℕ). start_of l ≢ end_of l) (sym it.3)
    (λ same. ends-apart it.0 it.1 it.2 (subst (EachPair (λ a b. a ≢ b)) it.3 each) (same ∙ at.1))

-- it has a side, and its ends differ
pub record IsOpenChain (chain : List ℕ) : Type 0 where
  pub long : 2 ≤ length chain
  pub apart : start_of chain ≢ end_of chain
  pub differ : EachPair (λ a b. a ≢ b) chain

abbrev OpenChain : ChainInRings → Type 0
OpenChain (along n k i e j) = IsOpenChain (chain_from j n e)
OpenChain (around k e) = Unit {0}

open-chain : (m : Map) (valid : IsValid m) (keeper ended : Face) (x : ChainInRings) → IsFound m valid keeper ended x → OpenChain x
open-chain m valid keeper ended x (IsFound.by_round k e k_there e_there is) = tt
open-chain m valid keeper ended x (IsFound.by_chain k i e j k_there e_there is) =
    let n = length (shared_sides m keeper ended) in
    let it = along-passed n (turned i k) (turned j e) is in
    let own = chain_from i n k in
    let other = chain_from j n e in
    let some = it.some in
    let kept_more = it.more_in_kept in
    let ended_more = it.more_in_ended in
    let own_is : own ≡ take (suc n) (turned i k) = ap (λ (l : ℕ). take l (turned i k)) (add-one n) in
    let other_is : other ≡ take (suc n) (turned j e) = ap (λ (l : ℕ). take l (turned j e)) (add-one n) in
    let own_long : length own ≡ n + 1 = length-take-le (n + 1) (turned i k) (omega (arith, kept_more)) in
    let other_long : length other ≡ n + 1 = length-take-le (n + 1) (turned j e) (omega (arith, ended_more)) in
    let common : own ≡ reverse other = own_is ∙ it.common ∙ ap reverse (sym other_is) in
    let each = pairs-from_distinct own (ap are_distinct own_is ∙ it.distinct) in
    record {
      long = omega (arith, other_long, some);
      apart = λ same.
          chain-ends own (omega (arith, own_long, some)) each
          (ap start_of common ∙ sym same ∙ ap start_of (sym (reverse-reverse other) ∙ ap reverse (sym common)));
      differ =
          pairs-IsPermutation (λ a b. a == b) (λ a b. (eqb-true a b, eq-eqb a b)) own other
          (subst (λ (l : List ℕ). IsPermutation own l) (ap reverse common ∙ reverse-reverse other) (IsPermutation-reverse own)) each;
    }

-- ---- The merger

module _ (m : Map) (keeper : Face) (ended : ℕ) (path : List Half) (is : IsMerging m keeper ended path) where
  pub whole : HasWholeRings m
  whole = rows_of.whole m keeper ended path is.tried is.shared

  pub parts : HasWholeRings (merged is)
  parts = rows_of.parts m keeper ended path is.tried is.shared

  abbrev pub one_ring : Boundary
  one_ring = canonical_form (bounding keeper (joined is.kept_place is.ended_place is.sides is.kept_ring is.ended_ring))

  pub chain-of : IsChainOf (merged is) m keeper (Parcel ended) (shared_chain is) (first_corner is) (last_corner is) one_ring (bounding (Parcel ended) is.ended_ring) (bounding keeper is.kept_ring) (rings_past is)
  chain-of = is.taken.3

  pub chain-open : IsOpenChain (shared_chain is)
  chain-open =
      open-chain m is.tried.valid keeper (Parcel ended) (along is.sides is.kept_ring is.kept_place is.ended_ring is.ended_place)
      (found m is.tried.valid keeper (Parcel ended) (along is.sides is.kept_ring is.kept_place is.ended_ring is.ended_place) is.there)

  pub more : HasStringsMore (merged is) m path
  more = rows_of.more m keeper ended path is.tried is.shared

  -- in a table with the path along the chain, the map before it has the chain more
  abbrev pub across : (table : HalfRows) (moved : List Half) → AreAlong table path (sides_of_chain (shared_chain is)) → AreOfRings m table moved (Parcel ended) (rings_past is)
      → HasChainMore (merged is) m keeper (Parcel ended) path moved table
  across table moved leads of = record {
    chain = shared_chain is;
    first_corner = first_corner is;
    last_corner = last_corner is;
    one = one_ring;
    left = bounding (Parcel ended) is.ended_ring;
    right = bounding keeper is.kept_ring;
    others = rings_past is;
    rings = parts;
    parts = whole;
    long = chain-open.long;
    is = chain-of;
    two = rows_of.two m keeper ended path is.tried is.shared;
    more = more;
    along = leads;
    of = of;
  }

-- ---- It is made

module _ {keeper : Face} {ended : ℕ} {strings : List ℕ} {first : Half} {rest moved : List Half} {rows : MapRows} {table : HalfRows}
    {held : Held Half} {stars : Held Spoke} (c : CanBeginMerge keeper ended strings (first ∷ rest) moved rows table held stars)
    {wide : Held Half} (alike : IsSame held wide) (room : HasRoomToExchange keeper ended wide) where
  fit : FitMap c.map rows table wide stars
  fit = fit-grown c.map c.fits refl alike

  chain_there : HasChainMore (merged c.is) c.map keeper (Parcel ended) (first ∷ rest) moved table
  chain_there = across c.map keeper ended (first ∷ rest) c.is table moved c.leads c.moved_are

  pub made-can : CanTakeAcross first rest keeper (Parcel ended) moved table wide
  made-can = record {
    path = rows_of.can-take c.map keeper ended first rest c.is.tried c.is.shared fit moved (rings_past c.is) c.moved_are room;
    tied = tied-across chain_there c.fits.fits.local;
    one_more = room.outer;
  }

  -- the table goes with the map after it
  pub made-table : (done : HalfRows) (put : Held Half) → GoesWithoutChain (first ∷ rest) keeper (Parcel ended) moved table wide done put → GoesWith (merged c.is) done put
  made-table done put takes =
      takes (merged c.is) c.map chain_there
      (rows_of.ends-left c.map keeper ended (first ∷ rest) c.is.tried c.is.shared table c.fits.fits.ends)
      (rows_of.made-table c.map keeper ended first rest c.is.tried c.is.shared fit, rows_of.made-keeps c.map keeper ended first rest c.is.tried c.is.shared fit)

-- ---- It is taken back

module _ {keeper : Face} {row : ParcelRow} {place : ℕ} {first : Half} {rest : List Half} {start end : Half} {moved : List Half} {gone : List PlacedString} {rows : MapRows} {table : HalfRows}
    {held : Held Half} {stars : Held Spoke} (c : CanUnmerge keeper row place (first ∷ rest) start end moved gone rows table held stars) where
  abbrev chain_back : HasChainMore (merged c.is) c.map keeper (Parcel row.number) (first ∷ rest) moved table
  chain_back = across c.map keeper row.number (first ∷ rest) c.is table moved c.leads c.moved_are

  pub back-can : CanBringAcross first rest start end keeper (Parcel row.number) moved table held
  back-can = record {
    path =
        rows_of.can-bring c.map keeper first rest c.is.tried c.is.shared c.went c.fits c.there moved (rings_past c.is) c.moved_are c.loose c.inner_room c.outer_room;
    place = place-across chain_back (chain-open c.map keeper row.number (first ∷ rest) c.is).apart c.start_on c.end_on;
  }

  -- the table goes with the map before it
  pub back-table : (wide : HalfRows) (put : Held Half) → GoesWithChain (first ∷ rest) start end keeper (Parcel row.number) moved table held wide put → GoesWith c.map wide put
  back-table wide put brings =
      brings (merged c.is) c.map chain_back (rows_of.none c.map keeper row.number (first ∷ rest) c.is.tried c.is.shared)
      (rows_of.all-back c.map keeper first rest c.is.tried c.is.shared c.went c.fits c.there) c.start_on c.end_on
      (rows_of.last-table c.map keeper first rest c.is.tried c.is.shared c.went c.fits c.there, rows_of.last-keeps c.map keeper first rest c.is.tried c.is.shared c.went c.fits c.there)
