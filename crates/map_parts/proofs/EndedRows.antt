-- A parcel and strings that went from the rows of a map come back.
use Rattle.std.proofs.Common.{◌≡◌, ◌≢◌, ℕ, ◌≤◌, ◌==◌, true, false, refl, ap, subst, ◌∙◌, List, [], ◌∷◌, ◌++◌, length, insert, None, arith}
use Rattle.std.specs.List.{list_any}
use Rattle.std.proofs.lemmas.Cmp.{nat_eq_equiv}
use Rattle.std.proofs.lemmas.List.Elements.{Contains-append_right}
use Rattle.std.proofs.lemmas.List.Sorted.{length_permutation}
use Rattle.std.proofs.lemmas.Option.{slice_get_within}
use Rattle.cad_rows.specs.declared.rows.ParcelRow.{ParcelRow}
use Rattle.cad_rows.specs.declared.rows.StringRow.{StringRow}
use Rattle.cad_map.specs.Map.{Map, parcel_of, is_retired}
use Rattle.numbered_rows.specs.Rows.{without_row}
use Rattle.cad_map.proofs.CallerLemmas.{All-from_each, All-at_each, list_any-Contains, Contains-first}
use Rattle.key_lists.specs.Held.{Held}
use Rattle.cad_laws.proofs.CallerLemmas.{found-at}
use Rattle.map_parts.specs.declared.edits.placed_strings.PlacedString.{PlacedString}
use Rattle.cad_map.specs.declared.map_rows.MapRows.{MapRows}
use Rattle.map_parts.specs.declared.stars.Spoke.{Spoke}
use Rattle.map_parts.specs.Merging.{CanComeBack}
use Rattle.map_parts.specs.PlacedStrings.{CanPutPlaced}
use Rattle.cad_map.specs.MapRows.{map_in}
use Rattle.map_parts.specs.Splitting.{AreStarsOf}
use Rattle.map_parts.proofs.MergedRows.{stood-there}
use Rattle.map_parts.proofs.Passing.SplitBetween.{row-first}
use Rattle.numbered_rows.proofs.Removed.{none-taken}
use Rattle.map_parts.proofs.Passing.SplitUndone.{insert-back}

module _ {row : ParcelRow} {place : ℕ} {gone : List PlacedString} {rows : MapRows} {stars : Held Spoke} (can : CanComeBack row place gone rows stars) where
  abbrev pub put-can : CanPutPlaced gone rows stars
  put-can = record {
    before = can.before.strings;
    differ = can.strings_differ;
    stood = can.stood;
    left = ap (λ (q : Map). q.strings) can.left;
    slots = can.room.slots;
    two =
        All-from_each (λ (g : PlacedString). g.row.from ≢ g.row.to) gone
        (λ g among. All-at_each (λ (s : StringRow). s.from ≢ s.to) can.before.strings g.row can.two (stood-there can.before.strings gone can.stood g among));
    room = can.room.star_room;
  }

  module _ (mid : Map) (mid_is : mid ≡ record (map_in rows) { strings = can.before.strings }) where
    mid_are : mid ≡ record can.before {
      parcels = without_row (λ (p : ParcelRow). p.number) row.number can.before.parcels;
      retired = can.before.retired ++ row.number ∷ [];
      boundaries = [];
    }
    mid_are = mid_is ∙ ap (λ (q : Map). record q { strings = can.before.strings }) can.left

    pub mid-absent : parcel_of mid row.number ≡ None
    mid-absent = ap (λ (q : Map). parcel_of q row.number) mid_are ∙ none-taken (λ (p : ParcelRow). p.number) row.number can.before.parcels

    pub mid-retired : is_retired mid row.number ≡ true
    mid-retired =
        ap (λ (q : Map). is_retired q row.number) mid_are
        ∙ list_any-Contains (λ n. n == row.number) (can.before.retired ++ row.number ∷ []) row.number (Contains-append_right can.before.retired (row.number ∷ []) row.number (Contains-first row.number [])) (nat_eq_equiv.refl row.number)

    pub mid-place : place ≤ length mid.parcels
    mid-place =
        let all = can.before.parcels in
        let low = slice_get_within all place row can.at in
        let many = length_permutation all (row ∷ without_row (λ (p : ParcelRow). p.number) row.number all)
        (row-first (λ (p : ParcelRow). p.number) row.number row all can.parcels_differ (found-at (λ (p : ParcelRow). p.number) all place row can.parcels_differ can.at)) in
        let is = ap (λ (q : Map). length q.parcels) mid_are in
        omega (arith, low, many, is)

    pub all-back : (new : Map)
        → ((retired : List ℕ) → list_any (λ n. n == row.number) retired ≡ false → mid.retired ≡ retired ++ row.number ∷ []
        → new ≡ record mid { parcels = insert mid.parcels place row; retired = retired })
        → new ≡ record can.before { boundaries = [] }
    all-back new came =
        let parcels_are : insert mid.parcels place row ≡ can.before.parcels =
        ap (λ (q : Map). insert q.parcels place row) mid_are
        ∙ insert-back (λ (p : ParcelRow). p.number) row.number can.before.parcels place row can.parcels_differ refl can.at in
        came can.before.retired can.fresh (ap (λ (q : Map). q.retired) mid_are)
        ∙ (λ i. record (mid_are i) { parcels = parcels_are i; retired = can.before.retired })

    pub stars-back : (filled : Held Spoke) → (AreStarsOf (map_in rows).strings stars → AreStarsOf mid.strings filled) → AreStarsOf can.before.strings filled
    stars-back filled star = subst (λ (q : Map). AreStarsOf q.strings filled) mid_are (star can.stars_are)
