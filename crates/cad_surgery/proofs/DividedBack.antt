-- A division that was made, in a table of the map after it.
use Rattle.std.proofs.Common.{◌≡◌, ◌≤◌, ◌<◌, ◌+◌, ℕ, refl, sym, ap, subst, ◌∙◌, List, [], ◌∷◌, map, filter, length, arith}
use Rattle.std.specs.Prelude.{IsPermutation}
use Rattle.std.specs.List.{AllByRecursion, Contains}
use Rattle.std.proofs.lemmas.List.{length-map}
use Rattle.cad_rows.specs.declared.names.Face.TheVariants.{Parcel}
use Rattle.cad_rings.specs.Cycle.{sides_of}
use Rattle.cad_rings.specs.Surgery.{sides_of_chain}
use Rattle.cad_map.specs.declared.boundary.Boundary.{Boundary}
use Rattle.cad_map.specs.Boundaries.{is_face}
use Rattle.cad_map.specs.Chain.{start_of, next_of}
use Rattle.cad_map.specs.Effects.{after}
use Rattle.cad_map.specs.Map.{Map}
use Rattle.cad_map.specs.Rings.{HasWholeRings}
use Rattle.cad_map.proofs.CallerLemmas.{CanDivide as IsAllowed, Contains-first, allowed, can-divide}
use Rattle.half_table.specs.declared.half.Half.{Half}
use Rattle.half_table.specs.Half.{forward_of}
use Rattle.half_table.specs.Rows.{HalfRows, cycle}
use Rattle.half_paths.specs.Path.{AreDifferent}
use Rattle.key_lists.specs.Held.{Held}
use Rattle.cad_laws.specs.Counts.{sides_of_face}
use Rattle.cad_laws.proofs.CallerLemmas.{divided-faces, whole-after}
use Rattle.cad_laws.specs.Tried.{IsTried}
use Rattle.cad_surgery.specs.declared.edits.given.NewParcel.{NewParcel}
use Rattle.cad_map.specs.declared.map_rows.MapRows.{MapRows}
use Rattle.map_parts.specs.declared.stars.Spoke.{Spoke}
use Rattle.map_parts.specs.Paths.{AreAlong, HasStringsMore}
use Rattle.map_parts.specs.Parts.{HasHalves}
use Rattle.map_parts.specs.Relabelled.{cycles_length}
use Rattle.map_parts.specs.Handing.{home_of}
use Rattle.edit_records.specs.HeldChains.{NamesRings, rings_beside as rings_but}
use Rattle.map_parts.specs.Islands.{AreOfRings}
use Rattle.map_parts.specs.Splitting.{FitMap}
use Rattle.map_parts.specs.Chains.{IsChainOf}
use Rattle.map_parts.specs.Dividing.{IsDividing, divided, rings_beside, CanBeginUndivide}
use Rattle.cad_surgery.specs.Divisions.{divided_by, strings_across}
use Rattle.map_parts.proofs.ChainRings.{first-on}
use Rattle.cad_surgery.proofs.NamedRings.{named-on, named-rings, named-once}
use Rattle.cad_surgery.proofs.RingLengths.{face-lengths}
use Rattle.map_parts.proofs.Dividing as divides

-- a chain of two points or more has a first side
pub first_side : (chain : List ℕ) → 2 ≤ length chain → Contains (sides_of_chain chain) (start_of chain, next_of chain)
first_side [] long = absurd (omega (arith, long))
first_side (a ∷ []) long = absurd (omega (arith, long))
first_side (a ∷ b ∷ points) long = Contains-first (a, b) (sides_of_chain (b ∷ points))

-- a path along the strings of a division has a first half
pub path-some : (d : NewParcel) {m : Map} → IsTried m (divided_by d) → {path : List Half} → path ≡ map forward_of d.strings.now → 0 < length path
path-some d {m} tried path_is =
    let can = can-divide m d.face d.points.now d.strings.now d.parcel d.label.now d.source tried.given (allowed m (divided_by d) tried.allowed) in
    let long = can.long in
    let as_many = can.as_many in
    let same = ap length path_is ∙ length-map d.strings.now forward_of in
    omega (arith, long, as_many, same)

module _ {m : Map} (d : NewParcel) (tried : IsTried m (divided_by d)) {path : List Half} (path_is : path ≡ map forward_of d.strings.now) where
  abbrev now : Map
  now = after m (divided_by d)

  pub whole_now : HasWholeRings now
  whole_now = whole-after m (divided_by d) tried.valid tried.given tried.allowed tt

  pub can : IsAllowed m d.face d.points.now d.strings.now d.parcel d.label.now d.source
  can = can-divide m d.face d.points.now d.strings.now d.parcel d.label.now d.source tried.given (allowed m (divided_by d) tried.allowed)

  abbrev pub is_it : IsDividing m d.face d.strings.now (strings_across d) d.parcel path
  is_it = record {
    chain = d.points.now;
    label = d.label.now;
    source = d.source;
    first = can.first;
    last = can.last;
    tried = tried;
    chosen = record { first_is = can.at_first; last_is = can.at_last };
    divided =
        divided-faces m d.face d.points.now d.strings.now d.parcel d.label.now d.source can.first can.last
        tried.valid tried.given tried.allowed can.at_first can.at_last;
    added_are = refl;
    path_is = path_is;
  }

  abbrev pub left : Boundary
  left = divides.left_ring m d.face d.strings.now (strings_across d) d.parcel path is_it

  abbrev pub right : Boundary
  right = divides.right_ring m d.face d.strings.now (strings_across d) d.parcel path is_it

  pub law : IsChainOf m now d.face (Parcel d.parcel) d.points.now can.first can.last is_it.divided.cut left right (rings_beside is_it)
  law = divides.chain-of m d.face d.strings.now (strings_across d) d.parcel path is_it

  pub on_left : Contains (sides_of left.ring) (start_of d.points.now, next_of d.points.now)
  on_left = law.along (start_of d.points.now, next_of d.points.now) (first_side d.points.now can.long)

  pub more : HasStringsMore m now path
  more = divides.more m d.face d.strings.now (strings_across d) d.parcel path is_it

  pub differ : AreDifferent path
  differ = divides.different m d.face d.strings.now (strings_across d) d.parcel path is_it

  -- in a table of the map after it, where the halves name the parcel's other rings
  module _ {rows : MapRows} {table : HalfRows} {held : Held Half} {stars : Held Spoke} (fits : FitMap now rows table held stars)
      {moved : List Half} (named : NamesRings now moved (rings_but now (Parcel d.parcel) (start_of d.points.now, next_of d.points.now))) where
    moved_are : AreOfRings now table moved (Parcel d.parcel) (rings_beside is_it)
    moved_are =
        named-rings now whole_now (Parcel d.parcel) left right (rings_beside is_it) law.were law.left_face (λ e. law.differ (sym law.right_face ∙ e))
        (start_of d.points.now, next_of d.points.now) on_left table (λ b among h. named-on now table fits.fits.ends b h) moved named

    moved_once : IsPermutation (map (home_of now table) moved) (filter (λ b. is_face (Parcel d.parcel) b.face) (rings_beside is_it))
    moved_once =
        named-once now whole_now (Parcel d.parcel) left right (rings_beside is_it) law.were law.left_face (λ e. law.differ (sym law.right_face ∙ e))
        (start_of d.points.now, next_of d.points.now) on_left table (λ b among h. named-on now table fits.fits.ends b h) moved named

    pub begins : (can : CanBeginUndivide d.face d.strings.now d.parcel path moved rows table held stars) × (can.map ≡ m) × (divided can.is ≡ now)
    begins = (record { map = m; added = strings_across d; is = is_it; fits = fits; moved_are = moved_are }, refl, refl)

    ends : AllByRecursion (HasHalves table) (strings_across d)
    ends = (divides.added-ends m d.face d.strings.now (strings_across d) d.parcel path is_it table fits.fits.ends).1

    -- the halves along the parcel's rings are as many as their sides
    pub all-rings : (first : Half) (others : List Half) → path ≡ first ∷ others → length (cycle table first) + cycles_length table moved ≡ sides_of_face (Parcel d.parcel) now
    all-rings first others parted =
        face-lengths now whole_now table fits.fits.local (Parcel d.parcel) left right (rings_beside is_it) law.were law.left_face
        (λ e. law.differ (sym law.right_face ∙ e)) first
        (first-on m now d.face (Parcel d.parcel) d.points.now can.first can.last is_it.divided.cut left right (rings_beside is_it) law whole_now
        (divides.chain-long m d.face d.strings.now (strings_across d) d.parcel path is_it) first others
        (subst (HasStringsMore m now) parted more) table
        (subst (λ (l : List Half). AreAlong table l (sides_of_chain d.points.now)) parted (divides.along m d.face d.strings.now (strings_across d) d.parcel path is_it table ends)))
        moved moved_are moved_once
