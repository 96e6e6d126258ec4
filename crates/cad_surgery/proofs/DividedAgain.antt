-- A division that is made again, from what its record tells.
use Rattle.std.proofs.Common.{◌≡◌, ℕ, inl, inr, not, Bool, false, true, true≢false, refl, sym, ap, subst, ◌∙◌, List, [], ◌∷◌, ◌++◌, map, Option, Some, None, is_some}
use Rattle.std.specs.List.{AllByRecursion, Contains}
use Rattle.std.proofs.lemmas.List.Elements.{Contains-append_left, Contains-append_cases}
use Rattle.cad_rows.specs.declared.names.Face.TheVariants.{Parcel}
use Rattle.cad_rows.specs.declared.rows.StringRow.{StringRow}
use Rattle.cad_rings.specs.Cycle.{Side, has_side, opposite, sides_of}
use Rattle.cad_rings.specs.Surgery.{both_ways, corner, sides_of_chain}
use Rattle.cad_map.specs.declared.boundary.Boundary.{Boundary}
use Rattle.cad_map.specs.Chain.{start_of, next_of, end_of, last_but_one, leaving}
use Rattle.cad_map.specs.Division.{hole_placed}
use Rattle.cad_map.specs.Effects.{after}
use Rattle.cad_map.specs.Map.{Map, all_sides, string_of, side_of}
use Rattle.cad_map.specs.Rings.{HasWholeRings}
use Rattle.cad_map.proofs.CallerLemmas.{CanDivide as IsAllowed, All-at_each, All-from_each, Contains-first, Contains-later, Contains-map, Contains-flat_map, filter-Contains, found-number, map-Contains, ring-hole_placed, row-found, whole_valid}
use Rattle.half_table.specs.declared.half.Half.{Half}
use Rattle.half_table.specs.Half.{forward_of}
use Rattle.half_table.specs.Rows.{HalfRows, has}
use Rattle.cad_laws.specs.Faces.{left_of_chain, uncut}
use Rattle.cad_laws.specs.Tried.{IsTried}
use Rattle.cad_laws.proofs.CallerLemmas.{before-one, some-corner}
use Rattle.cad_surgery.specs.declared.edits.given.NewParcel.{NewParcel}
use Rattle.map_parts.specs.Chains.{IsChainOf}
use Rattle.map_parts.specs.Dividing.{IsDividing, rings_beside}
use Rattle.cad_surgery.specs.Divisions.{divided_by, strings_across, HasCrossing}
use Rattle.edit_records.specs.HeldChains.{side_along, LeadsAlong, IsOfRing, HeldChain, rings_beside as rings_but}
use Rattle.map_parts.specs.Labels.{IsAlong, IsOnRing}
use Rattle.map_parts.specs.Parts.{HasHalves}
use Rattle.cad_surgery.proofs.DividedBack as made
use Rattle.map_parts.proofs.Dividing as divides
use Rattle.map_parts.proofs.KeptShown.{bare}
use Rattle.cad_surgery.proofs.NamedRings.{row-side, named-among, named-rings, named-once}
use Rattle.map_parts.proofs.PartsRings.{half-there}
use Rattle.map_parts.proofs.StringRowsPut.{found-there}

-- either side of a string of the chain is one of the chain's, in one direction or the other
side-both : (row : StringRow) (h : Half) (sides : List Side) → Contains sides (side_of row) → Contains (both_ways sides) (side_along row h)
side-both row h sides there = by h.forward refl
  where
    by : (f : Bool) → h.forward ≡ f → Contains (both_ways sides) (side_along row h)
    by true is =
        subst (λ (f : Bool). Contains (both_ways sides) (side_along row (record h { forward = f }))) (sym is)
        (Contains-flat_map (λ (s : Side). s ∷ opposite s ∷ []) sides (side_of row) (side_of row) there (Contains-first (side_of row) (opposite (side_of row) ∷ [])))
    by false is =
        subst (λ (f : Bool). Contains (both_ways sides) (side_along row (record h { forward = f }))) (sym is)
        (Contains-flat_map (λ (s : Side). s ∷ opposite s ∷ []) sides (side_of row) (opposite (side_of row)) there
        (Contains-later (side_of row) (opposite (side_of row) ∷ []) (opposite (side_of row)) (Contains-first (opposite (side_of row)) [])))

module _ (m : Map) (d : NewParcel) (tried : IsTried m (divided_by d)) (rows : HalfRows) (ends : AllByRecursion (HasHalves rows) m.strings)
    (start end : Half) (moved : List Half) (it : HeldChain (after m (divided_by d)) (Parcel d.parcel) d.points.now start end moved) where
  abbrev now : Map
  now = after m (divided_by d)

  abbrev path : List Half
  path = map forward_of d.strings.now

  abbrev chain_sides : List Side
  chain_sides = sides_of_chain d.points.now

  whole_old : HasWholeRings m
  whole_old = whole_valid m tried.valid

  whole_now : HasWholeRings now
  whole_now = made.whole_now d tried {path = path} refl

  abbrev can : IsAllowed m d.face d.points.now d.strings.now d.parcel d.label.now d.source
  can = made.can d tried {path = path} refl

  abbrev is_it : IsDividing m d.face d.strings.now (strings_across d) d.parcel path
  is_it = made.is_it d tried refl

  abbrev left : Boundary
  left = made.left d tried {path = path} refl

  abbrev right : Boundary
  right = made.right d tried {path = path} refl

  law : IsChainOf m now d.face (Parcel d.parcel) d.points.now can.first can.last is_it.divided.cut left right (rings_beside is_it)
  law = made.law d tried {path = path} refl

  strings-are : now.strings ≡ m.strings ++ strings_across d
  strings-are = divides.strings-are m d.face d.strings.now (strings_across d) d.parcel path is_it

  -- no side of the map is of the chain
  off-chain : (s : Side) → Contains (all_sides m) s → Contains (both_ways chain_sides) s → ⊥
  off-chain s old on =
      let at = some-corner m whole_old s old in
      law.corners.free at.0 at.1 (inl (subst (Contains (both_ways chain_sides)) (sym at.2) on))

  -- a half that leads along no side of the chain is of the map
  of-map : (h : Half) (s : Side) → LeadsAlong now h s → (Contains (both_ways chain_sides) s → ⊥) → IsAlong m rows s h
  of-map h s along off = by (string_of m h.string) refl
    where
      among_now : Contains now.strings along.row
      among_now = found-there (λ (r : StringRow). r.number) h.string now.strings along.row along.there

      number_now : along.row.number ≡ h.string
      number_now = found-number (λ (r : StringRow). r.number) h.string now.strings along.row along.there

      by : (o : Option StringRow) → string_of m h.string ≡ o → IsAlong m rows s h
      by (Some r) is =
          let among = found-there (λ (t : StringRow). t.number) h.string m.strings r is in
          let number = found-number (λ (t : StringRow). t.number) h.string m.strings r is in
          let later = subst (λ (l : List StringRow). Contains l r) (sym strings-are) (Contains-append_left m.strings (strings_across d) r among) in
          let again : Some along.row ≡ Some r =
          sym along.there ∙ ap (string_of now) (sym number) ∙ row-found now.strings r whole_now.v1.strings.distinct later in
          let same : along.row ≡ r = cc in
          let shown : is_some (string_of m h.string) ≡ true = ap is_some is in
          record {
            there = half-there (bare m rows) ends h shown;
            shown = shown;
            side =
                row-side m rows ends r h number (All-at_each (HasHalves rows) m.strings r ends among)
                ∙ ap (λ (t : StringRow). side_along t h) (sym same) ∙ along.is;
          }
      by None is =
          absurd (elim (Contains-append_cases m.strings (strings_across d) along.row (subst (λ (l : List StringRow). Contains l along.row) strings-are among_now)) [
            | inl old ↦
                let none : Some along.row ≡ None = sym (row-found m.strings along.row whole_old.v1.strings.distinct old) ∙ ap (string_of m) number_now ∙ is in
                true≢false (ap is_some none)
            | inr new ↦
                off (subst (Contains (both_ways chain_sides)) along.is
                (side-both along.row h chain_sides
                (subst (λ (l : List Side). Contains l (side_of along.row)) (divides.sides-added m d.face d.strings.now (strings_across d) d.parcel path is_it)
                (Contains-map side_of (strings_across d) along.row new))))
          ])

  start_on : IsAlong m rows (leaving can.first) start
  start_on =
      let same = before-one now whole_now (corner (next_of d.points.now) (start_of d.points.now) it.start_is.to) (corner (next_of d.points.now) (start_of d.points.now) can.first.after)
      it.start_is.there law.corners.from_start refl in
      of-map start (leaving can.first) (subst (LeadsAlong now start) (λ i. (sym law.corners.first_at i, (same i).after)) it.start_is.along)
      (λ on. law.corners.free can.first law.corners.first_there (inr on))

  end_on : IsAlong m rows (leaving can.last) end
  end_on =
      let same = before-one now whole_now (corner (last_but_one d.points.now) (end_of d.points.now) it.end_is.to) (corner (last_but_one d.points.now) (end_of d.points.now) can.last.after)
      it.end_is.there law.corners.from_end refl in
      of-map end (leaving can.last) (subst (LeadsAlong now end) (λ i. (sym law.corners.last_at i, (same i).after)) it.end_is.along)
      (λ on. law.corners.free can.last law.corners.last_there (inr on))

  -- the halves of a ring that passes over are of the map
  moved-along : (b : Boundary) → Contains (rings_beside is_it) b → (h : Half) → (of : IsOfRing now b h) → IsAlong m rows of.side h
  moved-along b among h of =
      let new = left_of_chain d.points.now can.first can.last is_it.divided.cut.ring in
      let from = map-Contains (hole_placed m d.face (Parcel d.parcel) new) (uncut m can.first) b among in
      let old = filter-Contains (λ (c : Boundary). not (has_side (leaving can.first) (sides_of c.ring))) m.boundaries from.0 from.1 in
      let ring = sym (ring-hole_placed m d.face (Parcel d.parcel) new from.0) ∙ ap (λ (c : Boundary). c.ring) from.2 in
      of-map h of.side of.along
      (off-chain of.side (Contains-flat_map (λ (c : Boundary). sides_of c.ring) m.boundaries from.0 of.side old.0
      (subst (λ (r : List ℕ). Contains (sides_of r) of.side) (sym ring) of.on)))

  led : (b : Boundary) → Contains (rings_beside is_it) b → (h : Half) → IsOfRing now b h → IsOnRing now rows b h
  led b among h of = record {
    shown = ap is_some of.along.there;
    side = subst (Contains (sides_of b.ring)) (sym (moved-along b among h of).side) of.on;
  }

  abbrev s : Side
  s = (start_of d.points.now, next_of d.points.now)

  on_left : Contains (sides_of left.ring) s
  on_left = made.on_left d tried {path = path} refl

  -- what the record tells is at hand
  pub crossing : HasCrossing m rows d start end moved
  crossing = record {
    first = can.first;
    last = can.last;
    chosen = is_it.chosen;
    divided = is_it.divided;
    start_on = start_on;
    end_on = end_on;
    moved_in = All-from_each (λ h. has rows h ≡ true) moved (λ h among.
        let at = All-at_each (λ h. (b : Boundary) × Contains (rings_but now (Parcel d.parcel) s) b × IsOfRing now b h) moved h it.moved_are.each among in
        (moved-along at.0
        (named-among now whole_now (Parcel d.parcel) left right (rings_beside is_it) law.were law.left_face (λ e. law.differ (sym law.right_face ∙ e)) s on_left at.0 at.1) h at.2).there);
    moved_are =
        named-rings now whole_now (Parcel d.parcel) left right (rings_beside is_it) law.were law.left_face (λ e. law.differ (sym law.right_face ∙ e)) s on_left rows led moved it.moved_are;
    once =
        named-once now whole_now (Parcel d.parcel) left right (rings_beside is_it) law.were law.left_face (λ e. law.differ (sym law.right_face ∙ e)) s on_left rows led moved it.moved_are;
  }
