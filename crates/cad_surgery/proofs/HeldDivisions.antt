-- What the record of a division says of the chain: what follows its ends, and the rings that passed over.
use Rattle.std.proofs.Common.{◌≡◌, true, refl, sym, subst, ◌∙◌, List, map, filter, length, arith}
use Rattle.std.specs.List.{Contains}
use Rattle.std.proofs.lemmas.List.{length-map}
use Rattle.std.proofs.lemmas.List.Sorted.{length_permutation}
use Rattle.cad_rows.specs.declared.names.Face.TheVariants.{Parcel}
use Rattle.cad_rings.specs.Cycle.{Side}
use Rattle.cad_map.specs.declared.boundary.Boundary.{Boundary}
use Rattle.cad_map.specs.Boundaries.{is_face}
use Rattle.cad_map.specs.Chain.{start_of, next_of}
use Rattle.cad_map.specs.Effects.{after}
use Rattle.cad_map.specs.Map.{Map}
use Rattle.cad_map.specs.Rings.{HasWholeRings}
use Rattle.cad_map.proofs.CallerLemmas.{All-at_each, All-from_each}
use Rattle.half_table.specs.declared.half.Half.{Half}
use Rattle.half_table.specs.Half.{forward_of}
use Rattle.half_table.specs.Rows.{HalfRows, has}
use Rattle.cad_laws.specs.Local.{IsShown, side_by}
use Rattle.cad_laws.specs.Tried.{IsTried}
use Rattle.cad_laws.proofs.CallerLemmas.{whole-after}
use Rattle.cad_surgery.specs.declared.edits.given.NewParcel.{NewParcel}
use Rattle.cad_surgery.specs.Divisions.{divided_by, strings_across, HasCrossing}
use Rattle.cad_surgery.specs.Proper.{IsProper}
use Rattle.edit_records.specs.HeldChains.{LeadsAlong, IsOfRing, HeldChain}
use Rattle.map_parts.specs.Chains.{IsChainOf}
use Rattle.map_parts.specs.Dividing.{IsDividing, rings_beside}
use Rattle.map_parts.specs.Handing.{home_of}
use Rattle.map_parts.specs.Labels.{IsOnRing}
use Rattle.map_parts.specs.Parts.{Parts, FitTogether, map_of, kept_at}
use Rattle.map_parts.proofs.Dividing as divides
use Rattle.cad_surgery.proofs.CrossedRing.{can-be}
use Rattle.cad_surgery.proofs.DividedBack.{first_side}
use Rattle.cad_surgery.proofs.DividedCrossing.{leads-now}
use Rattle.cad_surgery.proofs.NamedRings.{rings-named}

module _ (d : Parts) (fit : FitTogether d) (rest : IsProper (map_of d) d.table.rows (kept_at d)) (e : NewParcel) (tried : IsTried (map_of d) (divided_by e))
    (start end : Half) (moved : List Half) (seen : HasCrossing (map_of d) d.table.rows e start end moved) where
  abbrev m : Map
  m = map_of d

  abbrev rows : HalfRows
  rows = d.table.rows

  abbrev now : Map
  now = after m (divided_by e)

  abbrev path : List Half
  path = map forward_of e.strings.now

  abbrev s : Side
  s = (start_of e.points.now, next_of e.points.now)

  whole_now : HasWholeRings now
  whole_now = whole-after m (divided_by e) tried.valid tried.given tried.allowed tt

  abbrev is_it : IsDividing m e.face e.strings.now (strings_across e) e.parcel path
  is_it = record {
    chain = e.points.now;
    label = e.label.now;
    source = e.source;
    first = seen.first;
    last = seen.last;
    tried = tried;
    chosen = seen.chosen;
    divided = seen.divided;
    added_are = refl;
    path_is = refl;
  }

  abbrev left : Boundary
  left = divides.left_ring m e.face e.strings.now (strings_across e) e.parcel path is_it

  abbrev right : Boundary
  right = divides.right_ring m e.face e.strings.now (strings_across e) e.parcel path is_it

  law : IsChainOf m now e.face (Parcel e.parcel) e.points.now seen.first seen.last seen.divided.cut left right (rings_beside is_it)
  law = divides.chain-of m e.face e.strings.now (strings_across e) e.parcel path is_it

  lead : (h : Half) → IsShown m h → LeadsAlong now h (side_by rows h)
  lead h shown = leads-now d fit now (strings_across e) (divides.strings-are m e.face e.strings.now (strings_across e) e.parcel path is_it) h shown

  shown-in : (h : Half) → Contains moved h → IsShown m h
  shown-in h among = sym (rest.halves h) ∙ All-at_each (λ h. has rows h ≡ true) moved h seen.moved_in among

  of-ring : (b : Boundary) (h : Half) → Contains moved h → IsOnRing now rows b h → IsOfRing now b h
  of-ring b h among on = record { side = side_by rows h; along = lead h (shown-in h among); on = on.side }

  many : length moved ≡ length (filter (λ b. is_face (Parcel e.parcel) b.face) (rings_beside is_it))
  many =
      let one = length-map moved (home_of now rows) in
      let two = length_permutation (map (home_of now rows) moved) (filter (λ b. is_face (Parcel e.parcel) b.face) (rings_beside is_it)) seen.once in
      omega (arith, one, two)

  -- what the record says is so in the map after the division
  pub holds : HeldChain now (Parcel e.parcel) e.points.now start end moved
  holds = record {
    start_is = record {
      to = seen.first.after;
      along = subst (LeadsAlong now start) (seen.start_on.side ∙ (λ i. (law.corners.first_at i, seen.first.after))) (lead start seen.start_on.shown);
      there = law.corners.from_start;
    };
    end_is = record {
      to = seen.last.after;
      along = subst (LeadsAlong now end) (seen.end_on.side ∙ (λ i. (law.corners.last_at i, seen.last.after))) (lead end seen.end_on.shown);
      there = law.corners.from_end;
    };
    moved_are =
        rings-named now whole_now (Parcel e.parcel) left right (rings_beside is_it) law.were law.left_face (λ same. law.differ (sym law.right_face ∙ same)) s
        (law.along s (first_side e.points.now (can-be m e tried).long)) moved
        (All-from_each (λ h. (b : Boundary) × Contains (rings_beside is_it) b × IsOfRing now b h × (b.face ≡ Parcel e.parcel)) moved (λ h among.
        let at = All-at_each (λ h. (b : Boundary) × Contains (rings_beside is_it) b × IsOnRing now rows b h × (b.face ≡ Parcel e.parcel)) moved h seen.moved_are.each among in
        (at.0, at.1, of-ring at.0 h among at.2, at.3)))
        (λ b among is. let at = seen.moved_are.all b among is in (at.0, at.1, of-ring b at.0 at.1 at.2))
        many;
  }
