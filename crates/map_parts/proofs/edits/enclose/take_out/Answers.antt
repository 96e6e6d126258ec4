use Rattle.std.proofs.Common.{◌≡◌, ◌∷◌, [], ℕ, sym, ◌∙◌, subst, arith}
use Rattle.cad_map.specs.Boundaries.{face_place}
use Rattle.half_table.specs.declared.half.Half.{Half}
use Rattle.key_lists.specs.Held.{items_at}
use Rattle.map_parts.specs.Islands.{FitsTable}
use Rattle.map_parts.proofs.WholeStrings.{two-ends}
use Rattle.map_parts.proofs.PartsRings.{half-two}
use Rattle.map_parts.proofs.KeptShown.{bare}
use Rattle.map_parts.proofs.RelabelledEach.{in-relabelled}
use Rattle.map_parts.proofs.IslandFits.{first-on}
use Rattle.map_parts.proofs.IslandFaces.{others-apart, faces-told, other-home}
use Rattle.map_parts.proofs.Handed.{in-handed, count-handed}
use Rattle.map_parts.proofs.KeptIsland.{items-of, cleared, put-capacity, island-gone}
use Rattle.map_parts.proofs.edits.enclose.take_out.Goals as goal

pub hand_over-requires-clause-differ : goal.hand_over-requires-clause-differ
hand_over-requires-clause-differ g c = λ e. c.requires.path.faces (sym e)

pub hand_over-requires-clause-within : goal.hand_over-requires-clause-within
hand_over-requires-clause-within g c =
    in-relabelled c.args.table.now.rows c.take_island.new.table.rows (items_at c.args.kept.now (face_place c.args.inner.now)) c.take_island.ensures.halves.has c.requires.path.inner_in

pub hand_over-requires-2-clause-within : goal.hand_over-requires-2-clause-within
hand_over-requires-2-clause-within g c =
    let new = c.take_island.new.table.rows in
    let outer : ℕ = face_place c.args.outer.now in
    let inner : ℕ = face_place c.args.inner.now in
    in-handed new new inner outer c.args.kept.now c.hand_over.new.kept c.hand_over.ensures.hands
    (in-relabelled c.args.table.now.rows new (items_at c.args.kept.now inner) c.take_island.ensures.halves.has c.requires.path.inner_in)
    (in-relabelled c.args.table.now.rows new (items_at c.args.kept.now outer) c.take_island.ensures.halves.has c.requires.path.outer_in)

pub hand_over-requires-2-clause-room : goal.hand_over-requires-2-clause-room
hand_over-requires-2-clause-room g c =
    let outer : ℕ = face_place c.args.outer.now in
    let inner : ℕ = face_place c.args.inner.now in
    let count = count-handed c.take_island.new.table.rows inner outer c.args.kept.now c.hand_over.new.kept c.hand_over.ensures.hands in
    let cap = c.hand_over.ensures.capacity inner in
    let room = c.requires.path.inner_room in
    omega (arith, count, cap, room)

pub returns-clause-kept : goal.returns-clause-kept
returns-clause-kept g c =
    let new = c.take_island.new.table.rows in
    let outer : ℕ = face_place c.args.outer.now in
    let inner : ℕ = face_place c.args.inner.now in
    let told = cleared c.face_place.result inner outer c.hand_over-2.new.kept c.clear.new.kept c.face_place.ensures.place c.requires.path.faces c.clear.ensures.others c.clear.ensures.none in
    let count = count-handed new inner outer c.args.kept.now c.hand_over.new.kept c.hand_over.ensures.hands in
    let again = count-handed new outer inner c.hand_over.new.kept c.hand_over-2.new.kept c.hand_over-2.ensures.hands in
    record {
      few = omega (arith, told.1, told.2, count, again);
      capacity = λ n.
          put-capacity c.face_place.result n c.hand_over-2.new.kept c.clear.new.kept c.clear.ensures.others c.clear.ensures.capacity
          ∙ c.hand_over-2.ensures.capacity n ∙ c.hand_over.ensures.capacity n;
    }

pub returns-clause-island : goal.returns-clause-island
returns-clause-island g c = λ whole parted its long ends goes.
    let old = c.args.table.now.rows in
    let new = c.take_island.new.table.rows in
    let first : Half = c.args.first.now in
    let path = first ∷ c.args.rest.now in
    let outer = c.args.outer.now in
    let inner = c.args.inner.now in
    let moved = c.args.moved.now in
    let key = c.face_place.ensures.place in
    let fits = goes.0 in
    let fits_new : FitsTable whole new = c.take_island.ensures.island whole parted its.ring its.left its.right its.others its.parts long its.is its.more its.along ends its.of fits in
    let on = first-on whole parted outer inner its.ring its.left its.right its.others its.is its.parts first c.args.rest.now its.more moved old its.along in
    let differ = half-two (bare parted old) fits.ends (two-ends parted its.parts) in (
      fits_new,
      island-gone whole parted outer inner its.ring its.left its.right its.others its.is its.rings its.parts its.two old new c.args.kept.now c.hand_over.new.kept c.hand_over-2.new.kept c.clear.new.kept goes.1
          c.hand_over.ensures.hands c.hand_over-2.ensures.hands (subst (λ (k : ℕ). items_at c.clear.new.kept k ≡ []) key c.clear.ensures.none)
          (λ n away. items-of c.face_place.result n c.hand_over-2.new.kept c.clear.new.kept c.clear.ensures.others (λ e. away (sym key ∙ e)))
          (λ h b there here. c.take_island.ensures.faces h ∙ faces-told whole parted outer inner its.ring its.left its.right its.others its.is its.parts path its.more old fits differ first on.1 moved its.of h b there here)
          (other-home whole parted outer inner its.ring its.left its.right its.others its.is its.parts path its.more old fits differ first on.1 moved its.of its.rings new c.take_island.ensures.halves.origin fits_new.ends)
          (others-apart whole parted outer inner its.ring its.left its.right its.others its.is its.parts),
    )
