use Rattle.std.proofs.Common.{◌≡◌, ◌∷◌, ◌++◌, [], ℕ, length, sym, ap, ◌∙◌, subst, length-append, arith}
use Rattle.cad_map.specs.Boundaries.{face_place}
use Rattle.cad_rings.specs.Cycle.{sides_of}
use Rattle.half_table.specs.declared.half.Half.{Half}
use Rattle.half_table.specs.Half.{twin}
use Rattle.key_lists.specs.Held.{items_at, HasRoomAt}
use Rattle.map_parts.specs.Islands.{FitsTable}
use Rattle.map_parts.proofs.RelabelledEach.{in-relabelled}
use Rattle.map_parts.proofs.Handed.{count-handed}
use Rattle.map_parts.proofs.IslandFits.{first-on, along-same}
use Rattle.map_parts.proofs.KeptIsland.{items-of, capacity-of, room-handed, put-capacity, home-comes, island-kept}
use Rattle.map_parts.proofs.edits.enclose.bring_in.Goals as goal

pub hand_over-requires-clause-within : goal.hand_over-requires-clause-within
hand_over-requires-clause-within g c =
    in-relabelled c.args.table.now.rows c.bring_island.new.table.rows (items_at c.args.kept.now (face_place c.args.outer.now)) c.bring_island.ensures.halves.has c.requires.kept_in

pub hand_over-requires-clause-room : goal.hand_over-requires-clause-room
hand_over-requires-clause-room g c = let room = c.requires.inner_room in omega (arith, room)

pub put-requires : goal.put-requires
put-requires g c =
    let key = c.face_place-inner_key.ensures.place in
    let n = face_place c.args.inner.now in
    let handed = (room-handed c.bring_island.new.table.rows (face_place c.args.outer.now) n c.args.kept.now c.hand_over.new.kept c.hand_over.ensures.hands).1 in
    let cap = c.hand_over.ensures.capacity n in
    let room = c.requires.inner_room in
    subst (λ (k : ℕ). HasRoomAt c.hand_over.new.kept k 1) (sym key) (omega (arith, handed, cap, room))

pub put-requires-2 : goal.put-requires-2
put-requires-2 g c =
    let key = c.face_place-outer_key.ensures.place in
    let n = face_place c.args.outer.now in
    let apart : ¬ (c.face_place-inner_key.result ≡ n) = λ e. c.requires.faces (sym (sym c.face_place-inner_key.ensures.place ∙ e)) in
    let items = items-of c.face_place-inner_key.result n c.hand_over.new.kept c.put.new.self c.put.ensures.others apart in
    let own = capacity-of c.face_place-inner_key.result n c.hand_over.new.kept c.put.new.self c.put.ensures.others apart in
    let handed = (room-handed c.bring_island.new.table.rows n (face_place c.args.inner.now) c.args.kept.now c.hand_over.new.kept c.hand_over.ensures.hands).0 in
    let cap = c.hand_over.ensures.capacity n in
    let room = c.requires.outer_room in
    let long = ap length items in
    subst (λ (k : ℕ). HasRoomAt c.put.new.self k 1) (sym key) (omega (arith, handed, cap, room, own, long))

pub returns-clause-capacity : goal.returns-clause-capacity
returns-clause-capacity g c = λ n.
    put-capacity c.face_place-outer_key.result n c.put.new.self c.put-2.new.self c.put-2.ensures.others c.put-2.ensures.capacity
    ∙ put-capacity c.face_place-inner_key.result n c.hand_over.new.kept c.put.new.self c.put.ensures.others c.put.ensures.capacity
    ∙ c.hand_over.ensures.capacity n

pub returns-clause-island : goal.returns-clause-island
returns-clause-island g c = λ whole parted its none ends goes.
    let outer : ℕ = face_place c.args.outer.now in
    let inner : ℕ = face_place c.args.inner.now in
    let old = c.args.table.now.rows in
    let new = c.bring_island.new.table.rows in
    let mid = c.hand_over.new.kept in
    let one = c.put.new.self in
    let now = c.put-2.new.self in
    let first : Half = c.args.first.now in
    let path = first ∷ c.args.rest.now in
    let is_inner = c.face_place-inner_key.ensures.place in
    let is_outer = c.face_place-outer_key.ensures.place in
    let fits_new : FitsTable parted new = c.bring_island.ensures.island whole parted its.ring its.left its.right its.others its.rings its.parts its.is its.more its.along ends its.of goes.0 in
    let on = first-on whole parted c.args.outer.now c.args.inner.now its.ring its.left its.right its.others its.is its.parts first c.args.rest.now its.more c.args.moved.now new
    (along-same old new c.bring_island.ensures.halves.origin path (sides_of its.ring) its.along) in
    let far_inner : ¬ (c.face_place-outer_key.result ≡ inner) = λ e. c.requires.faces (sym is_outer ∙ e) in
    let far_outer : ¬ (c.face_place-inner_key.result ≡ outer) = λ e. c.requires.faces (sym (sym is_inner ∙ e)) in
    let at_inner : items_at now inner ≡ items_at mid inner ++ first ∷ [] =
    items-of c.face_place-outer_key.result inner one now c.put-2.ensures.others far_inner
    ∙ subst (λ (k : ℕ). items_at one k ≡ items_at mid k ++ first ∷ []) is_inner c.put.ensures.items in
    let at_outer : items_at now outer ≡ items_at mid outer ++ twin first ∷ [] =
    subst (λ (k : ℕ). items_at now k ≡ items_at one k ++ c.twin-back.result ∷ []) is_outer c.put-2.ensures.items
    ∙ (λ i. items-of c.face_place-inner_key.result outer mid one c.put.ensures.others far_outer i ++ c.twin-back.ensures.is i ∷ []) in (
      fits_new,
      island-kept whole parted c.args.outer.now c.args.inner.now its.ring its.left its.right its.others its.is its.rings its.parts its.two old new c.args.kept.now mid now first goes.1 c.hand_over.ensures.hands at_inner at_outer
          (λ n away far.
          items-of c.face_place-outer_key.result n one now c.put-2.ensures.others (λ e. away (sym is_outer ∙ e))
          ∙ items-of c.face_place-inner_key.result n mid one c.put.ensures.others (λ e. far (sym is_inner ∙ e)))
          none on.0 on.1 (home-comes whole parted c.args.outer.now c.args.inner.now its.ring its.left its.right its.others its.is its.parts path its.more old new c.bring_island.ensures.halves.origin fits_new),
    )

pub returns-clause-count : goal.returns-clause-count
returns-clause-count g c =
    let outer : ℕ = face_place c.args.outer.now in
    let inner : ℕ = face_place c.args.inner.now in
    let old = c.args.kept.now in
    let mid = c.hand_over.new.kept in
    let one = c.put.new.self in
    let now = c.put-2.new.self in
    let is_inner = c.face_place-inner_key.ensures.place in
    let is_outer = c.face_place-outer_key.ensures.place in
    let far_inner : ¬ (c.face_place-outer_key.result ≡ inner) = λ e. c.requires.faces (sym is_outer ∙ e) in
    let far_outer : ¬ (c.face_place-inner_key.result ≡ outer) = λ e. c.requires.faces (sym (sym is_inner ∙ e)) in
    let at_inner : items_at now inner ≡ items_at mid inner ++ c.args.first.now ∷ [] =
    items-of c.face_place-outer_key.result inner one now c.put-2.ensures.others far_inner
    ∙ subst (λ (k : ℕ). items_at one k ≡ items_at mid k ++ c.args.first.now ∷ []) is_inner c.put.ensures.items in
    let at_outer : items_at now outer ≡ items_at mid outer ++ c.twin-back.result ∷ [] =
    subst (λ (k : ℕ). items_at now k ≡ items_at one k ++ c.twin-back.result ∷ []) is_outer c.put-2.ensures.items
    ∙ (λ i. items-of c.face_place-inner_key.result outer mid one c.put.ensures.others far_outer i ++ c.twin-back.result ∷ []) in
    let handed = count-handed c.bring_island.new.table.rows outer inner old mid c.hand_over.ensures.hands in
    let inner_long = ap length at_inner ∙ length-append (items_at mid inner) (c.args.first.now ∷ []) in
    let outer_long = ap length at_outer ∙ length-append (items_at mid outer) (c.twin-back.result ∷ []) in
    omega (arith, handed, inner_long, outer_long)
