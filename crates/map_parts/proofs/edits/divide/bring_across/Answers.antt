use Rattle.std.proofs.Common.{◌≡◌, ◌+◌, ◌*◌, ℕ, List, length, sym, ap, ◌∙◌, subst, arith}
use Rattle.cad_map.specs.Boundaries.{face_place}
use Rattle.half_table.specs.declared.half.Half.{Half}
use Rattle.half_table.specs.Count.{ticked}
use Rattle.half_table.specs.Rows.{has, cycle}
use Rattle.key_lists.specs.Held.{items_at}
use Rattle.map_parts.specs.Relabelled.{cycles_length}
use Rattle.map_parts.specs.Handing.{KeepsBoth}
use Rattle.map_parts.proofs.TicksAdded.{two-steps}
use Rattle.map_parts.proofs.RelabelledEach.{each-ends, ends-then, cycle-same, in-relabelled, length-same}
use Rattle.map_parts.proofs.Handed.{count-handed, left-handed, both-in}
use Rattle.map_parts.proofs.KeptIsland.{room-handed}
use Rattle.map_parts.proofs.ChainFits.{all-across}
use Rattle.map_parts.proofs.KeptChain.{chain-kept}
use Rattle.map_parts.proofs.edits.divide.bring_across.Goals as goal

pub bring_left-requires : goal.bring_left-requires
bring_left-requires g c =
    let path = c.requires.path in
    record { linked = path.linked; within = path.within; different = path.different; loose = path.loose; place = c.requires.place }

pub hand_over-requires-clause-within : goal.hand_over-requires-clause-within
hand_over-requires-clause-within g c =
    in-relabelled c.args.table.now.rows c.bring_left.new.table.rows (items_at c.args.kept.now (face_place c.args.outer.now)) c.bring_left.ensures.halves.has c.requires.path.kept_in

pub hand_over-requires-clause-room : goal.hand_over-requires-clause-room
hand_over-requires-clause-room g c = let room = c.requires.path.inner_room in omega (arith, room)

pub keep_both-requires-clause-inner_room : goal.keep_both-requires-clause-inner_room
keep_both-requires-clause-inner_room g c =
    let n = face_place c.args.inner.now in
    let handed = (room-handed c.bring_left.new.table.rows (face_place c.args.outer.now) n c.args.kept.now c.hand_over.new.kept c.hand_over.ensures.hands).1 in
    let cap = c.hand_over.ensures.capacity n in
    let room = c.requires.path.inner_room in
    omega (arith, handed, cap, room)

pub keep_both-requires-clause-outer_room : goal.keep_both-requires-clause-outer_room
keep_both-requires-clause-outer_room g c =
    let n = face_place c.args.outer.now in
    let handed = (room-handed c.bring_left.new.table.rows n (face_place c.args.inner.now) c.args.kept.now c.hand_over.new.kept c.hand_over.ensures.hands).0 in
    let cap = c.hand_over.ensures.capacity n in
    let room = c.requires.path.outer_room in
    omega (arith, handed, cap, room)

pub relabel_each-requires-clause-within : goal.relabel_each-requires-clause-within
relabel_each-requires-clause-within g c = in-relabelled c.args.table.now.rows c.bring_left.new.table.rows c.args.moved.now c.bring_left.ensures.halves.has c.requires.path.moved_in

pub hand_over-requires-2-clause-within : goal.hand_over-requires-2-clause-within
hand_over-requires-2-clause-within g c =
    let outer : ℕ = face_place c.args.outer.now in
    let inner : ℕ = face_place c.args.inner.now in
    let old = c.args.table.now.rows in
    let new = c.relabel_each.new.table.rows in
    let same : (h : Half) → has new h ≡ has old h = λ h. c.relabel_each.ensures.relabels.has h ∙ c.bring_left.ensures.halves.has h in
    in-relabelled old new (items_at c.keep_both.new.kept outer) same
    (both-in old inner outer c.args.first.now c.twin-back.result c.hand_over.new.kept c.keep_both.new.kept c.keep_both.ensures.both
    (left-handed old c.bring_left.new.table.rows outer inner c.args.kept.now c.hand_over.new.kept c.hand_over.ensures.hands c.requires.path.kept_in)
    (sym (c.bring_left.ensures.halves.has c.twin-back.result) ∙ c.twin-back.ensures.inside ∙ c.bring_left.ensures.halves.has c.args.first.now ∙ c.requires.path.within.0))

pub hand_over-requires-2-clause-room : goal.hand_over-requires-2-clause-room
hand_over-requires-2-clause-room g c =
    let outer : ℕ = face_place c.args.outer.now in
    let inner : ℕ = face_place c.args.inner.now in
    let count = count-handed c.bring_left.new.table.rows outer inner c.args.kept.now c.hand_over.new.kept c.hand_over.ensures.hands in
    let more = c.keep_both.ensures.more in
    let cap = c.keep_both.ensures.capacity inner in
    let cap_one = c.hand_over.ensures.capacity inner in
    let room = c.requires.path.inner_room in
    omega (arith, count, more, cap, cap_one, room)

pub returns-clause-halves : goal.returns-clause-halves
returns-clause-halves g c = ends-then c.bring_left.ensures.halves (each-ends c.relabel_each.ensures.relabels)

pub returns-clause-count : goal.returns-clause-count
returns-clause-count g c =
    let outer : ℕ = face_place c.args.outer.now in
    let inner : ℕ = face_place c.args.inner.now in
    let count = count-handed c.bring_left.new.table.rows outer inner c.args.kept.now c.hand_over.new.kept c.hand_over.ensures.hands in
    let more = c.keep_both.ensures.more in
    let again = count-handed c.relabel_each.new.table.rows outer inner c.keep_both.new.kept c.hand_over-2.new.kept c.hand_over-2.ensures.hands in
    omega (arith, count, more, again)

pub returns-clause-capacity : goal.returns-clause-capacity
returns-clause-capacity g c = λ n. c.hand_over-2.ensures.capacity n ∙ c.keep_both.ensures.capacity n ∙ c.hand_over.ensures.capacity n

pub returns-clause-work : goal.returns-clause-work
returns-clause-work g c =
    let mid = c.bring_left.new.table.rows in
    let new = c.relabel_each.new.table.rows in
    let labels = c.relabel_each.ensures.relabels in
    let first : Half = c.args.first.now in
    let moved = c.args.moved.now in
    let w = c.args.table.now.work in
    let n = 2 + 2 * length c.args.rest.now + (length c.args.rest.now + 2) in
    let r = length (cycle mid first) in
    let q = cycles_length mid moved in
    let is_r : r ≡ length (cycle new first) = sym (ap (λ (f : Half → List Half). length (f first)) (cycle-same mid new labels.strings labels.next)) in
    let is_q : q ≡ cycles_length new moved = sym (length-same mid new moved labels.strings labels.next) in
    let turn : n + r + q ≡ n + (r + q) = omega arith in
    two-steps (n + r) q w c.bring_left.ensures.work c.relabel_each.ensures.work ∙ ap (λ k. ticked k w) turn ∙ (λ i. ticked (n + (is_r i + is_q i)) w)

pub returns-clause-chain : goal.returns-clause-chain
returns-clause-chain g c = λ whole parted its none ends start_on end_on goes.
    let outer = c.args.outer.now in
    let inner = c.args.inner.now in
    let first : Half = c.args.first.now in
    let labels = c.relabel_each.ensures.relabels in
    let left_one = c.bring_left.ensures in
    let fits = goes.0 in
    let local = left_one.local whole parted its.chain its.first_corner its.last_corner its.rings its.parts its.long its.is.corners its.more its.along ends start_on end_on fits.local in
    let across =
    all-across its.is its.rings its.parts its.long its.more left_one.halves.has left_one.halves.origin left_one.faces
    local labels c.relabel_each.ensures.linked its.along ends its.of fits in
    let both = subst (λ (h : Half). KeepsBoth (face_place inner) (face_place outer) first h c.hand_over.new.kept c.keep_both.new.kept) c.twin-back.ensures.is c.keep_both.ensures.both in (
      across.0,
      chain-kept its.is its.rings its.parts its.long its.two none its.more left_one.halves.origin labels.origin fits local across.1 across.0 across.2
          left_one.faces c.args.kept.now c.hand_over.new.kept c.keep_both.new.kept c.hand_over-2.new.kept goes.1 c.hand_over.ensures.hands both c.hand_over-2.ensures.hands,
    )
