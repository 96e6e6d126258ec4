use Rattle.std.proofs.Common.{◌≡◌, ◌+◌, ◌*◌, ◌∷◌, [], ℕ, List, length, sym, ap, ◌∙◌, subst, if◌then◌else◌, arith}
use Rattle.cad_map.specs.Boundaries.{face_place}
use Rattle.cad_rings.specs.Surgery.{sides_of_chain}
use Rattle.half_table.specs.declared.half.Half.{Half}
use Rattle.half_table.specs.Half.{twin}
use Rattle.half_table.specs.Count.{ticked}
use Rattle.half_table.specs.Cycle.{holds}
use Rattle.half_table.specs.Rows.{next, face, cycle}
use Rattle.half_paths.specs.Path.{strings_of, AreIn}
use Rattle.half_paths.specs.Loose.{is_of}
use Rattle.key_lists.specs.Held.{items_at}
use Rattle.map_parts.specs.Handing.{KeepsOne}
use Rattle.map_parts.specs.Relabelled.{on_cycles, cycles_length}
use Rattle.map_parts.proofs.KeptShown.{local-same}
use Rattle.map_parts.proofs.TicksAdded.{two-steps}
use Rattle.map_parts.proofs.RelabelledEach.{each-ends, ends-then, cycle-same, in-relabelled}
use Rattle.map_parts.proofs.Handed.{in-handed, count-handed, one-few}
use Rattle.map_parts.proofs.KeptIsland.{items-of, cleared, put-capacity, room-handed}
use Rattle.map_parts.proofs.IslandFits.{along-same}
use Rattle.map_parts.proofs.ChainAcross.{tied-kept}
use Rattle.map_parts.proofs.ChainGone.{fits-cut, start-on, chain-gone}
use Rattle.map_parts.proofs.edits.divide.take_across.Goals as goal

pub hand_over-requires-clause-differ : goal.hand_over-requires-clause-differ
hand_over-requires-clause-differ g c = λ e. c.requires.path.faces (sym e)

pub hand_over-requires-clause-within : goal.hand_over-requires-clause-within
hand_over-requires-clause-within g c =
    in-relabelled c.args.table.now.rows c.relabel_each.new.table.rows (items_at c.args.kept.now (face_place c.args.inner.now)) c.relabel_each.ensures.relabels.has c.requires.path.inner_in

pub hand_over-requires-clause-room : goal.hand_over-requires-clause-room
hand_over-requires-clause-room g c = let room = c.requires.one_more in omega (arith, room)

pub next-start-requires : goal.next-start-requires
next-start-requires g c = c.twin-back.ensures.inside ∙ c.relabel_each.ensures.relabels.has c.args.first.now ∙ c.requires.path.within.0

pub take_left-requires : goal.take_left-requires
take_left-requires g c =
    let all = c.relabel_each.ensures.relabels in
    record {
      linked = c.relabel_each.ensures.linked;
      within = in-relabelled c.args.table.now.rows c.relabel_each.new.table.rows (c.args.first.now ∷ c.args.rest.now) all.has c.requires.path.within;
      different = c.requires.path.different;
      tied = tied-kept c.args.table.now.rows c.relabel_each.new.table.rows all.next c.requires.tied;
    }

pub hand_over-requires-2-clause-within : goal.hand_over-requires-2-clause-within
hand_over-requires-2-clause-within g c =
    let outer : ℕ = face_place c.args.outer.now in
    let inner : ℕ = face_place c.args.inner.now in
    let old = c.args.table.now.rows in
    let new = c.take_left.new.table.rows in
    let told = cleared c.face_place.result inner outer c.hand_over.new.kept c.clear.new.kept c.face_place.ensures.place c.requires.path.faces c.clear.ensures.others c.clear.ensures.none in
    subst (AreIn new) (sym told.0)
    (in-relabelled old new (items_at c.hand_over.new.kept outer) (λ h. c.take_left.ensures.halves.has h ∙ c.relabel_each.ensures.relabels.has h)
    (in-handed old c.relabel_each.new.table.rows inner outer c.args.kept.now c.hand_over.new.kept c.hand_over.ensures.hands c.requires.path.inner_in c.requires.path.outer_in))

pub hand_over-requires-2-clause-room : goal.hand_over-requires-2-clause-room
hand_over-requires-2-clause-room g c =
    let outer : ℕ = face_place c.args.outer.now in
    let inner : ℕ = face_place c.args.inner.now in
    let told = cleared c.face_place.result inner outer c.hand_over.new.kept c.clear.new.kept c.face_place.ensures.place c.requires.path.faces c.clear.ensures.others c.clear.ensures.none in
    let cap = put-capacity c.face_place.result inner c.hand_over.new.kept c.clear.new.kept c.clear.ensures.others c.clear.ensures.capacity in
    let cap_one = c.hand_over.ensures.capacity inner in
    let handed = (room-handed c.relabel_each.new.table.rows inner outer c.args.kept.now c.hand_over.new.kept c.hand_over.ensures.hands).1 in
    let room = c.requires.path.inner_room in
    omega (arith, told.1, told.2, cap, cap_one, handed, room)

pub keep_one-requires-clause-room : goal.keep_one-requires-clause-room
keep_one-requires-clause-room g c =
    let outer : ℕ = face_place c.args.outer.now in
    let inner : ℕ = face_place c.args.inner.now in
    let told = cleared c.face_place.result inner outer c.hand_over.new.kept c.clear.new.kept c.face_place.ensures.place c.requires.path.faces c.clear.ensures.others c.clear.ensures.none in
    let cap = put-capacity c.face_place.result outer c.hand_over.new.kept c.clear.new.kept c.clear.ensures.others c.clear.ensures.capacity in
    let cap_one = c.hand_over.ensures.capacity outer in
    let cap_two = c.hand_over-2.ensures.capacity outer in
    let handed = (room-handed c.relabel_each.new.table.rows inner outer c.args.kept.now c.hand_over.new.kept c.hand_over.ensures.hands).1 in
    let again = (room-handed c.take_left.new.table.rows outer inner c.clear.new.kept c.hand_over-2.new.kept c.hand_over-2.ensures.hands).0 in
    let room = c.requires.one_more in
    omega (arith, told.1, cap, cap_one, cap_two, handed, again, room)

pub returns-clause-halves : goal.returns-clause-halves
returns-clause-halves g c = ends-then (each-ends c.relabel_each.ensures.relabels) c.take_left.ensures.halves

pub returns-clause-kept : goal.returns-clause-kept
returns-clause-kept g c =
    let outer : ℕ = face_place c.args.outer.now in
    let inner : ℕ = face_place c.args.inner.now in
    let told = cleared c.face_place.result inner outer c.hand_over.new.kept c.clear.new.kept c.face_place.ensures.place c.requires.path.faces c.clear.ensures.others c.clear.ensures.none in
    let count = count-handed c.relabel_each.new.table.rows inner outer c.args.kept.now c.hand_over.new.kept c.hand_over.ensures.hands in
    let again = count-handed c.take_left.new.table.rows outer inner c.clear.new.kept c.hand_over-2.new.kept c.hand_over-2.ensures.hands in
    let one = one-few inner outer c.next-start.result c.hand_over-2.new.kept c.keep_one.new.kept c.keep_one.ensures.one in
    record {
      few = omega (arith, told.1, told.2, count, again, one);
      capacity = λ n.
          c.keep_one.ensures.capacity n ∙ c.hand_over-2.ensures.capacity n
          ∙ put-capacity c.face_place.result n c.hand_over.new.kept c.clear.new.kept c.clear.ensures.others c.clear.ensures.capacity
          ∙ c.hand_over.ensures.capacity n;
    }

pub returns-clause-work : goal.returns-clause-work
returns-clause-work g c =
    let old = c.args.table.now.rows in
    let back = c.relabel_each.new.table.rows in
    let labels = c.relabel_each.ensures.relabels in
    let first : Half = c.args.first.now in
    let w = c.args.table.now.work in
    let q = cycles_length old c.args.moved.now in
    let n = length c.args.rest.now + 2 in
    let p = 2 + 2 * length c.args.rest.now in
    let r = length (cycle back first) in
    let is_r : r ≡ length (cycle old first) = ap (λ (f : Half → List Half). length (f first)) (cycle-same old back labels.strings labels.next) in
    two-steps q (r + n + p) w c.relabel_each.ensures.work c.take_left.ensures.work ∙ (λ i. ticked (q + (is_r i + n + p)) w)

pub returns-clause-chain : goal.returns-clause-chain
returns-clause-chain g c = λ whole parted its ends goes.
    let outer = c.args.outer.now in
    let inner = c.args.inner.now in
    let first : Half = c.args.first.now in
    let rest = c.args.rest.now in
    let moved = c.args.moved.now in
    let old = c.args.table.now.rows in
    let back = c.relabel_each.new.table.rows in
    let new = c.take_left.new.table.rows in
    let labels = c.relabel_each.ensures.relabels in
    let key = c.face_place.ensures.place in
    let fits = goes.0 in
    let origins : (h : Half) → _ = (returns-clause-halves g c).origin in
    let faces_new : (h : Half) → face new h ≡ (if is_of (strings_of (first ∷ rest)) h then inner else if holds (cycle old first) h then outer else if on_cycles old moved h then outer else face old h) =
    λ h. c.take_left.ensures.faces h ∙ (λ i. if is_of (strings_of (first ∷ rest)) h then inner else if holds (cycle-same old back labels.strings labels.next i first) h then outer else labels.face h i) in
    let local_back = local-same parted old back labels.has labels.next labels.origin c.relabel_each.ensures.linked fits.local in
    let local = c.take_left.ensures.local whole parted its.chain its.first_corner its.last_corner its.parts its.long its.is.corners its.more (along-same old back labels.origin (first ∷ rest) (sides_of_chain its.chain) its.along) local_back in
    let is_start : c.next-start.result ≡ next old (twin first) = c.next-start.ensures.is ∙ labels.next c.twin-back.result ∙ ap (next old) c.twin-back.ensures.is in
    let on = start-on its.is its.rings its.parts its.long its.more new origins fits its.of its.along faces_new c.requires.tied.back_away in
    let one_kept = subst (λ (h : Half). KeepsOne (face_place inner) (face_place outer) h c.hand_over-2.new.kept c.keep_one.new.kept) is_start c.keep_one.ensures.one in (
      fits-cut its.is its.rings its.parts its.long its.more new origins fits its.of its.along faces_new
          local (returns-clause-halves g c).has ends,
      chain-gone its.is its.rings its.parts its.long its.more new origins fits its.of its.along faces_new
          its.two back labels.face c.args.kept.now c.hand_over.new.kept c.clear.new.kept c.hand_over-2.new.kept c.keep_one.new.kept (next old (twin first)) goes.1 c.hand_over.ensures.hands
          (subst (λ (k : ℕ). items_at c.clear.new.kept k ≡ []) key c.clear.ensures.none)
          (λ n away. items-of c.face_place.result n c.hand_over.new.kept c.clear.new.kept c.clear.ensures.others (λ e. away (sym key ∙ e)))
          c.hand_over-2.ensures.hands one_kept on.1,
    )
