use Rattle.std.proofs.Common.{◌≡◌, ◌<◌, ◌≤◌, ◌+◌, ◌++◌, ◌∷◌, [], ℕ, Some, length, slice_get, true, refl, sym, ap, ◌∙◌, subst, arith}
use Rattle.std.specs.Prelude.{swap_remove}
use Rattle.std.proofs.lemmas.Option.{slice_get_read}
use Rattle.cad_map.specs.Boundaries.{face_place}
use Rattle.cad_map.proofs.CallerLemmas.{All-at_each, Contains-at}
use Rattle.half_table.specs.declared.half.Half.{Half}
use Rattle.half_table.specs.Rows.{has}
use Rattle.half_paths.specs.Path.{AreIn}
use Rattle.key_lists.specs.Held.{Held, items_at, HasRoomAt}
use Rattle.map_parts.specs.Handing.{HandsOver}
use Rattle.map_parts.proofs.Handed.{IsHanding, hand-none, some-left, still-in, has-room, hand-skip, hand-more, hand-all, placed-yes, placed-no}
use Rattle.map_parts.proofs.edits.handing.hand_over.Goals.{In-loop-step, After-index-at-place, then-face_place-to_key, else-face_place-to_key}
use Rattle.map_parts.proofs.edits.handing.hand_over.Goals as goal

pub loop-step-init : goal.loop-step-init
loop-step-init g c = hand-none c.args.table.now.rows c.face_place-from_key.result c.face_place-to_key.result c.args.kept.now

-- there is a half more
low : (g : _) (c : goal.In-loop-step g) → c.loop-step.place < length (items_at c.loop-step.kept c.face_place-from_key.result)
low g c =
    let total = ap length c.at-step-end.ensures in
    some-left c.args.table.now.rows c.face_place-from_key.result c.face_place-to_key.result c.args.kept.now c.loop-step.kept c.loop-step.place c.loop-step._step c.loop-step.invariant
    (omega (arith, total, c.loop-step-test.true))

-- and it is this one
half_at : (g : _) (c : goal.After-index-at-place g) → c.loop-step.place < length (items_at c.loop-step.kept c.face_place-from_key.result)
    → slice_get (items_at c.loop-step.kept c.face_place-from_key.result) c.loop-step.place ≡ Some c.index-at-place.result
half_at g c some =
    let same = ap length c.at.ensures in
    ap (λ l. slice_get l c.loop-step.place) (sym c.at.ensures)
    ∙ slice_get_read c.at.result.now (length c.at.result.now) c.loop-step.place c.index-at-place.result refl (omega (arith, some, same)) c.index-at-place.is

pub face-requires : goal.face-requires
face-requires g c =
    let rows = c.args.table.now.rows in
    let from : ℕ = c.face_place-from_key.result in
    let old = c.args.kept.now in
    let now = c.loop-step.kept in
    All-at_each (λ h. has rows h ≡ true) (items_at now from) c.index-at-place.result
    (still-in rows from c.face_place-to_key.result old now c.loop-step.place c.loop-step._step c.loop-step.invariant
    (subst (λ (k : ℕ). AreIn rows (items_at old k)) (sym c.face_place-from_key.ensures.place) c.requires.within))
    (Contains-at (items_at now from) c.loop-step.place c.index-at-place.result (half_at g (goal.at.face-requires g c).After-index-at-place (low g (goal.at.face-requires g c).In-loop-step)))

pub hand_at-requires-clause-room : goal.hand_at-requires-clause-room
hand_at-requires-clause-room g c =
    let old = c.args.kept.now in
    has-room c.args.table.now.rows c.face_place-from_key.result c.face_place-to_key.result old c.loop-step.kept c.loop-step.place c.loop-step._step c.loop-step.invariant
    (subst (λ (k : ℕ × ℕ). HasRoomAt old k.1 (length (items_at old k.0))) (λ i. (sym c.face_place-from_key.ensures.place i, sym c.face_place-to_key.ensures.place i)) c.requires.room)
    (low g (goal.at.hand_at-requires-clause-room g c).In-loop-step)

pub loop-step-preserved : goal.loop-step-preserved
loop-step-preserved g c =
    let rows = c.args.table.now.rows in
    let from : ℕ = c.face_place-from_key.result in
    let to : ℕ = c.face_place-to_key.result in
    let old = c.args.kept.now in
    let now = c.loop-step.kept in
    let step = c.loop-step._step in
    let place = c.loop-step.place in
    let half : Half = c.index-at-place.result in
    let inv = c.loop-step.invariant in
    let at = half_at g (goal.at.loop-step-preserved g c).After-index-at-place (low g (goal.at.loop-step-preserved g c).In-loop-step) in
    let told = c.face_place.ensures.place ∙ ap face_place c.face.ensures in
    elim c.if-face_place-to_key.branch [
      | then-face_place-to_key w ↦
          let hands = w.hand_at.ensures in
          let is : w.hand_at.result ≡ half = (let e : Some w.hand_at.result ≡ Some half = sym hands.item ∙ at in cc) in
          let next = hand-more rows from to old now place step inv half at w.hand_at.new.kept
          (hands.left ∙ ap (λ (h : Half). swap_remove (items_at now from) place h) is) (hands.got ∙ ap (λ (h : Half). items_at now to ++ h ∷ []) is) hands.others hands.capacity
          (placed-yes rows to half c.face_place.result told w.if-face_place-to_key.true) in
          subst (λ (k : Held Half × ℕ). IsHanding rows from to old k.0 k.1 (step + 1)) (λ i. (sym w.kept-is i, sym w.place-is i)) next
      | else-face_place-to_key w ↦
          let next = hand-skip rows from to old now place step inv half at (placed-no rows to half c.face_place.result told w.if-face_place-to_key.false) in
          subst (λ (k : Held Half × ℕ). IsHanding rows from to old k.0 k.1 (step + 1)) (λ i. (sym w.kept-is i, sym w.place-is i)) next
    ]

pub returns-clause-hands : goal.returns-clause-hands
returns-clause-hands g c =
    let rows = c.args.table.now.rows in
    let from : ℕ = c.face_place-from_key.result in
    let to : ℕ = c.face_place-to_key.result in
    let old = c.args.kept.now in
    let total = ap length c.at-step-end.ensures in
    let past : length (items_at old from) ≤ c.loop-step._step = omega (arith, total, c.loop-step-test.false) in
    subst (λ (k : ℕ × ℕ). HandsOver rows k.0 k.1 old c.loop-step.kept) (λ i. (c.face_place-from_key.ensures.place i, c.face_place-to_key.ensures.place i))
    (hand-all rows from to old c.loop-step.kept c.loop-step.place c.loop-step._step c.loop-step.invariant past)
