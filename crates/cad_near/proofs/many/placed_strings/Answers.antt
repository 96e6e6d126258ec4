use Rattle.std.proofs.Common.{◌≡◌, ◌<◌, ◌-◌, length, eqb-true, arith, ◌∙◌, ◌+◌, ◌++◌, ◌∷◌, [], List, Some, refl, sym, ap, subst, take}
use Rattle.std.proofs.lemmas.Option.{slice_get_read, slice_get-get_or}
use Rattle.std.specs.Prelude.{slice_get}
use Rattle.cad_valid.specs.declared.placed.Placed.{Placed}
use Rattle.cad_near.specs.Many.{AreNamed}
use Rattle.cad_near.proofs.ListsLeft.{where_ok}
use Rattle.cad_near.proofs.ManyStrings.{named-more, named-none, named-again}
use Rattle.cad_near.proofs.many.placed_strings.Goals as goal
use Rattle.cad_near.proofs.many.placed_strings.Goals.{in-Some+in_ok-ok, in_default}

pub loop-place-preserved : goal.loop-place-preserved
loop-place-preserved g c =
    let m = g.M.MapView.map c.args.map.now in
    let numbers = c.args.numbers.now in
    let k = c.loop-place.place in
    let n = c.index-numbers-place-in-loop-place.result in
    let before = c.loop-place.items.items in
    let at : slice_get numbers k ≡ Some n = slice_get_read numbers _ k n refl c.loop-place-test.true c.index-numbers-place-in-loop-place.is in
    elim c.match-string.branch [
      | in-Some+in_ok-ok w ↦
          let f = w.placed_string.result in
          let put = where_ok w.push.result w.ok.result w.in_ok-ok.field-0 before (before ++ f ∷ []) w.push.new.self.items w.in_ok-ok.was w.ok.ensures.value w.push.ensures.items in
          named-more m c.requires.v1 numbers k n w.in-Some.row.now before c.match-string.items.items at (sym w.in-Some.ensures) c.loop-place.invariant
          (ap (λ v. v.items) w.items-is ∙ put ∙ ap (λ (f : Placed). before ++ f ∷ []) w.placed_string.ensures)
      | in_default w ↦
          subst (λ (l : List Placed). AreNamed m (take (k + 1) numbers) l) (sym (ap (λ v. v.items) w.items-is))
          (named-none m c.requires.v1 numbers k n before at (sym w.in_default.ensures) c.loop-place.invariant)
    ]

pub loop-place-preserved-then-eq : goal.loop-place-preserved-then-eq
loop-place-preserved-then-eq g c =
    let numbers = c.args.numbers.now in
    let k = c.loop-place.place in
    let before = c.index-numbers-place.result in
    let n = c.index-numbers-place-then-place-gt0.result in
    let same : before ≡ n = eqb-true before n (sym c.eq.ensures ∙ c.if-eq.true) in
    let more : 0 < k = c.if-place-gt0.true in
    let end : k < length numbers = c.loop-place-test.true in
    let next : k ≡ k - 1 + 1 = omega arith in
    let earlier : k - 1 < length numbers = omega arith in
    named-again (g.M.MapView.map c.args.map.now) numbers (k - 1) k n c.loop-place.items.items next
    (slice_get-get_or numbers (k - 1) before earlier ∙ ap Some (sym c.index-numbers-place.is ∙ same))
    (slice_get-get_or numbers k n end ∙ ap Some (sym c.index-numbers-place-then-place-gt0.is)) c.loop-place.invariant
