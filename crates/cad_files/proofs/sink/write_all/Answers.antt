use Rattle.std.proofs.Common.{◌≡◌, ◌++◌, ◌∙◌, sym, ap, refl, [], arith, take, drop, append_assoc, nat_eq, false}
use Rattle.std.proofs.KnownBytes.{Appends-trans, Appends-nil}
use Rattle.std.proofs.lemmas.List.{take-append-drop}
use Rattle.std.proofs.lemmas.Bool.Decides.{nat_tests}
use Rattle.cad_files.proofs.sink.write_all.Goals as goal

pub loop-rest-init : goal.loop-rest-init
loop-rest-init g c = ([], refl, Appends-nil _, refl)

pub loop-rest-preserved : goal.loop-rest-preserved
loop-rest-preserved g c =
    let inv = c.loop-rest.invariant in
    let k = c.in-Ok.count in
    let rest = c.loop-rest.rest.now in
    let some : nat_eq k 0 ≡ false = grind (arith, nat_tests) in
    let e = rw some at c.in-Ok.ensures.failures in (
      inv.0 ++ take k rest,
      rw (c.split_at.ensures.back) (inv.1 ∙ ap (λ l. inv.0 ++ l) (sym (take-append-drop k rest)) ∙ sym (append_assoc inv.0 (take k rest) (drop k rest))),
      Appends-trans _ _ _ _ _ inv.2 c.in-Ok.ensures.taken,
      e ∙ inv.3,
    )
