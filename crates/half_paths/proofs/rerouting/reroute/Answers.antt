use Rattle.std.proofs.Common.{◌≡◌, ◌∙◌, ◌+◌, ap, sym, subst, true, length, ◌∷◌}
use Rattle.half_table.specs.Count.{ticked}
use Rattle.half_table.specs.declared.half.Half.{Half}
use Rattle.half_table.specs.Half.{twin}
use Rattle.half_table.specs.Rows.{has, next, prev}
use Rattle.half_paths.specs.Redirect.{redirect}
use Rattle.half_paths.specs.Path.{last_of}
use Rattle.half_paths.specs.Strung.{strung, unstrung, IsStrung}
use Rattle.half_paths.specs.Ends.{put, CanPut, cut, CanCut}
use Rattle.half_paths.specs.Rerouted.{rerouted}
use Rattle.half_paths.proofs.Along.{keeps-on, in-kept, ticked-add}
use Rattle.half_paths.proofs.Exchanged.{first-part, second-part, last-all, unstrung-loose, tied, beside, still-strung, can-put, beside-first, beside-last, can-cut, all-steps, commuted, now-pa, now-pb, exchanged-back}
use Rattle.half_paths.proofs.rerouting.reroute.Goals.{After-loosen}
use Rattle.half_paths.proofs.rerouting.reroute.Goals as goal

-- what follows each half once the new path is tied together and the old one taken apart
both_tied : (g : _) (c : goal.After-loosen g) → next c.loosen.new.table.rows ≡ tied (next c.args.table.now.rows) c.args.old_first c.args.old_rest.now c.args.first c.args.rest.now
both_tied g c = λ i h.
    (c.loosen.ensures.next h ∙ ap (λ n. redirect (unstrung c.args.old_first c.args.old_rest.now) n h) (λ j k. c.string_up.ensures.next k j)) i

pub string_up-requires-clause-different : goal.string_up-requires-clause-different
string_up-requires-clause-different g c = second-part (c.args.old_first ∷ c.args.old_rest.now) (c.args.first ∷ c.args.rest.now) c.requires.different

pub string_up-requires-clause-unstrung : goal.string_up-requires-clause-unstrung
string_up-requires-clause-unstrung g c = unstrung-loose (next c.args.table.now.rows) c.args.first c.args.rest.now c.requires.can.loose

pub loosen-requires-clause-within : goal.loosen-requires-clause-within
loosen-requires-clause-within g c = in-kept c.args.table.now.rows c.string_up.new.table.rows (c.args.old_first ∷ c.args.old_rest.now) c.string_up.ensures.halves c.requires.old_in

pub loosen-requires-clause-different : goal.loosen-requires-clause-different
loosen-requires-clause-different g c = first-part (c.args.old_first ∷ c.args.old_rest.now) (c.args.first ∷ c.args.rest.now) c.requires.different

pub loosen-requires-clause-strung : goal.loosen-requires-clause-strung
loosen-requires-clause-strung g c =
    let one : next c.string_up.new.table.rows ≡ redirect (strung c.args.first c.args.rest.now) (next c.args.table.now.rows) = λ i h. c.string_up.ensures.next h i in
    subst (λ n. IsStrung n c.args.old_first c.args.old_rest.now) (sym one)
    (still-strung _ _ _ _ _ _ _ c.requires.different c.requires.can (c.requires.linked.next_prev c.args.old_first) (c.requires.linked.next_prev _))

pub put_path-requires-clause-before_in : goal.put_path-requires-clause-before_in
put_path-requires-clause-before_in g c = c.loosen.ensures.halves.has _ ∙ c.string_up.ensures.halves.has _ ∙ c.prev-before.ensures.inside

pub put_path-requires-clause-beyond_in : goal.put_path-requires-clause-beyond_in
put_path-requires-clause-beyond_in g c =
    c.loosen.ensures.halves.has _ ∙ c.string_up.ensures.halves.has _ ∙ ap (has c.args.table.now.rows) c.last_half-old_last.ensures
    ∙ last-all (λ h. has c.args.table.now.rows h ≡ true) c.args.old_first c.args.old_rest.now c.requires.old_in

pub put_path-requires-clause-first_in : goal.put_path-requires-clause-first_in
put_path-requires-clause-first_in g c = c.loosen.ensures.halves.has _ ∙ c.string_up.ensures.halves.has _ ∙ c.requires.new_in.0

pub put_path-requires-clause-last_in : goal.put_path-requires-clause-last_in
put_path-requires-clause-last_in g c =
    c.loosen.ensures.halves.has _ ∙ c.string_up.ensures.halves.has _ ∙ ap (has c.args.table.now.rows) c.last_half-last.ensures
    ∙ last-all (λ h. has c.args.table.now.rows h ≡ true) c.args.first c.args.rest.now c.requires.new_in

pub put_path-requires-clause-free : goal.put_path-requires-clause-free
put_path-requires-clause-free g c =
    let two = both_tied g (goal.at.put_path-requires-clause-free g c).After-loosen in
    subst (λ (t : Half × Half × Half × (Half → Half)). CanPut t.0 t.1 c.args.first t.2 t.3) (λ j. (sym c.prev-before.ensures.is j, sym c.last_half-old_last.ensures j, sym c.last_half-last.ensures j, sym two j))
    (can-put _ _ _ _ _ _ _ c.requires.different c.requires.can (c.requires.linked.next_prev c.args.old_first) (c.requires.linked.next_prev _))

pub cut_path-requires-clause-first_in : goal.cut_path-requires-clause-first_in
cut_path-requires-clause-first_in g c = c.put_path.ensures.halves.has _ ∙ c.loosen.ensures.halves.has _ ∙ c.string_up.ensures.halves.has _ ∙ c.requires.old_in.0

pub cut_path-requires-clause-last_in : goal.cut_path-requires-clause-last_in
cut_path-requires-clause-last_in g c =
    c.put_path.ensures.halves.has _ ∙ c.loosen.ensures.halves.has _ ∙ c.string_up.ensures.halves.has _ ∙ ap (has c.args.table.now.rows) c.last_half-old_last.ensures
    ∙ last-all (λ h. has c.args.table.now.rows h ≡ true) c.args.old_first c.args.old_rest.now c.requires.old_in

pub returns-clause-next : goal.returns-clause-next
returns-clause-next g c =
    let r = c.args.table.now.rows in
    let t = c.put_path.new.table.rows in
    let a : Half = c.args.old_first in
    let ar = c.args.old_rest.now in
    let q : Half = c.args.first in
    let qr = c.args.rest.now in
    let pa : Half = prev r a in
    let pb : Half = prev r (twin (last_of a ar)) in
    let d = c.requires.different in
    let can = c.requires.can in
    let enters : next r pa ≡ a = c.requires.linked.next_prev a in
    let returns : next r pb ≡ twin (last_of a ar) = c.requires.linked.next_prev (twin (last_of a ar)) in
    let is_pa : c.prev-before.result ≡ pa = c.prev-before.ensures.is in
    let is_p : c.last_half-old_last.result ≡ last_of a ar = c.last_half-old_last.ensures in
    let is_z : c.last_half-last.result ≡ last_of q qr = c.last_half-last.ensures in
    let two = both_tied g (goal.at.returns-clause-next g c).After-loosen in
    let three : next t ≡ beside (next r) a ar q qr pa = λ i h. (c.put_path.ensures.next h ∙ (λ j. redirect (put (is_pa j) (is_p j) q (is_z j) (two j)) (two j) h)) i in
    let from : prev t a ≡ twin q = ap (prev t) (sym (ap (λ n. n (twin q)) three ∙ beside-first (next r) a ar q qr pa pb d can enters returns)) ∙ c.put_path.ensures.linked.prev_next (twin q) in
    let to : prev t (twin c.last_half-old_last.result) ≡ pb =
    ap (prev t) (ap twin is_p ∙ sym (ap (λ n. n pb) three ∙ beside-last (next r) a ar q qr pa pb d can enters returns)) ∙ c.put_path.ensures.linked.prev_next pb in
    let ready : CanCut a c.last_half-old_last.result (next t) =
    subst (λ (k : Half × (Half → Half)). CanCut a k.0 k.1) (λ j. (sym is_p j, sym three j)) (can-cut (next r) a ar q qr pa pb d can enters returns) in
    λ h. c.cut_path.ensures.next ready h ∙ (λ j. redirect (cut (from j) (to j) a (is_p j) (three j)) (three j) h) ∙ all-steps (next r) a ar q qr pa pb d can enters returns h

pub returns-clause-back : goal.returns-clause-back
returns-clause-back g c = λ was before beyond can enters returns same h.
    let r = c.args.table.now.rows in
    let a : Half = c.args.old_first in
    let ar = c.args.old_rest.now in
    let q : Half = c.args.first in
    let qr = c.args.rest.now in
    let d = commuted (a ∷ ar) (q ∷ qr) c.requires.different in
    let from : prev r a ≡ before = ap (prev r) (sym (same before ∙ now-pa was q qr a ar before beyond d can enters returns)) ∙ c.requires.linked.prev_next before in
    let to : prev r (twin (last_of a ar)) ≡ beyond = ap (prev r) (sym (same beyond ∙ now-pb was q qr a ar before beyond d can enters returns)) ∙ c.requires.linked.prev_next beyond in
    returns-clause-next g c h ∙ (λ j. redirect (rerouted (from j) (to j) a ar q qr (next r)) (next r) h)
    ∙ exchanged-back was q qr a ar before beyond d can enters returns (next r) same h

pub returns-clause-halves : goal.returns-clause-halves
returns-clause-halves g c = keeps-on _ _ _ (keeps-on _ _ _ (keeps-on _ _ _ c.string_up.ensures.halves c.loosen.ensures.halves) c.put_path.ensures.halves) c.cut_path.ensures.halves

pub returns-clause-work : goal.returns-clause-work
returns-clause-work g c =
    let n = length c.args.rest.now in
    let m = length c.args.old_rest.now in
    c.cut_path.ensures.work ∙ ap (ticked 2) (c.put_path.ensures.work ∙ ap (ticked 2) (c.loosen.ensures.work ∙ ap (ticked m) c.string_up.ensures.work))
    ∙ sym (ticked-add n (m + 4) c.args.table.now.work ∙ ticked-add m 4 (ticked n c.args.table.now.work))
