use Rattle.std.proofs.Common.{◌≡◌, ◌∙◌, ap, sym, ℕ, List, [], ◌∷◌, ◌++◌, ◌+◌, take, get_or, append_assoc, append-nil}
use Rattle.std.specs.Prelude.{flat_map}
use Rattle.std.proofs.lemmas.List.{take_all, take_more}
use Rattle.std.proofs.lemmas.Grind.{flat_map-append}
use Rattle.cad_views.specs.Drawings.{escaped}
use Rattle.cad_views.proofs.pen.push_escaped.Goals as goal

pub loop-place-init : goal.loop-place-init
loop-place-init c = sym (append-nil c.args.text.now.items)

pub loop-place-preserved : goal.loop-place-preserved
loop-place-preserved c =
    let bytes = c.as_bytes-bytes.result.now in
    let place = c.loop-place.place in
    let old = c.args.text.now.items in
    let b = get_or bytes place 0 in
    let before = flat_map escaped (take place bytes) in
    let more : flat_map escaped (take (place + 1) bytes) ≡ before ++ escaped b =
    ap (flat_map escaped) (take_more bytes place 0 c.loop-place-test.true) ∙ flat_map-append escaped (take place bytes) (b ∷ []) ∙ ap (λ (l : List ℕ). before ++ l) (append-nil (escaped b)) in
    c.in_ok-push_byte.ensures ∙ ap (λ (l : List ℕ). l ++ escaped b) c.loop-place.invariant ∙ append_assoc old before (escaped b) ∙ ap (λ (l : List ℕ). old ++ l) (sym more)

pub returns : goal.returns
returns c =
    let bytes = c.as_bytes-bytes.result.now in
    c.loop-place.invariant ∙ ap (λ (l : List ℕ). c.args.text.now.items ++ flat_map escaped l) (take_all c.loop-place.place bytes c.loop-place-test.false ∙ c.as_bytes-bytes.ensures.value)
