use Rattle.std.proofs.Common.{◌≡◌, ◌∙◌, sym, ap, subst, List, ℕ, true, is_some, map, take, drop, ◌++◌, ◌∷◌, []}
use Rattle.std.specs.Prelude.{IfOk, codes}
use Rattle.cad_rings.specs.Cycle.{Ring}
use Rattle.cad_map.specs.Map.{has_face}
use Rattle.cad_files.specs.Texts.{text_of}
use Rattle.cad_files.specs.Reports.{ring_record, end_record, outline_answer}
use Rattle.cad_files.proofs.OutlineFacts.{parted, answer-known}
use Rattle.cad_files.proofs.outline_texts.outline_text.Goals as goal

pub rings_text-requires : goal.rings_text-requires
rings_text-requires g c =
    let m = g.M.MapView.map c.args.view.now in
    let rings = c.as_slice.ensures.value ∙ (rw c.in-Some.is at c.in_ok-rings.ensures.some) in
    let known : has_face m c.args.face ≡ true = sym c.in_ok-rings.ensures.known ∙ ap is_some c.in-Some.is in
    rw (c.outlines-around.ensures, rings) (parted m c.args.face c.requires known).enough

pub returns-in-Some : goal.returns-in-Some
returns-in-Some g c =
    let m = g.M.MapView.map c.args.view.now in
    let f = c.args.face in
    let rings = c.as_slice.ensures.value ∙ (rw c.in-Some.is at c.in_ok-rings.ensures.some) in
    let known : has_face m f ≡ true = sym c.in_ok-rings.ensures.known ∙ ap is_some c.in-Some.is in
    let parts = parted m f c.requires known in
    let told : List Ring → ℕ → List ℕ = λ rs n. text_of (map (ring_record f (codes "outer")) (take n rs) ++ (map (ring_record f (codes "hole")) (drop n rs) ++ end_record ∷ [])) in
    let all : told c.as_slice.result.now c.outlines-around.result ≡ text_of (outline_answer m f) =
    (λ i. told (rings i) (c.outlines-around.ensures i))
    ∙ (λ i. text_of (map (ring_record f (codes "outer")) (parts.outer i) ++ (map (ring_record f (codes "hole")) (parts.holes i) ++ end_record ∷ [])))
    ∙ ap text_of (sym (answer-known m f known)) in
    subst (λ (t : List ℕ). IfOk c.rings_text.result (λ text. text.items ≡ t)) all c.rings_text.ensures
