use Rattle.std.proofs.Common.{◌≡◌, ◌∙◌, sym, ap, not}
use Rattle.std.specs.Ordering.{int_eq}
use Rattle.std.proofs.lemmas.Bool.{and_parts}
use Rattle.std.proofs.lemmas.Bool.Decides.{Decides-int_eq}
use Rattle.geo_exact.specs.Position.{Position}
use Rattle.geo_exact.specs.Sector.{in_sector}
use Rattle.geo_exact.proofs.CallerLemmas.{in_sector-last_border}
use Rattle.cad_files.proofs.followers.is_outside.Goals as goal

pub returns-then-eq : goal.returns-then-eq
returns-then-eq c =
    let v = c.args.side.now.at in
    let n = c.args.to.now.position in
    let p = c.args.side.now.back in
    let w = c.args.end.now.position in
    let both = and_parts (int_eq w.x p.x) (int_eq w.y p.y) (sym c.eq.ensures ∙ c.if-eq.true) in
    let x = (Decides-int_eq w.x p.x).0 both.0 in
    let y = (Decides-int_eq w.y p.y).0 both.1 in
    let same : w ≡ p = λ i. record { x = x i; y = y i } in
    c.if-eq.true ∙ sym (ap (λ (q : Position). not (in_sector v n p q)) same ∙ ap not (in_sector-last_border v n p))
