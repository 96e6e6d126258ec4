use Rattle.std.proofs.Common.{◌≡◌, ap, sym, ◌∙◌, true}
use Rattle.std.specs.Prelude.{not}
use Rattle.geo_exact.specs.Position.{Position}
use Rattle.geo_exact.specs.Sector.{in_sector}
use Rattle.geo_exact.proofs.CallerLemmas.{in_sector-first_border, in_sector-last_border}
use Rattle.cad_near.specs.Rays.{is_clear_of_ray}
use Rattle.cad_valid.proofs.CallerLemmas.{same_position}
use Rattle.cad_near.proofs.rays.is_clear_of_ray.Goals.{then-is_same, else-is_same}
use Rattle.cad_near.proofs.rays.is_clear_of_ray.Goals as goal

-- the rays that border the sector aren't in it
pub returns-then-is_same-2 : goal.returns-then-is_same-2
returns-then-is_same-2 c =
    let v = c.args.at in
    let n = c.args.after in
    let p = c.args.before in
    let ray = c.args.ray.now in
    let clear : is_clear_of_ray v n p ray ≡ true = elim c.if-is_same.branch [
      | then-is_same w ↦
          ap (λ (q : Position). not (in_sector v n p q)) (same_position ray.position n (sym c.is_same.ensures ∙ w.if-is_same.true))
          ∙ ap not (in_sector-first_border v n p)
      | else-is_same w ↦
          ap (λ (q : Position). not (in_sector v n p q)) (same_position ray.position p (sym w.is_same-else-is_same.ensures ∙ sym w.value-is ∙ c.if-is_same-2.true))
          ∙ ap not (in_sector-last_border v n p)
    ] in
    c.if-is_same-2.true ∙ sym clear
