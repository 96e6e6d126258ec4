use Rattle.std.proofs.Common.{◌≡◌, ℕ, List, Option, Some, None, refl, sym, subst}
use Rattle.std.specs.Prelude.{IfSome, find, option_map}
use Rattle.std.specs.List.{Contains}
use Rattle.cad_map.proofs.CallerLemmas.{find-Contains}
use Rattle.half_table.specs.declared.half.Half.{Half}
use Rattle.half_table.specs.Half.{is_half}
use Rattle.half_table.proofs.Halves.{is_half-same}
use Rattle.map_parts.specs.declared.stars.Spoke.{Spoke}
use Rattle.map_parts.specs.Stars.{spoke}
use Rattle.map_parts.proofs.stars.far_in_star.Goals as goal

-- a far end that is told stands in a spoke along the half
in_spoke : (h : Half) (xs : List Spoke) (f : Option Spoke) → find (λ (x : Spoke). is_half x.half h) xs ≡ f
    → (o : Option ℕ) → o ≡ option_map (λ (x : Spoke). x.far) f → IfSome o (λ far. Contains xs (spoke h far))
in_spoke h xs None found None is = tt
in_spoke h xs None found (Some far) is = cc
in_spoke h xs (Some x) found None is = cc
in_spoke h xs (Some x) found (Some far) is =
    let k = find-Contains (λ (y : Spoke). is_half y.half h) xs x found in
    let same : x.half ≡ h = is_half-same x.half h k.1 in
    let at : far ≡ x.far = cc in
    subst (Contains xs) (λ i. spoke (same i) (sym at i)) k.0

pub returns-clause-there : goal.returns-clause-there
returns-clause-there c =
    let h = c.args.half in
    let xs = c.args.spokes.now in
    in_spoke h xs (find (λ (x : Spoke). is_half x.half h) xs) refl c.far_among.result c.far_among.ensures
