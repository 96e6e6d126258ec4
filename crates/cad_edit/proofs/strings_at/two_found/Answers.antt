use Rattle.std.proofs.Common.{ℕ, sym, ap, refl, ◌∙◌, [], ◌∷◌, Option, Some, None}
use Rattle.std.specs.Prelude.{IsSome}
use Rattle.std.specs.Option.{option_copied}
use Rattle.std.proofs.lemmas.Option.{same_Some}
use Rattle.cad_map.specs.Map.{Map}
use Rattle.cad_map.proofs.CallerLemmas.{strings-found}
use Rattle.cad_edit.specs.Admitted.{AreStrings}
use Rattle.cad_edit.proofs.CutRing.{copied-some}
use Rattle.cad_edit.proofs.strings_at.two_found.Goals as goal

some : (m : Map) (p : ℕ) (strings : Option (ℕ × ℕ)) → AreStrings m p strings → IsSome strings
some m p None are = absurd are
some m p (Some strings) are = refl

pub unwrap-first-requires : goal.unwrap-first-requires
unwrap-first-requires g c = some (g.M.MapView.map c.args.map.now) c.args.point c.args.strings c.requires.strings

pub unwrap-one-requires : goal.unwrap-one-requires
unwrap-one-requires g c =
    let k = strings-found (g.M.MapView.map c.args.map.now) c.requires.valid c.args.point c.unwrap-first.result.0 c.unwrap-first.result.1 (rw c.unwrap-first.ensures at c.requires.strings) in
    copied-some c.string.result k.0 (c.string.ensures ∙ k.3)

pub unwrap-other-requires : goal.unwrap-other-requires
unwrap-other-requires g c =
    let k = strings-found (g.M.MapView.map c.args.map.now) c.requires.valid c.args.point c.unwrap-first.result.0 c.unwrap-first.result.1 (rw c.unwrap-first.ensures at c.requires.strings) in
    copied-some c.string-2.result k.1 (c.string-2.ensures ∙ k.4)

pub returns : goal.returns
returns g c =
    let k = strings-found (g.M.MapView.map c.args.map.now) c.requires.valid c.args.point c.unwrap-first.result.0 c.unwrap-first.result.1 (rw c.unwrap-first.ensures at c.requires.strings) in
    let one = same_Some k.0 c.unwrap-one.result.now (sym k.3 ∙ sym c.string.ensures ∙ ap option_copied c.unwrap-one.ensures) in
    let other = same_Some k.1 c.unwrap-other.result.now (sym k.4 ∙ sym c.string-2.ensures ∙ ap option_copied c.unwrap-other.ensures) in
    k.2 ∙ (λ i. one i ∷ other i ∷ [])
