-- An edit of a map has one outcome.
use Rattle.std.proofs.Common.{◌≡◌, Some, None, refl, sym, ap, ◌∙◌, subst}
use Rattle.std.proofs.lemmas.Option.{same_Some}
use Rattle.cad_rows.specs.declared.edits.Edit.{Edit}
use Rattle.cad_rows.specs.declared.refusals.Rule.{Rule}
use Rattle.cad_rows.specs.declared.refusals.Rule.TheVariants.{V3, V4, V6, V7, V8}
use Rattle.cad_rows.specs.declared.refusals.Refusal.{Refusal}
use Rattle.cad_rows.specs.declared.refusals.Refusal.TheVariants.{Breaks, Memory}
use Rattle.cad_map.specs.Map.{Map}
use Rattle.cad_map.specs.Valid.{IsValid, Keeps, FirstBroken}
use Rattle.cad_map.specs.Effects.{after}
use Rattle.cad_map.specs.Outcome.{IsRefused, LeadsTo, MayRefuse}
use Rattle.cad_map.specs.Outcome.IsRefused.{at_once, breaking}
use Rattle.cad_map.specs.Outcome.MayRefuse.{refused, out_of_memory}

keeps : (m : Map) (r : Rule) → IsValid m → Keeps m r
keeps m V3 valid = valid.keeps.v3
keeps m V4 valid = valid.keeps.v4
keeps m V6 valid = valid.keeps.v6
keeps m V7 valid = valid.keeps.v7
keeps m V8 valid = valid.keeps.v8

-- a valid map breaks no rule
pub none_broken : (m : Map) (r : Rule) → IsValid m → ¬ FirstBroken m r
none_broken m r valid b = b.broken (keeps m r valid)

-- at most one rule is the first that a map breaks
pub broken-one : (m : Map) (r s : Rule) → FirstBroken m r → FirstBroken m s → r ≡ s
broken-one m V3 V3 b c = refl
broken-one m V4 V4 b c = refl
broken-one m V6 V6 b c = refl
broken-one m V7 V7 b c = refl
broken-one m V8 V8 b c = refl
broken-one m V3 V4 b c = absurd (b.broken c.kept.0)
broken-one m V3 V6 b c = absurd (b.broken c.kept.0)
broken-one m V3 V7 b c = absurd (b.broken c.kept.0)
broken-one m V3 V8 b c = absurd (b.broken c.kept.0)
broken-one m V4 V6 b c = absurd (b.broken c.kept.1.0)
broken-one m V4 V7 b c = absurd (b.broken c.kept.1.0)
broken-one m V4 V8 b c = absurd (b.broken c.kept.1.0)
broken-one m V6 V7 b c = absurd (b.broken c.kept.1.1.0)
broken-one m V6 V8 b c = absurd (b.broken c.kept.1.1.0)
broken-one m V7 V8 b c = absurd (b.broken c.kept.1.1.1.0)
broken-one m V4 V3 b c = absurd (c.broken b.kept.0)
broken-one m V6 V3 b c = absurd (c.broken b.kept.0)
broken-one m V7 V3 b c = absurd (c.broken b.kept.0)
broken-one m V8 V3 b c = absurd (c.broken b.kept.0)
broken-one m V6 V4 b c = absurd (c.broken b.kept.1.0)
broken-one m V7 V4 b c = absurd (c.broken b.kept.1.0)
broken-one m V8 V4 b c = absurd (c.broken b.kept.1.0)
broken-one m V7 V6 b c = absurd (c.broken b.kept.1.1.0)
broken-one m V8 V6 b c = absurd (c.broken b.kept.1.1.0)
broken-one m V8 V7 b c = absurd (c.broken b.kept.1.1.1.0)

-- an edit leads to one map
pub leads-one : (m : Map) (e : Edit) (x y : Map) → LeadsTo m e x → LeadsTo m e y → x ≡ y
leads-one m e x y p q = p.is ∙ sym q.is

-- an edit that leads to a map is not refused
pub leads-not_refused : (m : Map) (e : Edit) (x : Map) (r : Refusal) → LeadsTo m e x → ¬ IsRefused m e r
leads-not_refused m e x r leads (at_once at) = let never : None ≡ Some r = sym leads.allowed ∙ at in absurd (cc)
leads-not_refused m e x r leads (breaking {rule} none broken) = none_broken (after m e) rule (subst IsValid leads.is leads.valid) broken

-- an edit is refused in one way
pub refused-one : (m : Map) (e : Edit) (r s : Refusal) → IsRefused m e r → IsRefused m e s → r ≡ s
refused-one m e r s (at_once at) (at_once at') = same_Some _ _ (sym at ∙ at')
refused-one m e r s (at_once at) (breaking none broken) = let never : None ≡ Some r = sym none ∙ at in absurd (cc)
refused-one m e r s (breaking none broken) (at_once at) = let never : None ≡ Some s = sym none ∙ at in absurd (cc)
refused-one m e r s (breaking {rule} none broken) (breaking {rule = other} none' broken') = ap Breaks (broken-one (after m e) rule other broken broken')

-- beside want of memory a store refuses as the edit is refused
pub refused-but_memory : (m : Map) (e : Edit) (r : Refusal) → MayRefuse m e r → ¬ (r ≡ Memory) → IsRefused m e r
refused-but_memory m e r (refused is) not_memory = is
refused-but_memory m e r (out_of_memory none) not_memory = absurd (not_memory refl)
