-- What an edit of a valid map comes to.
use Rattle.std.specs.Prelude.{◌≡◌, Some, None}
use Rattle.cad_rows.specs.declared.edits.Edit.{Edit}
use Rattle.cad_rows.specs.declared.refusals.Rule.{Rule}
use Rattle.cad_rows.specs.declared.refusals.Refusal.{Refusal}
use Rattle.cad_rows.specs.declared.refusals.Refusal.TheVariants.{Breaks, Memory}
use Rattle.cad_map.specs.Map.{Map}
use Rattle.cad_map.specs.Valid.{IsValid, FirstBroken}
use Rattle.cad_map.specs.Refusals.{first_refusal}
use Rattle.cad_map.specs.Effects.{after}

-- the edit is refused before anything is tried, or the map after it breaks this rule first
pub data IsRefused (m : Map) (e : Edit) : Refusal → Type 0 where
  at_once : {r : Refusal} → first_refusal m e ≡ Some r → IsRefused m e r
  breaking : {rule : Rule} → first_refusal m e ≡ None → FirstBroken (after m e) rule → IsRefused m e (Breaks rule)

-- the edit leads from one map to the other
pub record LeadsTo (old : Map) (e : Edit) (new : Map) : Type 0 where
  pub allowed : first_refusal old e ≡ None
  pub is : new ≡ after old e
  pub valid : IsValid new

-- a store may answer the edit by this refusal: it is refused so, or memory ran out where nothing spoke against it at once
pub data MayRefuse (m : Map) (e : Edit) : Refusal → Type 0 where
  refused : {r : Refusal} → IsRefused m e r → MayRefuse m e r
  out_of_memory : first_refusal m e ≡ None → MayRefuse m e Memory
