use Rattle.std.proofs.Common.{◌∙◌, inl, inr, sym, subst}
use Rattle.cad_map.specs.Outcome.{MayRefuse, refused, out_of_memory, at_once, breaking}
use Rattle.cad_map.proofs.CallerLemmas.{valid-from_kept}
use Rattle.cad_edit.proofs.store.PlainStoreMapStore.apply.Goals as goal

pub returns-in-Err-clause-refused : goal.returns-in-Err-clause-refused
returns-in-Err-clause-refused c = elim c.in-Err.ensures.refused [
  | inl reason ↦ refused (at_once reason)
  | inr none ↦ subst (MayRefuse c.args.self.now.map c.args.edit.now) (sym none.1) (out_of_memory none.0)
]

pub returns-in-Some-clause-refused : goal.returns-in-Some-clause-refused
returns-in-Some-clause-refused c = refused (breaking c.in-Ok.ensures.allowed (rw c.in-Ok.ensures.made at c.in-Some.ensures.broken))

pub returns-in_default-copy-clause-refused : goal.returns-in_default-copy-clause-refused
returns-in_default-copy-clause-refused c = out_of_memory c.in-Ok.ensures.allowed

pub returns-clause-made : goal.returns-clause-made
returns-clause-made c = record {
  allowed = c.in-Ok.ensures.allowed;
  is = c.replace-before.ensures.after ∙ c.in-Ok.ensures.made;
  valid = rw c.replace-before.ensures.after (valid-from_kept _ c.in-Ok.ensures.tested c.in_default.ensures.kept);
}
