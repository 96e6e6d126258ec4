use Rattle.std.proofs.Common.{◌∙◌, ap, sym, subst, rules}
use Rattle.cad_rows.specs.declared.rows.StringRow.{StringRow}
use Rattle.cad_map.specs.Asked.{GivesInRange}
use Rattle.map_parts.specs.Parts.{Parts, map_of}
use Rattle.cad_surgery.specs.Halvings.{IsSplitFrom, split_by}
use Rattle.cad_surgery.proofs.FitParts.{together, stand-for}
use Rattle.cad_surgery.proofs.GridSteps.{stood}
use Rattle.cad_surgery.proofs.SplitBack as draft
use Rattle.cad_surgery.proofs.Trials.{stays-made}
use Rattle.cad_surgery.proofs.edits.try_split.unsplit_with.Goals as goal

pub begin_unsplit-requires : goal.begin_unsplit-requires
begin_unsplit-requires g c =
    let given = subst (λ (r : StringRow). GivesInRange (split_by r.number c.args.halving.now)) (sym c.in_ok-copy.ensures) c.requires.given in
    let from = subst (λ (r : StringRow). IsSplitFrom r c.args.place c.args.halving.now (map_of c.args.draft.now) c.requires.beside.made.0) (sym c.in_ok-copy.ensures) c.requires.beside.made.1 in
    draft.back-begins c.draft.inside c.draft.view_is c.draft.invariant c.args.halving.now given from c.requires.beside.proper

pub invariant_of-draft-in_err-begin_unsplit : goal.invariant_of-draft-in_err-begin_unsplit
invariant_of-draft-in_err-begin_unsplit g c =
    let given = subst (λ (r : StringRow). GivesInRange (split_by r.number c.args.halving.now)) (sym c.in_ok-copy.ensures) c.requires.given in
    let from = subst (λ (r : StringRow). IsSplitFrom r c.args.place c.args.halving.now (map_of c.args.draft.now) c.requires.beside.made.0) (sym c.in_ok-copy.ensures) c.requires.beside.made.1 in
    together c.draft.inside.grid (draft.stays c.draft.inside c.draft.view_is c.draft.invariant c.args.halving.now given from c.requires.beside.proper
    c.begin_unsplit.new.table c.in_err-begin_unsplit.ensures.err)

pub returns-in_err-begin_unsplit : goal.returns-in_err-begin_unsplit
returns-in_err-begin_unsplit g c =
    let given = subst (λ (r : StringRow). GivesInRange (split_by r.number c.args.halving.now)) (sym c.in_ok-copy.ensures) c.requires.given in
    let from = subst (λ (r : StringRow). IsSplitFrom r c.args.place c.args.halving.now (map_of c.args.draft.now) c.requires.beside.made.0) (sym c.in_ok-copy.ensures) c.requires.beside.made.1 in
    stays-made _ _ _ _ c.from_residual-in_err-begin_unsplit.ensures.0
    (stand-for c.draft.inside.grid (draft.stays c.draft.inside c.draft.view_is c.draft.invariant c.args.halving.now given from c.requires.beside.proper
    c.begin_unsplit.new.table c.in_err-begin_unsplit.ensures.err) ∙ sym from.1)
    (ap (λ (d : Parts). d.grid) c.draft.view_is)
    (draft.stays-rest c.draft.inside c.draft.view_is c.draft.invariant c.args.halving.now given from c.requires.beside.proper
    c.begin_unsplit.new.table c.in_err-begin_unsplit.ensures.err c.in_err-begin_unsplit.ensures.err_table)
    (λ m was. stood (c.in_err-begin_unsplit.ensures.err_table ∙ ap (λ (d : Parts). d.table) c.draft.view_is))

pub invariant_of-draft-2 : goal.invariant_of-draft-2
invariant_of-draft-2 g c =
    let given = subst (λ (r : StringRow). GivesInRange (split_by r.number c.args.halving.now)) (sym c.in_ok-copy.ensures) c.requires.given in
    let from = subst (λ (r : StringRow). IsSplitFrom r c.args.place c.args.halving.now (map_of c.args.draft.now) c.requires.beside.made.0) (sym c.in_ok-copy.ensures) c.requires.beside.made.1 in
    together c.draft.inside.grid (draft.gone-back c.draft.inside c.draft.view_is c.draft.invariant c.args.halving.now given from c.requires.beside.proper
    c.begin_unsplit.new.table c.in_ok-begin_unsplit.ensures.fits c.in_ok-begin_unsplit.ensures.has)

pub drop_hidden-requires : goal.drop_hidden-requires
drop_hidden-requires g c =
    let given = subst (λ (r : StringRow). GivesInRange (split_by r.number c.args.halving.now)) (sym c.in_ok-copy.ensures) c.requires.given in
    let from = subst (λ (r : StringRow). IsSplitFrom r c.args.place c.args.halving.now (map_of c.args.draft.now) c.requires.beside.made.0) (sym c.in_ok-copy.ensures) c.requires.beside.made.1 in
    let gone = draft.in-unseen c.draft.inside c.draft.view_is c.draft.invariant c.args.halving.now given from c.requires.beside.proper
    c.begin_unsplit.new.table c.in_ok-begin_unsplit.ensures.fits c.in_ok-begin_unsplit.ensures.has
    c.forward.result c.forward-2.result (c.forward.ensures, c.forward-2.ensures) in
    record { whole = gone.whole; within = search rules; different = gone.different; loose = search rules; hidden = gone.hidden }

pub returns : goal.returns
returns g c = record {
  before = λ m was. let given = subst (λ (r : StringRow). GivesInRange (split_by r.number c.args.halving.now)) (sym c.in_ok-copy.ensures) c.requires.given in
      let from = subst (λ (r : StringRow). IsSplitFrom r c.args.place c.args.halving.now (map_of c.args.draft.now) m) (sym c.in_ok-copy.ensures) was in
      c.drop_hidden.ensures.map ∙ stand-for c.draft.inside.grid (draft.gone-back c.draft.inside c.draft.view_is c.draft.invariant c.args.halving.now given from c.requires.beside.proper
      c.begin_unsplit.new.table c.in_ok-begin_unsplit.ensures.fits c.in_ok-begin_unsplit.ensures.has);
  err = tt;
  grid = ap (λ (d : Parts). d.grid) c.drop_hidden.ensures.parts ∙ ap (λ (d : Parts). d.grid) c.draft.view_is;
  proper = let given = subst (λ (r : StringRow). GivesInRange (split_by r.number c.args.halving.now)) (sym c.in_ok-copy.ensures) c.requires.given in
      let from = subst (λ (r : StringRow). IsSplitFrom r c.args.place c.args.halving.now (map_of c.args.draft.now) c.requires.beside.made.0) (sym c.in_ok-copy.ensures) c.requires.beside.made.1 in
      draft.in-proper c.draft.inside c.draft.view_is c.draft.invariant c.args.halving.now given from c.requires.beside.proper
      c.begin_unsplit.new.table c.in_ok-begin_unsplit.ensures.fits c.in_ok-begin_unsplit.ensures.has
      c.forward.result c.forward-2.result (c.forward.ensures, c.forward-2.ensures)
      c.drop_hidden.new.draft c.drop_hidden.ensures.fit c.drop_hidden.ensures.map c.drop_hidden.ensures.drops;
  work = λ m was. let given = subst (λ (r : StringRow). GivesInRange (split_by r.number c.args.halving.now)) (sym c.in_ok-copy.ensures) c.requires.given in
      let from = subst (λ (r : StringRow). IsSplitFrom r c.args.place c.args.halving.now (map_of c.args.draft.now) m) (sym c.in_ok-copy.ensures) was in
      draft.in-work c.draft.inside c.draft.view_is c.draft.invariant c.args.halving.now given from c.requires.beside.proper
      c.begin_unsplit.new.table c.in_ok-begin_unsplit.ensures.fits c.in_ok-begin_unsplit.ensures.has
      c.is_work_in_range.ensures c.in_ok-begin_unsplit.ensures.work c.drop_hidden.new.draft.table c.drop_hidden.ensures.work;
}
