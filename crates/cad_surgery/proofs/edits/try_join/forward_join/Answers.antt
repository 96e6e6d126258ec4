use Rattle.std.proofs.Common.{ℕ, sym, subst}
use Rattle.cad_rows.specs.declared.edits.Edit.TheVariants.{Join}
use Rattle.cad_laws.specs.Tried.{IsTried}
use Rattle.map_parts.specs.Parts.{map_of}
use Rattle.cad_surgery.proofs.FarEnds.{leads-apart}
use Rattle.cad_surgery.specs.Trials.{IsMade}
use Rattle.cad_surgery.proofs.JoinDraft as draft
use Rattle.cad_surgery.proofs.Trials.{is-idle}
use Rattle.cad_surgery.proofs.edits.try_join.forward_join.Goals as goal

pub joining_at-requires-clause-two : goal.joining_at-requires-clause-two
joining_at-requires-clause-two g c =
    draft.join-two (map_of c.args.draft.now) c.args.point c.args.string c.requires.tried

pub join_again-requires-clause-tried : goal.join_again-requires-clause-tried
join_again-requires-clause-tried g c =
    subst (λ (i : ℕ). IsTried (map_of c.args.draft.now) (Join c.args.point i))
    (sym (draft.joining-number (map_of c.args.draft.now) c.args.point c.args.string
    c.requires.tried c.in_ok-joining.joining c.in_ok-joining.ensures)) c.requires.tried

pub join_again-requires-clause-apart : goal.join_again-requires-clause-apart
join_again-requires-clause-apart g c =
    leads-apart (map_of c.args.draft.now) c.args.point c.args.string c.requires.tried
    c.requires.leads

pub join_again-requires-clause-rows : goal.join_again-requires-clause-rows
join_again-requires-clause-rows g c =
    draft.joining-told (map_of c.args.draft.now) c.args.point c.args.string c.requires.tried
    c.in_ok-joining.joining c.in_ok-joining.ensures

pub returns-in_err-joining : goal.returns-in_err-joining
returns-in_err-joining g c = is-idle c.from_residual.ensures.0 c.requires.proper

pub returns : goal.returns
returns g c =
    subst (λ (i : ℕ). IsMade (Join c.args.point i) c.args.draft.now c.join_again.new.draft c.join_again.result)
    (draft.joining-number (map_of c.args.draft.now) c.args.point c.args.string c.requires.tried
    c.in_ok-joining.joining c.in_ok-joining.ensures) c.join_again.ensures
