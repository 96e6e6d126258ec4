use Rattle.std.proofs.Common.{ℕ, ap}
use Rattle.cad_rows.specs.declared.rows.StringRow.{StringRow}
use Rattle.cad_map.specs.Outcome.{out_of_memory}
use Rattle.cad_map.proofs.CallerLemmas.{found-number}
use Rattle.map_parts.specs.Parts.{map_of}
use Rattle.cad_surgery.specs.Halvings.{split_by}
use Rattle.cad_surgery.proofs.SplitDraft as draft
use Rattle.cad_surgery.proofs.Trials.{stays, passes-on, played-with}
use Rattle.cad_surgery.proofs.edits.try_split.try_split.Goals as goal

pub rows_of_split-requires : goal.rows_of_split-requires
rows_of_split-requires g c =
    draft.there-some c.draft.inside c.draft.view_is c.draft.invariant c.args.halving.now c.args.string
    c.requires.tried c.requires.proper

pub returns-in_default : goal.returns-in_default
returns-in_default g c = stays _ _ _ _ c.requires (out_of_memory c.requires.tried.allowed)

pub returns-in_err-place : goal.returns-in_err-place
returns-in_err-place g c = passes-on _ c.from_residual.ensures c.in_err-place.ensures.played

pub returns : goal.returns
returns g c = record {
  played = played-with c.in_ok-place.ensures.played;
  edit = ap (λ (s : ℕ). split_by s c.args.halving.now)
      (found-number (λ (r : StringRow). r.number) c.args.string (map_of c.args.draft.now).strings
      c.in_ok-place.row c.in_ok-place.ensures.found);
  holds = c.in_ok-place.ensures.row;
}
