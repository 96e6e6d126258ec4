use Rattle.std.proofs.Common.{◌∙◌, ℕ, ap, refl, sym, subst}
use Rattle.std.specs.Prelude.{Ok, Err}
use Rattle.cad_rows.specs.declared.edits.Edit.TheVariants.{Join}
use Rattle.cad_map.specs.Outcome.{refused, breaking, out_of_memory}
use Rattle.cad_laws.proofs.CallerLemmas.{join-breaks}
use Rattle.map_parts.specs.Parts.{map_of}
use Rattle.edit_records.specs.declared.record.SmallRecord.{SmallRecord}
use Rattle.edit_records.specs.Record.{edit_of, Holds}
use Rattle.cad_surgery.specs.Joinings.{join_record}
use Rattle.cad_surgery.specs.Trials.{IsReadyFor, IsPlayed, IsTrialOf}
use Rattle.cad_surgery.proofs.Trials.{stays, passes-on, played-with}
use Rattle.cad_surgery.proofs.JoinDraft as draft
use Rattle.cad_surgery.proofs.edits.try_join.try_join.Goals as goal

pub are_far_ends_joined-requires-clause-two : goal.are_far_ends_joined-requires-clause-two
are_far_ends_joined-requires-clause-two g c =
    draft.join-two (map_of c.args.draft.now) c.args.point c.args.string c.requires.tried

pub returns-then-are_far_ends_joined : goal.returns-then-are_far_ends_joined
returns-then-are_far_ends_joined g c =
    let m = map_of c.args.draft.now in
    let t = c.requires.tried in
    stays _ _ _ _ c.requires (refused (breaking t.allowed
    (join-breaks m c.args.point c.args.string t.valid t.given t.allowed
    (c.are_far_ends_joined.ensures.joined c.if-are_far_ends_joined.true c.args.string))))

pub joining_at-requires-clause-two : goal.joining_at-requires-clause-two
joining_at-requires-clause-two g c =
    draft.join-two (map_of c.args.draft.now) c.args.point c.args.string c.requires.tried

pub returns-in_default : goal.returns-in_default
returns-in_default g c = stays _ _ _ _ c.requires (out_of_memory c.requires.tried.allowed)

pub join_within_rules-requires-clause-ready : goal.join_within_rules-requires-clause-ready
join_within_rules-requires-clause-ready g c =
    subst (λ (i : ℕ). IsReadyFor (Join c.args.point i) c.args.draft.now c.args.areas.now c.args.touched.now)
    (sym (draft.joining-number (map_of c.args.draft.now) c.args.point c.args.string c.requires.tried c.in-Ok.joining c.in-Ok.ensures)) c.requires

pub join_within_rules-requires-clause-apart : goal.join_within_rules-requires-clause-apart
join_within_rules-requires-clause-apart g c =
    c.are_far_ends_joined.ensures.apart c.if-are_far_ends_joined.false c.args.string

pub join_within_rules-requires-clause-rows : goal.join_within_rules-requires-clause-rows
join_within_rules-requires-clause-rows g c =
    draft.joining-told (map_of c.args.draft.now) c.args.point c.args.string c.requires.tried
    c.in-Ok.joining c.in-Ok.ensures

pub returns-in-Ok-join_within_rules : goal.returns-in-Ok-join_within_rules
returns-in-Ok-join_within_rules g c =
    let number = (draft.joining-number (map_of c.args.draft.now) c.args.point c.args.string c.requires.tried c.in-Ok.joining c.in-Ok.ensures) in
    let it = c.in-Ok-join_within_rules in
    record {
      played = played-with (subst (λ (i : ℕ). IsPlayed (Join c.args.point i) c.args.draft.now c.join_within_rules.new.draft (Ok it.joined)) number it.ensures.played);
      edit = ap edit_of c.record_of_join.ensures ∙ ap (λ (p : ℕ). Join p c.args.string) it.ensures.point;
      holds = subst (λ (r : SmallRecord). Holds r (map_of c.args.draft.now)) (sym c.record_of_join.ensures)
          (subst (λ (i : ℕ). Holds (join_record it.joined i) (map_of c.args.draft.now)) number it.ensures.holds);
    }

pub returns-in-Err : goal.returns-in-Err
returns-in-Err g c =
    subst (λ (i : ℕ). IsTrialOf (Join c.args.point i) c.args.draft.now c.join_within_rules.new.draft (Err c.in-Err.refusal)) (draft.joining-number (map_of c.args.draft.now) c.args.point c.args.string c.requires.tried c.in-Ok.joining c.in-Ok.ensures)
    (passes-on _ (refl, refl) c.in-Err.ensures.played)
