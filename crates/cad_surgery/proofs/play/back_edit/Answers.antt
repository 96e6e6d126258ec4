use Rattle.std.proofs.Common.{inl, inr}
use Rattle.std.proofs.lemmas.Result.{on_ok_weaker}
use Rattle.map_parts.specs.Parts.{map_of}
use Rattle.cad_surgery.proofs.GridSteps.{idle, made-by}
use Rattle.cad_surgery.proofs.Trials.{rows-of}
use Rattle.cad_surgery.proofs.play.back_edit.Goals as goal

pub back_split-requires-clause-split : goal.back_split-requires-clause-split
back_split-requires-clause-split g c =
    rw c.in-Split.is tt

pub back_join-requires-clause-join : goal.back_join-requires-clause-join
back_join-requires-clause-join g c =
    rw c.in-Join.is tt

pub back_added-requires-clause-parcel : goal.back_added-requires-clause-parcel
back_added-requires-clause-parcel g c = elim c.in-Divide.is [ inl it ↦ rw it.9 tt | inr it ↦ rw it.7 tt ]

pub back_merge-requires-clause-merger : goal.back_merge-requires-clause-merger
back_merge-requires-clause-merger g c = elim c.in-MergeAlong.is [ inl it ↦ rw it.8 tt | inr it ↦ rw it.6 tt ]

pub unmake_rows-requires-clause-alone : goal.unmake_rows-requires-clause-alone
unmake_rows-requires-clause-alone g c =
    rows-of c.args.change.now c.in_default.not-Split c.in_default.not-Join c.in_default.not-Enclose c.in_default.not-Divide
    c.in_default.not-MergeAlong c.in_default.not-MergeIsland

pub unmake_rows-requires-clause-made : goal.unmake_rows-requires-clause-made
unmake_rows-requires-clause-made g c =
    let b = c.requires.beside.made in
    (b.0, made-by c.args.change.now b.0 (map_of c.args.draft.now) b.1, b.1.leads.is)

pub returns-in_default : goal.returns-in_default
returns-in_default g c = record {
  before = on_ok_weaker c.unmake_rows.result (λ f m belongs. f m (made-by c.args.change.now m (map_of c.args.draft.now) belongs) belongs.leads.is) c.unmake_rows.ensures.before;
  err = c.unmake_rows.ensures.err;
  grid = c.unmake_rows.ensures.beside.grid;
  proper = c.unmake_rows.ensures.beside.proper c.requires.beside.proper;
  work = λ m belongs. idle c.args.draft.now c.unmake_rows.new.self _ c.unmake_rows.ensures.beside.table;
}
