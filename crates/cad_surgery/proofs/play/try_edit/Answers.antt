use Rattle.std.proofs.Common.{inl, inr, subst, sym}
use Rattle.map_parts.specs.Parts.{map_of}
use Rattle.cad_surgery.specs.Trials.{IsReadyFor, IsTrialOf}
use Rattle.edit_records.proofs.GridEdits.{on_map, split-on}
use Rattle.cad_surgery.proofs.GridSteps.{idle}
use Rattle.cad_surgery.proofs.Trials.{same-split, rows-left}
use Rattle.cad_surgery.proofs.play.try_edit.Goals as goal

pub at-position-requires : goal.at-position-requires
at-position-requires g c =
    let e = c.in-Split in
    on_map e.x e.y (split-on (map_of c.args.draft.now) e.string e.point e.x e.y e.first e.second (rw e.is at c.requires.ready.tried))

pub try_split-requires : goal.try_split-requires
try_split-requires g c =
    let e = c.in-Split in
    let m = map_of c.args.draft.now in
    let same = same-split m c.args.edit.now e.string e.point e.x e.y e.first e.second c.at-position.result c.requires.ready.tried e.is c.at-position.ensures in
    subst (λ d. IsReadyFor d c.args.draft.now c.args.areas.now c.args.touched.now) (sym same) c.requires.ready

pub returns-in-Split : goal.returns-in-Split
returns-in-Split g c =
    let e = c.in-Split in
    let m = map_of c.args.draft.now in
    let same = same-split m c.args.edit.now e.string e.point e.x e.y e.first e.second c.at-position.result c.requires.ready.tried e.is c.at-position.ensures in
    subst (λ d. IsTrialOf d c.args.draft.now c.try_split.new.draft c.try_split.result) same c.try_split.ensures

pub try_join-requires : goal.try_join-requires
try_join-requires g c = rw c.in-Join.is at c.requires.ready

pub returns-in-Join : goal.returns-in-Join
returns-in-Join g c = rw c.in-Join.is c.try_join.ensures

pub try_adding-requires-clause-parcel : goal.try_adding-requires-clause-parcel
try_adding-requires-clause-parcel g c = elim c.in-Divide.is [ inl it ↦ rw it.6 tt | inr it ↦ rw it.6 tt ]

pub try_merge-requires : goal.try_merge-requires
try_merge-requires g c = rw c.in-Merge.is at c.requires.ready

pub returns-in-Merge : goal.returns-in-Merge
returns-in-Merge g c = rw c.in-Merge.is c.try_merge.ensures

pub try_rows-requires-clause-alone : goal.try_rows-requires-clause-alone
try_rows-requires-clause-alone g c =
    rows-left c.args.edit.now c.in_default.not-Split c.in_default.not-Join c.in_default.not-Enclose c.in_default.not-Divide c.in_default.not-Merge

pub returns-in_default : goal.returns-in_default
returns-in_default g c = record {
  played = record {
    made = record {
      becomes = c.try_rows.ensures.made;
      err = c.try_rows.ensures.err;
      grid = c.try_rows.ensures.beside.grid;
      proper = c.try_rows.ensures.beside.proper c.requires.ready.proper;
      work = idle c.args.draft.now c.try_rows.new.draft _ c.try_rows.ensures.beside.table;
    };
    valid = c.try_rows.ensures.valid;
    refused = c.try_rows.ensures.refused;
  };
  edit = c.try_rows.ensures.edit;
  holds = c.try_rows.ensures.holds;
}
