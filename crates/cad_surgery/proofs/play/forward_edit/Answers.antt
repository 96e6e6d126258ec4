use Rattle.std.proofs.Common.{inl, inr, subst}
use Rattle.cad_map.specs.Valid.{IsValid}
use Rattle.map_parts.specs.Parts.{map_of}
use Rattle.cad_surgery.proofs.GridSteps.{idle, made-by, tried-of}
use Rattle.cad_surgery.proofs.Trials.{rows-of}
use Rattle.cad_surgery.proofs.play.forward_edit.Goals as goal

pub forward_split-requires-clause-split : goal.forward_split-requires-clause-split
forward_split-requires-clause-split g c =
    rw c.in-Split.is tt

pub forward_join-requires-clause-tried : goal.forward_join-requires-clause-tried
forward_join-requires-clause-tried g c =
    let m = map_of c.args.draft.now in
    let tried = tried-of c.args.change.now m (made-by c.args.change.now m c.requires.beside.made.0 c.requires.beside.made.1) c.requires.given in
    rw c.in-Join.is at tried

pub forward_join-requires-clause-leads : goal.forward_join-requires-clause-leads
forward_join-requires-clause-leads g c =
    let belongs = c.requires.beside.made.1 in
    let valid = subst IsValid belongs.leads.is belongs.leads.valid in
    rw c.in-Join.is at valid

pub forward_added-requires-clause-parcel : goal.forward_added-requires-clause-parcel
forward_added-requires-clause-parcel g c = elim c.in-Divide.is [ inl it ↦ rw it.9 tt | inr it ↦ rw it.7 tt ]

pub forward_merge-requires-clause-merger : goal.forward_merge-requires-clause-merger
forward_merge-requires-clause-merger g c = elim c.in-MergeAlong.is [ inl it ↦ rw it.8 tt | inr it ↦ rw it.6 tt ]

pub remake_rows-requires-clause-alone : goal.remake_rows-requires-clause-alone
remake_rows-requires-clause-alone g c =
    rows-of c.args.change.now c.in_default.not-Split c.in_default.not-Join c.in_default.not-Enclose c.in_default.not-Divide
    c.in_default.not-MergeAlong c.in_default.not-MergeIsland

pub remake_rows-requires-clause-made : goal.remake_rows-requires-clause-made
remake_rows-requires-clause-made g c =
    made-by c.args.change.now (map_of c.args.draft.now) c.requires.beside.made.0 c.requires.beside.made.1

pub returns-in-Join : goal.returns-in-Join
returns-in-Join g c = rw c.in-Join.is c.forward_join.ensures

pub returns-in_default : goal.returns-in_default
returns-in_default g c = record {
  becomes = c.remake_rows.ensures.after;
  err = c.remake_rows.ensures.err;
  grid = c.remake_rows.ensures.beside.grid;
  proper = c.remake_rows.ensures.beside.proper c.requires.beside.proper;
  work = idle c.args.draft.now c.remake_rows.new.self _ c.remake_rows.ensures.beside.table;
}
