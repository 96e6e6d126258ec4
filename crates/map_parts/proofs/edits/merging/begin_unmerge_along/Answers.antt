use Rattle.std.proofs.Common.{◌∷◌, ℕ, ◌∙◌, List, ap, subst}
use Rattle.half_table.specs.Count.{ticked}
use Rattle.map_parts.specs.FaceTicks.{ticks_to_bring_across}
use Rattle.map_parts.specs.TableGrown.{HasBesides}
use Rattle.map_parts.proofs.RoomMade.{on-err, fit-kept, grown-has, grown-origins}
use Rattle.map_parts.proofs.UnmergingBegun.{gone-different, placed-numbers}
use Rattle.map_parts.proofs.UnmergingBegun as begun
use Rattle.map_parts.proofs.edits.merging.begin_unmerge_along.Goals as goal

pub make_unmerge_room-requires : goal.make_unmerge_room-requires
make_unmerge_room-requires g c = record {
  linked = c.requires.fits.fits.local.linked;
  new = c.requires.new;
  different =
      gone-different c.requires.map c.args.keeper.now c.args.gone.row.number (c.args.first.now ∷ c.args.rest.now) c.requires.is.tried c.requires.is.shared c.args.gone.strings.items c.requires.numbers_are;
}

pub unmerge_along-requires : goal.unmerge_along-requires
unmerge_along-requires g c = begun.undo-can c.requires c.in_ok-make_unmerge_room.ensures.added

pub returns-in_err-make_unmerge_room-clause-err : goal.returns-in_err-make_unmerge_room-clause-err
returns-in_err-make_unmerge_room-clause-err g c = λ can. on-err _ (fit-kept (begun.last can) can.fits c.make_unmerge_room.ensures.seen c.in_err-make_unmerge_room.ensures.err)

pub returns-clause-fits : goal.returns-clause-fits
returns-clause-fits g c = λ can. c.unmerge_along.ensures.fits (begun.undo-can can c.in_ok-make_unmerge_room.ensures.added)

pub returns-clause-has : goal.returns-clause-has
returns-clause-has g c =
    subst (λ (l : List ℕ). HasBesides l c.args.table.now.rows c.unmerge_along.new.table.rows) (placed-numbers c.args.gone.strings.items)
    (grown-has c.in_ok-make_unmerge_room.ensures.added c.unmerge_along.ensures.halves)

pub returns-clause-origin : goal.returns-clause-origin
returns-clause-origin g c = grown-origins c.in_ok-make_unmerge_room.ensures.added c.unmerge_along.ensures.halves c.requires.new

pub returns-clause-work : goal.returns-clause-work
returns-clause-work g c =
    c.unmerge_along.ensures.work
    ∙ ap (ticked (ticks_to_bring_across c.unmerge_along.new.table.rows c.args.first.now c.args.rest.now c.args.moved.now)) c.in_ok-make_unmerge_room.ensures.work
