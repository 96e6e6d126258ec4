use Rattle.std.proofs.Common.{ℕ, subst, sym}
use Rattle.cad_map.specs.Asked.{GivesInRange}
use Rattle.cad_map.specs.Touched.{GoesStraight}
use Rattle.cad_map.proofs.CallerLemmas.{whole_valid}
use Rattle.edit_records.specs.Record.{Belongs, edit_of}
use Rattle.edit_records.specs.declared.record.SmallRecord.TheVariants.{Join, Move, Split}
use Rattle.edit_records.proofs.AreaRecords.{joined-bent, moved-from, moved-to, off-bent, recut-again, split-apart, split-bent, split-there}
use Rattle.edit_records.proofs.areas.areas_again.Goals as goal

pub sweep-requires : goal.sweep-requires
sweep-requires g c = whole_valid (g.M.MapView.map c.args.map.now) c.requires.made.1.valid

pub bend-requires : goal.bend-requires
bend-requires g c = whole_valid (g.M.MapView.map c.args.map.now) c.requires.made.1.valid

pub straighten-requires : goal.straighten-requires
straighten-requires g c = whole_valid (g.M.MapView.map c.args.map.now) c.requires.made.1.valid

pub returns-in-Move : goal.returns-in-Move
returns-in-Move g c n belongs =
    let m = g.M.MapView.map c.args.map.now in
    let it = c.in-Move in
    let b : Belongs (Move it.point it.from it.to) m n = rw it.is at belongs in
    let given : GivesInRange (edit_of (Move it.point it.from it.to)) =
    rw it.is at c.requires.given in
    c.sweep.ensures m n (moved-from it.point it.from it.to m n given b)
    (moved-to it.point it.from it.to m n given b) c.requires.held

pub returns-in-Split : goal.returns-in-Split
returns-in-Split g c n belongs =
    let m = g.M.MapView.map c.args.map.now in
    let it = c.in-Split in
    let r = Split it.row it.place it.point it.position it.first it.second in
    let b : Belongs r m n = rw it.is at belongs in
    let given : GivesInRange (edit_of r) = rw it.is at c.requires.given in
    c.bend.ensures n it.point (whole_valid n belongs.leads.valid)
    (split-bent it.row it.place it.point it.position it.first it.second m n given b)
    (split-apart it.row it.place it.point it.position it.first it.second m n given b)
    (split-there it.row it.place it.point it.position it.first it.second m n given b)
    c.requires.held

pub returns-in-Join : goal.returns-in-Join
returns-in-Join g c n belongs =
    let m = g.M.MapView.map c.args.map.now in
    let it = c.in-Join in
    let r =
    Join it.row it.place it.first it.first_place it.second it.second_place it.string in
    let b : Belongs r m n = rw it.is at belongs in
    let given : GivesInRange (edit_of r) = rw it.is at c.requires.given in
    c.straighten.ensures n
    (subst (λ (q : ℕ × ℕ). GoesStraight m n it.row.number q.0 q.1) (sym c.far_ends_of-a.ensures)
    (joined-bent it.row it.place it.first it.first_place it.second it.second_place it.string
    m n given b))
    c.requires.held

pub returns-in_default : goal.returns-in_default
returns-in_default g c n belongs =
    let m = g.M.MapView.map c.args.map.now in
    let it = c.in_default in
    let off = off-bent c.args.change.now it.not-Move it.not-Split it.not-Join in
    recut-again c.args.change.now m n c.requires.given belongs c.args.areas.now
    c.forget_recut.new.areas off c.forget_recut.ensures.gone c.forget_recut.ensures.others
    c.requires.held
