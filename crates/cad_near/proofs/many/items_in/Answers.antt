use Rattle.std.proofs.Common.{◌++◌, subst, List, ℕ}
use Rattle.std.specs.List.{AllByRecursion, Contains}
use Rattle.cad_near.specs.Many.{AreNamed}
use Rattle.cad_near.specs.Near.{OfPoint}
use Rattle.cad_valid.specs.Placed.{placed_point}
use Rattle.cad_near.proofs.ListsLeft.{where_ok}
use Rattle.cad_near.proofs.ManyStrings.{all-in}
use Rattle.cad_near.proofs.many.items_in.Goals as goal

pub returns : goal.returns
returns g c =
    let m = g.M.MapView.map c.args.map.now in
    let items = c.in_ok-items.items.items in
    let others = c.in_ok-others.others.items in
    let all = where_ok c.append.result c.ok.result c.in_ok-ok.field-0 items (items ++ others) c.append.new.self.items c.in_ok-ok.was c.ok.ensures.value c.append.ensures.items in
    all-in m c.args.grid.now c.requires.held c.args.reach.now c.in_ok-strings.strings.items c.in_ok-points.points.items items others c.append.new.self.items
    c.in_ok-strings.ensures c.in_ok-points.ensures
    (subst (λ (l : List ℕ). AreNamed m l items) c.as_slice.ensures.value c.in_ok-items.ensures)
    (subst (AllByRecursion (OfPoint m (λ p. Contains others (placed_point p)))) c.as_slice-2.ensures.value c.in_ok-others.ensures) all
