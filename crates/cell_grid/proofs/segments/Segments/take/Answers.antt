use Rattle.cell_grid.specs.declared.segments.Level.TheVariants.{SmallSquares, Squares, LanesEast, LanesNorth, Long}
use Rattle.cell_grid.proofs.Spreads.{few_out, stood}
use Rattle.cell_grid.proofs.Levels.{long-less}
use Rattle.cell_grid.proofs.Layered.{take-at}
use Rattle.cell_grid.proofs.segments.Segments.take.Goals as goal

pub returns-in-SmallSquares : goal.returns-in-SmallSquares
returns-in-SmallSquares c =
    take-at _ c.requires.spread SmallSquares _ _ c.in-SmallSquares.ensures c.take.ensures

pub returns-in-Squares : goal.returns-in-Squares
returns-in-Squares c =
    take-at _ c.requires.spread Squares _ _ c.in-Squares.ensures c.take-in-Squares.ensures

pub returns-in-LanesEast : goal.returns-in-LanesEast
returns-in-LanesEast c =
    take-at _ c.requires.spread LanesEast _ _ c.in-LanesEast.ensures c.take-in-LanesEast.ensures

pub returns-in-LanesNorth : goal.returns-in-LanesNorth
returns-in-LanesNorth c =
    take-at _ c.requires.spread LanesNorth _ _ c.in-LanesNorth.ensures c.take-in-LanesNorth.ensures

pub returns-in-Long : goal.returns-in-Long
returns-in-Long c =
    let was = c.requires.spread in
    let e = c.args.entry in
    let told = c.take-in-Long.ensures in
    let xs = c.args.self.now.long.entries.items in
    let ys = c.take-in-Long.new.self.entries.items in
    take-at _ was Long _ e c.in-Long.ensures (record {
      size = tt;
      spread = (
        λ x. few_out xs ys e told x (was.long_once x),
        λ x h. was.long_sound x (stood xs ys e told x h),
      );
      taken = long-less xs e ys told (was.long_once e);
    })
