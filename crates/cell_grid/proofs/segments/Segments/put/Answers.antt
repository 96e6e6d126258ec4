use Rattle.std.proofs.Common.{◌≤◌, List, ◌∷◌, ◌++◌, []}
use Rattle.std.specs.Prelude.{count_by}
use Rattle.std.specs.List.{Contains}
use Rattle.cell_grid.specs.declared.entry.Entry.{Entry}
use Rattle.cell_grid.specs.declared.segments.Level.TheVariants.{SmallSquares, Squares, LanesEast, LanesNorth, Long}
use Rattle.cell_grid.specs.Entries.{is_same_entry}
use Rattle.cell_grid.specs.Spread.{IsSoundEntry}
use Rattle.cell_grid.proofs.Spreads.{count_pushed}
use Rattle.cell_grid.proofs.Levels.{unmoved, on_ok, on_err, either, long-more}
use Rattle.cell_grid.proofs.Together.{each-push}
use Rattle.cell_grid.proofs.Layered.{put-at}
use Rattle.cell_grid.proofs.segments.Segments.put.Goals as goal

pub returns-in-SmallSquares : goal.returns-in-SmallSquares
returns-in-SmallSquares c =
    put-at _ c.requires.spread SmallSquares _ _ c.in-SmallSquares.ensures _ c.put.ensures

pub returns-in-Squares : goal.returns-in-Squares
returns-in-Squares c =
    put-at _ c.requires.spread Squares _ _ c.in-Squares.ensures _ c.put-in-Squares.ensures

pub returns-in-LanesEast : goal.returns-in-LanesEast
returns-in-LanesEast c =
    put-at _ c.requires.spread LanesEast _ _ c.in-LanesEast.ensures _ c.put-in-LanesEast.ensures

pub returns-in-LanesNorth : goal.returns-in-LanesNorth
returns-in-LanesNorth c =
    put-at _ c.requires.spread LanesNorth _ _ c.in-LanesNorth.ensures _ c.put-in-LanesNorth.ensures

pub returns-in-Long : goal.returns-in-Long
returns-in-Long c =
    let was = c.requires.spread in
    let e = c.args.entry in
    let r = c.put-in-Long.result in
    let told = c.put-in-Long.ensures in
    let xs = c.args.self.now.long.entries.items in
    let ys = c.put-in-Long.new.self.entries.items in
    put-at _ was Long _ e c.in-Long.ensures r (record {
      size = tt;
      spread = (
        either (λ (l : List Entry). (x : Entry) → count_by (is_same_entry x) l ≤ 1) r xs ys
            (xs ++ e ∷ []) told.put told.err
            (λ x. count_pushed xs e x (λ h. c.requires.other (Long, h)) (was.long_once x)) was.long_once,
        either (λ (l : List Entry). (x : Entry) → Contains l x → IsSoundEntry x) r xs ys
            (xs ++ e ∷ []) told.put told.err
            (each-push IsSoundEntry xs e was.long_sound c.requires.sound) was.long_sound,
      );
      put = on_ok r (λ is. rw is (long-more xs e)) told.put;
      err = on_err r (λ is. rw is (λ x. unmoved _)) told.err;
    })
