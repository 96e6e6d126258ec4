-- What a put and a take in one layer, or among the long ones, do to all that is held.
use Rattle.std.proofs.Common.{◌≡◌, ◌≤◌, ◌⊎◌, inl, inr, refl}
use Rattle.std.specs.Prelude.{◌↔◌, Result, OnOk, OnErr, count_by}
use Rattle.std.specs.List.{Contains}
use Rattle.cell_grid.specs.declared.entry.Entry.{Entry}
use Rattle.cell_grid.specs.declared.held_list.HeldList.{HeldList}
use Rattle.cell_grid.specs.declared.layer.Layer.{Layer}
use Rattle.cell_grid.specs.declared.segments.Level.{Level}
use Rattle.cell_grid.specs.declared.segments.Level.TheVariants.{SmallSquares, Squares, LanesEast, LanesNorth, Long}
use Rattle.cell_grid.specs.declared.segments.Segments.{Segments}
use Rattle.cell_grid.specs.Entries.{is_same_entry}
use Rattle.cell_grid.specs.Spread.{IsSpread, IsSoundEntry}
use Rattle.cell_grid.specs.Kept.{kept, level_of, AreSpread, StandsAt, HoldsSame, HoldsOneMore, HoldsOneLess}
use Rattle.cell_grid.proofs.Levels.{unmoved, IsSameElsewhere, IsPutAt, IsTakenAt, put-more, put-same, put-levels, take-levels, take-less}

-- what has the entries of a level
abbrev pub PartAt : Level → Type 0
PartAt SmallSquares = Layer
PartAt Squares = Layer
PartAt LanesEast = Layer
PartAt LanesNorth = Layer
PartAt Long = HeldList

-- the segments with another part at a level
abbrev pub with_part : Segments → (level : Level) → PartAt level → Segments
with_part s SmallSquares p = record { small_squares = p; squares = s.squares; lanes_east = s.lanes_east; lanes_north = s.lanes_north; long = s.long }
with_part s Squares p = record { small_squares = s.small_squares; squares = p; lanes_east = s.lanes_east; lanes_north = s.lanes_north; long = s.long }
with_part s LanesEast p = record { small_squares = s.small_squares; squares = s.squares; lanes_east = p; lanes_north = s.lanes_north; long = s.long }
with_part s LanesNorth p = record { small_squares = s.small_squares; squares = s.squares; lanes_east = s.lanes_east; lanes_north = p; long = s.long }
with_part s Long p = record { small_squares = s.small_squares; squares = s.squares; lanes_east = s.lanes_east; lanes_north = s.lanes_north; long = p }

-- the other part has cells of the same size
abbrev pub HasSizeAt : Segments → (level : Level) → PartAt level → Type 0
HasSizeAt s SmallSquares p = p.size ≡ s.small_squares.size
HasSizeAt s Squares p = p.size ≡ s.squares.size
HasSizeAt s LanesEast p = p.size ≡ s.lanes_east.size
HasSizeAt s LanesNorth p = p.size ≡ s.lanes_north.size
HasSizeAt s Long p = Unit {0}

-- the entries in the part are spread over its cells; of the long ones each is sound and stands once
abbrev pub IsSpreadAt : (level : Level) → PartAt level → Type 0
IsSpreadAt SmallSquares p = IsSpread p.size p.lists
IsSpreadAt Squares p = IsSpread p.size p.lists
IsSpreadAt LanesEast p = IsSpread p.size p.lists
IsSpreadAt LanesNorth p = IsSpread p.size p.lists
IsSpreadAt Long p = ((e : Entry) → count_by (is_same_entry e) p.entries.items ≤ 1) × ((e : Entry) → Contains p.entries.items e → IsSoundEntry e)

elsewhere-with : (s : Segments) (level : Level) (p : PartAt level)
    → IsSameElsewhere (kept s) level (kept (with_part s level p))
elsewhere-with s SmallSquares p SmallSquares = inl refl
elsewhere-with s SmallSquares p Squares = inr (λ x. unmoved _)
elsewhere-with s SmallSquares p LanesEast = inr (λ x. unmoved _)
elsewhere-with s SmallSquares p LanesNorth = inr (λ x. unmoved _)
elsewhere-with s SmallSquares p Long = inr (λ x. unmoved _)
elsewhere-with s Squares p SmallSquares = inr (λ x. unmoved _)
elsewhere-with s Squares p Squares = inl refl
elsewhere-with s Squares p LanesEast = inr (λ x. unmoved _)
elsewhere-with s Squares p LanesNorth = inr (λ x. unmoved _)
elsewhere-with s Squares p Long = inr (λ x. unmoved _)
elsewhere-with s LanesEast p SmallSquares = inr (λ x. unmoved _)
elsewhere-with s LanesEast p Squares = inr (λ x. unmoved _)
elsewhere-with s LanesEast p LanesEast = inl refl
elsewhere-with s LanesEast p LanesNorth = inr (λ x. unmoved _)
elsewhere-with s LanesEast p Long = inr (λ x. unmoved _)
elsewhere-with s LanesNorth p SmallSquares = inr (λ x. unmoved _)
elsewhere-with s LanesNorth p Squares = inr (λ x. unmoved _)
elsewhere-with s LanesNorth p LanesEast = inr (λ x. unmoved _)
elsewhere-with s LanesNorth p LanesNorth = inl refl
elsewhere-with s LanesNorth p Long = inr (λ x. unmoved _)
elsewhere-with s Long p SmallSquares = inr (λ x. unmoved _)
elsewhere-with s Long p Squares = inr (λ x. unmoved _)
elsewhere-with s Long p LanesEast = inr (λ x. unmoved _)
elsewhere-with s Long p LanesNorth = inr (λ x. unmoved _)
elsewhere-with s Long p Long = inl refl

spread-with : (s : Segments) → AreSpread s → (level : Level) (p : PartAt level) → HasSizeAt s level p
    → IsSpreadAt level p
    → ((m : Level) (x : Entry) → StandsAt (kept (with_part s level p)) m x → m ≡ level_of s x)
    → AreSpread (with_part s level p)
spread-with s was SmallSquares p size spread at =
    record { small_squares = spread; squares = was.squares; lanes_east = was.lanes_east; lanes_north = was.lanes_north; long_once = was.long_once; long_sound = was.long_sound; at_level = rw size at }
spread-with s was Squares p size spread at =
    record { small_squares = was.small_squares; squares = spread; lanes_east = was.lanes_east; lanes_north = was.lanes_north; long_once = was.long_once; long_sound = was.long_sound; at_level = rw size at }
spread-with s was LanesEast p size spread at =
    record { small_squares = was.small_squares; squares = was.squares; lanes_east = spread; lanes_north = was.lanes_north; long_once = was.long_once; long_sound = was.long_sound; at_level = rw size at }
spread-with s was LanesNorth p size spread at =
    record { small_squares = was.small_squares; squares = was.squares; lanes_east = was.lanes_east; lanes_north = spread; long_once = was.long_once; long_sound = was.long_sound; at_level = rw size at }
spread-with s was Long p size spread at =
    record { small_squares = was.small_squares; squares = was.squares; lanes_east = was.lanes_east; lanes_north = was.lanes_north; long_once = spread.0; long_sound = spread.1; at_level = at }

module _ (s : Segments) (was : AreSpread s) (level : Level) (p : PartAt level) (e : Entry)
    (of_e : level ≡ level_of s e) where
  abbrev new : Segments
  new = with_part s level p

  pub put-at : {T E : Type 0} (r : Result T E) → record {
    size : HasSizeAt s level p;
    spread : IsSpreadAt level p;
    put : OnOk r ((x : Entry) → StandsAt (kept new) level x ↔ (StandsAt (kept s) level x ⊎ (x ≡ e)));
    err : OnErr r ((x : Entry) → StandsAt (kept new) level x ↔ StandsAt (kept s) level x);
  } → record {
    spread : AreSpread new;
    put : OnOk r (HoldsOneMore (kept s) e (kept new));
    err : OnErr r (HoldsSame (kept s) (kept new));
  }
  put-at r told =
      let put : IsPutAt r (kept s) level e (kept new) =
      record { elsewhere = elsewhere-with s level p; more = told.put; same = told.err } in record {
        spread = spread-with s was level p told.size told.spread
            (put-levels r (kept s) (kept new) level e put (level_of s) was.at_level of_e);
        put = put-more r (kept s) (kept new) level e put;
        err = put-same r (kept s) (kept new) level e put;
      }

  pub take-at : record {
    size : HasSizeAt s level p;
    spread : IsSpreadAt level p;
    taken : (x : Entry) → StandsAt (kept new) level x ↔ (StandsAt (kept s) level x × ¬ (x ≡ e));
  } → record { spread : AreSpread new; taken : HoldsOneLess (kept s) e (kept new) }
  take-at told =
      let taken : IsTakenAt (kept s) level e (kept new) =
      record { elsewhere = elsewhere-with s level p; less = told.taken } in record {
        spread = spread-with s was level p told.size told.spread
            (take-levels (kept s) level e (level_of s) was.at_level of_e (kept new) taken);
        taken = take-less (kept s) level e (level_of s) was.at_level of_e (kept new) taken;
      }
