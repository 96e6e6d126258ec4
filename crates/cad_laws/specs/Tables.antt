-- What each half-edge of a table that is local to one map of an edit makes, with its next, a
-- corner of in the other map.
use Rattle.std.specs.Prelude.{◌≡◌, ◌≢◌, ℕ, List, ◌⊎◌}
use Rattle.std.specs.List.{Contains}
use Rattle.cad_rings.specs.Cycle.{Ring, sides_of, Corner}
use Rattle.cad_rings.specs.Surgery.{sides_of_chain}
use Rattle.cad_map.specs.Chain.{start_of, next_of, end_of, last_but_one, leaving}
use Rattle.cad_map.specs.Map.{Map, all_sides}
use Rattle.cad_map.specs.Views.{ComesAfter}
use Rattle.half_table.specs.declared.half.Half.{Half}
use Rattle.half_table.specs.Rows.{HalfRows}
use Rattle.cad_laws.specs.Local.{IsShown, side_by, next_side_by, beyond, LeadsAlong, GoesOnIn}

-- A chain comes: a division done, or a merger undone. What the chain's own halves go on to is told
-- by the chain.
pub record GoesOnParted (whole parted : Map) (rows : HalfRows) (chain : List ℕ)
    (first last : Corner) : Type 0 where
  pub stays : (h : Half) → IsShown whole h → next_side_by rows h ≢ leaving first
      → next_side_by rows h ≢ leaving last → GoesOnIn parted rows h
  pub to_start : (h : Half) → IsShown whole h → next_side_by rows h ≡ leaving first
      → ComesAfter parted (side_by rows h) (next_of chain)
  pub to_end : (h : Half) → IsShown whole h → next_side_by rows h ≡ leaving last
      → ComesAfter parted (side_by rows h) (last_but_one chain)

-- A chain goes: a merger done, or a division undone.
pub record GoesOnWhole (whole parted : Map) (rows : HalfRows) (chain : List ℕ)
    (first last : Corner) : Type 0 where
  pub stays : (h : Half) → IsShown parted h → ¬ LeadsAlong (sides_of_chain chain) (side_by rows h)
      → ¬ LeadsAlong (sides_of_chain chain) (next_side_by rows h) → GoesOnIn whole rows h
  pub to_start : (h : Half) → IsShown parted h
      → next_side_by rows h ≡ (start_of chain, next_of chain)
      → ComesAfter whole (side_by rows h) first.after
  pub to_end : (h : Half) → IsShown parted h
      → next_side_by rows h ≡ (end_of chain, last_but_one chain)
      → ComesAfter whole (side_by rows h) last.after
  -- where the halves that lead to the chain's ends go on to
  pub after_start : (g : Half) → IsShown parted g
      → side_by rows g ≡ (next_of chain, start_of chain)
      → beyond rows g ≡ first.after
  pub after_end : (g : Half) → IsShown parted g
      → side_by rows g ≡ (last_but_one chain, end_of chain)
      → beyond rows g ≡ last.after
  -- from elsewhere the chain is entered at its two ends alone
  pub enters : (h : Half) → IsShown parted h → ¬ LeadsAlong (sides_of_chain chain) (side_by rows h)
      → LeadsAlong (sides_of_chain chain) (next_side_by rows h)
      → (next_side_by rows h ≡ (start_of chain, next_of chain))
      ⊎ (next_side_by rows h ≡ (end_of chain, last_but_one chain))

-- An island comes: an enclosure done, or a merger round an island undone. Each half keeps its next.
abbrev pub GoesOnWith : Map → Map → HalfRows → Type 0
GoesOnWith whole parted rows = (h : Half) → IsShown whole h → GoesOnIn parted rows h

-- An island goes: each half elsewhere keeps its next, which is elsewhere too.
abbrev pub GoesOnWithout : Map → Map → HalfRows → Ring → Type 0
GoesOnWithout whole parted rows ring =
    (h : Half) → IsShown parted h → ¬ LeadsAlong (sides_of ring) (side_by rows h)
    → GoesOnIn whole rows h × (¬ LeadsAlong (sides_of ring) (next_side_by rows h))

-- A point between a and b goes: a join done, or a split undone.
pub record GoesOnJoined (m after : Map) (rows : HalfRows) (p a b : ℕ) : Type 0 where
  pub stays : (h : Half) → IsShown m h → (side_by rows h).0 ≢ p → (side_by rows h).1 ≢ p
      → beyond rows h ≢ p → GoesOnIn after rows h
  pub to_first : (h : Half) → IsShown m h → next_side_by rows h ≡ (a, p)
      → ComesAfter after (side_by rows h) b
  pub to_second : (h : Half) → IsShown m h → next_side_by rows h ≡ (b, p)
      → ComesAfter after (side_by rows h) a
  pub from_first : (g : Half) → IsShown m g → side_by rows g ≡ (p, a)
      → ComesAfter after (b, a) (beyond rows g)
  pub from_second : (g : Half) → IsShown m g → side_by rows g ≡ (p, b)
      → ComesAfter after (a, b) (beyond rows g)

-- It comes: a split done, or a join undone. A half whose side was there keeps it.
pub record GoesOnSplit (m after : Map) (rows : HalfRows) (p a b : ℕ) : Type 0 where
  pub stays : (h : Half) → IsShown after h → Contains (all_sides m) (side_by rows h)
      → next_side_by rows h ≢ (a, b) → next_side_by rows h ≢ (b, a) → GoesOnIn m rows h
  pub to_first : (h : Half) → IsShown after h → Contains (all_sides m) (side_by rows h)
      → next_side_by rows h ≡ (a, b) → ComesAfter m (side_by rows h) p
  pub to_second : (h : Half) → IsShown after h → Contains (all_sides m) (side_by rows h)
      → next_side_by rows h ≡ (b, a) → ComesAfter m (side_by rows h) p
  pub from_first : (g : Half) → IsShown after g → side_by rows g ≡ (b, a)
      → ComesAfter m (p, a) (beyond rows g)
  pub from_second : (g : Half) → IsShown after g → side_by rows g ≡ (a, b)
      → ComesAfter m (p, b) (beyond rows g)
