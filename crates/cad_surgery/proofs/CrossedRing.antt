-- Where the chain of a division crosses a face: its corners, the ring that it cuts, and what is left of it.
use Rattle.std.proofs.Common.{◌≡◌, ◌≢◌, ℕ, suc, ◌+◌, ◌≤◌, Bool, true, false, refl, sym, ap, ◌∙◌, List, [], ◌∷◌, map, length, cond, Some, None, arith}
use Rattle.std.specs.Prelude.{slice_index_or, nat_lt}
use Rattle.std.specs.List.{Contains, position, position_or_len}
use Rattle.std.proofs.lemmas.List.Sorted.{Contains-permutation, IsPermutation-sym, sum_by-IsPermutation}
use Rattle.cad_rings.specs.Cycle.{Ring, Side, Corner, is_side, has_side, sides_of, times_along, IsSameRing}
use Rattle.cad_rings.specs.Surgery.{LeavesOnce}
use Rattle.cad_rings.proofs.CallerLemmas.{is_side-same, sides_of-same, left_ring-same}
use Rattle.cad_map.specs.declared.boundary.Boundary.{Boundary}
use Rattle.cad_map.specs.Chain.{leaving, inner_of}
use Rattle.cad_map.specs.Division.{place_of}
use Rattle.cad_map.specs.Map.{Map}
use Rattle.cad_map.specs.Rings.{HasWholeRings}
use Rattle.cad_map.proofs.CallerLemmas.{CanDivide as IsAllowed, All-at_each, All-from_each, Contains-has_side, allowed, can-divide, count-some, distinct-whole, has_first, has_side-Contains, is_side-refl, once-in_ring, place-of}
use Rattle.cad_edit.proofs.CutRing.{place-found, two-places}
use Rattle.half_table.specs.declared.half.Half.{Half}
use Rattle.half_table.specs.Rows.{HalfRows, has, origin_of, cycle}
use Rattle.half_paths.specs.Path.{AreIn}
use Rattle.cad_laws.specs.Faces.{left_of_chain}
use Rattle.cad_laws.specs.Local.{IsShown, side_by}
use Rattle.cad_laws.specs.Tried.{IsTried}
use Rattle.cad_surgery.specs.declared.edits.given.NewParcel.{NewParcel}
use Rattle.cad_surgery.specs.Divisions.{divided_by}
use Rattle.map_parts.specs.Parts.{Parts, FitTogether, map_of}
use Rattle.map_parts.proofs.CycleRings.{cycle-each, cycle-two}
use Rattle.map_parts.proofs.PartsRings.{in_table, other}
use Rattle.map_parts.proofs.RingsOfHalves.{cycle-same_ring}
use Rattle.map_parts.proofs.ToHalves.{fits}
use Rattle.map_parts.proofs.WholeStrings.{strings-once}

-- what a division that is tried has
pub can-be : (m : Map) (d : NewParcel) → IsTried m (divided_by d) → IsAllowed m d.face d.points.now d.strings.now d.parcel d.label.now d.source
can-be m d tried = can-divide m d.face d.points.now d.strings.now d.parcel d.label.now d.source tried.given (allowed m (divided_by d) tried.allowed)

-- ---- Sides at their places

-- the first place at which a side stands has it
side-at : (s : Side) (sides : List Side) → slice_index_or sides (position_or_len (is_side s) sides) s ≡ s
side-at s [] = refl
side-at s (t ∷ sides) = by (is_side s t) refl (side-at s sides)
  where
    by : (b : Bool) → is_side s t ≡ b → slice_index_or sides (position_or_len (is_side s) sides) s ≡ s
        → slice_index_or (t ∷ sides) (position_or_len (is_side s) (t ∷ sides)) s ≡ s
    by true is rest = rw is (sym (is_side-same s t is))
    by false is rest =
        let next : 1 + position_or_len (is_side s) sides ≡ suc (position_or_len (is_side s) sides) = omega arith in
        rw is (rw next rest)

place-is : (s : Side) (ring : Ring) → has_side s (sides_of ring) ≡ true → place_of s ring ≡ position_or_len (is_side s) (sides_of ring)
place-is s ring there = by (nat_lt (position_or_len (is_side s) (sides_of ring)) (length (sides_of ring))) refl (place-found s ring there)
  where
    by : (t : Bool) → nat_lt (position_or_len (is_side s) (sides_of ring)) (length (sides_of ring)) ≡ t → position (is_side s) (sides_of ring) ≡ Some (place_of s ring)
        → place_of s ring ≡ position_or_len (is_side s) (sides_of ring)
    by true is found = rw is refl
    by false is found = absurd (none (rw is at found))
      where
        none : {n : ℕ} → None ≡ Some n → ⊥
        none e = cc

leaves : (s : Side) (ring : Ring) → has_side s (sides_of ring) ≡ true → times_along s ring ≡ 1 → LeavesOnce (place_of s ring) s ring
leaves s ring there once = record {
  within = (place-of s ring there).within;
  is = ap (λ (i : ℕ). slice_index_or (sides_of ring) i s) (place-is s ring there) ∙ side-at s (sides_of ring);
  once = once;
}

-- ---- A ring of a map, written from another point on

module _ (m : Map) (whole : HasWholeRings m) (cut : Boundary) (there : Contains m.boundaries cut) (ring : Ring) (same : IsSameRing cut.ring ring) where
  pub side-on : (s : Side) → Contains (sides_of cut.ring) s → has_side s (sides_of ring) ≡ true
  side-on s on = Contains-has_side s (sides_of ring) (Contains-permutation (sides_of cut.ring) (sides_of ring) s (sides_of-same cut.ring ring same) on)

  pub side-from : (s : Side) → has_side s (sides_of ring) ≡ true → Contains (sides_of cut.ring) s
  side-from s on =
      Contains-permutation (sides_of ring) (sides_of cut.ring) s (IsPermutation-sym (sides_of cut.ring) (sides_of ring) (sides_of-same cut.ring ring same))
      (has_side-Contains s (sides_of ring) on)

  once : (s : Side) → Contains (sides_of cut.ring) s → times_along s cut.ring ≡ 1
  once s on =
      let two = All-at_each (λ b. 2 ≤ length b.ring) m.boundaries cut (distinct-whole m whole).two there in
      let begins = has_first cut.ring two in
      let few = once-in_ring m.boundaries (distinct-whole m whole) cut there begins.0 begins.1 s in
      let some = count-some (is_side s) (sides_of cut.ring) s on (is_side-refl s) in
      omega (arith, few, some)

  once-there : (s : Side) → Contains (sides_of cut.ring) s → times_along s ring ≡ 1
  once-there s on = sum_by-IsPermutation (λ (t : Side). cond (is_side s t) 1 0) (sides_of cut.ring) (sides_of ring) (sides_of-same cut.ring ring same) ∙ once s on

  -- what is left of a chain in it is the same list
  pub left-same : (chain : List ℕ) (first last : Corner) → Contains (sides_of cut.ring) (leaving first) → Contains (sides_of cut.ring) (leaving last)
      → first.at ≢ last.at → left_of_chain chain first last ring ≡ left_of_chain chain first last cut.ring
  left-same chain first last on also apart =
      let s = leaving first in
      let t = leaving last in
      let here = Contains-has_side s (sides_of cut.ring) on in
      let here_too = Contains-has_side t (sides_of cut.ring) also in
      sym (left_ring-same (inner_of chain) (place_of s cut.ring) (place_of t cut.ring) cut.ring (place_of s ring) (place_of t ring) ring (record {
        same = same;
        two = two-places s t cut.ring here here_too apart;
        two_there = two-places s t ring (side-on s on) (side-on t also) apart;
        first = s;
        first_here = leaves s cut.ring here (once s on);
        first_there = leaves s ring (side-on s on) (once-there s on);
        second = t;
        second_here = leaves t cut.ring here_too (once t also);
        second_there = leaves t ring (side-on t also) (once-there t also);
      }))

-- ---- The ring of a half of the parts

module _ (d : Parts) (fit : FitTogether d) (h : Half) (shown : IsShown (map_of d) h) where
  abbrev rows : HalfRows
  rows = d.table.rows

  pub half-in : has rows h ≡ true
  half-in = in_table d fit h shown

  -- all halves round it are in the table, and they are two or more
  pub round-in : AreIn rows (cycle rows h)
  round-in =
      All-from_each (λ g. has rows g ≡ true) (cycle rows h) (λ g among.
      in_table d fit g (cycle-each rows fit.linked h half-in (λ x. IsShown (map_of d) x) fit.inside shown g among))

  pub round-long : 2 ≤ length (map (origin_of rows) (cycle rows h))
  round-long = cycle-two rows fit.linked h half-in (other d fit h shown)

  -- the points round it are those of the ring with its side
  pub round-same : HasWholeRings (map_of d) → (b : Boundary) → Contains (map_of d).boundaries b → Contains (sides_of b.ring) (side_by rows h)
      → IsSameRing b.ring (map (origin_of rows) (cycle rows h))
  round-same whole b there on = cycle-same_ring (map_of d) rows whole (fits d fit (strings-once (map_of d) whole)).local h shown b there on
