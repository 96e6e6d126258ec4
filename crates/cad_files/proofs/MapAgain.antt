-- A valid map is the map of its own rows.
use Rattle.std.proofs.Common.{◌≡◌, ℕ, ◌≤◌, refl, sym, ap, subst, List, [], ◌∷◌, length, map, Option, Some, None, arith}
use Rattle.std.specs.Prelude.{unwrap_or}
use Rattle.std.specs.List.{Contains}
use Rattle.cad_rows.specs.declared.names.Face.{Face}
use Rattle.cad_rows.specs.declared.names.Face.TheVariants.{Outside}
use Rattle.cad_rows.specs.declared.rows.StringRow.{StringRow}
use Rattle.cad_rings.specs.Cycle.{Side, opposite}
use Rattle.cad_map.specs.Map.{Map, all_corners, left_face, right_face, side_of}
use Rattle.cad_map.specs.Valid.{IsValid}
use Rattle.cad_map.proofs.CallerLemmas.{All-follows, All-from_each, Contains-first, map-Contains, both_sides, in_all, side-face}
use Rattle.cad_files.specs.Follower.{followers}
use Rattle.cad_files.specs.Building.{map_of, IsMapOf, plan_string_of, rows_of}
use Rattle.cad_files.specs.declared.rows.PlanString.{PlanString}
use Rattle.cad_files.proofs.OneFollower.{one_follower}

-- the rows of the plan's strings are the map's
pub string_rows : (m : Map) (strings : List StringRow) → map (λ (s : PlanString). s.row) (map (plan_string_of m) strings) ≡ strings
string_rows m [] = refl
string_rows m (s ∷ strings) = ap (λ (l : List StringRow). s ∷ l) (string_rows m strings)

-- the map of the rows, without rings
pub without_rings : (m : Map) → map_of (rows_of m) ≡ record { sources = m.sources; points = m.points; parcels = m.parcels; strings = m.strings; retired = m.retired; boundaries = [] }
without_rings m = λ i. record { sources = m.sources; points = m.points; parcels = m.parcels; strings = string_rows m m.strings i; retired = m.retired; boundaries = [] }

pub same_followers : (m : Map) (s : Side) → followers (map_of (rows_of m)) s ≡ followers m s
unfolding followers
same_followers m s = ap (λ (n : Map). followers n s) (without_rings m)

some_face : (o : Option Face) (f : Face) → o ≡ Some f → o ≡ Some (unwrap_or o Outside)
some_face None f is = cc
some_face (Some g) f is = refl

module _ (m : Map) (valid : IsValid m) where
  pub left_known : (s : StringRow) → Contains m.strings s → left_face m s ≡ Some (plan_string_of m s).left
  left_known s there = let f = side-face m valid (side_of s) (in_all m valid (side_of s) (both_sides m s there).0) in some_face (left_face m s) f.0 f.1

  pub right_known : (s : StringRow) → Contains m.strings s → right_face m s ≡ Some (plan_string_of m s).right
  right_known s there = let f = side-face m valid (opposite (side_of s)) (in_all m valid (opposite (side_of s)) (both_sides m s there).1) in some_face (right_face m s) f.0 f.1

  pub map_again : IsMapOf (rows_of m) m
  map_again =
      let strings = map (plan_string_of m) m.strings in
      record {
        sources = refl;
        points = refl;
        parcels = refl;
        retired = refl;
        rings = record {
          rows = sym (string_rows m m.strings);
          two = All-follows (λ b. 3 ≤ length b.ring) (λ b. 2 ≤ length b.ring) (λ b three. omega (arith, three)) m.boundaries valid.sound.v5.three;
          once = valid.sound.v5.once;
          canonical = valid.sound.v1.canonical;
          followers = All-from_each (λ c. Contains (followers m (c.before, c.at)) c.after) (all_corners m) (λ c h. subst (λ (l : List ℕ). Contains l c.after) (sym (one_follower m valid c h)) (Contains-first c.after []));
          left = All-from_each (λ (s : PlanString). left_face m s.row ≡ Some s.left) strings (λ s h. let from = map-Contains (plan_string_of m) m.strings s h in subst (λ (t : PlanString). left_face m t.row ≡ Some t.left) from.2 (left_known from.0 from.1));
          right = All-from_each (λ (s : PlanString). right_face m s.row ≡ Some s.right) strings (λ s h. let from = map-Contains (plan_string_of m) m.strings s h in subst (λ (t : PlanString). right_face m t.row ≡ Some t.right) from.2 (right_known from.0 from.1));
        };
      }
