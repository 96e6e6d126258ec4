-- Where two corners at a point are each other's reverse, no other string has the point.
-- The two sectors are all directions but two (`in_one_sector`), and by V6 neither has a string;
-- by V4 no two strings lead into one direction.
use Rattle.std.proofs.Common.{◌≡◌, ◌≢◌, ℕ, ◌⊎◌, inl, inr, refl, sym, ap, subst, ◌∙◌, List, Bool, true, false}
use Rattle.std.proofs.lemmas.Bool.{or_cases, eqb-true, eqb-false}
use Rattle.std.specs.Prelude.{◌==◌}
use Rattle.std.specs.List.{Contains}
use Rattle.geo_exact.specs.Sector.{in_sector}
use Rattle.geo_exact.proofs.CallerLemmas.{in_one_sector}
use Rattle.cad_rows.specs.declared.rows.StringRow.{StringRow}
use Rattle.cad_rings.specs.Cycle.{Side, Corner}
use Rattle.cad_rings.specs.Surgery.{corner}
use Rattle.cad_map.specs.Chain.{has_in_sector}
use Rattle.cad_map.specs.Map.{Map, all_sides, all_corners, position_of}
use Rattle.cad_map.specs.Valid.{IsValid}
use Rattle.cad_map.proofs.Walks.ChosenCorners.{none-in_corner}
use Rattle.cad_map.proofs.Lists.Elements.{Contains-map}
use Rattle.cad_map.proofs.Boundaries.FacesBeside.{of_string}
use Rattle.cad_map.proofs.Walks.FirstCorners.{two-each}
use Rattle.cad_map.proofs.Boundaries.RingsOfMap.{whole_valid}
use Rattle.cad_map.proofs.Ends.StringEnds.{Joins, joins-end, joins-far_end, side-joins, IsString, two_ends, end_away, directions_differ}
use Rattle.cad_map.proofs.Walks.AlongRing.{side_before, sides_in-before}

joins-exchanged : (s : StringRow) (p q : ℕ) → Joins s p q → Joins s q p
joins-exchanged s p q j = record { ends = elim j.ends [ inl e ↦ inr e | inr e ↦ inl e ] }

module _ (m : Map) (valid : IsValid m) where
  -- a side is along a string
  string-of : (s : Side) → Contains (all_sides m) s → (t : StringRow) × IsString m valid t s.0 s.1
  string-of s there = let k = of_string m valid s there in (k.string, record { there = k.there; joins = side-joins s m.strings k })

  -- the side before a corner
  side-before : (u v w : ℕ) → Contains (all_corners m) (corner u v w) → Contains (all_sides m) (u, v)
  side-before u v w there =
      subst (λ (l : List Side). Contains l (u, v)) (sides_in-before m.boundaries (two-each m (whole_valid m valid)))
      (Contains-map side_before (all_corners m) (corner u v w) there)

  -- every side that leaves the point leads to one of the two
  pub two-ways : (u v w q : ℕ) → Contains (all_corners m) (corner u v w) → Contains (all_corners m) (corner w v u) → u ≢ w
      → Contains (all_sides m) (v, q) → (q ≡ u) ⊎ (q ≡ w)
  two-ways u v w q forth back apart there = by (q == u) (q == w) refl refl
    where
      su : (t : StringRow) × IsString m valid t v u
      su = let k = string-of (u, v) (side-before u v w forth) in (k.0, record { there = k.1.there; joins = joins-exchanged k.0 u v k.1.joins })

      sw : (t : StringRow) × IsString m valid t v w
      sw = let k = string-of (w, v) (side-before w v u back) in (k.0, record { there = k.1.there; joins = joins-exchanged k.0 w v k.1.joins })

      sq : (t : StringRow) × IsString m valid t v q
      sq = string-of (v, q) there

      away : v ≢ q
      away = two_ends m valid sq.0 v q sq.1

      none : (c : Corner) → Contains (all_corners m) c → c.at ≡ v → has_in_sector m c q ≡ true → ⊥
      none c at stands inside =
          none-in_corner m valid c at sq.0 sq.1.there (joins-end sq.0 c.at q joined)
          (ap (has_in_sector m c) (joins-far_end sq.0 c.at q (λ e. away (sym stands ∙ e)) joined) ∙ inside)
        where
          joined : Joins sq.0 c.at q
          joined = subst (λ (p : ℕ). Joins sq.0 p q) (sym stands) sq.1.joins

      by : (a b : Bool) → (q == u) ≡ a → (q == w) ≡ b → (q ≡ u) ⊎ (q ≡ w)
      by true b is_u is_w = inl (eqb-true q u is_u)
      by false true is_u is_w = inr (eqb-true q w is_w)
      by false false is_u is_w =
          let either = in_one_sector (position_of m v) (position_of m w) (position_of m u) (position_of m q) (record {
            n_away = end_away m valid sw.0 v w sw.1;
            p_away = end_away m valid su.0 v u su.1;
            w_away = end_away m valid sq.0 v q sq.1;
            n_from_p = directions_differ m valid sw.0 su.0 v w u sw.1 su.1 (λ e. apart (sym e));
            n_from_w = directions_differ m valid sw.0 sq.0 v w q sw.1 sq.1 (λ e. eqb-false q w is_w (sym e));
            w_from_p = directions_differ m valid sq.0 su.0 v q u sq.1 su.1 (eqb-false q u is_u);
          }) in
          elim (or_cases (in_sector (position_of m v) (position_of m w) (position_of m u) (position_of m q)) (in_sector (position_of m v) (position_of m u) (position_of m w) (position_of m q)) either) [
            | inl first ↦ absurd (none (corner u v w) forth refl first)
            | inr second ↦ absurd (none (corner w v u) back refl second)
          ]
