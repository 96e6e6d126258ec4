-- The corners of a plan's rings are empty, since each is that of a side and its follower.
use Rattle.std.proofs.Common.{◌≡◌, refl, sym, ap, ◌∙◌, List, [], ◌∷◌, Bool, true, false, not, true≢false, ◌==◌}
use Rattle.std.specs.Prelude.{◌||◌}
use Rattle.std.specs.List.{AllByRecursion, Contains, list_all}
use Rattle.std.proofs.lemmas.Bool.{eqb-true}
use Rattle.geo_exact.specs.Sector.{in_sector}
use Rattle.geo_exact.proofs.CallerLemmas.{in_sector-first_border}
use Rattle.cad_rows.specs.declared.rows.StringRow.{StringRow}
use Rattle.cad_rings.specs.Cycle.{Corner}
use Rattle.cad_map.specs.Map.{Map, all_corners, position_of, far_end, strings_at}
use Rattle.cad_map.specs.Valid.{is_empty_corner, has_empty_corners}
use Rattle.cad_map.proofs.CallerLemmas.{filter-Contains}
use Rattle.cad_files.specs.Follower.{may_follow, followers}

all-stronger : {X : Type 0} (f g : X → Bool) → ((x : X) → f x ≡ true → g x ≡ true) → (xs : List X) → list_all f xs ≡ true → list_all g xs ≡ true
all-stronger f g more [] all = refl
all-stronger f g more (x ∷ xs) all = by (f x) refl (λ h. all-stronger f g more xs h)
  where
    by : (b : Bool) → f x ≡ b → (list_all f xs ≡ true → list_all g xs ≡ true) → list_all g (x ∷ xs) ≡ true
    by true is rest = rw (more x is) (rest (rw is at all))
    by false is rest = absurd (true≢false (sym all ∙ rw is refl))

module _ (m : Map) (c : Corner) where
  abbrev outside : StringRow → Bool
  outside t = not (in_sector (position_of m c.at) (position_of m c.after) (position_of m c.before) (position_of m (far_end t c.at)))

  -- what may follow leaves no string in the sector, itself included
  one-outside : (t : StringRow) → ((far_end t c.at == c.after) || outside t) ≡ true → outside t ≡ true
  one-outside t h = by (far_end t c.at == c.after) refl
    where
      by : (b : Bool) → (far_end t c.at == c.after) ≡ b → outside t ≡ true
      by true is = rw (ap (position_of m) (eqb-true (far_end t c.at) c.after is), in_sector-first_border (position_of m c.at) (position_of m c.after) (position_of m c.before)) refl
      by false is = rw is at h

  empty-if : may_follow m (c.before, c.at) c.after ≡ true → is_empty_corner m c ≡ true
  empty-if h = by (c.after == c.before) refl
    where
      by : (b : Bool) → (c.after == c.before) ≡ b → is_empty_corner m c ≡ true
      by true is = absurd (true≢false (sym h ∙ rw is refl))
      by false is = all-stronger (λ t. (far_end t c.at == c.after) || outside t) outside one-outside (strings_at m c.at) (rw is at h)

  pub empty-at : Contains (followers m (c.before, c.at)) c.after → is_empty_corner m c ≡ true
  unfolding followers
  empty-at has = empty-if (filter-Contains (may_follow m (c.before, c.at)) _ c.after has).1

each-empty : (m : Map) (cs : List Corner) → AllByRecursion (λ c. Contains (followers m (c.before, c.at)) c.after) cs → list_all (is_empty_corner m) cs ≡ true
each-empty m [] all = refl
each-empty m (c ∷ cs) all = rw (empty-at m c all.0) (each-empty m cs all.1)

-- a map of which each corner has a follower keeps the rule on corners
pub corners-empty : (m : Map) → AllByRecursion (λ c. Contains (followers m (c.before, c.at)) c.after) (all_corners m) → has_empty_corners m ≡ true
corners-empty m all = each-empty m (all_corners m) all
