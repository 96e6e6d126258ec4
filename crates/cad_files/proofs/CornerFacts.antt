-- Sides that have a follower of their own.
use Rattle.std.proofs.Common.{◌≡◌, ◌∙◌, sym, ap, refl, subst, ℕ, zero, suc, ◌+◌, ◌<◌, ◌≤◌, ◌==◌, ◌⊎◌, inl, inr, List, [], ◌∷◌, ◌++◌, append-nil, length, map, reverse, take, drop, get_or, Bool, true, false, not, ◌&&◌, ◌||◌, Option, Some, None, slice_get, add-one, arith}
use Rattle.std.specs.Prelude.{if◌then◌else◌, flat_map, IfSome, IfNone}
use Rattle.std.specs.List.{list_any, AllByRecursion}
use Rattle.std.specs.Str.{bytes_eq as is_same_list}
use Rattle.std.proofs.lemmas.List.{map-append, reverse-append, take_more, take_all, drop_all}
use Rattle.std.proofs.lemmas.List.Folds.{list_any-append}
use Rattle.std.proofs.lemmas.Option.{slice_get_cases, get_or_from_slice_get, slice_get_within}
use Rattle.cad_rings.specs.Cycle.{Side, opposite, is_side, has_side}
use Rattle.cad_map.specs.Map.{Map, side_of, string_sides}
use Rattle.cad_map.proofs.CallerLemmas.{drop-at, All-at_each, Contains-at}
use Rattle.cad_files.specs.Follower.{followers, LabelledSide, labelled_sides}
use Rattle.cad_files.specs.Building.{is_bad_corner, first_bad_corner, bad_corner}
use Rattle.cad_files.specs.Cycles.{plan_side_of, AreLinked}
use Rattle.cad_files.specs.Corners.{labelled, HasFollower, passed_sides, is_met, NoneMet, IsFirstMet, IsStop, AreLinkedIn}
use Rattle.cad_files.specs.declared.sides.PlanSide.{PlanSide}
use Rattle.cad_files.specs.declared.rows.PlanString.{PlanString}

-- ---- A test of earlier sides

or-comm : (a b : Bool) → (a || b) ≡ (b || a)
or-comm true true = refl
or-comm true false = refl
or-comm false true = refl
or-comm false false = refl

or-none : (a b c : Bool) → b ≡ true → (a || not b || c) ≡ (a || c)
or-none true b c is = refl
or-none false b c is = rw is refl

or-middle : (a b c : Bool) → b ≡ false → (a || not b || c) ≡ true
or-middle true b c is = refl
or-middle false b c is = rw is refl

or-mixed : (a b c d : Bool) → ((a || b) || (c || d)) ≡ ((a || c) || (b || d))
or-mixed true b c d = refl
or-mixed false true true d = refl
or-mixed false true false d = refl
or-mixed false false c d = refl

any-reversed : {X Y : Type 0} (p : Y → Bool) (f : X → Y) (xs : List X) → list_any p (reverse (map f xs)) ≡ list_any (λ x. p (f x)) xs
any-reversed p f [] = refl
any-reversed p f (x ∷ xs) =
    ap (list_any p) (reverse-append (f x ∷ []) (map f xs)) ∙ list_any-append p (reverse (map f xs)) (f x ∷ [])
    ∙ or-comm (list_any p (reverse (map f xs))) (p (f x) || false) ∙ last (p (f x)) (list_any p (reverse (map f xs))) ∙ ap (λ (b : Bool). p (f x) || b) (any-reversed p f xs)
  where
    last : (a b : Bool) → ((a || false) || b) ≡ (a || b)
    last true b = refl
    last false b = refl

any-both : {X : Type 0} (p q : X → Bool) (xs : List X) → (list_any p xs || list_any q xs) ≡ list_any (λ x. p x || q x) xs
any-both p q [] = refl
any-both p q (x ∷ xs) = or-mixed (p x) (list_any p xs) (q x) (list_any q xs) ∙ ap (λ (b : Bool). (p x || q x) || b) (any-both p q xs)

same-one : (a w : ℕ) → is_same_list (a ∷ []) (w ∷ []) ≡ (a == w)
same-one a w = by (a == w) refl
  where
    by : (t : Bool) → (a == w) ≡ t → is_same_list (a ∷ []) (w ∷ []) ≡ (a == w)
    by true is = rw is refl
    by false is = rw is refl

module _ (m : Map) (s : PlanSide) (one : HasFollower m s) where
  abbrev side : Side
  side = plan_side_of s

  same-follower : (passed : List PlanSide) → AllByRecursion (HasFollower m) passed
      → list_any (λ t. (t.1 == s.to) && is_same_list (followers m t) (followers m side)) (passed_sides passed) ≡ list_any (λ f. (f.to == s.to) && (f.after == s.after)) passed
  same-follower passed all = any-reversed (λ t. (t.1 == s.to) && is_same_list (followers m t) (followers m side)) plan_side_of passed ∙ each passed all
    where
      each : (fs : List PlanSide) → AllByRecursion (HasFollower m) fs
          → list_any (λ a. (a.to == s.to) && is_same_list (followers m (plan_side_of a)) (followers m side)) fs ≡ list_any (λ f. (f.to == s.to) && (f.after == s.after)) fs
      each [] all = refl
      each (f ∷ fs) all =
          ap (λ (b : Bool). ((f.to == s.to) && b) || list_any (λ a. (a.to == s.to) && is_same_list (followers m (plan_side_of a)) (followers m side)) fs) (rw (all.0, one) (same-one f.after s.after))
          ∙ ap (λ (b : Bool). ((f.to == s.to) && (f.after == s.after)) || b) (each fs all.1)

  -- a side with one follower is bad where an earlier one is the same, or has that follower at the same point
  bad-met : (passed : List PlanSide) → AllByRecursion (HasFollower m) passed → is_bad_corner m (passed_sides passed) side ≡ is_met passed s
  bad-met passed all =
      or-none (has_side side (passed_sides passed)) (length (followers m side) == 1) _ (rw one refl)
      ∙ rw (any-reversed (is_side side) plan_side_of passed, same-follower passed all) (any-both (λ f. is_side side (plan_side_of f)) (λ f. (f.to == s.to) && (f.after == s.after)) passed)

-- ---- One side after another

passed-push : (sides : List PlanSide) (a : PlanSide) → passed_sides (sides ++ a ∷ []) ≡ plan_side_of a ∷ passed_sides sides
passed-push sides a = ap reverse (map-append plan_side_of sides (a ∷ [])) ∙ reverse-append (map plan_side_of sides) (plan_side_of a ∷ [])

take-found : {X : Type 0} (xs : List X) (i : ℕ) (x : X) → slice_get xs i ≡ Some x → take (i + 1) xs ≡ take i xs ++ x ∷ []
take-found xs i x at = take_more xs i x (slice_get_within xs i x at) ∙ ap (λ (y : _). take i xs ++ y ∷ []) (get_or_from_slice_get xs i x x at)

All-take : {X : Type 0} (P : X → Type 0) (n : ℕ) (xs : List X) → AllByRecursion P xs → AllByRecursion P (take n xs)
All-take P zero xs all = tt
All-take P (suc n) [] all = tt
All-take P (suc n) (x ∷ xs) all = (all.0, All-take P n xs all.1)

module _ (m : Map) (sides : List PlanSide) (all : AllByRecursion (HasFollower m) sides) (rest : List Side) where
  -- the first bad corner from a place on, where none was met before
  abbrev bad_from : ℕ → Option ℕ
  bad_from n = first_bad_corner m (passed_sides (take n sides)) (map plan_side_of (drop n sides) ++ rest)

  bad-at : (n : ℕ) (s : PlanSide) → slice_get sides n ≡ Some s → bad_from n ≡ (if is_met (take n sides) s then Some s.to else bad_from (n + 1))
  bad-at n s at =
      let one = All-at_each (HasFollower m) sides s all (Contains-at sides n s at) in
      let bad = bad-met m s one (take n sides) (All-take (HasFollower m) n sides all) in
      let within = slice_get_within sides n s at in
      ap (λ (l : List PlanSide). first_bad_corner m (passed_sides (take n sides)) (map plan_side_of l ++ rest)) (drop-at sides n s at)
      ∙ ap (λ (b : Bool). if b then Some s.to else first_bad_corner m (plan_side_of s ∷ passed_sides (take n sides)) (map plan_side_of (drop (n + 1) sides) ++ rest)) bad
      ∙ ap (λ (l : List Side). if is_met (take n sides) s then Some s.to else first_bad_corner m l (map plan_side_of (drop (n + 1) sides) ++ rest))
      (sym (passed-push (take n sides) s) ∙ ap passed_sides (sym (take-found sides n s at)))

  bad-first : (n : ℕ) → n ≤ length sides → NoneMet sides n → bad_from 0 ≡ bad_from n
  bad-first zero within none = refl
  bad-first (suc n) within none =
      let s = found (slice_get_cases sides n).1 in
      bad-first n (omega (arith, within)) (λ k s below at. none k s (omega (arith, below)) at) ∙ bad-at n s.0 s.1
      ∙ rw (none n s.0 (omega arith) s.1) (ap bad_from (add-one n))
    where
      found : ((x : PlanSide) × (n < length sides) × (slice_get sides n ≡ Some x) × (get_or sides n x ≡ x)) ⊎ ((length sides ≤ n) × (slice_get sides n ≡ None)) → (s : PlanSide) × (slice_get sides n ≡ Some s)
      found (inl h) = (h.0, h.2)
      found (inr h) = let past = h.0 in absurd (omega (arith, past, within))

  pub bad-met_first : (k : ℕ) → (is : IsFirstMet sides k) → bad_from 0 ≡ Some is.side.to
  bad-met_first k is =
      let within = slice_get_within sides k is.side is.there in
      bad-first k (omega (arith, within)) is.before ∙ bad-at k is.side is.there ∙ rw is.met refl

  pub bad-none_met : NoneMet sides (length sides) → bad_from 0 ≡ first_bad_corner m (passed_sides sides) rest
  bad-none_met none =
      bad-first (length sides) (omega arith) none
      ∙ λ i. first_bad_corner m (passed_sides (take_all (length sides) sides (omega arith) i)) (map plan_side_of (drop_all (length sides) sides (omega arith) i) ++ rest)

-- ---- All sides

none-sides : (rest : List LabelledSide) (passed : List PlanSide) → map (λ s. s.side) (map labelled passed ++ rest) ≡ map plan_side_of passed ++ map (λ s. s.side) rest
none-sides rest [] = refl
none-sides rest (s ∷ passed) = ap (λ (l : List Side). plan_side_of s ∷ l) (none-sides rest passed)

module _ (m : Map) (strings : List PlanString) (passed : List PlanSide) (all : AllByRecursion (HasFollower m) passed) where
  module _ (rest : List LabelledSide) (are : map labelled passed ++ rest ≡ labelled_sides strings) where
    parted : first_bad_corner m [] (map (λ s. s.side) (labelled_sides strings)) ≡ bad_from m passed all (map (λ s. s.side) rest) 0
    parted = ap (λ (l : List Side). first_bad_corner m [] l) (ap (map (λ s. s.side)) (sym are) ∙ none-sides rest passed)

    met : (k : ℕ) → (is : IsFirstMet passed k) → first_bad_corner m [] (map (λ s. s.side) (labelled_sides strings)) ≡ Some is.side.to
    met k is = parted ∙ bad-met_first m passed all (map (λ s. s.side) rest) k is

  -- the sides that are passed, and the rest
  rest-of : (stop : Option ℕ) → IfNone stop (map labelled passed ≡ labelled_sides strings) → IfSome stop (IsStop m strings passed)
      → (rest : List LabelledSide) × (map labelled passed ++ rest ≡ labelled_sides strings)
  rest-of None same is = ([], append-nil (map labelled passed) ∙ same)
  rest-of (Some end) same is = (is.side ∷ is.rest, is.are)

  pub met-corner : (stop : Option ℕ) → IfNone stop (map labelled passed ≡ labelled_sides strings) → IfSome stop (IsStop m strings passed)
      → (k : ℕ) (s : PlanSide) → s ≡ get_or passed k s → IsFirstMet passed k → bad_corner m strings ≡ Some s.to
  unfolding bad_corner
  met-corner stop same is k s at first =
      let rest = rest-of stop same is in
      met rest.0 rest.1 k first ∙ ap (λ (t : PlanSide). Some t.to) (sym (at ∙ get_or_from_slice_get passed k first.side s first.there))

  pub stop-corner : (end : ℕ) → IsStop m strings passed end → NoneMet passed (length passed) → bad_corner m strings ≡ Some end
  unfolding bad_corner
  stop-corner end is none =
      parted (is.side ∷ is.rest) is.are ∙ bad-none_met m passed all (map (λ s. s.side) (is.side ∷ is.rest)) none
      ∙ rw (or-middle (has_side is.side.side (passed_sides passed)) (length (followers m is.side.side) == 1) _ is.bad) (ap (λ (k : ℕ). Some k) is.ends)

  pub no-corner : map labelled passed ≡ labelled_sides strings → NoneMet passed (length passed) → bad_corner m strings ≡ None
  unfolding bad_corner
  no-corner same none = parted [] (append-nil (map labelled passed) ∙ same) ∙ bad-none_met m passed all [] none

sides-rows : (strings : List PlanString) → flat_map (λ t. side_of t ∷ opposite (side_of t) ∷ []) (map (λ s. s.row) strings) ≡ map (λ l. l.side) (labelled_sides strings)
sides-rows [] = refl
sides-rows (s ∷ strings) = ap (λ (l : List Side). side_of s.row ∷ opposite (side_of s.row) ∷ l) (sides-rows strings)

-- ---- Links

module _ (strings : List PlanString) (passed : List PlanSide) (same : map labelled passed ≡ labelled_sides strings) where
  abbrev sides-in : List Side
  sides-in = map (λ l. l.side) (labelled_sides strings)

  same-sides : sides-in ≡ map plan_side_of passed
  same-sides = ap (map (λ l. l.side)) (sym (append-nil (map labelled passed) ∙ same)) ∙ none-sides [] passed ∙ append-nil (map plan_side_of passed)

  pub are-linked : AreLinkedIn strings passed → AreLinked passed
  are-linked linked =
      subst (λ (l : List Side). AllByRecursion (λ s. slice_get l s.next ≡ Some (s.to, s.after)) passed) same-sides linked

  -- they are the sides of a map with these strings
  pub sides-of_map : (m : Map) → m.strings ≡ map (λ s. s.row) strings → string_sides m ≡ map plan_side_of passed
  sides-of_map m rows = ap (flat_map (λ t. side_of t ∷ opposite (side_of t) ∷ [])) rows ∙ sides-rows strings ∙ same-sides
