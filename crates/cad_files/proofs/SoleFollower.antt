-- A spoke that may follow, and bars each other one on the way round, is the only one.
use Rattle.std.proofs.Common.{◌≡◌, ℕ, ◌≤◌, ◌⊎◌, inl, refl, sym, ap, subst, ◌∙◌, List, [], ◌∷◌, ◌++◌, length, take, Bool, true, false, not, true≢false, ◌==◌, Option, Some, None}
use Rattle.std.specs.Prelude.{◌&&◌, IfSome, IfNone}
use Rattle.std.specs.List.{Contains, list_all}
use Rattle.std.proofs.lemmas.Bool.{eqb-true, eq-eqb}
use Rattle.std.proofs.lemmas.List.{take_all}
use Rattle.geo_exact.specs.Sector.{in_sector}
use Rattle.cad_map.proofs.CallerLemmas.{list_all-at, All-push, All-follows, All-from_each}
use Rattle.cad_files.specs.Arrival.{leaves_open, may_follow_there, is_barred, is_other, IsOnly, HasNone, HasTwo}
use Rattle.cad_files.specs.declared.followers.Arrival.{Arrival}
use Rattle.cad_map.specs.declared.stars.Spoke.{Spoke}

and-parts : (a b : Bool) → (a && b) ≡ true → (a ≡ true) × (b ≡ true)
and-parts true b h = (refl, h)
and-parts false b h = absurd (true≢false (sym h))

other-way : (a b : ℕ) → (a == b) ≡ false → (b == a) ≡ false
other-way a b differ = by (b == a) refl
  where
    by : (t : Bool) → (b == a) ≡ t → (b == a) ≡ false
    by true is = absurd (true≢false (sym (eq-eqb a b (sym (eqb-true b a is))) ∙ differ))
    by false is = is

module _ (a : Arrival) (ends : List Spoke) (w : Spoke) (among : Contains ends w) where
  -- what is barred and follows leads where w does
  one-barred : (k : Spoke) → is_barred a w k ≡ true → may_follow_there a ends k ≡ true → k.far ≡ w.far
  one-barred k barred follows = by (k.far == w.far) (k.far == a.from) (in_sector a.at k.position a.back w.position) refl refl refl
    where
      parts : (not (k.far == a.from) ≡ true) × (list_all (leaves_open a k) ends ≡ true)
      parts = and-parts (not (k.far == a.from)) (list_all (leaves_open a k) ends) follows

      by : (b f t : Bool) → (k.far == w.far) ≡ b → (k.far == a.from) ≡ f → in_sector a.at k.position a.back w.position ≡ t → k.far ≡ w.far
      by true f t is from inside = eqb-true k.far w.far is
      by false true t is from inside = absurd (true≢false (sym (sym (ap not from) ∙ parts.0)))
      by false false false is from inside = absurd (true≢false (sym barred ∙ rw (is, from, inside) refl))
      by false false true is from inside =
          let opened : leaves_open a k w ≡ true = list_all-at (leaves_open a k) ends w parts.1 among in
          absurd (true≢false (sym opened ∙ rw (other-way k.far w.far is, inside) refl))

  pub sole : may_follow_there a ends w ≡ true → list_all (is_barred a w) ends ≡ true → IsOnly a ends ends w
  sole follows barred = record {
    among = among;
    follows = follows;
    only = All-from_each (λ e. may_follow_there a ends e ≡ true → e.far ≡ w.far) ends (λ e there. one-barred e (list_all-at (is_barred a w) ends e barred there));
  }

-- ---- Spokes one by one

-- what is so far told of a search for the only one
abbrev pub IsSearched : Arrival → List Spoke → List Spoke → Option Spoke → Type 0
IsSearched a ends some None = HasNone a ends some
IsSearched a ends some (Some w) = IsOnly a ends some w

module _ (a : Arrival) (ends some : List Spoke) (e : Spoke) where
  pub search-passes : (found : Option Spoke) → IsSearched a ends some found → may_follow_there a ends e ≡ false → IsSearched a ends (some ++ e ∷ []) found
  search-passes None none fails = All-push (λ e. may_follow_there a ends e ≡ false) some e none fails
  search-passes (Some w) only fails = record {
    among = only.among;
    follows = only.follows;
    only = All-push (λ e. may_follow_there a ends e ≡ true → e.far ≡ w.far) some e only.only (λ follows. absurd (true≢false (sym follows ∙ fails)));
  }

  pub search-finds : (found : Option Spoke) → IsSearched a ends some found → Contains ends e → may_follow_there a ends e ≡ true → is_other found e ≡ false → IsSearched a ends (some ++ e ∷ []) (Some e)
  search-finds None none among follows same = record {
    among = among;
    follows = follows;
    only = All-push (λ u. may_follow_there a ends u ≡ true → u.far ≡ e.far) some e (All-follows (λ u. may_follow_there a ends u ≡ false) (λ u. may_follow_there a ends u ≡ true → u.far ≡ e.far) (λ u fails so. absurd (true≢false (sym so ∙ fails))) some none) (λ so. refl);
  }
  search-finds (Some w) only among follows same =
      let is : w.far ≡ e.far = eqb-true w.far e.far (not-false (w.far == e.far) same) in
      record {
        among = among;
        follows = follows;
        only = All-push (λ u. may_follow_there a ends u ≡ true → u.far ≡ e.far) some e
            (All-follows (λ u. may_follow_there a ends u ≡ true → u.far ≡ w.far) (λ u. may_follow_there a ends u ≡ true → u.far ≡ e.far) (λ u so passes. so passes ∙ is) some only.only) (λ so. refl);
      }
    where
      not-false : (b : Bool) → not b ≡ false → b ≡ true
      not-false true h = refl
      not-false false h = absurd (true≢false h)

  pub search-two : (found : Option Spoke) → IsSearched a ends some found → Contains ends e → may_follow_there a ends e ≡ true → is_other found e ≡ true → HasTwo a ends
  search-two None none among follows other = absurd (true≢false (sym other))
  search-two (Some w) only among follows other = record {
    first = w;
    second = e;
    first_among = only.among;
    second_among = among;
    first_follows = only.follows;
    second_follows = follows;
    apart = λ same. true≢false (sym other ∙ ap not (eq-eqb w.far e.far same));
  }

module _ (a : Arrival) (ends : List Spoke) where
  pub searched-all : (i : ℕ) (found : Option Spoke) → length ends ≤ i → IsSearched a ends (take i ends) found → IsSearched a ends ends found
  searched-all i found past h = subst (λ (l : List Spoke). IsSearched a ends l found) (take_all i ends past) h

  pub searched-some : (found : Option Spoke) → IsSearched a ends ends found → IfSome found (IsOnly a ends ends)
  searched-some None h = tt
  searched-some (Some w) h = h

  pub searched-none : (found : Option Spoke) → IsSearched a ends ends found → IfNone found (HasNone a ends ends ⊎ HasTwo a ends)
  searched-none None h = inl h
  searched-none (Some w) h = tt
