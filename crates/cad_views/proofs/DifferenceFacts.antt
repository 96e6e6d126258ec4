-- The names of which two maps don't have the same: each stands once, and none is left out.
use Rattle.std.proofs.Common.{◌≡◌, ◌≢◌, ◌⊎◌, inl, inr, refl, sym, ap, subst, ◌∙◌, ℕ, List, [], ◌∷◌, ◌++◌, map, filter, Some, None, Option, Bool, true, false, not, true≢false, arith}
use Rattle.std.specs.Prelude.{◌==◌, ◌&&◌, is_some, option_map}
use Rattle.std.specs.List.{AllByRecursion, Contains, list_any}
use Rattle.std.proofs.lemmas.Bool.{eqb-true, not-true}
use Rattle.std.proofs.lemmas.Bool.Decides.{Decides-eqb}
use Rattle.std.proofs.lemmas.List.Elements.{Contains-append_left, Contains-append_right, Contains-append_cases}
use Rattle.cad_rows.specs.declared.names.Name.{Name}
use Rattle.cad_rows.specs.declared.names.Name.TheVariants as name
use Rattle.cad_map.specs.Map.{Map, source_of, point_of, parcel_of, string_of, is_retired, has_parcel}
use Rattle.numbered_rows.specs.Rows.{row_with}
use Rattle.cad_map.specs.Valid.{EachPair, HasSoundRows}
use Rattle.cad_map.proofs.CallerLemmas.{All-from_Contains, All-Contains, Contains-cases, Contains-filter, Contains-map, filter-Contains, find-Contains, list_any-Contains, map-Contains, EachPair-join}
use Rattle.cad_map.proofs.Lists.TakenOut.{EachPair-filter}
use Rattle.cad_views.specs.Differences.{words_of, names_in, names_of_kind, are_words_alike, is_alike, is_land_alike, is_listed, differing, HasOneEach}
use Rattle.cad_views.specs.declared.names.Kind.TheVariants.{Sources, Points, Parcels, Retired, Strings}

-- ---- Rows and their names

module _ {R : Type 0} (number : R → ℕ) where
  -- a row is found by its number
  row-there : (rows : List R) (r : R) → Contains rows r → is_some (row_with number (number r) rows) ≡ true
  row-there [] r h = let low = h.1 in absurd (omega arith)
  row-there (x ∷ rows) r h = by (number x == number r) refl (Contains-cases x rows r h) (row-there rows r)
    where
      by : (b : Bool) → (number x == number r) ≡ b → (x ≡ r) ⊎ Contains rows r → (Contains rows r → is_some (row_with number (number r) rows) ≡ true) → is_some (row_with number (number r) (x ∷ rows)) ≡ true
      by true is here again = rw is refl
      by false is (inl same) again = absurd (true≢false (sym ((Decides-eqb (number x) (number r)).1 (ap number same)) ∙ is))
      by false is (inr later) again = rw is (again later)

  module _ (to : ℕ → Name) where
    -- a number that is found has its name among those of the rows
    name-there : (rows : List R) (n : ℕ) → is_some (row_with number n rows) ≡ true → Contains (map (λ r. to (number r)) rows) (to n)
    name-there rows n some = by (row_with number n rows) refl some
      where
        by : (found : Option R) → row_with number n rows ≡ found → is_some found ≡ true → Contains (map (λ r. to (number r)) rows) (to n)
        by None is some = absurd (true≢false (sym some))
        by (Some r) is some =
            let there = find-Contains (λ r. number r == n) rows r is in
            subst (λ (k : ℕ). Contains (map (λ r. to (number r)) rows) (to k)) (eqb-true (number r) n there.1) (Contains-map (λ r. to (number r)) rows r there.0)

    -- and a name that stands there is that of a row
    number-there : ((a b : ℕ) → to a ≡ to b → a ≡ b) → (rows : List R) (n : ℕ) → Contains (map (λ r. to (number r)) rows) (to n) → is_some (row_with number n rows) ≡ true
    number-there one rows n h =
        let there = map-Contains (λ r. to (number r)) rows (to n) h in
        subst (λ (k : ℕ). is_some (row_with number k rows) ≡ true) (one (number there.0) n there.2) (row-there rows there.0 there.1)

    names-differ : (n : ℕ) → ((a b : ℕ) → to a ≡ to b → a ≡ b) → (rows : List R) → AllByRecursion (λ k. n ≢ k) (map number rows) → AllByRecursion (λ x. to n ≢ x) (map (λ r. to (number r)) rows)
    names-differ n one [] all = tt
    names-differ n one (r ∷ rows) all = ((λ same. all.0 (one n (number r) same)), names-differ n one rows all.1)

    -- different numbers, different names
    names-distinct : ((a b : ℕ) → to a ≡ to b → a ≡ b) → (rows : List R) → EachPair (λ a b. a ≢ b) (map number rows) → EachPair (λ x y. x ≢ y) (map (λ r. to (number r)) rows)
    names-distinct one [] each = tt
    names-distinct one (r ∷ rows) each = (names-differ (number r) one rows each.0, names-distinct one rows each.1)

-- names of two kinds aren't one
apart-kinds : {R S : Type 0} (f : R → Name) (g : S → Name) → ((r : R) (s : S) → f r ≡ g s → ⊥) → (rows : List R) (others : List S) (x : Name) → Contains (map f rows) x → Contains (map g others) x → ⊥
apart-kinds f g clash rows others x h k =
    let a = map-Contains f rows x h in
    let b = map-Contains g others x k in
    clash a.0 b.0 (a.2 ∙ sym b.2)

all-apart : (xs ys : List Name) → ((x : Name) → Contains xs x → Contains ys x → ⊥) → AllByRecursion (λ x. AllByRecursion (λ y. x ≢ y) ys) xs
all-apart xs ys apart =
    All-from_Contains (λ x. AllByRecursion (λ y. x ≢ y) ys) xs (λ x h. All-from_Contains (λ y. x ≢ y) ys (λ y k same. apart x h (subst (Contains ys) (sym same) k)))

-- two lists put together, where none has an element of the other
distinct-together : (xs ys : List Name) → EachPair (λ x y. x ≢ y) xs → EachPair (λ x y. x ≢ y) ys → ((x : Name) → Contains xs x → Contains ys x → ⊥) → EachPair (λ x y. x ≢ y) (xs ++ ys)
distinct-together xs ys here there apart = EachPair-join (λ x y. x ≢ y) xs ys here there (all-apart xs ys apart)

-- what is apart from two lists is apart from both together
apart-both : (xs ys zs : List Name) → ((x : Name) → Contains xs x → Contains ys x → ⊥) → ((x : Name) → Contains xs x → Contains zs x → ⊥) → (x : Name) → Contains xs x → Contains (ys ++ zs) x → ⊥
apart-both xs ys zs first second x h k = elim (Contains-append_cases ys zs x k) [ inl here ↦ first x h here | inr there ↦ second x h there ]

-- ---- The names of a map

map-same : (ns : List ℕ) → map (λ (n : ℕ). n) ns ≡ ns
map-same [] = refl
map-same (n ∷ ns) = ap (λ (l : List ℕ). n ∷ l) (map-same ns)

module _ (m : Map) where
  -- a parcel's number isn't retired
  retired-apart : HasSoundRows m → (x : Name) → Contains (names_of_kind m Parcels) x → Contains (names_of_kind m Retired) x → ⊥
  retired-apart sound x h k =
      let a = map-Contains (λ r. name.Parcel r.number) m.parcels x h in
      let b = map-Contains (λ n. name.Parcel n) m.retired x k in
      let both : name.Parcel a.0.number ≡ name.Parcel b.0 = a.2 ∙ sym b.2 in
      let same : a.0.number ≡ b.0 = cc in
      let known : has_parcel m a.0.number ≡ true = row-there (λ r. r.number) m.parcels a.0 a.1 in
      let gone : has_parcel m b.0 ≡ false = All-Contains (λ n. has_parcel m n ≡ false) m.retired b.0 sound.retired_for_good b.1 in
      true≢false (sym known ∙ ap (has_parcel m) same ∙ gone)

  pub names-once : HasSoundRows m → EachPair (λ x y. x ≢ y) (names_in m)
  names-once sound =
      let s = names_of_kind m Sources in
      let p = names_of_kind m Points in
      let c = names_of_kind m Parcels in
      let d = names_of_kind m Retired in
      let t = names_of_kind m Strings in
      let dt = distinct-together d t (names-distinct (λ n. n) (λ n. name.Parcel n) (λ a b same. cc) m.retired (subst (EachPair (λ (a b : ℕ). a ≢ b)) (sym (map-same m.retired)) sound.retired.distinct))
      (names-distinct (λ r. r.number) (λ n. name.String n) (λ a b same. cc) m.strings sound.strings.distinct)
      (apart-kinds (λ n. name.Parcel n) (λ r. name.String r.number) (λ r s same. cc) m.retired m.strings) in
      let cdt = distinct-together c (d ++ t) (names-distinct (λ r. r.number) (λ n. name.Parcel n) (λ a b same. cc) m.parcels sound.parcels.distinct) dt
      (apart-both c d t (retired-apart sound) (apart-kinds (λ r. name.Parcel r.number) (λ r. name.String r.number) (λ r s same. cc) m.parcels m.strings)) in
      let pcdt = distinct-together p (c ++ (d ++ t)) (names-distinct (λ r. r.number) (λ n. name.Point n) (λ a b same. cc) m.points sound.points.distinct) cdt
      (apart-both p c (d ++ t) (apart-kinds (λ r. name.Point r.number) (λ r. name.Parcel r.number) (λ r s same. cc) m.points m.parcels)
      (apart-both p d t (apart-kinds (λ r. name.Point r.number) (λ n. name.Parcel n) (λ r s same. cc) m.points m.retired)
      (apart-kinds (λ r. name.Point r.number) (λ r. name.String r.number) (λ r s same. cc) m.points m.strings))) in
      distinct-together s (p ++ (c ++ (d ++ t))) (names-distinct (λ r. r.number) (λ n. name.Source n) (λ a b same. cc) m.sources sound.sources.distinct) pcdt
      (apart-both s p (c ++ (d ++ t)) (apart-kinds (λ r. name.Source r.number) (λ r. name.Point r.number) (λ r s same. cc) m.sources m.points)
      (apart-both s c (d ++ t) (apart-kinds (λ r. name.Source r.number) (λ r. name.Parcel r.number) (λ r s same. cc) m.sources m.parcels)
      (apart-both s d t (apart-kinds (λ r. name.Source r.number) (λ n. name.Parcel n) (λ r s same. cc) m.sources m.retired)
      (apart-kinds (λ r. name.Source r.number) (λ r. name.String r.number) (λ r s same. cc) m.sources m.strings))))

is_some-from_map : {X Y : Type 0} (f : X → Y) (o : Option X) → is_some (option_map f o) ≡ true → is_some o ≡ true
is_some-from_map f None some = some
is_some-from_map f (Some x) some = refl

is_some-map : {X Y : Type 0} (f : X → Y) (o : Option X) → is_some o ≡ true → is_some (option_map f o) ≡ true
is_some-map f None some = some
is_some-map f (Some x) some = refl

among-some : (n : ℕ) (ns : List ℕ) → list_any (λ k. k == n) ns ≡ true → is_some (row_with (λ (k : ℕ). k) n ns) ≡ true
among-some n [] any = any
among-some n (k ∷ ns) any = by (k == n) refl any (among-some n ns)
  where
    by : (b : Bool) → (k == n) ≡ b → list_any (λ j. j == n) (k ∷ ns) ≡ true → (list_any (λ j. j == n) ns ≡ true → is_some (row_with (λ (j : ℕ). j) n ns) ≡ true) → is_some (row_with (λ (j : ℕ). j) n (k ∷ ns)) ≡ true
    by true is any again = rw is refl
    by false is any again = rw is (again (rw is at any))

module _ (m : Map) where
  -- the names of a map's rows, kind by kind
  abbrev S : List Name
  S = names_of_kind m Sources

  abbrev P : List Name
  P = names_of_kind m Points

  abbrev C : List Name
  C = names_of_kind m Parcels

  abbrev D : List Name
  D = names_of_kind m Retired

  abbrev T : List Name
  T = names_of_kind m Strings

  parcel-named : (n : ℕ) → is_some (words_of m (name.Parcel n)) ≡ true → Contains (C ++ (D ++ T)) (name.Parcel n)
  parcel-named n some = by (is_some (parcel_of m n)) refl (is_retired m n) refl some
    where
      by : (b : Bool) → is_some (parcel_of m n) ≡ b → (r : Bool) → is_retired m n ≡ r → is_some (words_of m (name.Parcel n)) ≡ true → Contains (C ++ (D ++ T)) (name.Parcel n)
      by true is r gone some = Contains-append_left C (D ++ T) (name.Parcel n) (name-there (λ r. r.number) (λ k. name.Parcel k) m.parcels n is)
      by false is true gone some = Contains-append_right C (D ++ T) (name.Parcel n) (Contains-append_left D T (name.Parcel n) (name-there (λ (k : ℕ). k) (λ k. name.Parcel k) m.retired n (among-some n m.retired gone)))
      by false is false gone some = absurd (true≢false (sym (rw (is, gone) at some)))

  -- what is told of is named
  pub told-named : (n : Name) → is_some (words_of m n) ≡ true → Contains (names_in m) n
  told-named (name.Source n) some =
      Contains-append_left S (P ++ (C ++ (D ++ T))) (name.Source n) (name-there (λ r. r.number) (λ k. name.Source k) m.sources n (is_some-from_map _ (source_of m n) some))
  told-named (name.Point n) some =
      Contains-append_right S (P ++ (C ++ (D ++ T))) (name.Point n) (Contains-append_left P (C ++ (D ++ T)) (name.Point n) (name-there (λ r. r.number) (λ k. name.Point k) m.points n (is_some-from_map _ (point_of m n) some)))
  told-named (name.Parcel n) some =
      Contains-append_right S (P ++ (C ++ (D ++ T))) (name.Parcel n) (Contains-append_right P (C ++ (D ++ T)) (name.Parcel n) (parcel-named n some))
  told-named (name.String n) some =
      Contains-append_right S (P ++ (C ++ (D ++ T))) (name.String n) (Contains-append_right P (C ++ (D ++ T)) (name.String n) (Contains-append_right C (D ++ T) (name.String n)
      (Contains-append_right D T (name.String n) (name-there (λ r. r.number) (λ k. name.String k) m.strings n (is_some-from_map _ (string_of m n) some)))))

  -- the kind that a name stands in
  data IsNamed (x : Name) : Type 0 where
    source : Contains S x → IsNamed x
    point : Contains P x → IsNamed x
    parcel : Contains C x → IsNamed x
    retired : Contains D x → IsNamed x
    string : Contains T x → IsNamed x

  named : (x : Name) → Contains (names_in m) x → IsNamed x
  named x h = elim (Contains-append_cases S (P ++ (C ++ (D ++ T))) x h) [
    | inl here ↦ source here
    | inr there ↦ elim (Contains-append_cases P (C ++ (D ++ T)) x there) [
      | inl here ↦ point here
      | inr there ↦ elim (Contains-append_cases C (D ++ T) x there) [
        | inl here ↦ parcel here
        | inr there ↦ elim (Contains-append_cases D T x there) [ inl here ↦ retired here | inr there ↦ string there ]
      ]
    ]
  ]

  -- no row of another kind has the name
  never : {R : Type 0} (f : R → Name) (rows : List R) (x : Name) → ((r : R) → f r ≡ x → ⊥) → Contains (map f rows) x → ⊥
  never f rows x clash h = let there = map-Contains f rows x h in clash there.0 there.2

  parcel-told-some : (n : ℕ) → is_some (parcel_of m n) ≡ true → is_some (words_of m (name.Parcel n)) ≡ true
  parcel-told-some n is = rw is (is_some-map _ (parcel_of m n) is)

  retired-told-some : (n : ℕ) → Contains D (name.Parcel n) → is_some (words_of m (name.Parcel n)) ≡ true
  retired-told-some n h = by (is_some (parcel_of m n)) refl
    where
      by : (b : Bool) → is_some (parcel_of m n) ≡ b → is_some (words_of m (name.Parcel n)) ≡ true
      by true is = parcel-told-some n is
      by false is =
          let there = map-Contains (λ k. name.Parcel k) m.retired (name.Parcel n) h in
          let same : there.0 ≡ n = let e = there.2 in cc in
          let gone : is_retired m n ≡ true = list_any-Contains (λ k. k == n) m.retired there.0 there.1 ((Decides-eqb there.0 n).1 same) in
          rw (is, gone) refl

  -- what is named is told of
  pub named-told : (n : Name) → Contains (names_in m) n → is_some (words_of m n) ≡ true
  named-told (name.Source n) h = elim (named (name.Source n) h) [
    | source here ↦ is_some-map _ (source_of m n) (number-there (λ r. r.number) (λ k. name.Source k) (λ a b same. cc) m.sources n here)
    | point here ↦ absurd (never (λ r. name.Point r.number) m.points (name.Source n) (λ r same. cc) here)
    | parcel here ↦ absurd (never (λ r. name.Parcel r.number) m.parcels (name.Source n) (λ r same. cc) here)
    | retired here ↦ absurd (never (λ k. name.Parcel k) m.retired (name.Source n) (λ r same. cc) here)
    | string here ↦ absurd (never (λ r. name.String r.number) m.strings (name.Source n) (λ r same. cc) here)
  ]
  named-told (name.Point n) h = elim (named (name.Point n) h) [
    | source here ↦ absurd (never (λ r. name.Source r.number) m.sources (name.Point n) (λ r same. cc) here)
    | point here ↦ is_some-map _ (point_of m n) (number-there (λ r. r.number) (λ k. name.Point k) (λ a b same. cc) m.points n here)
    | parcel here ↦ absurd (never (λ r. name.Parcel r.number) m.parcels (name.Point n) (λ r same. cc) here)
    | retired here ↦ absurd (never (λ k. name.Parcel k) m.retired (name.Point n) (λ r same. cc) here)
    | string here ↦ absurd (never (λ r. name.String r.number) m.strings (name.Point n) (λ r same. cc) here)
  ]
  named-told (name.Parcel n) h = elim (named (name.Parcel n) h) [
    | source here ↦ absurd (never (λ r. name.Source r.number) m.sources (name.Parcel n) (λ r same. cc) here)
    | point here ↦ absurd (never (λ r. name.Point r.number) m.points (name.Parcel n) (λ r same. cc) here)
    | parcel here ↦ parcel-told-some n (number-there (λ r. r.number) (λ k. name.Parcel k) (λ a b same. cc) m.parcels n here)
    | retired here ↦ retired-told-some n here
    | string here ↦ absurd (never (λ r. name.String r.number) m.strings (name.Parcel n) (λ r same. cc) here)
  ]
  named-told (name.String n) h = elim (named (name.String n) h) [
    | source here ↦ absurd (never (λ r. name.Source r.number) m.sources (name.String n) (λ r same. cc) here)
    | point here ↦ absurd (never (λ r. name.Point r.number) m.points (name.String n) (λ r same. cc) here)
    | parcel here ↦ absurd (never (λ r. name.Parcel r.number) m.parcels (name.String n) (λ r same. cc) here)
    | retired here ↦ absurd (never (λ k. name.Parcel k) m.retired (name.String n) (λ r same. cc) here)
    | string here ↦ is_some-map _ (string_of m n) (number-there (λ r. r.number) (λ k. name.String k) (λ a b same. cc) m.strings n here)
  ]

-- ---- What differs

some-else : (s t : Option (List ℕ)) → is_some s ≡ false → are_words_alike s t ≡ false → is_some t ≡ true
some-else None None none unlike = absurd (true≢false unlike)
some-else None (Some t) none unlike = refl
some-else (Some s) t none unlike = absurd (true≢false none)

none-alike : (s t : Option (List ℕ)) → is_some s ≡ false → is_some t ≡ true → are_words_alike s t ≡ false
none-alike None None none some = absurd (true≢false (sym some))
none-alike None (Some t) none some = refl
none-alike (Some s) t none some = absurd (true≢false none)

and-left : (s t : Bool) → (s && t) ≡ false → t ≡ true → s ≡ false
and-left true t both here = absurd (true≢false (sym here ∙ both))
and-left false t both here = refl

module _ (old new : Map) where
  abbrev W : List Name
  W = filter (is_listed old new false) (names_in old)

  abbrev A : List Name
  A = filter (is_listed old new true) (names_in new)

  -- the land of a name that the old map hasn't is alike
  land-none : (n : Name) → is_some (words_of old n) ≡ false → is_land_alike old new n ≡ true
  land-none (name.Source n) none = refl
  land-none (name.Point n) none = refl
  land-none (name.String n) none = refl
  land-none (name.Parcel n) none = by (has_parcel old n) refl
    where
      by : (b : Bool) → has_parcel old n ≡ b → is_land_alike old new (name.Parcel n) ≡ true
      by true is = absurd (true≢false (sym (parcel-told-some old n is) ∙ none))
      by false is = rw is refl

  came-unlike : (n : Name) → is_some (words_of old n) ≡ false → is_some (words_of new n) ≡ true → is_alike old new n ≡ false
  came-unlike n none some = ap (λ (b : Bool). b && is_land_alike old new n) (none-alike (words_of old n) (words_of new n) none some)

  came-apart : (x : Name) → Contains W x → Contains A x → ⊥
  came-apart x h k =
      let o = filter-Contains (is_listed old new false) (names_in old) x h in
      let n = filter-Contains (is_listed old new true) (names_in new) x k in
      true≢false (sym (named-told old x o.0) ∙ not-true (is_some (words_of old x)) n.1)

  differing-all : (n : Name) → is_alike old new n ≡ false → Contains (W ++ A) n
  differing-all n unlike = by (is_some (words_of old n)) refl
    where
      by : (b : Bool) → is_some (words_of old n) ≡ b → Contains (W ++ A) n
      by true is = Contains-append_left W A n (Contains-filter (is_listed old new false) (names_in old) n (told-named old n is) (ap not unlike))
      by false is =
          let words = and-left (are_words_alike (words_of old n) (words_of new n)) (is_land_alike old new n) unlike (land-none n is) in
          Contains-append_right W A n (Contains-filter (is_listed old new true) (names_in new) n (told-named new n (some-else (words_of old n) (words_of new n) is words)) (ap not is))

  differing-only : (n : Name) → Contains (W ++ A) n → is_alike old new n ≡ false
  differing-only n h = elim (Contains-append_cases W A n h) [
    | inl here ↦ not-true (is_alike old new n) (filter-Contains (is_listed old new false) (names_in old) n here).1
    | inr there ↦
        let c = filter-Contains (is_listed old new true) (names_in new) n there in
        came-unlike n (not-true (is_some (words_of old n)) c.1) (named-told new n c.0)
  ]

  -- each name of which the maps don't have the same stands once among those that are listed, and no other does
  pub one-each : HasSoundRows old → HasSoundRows new → HasOneEach old new (differing old new)
  one-each sound_old sound_new = record {
    once = distinct-together W A (EachPair-filter (λ x y. x ≢ y) (is_listed old new false) (names_in old) (names-once old sound_old))
        (EachPair-filter (λ x y. x ≢ y) (is_listed old new true) (names_in new) (names-once new sound_new)) came-apart;
    all = differing-all;
    only = differing-only;
  }
