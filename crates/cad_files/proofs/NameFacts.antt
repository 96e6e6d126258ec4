-- Names that are looked up one after another.
use Rattle.std.proofs.Common.{◌≡◌, ◌∙◌, sym, ap, refl, ℕ, ◌+◌, ◌<◌, List, [], ◌∷◌, ◌++◌, length, take, drop, get_or, Bool, true, false, not, Option, Some, None, is_some, take-append-drop, drop-cons, add-one}
use Rattle.std.specs.Prelude.{find, flat_map}
use Rattle.std.specs.Option.{option_or}
use Rattle.std.proofs.lemmas.List.{take_more, map-append}
use Rattle.std.proofs.lemmas.List.Folds.{find-append}
use Rattle.std.proofs.lemmas.Grind.{flat_map-append}
use Rattle.cad_rows.specs.declared.names.Name.{Name}
use Rattle.cad_rows.specs.declared.names.Name.TheVariants as name
use Rattle.cad_map.specs.Map.{Map, has_source}
use Rattle.cad_map.specs.Refusals.{is_there}
use Rattle.cad_files.specs.Building.{missing_name, sources_named, first_some}

-- the element at a place, between those before it and those after it
pub parted : {X : Type 0} (xs : List X) (i : ℕ) (x d : X) → i < length xs → x ≡ get_or xs i d → take i xs ++ (x ∷ drop (i + 1) xs) ≡ xs
parted xs i x d h is = rw (is, add-one, ← drop-cons xs i d h) (take-append-drop i xs)

find-after : {X : Type 0} (p : X → Bool) (xs ys : List X) → find p xs ≡ None → find p (xs ++ ys) ≡ find p ys
find-after p xs ys none = find-append p xs ys ∙ ap (λ o. option_or o (find p ys)) none

option_or-some : {X : Type 0} (o other : Option X) → is_some o ≡ true → option_or o other ≡ o
option_or-some None other bad = cc bad
option_or-some (Some x) other there = refl

find-before : {X : Type 0} (p : X → Bool) (xs ys : List X) → is_some (find p xs) ≡ true → find p (xs ++ ys) ≡ find p xs
find-before p xs ys some = find-append p xs ys ∙ option_or-some (find p xs) (find p ys) some

pub missing-source : (m : Map) (list : List ℕ) (i x d : ℕ) → i < length list → x ≡ get_or list i d → missing_name m (sources_named (take i list)) ≡ None → has_source m x ≡ false
    → missing_name m (sources_named list) ≡ Some (name.Source x)
missing-source m list i x d h is none gone =
    ap (λ l. missing_name m (sources_named l)) (sym (parted list i x d h is)) ∙ ap (missing_name m) (map-append (λ n. name.Source n) (take i list) (x ∷ drop (i + 1) list))
    ∙ find-after (λ n. not (is_there m n)) (sources_named (take i list)) _ none ∙ rw gone refl

pub missing-more : (m : Map) (list : List ℕ) (i x d : ℕ) → i < length list → x ≡ get_or list i d → missing_name m (sources_named (take i list)) ≡ None → has_source m x ≡ true
    → missing_name m (sources_named (take (i + 1) list)) ≡ None
missing-more m list i x d h is none there =
    ap (λ l. missing_name m (sources_named l)) (take_more list i d h ∙ ap (λ y. take i list ++ y ∷ []) (sym is)) ∙ ap (missing_name m) (map-append (λ n. name.Source n) (take i list) (x ∷ []))
    ∙ find-after (λ n. not (is_there m n)) (sources_named (take i list)) _ none ∙ rw there refl

-- rows that name others
module _ {R : Type 0} (named : R → List Name) (m : Map) (rows : List R) (i : ℕ) (row d : R) (h : i < length rows) (is : row ≡ get_or rows i d) (none : missing_name m (flat_map named (take i rows)) ≡ None) where
  pub row-found : is_some (missing_name m (named row)) ≡ true → missing_name m (flat_map named rows) ≡ missing_name m (named row)
  row-found some =
      ap (λ l. missing_name m (flat_map named l)) (sym (parted rows i row d h is))
      ∙ ap (missing_name m) (flat_map-append named (take i rows) (row ∷ drop (i + 1) rows))
      ∙ find-after (λ n. not (is_there m n)) (flat_map named (take i rows)) _ none
      ∙ find-before (λ n. not (is_there m n)) (named row) _ some

  pub row-more : missing_name m (named row) ≡ None → missing_name m (flat_map named (take (i + 1) rows)) ≡ None
  row-more here =
      ap (λ l. missing_name m (flat_map named l)) (take_more rows i d h ∙ ap (λ y. take i rows ++ y ∷ []) (sym is))
      ∙ ap (missing_name m) (flat_map-append named (take i rows) (row ∷ []))
      ∙ find-after (λ n. not (is_there m n)) (flat_map named (take i rows)) _ none
      ∙ find-after (λ n. not (is_there m n)) (named row) [] here

-- the first of two lists' names, and of a name and others
pub missing-append : (m : Map) (a b : List Name) → missing_name m (a ++ b) ≡ option_or (missing_name m a) (missing_name m b)
missing-append m a b = find-append (λ n. not (is_there m n)) a b

option_or-five : {X : Type 0} (a b c d e : Option X) → option_or (option_or (option_or (option_or a b) c) d) e ≡ option_or a (option_or b (option_or c (option_or d e)))
option_or-five (Some x) b c d e = refl
option_or-five None (Some x) c d e = refl
option_or-five None None (Some x) d e = refl
option_or-five None None None d e = refl

pub missing-five : (m : Map) (from to : Name) (left right sources : List Name)
    → missing_name m (from ∷ to ∷ (left ++ (right ++ sources))) ≡ option_or (option_or (option_or (option_or (missing_name m (from ∷ [])) (missing_name m (to ∷ []))) (missing_name m left)) (missing_name m right)) (missing_name m sources)
missing-five m from to left right sources =
    missing-append m (from ∷ []) (to ∷ (left ++ (right ++ sources)))
    ∙ ap (option_or (missing_name m (from ∷ []))) (missing-append m (to ∷ []) (left ++ (right ++ sources)) ∙ ap (option_or (missing_name m (to ∷ []))) (missing-append m left (right ++ sources) ∙ ap (option_or (missing_name m left)) (missing-append m right sources)))
    ∙ sym (option_or-five (missing_name m (from ∷ [])) (missing_name m (to ∷ [])) (missing_name m left) (missing_name m right) (missing_name m sources))

-- ---- The first of three that is there

first_some-last : {X : Type 0} (c : Option X) → c ≡ first_some (c ∷ [])
first_some-last None = refl
first_some-last (Some x) = refl

pub first_some-second : {X : Type 0} (a b c : Option X) (x : X) → a ≡ None → b ≡ Some x
    → Some x ≡ first_some (a ∷ b ∷ c ∷ [])
first_some-second a b c x none some = rw (none, some) refl

pub first_some-third : {X : Type 0} (a b c : Option X) → a ≡ None → b ≡ None
    → c ≡ first_some (a ∷ b ∷ c ∷ [])
first_some-third a b c none gone = rw (none, gone) (first_some-last c)
