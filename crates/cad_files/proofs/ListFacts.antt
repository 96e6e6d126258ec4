-- Numbers that are read one after another.
use Rattle.std.proofs.Common.{◌≡◌, ◌∙◌, sym, ap, refl, ℕ, ◌+◌, ◌<◌, List, [], ◌∷◌, ◌++◌, length, take, drop, get_or, Option, Some, None, append_assoc, add-one, drop-cons, true, false, ◌==◌, ◌≤◌, All, take-append-drop, Bor, MatchOption}
use Rattle.std.specs.Prelude.{option_map}
use Rattle.std.specs.List.{list_any, slice_split}
use Rattle.std.proofs.Math.Seq.{take-suc}
use Rattle.std.proofs.lemmas.List.{take_all, drop_all}
use Rattle.std.proofs.lemmas.List.Elements.{All-push}
use Rattle.std.proofs.lemmas.List.Splits.{slice_split_none, slice_split_at}
use Rattle.cad_files.specs.Fields.{all_numbers, number_of, numbers_of, repeated, is_space}

pub all_numbers-none : (part : List ℕ) (parts : List (List ℕ)) → number_of part ≡ None → all_numbers (part ∷ parts) ≡ None
unfolding all_numbers
all_numbers-none part parts h = rw h refl

pub all_numbers-last : (part : List ℕ) (n : ℕ) → number_of part ≡ Some n → all_numbers (part ∷ []) ≡ Some (n ∷ [])
unfolding all_numbers
all_numbers-last part n h = rw h refl

option_map-twice : (before : List ℕ) (n : ℕ) (o : Option (List ℕ)) → option_map (λ ns. before ++ ns) (option_map (λ ns. n ∷ ns) o) ≡ option_map (λ ns. (before ++ n ∷ []) ++ ns) o
option_map-twice before n None = refl
option_map-twice before n (Some ns) = ap (λ l. Some l) (sym (append_assoc before (n ∷ []) ns))

pub all_numbers-more : (part : List ℕ) (parts : List (List ℕ)) (before : List ℕ) (n : ℕ) → number_of part ≡ Some n
    → option_map (λ ns. before ++ ns) (all_numbers (part ∷ parts)) ≡ option_map (λ ns. (before ++ n ∷ []) ++ ns) (all_numbers parts)
unfolding all_numbers
all_numbers-more part parts before n h = rw h (option_map-twice before n (all_numbers parts))

module _ (before list : List ℕ) (i x d : ℕ) (h : i < length list) (is : x ≡ get_or list i d) where
  -- one number more, which none before it is equal to
  pub repeated-more : list_any (λ k. k == x) (before ++ take i list) ≡ false
      → repeated (before ++ take (i + 1) list) (drop (i + 1) list) ≡ repeated (before ++ take i list) (drop i list)
  repeated-more free = rw (drop-cons list i d h, ← is, add-one, free, take-suc list i d h, ← is, append_assoc) refl

  -- one to which one before it is equal
  pub repeated-found : list_any (λ k. k == x) (before ++ take i list) ≡ true → repeated (before ++ take i list) (drop i list) ≡ Some x
  repeated-found found = rw (drop-cons list i d h, ← is, found) refl

-- no number more
pub repeated-end : (before list : List ℕ) (i : ℕ) → length list ≤ i → repeated (before ++ take i list) (drop i list) ≡ None
repeated-end before list i h = rw (drop_all i list h) refl

-- one byte more that is no space
pub no_space-more : (text : List ℕ) (i : ℕ) → i < length text → is_space (get_or text i 0) ≡ false → All (λ b. is_space b ≡ false) (take i text)
    → All (λ b. is_space b ≡ false) (take (i + 1) text)
no_space-more text i h none all = rw (add-one, take-suc text i 0 h) (All-push (λ b. is_space b ≡ false) (take i text) (get_or text i 0) all none)

-- the first part ends before the first space
pub first_part-at : (text : List ℕ) (i : ℕ) → i < length text → get_or text i 0 ≡ 32 → All (λ b. is_space b ≡ false) (take i text)
    → slice_split is_space text ≡ take i text ∷ slice_split is_space (drop (i + 1) text)
first_part-at text i h space all =
    let whole : take i text ++ (32 ∷ drop (i + 1) text) ≡ text = rw (← space, add-one, ← drop-cons text i 0 h) (take-append-drop i text) in
    ap (slice_split is_space) (sym whole) ∙ slice_split_at is_space (take i text) 32 (drop (i + 1) text) all refl

pub first_part-whole : (text : List ℕ) (i : ℕ) → length text ≤ i → All (λ b. is_space b ≡ false) (take i text) → slice_split is_space text ≡ text ∷ []
first_part-whole text i h all = slice_split_none is_space text (rw (take_all i text h) at all)

pub numbers_of-some : (text : List ℕ) → (length text == 0) ≡ false → numbers_of text ≡ all_numbers (slice_split is_space text)
unfolding numbers_of
numbers_of-some text some = rw some refl

-- a first part, and others or none
pub some_parts : (more : Option (Bor (List ℕ))) (parts : List (List ℕ)) (part : List ℕ)
    → MatchOption more (parts ≡ part ∷ []) (λ rest. parts ≡ part ∷ slice_split is_space rest.now) → (others : List (List ℕ)) × (parts ≡ part ∷ others)
some_parts None parts part h = ([], h)
some_parts (Some rest) parts part h = (slice_split is_space rest.now, h)
