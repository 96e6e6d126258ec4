-- Which strings and which halves a table holds.
use Rattle.std.proofs.Common.{◌≡◌, ℕ, List, [], ◌∷◌, ◌++◌, Bool, true, false, cond, ◌&&◌, ◌||◌, refl, sym, ap, ◌∙◌, Option, Some, None, is_some, option_map, true≢false, nat_eq, if◌then◌else◌, length, get_or, ◌<◌, subst}
use Rattle.std.specs.Bool.{beq}
use Rattle.std.proofs.lemmas.Bool.Decides.{Decides-eqb}
use Rattle.std.proofs.lemmas.List.{length-map, get_or-map, get_or_default}
use Rattle.std.proofs.lemmas.List.Quantifiers.{position-Some}
use Rattle.std.proofs.lemmas.List.Sorted.{IsPermutation-swap_remove, IsPermutation-map}
use Rattle.std.specs.List.{IsDistinct, AllByRecursion, list_any, position, swap_remove}
use Rattle.std.specs.List.Sorted.{IsPermutation}
use Rattle.std.specs.Map.{lookup, keys_of}
use Rattle.indexmap.specs.IndexMap.{insert_entry, swap_remove_entry}
use Rattle.indexmap.proofs.MapLemmas.{swap_remove_entry-found, swap_remove_entry-missing}
use Rattle.half_table.specs.declared.half.Half.{Half}
use Rattle.half_table.specs.declared.links.Ends.{Ends}
use Rattle.half_table.specs.Half.{forward_of, backward_of}
use Rattle.half_table.specs.Cycle.{holds, IsOnce}
use Rattle.half_table.specs.Rows.{HalfRows, strings, has_halves, links_at, has, halves_of, halves}
use Rattle.half_table.proofs.Halves.{is_half-twin}

-- a number under which a look-up finds nothing
pub none-found : {V : Type 0} (o : Option V) → is_some o ≡ false → o ≡ None
none-found None e = refl
none-found (Some v) e = absurd (true≢false e)

-- an entry under a new number goes last
pub keys-insert_entry : {V : Type 0} (es : List (ℕ × V)) (s : ℕ) (v : V) → lookup (nat_eq s) es ≡ None → keys_of (insert_entry nat_eq es s v) ≡ keys_of es ++ s ∷ []
keys-insert_entry [] s v none = refl
keys-insert_entry (e ∷ es) s v none = by (keys-insert_entry es s v) (nat_eq s e.0) refl
  where
    by : (lookup (nat_eq s) es ≡ None → keys_of (insert_entry nat_eq es s v) ≡ keys_of es ++ s ∷ []) → (b : Bool) → nat_eq s e.0 ≡ b
        → keys_of (insert_entry nat_eq (e ∷ es) s v) ≡ e.0 ∷ (keys_of es ++ s ∷ [])
    by ih true p = let found : Some e.1 ≡ None = sym (ap (λ b. cond b (Some e.1) (lookup (nat_eq s) es)) p) ∙ none in cc
    by ih false p =
        let later : lookup (nat_eq s) es ≡ None = sym (ap (λ b. cond b (Some e.1) (lookup (nat_eq s) es)) p) ∙ none in
        ap (λ b. keys_of (if b then (e.0, v) ∷ es else e ∷ insert_entry nat_eq es s v)) p ∙ ap (λ ks. e.0 ∷ ks) (ih later)

-- a string that is taken out, the last taking its place
pub swapped-out : (es : HalfRows) (s : ℕ) → has_halves es s ≡ true → has_halves (swap_remove_entry (nat_eq s) es) s ≡ false → IsPermutation (strings es) (s ∷ strings (swap_remove_entry (nat_eq s) es))
swapped-out [] s there gone = absurd (true≢false (sym there))
swapped-out (e ∷ es) s there gone = by (position (nat_eq s) (keys_of (e ∷ es))) refl
  where
    by : (o : Option ℕ) → position (nat_eq s) (keys_of (e ∷ es)) ≡ o → IsPermutation (strings (e ∷ es)) (s ∷ strings (swap_remove_entry (nat_eq s) (e ∷ es)))
    by None p = absurd (true≢false (sym there ∙ ap (λ l. has_halves l s) (sym (swap_remove_entry-missing (nat_eq s) (e ∷ es) p)) ∙ gone))
    by (Some i) p =
        let at = position-Some (nat_eq s) (keys_of (e ∷ es)) i s p in
        let below : i < length (keys_of (e ∷ es)) = at.0 in
        let within : i < length (e ∷ es) = subst (λ n. i < n) (length-map (e ∷ es) (λ (x : ℕ × Ends). x.0)) below in
        let x : ℕ × Ends = get_or (e ∷ es) i e in
        let moves : IsPermutation (e ∷ es) (x ∷ swap_remove (e ∷ es) i x) = IsPermutation-swap_remove (e ∷ es) i x within (get_or_default (e ∷ es) i e x within) in
        let key : x.0 ≡ s = sym (get_or-map (λ (y : ℕ × Ends). y.0) (e ∷ es) i e s within) ∙ sym ((Decides-eqb s (get_or (keys_of (e ∷ es)) i s)).0 at.1) in
        subst (λ l. IsPermutation (strings (e ∷ es)) (s ∷ strings l)) (sym (swap_remove_entry-found (nat_eq s) (e ∷ es) i x p))
        (subst (λ k. IsPermutation (strings (e ∷ es)) (k ∷ strings (swap_remove (e ∷ es) i x))) key
        (IsPermutation-map (λ (y : ℕ × Ends). y.0) (e ∷ es) (x ∷ swap_remove (e ∷ es) i x) moves))

-- a half is there where its string is
pub has-string : (rows : HalfRows) (h : Half) → has rows h ≡ has_halves rows h.string
has-string rows h = by (lookup (nat_eq h.string) rows)
  where
    by : (o : Option Ends) → is_some (option_map (links_at h.forward) o) ≡ is_some o
    by None = refl
    by (Some e) = refl

-- a string is there where its number is listed
pub has_string-strings : (rows : HalfRows) (s : ℕ) → has_halves rows s ≡ list_any (nat_eq s) (strings rows)
has_string-strings [] s = refl
has_string-strings (e ∷ es) s = push (nat_eq s e.0) ∙ ap (λ v. nat_eq s e.0 || v) (has_string-strings es s)
  where
    push : (b : Bool) → is_some (cond b (Some e.1) (lookup (nat_eq s) es)) ≡ (b || is_some (lookup (nat_eq s) es))
    push true = refl
    push false = refl

-- the list of all halves has those of the strings that are there
pub halves-holds : (rows : HalfRows) (q : Half) → holds (halves rows) q ≡ has_halves rows q.string
halves-holds [] q = refl
halves-holds (e ∷ es) q = by (halves-holds es q) (nat_eq q.string e.0) refl
  where
    side : (f x : Bool) → (beq f true || (beq f false || x)) ≡ true
    side true x = refl
    side false x = refl

    by : holds (halves es) q ≡ has_halves es q.string → (b : Bool) → nat_eq q.string e.0 ≡ b → holds (halves (e ∷ es)) q ≡ has_halves (e ∷ es) q.string
    by ih true p =
        ap (λ v. (v && beq q.forward true) || ((v && beq q.forward false) || holds (halves es) q)) p ∙ side q.forward (holds (halves es) q)
        ∙ sym (ap (λ v. is_some (cond v (Some e.1) (lookup (nat_eq q.string) es))) p)
    by ih false p =
        ap (λ v. (v && beq q.forward true) || ((v && beq q.forward false) || holds (halves es) q)) p ∙ ih
        ∙ sym (ap (λ v. is_some (cond v (Some e.1) (lookup (nat_eq q.string) es))) p)

pub in_halves : (rows : HalfRows) (q : Half) → has rows q ≡ true → holds (halves rows) q ≡ true
in_halves rows q e = halves-holds rows q ∙ sym (has-string rows q) ∙ e

not_held : (numbers : List ℕ) (h : Half) → AllByRecursion (λ n. nat_eq h.string n ≡ false) numbers → holds (halves_of numbers) h ≡ false
not_held [] h all = refl
not_held (n ∷ numbers) h all = ap (λ v. (v && beq h.forward true) || ((v && beq h.forward false) || holds (halves_of numbers) h)) all.0 ∙ not_held numbers h all.1

-- where no string stands twice, no half does
pub halves_of-once : (numbers : List ℕ) → IsDistinct nat_eq numbers → IsOnce (halves_of numbers)
unfolding IsDistinct
halves_of-once [] d = tt
halves_of-once (s ∷ numbers) d = (
  ap (λ v. v || holds (halves_of numbers) (forward_of s)) (is_half-twin (forward_of s)) ∙ not_held numbers (forward_of s) d.0,
  (not_held numbers (backward_of s) d.0, halves_of-once numbers d.1),
)
