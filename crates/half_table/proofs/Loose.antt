-- A string that comes or goes.
use Rattle.std.proofs.Common.{arith, ◌≡◌, ◌<◌, ◌+◌, ◌-◌, ℕ, suc, length, take, nat_lt, [], ◌∷◌, ◌++◌, Bool, true, false, not, cond, refl, sym, ap, ◌∙◌, subst, Option, Some, None, is_some, option_map, true≢false, nat_eq, if◌then◌else◌}
use Rattle.std.proofs.lemmas.Bool.Decides.{Decides-eqb}
use Rattle.std.specs.List.{IsDistinct, AllByRecursion, position, position_or_len}
use Rattle.std.specs.List.Sorted.{IsPermutation}
use Rattle.indexmap.specs.IndexMap.{swap_remove_entry}
use Rattle.indexmap.proofs.MapLemmas.{swap_remove_entry-found, swap_remove_last}
use Rattle.std.proofs.lemmas.Bool.{lt-ltb}
use Rattle.std.proofs.lemmas.List.{length-map}
use Rattle.std.proofs.Math.Seq.{take-append_seam}
use Rattle.std.specs.Map.{lookup}
use Rattle.std.specs.Option.{option_map_or}
use Rattle.cad_rows.specs.declared.names.Face.TheVariants.{Outside}
use Rattle.half_table.specs.declared.half.Half.{Half}
use Rattle.half_table.specs.declared.links.Links.{Links}
use Rattle.half_table.specs.declared.links.Ends.{Ends}
use Rattle.half_table.specs.Half.{twin, forward_of, backward_of}
use Rattle.half_table.specs.Rows.{HalfRows, strings, has_halves, links_at, links_of, has, next, prev, origin_of, face, IsLinked}
use Rattle.half_table.specs.Surgery.{AddsLoose, RemovesLoose, IsLoose, loose_ends}
use Rattle.half_table.proofs.Halves.{twin-twin}
use Rattle.half_table.proofs.Strings.{swapped-out}

pub nat_eq-symm : (a b : ℕ) → nat_eq a b ≡ nat_eq b a
nat_eq-symm a b = same (nat_eq a b) (nat_eq b a) (λ e. (Decides-eqb b a).1 (sym ((Decides-eqb a b).0 e))) (λ e. (Decides-eqb a b).1 (sym ((Decides-eqb b a).0 e)))
  where
    same : (x y : Bool) → (x ≡ true → y ≡ true) → (y ≡ true → x ≡ true) → x ≡ y
    same true y f g = sym (f refl)
    same false true f g = g refl
    same false false f g = refl

module _ (old new : HalfRows) (s : ℕ) (w : Option Ends) (put : (q : ℕ) → lookup (nat_eq q) new ≡ cond (nat_eq s q) w (lookup (nat_eq q) old)) where
  -- what is read of a half after the change
  read : {V : Type 0} (F : Option Links → V) (g : Half) → F (links_of new g) ≡ (if nat_eq g.string s then F (option_map (links_at g.forward) w) else F (links_of old g))
  read F g = ap (λ o. F (option_map (links_at g.forward) o)) (put g.string ∙ ap (λ b. cond b w (lookup (nat_eq g.string) old)) (nat_eq-symm s g.string)) ∙ push (nat_eq g.string s)
    where
      push : (b : Bool) → F (option_map (links_at g.forward) (cond b w (lookup (nat_eq g.string) old))) ≡ (if b then F (option_map (links_at g.forward) w) else F (links_of old g))
      push true = refl
      push false = refl

-- where both branches agree under the test
if-agree : {V : Type 0} (b : Bool) (x y z : V) → (b ≡ true → x ≡ y) → (if b then x else z) ≡ (if b then y else z)
if-agree true x y z f = f refl
if-agree false x y z f = refl

-- a change of one string's halves that keeps next and prev in step
module _ (old new : HalfRows) (s : ℕ) (m : Half → Half) (k : Bool) (linked : IsLinked old) (unique : IsDistinct nat_eq (strings new))
    (next_is : (g : Half) → next new g ≡ (if nat_eq g.string s then m g else next old g))
    (prev_is : (g : Half) → prev new g ≡ (if nat_eq g.string s then m g else prev old g))
    (has_is : (g : Half) → has new g ≡ (if nat_eq g.string s then k else has old g))
    (m_string : (g : Half) → (m g).string ≡ g.string) (m_twice : (g : Half) → m (m g) ≡ g)
    (next_stays : (g : Half) → nat_eq g.string s ≡ true → nat_eq (next old g).string s ≡ true)
    (prev_stays : (g : Half) → nat_eq g.string s ≡ true → nat_eq (prev old g).string s ≡ true) where
  -- a step of a half that isn't the string's leads to another that isn't
  away : (f back : Half → Half) → ((h : Half) → back (f h) ≡ h) → ((g : Half) → nat_eq g.string s ≡ true → nat_eq (back g).string s ≡ true)
      → (g : Half) → nat_eq g.string s ≡ false → nat_eq (f g).string s ≡ false
  away f back undone stays g e = by (nat_eq (f g).string s) refl
    where
      by : (b : Bool) → nat_eq (f g).string s ≡ b → nat_eq (f g).string s ≡ false
      by false p = p
      by true p = absurd (true≢false (sym (sym (ap (λ (h : Half). nat_eq h.string s) (undone g)) ∙ stays (f g) p) ∙ e))

  away_next : (g : Half) → nat_eq g.string s ≡ false → nat_eq (next old g).string s ≡ false
  away_next = away (next old) (prev old) linked.prev_next prev_stays

  away_prev : (g : Half) → nat_eq g.string s ≡ false → nat_eq (prev old g).string s ≡ false
  away_prev = away (prev old) (next old) linked.next_prev next_stays

  pub patched-linked : IsLinked new
  patched-linked = record { distinct = unique; prev_next = λ h. pn h (nat_eq h.string s) refl; next_prev = λ h. np h (nat_eq h.string s) refl; inside = λ h. ins h (nat_eq h.string s) refl }
    where
      pn : (h : Half) (b : Bool) → nat_eq h.string s ≡ b → prev new (next new h) ≡ h
      pn h true e = ap (prev new) (next_is h ∙ ap (λ b. if b then m h else next old h) e) ∙ prev_is (m h)
          ∙ ap (λ b. if b then m (m h) else prev old (m h)) (ap (λ t. nat_eq t s) (m_string h) ∙ e) ∙ m_twice h
      pn h false e = ap (prev new) (next_is h ∙ ap (λ b. if b then m h else next old h) e) ∙ prev_is (next old h)
          ∙ ap (λ b. if b then m (next old h) else prev old (next old h)) (away_next h e) ∙ linked.prev_next h

      np : (h : Half) (b : Bool) → nat_eq h.string s ≡ b → next new (prev new h) ≡ h
      np h true e = ap (next new) (prev_is h ∙ ap (λ b. if b then m h else prev old h) e) ∙ next_is (m h)
          ∙ ap (λ b. if b then m (m h) else next old (m h)) (ap (λ t. nat_eq t s) (m_string h) ∙ e) ∙ m_twice h
      np h false e = ap (next new) (prev_is h ∙ ap (λ b. if b then m h else prev old h) e) ∙ next_is (prev old h)
          ∙ ap (λ b. if b then m (prev old h) else next old (prev old h)) (away_prev h e) ∙ linked.next_prev h

      ins : (h : Half) (b : Bool) → nat_eq h.string s ≡ b → has new (next new h) ≡ has new h
      ins h true e = ap (has new) (next_is h ∙ ap (λ b. if b then m h else next old h) e) ∙ has_is (m h)
          ∙ ap (λ b. if b then k else has old (m h)) (ap (λ t. nat_eq t s) (m_string h) ∙ e) ∙ ap (λ b. if b then k else has old h) (sym e) ∙ sym (has_is h)
      ins h false e = ap (has new) (next_is h ∙ ap (λ b. if b then m h else next old h) e) ∙ has_is (next old h)
          ∙ ap (λ b. if b then k else has old (next old h)) (away_next h e) ∙ linked.inside h ∙ ap (λ b. if b then k else has old h) (sym e) ∙ sym (has_is h)

-- of a string that isn't there each half is its own next and prev
pub absent : (rows : HalfRows) (s : ℕ) → lookup (nat_eq s) rows ≡ None → (g : Half) → nat_eq g.string s ≡ true → links_of rows g ≡ None
absent rows s none g e = ap (λ t. option_map (links_at g.forward) (lookup (nat_eq t) rows)) ((Decides-eqb g.string s).0 e) ∙ ap (option_map (links_at g.forward)) none

loose_next : (s from to t : ℕ) (f : Bool) → s ≡ t → (links_at f (loose_ends s from to)).next ≡ record { string = t; forward = not f }
loose_next s from to t true p = λ i. record { string = p i; forward = false }
loose_next s from to t false p = λ i. record { string = p i; forward = true }

loose_prev : (s from to t : ℕ) (f : Bool) → s ≡ t → (links_at f (loose_ends s from to)).prev ≡ record { string = t; forward = not f }
loose_prev s from to t true p = λ i. record { string = p i; forward = false }
loose_prev s from to t false p = λ i. record { string = p i; forward = true }

loose_origin : (s from to : ℕ) (f : Bool) → (links_at f (loose_ends s from to)).origin ≡ (if f then from else to)
loose_origin s from to true = refl
loose_origin s from to false = refl

loose_face : (s from to : ℕ) (f : Bool) → (links_at f (loose_ends s from to)).face ≡ Outside
loose_face s from to true = refl
loose_face s from to false = refl

pub added : (old new : HalfRows) (s from to : ℕ) → strings new ≡ strings old ++ s ∷ [] → ((q : ℕ) → lookup (nat_eq q) new ≡ cond (nat_eq s q) (Some (loose_ends s from to)) (lookup (nat_eq q) old)) → AddsLoose s from to old new
added old new s from to held put = record {
  strings = held;
  next = λ g. read old new s (Some (loose_ends s from to)) put (λ o. option_map_or (λ (l : Links). l.next) o g) g
      ∙ if-agree (nat_eq g.string s) _ (twin g) (next old g) (λ e. loose_next s from to g.string g.forward (sym ((Decides-eqb g.string s).0 e)));
  prev = λ g. read old new s (Some (loose_ends s from to)) put (λ o. option_map_or (λ (l : Links). l.prev) o g) g
      ∙ if-agree (nat_eq g.string s) _ (twin g) (prev old g) (λ e. loose_prev s from to g.string g.forward (sym ((Decides-eqb g.string s).0 e)));
  origin = λ g. read old new s (Some (loose_ends s from to)) put (λ o. option_map_or (λ (l : Links). l.origin) o 0) g
      ∙ if-agree (nat_eq g.string s) _ (if g.forward then from else to) (origin_of old g) (λ e. loose_origin s from to g.forward);
  face = λ g. read old new s (Some (loose_ends s from to)) put (λ o. option_map_or (λ (l : Links). l.face) o Outside) g
      ∙ if-agree (nat_eq g.string s) _ Outside (face old g) (λ e. loose_face s from to g.forward);
  has = λ g. read old new s (Some (loose_ends s from to)) put is_some g;
}

pub added-linked : (old new : HalfRows) (s from to : ℕ) → IsLinked old → IsDistinct nat_eq (strings new) → lookup (nat_eq s) old ≡ None → AddsLoose s from to old new → IsLinked new
added-linked old new s from to linked unique none a =
    patched-linked old new s twin true linked unique a.next a.prev a.has (λ g. refl) twin-twin
    (λ g e. ap (λ o. nat_eq (option_map_or (λ (l : Links). l.next) o g).string s) (absent old s none g e) ∙ e)
    (λ g e. ap (λ o. nat_eq (option_map_or (λ (l : Links). l.prev) o g).string s) (absent old s none g e) ∙ e)

pub removed : (old new : HalfRows) (s : ℕ) → has_halves old s ≡ true → new ≡ swap_remove_entry (nat_eq s) old → ((q : ℕ) → lookup (nat_eq q) new ≡ cond (nat_eq s q) None (lookup (nat_eq q) old)) → RemovesLoose s old new
removed old new s there swapped put = record {
  strings =
      let gone : has_halves new s ≡ false = ap is_some (put s) ∙ ap (λ b. is_some (cond b None (lookup (nat_eq s) old))) ((Decides-eqb s s).1 refl) in
      subst (λ l. IsPermutation (strings old) (s ∷ strings l)) (sym swapped) (swapped-out old s there (ap (λ l. has_halves l s) (sym swapped) ∙ gone));
  next = λ g. read old new s None put (λ o. option_map_or (λ (l : Links). l.next) o g) g;
  prev = λ g. read old new s None put (λ o. option_map_or (λ (l : Links). l.prev) o g) g;
  origin = λ g. read old new s None put (λ o. option_map_or (λ (l : Links). l.origin) o 0) g;
  face = λ g. read old new s None put (λ o. option_map_or (λ (l : Links). l.face) o Outside) g;
  has = λ g. read old new s None put is_some g;
}

-- ---- The last string

all-last : (P : ℕ → Type 0) (before : HalfRows) (s : ℕ) (e : Ends) → AllByRecursion P (strings (before ++ (s, e) ∷ [])) → P s
all-last P [] s e all = all.0
all-last P (x ∷ before) s e all = all-last P before s e all.1

pub others-differ : (before : HalfRows) (s : ℕ) (e : Ends) → IsDistinct nat_eq (strings (before ++ (s, e) ∷ [])) → AllByRecursion (λ t. nat_eq s t ≡ false) (strings before)
unfolding IsDistinct
others-differ [] s e d = tt
others-differ (x ∷ before) s e d = (nat_eq-symm s x.0 ∙ all-last (λ t. nat_eq x.0 t ≡ false) before s e d.0, others-differ before s e d.1)

place-last : (before : HalfRows) (s : ℕ) (e : Ends) → AllByRecursion (λ t. nat_eq s t ≡ false) (strings before) → position_or_len (nat_eq s) (strings (before ++ (s, e) ∷ [])) ≡ length before
place-last [] s e d = ap (λ b. cond (not b) 1 0) ((Decides-eqb s s).1 refl)
place-last (x ∷ before) s e d =
    let later : position_or_len (nat_eq s) (strings (before ++ (s, e) ∷ [])) ≡ length before = place-last before s e d.1 in
    let more : 1 + position_or_len (nat_eq s) (strings (before ++ (s, e) ∷ [])) ≡ suc (length before) = omega (arith, later) in
    ap (λ b. cond (not b) (1 + position_or_len (nat_eq s) (strings (before ++ (s, e) ∷ []))) 0) d.0 ∙ more

length-last : (before : HalfRows) (s : ℕ) (e : Ends) → length (before ++ (s, e) ∷ []) ≡ suc (length before)
length-last [] s e = refl
length-last (x ∷ before) s e = ap suc (length-last before s e)

-- the last string taken out leaves the others in their order
pub swapped-last : (before : HalfRows) (s : ℕ) (e : Ends) → IsDistinct nat_eq (strings (before ++ (s, e) ∷ [])) → swap_remove_entry (nat_eq s) (before ++ (s, e) ∷ []) ≡ before
swapped-last before s e d =
    let rows : HalfRows = before ++ (s, e) ∷ [] in
    let n : ℕ = length rows - 1 in
    let is_n : n ≡ length before = omega (arith, length-last before s e) in
    let keys : length (strings rows) ≡ length rows = length-map rows (λ (x : ℕ × Ends). x.0) in
    let at : position_or_len (nat_eq s) (strings rows) ≡ n = place-last before s e (others-differ before s e d) ∙ sym is_n in
    let within : n < length (strings rows) = omega (arith, keys, length-last before s e) in
    let found : position (nat_eq s) (strings rows) ≡ Some n =
    ap (λ k. cond (nat_lt k (length (strings rows))) (Some k) None) at ∙ ap (λ b. cond b (Some n) None) (lt-ltb n _ within) in
    swap_remove_entry-found (nat_eq s) rows n (s, e) found ∙ swap_remove_last rows (s, e) ∙ ap (λ k. take k rows) is_n ∙ take-append_seam before ((s, e) ∷ [])

-- what follows a half of a loose string
pub loose-follows : (rows : HalfRows) (s : ℕ) → IsLoose s rows → (g : Half) → nat_eq g.string s ≡ true → (f : Bool) → g.forward ≡ f → next rows g ≡ record { string = s; forward = not f }
loose-follows rows s loose g e true d = ap (next rows) (λ i. record { string = (Decides-eqb g.string s).0 e i; forward = d i }) ∙ loose.forward
loose-follows rows s loose g e false d = ap (next rows) (λ i. record { string = (Decides-eqb g.string s).0 e i; forward = d i }) ∙ loose.backward

loose-before : (rows : HalfRows) (s : ℕ) → IsLinked rows → IsLoose s rows → (g : Half) → nat_eq g.string s ≡ true → (f : Bool) → g.forward ≡ f → prev rows g ≡ record { string = s; forward = not f }
loose-before rows s linked loose g e true d = ap (prev rows) ((λ i. record { string = (Decides-eqb g.string s).0 e i; forward = d i }) ∙ sym loose.backward) ∙ linked.prev_next (backward_of s)
loose-before rows s linked loose g e false d = ap (prev rows) ((λ i. record { string = (Decides-eqb g.string s).0 e i; forward = d i }) ∙ sym loose.forward) ∙ linked.prev_next (forward_of s)

pub removed-linked : (old new : HalfRows) (s : ℕ) → IsLinked old → IsDistinct nat_eq (strings new) → IsLoose s old → RemovesLoose s old new → IsLinked new
removed-linked old new s linked unique loose r =
    patched-linked old new s (λ g. g) false linked unique r.next r.prev r.has (λ g. refl) (λ g. refl)
    (λ g e. ap (λ (h : Half). nat_eq h.string s) (loose-follows old s loose g e g.forward refl) ∙ (Decides-eqb s s).1 refl)
    (λ g e. ap (λ (h : Half). nat_eq h.string s) (loose-before old s linked loose g e g.forward refl) ∙ (Decides-eqb s s).1 refl)
