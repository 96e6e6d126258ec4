-- Strings added one after another, and taken back.
use Rattle.std.proofs.Common.{arith, ◌≡◌, ◌<◌, ◌+◌, ◌-◌, ℕ, length, take, get_or, Bool, true, false, ◌||◌, List, [], ◌∷◌, ◌++◌, refl, sym, ap, ◌∙◌, subst, append_assoc, nat_eq, if◌then◌else◌, cond, Some, None, is_some, option_map}
use Rattle.std.proofs.lemmas.Bool.Decides.{Decides-eqb}
use Rattle.std.proofs.lemmas.List.{append-nil, map-append, take_more}
use Rattle.std.specs.List.{AllByRecursion, IsDistinct, list_any}
use Rattle.std.specs.Map.{lookup}
use Rattle.std.specs.Option.{option_map_or}
use Rattle.cad_rows.specs.declared.rows.StringRow.{StringRow}
use Rattle.half_table.specs.declared.half.Half.{Half}
use Rattle.half_table.specs.declared.links.Ends.{Ends}
use Rattle.half_table.specs.declared.links.Links.{Links}
use Rattle.half_table.specs.Count.{one_more, ticked}
use Rattle.half_table.specs.Half.{twin, forward_of, backward_of}
use Rattle.half_table.specs.Rows.{HalfRows, strings, links_at, has, next, prev, origin_of, face, IsLinked}
use Rattle.half_table.specs.Surgery.{AddsLoose, IsLoose, loose_ends}
use Rattle.cad_rows.specs.declared.names.Face.TheVariants.{Outside}
use Rattle.half_table.proofs.Loose.{nat_eq-symm, others-differ}
use Rattle.half_table.proofs.Strings.{has-string}
use Rattle.half_paths.specs.Loose.{numbers_of, is_of, AreNew, loose_rows, AddsStrings}
use Rattle.half_paths.proofs.Along.{ticked-add}
use Rattle.half_paths.proofs.Redirected.{neither}

-- two tests one after another are one
pub either-way : {V : Type 0} (p q : Bool) (m x : V) → (if q then m else (if p then m else x)) ≡ (if p || q then m else x)
either-way true true m x = refl
either-way true false m x = refl
either-way false true m x = refl
either-way false false m x = refl

none-of : (n : ℕ) (numbers : List ℕ) → AllByRecursion (λ t. nat_eq n t ≡ false) numbers → list_any (nat_eq n) numbers ≡ false
none-of n [] all = refl
none-of n (t ∷ numbers) all = ap (λ b. b || list_any (nat_eq n) numbers) all.0 ∙ none-of n numbers all.1

pub adds-none : (rows : HalfRows) → AddsStrings [] rows rows
adds-none rows = record {
  strings = sym (append-nil (strings rows));
  has = λ g. refl;
  next = λ g. refl;
  prev = λ g. refl;
  face = λ g. refl;
  ends = tt;
  origin = λ g e. refl;
}

-- one string, and then the others
pub adds-more : (s : StringRow) (added : List StringRow) (old mid new : HalfRows) → AllByRecursion (λ t. nat_eq s.number t ≡ false) (numbers_of added)
    → AddsLoose s.number s.from s.to old mid → AddsStrings added mid new → AddsStrings (s ∷ added) old new
adds-more s added old mid new apart one all =
    let later : Half → Bool = is_of (numbers_of added) in
    record {
      strings = all.strings ∙ ap (λ l. l ++ numbers_of added) one.strings ∙ append_assoc (strings old) (s.number ∷ []) (numbers_of added);
      has = λ g. all.has g ∙ ap (λ v. if later g then true else v) (one.has g) ∙ either-way (nat_eq g.string s.number) (later g) true (has old g);
      next = λ g. all.next g ∙ ap (λ v. if later g then twin g else v) (one.next g) ∙ either-way (nat_eq g.string s.number) (later g) (twin g) (next old g);
      prev = λ g. all.prev g ∙ ap (λ v. if later g then twin g else v) (one.prev g) ∙ either-way (nat_eq g.string s.number) (later g) (twin g) (prev old g);
      face = λ g. all.face g ∙ ap (λ v. if later g then Outside else v) (one.face g) ∙ either-way (nat_eq g.string s.number) (later g) Outside (face old g);
      ends = ((own true, own false), all.ends);
      origin = λ g e.
          let n = neither (nat_eq g.string s.number) (later g) e in
          all.origin g n.1 ∙ one.origin g ∙ ap (λ b. if b then (if g.forward then s.from else s.to) else origin_of old g) n.0;
    }
  where
    own : (f : Bool) → origin_of new (record { string = s.number; forward = f }) ≡ (if f then s.from else s.to)
    own f =
        all.origin (record { string = s.number; forward = f }) (none-of s.number (numbers_of added) apart)
        ∙ one.origin (record { string = s.number; forward = f })
        ∙ ap (λ b. if b then (if f then s.from else s.to) else origin_of old (record { string = s.number; forward = f })) ((Decides-eqb s.number s.number).1 refl)

-- what is new stays so where another string is added
pub new-kept : (s : StringRow) (added : List StringRow) (old mid : HalfRows) → AllByRecursion (λ t. nat_eq s.number t ≡ false) (numbers_of added)
    → AddsLoose s.number s.from s.to old mid → AreNew old added → AreNew mid added
new-kept s [] old mid apart one new = tt
new-kept s (t ∷ added) old mid apart one new = (
  sym (has-string mid (forward_of t.number)) ∙ one.has (forward_of t.number)
      ∙ ap (λ b. if b then true else has old (forward_of t.number)) (nat_eq-symm t.number s.number ∙ apart.0)
      ∙ has-string old (forward_of t.number) ∙ new.0,
  new-kept s added old mid apart.1 one new.1,
)

-- the rows with one string more
pub loose_rows-more : (before : HalfRows) (added : List StringRow) (s : StringRow)
    → before ++ loose_rows (added ++ s ∷ []) ≡ (before ++ loose_rows added) ++ (s.number, loose_ends s.number s.from s.to) ∷ []
loose_rows-more before added s =
    ap (λ l. before ++ l) (map-append (λ (t : StringRow). (t.number, loose_ends t.number t.from t.to)) added (s ∷ []))
    ∙ sym (append_assoc before (loose_rows added) ((s.number, loose_ends s.number s.from s.to) ∷ []))

-- the rows after one string more
pub rows-more : (new old first : HalfRows) (front more : List StringRow) (s : StringRow) → new ≡ old ++ (s.number, loose_ends s.number s.from s.to) ∷ []
    → old ≡ first ++ loose_rows front → more ≡ front ++ s ∷ [] → new ≡ first ++ loose_rows more
rows-more new old first front more s entry was is =
    entry ∙ ap (λ l. l ++ (s.number, loose_ends s.number s.from s.to) ∷ []) was
    ∙ sym (loose_rows-more first front s) ∙ ap (λ l. first ++ loose_rows l) (sym is)

found-last : (before : HalfRows) (s : ℕ) (e : Ends) → AllByRecursion (λ t. nat_eq s t ≡ false) (strings before) → lookup (nat_eq s) (before ++ (s, e) ∷ []) ≡ Some e
found-last [] s e d = ap (λ b. cond b (Some e) None) ((Decides-eqb s s).1 refl)
found-last (x ∷ before) s e d = ap (λ b. cond b (Some x.1) (lookup (nat_eq s) (before ++ (s, e) ∷ []))) d.0 ∙ found-last before s e d.1

-- the string that was added last is loose
pub last-loose : (rows before : HalfRows) (s : StringRow) → IsLinked rows → rows ≡ before ++ (s.number, loose_ends s.number s.from s.to) ∷ [] → IsLoose s.number rows
last-loose rows before s linked is =
    let ends : Ends = loose_ends s.number s.from s.to in
    let found : lookup (nat_eq s.number) rows ≡ Some ends =
    ap (lookup (nat_eq s.number)) is ∙ found-last before s.number ends (others-differ before s.number ends (subst (λ l. IsDistinct nat_eq (strings l)) is linked.distinct)) in
    record {
      there = ap is_some found;
      forward = ap (λ o. option_map_or (λ (l : Links). l.next) (option_map (links_at true) o) (forward_of s.number)) found;
      backward = ap (λ o. option_map_or (λ (l : Links). l.next) (option_map (links_at false) o) (backward_of s.number)) found;
    }

-- of strings that differ the first is none of the others
pub numbers-first : (s : StringRow) (added : List StringRow) → IsDistinct nat_eq (numbers_of (s ∷ added)) → AllByRecursion (λ t. nat_eq s.number t ≡ false) (numbers_of added)
unfolding IsDistinct
numbers-first s added d = d.0

pub numbers-rest : (s : StringRow) (added : List StringRow) → IsDistinct nat_eq (numbers_of (s ∷ added)) → IsDistinct nat_eq (numbers_of added)
unfolding IsDistinct
numbers-rest s added d = d.1

-- the rows where the last string that is left is told by its place
pub rows-last : (rows before : HalfRows) (added : List StringRow) (gone : ℕ) (d : StringRow) → gone < length added
    → rows ≡ before ++ loose_rows (take (length added - gone) added)
    → let k = length added - 1 - gone in
    rows ≡ (before ++ loose_rows (take k added)) ++ ((get_or added k d).number, loose_ends (get_or added k d).number (get_or added k d).from (get_or added k d).to) ∷ []
rows-last rows before added gone d within is =
    let k = length added - 1 - gone in
    let more : length added - gone ≡ k + 1 = omega (arith, within) in
    is ∙ ap (λ m. before ++ loose_rows (take m added)) more ∙ ap (λ l. before ++ loose_rows l) (take_more added k d (omega (arith, within)))
    ∙ loose_rows-more before (take k added) (get_or added k d)

-- one tick more, at the end
pub ticked-more : (n w : ℕ) → ticked (n + 1) w ≡ one_more (ticked n w)
ticked-more n w = ticked-add n 1 w
