-- Strings taken out one after another.
use Rattle.std.proofs.Common.{◌≡◌, Bool, true, false, List, [], ◌∷◌, ◌++◌, refl, sym, ap, ◌∙◌, nat_eq, if◌then◌else◌}
use Rattle.std.proofs.lemmas.List.Sorted.{IsPermutation-refl, IsPermutation-trans, IsPermutation-cons}
use Rattle.std.specs.List.{AllByRecursion, IsDistinct}
use Rattle.cad_rows.specs.declared.names.Face.TheVariants.{Outside}
use Rattle.half_table.specs.declared.half.Half.{Half}
use Rattle.half_table.specs.Half.{twin, forward_of, backward_of}
use Rattle.half_table.specs.Rows.{HalfRows, strings, has, next, prev, origin_of, face}
use Rattle.half_table.specs.Surgery.{RemovesLoose, IsLoose}
use Rattle.half_table.proofs.Loose.{nat_eq-symm}
use Rattle.half_table.proofs.Strings.{has-string}
use Rattle.half_paths.specs.Path.{strings_of, AreIn, AreDifferent}
use Rattle.half_paths.specs.Loose.{is_of, AreLoose, DropsStrings}
use Rattle.half_paths.proofs.Added.{either-way}

pub drops-none : (rows : HalfRows) → DropsStrings [] rows rows
drops-none rows = record {
  strings = IsPermutation-refl (strings rows);
  has = λ g. refl;
  next = λ g. refl;
  prev = λ g. refl;
  origin = λ g. refl;
  face = λ g. refl;
}

-- one string, and then the others
pub drops-more : (h : Half) (dropped : List Half) (old mid new : HalfRows) → RemovesLoose h.string old mid → DropsStrings dropped mid new → DropsStrings (h ∷ dropped) old new
drops-more h dropped old mid new one all =
    let later : Half → Bool = is_of (strings_of dropped) in
    record {
      strings = IsPermutation-trans (strings old) (h.string ∷ strings mid) (h.string ∷ (strings_of dropped ++ strings new)) one.strings
          (IsPermutation-cons h.string (strings mid) (strings_of dropped ++ strings new) all.strings);
      has = λ g. all.has g ∙ ap (λ v. if later g then false else v) (one.has g) ∙ either-way (nat_eq g.string h.string) (later g) false (has old g);
      next = λ g. all.next g ∙ ap (λ v. if later g then g else v) (one.next g) ∙ either-way (nat_eq g.string h.string) (later g) g (next old g);
      prev = λ g. all.prev g ∙ ap (λ v. if later g then g else v) (one.prev g) ∙ either-way (nat_eq g.string h.string) (later g) g (prev old g);
      origin = λ g. all.origin g ∙ ap (λ v. if later g then 0 else v) (one.origin g) ∙ either-way (nat_eq g.string h.string) (later g) 0 (origin_of old g);
      face = λ g. all.face g ∙ ap (λ v. if later g then Outside else v) (one.face g) ∙ either-way (nat_eq g.string h.string) (later g) Outside (face old g);
    }

-- of strings that differ the first is none of the others
pub differ-first : (h : Half) (tail : List Half) → AreDifferent (h ∷ tail) → AllByRecursion (λ t. nat_eq h.string t ≡ false) (strings_of tail)
unfolding IsDistinct
differ-first h tail d = d.0

pub differ-rest : (h : Half) (tail : List Half) → AreDifferent (h ∷ tail) → AreDifferent tail
unfolding IsDistinct
differ-rest h tail d = d.1

-- the others are still there, and loose
pub loose-left : (h : Half) (dropped : List Half) (old mid : HalfRows) → RemovesLoose h.string old mid → AllByRecursion (λ t. nat_eq h.string t ≡ false) (strings_of dropped)
    → AreLoose (next old) dropped → AreLoose (next mid) dropped
loose-left h [] old mid one apart loose = tt
loose-left h (k ∷ dropped) old mid one apart ((l0, l1), ls) = ((stays k apart.0 ∙ l0, stays (twin k) apart.0 ∙ l1), loose-left h dropped old mid one apart.1 ls)
  where
    stays : (g : Half) → nat_eq h.string g.string ≡ false → next mid g ≡ next old g
    stays g e = one.next g ∙ ap (λ b. if b then g else next old g) (nat_eq-symm g.string h.string ∙ e)

pub in-left : (h : Half) (dropped : List Half) (old mid : HalfRows) → RemovesLoose h.string old mid → AllByRecursion (λ t. nat_eq h.string t ≡ false) (strings_of dropped)
    → AreIn old dropped → AreIn mid dropped
in-left h [] old mid one apart there = tt
in-left h (k ∷ dropped) old mid one apart (i, is) =
    (one.has k ∙ ap (λ b. if b then false else has old k) (nat_eq-symm k.string h.string ∙ apart.0) ∙ i, in-left h dropped old mid one apart.1 is)

-- a half and its twin that follow one another are a loose string
pub is-loose : (rows : HalfRows) (h : Half) → has rows h ≡ true → next rows h ≡ twin h → next rows (twin h) ≡ h → IsLoose h.string rows
is-loose rows h there on back = by h.forward refl
  where
    by : (f : Bool) → h.forward ≡ f → IsLoose h.string rows
    by true e =
        let is : h ≡ forward_of h.string = λ i. record { string = h.string; forward = e i } in
        record {
          there = sym (has-string rows h) ∙ there;
          forward = ap (next rows) (sym is) ∙ on ∙ ap twin is;
          backward = ap (λ x. next rows (twin x)) (sym is) ∙ back ∙ is;
        }
    by false e =
        let is : h ≡ backward_of h.string = λ i. record { string = h.string; forward = e i } in
        record {
          there = sym (has-string rows h) ∙ there;
          forward = ap (λ x. next rows (twin x)) (sym is) ∙ back ∙ is;
          backward = ap (next rows) (sym is) ∙ on ∙ ap twin is;
        }
