-- Successors written one after another.
-- Pairs written over the values that a function had give the function back (`redirect-restores`).
-- So that one call undoes another is shown by comparing two lists of pairs.
use Rattle.std.proofs.Common.{◌≡◌, Bool, true, false, List, [], ◌∷◌, ◌++◌, ◌||◌, if◌then◌else◌, refl, sym, ap, ◌∙◌, ◌⊎◌, inl, inr, true≢false}
use Rattle.half_table.specs.declared.half.Half.{Half}
use Rattle.half_table.specs.Half.{is_half}
use Rattle.half_table.specs.Cycle.{holds}
use Rattle.half_table.proofs.Halves.{is_half-same, is_half-other}
use Rattle.half_paths.specs.Redirect.{written, redirect}

-- the halves that get another successor
abbrev pub sources : List (Half × Half) → List Half
sources [] = []
sources (entry ∷ entries) = entry.0 ∷ sources entries

-- the function has these values already
abbrev pub AreOf : (Half → Half) → List (Half × Half) → Type 0
AreOf f [] = Unit {0}
AreOf f (entry ∷ entries) = (f entry.0 ≡ entry.1) × AreOf f entries

pub neither : (a b : Bool) → (a || b) ≡ false → (a ≡ false) × (b ≡ false)
neither false false h = (refl, refl)
neither false true h = cc
neither true b h = cc

either : (a b : Bool) → (a || b) ≡ true → b ≡ false → a ≡ true
either true b h k = refl
either false true h k = cc
either false false h k = cc

cases_bool : (b : Bool) → (b ≡ true) ⊎ (b ≡ false)
cases_bool true = inl refl
cases_bool false = inr refl

written-own : (f : Half → Half) (a b : Half) → f a ≡ b → (g : Half) → written a b f g ≡ f g
written-own f a b e g = by (is_half g a) refl
  where
    by : (s : Bool) → is_half g a ≡ s → (if s then b else f g) ≡ f g
    by true h = sym e ∙ ap f (sym (is_half-same g a h))
    by false h = refl

-- values that are there already change nothing
pub redirect-own : (f : Half → Half) (es : List (Half × Half)) → AreOf f es → redirect es f ≡ f
redirect-own f [] own = refl
redirect-own f (e ∷ es) own = ap (redirect es) (λ i g. written-own f e.0 e.1 own.0 g i) ∙ redirect-own f es own.1

-- other halves keep their successor
pub redirect-kept : (es : List (Half × Half)) (f : Half → Half) (g : Half) → holds (sources es) g ≡ false → redirect es f g ≡ f g
redirect-kept [] f g h = refl
redirect-kept (e ∷ es) f g h =
    let n = neither (is_half g e.0) (holds (sources es) g) h in
    redirect-kept es (written e.0 e.1 f) g n.1 ∙ ap (λ b. if b then e.1 else f g) n.0

-- what a half is followed by that gets another successor doesn't depend on what was before
pub redirect-any : (es : List (Half × Half)) (F G : Half → Half) (g : Half) → holds (sources es) g ≡ true → redirect es F g ≡ redirect es G g
redirect-any [] F G g h = cc
redirect-any (e ∷ es) F G g h =
    elim (cases_bool (holds (sources es) g)) [
      | inl k ↦ redirect-any es (written e.0 e.1 F) (written e.0 e.1 G) g k
      | inr k ↦
          let t = either (is_half g e.0) (holds (sources es) g) h k in
          redirect-kept es (written e.0 e.1 F) g k ∙ ap (λ b. if b then e.1 else F g) t
          ∙ sym (redirect-kept es (written e.0 e.1 G) g k ∙ ap (λ b. if b then e.1 else G g) t)
    ]

-- the old values written again restore
pub redirect-restores : (es fs : List (Half × Half)) (f : Half → Half) → ((g : Half) → holds (sources es) g ≡ true → holds (sources fs) g ≡ true) → AreOf f fs
    → (g : Half) → redirect fs (redirect es f) g ≡ f g
redirect-restores es fs f within own g =
    elim (cases_bool (holds (sources fs) g)) [
      | inl k ↦ redirect-any fs (redirect es f) f g k ∙ (λ i. redirect-own f fs own i g)
      | inr k ↦ redirect-kept fs (redirect es f) g k ∙ elim (cases_bool (holds (sources es) g)) [
        | inl s ↦ absurd (true≢false (sym (within g s) ∙ k))
        | inr s ↦ redirect-kept es f g s
      ]
    ]

pub redirect-back : (es fs : List (Half × Half)) (f : Half → Half) → sources es ≡ sources fs → AreOf f fs → (g : Half) → redirect fs (redirect es f) g ≡ f g
redirect-back es fs f same own g = redirect-restores es fs f (λ h e. ap (λ l. holds l h) (sym same) ∙ e) own g

-- what is written later counts alone
pub redirect-overwritten : (x y : Half) (es : List (Half × Half)) (f : Half → Half) → holds (sources es) x ≡ true → (g : Half) → redirect ((x, y) ∷ es) f g ≡ redirect es f g
redirect-overwritten x y es f later g =
    elim (cases_bool (holds (sources es) g)) [
      | inl k ↦ redirect-any es (written x y f) f g k
      | inr k ↦ redirect-kept es (written x y f) g k ∙ ap (λ b. if b then y else f g) (apart k) ∙ sym (redirect-kept es f g k)
    ]
  where
    apart : holds (sources es) g ≡ false → is_half g x ≡ false
    apart k = is_half-other g x (λ s. true≢false (sym later ∙ ap (holds (sources es)) (sym s) ∙ k))

-- one list of pairs after another
pub redirect-append : (es fs : List (Half × Half)) (f : Half → Half) (g : Half) → redirect (es ++ fs) f g ≡ redirect fs (redirect es f) g
redirect-append [] fs f g = refl
redirect-append (e ∷ es) fs f g = redirect-append es fs (written e.0 e.1 f) g

pub own-append : (f : Half → Half) (es fs : List (Half × Half)) → AreOf f es → AreOf f fs → AreOf f (es ++ fs)
own-append f [] fs own owns = owns
own-append f (e ∷ es) fs own owns = (own.0, own-append f es fs own.1 owns)

sources-append : (es fs : List (Half × Half)) (g : Half) → holds (sources (es ++ fs)) g ≡ (holds (sources es) g || holds (sources fs) g)
sources-append [] fs g = refl
sources-append (e ∷ es) fs g = ap (λ b. is_half g e.0 || b) (sources-append es fs g) ∙ grouped (is_half g e.0) (holds (sources es) g) (holds (sources fs) g)
  where
    grouped : (a b c : Bool) → (a || (b || c)) ≡ ((a || b) || c)
    grouped true b c = refl
    grouped false b c = refl

-- whether a half is the first of a pair in three lists
pub holds-pairs : (es fs gs : List (Half × Half)) (g : Half) → holds (sources (es ++ (fs ++ gs))) g ≡ (holds (sources es) g || (holds (sources fs) g || holds (sources gs) g))
holds-pairs es fs gs g = sources-append es (fs ++ gs) g ∙ ap (λ b. holds (sources es) g || b) (sources-append fs gs g)

-- a change of what was changed, by which it is what it was before
pub changed-back : (change : (Half → Half) → Half → Half) {old now new other : Half → Half} → ((g : Half) → new g ≡ change now g)
    → ((g : Half) → now g ≡ other g) → ((g : Half) → change other g ≡ old g) → (g : Half) → new g ≡ old g
changed-back change made same back g = made g ∙ ap (λ f. change f g) (λ i q. same q i) ∙ back g
