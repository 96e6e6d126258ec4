-- A path cut out and taken apart.
use Rattle.std.proofs.Common.{◌≡◌, ◌≢◌, Bool, true, false, true≢false, List, [], ◌∷◌, if◌then◌else◌, refl, sym, ap, ◌∙◌, subst}
use Rattle.std.proofs.lemmas.Bool.Decides.{Decides-eqb}
use Rattle.half_table.specs.declared.half.Half.{Half}
use Rattle.half_table.specs.Half.{twin, is_half}
use Rattle.half_table.specs.Cycle.{holds}
use Rattle.half_table.specs.Rows.{HalfRows, IsLinked, next, prev}
use Rattle.half_table.proofs.Halves.{is_half-self, is_half-other, is_half-turned, twin-twin}
use Rattle.half_paths.specs.Redirect.{redirect}
use Rattle.half_paths.specs.Path.{AreDifferent, AreElsewhere, last_of}
use Rattle.half_paths.specs.Strung.{unstrung, IsStrung, IsUnstrung}
use Rattle.half_paths.specs.Loose.{AreLoose}
use Rattle.half_paths.specs.Ends.{cut, CanCut}
use Rattle.half_paths.proofs.Redirected.{neither}
use Rattle.half_paths.proofs.Along.{seams_of, Agree, strung-kept}
use Rattle.half_paths.proofs.Apart.{other, far, last-turned, twin-first, last-apart, first-unstrung, last-unstrung}
use Rattle.half_paths.proofs.Exchanged.{enters-outside}
use Rattle.half_paths.proofs.Tied.{unstrung-now, unstrung-elsewhere, loose-all}

-- What follows what where a path is out and loose, and what followed before.
pub record IsTakenOut (f new : Half → Half) (a : Half) (rest : List Half) : Type 0 where
  pub loose : AreLoose new (a ∷ rest)
  pub enters : (g : Half) → AreElsewhere g (a ∷ rest) → f g ≡ a → new g ≡ f (twin a)
  pub returns : (g : Half) → AreElsewhere g (a ∷ rest) → f g ≡ twin (last_of a rest) → new g ≡ f (last_of a rest)
  pub others : (g : Half) → AreElsewhere g (a ∷ rest) → f g ≢ a → f g ≢ twin (last_of a rest) → new g ≡ f g

module _ (rows : HalfRows) (linked : IsLinked rows) (a : Half) (rest : List Half) (different : AreDifferent (a ∷ rest)) (tied : IsStrung (next rows) a rest)
    (on_away : AreElsewhere (next rows (last_of a rest)) (a ∷ rest)) (back_away : AreElsewhere (next rows (twin a)) (a ∷ rest)) (last : Half) (is_last : last ≡ last_of a rest) where
  abbrev f : Half → Half
  f = next rows

  abbrev before : Half
  before = prev rows a

  abbrev beyond : Half
  beyond = prev rows (twin (last_of a rest))

  enters : f before ≡ a
  enters = linked.next_prev a

  returns : f beyond ≡ twin (last_of a rest)
  returns = linked.next_prev (twin (last_of a rest))

  abbrev z : Half
  z = last_of a rest

  can_cut : CanCut a last f
  can_cut = subst (λ (l : Half). CanCut a l f) (sym is_last) (record {
    two = is_half-other a (twin z) (λ e. true≢false (sym (is_half-self (twin a)) ∙ ap (λ (h : Half). is_half h (twin a)) (ap twin e ∙ twin-twin z) ∙ last-turned a rest different));
    no_ring = other (f z) a on_away.0;
    no_ring_back = other (f (twin a)) (twin z) (far (f (twin a)) a rest back_away);
  })

  -- a half elsewhere is no end of the path
  not_last : (g : Half) → AreElsewhere g (a ∷ rest) → is_half g z ≡ false
  not_last g away = other g z (far g a rest away)

  not_first : (g : Half) → AreElsewhere g (a ∷ rest) → is_half g (twin a) ≡ false
  not_first g away = other g (twin a) away.0

  apart : is_half beyond before ≡ false
  apart = is_half-other beyond before (λ e. clash (sym returns ∙ ap f e ∙ enters))
    where
      clash : twin z ≡ a → ⊥
      clash e = true≢false (sym (is_half-self z) ∙ ap (is_half z) (sym (twin-twin z) ∙ ap twin e) ∙ last-turned a rest different)

  module _ (mid : Half → Half) (cuts : CanCut a last f → (g : Half) → mid g ≡ redirect (cut before (prev rows (twin last)) a last f) f g) where
    is_mid : mid ≡ redirect (cut before beyond a z f) f
    is_mid = λ i g. (cuts can_cut g ∙ ap (λ (l : Half). redirect (cut before (prev rows (twin l)) a l f) f g) is_last) i

    value : (g : Half) (p q r s : Bool) → is_half g before ≡ p → is_half g (twin a) ≡ q → is_half g z ≡ r → is_half g beyond ≡ s
        → mid g ≡ (if p then f (twin a) else if q then a else if r then twin z else if s then f z else f g)
    value g p q r s e1 e2 e3 e4 =
        ap (λ n. n g) is_mid ∙ (λ i. if e1 i then f (twin a) else if e2 i then a else if e3 i then twin z else if e4 i then f z else f g)

    agree : (ks : List Half) → holds ks before ≡ false → holds ks (twin a) ≡ false → holds ks z ≡ false → holds ks beyond ≡ false → Agree mid f ks
    agree [] p q r s = tt
    agree (k ∷ ks) p q r s =
        let e1 = neither (is_half before k) (holds ks before) p in
        let e2 = neither (is_half (twin a) k) (holds ks (twin a)) q in
        let e3 = neither (is_half z k) (holds ks z) r in
        let e4 = neither (is_half beyond k) (holds ks beyond) s in
        (value k false false false false (is_half-turned before k e1.0) (is_half-turned (twin a) k e2.0) (is_half-turned z k e3.0) (is_half-turned beyond k e4.0), agree ks e1.1 e2.1 e3.1 e4.1)

    pub mid-strung : IsStrung mid a rest
    mid-strung =
        strung-kept mid f a rest
        (agree (seams_of a rest) (enters-outside f a rest before a tied enters (twin-first a rest different)) (twin-first a rest different) (last-apart a rest different)
        (enters-outside f a rest beyond (twin z) tied returns (ap (holds (seams_of a rest)) (twin-twin z) ∙ last-apart a rest different))) tied

    mid-before : (g : Half) → g ≡ before → mid g ≡ f (twin a)
    mid-before g is = value g true (is_half g (twin a)) (is_half g z) (is_half g beyond) (ap (is_half g) (sym is) ∙ is_half-self g) refl refl refl

    mid-beyond : (g : Half) → g ≡ beyond → AreElsewhere g (a ∷ rest) → mid g ≡ f z
    mid-beyond g is away =
        value g false false false true (ap (λ (h : Half). is_half h before) is ∙ apart) (not_first g away) (not_last g away) (ap (is_half g) (sym is) ∙ is_half-self g)

    mid-other : (g : Half) → AreElsewhere g (a ∷ rest) → (g ≡ before → ⊥) → (g ≡ beyond → ⊥) → mid g ≡ f g
    mid-other g away far_off near =
        value g false false false false (is_half-other g before far_off) (not_first g away) (not_last g away) (is_half-other g beyond near)

    -- the ends lead back
    not-before_first : is_half (twin a) before ≡ false
    not-before_first = is_half-other (twin a) before (λ e. true≢false (sym ((Decides-eqb (f (twin a)).string a.string).1 (ap (λ (h : Half). h.string) (ap f e ∙ enters))) ∙ back_away.0))

    not-before_last : is_half z before ≡ false
    not-before_last = is_half-other z before (λ e. true≢false (sym ((Decides-eqb (f z).string a.string).1 (ap (λ (h : Half). h.string) (ap f e ∙ enters))) ∙ on_away.0))

    mid_first : mid (twin a) ≡ a
    mid_first = value (twin a) false true (is_half (twin a) z) (is_half (twin a) beyond) not-before_first (is_half-self (twin a)) refl refl

    mid_last : mid z ≡ twin z
    mid_last = value z false false true (is_half z beyond) not-before_last (last-turned a rest different) (is_half-self z) refl

    module _ (new : Half → Half) (loosens : (g : Half) → new g ≡ redirect (unstrung a rest) mid g) where
      is_new : new ≡ redirect (unstrung a rest) mid
      is_new = λ i g. loosens g i

      cut-elsewhere : (g : Half) → AreElsewhere g (a ∷ rest) → new g ≡ mid g
      cut-elsewhere g away = loosens g ∙ unstrung-elsewhere mid a rest g away

      pub taken-out : IsTakenOut f new a rest
      taken-out = record {
        loose =
            loose-all new a rest (subst (λ n. IsUnstrung n a rest) (sym is_new) (unstrung-now mid a rest different))
            (ap (λ n. n (twin a)) is_new ∙ first-unstrung mid a rest different ∙ mid_first) (ap (λ n. n z) is_new ∙ last-unstrung mid a rest different ∙ mid_last);
        enters = λ g away is. cut-elsewhere g away ∙ mid-before g (sym (linked.prev_next g) ∙ ap (prev rows) is);
        returns = λ g away is. cut-elsewhere g away ∙ mid-beyond g (sym (linked.prev_next g) ∙ ap (prev rows) is) away;
        others = λ g away far_on near.
            cut-elsewhere g away ∙ mid-other g away (λ e. far_on (ap f e ∙ enters)) (λ e. near (ap f e ∙ returns));
      }
