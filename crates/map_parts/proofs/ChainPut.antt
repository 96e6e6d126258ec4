-- A path of loose strings put in before two halves.
use Rattle.std.proofs.Common.{◌≡◌, ◌≢◌, Bool, true, false, List, [], ◌∷◌, if◌then◌else◌, refl, sym, ap, ◌∙◌, subst}
use Rattle.half_table.specs.declared.half.Half.{Half}
use Rattle.half_table.specs.Half.{twin, is_half}
use Rattle.half_table.specs.Cycle.{holds}
use Rattle.half_table.specs.Rows.{HalfRows, IsLinked, next, prev}
use Rattle.half_table.proofs.Halves.{is_half-self, is_half-other, is_half-turned}
use Rattle.half_paths.specs.Redirect.{redirect}
use Rattle.half_paths.specs.Path.{AreDifferent, AreElsewhere, last_of}
use Rattle.half_paths.specs.Strung.{strung, IsStrung}
use Rattle.half_paths.specs.Loose.{AreLoose}
use Rattle.half_paths.specs.Ends.{put, CanPut}
use Rattle.half_paths.proofs.Redirected.{neither}
use Rattle.half_paths.proofs.Along.{seams_of, Agree, strung-kept}
use Rattle.half_paths.proofs.Apart.{other, elsewhere, far, last-turned, twin-first, last-apart, first-strung, last-strung}
use Rattle.half_paths.proofs.Exchanged.{last-all, each-loose, loose-apart}
use Rattle.half_paths.proofs.Tied.{strung-now, strung-elsewhere}

-- What follows what where a path is in before the two halves, and what followed before.
pub record IsPutIn (f new : Half → Half) (a : Half) (rest : List Half) (start end : Half) : Type 0 where
  pub strung : IsStrung new a rest
  pub leaves : new (last_of a rest) ≡ end
  pub comes_back : new (twin a) ≡ start
  pub enters : (g : Half) → f g ≡ start → new g ≡ a
  pub returns : (g : Half) → f g ≡ end → new g ≡ twin (last_of a rest)
  pub others : (g : Half) → AreElsewhere g (a ∷ rest) → f g ≢ start → f g ≢ end → new g ≡ f g

module _ (rows : HalfRows) (linked : IsLinked rows) (a : Half) (rest : List Half) (different : AreDifferent (a ∷ rest)) (loose : AreLoose (next rows) (a ∷ rest)) (start end : Half)
    (start_away : AreElsewhere start (a ∷ rest)) (end_away : AreElsewhere end (a ∷ rest)) (differ : start ≢ end)
    (before beyond last : Half) (is_before : before ≡ prev rows start) (is_beyond : beyond ≡ prev rows end) (is_last : last ≡ last_of a rest)
    (mid : Half → Half) (strings_up : (g : Half) → mid g ≡ redirect (strung a rest) (next rows) g) where
  abbrev f : Half → Half
  f = next rows

  enters : f before ≡ start
  enters = ap f is_before ∙ linked.next_prev start

  returns : f beyond ≡ end
  returns = ap f is_beyond ∙ linked.next_prev end

  is_mid : mid ≡ redirect (strung a rest) f
  is_mid = λ i g. strings_up g i

  abbrev z : Half
  z = last_of a rest

  before_away : AreElsewhere before (a ∷ rest)
  before_away = loose-apart f before start (a ∷ rest) enters loose start_away

  beyond_away : AreElsewhere beyond (a ∷ rest)
  beyond_away = loose-apart f beyond end (a ∷ rest) returns loose end_away

  mid-away : (g : Half) → AreElsewhere g (a ∷ rest) → mid g ≡ f g
  mid-away g away = ap (λ n. n g) is_mid ∙ strung-elsewhere f a rest g away

  two_apart : is_half beyond before ≡ false
  two_apart = is_half-other beyond before (λ e. differ (sym enters ∙ ap f (sym e) ∙ returns))

  pub can : CanPut before beyond a last mid
  can = subst (λ (l : Half). CanPut before beyond a l mid) (sym is_last) (record {
    first_free = ap (λ n. n (twin a)) is_mid ∙ first-strung f a rest different ∙ loose.0.1;
    last_free = ap (λ n. n z) is_mid ∙ last-strung f a rest different ∙ last-all (λ h. f h ≡ twin h) a rest (each-loose f (a ∷ rest) loose);
    two = two_apart;
    beyond_first = other beyond (twin a) beyond_away.0;
    last_before = is_half-turned before z (other before z (far before a rest before_away));
    last_first = last-turned a rest different;
  })

  module _ (new : Half → Half) (puts : (g : Half) → new g ≡ redirect (put before beyond a last mid) mid g) where
    is_new : new ≡ redirect (put before beyond a z mid) mid
    is_new = λ i g. (puts g ∙ ap (λ (l : Half). redirect (put before beyond a l mid) mid g) is_last) i

    -- by which of the four halves it is
    value : (g : Half) (p q r s : Bool) → is_half g z ≡ p → is_half g beyond ≡ q → is_half g before ≡ r → is_half g (twin a) ≡ s
        → new g ≡ (if p then mid beyond else if q then twin z else if r then a else if s then mid before else mid g)
    value g p q r s e1 e2 e3 e4 =
        ap (λ n. n g) is_new ∙ (λ i. if e1 i then mid beyond else if e2 i then twin z else if e3 i then a else if e4 i then mid before else mid g)

    new-last : new z ≡ end
    new-last =
        value z true (is_half z beyond) (is_half z before) (is_half z (twin a)) (is_half-self z) refl refl refl ∙ mid-away beyond beyond_away ∙ returns

    new-beyond : new beyond ≡ twin z
    new-beyond =
        value beyond false true (is_half beyond before) (is_half beyond (twin a)) (other beyond z (far beyond a rest beyond_away)) (is_half-self beyond) refl refl

    new-before : new before ≡ a
    new-before =
        value before false false true (is_half before (twin a)) (other before z (far before a rest before_away)) (is_half-turned beyond before two_apart) (is_half-self before) refl

    new-first : new (twin a) ≡ start
    new-first =
        value (twin a) false false false true (is_half-turned z (twin a) (last-turned a rest different)) (is_half-turned beyond (twin a) (other beyond (twin a) beyond_away.0))
        (is_half-turned before (twin a) (other before (twin a) before_away.0)) (is_half-self (twin a))
        ∙ mid-away before before_away ∙ enters

    new-other : (g : Half) → AreElsewhere g (a ∷ rest) → (g ≡ before → ⊥) → (g ≡ beyond → ⊥) → new g ≡ f g
    new-other g away far_before far_beyond =
        value g false false false false (other g z (far g a rest away)) (is_half-other g beyond far_beyond) (is_half-other g before far_before) (other g (twin a) away.0) ∙ mid-away g away

    agree : (ks : List Half) → holds ks z ≡ false → holds ks beyond ≡ false → holds ks before ≡ false → holds ks (twin a) ≡ false → Agree new mid ks
    agree [] p q r s = tt
    agree (k ∷ ks) p q r s =
        let e1 = neither (is_half z k) (holds ks z) p in
        let e2 = neither (is_half beyond k) (holds ks beyond) q in
        let e3 = neither (is_half before k) (holds ks before) r in
        let e4 = neither (is_half (twin a) k) (holds ks (twin a)) s in
        (value k false false false false (is_half-turned z k e1.0) (is_half-turned beyond k e2.0) (is_half-turned before k e3.0) (is_half-turned (twin a) k e4.0), agree ks e1.1 e2.1 e3.1 e4.1)

    new-strung : IsStrung new a rest
    new-strung =
        strung-kept new mid a rest
        (agree (seams_of a rest) (last-apart a rest different) (elsewhere beyond a rest beyond_away) (elsewhere before a rest before_away) (twin-first a rest different))
        (subst (λ n. IsStrung n a rest) (sym is_mid) (strung-now f a rest different))

    pub put-in : IsPutIn f new a rest start end
    put-in = record {
      strung = new-strung;
      leaves = new-last;
      comes_back = new-first;
      enters = λ g is. ap new (sym (linked.prev_next g) ∙ ap (prev rows) is ∙ sym is_before) ∙ new-before;
      returns = λ g is. ap new (sym (linked.prev_next g) ∙ ap (prev rows) is ∙ sym is_beyond) ∙ new-beyond;
      others = λ g away far_start far_end. new-other g away (λ e. far_start (ap f e ∙ enters)) (λ e. far_end (ap f e ∙ returns));
    }
