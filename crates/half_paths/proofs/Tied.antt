-- Strings that are tied together, and taken apart, and halves elsewhere.
use Rattle.std.proofs.Common.{◌≡◌, false, List, [], ◌∷◌, if◌then◌else◌, ap, ◌∙◌}
use Rattle.std.specs.List.{IsDistinct}
use Rattle.half_table.specs.declared.half.Half.{Half}
use Rattle.half_table.specs.Half.{twin, is_half}
use Rattle.half_table.specs.Cycle.{holds}
use Rattle.half_table.proofs.Halves.{is_half-turned, is_half-self}
use Rattle.half_paths.specs.Redirect.{written, redirect}
use Rattle.half_paths.specs.Path.{AreDifferent, AreElsewhere, last_of}
use Rattle.half_paths.specs.Strung.{strung, unstrung, IsStrung, IsUnstrung}
use Rattle.half_paths.specs.Ends.{closed, opened}
use Rattle.half_paths.specs.Loose.{AreLoose}
use Rattle.half_paths.specs.Round.{IsRound}
use Rattle.half_paths.proofs.Redirected.{neither, redirect-kept}
use Rattle.half_paths.proofs.Along.{seams_of, Agree, strung-kept, sources-strung, sources-unstrung}
use Rattle.half_paths.proofs.Apart.{other, elsewhere, far, twin-first, last-turned, last-apart}

-- ---- The strings of the path

module _ (f : Half → Half) (a b : Half) (rest : List Half) (x y : Half) where
  abbrev two : Half → Half
  two = written a y (written (twin b) x f)

  at-turn : AreDifferent (a ∷ b ∷ rest) → two (twin b) ≡ x
  unfolding IsDistinct
  at-turn ((e0, e1), d) =
      ap (λ t. if t then y else (if is_half (twin b) (twin b) then x else f (twin b))) (is_half-turned a (twin b) (other a (twin b) e0))
      ∙ ap (λ t. if t then x else f (twin b)) (is_half-self (twin b))

  at-half : two a ≡ y
  at-half = ap (λ t. if t then y else (if is_half a (twin b) then x else f a)) (is_half-self a)

-- what is tied together is
pub strung-now : (f : Half → Half) (a : Half) (rest : List Half) → AreDifferent (a ∷ rest) → IsStrung (redirect (strung a rest) f) a rest
unfolding IsDistinct
strung-now f a [] d = tt
strung-now f a (b ∷ rest) ((e0, e1), d) = (
  redirect-kept (strung b rest) (two f a b rest (twin a) b) a (ap (λ l. holds l a) (sources-strung b rest) ∙ elsewhere a b rest (e0, e1)) ∙ at-half f a b rest (twin a) b,
  redirect-kept (strung b rest) (two f a b rest (twin a) b) (twin b) (ap (λ l. holds l (twin b)) (sources-strung b rest) ∙ twin-first b rest d) ∙ at-turn f a b rest (twin a) b ((e0, e1), d),
  strung-now (two f a b rest (twin a) b) b rest d,
)

pub unstrung-now : (f : Half → Half) (a : Half) (rest : List Half) → AreDifferent (a ∷ rest) → IsUnstrung (redirect (unstrung a rest) f) a rest
unfolding IsDistinct
unstrung-now f a [] d = tt
unstrung-now f a (b ∷ rest) ((e0, e1), d) = (
  redirect-kept (unstrung b rest) (two f a b rest b (twin a)) a (ap (λ l. holds l a) (sources-unstrung b rest) ∙ elsewhere a b rest (e0, e1)) ∙ at-half f a b rest b (twin a),
  redirect-kept (unstrung b rest) (two f a b rest b (twin a)) (twin b) (ap (λ l. holds l (twin b)) (sources-unstrung b rest) ∙ twin-first b rest d) ∙ at-turn f a b rest b (twin a) ((e0, e1), d),
  unstrung-now (two f a b rest b (twin a)) b rest d,
)

-- and what follows a half elsewhere stays
pub strung-elsewhere : (f : Half → Half) (a : Half) (rest : List Half) (g : Half) → AreElsewhere g (a ∷ rest) → redirect (strung a rest) f g ≡ f g
strung-elsewhere f a rest g e = redirect-kept (strung a rest) f g (ap (λ l. holds l g) (sources-strung a rest) ∙ elsewhere g a rest e)

pub unstrung-elsewhere : (f : Half → Half) (a : Half) (rest : List Half) (g : Half) → AreElsewhere g (a ∷ rest) → redirect (unstrung a rest) f g ≡ f g
unstrung-elsewhere f a rest g e = redirect-kept (unstrung a rest) f g (ap (λ l. holds l g) (sources-unstrung a rest) ∙ elsewhere g a rest e)

-- ---- The path's ends

-- two pairs, of the first string's way back and of the last half
module _ (a z : Half) (x y : Half) (f : Half → Half) where
  abbrev ends : Half → Half
  ends = redirect ((twin a, x) ∷ (z, y) ∷ []) f

  pub end-last : ends z ≡ y
  end-last = ap (λ t. if t then y else (if is_half z (twin a) then x else f z)) (is_half-self z)

  pub end-first : is_half z (twin a) ≡ false → ends (twin a) ≡ x
  end-first apart =
      ap (λ t. if t then y else (if is_half (twin a) (twin a) then x else f (twin a))) (is_half-turned z (twin a) apart)
      ∙ ap (λ t. if t then x else f (twin a)) (is_half-self (twin a))

  pub end-other : (g : Half) → is_half g (twin a) ≡ false → is_half g z ≡ false → ends g ≡ f g
  end-other g first last = ap (λ t. if t then y else (if is_half g (twin a) then x else f g)) last ∙ ap (λ t. if t then x else f g) first

  pub end-elsewhere : (rest : List Half) → z ≡ last_of a rest → (g : Half) → AreElsewhere g (a ∷ rest) → ends g ≡ f g
  end-elsewhere rest is g e = end-other g (other g (twin a) e.0) (ap (is_half g) is ∙ other g (last_of a rest) (far g a rest e))

  -- at halves that are neither nothing changes
  pub ends-agree : (ks : List Half) → holds ks (twin a) ≡ false → holds ks z ≡ false → Agree ends f ks
  ends-agree [] p q = tt
  ends-agree (k ∷ ks) p q =
      let n = neither (is_half (twin a) k) (holds ks (twin a)) p in
      let m = neither (is_half z k) (holds ks z) q in
      (end-other k (is_half-turned (twin a) k n.0) (is_half-turned z k m.0), ends-agree ks n.1 m.1)

-- a path that is closed is a ring
pub round-now : (f : Half → Half) (a : Half) (rest : List Half) → AreDifferent (a ∷ rest) → IsStrung f a rest → IsRound (redirect (closed a (last_of a rest)) f) a rest
round-now f a rest d tied =
    let z : Half = last_of a rest in
    record {
      strung = strung-kept (redirect (closed a z) f) f a rest (ends-agree a z (twin z) a f (seams_of a rest) (twin-first a rest d) (last-apart a rest d)) tied;
      closes = end-last a z (twin z) a f;
      returns = end-first a z (twin z) a f (last-turned a rest d);
    }

-- a ring that is opened is a path
pub opened-strung : (f : Half → Half) (a : Half) (rest : List Half) → AreDifferent (a ∷ rest) → IsStrung f a rest → IsStrung (redirect (opened a (last_of a rest)) f) a rest
opened-strung f a rest d tied =
    let z : Half = last_of a rest in
    strung-kept (redirect (opened a z) f) f a rest (ends-agree a z a (twin z) f (seams_of a rest) (twin-first a rest d) (last-apart a rest d)) tied

-- strings that lead back to themselves at each point, and at the two ends, are loose
pub loose-all : (f : Half → Half) (a : Half) (rest : List Half) → IsUnstrung f a rest → f (twin a) ≡ a → f (last_of a rest) ≡ twin (last_of a rest) → AreLoose f (a ∷ rest)
loose-all f a [] parts first last = ((last, first), tt)
loose-all f a (b ∷ rest) (p, q, parts) first last = ((p, first), loose-all f b rest parts q last)
