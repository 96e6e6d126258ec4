-- Paths of different strings.
use Rattle.std.proofs.Common.{◌≡◌, Bool, false, List, [], ◌∷◌, ◌||◌, refl, sym, ap, ◌∙◌, nat_eq, true≢false}
use Rattle.std.proofs.lemmas.Bool.Decides.{Decides-eqb}
use Rattle.std.specs.List.{IsDistinct}
use Rattle.half_table.specs.declared.half.Half.{Half}
use Rattle.half_table.specs.Half.{twin, is_half}
use Rattle.half_table.specs.Cycle.{holds}
use Rattle.half_table.proofs.Halves.{is_half-other, is_half-turned, is_half-twin, twin-twin}
use Rattle.half_paths.specs.Redirect.{redirect}
use Rattle.half_paths.specs.Path.{AreDifferent, AreElsewhere, last_of}
use Rattle.half_paths.specs.Strung.{strung, unstrung}
use Rattle.half_paths.proofs.Along.{seams_of, IsPath, sources-strung, sources-unstrung}
use Rattle.half_paths.proofs.Redirected.{redirect-kept}

-- a half of another string is another half
pub other : (g h : Half) → nat_eq g.string h.string ≡ false → is_half g h ≡ false
other g h e = is_half-other g h (λ same. true≢false (sym ((Decides-eqb g.string h.string).1 (ap (λ (x : Half). x.string) same)) ∙ e))

pub neither-in : (a b c : Bool) → a ≡ false → b ≡ false → c ≡ false → (a || (b || c)) ≡ false
neither-in a b c p q r = (λ i. p i || (q i || r i))

-- a half whose string is elsewhere is none of the shared chains
pub elsewhere : (g a : Half) (rest : List Half) → AreElsewhere g (a ∷ rest) → holds (seams_of a rest) g ≡ false
elsewhere g a [] e = refl
elsewhere g a (b ∷ rest) (e0, (e1, e2)) =
    neither-in (is_half g (twin b)) (is_half g a) (holds (seams_of b rest) g) (other g (twin b) e1) (other g a e0) (elsewhere g b rest (e1, e2))

-- the way back of the first string is none of them
pub twin-first : (a : Half) (rest : List Half) → AreDifferent (a ∷ rest) → holds (seams_of a rest) (twin a) ≡ false
unfolding IsDistinct
twin-first a [] d = refl
twin-first a (b ∷ rest) ((e0, e1), d) =
    neither-in (is_half (twin a) (twin b)) (is_half (twin a) a) (holds (seams_of b rest) (twin a)) (other (twin a) (twin b) e0)
    (ap (is_half (twin a)) (sym (twin-twin a)) ∙ is_half-twin (twin a)) (elsewhere (twin a) b rest (e0, e1))

-- different strings are a path
pub path-of : (a : Half) (rest : List Half) → AreDifferent (a ∷ rest) → IsPath a rest
unfolding IsDistinct
path-of a [] d = tt
path-of a (b ∷ rest) ((e0, e1), d) =
    (or-both (is_half (twin b) a) (holds (seams_of b rest) (twin b)) (is_half-turned a (twin b) (other a (twin b) e0)) (twin-first b rest d), (elsewhere a b rest (e0, e1), path-of b rest d))
  where
    or-both : (p q : Bool) → p ≡ false → q ≡ false → (p || q) ≡ false
    or-both p q x y = λ i. x i || y i

-- a half whose string is elsewhere isn't on that of the last half
pub far : (g b : Half) (rest : List Half) → AreElsewhere g (b ∷ rest) → nat_eq g.string (last_of b rest).string ≡ false
far g b [] e = e.0
far g b (x ∷ rest) (p, (q, r)) = far g x rest (q, r)

-- the last half isn't the way back of the first
pub last-turned : (a : Half) (rest : List Half) → AreDifferent (a ∷ rest) → is_half (last_of a rest) (twin a) ≡ false
unfolding IsDistinct
last-turned a [] d = is_half-twin a
last-turned a (x ∷ rest) (e, d) = is_half-turned (twin a) (last_of x rest) (other (twin a) (last_of x rest) (far (twin a) x rest e))

-- the last half is none of the shared chains
pub last-apart : (a : Half) (rest : List Half) → AreDifferent (a ∷ rest) → holds (seams_of a rest) (last_of a rest) ≡ false
unfolding IsDistinct
last-apart a [] d = refl
last-apart a (b ∷ rest) ((e0, e1), d) =
    neither-in (is_half (last_of b rest) (twin b)) (is_half (last_of b rest) a) (holds (seams_of b rest) (last_of b rest))
    (last-turned b rest d) (is_half-turned a (last_of b rest) (other a (last_of b rest) (far a b rest (e0, e1)))) (last-apart b rest d)

-- the two ends of a path keep what follows them
pub first-strung : (f : Half → Half) (a : Half) (rest : List Half) → AreDifferent (a ∷ rest) → redirect (strung a rest) f (twin a) ≡ f (twin a)
first-strung f a rest d = redirect-kept (strung a rest) f (twin a) (ap (λ l. holds l (twin a)) (sources-strung a rest) ∙ twin-first a rest d)

pub last-strung : (f : Half → Half) (a : Half) (rest : List Half) → AreDifferent (a ∷ rest) → redirect (strung a rest) f (last_of a rest) ≡ f (last_of a rest)
last-strung f a rest d = redirect-kept (strung a rest) f (last_of a rest) (ap (λ l. holds l (last_of a rest)) (sources-strung a rest) ∙ last-apart a rest d)

pub first-unstrung : (f : Half → Half) (a : Half) (rest : List Half) → AreDifferent (a ∷ rest) → redirect (unstrung a rest) f (twin a) ≡ f (twin a)
first-unstrung f a rest d = redirect-kept (unstrung a rest) f (twin a) (ap (λ l. holds l (twin a)) (sources-unstrung a rest) ∙ twin-first a rest d)

pub last-unstrung : (f : Half → Half) (a : Half) (rest : List Half) → AreDifferent (a ∷ rest) → redirect (unstrung a rest) f (last_of a rest) ≡ f (last_of a rest)
last-unstrung f a rest d = redirect-kept (unstrung a rest) f (last_of a rest) (ap (λ l. holds l (last_of a rest)) (sources-unstrung a rest) ∙ last-apart a rest d)
