-- A path strung up and taken apart, point by point.
use Rattle.std.proofs.Common.{arith, ℕ, zero, suc, ◌+◌, ◌≡◌, false, List, [], ◌∷◌, if◌then◌else◌, refl, sym, ap, ◌∙◌}
use Rattle.half_table.specs.Count.{one_more, ticked}
use Rattle.half_table.specs.declared.half.Half.{Half}
use Rattle.half_table.specs.Half.{twin, is_half}
use Rattle.half_table.specs.Cycle.{holds, exchanged, IsOnce}
use Rattle.half_table.specs.Rows.{HalfRows, next}
use Rattle.half_table.specs.Surgery.{KeepsHalves, IsSpliced}
use Rattle.half_table.proofs.Halves.{is_half-turned, exchanged-other}
use Rattle.half_paths.specs.Redirect.{redirect}
use Rattle.half_paths.specs.Path.{AreIn}
use Rattle.half_paths.specs.Strung.{strung, unstrung, IsStrung, IsUnstrung, along}
use Rattle.half_paths.proofs.Redirected.{neither, sources, AreOf, redirect-back}

pub keeps-on : (r s t : HalfRows) → KeepsHalves r s → KeepsHalves s t → KeepsHalves r t
keeps-on r s t one two = record { strings = two.strings ∙ one.strings; has = λ g. two.has g ∙ one.has g; origin = λ g. two.origin g ∙ one.origin g; face = λ g. two.face g ∙ one.face g }

-- the halves whose next changes where a path is strung up
abbrev pub seams_of : Half → List Half → List Half
seams_of a [] = []
seams_of a (b ∷ rest) = twin b ∷ a ∷ seams_of b rest

-- no half is passed there and back, or twice
abbrev pub IsPath : Half → List Half → Type 0
IsPath a rest = IsOnce (seams_of a rest)

-- the same values at these halves
abbrev pub Agree : (E f : Half → Half) → List Half → Type 0
Agree E f [] = Unit {0}
Agree E f (k ∷ ks) = (E k ≡ f k) × Agree E f ks

exchanged-agrees : (f : Half → Half) (a b : Half) (ks : List Half) → holds ks a ≡ false → holds ks b ≡ false → Agree (exchanged a b f) f ks
exchanged-agrees f a b [] p q = tt
exchanged-agrees f a b (k ∷ ks) p q =
    let n = neither (is_half a k) (holds ks a) p in
    let m = neither (is_half b k) (holds ks b) q in
    (exchanged-other f a b k (is_half-turned a k n.0) (is_half-turned b k m.0), exchanged-agrees f a b ks n.1 m.1)

loose-kept : (E f : Half → Half) (a : Half) (rest : List Half) → Agree E f (seams_of a rest) → IsUnstrung f a rest → IsUnstrung E a rest
loose-kept E f a [] g l = tt
loose-kept E f a (b ∷ rest) (g0, (g1, g2)) (l0, l1, l2) = (g1 ∙ l0, g0 ∙ l1, loose-kept E f b rest g2 l2)

pub strung-kept : (E f : Half → Half) (a : Half) (rest : List Half) → Agree E f (seams_of a rest) → IsStrung f a rest → IsStrung E a rest
strung-kept E f a [] g l = tt
strung-kept E f a (b ∷ rest) (g0, (g1, g2)) (l0, l1, l2) = (g1 ∙ l0, g0 ∙ l1, strung-kept E f b rest g2 l2)

seams-agree : (f : Half → Half) (a b : Half) (rest : List Half) → IsPath a (b ∷ rest) → Agree (exchanged a (twin b) f) f (seams_of b rest)
seams-agree f a b rest (p, (q, once)) =
    exchanged-agrees f a (twin b) (seams_of b rest) q (neither (is_half (twin b) a) (holds (seams_of b rest) (twin b)) p).1

-- loose strings are strung up
pub along-strung : (f : Half → Half) (a : Half) (rest : List Half) → IsPath a rest → IsUnstrung f a rest → along a rest f ≡ redirect (strung a rest) f
along-strung f a [] path loose = refl
along-strung f a (b ∷ rest) (p, (q, once)) (l0, l1, l2) =
    along-strung (exchanged a (twin b) f) b rest once (loose-kept (exchanged a (twin b) f) f b rest (seams-agree f a b rest (p, (q, once))) l2)
    ∙ ap (redirect (strung b rest)) (λ i g. if is_half g a then l1 i else (if is_half g (twin b) then l0 i else f g))

-- the strings of a path are taken apart
pub along-unstrung : (f : Half → Half) (a : Half) (rest : List Half) → IsPath a rest → IsStrung f a rest → along a rest f ≡ redirect (unstrung a rest) f
along-unstrung f a [] path tied = refl
along-unstrung f a (b ∷ rest) (p, (q, once)) (l0, l1, l2) =
    along-unstrung (exchanged a (twin b) f) b rest once (strung-kept (exchanged a (twin b) f) f b rest (seams-agree f a b rest (p, (q, once))) l2)
    ∙ ap (redirect (unstrung b rest)) (λ i g. if is_half g a then l1 i else (if is_half g (twin b) then l0 i else f g))

-- ---- Back

pub sources-strung : (a : Half) (rest : List Half) → sources (strung a rest) ≡ seams_of a rest
sources-strung a [] = refl
sources-strung a (b ∷ rest) = ap (λ l. twin b ∷ a ∷ l) (sources-strung b rest)

pub sources-unstrung : (a : Half) (rest : List Half) → sources (unstrung a rest) ≡ seams_of a rest
sources-unstrung a [] = refl
sources-unstrung a (b ∷ rest) = ap (λ l. twin b ∷ a ∷ l) (sources-unstrung b rest)

pub unstrung-of : (f : Half → Half) (a : Half) (rest : List Half) → IsUnstrung f a rest → AreOf f (unstrung a rest)
unstrung-of f a [] l = tt
unstrung-of f a (b ∷ rest) (l0, l1, l2) = (l1, (l0, unstrung-of f b rest l2))

pub strung-of : (f : Half → Half) (a : Half) (rest : List Half) → IsStrung f a rest → AreOf f (strung a rest)
strung-of f a [] l = tt
strung-of f a (b ∷ rest) (l0, l1, l2) = (l1, (l0, strung-of f b rest l2))

-- strung up and taken apart, each half has its successor again
pub strung-back : (f : Half → Half) (a : Half) (rest : List Half) → IsUnstrung f a rest → (g : Half) → redirect (unstrung a rest) (redirect (strung a rest) f) g ≡ f g
strung-back f a rest loose g = redirect-back (strung a rest) (unstrung a rest) f (sources-strung a rest ∙ sym (sources-unstrung a rest)) (unstrung-of f a rest loose) g

-- and the reverse
pub unstrung-back : (f : Half → Half) (a : Half) (rest : List Half) → IsStrung f a rest → (g : Half) → redirect (strung a rest) (redirect (unstrung a rest) f) g ≡ f g
unstrung-back f a rest tied g = redirect-back (unstrung a rest) (strung a rest) f (sources-unstrung a rest ∙ sym (sources-strung a rest)) (strung-of f a rest tied) g

-- ---- Steps of the program

-- a splice, where one half is known by another name
pub splice-next : (r s : HalfRows) (a b : Half) → IsSpliced a b r s → next s ≡ exchanged a b (next r)
splice-next r s a b one = λ i g. one.next g i

pub in-kept : (r s : HalfRows) (halves : List Half) → KeepsHalves r s → AreIn r halves → AreIn s halves
in-kept r s [] k i = tt
in-kept r s (h ∷ halves) k (i0, i1) = (k.has h ∙ i0, in-kept r s halves k i1)

pub keeps-itself : (r : HalfRows) → KeepsHalves r r
keeps-itself r = record { strings = refl; has = λ g. refl; origin = λ g. refl; face = λ g. refl }

-- so many ticks after others
pub ticked-add : (n m w : ℕ) → ticked (n + m) w ≡ ticked m (ticked n w)
ticked-add zero m w =
    let none : zero + m ≡ m = omega arith in
    ap (λ k. ticked k w) none
ticked-add (suc n) m w =
    let more : suc n + m ≡ suc (n + m) = omega arith in
    ap (λ k. ticked k w) more ∙ ticked-add n m (one_more w)
