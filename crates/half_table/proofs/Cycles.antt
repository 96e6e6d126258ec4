-- Walks and cycles of halves.
use Rattle.std.proofs.Common.{◌≡◌, Bool, true, false, ◌||◌, List, [], ◌∷◌, ◌++◌, refl, sym, ap, ◌∙◌, ◌⊎◌, inl, inr, true≢false}
use Rattle.half_table.specs.declared.half.Half.{Half}
use Rattle.half_table.specs.Half.{is_half}
use Rattle.half_table.specs.Cycle.{holds, IsOnce, IsWalk, IsCycle, exchanged}
use Rattle.half_table.proofs.Halves.{is_half-self, is_half-same, is_half-turned, is_half-other, exchanged-first, exchanged-second, exchanged-other}

pub or_false : (a b : Bool) → (a || b) ≡ false → (a ≡ false) × (b ≡ false)
or_false true b h = cc
or_false false b h = (refl, h)

pub or_true : (a b : Bool) → (a || b) ≡ true → (a ≡ true) ⊎ (b ≡ true)
or_true true b h = inl refl
or_true false b h = inr h

pub or_right : (a b : Bool) → b ≡ true → (a || b) ≡ true
or_right true b h = refl
or_right false b h = h

pub holds-append : (xs ys : List Half) (h : Half) → holds (xs ++ ys) h ≡ (holds xs h || holds ys h)
holds-append [] ys h = refl
holds-append (x ∷ xs) ys h = ap (λ b. is_half h x || b) (holds-append xs ys h) ∙ assoc (is_half h x) (holds xs h) (holds ys h)
  where
    assoc : (a b c : Bool) → (a || (b || c)) ≡ ((a || b) || c)
    assoc true b c = refl
    assoc false b c = refl

-- a walk goes the same way under successors that agree on it
pub walked-so : (f g : Half → Half) (p q z : Half) (xs : List Half) → g q ≡ f p → ((x : Half) → holds xs x ≡ true → g x ≡ f x) → IsWalk f p xs z → IsWalk g q xs z
walked-so f g p q z [] first same w = first ∙ w
walked-so f g p q z (x ∷ xs) first same w =
    (first ∙ w.0, walked-so f g x x z xs (same x (ap (λ b. b || holds xs x) (is_half-self x))) (λ y h. same y (or_right (is_half y x) (holds xs y) h)) w.1)

-- a walk in two parts
pub walk-parts : (f : Half → Half) (a b z : Half) (xs ys : List Half) → IsWalk f a (xs ++ b ∷ ys) z → IsWalk f a xs b × IsWalk f b ys z
walk-parts f a b z [] ys w = w
walk-parts f a b z (x ∷ xs) ys w = let r = walk-parts f x b z xs ys w.1 in ((w.0, r.0), r.1)

pub walk-joined : (f : Half → Half) (a b z : Half) (xs ys : List Half) → IsWalk f a xs b → IsWalk f b ys z → IsWalk f a (xs ++ b ∷ ys) z
walk-joined f a b z [] ys v w = (v, w)
walk-joined f a b z (x ∷ xs) ys v w = (v.0, walk-joined f x b z xs ys v.1 w)

-- a test that passes on to what follows passes all along a walk
pub walk-passes : (f : Half → Half) (p : Half → Bool) → ((x : Half) → p x ≡ true → p (f x) ≡ true) → (a z : Half) (xs : List Half) → p a ≡ true → IsWalk f a xs z
    → ((q : Half) → holds xs q ≡ true → p q ≡ true) × (p z ≡ true)
walk-passes f p on a z [] e w = ((λ q s. absurd (true≢false (sym s))), ap p (sym w) ∙ on a e)
walk-passes f p on a z (x ∷ xs) e w =
    let x_passes : p x ≡ true = ap p (sym w.0) ∙ on a e in
    let r = walk-passes f p on x z xs x_passes w.1 in
    ((λ q s. elim (or_true (is_half q x) (holds xs q) s) [ inl t ↦ ap p (is_half-same q x t) ∙ x_passes | inr t ↦ r.0 q t ]), r.1)

-- and from any half of the walk it passes on to the end
walk-reaches : (f : Half → Half) (p : Half → Bool) → ((x : Half) → p x ≡ true → p (f x) ≡ true) → (a z q : Half) (xs : List Half) → holds (a ∷ xs) q ≡ true → p q ≡ true → IsWalk f a xs z → p z ≡ true
walk-reaches f p on a z q [] e e_q w =
    elim (or_true (is_half q a) false e) [
      | inl t ↦ (walk-passes f p on a z [] (ap p (sym (is_half-same q a t)) ∙ e_q) w).1
      | inr t ↦ absurd (true≢false (sym t))
    ]
walk-reaches f p on a z q (x ∷ xs) e e_q w = by (walk-reaches f p on x z q xs)
  where
    by : (holds (x ∷ xs) q ≡ true → p q ≡ true → IsWalk f x xs z → p z ≡ true) → p z ≡ true
    by later = elim (or_true (is_half q a) (holds (x ∷ xs) q) e) [
      | inl t ↦ (walk-passes f p on a z (x ∷ xs) (ap p (sym (is_half-same q a t)) ∙ e_q) w).1
      | inr t ↦ later t e_q w.1
    ]

-- what follows a half of a walk is in it or is its end
walk-next : (f : Half → Half) (a z x : Half) (xs : List Half) → IsWalk f a xs z → holds (a ∷ xs) x ≡ true → (holds xs (f x) ≡ true) ⊎ (f x ≡ z)
walk-next f a z x [] w e =
    elim (or_true (is_half x a) false e) [ inl t ↦ inr (ap f (is_half-same x a t) ∙ w) | inr t ↦ absurd (true≢false (sym t)) ]
walk-next f a z x (b ∷ xs) w e = by (walk-next f b z x xs w.1)
  where
    by : (holds (b ∷ xs) x ≡ true → (holds xs (f x) ≡ true) ⊎ (f x ≡ z)) → (holds (b ∷ xs) (f x) ≡ true) ⊎ (f x ≡ z)
    by later = elim (or_true (is_half x a) (holds (b ∷ xs) x) e) [
      | inl t ↦ inl (ap (λ g. holds (b ∷ xs) g) (ap f (is_half-same x a t) ∙ w.0) ∙ ap (λ v. v || holds xs b) (is_half-self b))
      | inr t ↦ elim (later t) [ inl s ↦ inl (or_right (is_half (f x) b) (holds xs (f x)) s) | inr s ↦ inr s ]
    ]

-- what follows a half of a cycle is in the cycle
cycle-next : (f : Half → Half) (a x : Half) (xs : List Half) → IsWalk f a xs a → holds (a ∷ xs) x ≡ true → holds (a ∷ xs) (f x) ≡ true
cycle-next f a x xs w e =
    elim (walk-next f a a x xs w e) [
      | inl t ↦ or_right (is_half (f x) a) (holds xs (f x)) t
      | inr t ↦ ap (λ g. holds (a ∷ xs) g) t ∙ ap (λ v. v || holds xs a) (is_half-self a)
    ]

-- where b is not on the cycle of a, no half is on both cycles
pub cycles-apart : (f : Half → Half) (a b : Half) (xs ys : List Half) → IsWalk f a xs a → IsWalk f b ys b → holds (a ∷ xs) b ≡ false
    → (h : Half) → holds (a ∷ xs) h ≡ true → holds (b ∷ ys) h ≡ false
cycles-apart f a b xs ys v w apart h e = by (holds (b ∷ ys) h) refl
  where
    by : (t : Bool) → holds (b ∷ ys) h ≡ t → holds (b ∷ ys) h ≡ false
    by false p = p
    by true p = absurd (true≢false (sym (walk-reaches f (holds (a ∷ xs)) (λ x s. cycle-next f a x xs v s) b b h ys p e w) ∙ apart))

-- lists in which no half stands twice
pub once-parts : (xs ys : List Half) → IsOnce (xs ++ ys) → IsOnce xs × IsOnce ys × ((h : Half) → holds xs h ≡ true → holds ys h ≡ false)
once-parts [] ys o = (tt, o, λ h e. absurd (true≢false (sym e)))
once-parts (x ∷ xs) ys o =
    let r = once-parts xs ys o.1 in
    let p = or_false (holds xs x) (holds ys x) (sym (holds-append xs ys x) ∙ o.0) in
    ((p.0, r.0), r.1, λ h e. elim (or_true (is_half h x) (holds xs h) e) [ inl s ↦ ap (holds ys) (is_half-same h x s) ∙ p.1 | inr t ↦ r.2 h t ])

pub once-joined : (xs ys : List Half) → IsOnce xs → IsOnce ys → ((h : Half) → holds xs h ≡ true → holds ys h ≡ false) → IsOnce (xs ++ ys)
once-joined [] ys o p apart = p
once-joined (x ∷ xs) ys o p apart = (
  holds-append xs ys x ∙ ap (λ b. b || holds ys x) o.0 ∙ apart x (ap (λ b. b || holds xs x) (is_half-self x)),
  once-joined xs ys o.1 p (λ h e. apart h (or_right (is_half h x) (holds xs h) e)),
)

-- where a and b aren't in the list, the exchange changes nothing on it
stays-on : (f : Half → Half) (a b : Half) (xs : List Half) → holds xs a ≡ false → holds xs b ≡ false → (x : Half) → holds xs x ≡ true → exchanged a b f x ≡ f x
stays-on f a b xs no_a no_b x x_in = exchanged-other f a b x
    (is_half-other x a (λ e. true≢false (sym (sym (ap (holds xs) e) ∙ x_in) ∙ no_a)))
    (is_half-other x b (λ e. true≢false (sym (sym (ap (holds xs) e) ∙ x_in) ∙ no_b)))

-- A cycle through a and b is parted, and two cycles through a and b become one.
pub cycle-parted : (f : Half → Half) (a b : Half) (xs ys : List Half) → IsCycle f (a ∷ xs ++ b ∷ ys)
    → IsCycle (exchanged a b f) (a ∷ ys) × IsCycle (exchanged a b f) (b ∷ xs)
cycle-parted f a b xs ys c =
    let w = walk-parts f a b a xs ys c.0 in
    let o = once-parts xs (b ∷ ys) c.1.1 in
    let na = or_false (holds xs a) (holds (b ∷ ys) a) (sym (holds-append xs (b ∷ ys) a) ∙ c.1.0) in
    let nab = or_false (is_half a b) (holds ys a) na.1 in
    let nbx : holds xs b ≡ false = not_both (holds xs b) refl o.2 in (
      (walked-so f (exchanged a b f) b a a ys (exchanged-first f a b) (stays-on f a b ys nab.1 o.1.0) w.1, (nab.1, o.1.1)),
      (walked-so f (exchanged a b f) a b b xs (exchanged-second f a b) (stays-on f a b xs na.0 nbx) w.0, (nbx, o.0)),
    )
  where
    not_both : (v : Bool) → holds xs b ≡ v → ((h : Half) → holds xs h ≡ true → holds (b ∷ ys) h ≡ false) → holds xs b ≡ false
    not_both true e apart = absurd (true≢false (sym (ap (λ v. v || holds ys b) (is_half-self b)) ∙ apart b e))
    not_both false e apart = e

pub cycles-joined : (f : Half → Half) (a b : Half) (xs ys : List Half) → IsCycle f (a ∷ xs) → IsCycle f (b ∷ ys)
    → ((h : Half) → holds (a ∷ xs) h ≡ true → holds (b ∷ ys) h ≡ false) → IsCycle (exchanged a b f) (a ∷ ys ++ b ∷ xs)
cycles-joined f a b xs ys c d apart =
    let nb = or_false (is_half a b) (holds ys a) (apart a (ap (λ v. v || holds xs a) (is_half-self a))) in
    let nbx : holds xs b ≡ false = not_both (holds xs b) refl in
    let v = walked-so f (exchanged a b f) b a b ys (exchanged-first f a b) (stays-on f a b ys nb.1 d.1.0) d.0 in
    let w = walked-so f (exchanged a b f) a b a xs (exchanged-second f a b) (stays-on f a b xs c.1.0 nbx) c.0 in
    let apart_back = λ (h : Half) (e : holds ys h ≡ true). no_both h e in (
      walk-joined (exchanged a b f) a b a ys xs v w,
      (holds-append ys (b ∷ xs) a ∙ (λ i. nb.1 i || (nb.0 i || c.1.0 i)), once-joined ys (b ∷ xs) d.1.1 (nbx, c.1.1) apart_back),
    )
  where
    not_both : (v : Bool) → holds xs b ≡ v → holds xs b ≡ false
    not_both true e = absurd (true≢false (sym (ap (λ v. v || holds ys b) (is_half-self b)) ∙ apart b (or_right (is_half b a) (holds xs b) e)))
    not_both false e = e

    no_both : (h : Half) → holds ys h ≡ true → holds (b ∷ xs) h ≡ false
    no_both h e = by (holds (b ∷ xs) h) refl
      where
        by : (v : Bool) → holds (b ∷ xs) h ≡ v → holds (b ∷ xs) h ≡ false
        by false p = p
        by true p = elim (or_true (is_half h b) (holds xs h) p) [
          | inl s ↦ absurd (true≢false (sym e ∙ ap (holds ys) (is_half-same h b s) ∙ d.1.0))
          | inr t ↦ absurd (true≢false (sym (or_right (is_half h b) (holds ys h) e) ∙ apart h (or_right (is_half h a) (holds xs h) t)))
        ]

-- every other cycle stays
pub cycle-kept : (f : Half → Half) (a b : Half) (c : List Half) → holds c a ≡ false → holds c b ≡ false → IsCycle f c → IsCycle (exchanged a b f) c
cycle-kept f a b [] no_a no_b c = c
cycle-kept f a b (x ∷ xs) no_a no_b c =
    let na = or_false (is_half a x) (holds xs a) no_a in
    let nb = or_false (is_half b x) (holds xs b) no_b in
    (walked-so f (exchanged a b f) x x x xs (exchanged-other f a b x (is_half-turned a x na.0) (is_half-turned b x nb.0)) (stays-on f a b xs na.1 nb.1) c.0, c.1)
