-- What a put and a take at one level do to all that is held.
use Rattle.std.proofs.Common.{◌≡◌, ◌≤◌, List, [], ◌∷◌, ◌++◌, Bool, true, filter, sym, ap, subst, ◌∙◌, arith, ◌⊎◌, inl, inr}
use Rattle.std.proofs.lemmas.List.Elements.{Contains-append_left, Contains-append_right, Contains-append_cases, Contains-push, Contains-push_cases}
use Rattle.std.specs.Prelude.{◌↔◌, IsPermutation, count_by, Result, Ok, Err, OnOk, OnErr}
use Rattle.std.specs.List.{Contains}
use Rattle.cell_grid.specs.declared.entry.Entry.{Entry}
use Rattle.cell_grid.specs.declared.segments.Level.{Level}
use Rattle.cell_grid.specs.declared.segments.Level.TheVariants.{SmallSquares, Squares, LanesEast, LanesNorth, Long}
use Rattle.cell_grid.specs.Entries.{is_same_entry}
use Rattle.cell_grid.specs.declared.segments.Segments.{Segments}
use Rattle.cell_grid.specs.Spread.{IsSoundEntry, Stands, StandsNone}
use Rattle.cell_grid.specs.Kept.{Kept, kept, AreSpread, StandsAt, IsHeld, HoldsNone, HoldsSame, HoldsOneMore, HoldsOneLess}
use Rattle.cell_grid.proofs.Spreads.{stood, gone, keeps}
use Rattle.cell_grid.proofs.Found.{near-from, near-has}

-- what has not changed
pub unmoved : (P : Type 0) → P ↔ P
unmoved P = ((λ h. h), (λ h. h))

-- at each other level the same entries stand as before
abbrev pub IsSameElsewhere : Kept → Level → Kept → Type 0
IsSameElsewhere old level new =
    (other : Level) → (other ≡ level) ⊎ ((x : Entry) → StandsAt new other x ↔ StandsAt old other x)

-- ---- A put

pub on_ok : {T E A B : Type 0} → (r : Result T E) → (A → B) → OnOk r A → OnOk r B
on_ok (Ok t) f a = f a
on_ok (Err t) f a = tt

pub on_err : {T E A B : Type 0} → (r : Result T E) → (A → B) → OnErr r A → OnErr r B
on_err (Ok t) f a = tt
on_err (Err t) f a = f a

-- what follows both ways
pub in_either : {T E A B C : Type 0} → (r : Result T E) → (A → C) → (B → C) → OnOk r A → OnErr r B
    → C
in_either (Ok t) f g a b = f a
in_either (Err t) f g a b = g b

-- where nothing has changed, whatever the result is
pub OnErr_always : {T E P : Type 0} → (r : Result T E) → P → OnErr r P
OnErr_always r p = on_err r (λ (t : Unit). p) (ends r)
  where
    ends : {T E : Type 0} → (r : Result T E) → OnErr r Unit
    ends (Ok t) = tt
    ends (Err t) = tt

-- what holds of the list after a put and of the one before holds of the one that is left
pub either : {T E : Type 0} → (P : List Entry → Type 0) → (r : Result T E) (old new put : List Entry)
    → OnOk r (new ≡ put) → OnErr r (new ≡ old) → P put → P old → P new
either P (Ok t) old new put is same p q = subst P (sym is) p
either P (Err t) old new put is same p q = subst P (sym same) q

-- the entry was put in at this level, or nothing has changed where memory ran out
pub record IsPutAt {T E : Type 0} (r : Result T E) (old : Kept) (level : Level) (e : Entry) (new : Kept) : Type 0 where
  pub elsewhere : IsSameElsewhere old level new
  pub more : OnOk r ((x : Entry) → StandsAt new level x ↔ (StandsAt old level x ⊎ (x ≡ e)))
  pub same : OnErr r ((x : Entry) → StandsAt new level x ↔ StandsAt old level x)

module _ {T E : Type 0} (r : Result T E) (old new : Kept) (level : Level) (e : Entry)
    (put : IsPutAt r old level e new) where
  more-held : ((x : Entry) → StandsAt new level x ↔ (StandsAt old level x ⊎ (x ≡ e)))
      → HoldsOneMore old e new
  more-held here x = (
    (λ h. elim (put.elsewhere h.0) [
      | inl is ↦ elim ((here x).0 (subst (λ (l : Level). StandsAt new l x) is h.1))
          [ inl stood ↦ inl (level, stood) | inr same ↦ inr same ]
      | inr other ↦ inl (h.0, (other x).0 h.1)
    ]),
    (λ h. elim h [
      | inl before ↦ elim (put.elsewhere before.0) [
        | inl is ↦
            (level, (here x).1 (inl (subst (λ (l : Level). StandsAt old l x) is before.1)))
        | inr other ↦ (before.0, (other x).1 before.1)
      ]
      | inr same ↦ (level, (here x).1 (inr same))
    ]),
  )

  same-held : ((x : Entry) → StandsAt new level x ↔ StandsAt old level x) → HoldsSame old new
  same-held here x = (
    (λ h. elim (put.elsewhere h.0) [
      | inl is ↦ (level, (here x).0 (subst (λ (l : Level). StandsAt new l x) is h.1))
      | inr other ↦ (h.0, (other x).0 h.1)
    ]),
    (λ h. elim (put.elsewhere h.0) [
      | inl is ↦ (level, (here x).1 (subst (λ (l : Level). StandsAt old l x) is h.1))
      | inr other ↦ (h.0, (other x).1 h.1)
    ]),
  )

  pub put-more : OnOk r (HoldsOneMore old e new)
  put-more = on_ok r more-held put.more

  pub put-same : OnErr r (HoldsSame old new)
  put-same = on_err r same-held put.same

  came : (x : Entry) → StandsAt new level x → StandsAt old level x ⊎ (x ≡ e)
  came x h = by r put.more put.same
    where
      by : (r : Result T E)
          → OnOk r ((x : Entry) → StandsAt new level x ↔ (StandsAt old level x ⊎ (x ≡ e)))
          → OnErr r ((x : Entry) → StandsAt new level x ↔ StandsAt old level x)
          → StandsAt old level x ⊎ (x ≡ e)
      by (Ok t) more same = (more x).0 h
      by (Err t) more same = inl ((same x).0 h)

  -- each still stands at its level
  pub put-levels : (level_of : Entry → Level)
      → ((l : Level) (x : Entry) → StandsAt old l x → l ≡ level_of x) → level ≡ level_of e
      → (l : Level) (x : Entry) → StandsAt new l x → l ≡ level_of x
  put-levels level_of at of_e l x h = elim (put.elsewhere l) [
    | inl is ↦ elim (came x (subst (λ (m : Level). StandsAt new m x) is h)) [
      | inl stood ↦ is ∙ at level x stood
      | inr same ↦ is ∙ of_e ∙ ap level_of (sym same)
    ]
    | inr other ↦ at l x ((other x).0 h)
  ]

-- ---- A take

-- the entry was taken out at this level
pub record IsTakenAt (old : Kept) (level : Level) (e : Entry) (new : Kept) : Type 0 where
  pub elsewhere : IsSameElsewhere old level new
  pub less : (x : Entry) → StandsAt new level x ↔ (StandsAt old level x × ¬ (x ≡ e))

module _ (old : Kept) (level : Level) (e : Entry) (level_of : Entry → Level)
    (at : (l : Level) (x : Entry) → StandsAt old l x → l ≡ level_of x)
    (of_e : level ≡ level_of e) where
  -- one that is held stands at the level that is its own
  pub stands-there : IsHeld old e → StandsAt old level e
  stands-there held =
      subst (λ (l : Level). StandsAt old l e) (at held.0 e held.1 ∙ sym of_e) held.1

  module _ (new : Kept) (taken : IsTakenAt old level e new) where
    stood-there : (l : Level) (x : Entry) → StandsAt new l x → StandsAt old l x
    stood-there l x h = elim (taken.elsewhere l) [
      | inl is ↦ subst (λ (m : Level). StandsAt old m x) (sym is)
          ((taken.less x).0 (subst (λ (m : Level). StandsAt new m x) is h)).0
      | inr other ↦ (other x).0 h
    ]

    pub take-levels : (l : Level) (x : Entry) → StandsAt new l x → l ≡ level_of x
    take-levels l x h = at l x (stood-there l x h)

    -- the entry stands at its own level alone, and there it no longer does
    gone-there : (l : Level) (x : Entry) → StandsAt new l x → ¬ (x ≡ e)
    gone-there l x h same =
        let is : l ≡ level = take-levels l x h ∙ ap level_of same ∙ sym of_e in
        ((taken.less x).0 (subst (λ (m : Level). StandsAt new m x) is h)).1 same

    pub take-less : HoldsOneLess old e new
    take-less x = (
      (λ h. ((h.0, stood-there h.0 x h.1), gone-there h.0 x h.1)),
      (λ p. elim (taken.elsewhere p.0.0) [
        | inl is ↦
            (level, (taken.less x).1 (subst (λ (l : Level). StandsAt old l x) is p.0.1, p.1))
        | inr other ↦ (p.0.0, (other x).1 p.0.1)
      ]),
    )

-- ---- Among the long ones

module _ (xs : List Entry) (e : Entry) where
  pub long-more : (x : Entry) → Contains (xs ++ e ∷ []) x ↔ (Contains xs x ⊎ (x ≡ e))
  long-more x = (
    (λ h. elim (Contains-push_cases xs e x h) [ inl early ↦ inl early | inr same ↦ inr (sym same) ]),
    (λ h. elim h [
      | inl early ↦ Contains-append_left xs (e ∷ []) x early
      | inr same ↦
          subst (λ (y : Entry). Contains (xs ++ e ∷ []) y) (sym same) (Contains-push xs e)
    ]),
  )

  pub long-less : (left : List Entry) → IsPermutation xs (e ∷ left)
      → count_by (is_same_entry e) xs ≤ 1 → (x : Entry)
      → Contains left x ↔ (Contains xs x × ¬ (x ≡ e))
  long-less left out few x = (
    (λ h. (
      stood xs left e out x h,
      λ same.
          gone xs left e out few (subst (λ (y : Entry). Contains left y) same h),
    )),
    (λ p. keeps xs left e out x p.0 p.1),
  )

-- ---- All levels

-- what is held is sound
pub held-sound : (s : Segments) → AreSpread s → (e : Entry) → IsHeld (kept s) e → IsSoundEntry e
held-sound s spread e held = by held.0 held.1
  where
    by : (level : Level) → StandsAt (kept s) level e → IsSoundEntry e
    by SmallSquares h = spread.small_squares.sound e h
    by Squares h = spread.squares.sound e h
    by LanesEast h = spread.lanes_east.sound e h
    by LanesNorth h = spread.lanes_north.sound e h
    by Long h = spread.long_sound e h

-- nothing is held where nothing stands
pub held-none : (k : Kept) → StandsNone k.small_squares → StandsNone k.squares
    → StandsNone k.lanes_east → StandsNone k.lanes_north → k.long ≡ [] → HoldsNone k
held-none k small squares east north long e held = by held.0 held.1
  where
    by : (level : Level) → StandsAt k level e → ⊥
    by SmallSquares h = small e h
    by Squares h = squares e h
    by LanesEast h = east e h
    by LanesNorth h = north e h
    by Long h = let none = subst (λ (l : List Entry). Contains l e) long h in
        absurd (omega (arith, none.1))

-- of what stands at each level the near ones are given, one level after another
module _ (k : Kept) (near : Entry → Bool) (a b c d : List Entry) where
  abbrev given : List Entry
  given = a ++ (b ++ (c ++ (d ++ filter near k.long)))

  pub given-held : ((e : Entry) → Contains a e → Stands k.small_squares e × (near e ≡ true))
      → ((e : Entry) → Contains b e → Stands k.squares e × (near e ≡ true))
      → ((e : Entry) → Contains c e → Stands k.lanes_east e × (near e ≡ true))
      → ((e : Entry) → Contains d e → Stands k.lanes_north e × (near e ≡ true))
      → (e : Entry) → Contains given e → IsHeld k e × (near e ≡ true)
  given-held of_a of_b of_c of_d e h = elim (Contains-append_cases a _ e h) [
    | inl t ↦ let f = of_a e t in ((SmallSquares, f.0), f.1)
    | inr h ↦ elim (Contains-append_cases b _ e h) [
      | inl t ↦ let f = of_b e t in ((Squares, f.0), f.1)
      | inr h ↦ elim (Contains-append_cases c _ e h) [
        | inl t ↦ let f = of_c e t in ((LanesEast, f.0), f.1)
        | inr h ↦ elim (Contains-append_cases d _ e h) [
          | inl t ↦ let f = of_d e t in ((LanesNorth, f.0), f.1)
          | inr t ↦ let f = near-from near k.long e t in ((Long, f.0), f.1)
        ]
      ]
    ]
  ]

  pub given-all : ((e : Entry) → Stands k.small_squares e → near e ≡ true → Contains a e)
      → ((e : Entry) → Stands k.squares e → near e ≡ true → Contains b e)
      → ((e : Entry) → Stands k.lanes_east e → near e ≡ true → Contains c e)
      → ((e : Entry) → Stands k.lanes_north e → near e ≡ true → Contains d e)
      → (e : Entry) → IsHeld k e → near e ≡ true → Contains given e
  given-all in_a in_b in_c in_d e held is = by held.0 held.1
    where
      past_a : Contains (b ++ (c ++ (d ++ filter near k.long))) e → Contains given e
      past_a = Contains-append_right a _ e

      past_b : Contains (c ++ (d ++ filter near k.long)) e → Contains given e
      past_b t = past_a (Contains-append_right b _ e t)

      past_c : Contains (d ++ filter near k.long) e → Contains given e
      past_c t = past_b (Contains-append_right c _ e t)

      by : (level : Level) → StandsAt k level e → Contains given e
      by SmallSquares h = Contains-append_left a _ e (in_a e h is)
      by Squares h = past_a (Contains-append_left b _ e (in_b e h is))
      by LanesEast h = past_b (Contains-append_left c _ e (in_c e h is))
      by LanesNorth h = past_c (Contains-append_left d _ e (in_d e h is))
      by Long h = past_c (Contains-append_right d _ e (near-has near k.long e h is))
