-- Entries that are put in or taken out one after another.
use Rattle.std.proofs.Common.{◌≡◌, ℕ, zero, suc, ◌+◌, ◌<◌, ◌≤◌, List, [], ◌∷◌, ◌++◌, length, get_or, take, sym, ap, subst, ◌∙◌, arith, ◌⊎◌, inl, inr, add-one}
use Rattle.std.proofs.lemmas.List.{length-take-le, get_or-take, take_all}
use Rattle.std.proofs.lemmas.List.Elements.{Contains-push, Contains-push_cases, Contains-append_left, Contains-get_or}
use Rattle.std.specs.Prelude.{◌↔◌}
use Rattle.std.specs.List.{Contains}
use Rattle.cell_grid.specs.declared.entry.Entry.{Entry}
use Rattle.cell_grid.specs.Kept.{Kept, IsHeld, HoldsSame, HoldsOneMore, HoldsOneLess}
use Rattle.cell_grid.specs.Together.{HoldsMore, HoldsLess, AreNew, AreHeld, AreDistinct}

take-push : (xs : List Entry) (i : ℕ) (x : Entry) → i < length xs → x ≡ get_or xs i x
    → take (suc i) xs ≡ take i xs ++ x ∷ []
take-push [] i x low is = absurd (omega (arith, low))
take-push (y ∷ xs) zero x low is = ap (λ (z : Entry). z ∷ []) (sym is)
take-push (y ∷ xs) (suc i) x low is = ap (λ (l : List Entry). y ∷ l) (take-push xs i x (omega (arith, low)) is)

none-in : {X : Type 0} (x : X) → ¬ Contains [] x
none-in x h = let low = h.1 in omega arith

-- at the beginning nothing was put in, nor taken out
pub more-begins : (k : Kept) (xs : List Entry) → HoldsMore k (take 0 xs) k
more-begins k xs e = ((λ h. inl h), (λ h. elim h [ inl there ↦ there | inr c ↦ absurd (none-in e c) ]))

pub less-begins : (k : Kept) (xs : List Entry) → HoldsLess k (take 0 xs) k
less-begins k xs e = ((λ h. (h, none-in e)), (λ h. h.0))

-- the i-th of these
module _ (xs : List Entry) (i : ℕ) (x : Entry) (low : i < length xs) (is : x ≡ get_or xs i x) where
  pub there : Contains xs x
  there = subst (λ (y : Entry). Contains xs y) (sym is) (Contains-get_or xs i x low)

  -- the first i + 1 are the first i and this one
  among : (e : Entry) → Contains (take (i + 1) xs) e ↔ (Contains (take i xs) e ⊎ (e ≡ x))
  among e = rw (add-one i, take-push xs i x low is) (
    (λ h. elim (Contains-push_cases (take i xs) x e h) [ inl early ↦ inl early | inr same ↦ inr (sym same) ]),
    (λ h. elim h [
      | inl early ↦ Contains-append_left (take i xs) (x ∷ []) e early
      | inr same ↦ subst (λ (y : Entry). Contains (take i xs ++ x ∷ []) y) (sym same) (Contains-push (take i xs) x)
    ]),
  )

  -- it is none of those before
  not-early : AreDistinct xs → ¬ Contains (take i xs) x
  not-early once h =
      let few : length (take i xs) ≡ i = length-take-le i xs (omega (arith, low)) in
      let before : h.0 < i = omega (arith, h.1, few) in
      once h.0 i x before low (sym (get_or-take i xs h.0 x before) ∙ h.2 ∙ is)

  module _ (old now new : Kept) where
    pub more-goes_on : HoldsMore old (take i xs) now → HoldsOneMore now x new → HoldsMore old (take (i + 1) xs) new
    more-goes_on more one e = (
      (λ h. elim ((one e).0 h) [
        | inl held ↦ elim ((more e).0 held) [ inl before ↦ inl before | inr early ↦ inr ((among e).1 (inl early)) ]
        | inr same ↦ inr ((among e).1 (inr same))
      ]),
      (λ h. (one e).1 (elim h [
        | inl before ↦ inl ((more e).1 (inl before))
        | inr c ↦ elim ((among e).0 c) [ inl early ↦ inl ((more e).1 (inr early)) | inr same ↦ inr same ]
      ])),
    )

    pub less-goes_on : HoldsLess old (take i xs) now → HoldsOneLess now x new → HoldsLess old (take (i + 1) xs) new
    less-goes_on less one e = (
      (λ h.
          let now_held = (one e).0 h in
          let before = (less e).0 now_held.0 in
          (before.0, λ c. elim ((among e).0 c) [ inl early ↦ before.1 early | inr same ↦ now_held.1 same ])),
      (λ h. (one e).1 ((less e).1 (h.0, λ early. h.1 ((among e).1 (inl early))), λ same. h.1 ((among e).1 (inr same)))),
    )

  module _ (old now : Kept) where
    -- it isn't held yet, or is held still
    pub not-yet : AreNew old xs → HoldsMore old (take i xs) now → ¬ IsHeld now x
    not-yet fresh more held = elim ((more x).0 held) [
      | inl before ↦ fresh.others x there before
      | inr early ↦ not-early fresh.once early
    ]

    pub still-held : AreHeld old xs → HoldsLess old (take i xs) now → IsHeld now x
    still-held held less = (less x).1 (held.held x there, not-early held.once)

module _ (xs : List Entry) (i : ℕ) (past : length xs ≤ i) (old new : Kept) where
  -- past the last all were
  pub more-ends : HoldsMore old (take i xs) new → HoldsMore old xs new
  more-ends more = subst (λ (l : List Entry). HoldsMore old l new) (take_all i xs past) more

  pub less-ends : HoldsLess old (take i xs) new → HoldsLess old xs new
  less-ends less = subst (λ (l : List Entry). HoldsLess old l new) (take_all i xs past) less

-- ---- Those that were put in are taken back

module _ (xs : List Entry) (i : ℕ) (low : i < length xs) (old now failed : Kept)
    (fresh : AreNew old xs) (more : HoldsMore old (take i xs) now) (same : HoldsSame now failed) where
  few : length (take i xs) ≡ i
  few = length-take-le i xs (omega (arith, low))

  early-in : (e : Entry) → Contains (take i xs) e → Contains xs e
  early-in e h =
      let before : h.0 < i = omega (arith, h.1, few) in
      (h.0, omega (arith, before, low), sym (get_or-take i xs h.0 e before) ∙ h.2)

  pub can-be_taken : AreHeld failed (take i xs)
  can-be_taken = record {
    held = λ e h. (same e).1 ((more e).1 (inr h));
    once = λ j k d before within.
        let second : k < i = omega (arith, within, few) in
        let first : j < i = omega (arith, before, second) in
        λ one. fresh.once j k d before (omega (arith, second, low)) (sym (get_or-take i xs j d first) ∙ one ∙ get_or-take i xs k d second);
  }

  pub taken-back : (new : Kept) → HoldsLess failed (take i xs) new → HoldsSame old new
  taken-back new less e = (
    (λ h.
        let left = (less e).0 h in
        elim ((more e).0 ((same e).0 left.0)) [ inl before ↦ before | inr early ↦ absurd (left.1 early) ]),
    (λ before. (less e).1 ((same e).1 ((more e).1 (inl before)), λ early. fresh.others e (early-in e early) before)),
  )

-- ---- All of them

-- what was put in can be taken back, and then the same is held as before
pub now-held : (old new : Kept) (xs : List Entry) → AreNew old xs → HoldsMore old xs new → AreHeld new xs
now-held old new xs fresh more = record { held = λ e h. (more e).1 (inr h); once = fresh.once }

pub all-back : (old now new : Kept) (xs : List Entry) → AreNew old xs → HoldsMore old xs now → HoldsLess now xs new → HoldsSame old new
all-back old now new xs fresh more less e = (
  (λ h. elim ((more e).0 ((less e).0 h).0) [ inl before ↦ before | inr c ↦ absurd (((less e).0 h).1 c) ]),
  (λ before. (less e).1 ((more e).1 (inl before), λ c. fresh.others e c before)),
)

-- what holds of all held and of the new ones holds of all that is held then
pub held-each : (P : Entry → Type 0) (old new : Kept) (xs : List Entry) → ((e : Entry) → IsHeld old e → P e) → ((e : Entry) → Contains xs e → P e)
    → HoldsMore old xs new → (e : Entry) → IsHeld new e → P e
held-each P old new xs before added more e h = elim ((more e).0 h) [ inl b ↦ before e b | inr c ↦ added e c ]

-- and what holds of a list and of one more holds of them together
pub each-push : (P : Entry → Type 0) (xs : List Entry) (x : Entry) → ((e : Entry) → Contains xs e → P e) → P x → (e : Entry)
    → Contains (xs ++ x ∷ []) e → P e
each-push P xs x before here e h = elim (Contains-push_cases xs x e h) [ inl early ↦ before e early | inr same ↦ subst P same here ]
