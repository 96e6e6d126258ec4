-- Half-edges as plain values: tests, exchanged successors, cycles.
use Rattle.std.proofs.Common.{◌≡◌, ◌≢◌, Bool, true, false, not, ◌&&◌, refl, sym, ap, ◌∙◌, subst, ◌⊎◌, inl, inr, true≢false, nat_eq}
use Rattle.std.proofs.lemmas.Bool.Decides.{Decides-eqb}
use Rattle.std.specs.Bool.{beq}
use Rattle.half_table.specs.declared.half.Half.{Half}
use Rattle.half_table.specs.Half.{twin, is_half}
use Rattle.half_table.specs.Cycle.{exchanged}

beq-self : (b : Bool) → beq b b ≡ true
beq-self true = refl
beq-self false = refl

beq-same : (a b : Bool) → beq a b ≡ true → a ≡ b
beq-same true true h = refl
beq-same false false h = refl
beq-same true false h = cc
beq-same false true h = cc

both : (a b : Bool) → (a && b) ≡ true → (a ≡ true) × (b ≡ true)
both true true h = (refl, refl)
both true false h = cc
both false b h = cc

pub is_half-self : (h : Half) → is_half h h ≡ true
is_half-self h = rw ((Decides-eqb h.string h.string).1 refl) (beq-self h.forward)

pub is_half-same : (g h : Half) → is_half g h ≡ true → g ≡ h
is_half-same g h e =
    let p = both (nat_eq g.string h.string) (beq g.forward h.forward) e in
    let s : g.string ≡ h.string = (Decides-eqb g.string h.string).0 p.0 in
    let f : g.forward ≡ h.forward = beq-same g.forward h.forward p.1 in
    λ i. record { string = s i; forward = f i }

cases_bool : (b : Bool) → (b ≡ true) ⊎ (b ≡ false)
cases_bool true = inl refl
cases_bool false = inr refl

-- the halves are one or two
pub cases_half : (g h : Half) → (g ≡ h) ⊎ (is_half g h ≡ false)
cases_half g h = elim (cases_bool (is_half g h)) [ inl e ↦ inl (is_half-same g h e) | inr e ↦ inr e ]

pub is_half-other : (g h : Half) → g ≢ h → is_half g h ≡ false
is_half-other g h ne = elim (cases_half g h) [ inl e ↦ absurd (ne e) | inr e ↦ e ]

pub other-is_half : (g h : Half) → is_half g h ≡ false → g ≢ h
other-is_half g h e same = true≢false (sym (subst (λ x. is_half g x ≡ true) same (is_half-self g)) ∙ e)

pub is_half-turned : (g h : Half) → is_half g h ≡ false → is_half h g ≡ false
is_half-turned g h e = is_half-other h g (λ same. other-is_half g h e (sym same))

-- ---- Exchanged successors

pub exchanged-first : (f : Half → Half) (a b : Half) → exchanged a b f a ≡ f b
exchanged-first f a b = rw (is_half-self a) refl

pub exchanged-second : (f : Half → Half) (a b : Half) → exchanged a b f b ≡ f a
exchanged-second f a b =
    elim (cases_half b a) [
      | inl e ↦ subst (λ x. exchanged a x f x ≡ f a) (sym e) (exchanged-first f a a)
      | inr e ↦ rw (e, is_half-self b) refl
    ]

pub exchanged-other : (f : Half → Half) (a b h : Half) → is_half h a ≡ false → is_half h b ≡ false → exchanged a b f h ≡ f h
exchanged-other f a b h p q = rw (p, q) refl

-- where g undoes f, the exchange of the other ends undoes the exchange
pub exchanged-undone : (f g : Half → Half) → ((h : Half) → g (f h) ≡ h) → (a b h : Half) → exchanged (f a) (f b) g (exchanged a b f h) ≡ h
exchanged-undone f g undoes a b h =
    elim (cases_half h a) [
      | inl e ↦ subst (λ x. exchanged (f a) (f b) g (exchanged a b f x) ≡ x) (sym e)
          (ap (exchanged (f a) (f b) g) (exchanged-first f a b) ∙ exchanged-second g (f a) (f b) ∙ undoes a)
      | inr ne ↦ elim (cases_half h b) [
        | inl e ↦ subst (λ x. exchanged (f a) (f b) g (exchanged a b f x) ≡ x) (sym e)
            (ap (exchanged (f a) (f b) g) (exchanged-second f a b) ∙ exchanged-first g (f a) (f b) ∙ undoes b)
        | inr nf ↦ ap (exchanged (f a) (f b) g) (exchanged-other f a b h ne nf)
            ∙ exchanged-other g (f a) (f b) (f h)
            (is_half-other (f h) (f a) (λ e. other-is_half h a ne (sym (undoes h) ∙ ap g e ∙ undoes a)))
            (is_half-other (f h) (f b) (λ e. other-is_half h b nf (sym (undoes h) ∙ ap g e ∙ undoes b)))
            ∙ undoes h
      ]
    ]

-- the same exchange again restores
pub exchanged-twice : (f : Half → Half) (a b h : Half) → exchanged a b (exchanged a b f) h ≡ f h
exchanged-twice f a b h =
    elim (cases_half h a) [
      | inl e ↦ subst (λ x. exchanged a b (exchanged a b f) x ≡ f x) (sym e) (exchanged-first (exchanged a b f) a b ∙ exchanged-second f a b)
      | inr ne ↦ elim (cases_half h b) [
        | inl e ↦ subst (λ x. exchanged a b (exchanged a b f) x ≡ f x) (sym e) (exchanged-second (exchanged a b f) a b ∙ exchanged-first f a b)
        | inr nf ↦ exchanged-other (exchanged a b f) a b h ne nf ∙ exchanged-other f a b h ne nf
      ]
    ]

-- it does not matter which half is named first
pub exchanged-turned : (f : Half → Half) (a b h : Half) → exchanged a b f h ≡ exchanged b a f h
exchanged-turned f a b h =
    elim (cases_half h a) [
      | inl e ↦ subst (λ x. exchanged a b f x ≡ exchanged b a f x) (sym e) (exchanged-first f a b ∙ sym (exchanged-second f b a))
      | inr ne ↦ elim (cases_half h b) [
        | inl e ↦ subst (λ x. exchanged a b f x ≡ exchanged b a f x) (sym e) (exchanged-second f a b ∙ sym (exchanged-first f b a))
        | inr nf ↦ exchanged-other f a b h ne nf ∙ sym (exchanged-other f b a h nf ne)
      ]
    ]

-- a half exchanged with itself
pub exchanged-same : (f : Half → Half) (a h : Half) → exchanged a a f h ≡ f h
exchanged-same f a h =
    elim (cases_half h a) [
      | inl e ↦ subst (λ x. exchanged a a f x ≡ f x) (sym e) (exchanged-first f a a)
      | inr ne ↦ exchanged-other f a a h ne ne
    ]

-- ---- Twins

not-not : (b : Bool) → not (not b) ≡ b
not-not true = refl
not-not false = refl

pub twin-twin : (h : Half) → twin (twin h) ≡ h
twin-twin h = λ i. record { string = h.string; forward = not-not h.forward i }

pub is_half-twin : (h : Half) → is_half h (twin h) ≡ false
is_half-twin h = is_half-other h (twin h) (λ e. differs h.forward (ap (λ (g : Half). g.forward) e))
  where
    differs : (b : Bool) → b ≡ not b → ⊥
    differs true e = true≢false e
    differs false e = true≢false (sym e)
