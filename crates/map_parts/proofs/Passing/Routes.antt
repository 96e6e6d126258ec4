-- What follows what, once a path of two strings is in the place of one, or one in theirs.
use Rattle.std.proofs.Common.{◌≡◌, ◌≢◌, ◌⊎◌, inl, inr, refl, sym, ap, ◌∙◌, [], ◌∷◌, true, false}
use Rattle.half_table.specs.declared.half.Half.{Half}
use Rattle.half_table.specs.Half.{twin, is_half}
use Rattle.half_table.specs.Rows.{HalfRows, next, prev, IsLinked}
use Rattle.half_table.proofs.Halves.{is_half-self, is_half-other, is_half-turned, is_half-twin, other-is_half}
use Rattle.half_paths.specs.Loose.{AreLoose}
use Rattle.half_paths.specs.Redirect.{redirect}
use Rattle.half_paths.specs.Rerouted.{rerouted, LeadsOn}
use Rattle.map_parts.proofs.Passing.Between.{other-half}

-- What follows what where the path [x, y] has come in the place of z.
pub record IsThroughNow (x y z : Half) (old new : Half → Half) : Type 0 where
  pub first : new x ≡ y
  pub second : new y ≡ old z
  pub second_back : new (twin y) ≡ twin x
  pub first_back : new (twin x) ≡ old (twin z)
  pub whole : new z ≡ twin z
  pub whole_back : new (twin z) ≡ z
  pub enters : (g : Half) → old g ≡ z → new g ≡ x
  pub returns : (g : Half) → old g ≡ twin z → new g ≡ twin y
  pub others : (g : Half) → g.string ≢ x.string → g.string ≢ y.string → g.string ≢ z.string
      → old g ≢ z → old g ≢ twin z → new g ≡ old g

-- And where z has come in the place of the path.
pub record IsPastNow (x y z : Half) (old new : Half → Half) : Type 0 where
  pub whole : new z ≡ old y
  pub whole_back : new (twin z) ≡ old (twin x)
  pub first : new x ≡ twin x
  pub first_back : new (twin x) ≡ x
  pub second : new y ≡ twin y
  pub second_back : new (twin y) ≡ y
  pub enters : (g : Half) → old g ≡ x → new g ≡ z
  pub returns : (g : Half) → old g ≡ twin y → new g ≡ twin z
  pub others : (g : Half) → g.string ≢ x.string → g.string ≢ y.string → g.string ≢ z.string
      → old g ≢ x → old g ≢ twin y → new g ≡ old g

module _ (rows : HalfRows) (linked : IsLinked rows) (x y z : Half) (xy : x.string ≢ y.string)
    (zx : z.string ≢ x.string) (zy : z.string ≢ y.string) where
  abbrev f : Half → Half
  f = next rows

  -- a half whose next has another string isn't the one with that next
  not-prev : (g h k : Half) → f g ≡ k → k.string ≢ h.string → is_half g (prev rows h) ≡ false
  not-prev g h k on apart =
      is_half-other g (prev rows h) (λ e.
      apart (ap (λ (q : Half). q.string) (sym on ∙ ap f e ∙ linked.next_prev h)))

  -- and one whose next is another half isn't either
  not-prev_half : (g h : Half) → is_half (f g) h ≡ false → is_half g (prev rows h) ≡ false
  not-prev_half g h apart =
      is_half-other g (prev rows h) (λ e. other-is_half (f g) h apart (ap f e ∙ linked.next_prev h))

  yx : y.string ≢ x.string
  yx same = xy (sym same)

  xz : x.string ≢ z.string
  xz same = zx (sym same)

  yz : y.string ≢ z.string
  yz same = zy (sym same)

  self-twin : (h : Half) → is_half (twin h) h ≡ false
  self-twin h = is_half-turned h (twin h) (is_half-twin h)

  off-prev : (g h : Half) → f g ≢ h → is_half g (prev rows h) ≡ false
  off-prev g h other = not-prev_half g h (is_half-other (f g) h other)

  at-prev : (g h : Half) → f g ≡ h → is_half g (prev rows h) ≡ true
  at-prev g h on = ap (is_half g) (sym (sym (linked.prev_next g) ∙ ap (prev rows) on)) ∙ is_half-self g

  apart : (g h : Half) → g.string ≢ h.string → is_half g h ≡ false
  apart g h k = other-half g h k

  -- ---- Through the point

  module _ (leads : LeadsOn z z f) (loose : AreLoose f (x ∷ y ∷ [])) (new : Half → Half)
      (is : (g : Half) → new g ≡ redirect (rerouted (prev rows z) (prev rows (twin z)) z [] x (y ∷ []) f) f g) where
    -- what comes before the string, one way or the other
    before : (g : Half) → (f g ≡ z) ⊎ (f g ≡ twin z)
        → (is_half g (twin x) ≡ false) × (is_half g (twin z) ≡ false) × (is_half g z ≡ false) × (is_half g y ≡ false) × (is_half g x ≡ false) × (is_half g (twin y) ≡ false)
    before g on = (
      is_half-other g (twin x) (λ e. zx (string_of_next ∙ ap (λ (q : Half). (f q).string) e ∙ ap (λ (q : Half). q.string) loose.0.1)),
      is_half-other g (twin z) (λ e. elim on [ inl k ↦ other-is_half (f (twin z)) z leads.goes_back (sym (ap f e) ∙ k) | inr k ↦ other-is_half (f (twin z)) (twin z) leads.no_ring_back (sym (ap f e) ∙ k) ]),
      is_half-other g z (λ e. elim on [ inl k ↦ other-is_half (f z) z leads.no_ring (sym (ap f e) ∙ k) | inr k ↦ other-is_half (f z) (twin z) leads.goes_on (sym (ap f e) ∙ k) ]),
      is_half-other g y (λ e. zy (string_of_next ∙ ap (λ (q : Half). (f q).string) e ∙ ap (λ (q : Half). q.string) loose.1.0.0)),
      is_half-other g x (λ e. zx (string_of_next ∙ ap (λ (q : Half). (f q).string) e ∙ ap (λ (q : Half). q.string) loose.0.0)),
      is_half-other g (twin y) (λ e. zy (string_of_next ∙ ap (λ (q : Half). (f q).string) e ∙ ap (λ (q : Half). q.string) loose.1.0.1)),
    )
      where
        string_of_next : z.string ≡ (f g).string
        string_of_next = elim on [ inl k ↦ ap (λ (q : Half). q.string) (sym k) | inr k ↦ ap (λ (q : Half). q.string) (sym k) ]

    pub through-now : IsThroughNow x y z f new
    through-now = record {
      first = is x ∙ rw (is_half-twin x, apart x (twin z) xz, apart x z xz, not-prev x (twin z) (twin x) loose.0.0 xz, apart x y xy, not-prev x z (twin x) loose.0.0 xz, is_half-self x) refl;
      second = is y ∙ rw (apart y (twin x) yx, apart y (twin z) yz, apart y z yz, not-prev y (twin z) (twin y) loose.1.0.0 yz, is_half-self y) refl;
      second_back =
          is (twin y)
          ∙ rw (apart (twin y) (twin x) yx, apart (twin y) (twin z) yz, apart (twin y) z yz, not-prev (twin y) (twin z) y loose.1.0.1 yz, self-twin y, not-prev (twin y) z y loose.1.0.1 yz, apart (twin y) x yx, is_half-self (twin y)) refl;
      first_back = is (twin x) ∙ rw (is_half-self (twin x)) refl;
      whole = is z ∙ rw (apart z (twin x) zx, is_half-twin z, is_half-self z) refl;
      whole_back = is (twin z) ∙ rw (apart (twin z) (twin x) zx, is_half-self (twin z)) refl;
      enters = λ g on.
          let k = before g (inl on) in
          is g ∙ rw (k.0, k.1, k.2, not-prev_half g (twin z) (ap (λ (q : Half). is_half q (twin z)) on ∙ is_half-twin z), k.3, at-prev g z on) refl;
      returns = λ g on. let k = before g (inr on) in is g ∙ rw (k.0, k.1, k.2, at-prev g (twin z) on) refl;
      others = λ g gx gy gz not_z not_tz.
          is g
          ∙ rw (apart g (twin x) gx, apart g (twin z) gz, apart g z gz, off-prev g (twin z) not_tz, apart g y gy, off-prev g z not_z, apart g x gx, apart g (twin y) gy) refl;
    }

  -- ---- Past the point

  module _ (on_path : f x ≡ y) (back_path : f (twin y) ≡ twin x) (leads : LeadsOn x y f) (loose : AreLoose f (z ∷ []))
      (new : Half → Half)
      (is : (g : Half) → new g ≡ redirect (rerouted (prev rows x) (prev rows (twin y)) x (y ∷ []) z [] f) f g) where
    pub past-now : IsPastNow x y z f new
    past-now = record {
      whole = is z ∙ rw (is_half-twin z, apart z (twin x) zx, apart z y zy, not-prev z (twin y) (twin z) loose.0.0 zy, is_half-self z) refl;
      whole_back = is (twin z) ∙ rw (is_half-self (twin z)) refl;
      first =
          is x
          ∙ rw (apart x (twin z) xz, is_half-twin x, apart x y xy, not-prev_half x (twin y) (ap (λ (q : Half). is_half q (twin y)) on_path ∙ is_half-twin y), apart x z xz, not-prev x x y on_path yx, is_half-self x) refl;
      first_back = is (twin x) ∙ rw (apart (twin x) (twin z) xz, is_half-self (twin x)) refl;
      second = is y ∙ rw (apart y (twin z) yz, apart y (twin x) yx, is_half-self y) refl;
      second_back =
          is (twin y)
          ∙ rw (apart (twin y) (twin z) yz, apart (twin y) (twin x) yx, self-twin y, not-prev (twin y) (twin y) (twin x) back_path xy, apart (twin y) z yz, not-prev_half (twin y) x (ap (λ (q : Half). is_half q x) back_path ∙ self-twin x), apart (twin y) x yx, is_half-self (twin y)) refl;
      -- what comes before the path, there
      enters = λ g on.
          let a = is_half-other g (twin z) (λ e. zx (ap (λ (q : Half). q.string) (sym loose.0.1 ∙ sym (ap f e) ∙ on))) in
          let b = is_half-other g (twin x) (λ e. other-is_half (f (twin x)) x leads.goes_back (sym (ap f e) ∙ on)) in
          let c = is_half-other g y (λ e. other-is_half (f y) x leads.no_ring (sym (ap f e) ∙ on)) in
          let e = is_half-other g z (λ e. zx (ap (λ (q : Half). q.string) (sym loose.0.0 ∙ sym (ap f e) ∙ on))) in
          is g ∙ rw (a, b, c, not-prev g (twin y) x on xy, e, at-prev g x on) refl;
      -- and back
      returns = λ g on.
          let a = is_half-other g (twin z) (λ e. zy (ap (λ (q : Half). q.string) (sym loose.0.1 ∙ sym (ap f e) ∙ on))) in
          let b = is_half-other g (twin x) (λ e. other-is_half (f (twin x)) (twin y) leads.no_ring_back (sym (ap f e) ∙ on)) in
          let c = is_half-other g y (λ e. other-is_half (f y) (twin y) leads.goes_on (sym (ap f e) ∙ on)) in
          is g ∙ rw (a, b, c, at-prev g (twin y) on) refl;
      others = λ g gx gy gz not_x not_ty.
          is g
          ∙ rw (apart g (twin z) gz, apart g (twin x) gx, apart g y gy, off-prev g (twin y) not_ty, apart g z gz, off-prev g x not_x, apart g x gx, apart g (twin y) gy) refl;
    }
