-- Directions in a row round a position, and what stays clear of sectors when one of them changes.
use Rattle.std.proofs.Common.{◌≡◌, sym, ap, ◌∙◌, Bool, true, false, true≢false}
use Rattle.std.proofs.Common.{subst, ◌⊎◌, inl, inr}
use Rattle.std.specs.Prelude.{◌||◌}
use Rattle.std.proofs.lemmas.Bool.{not-true, not-false, cases_Bool, false_from_ne_true}
use Rattle.geo_exact.specs.Position.{Position}
use Rattle.geo_exact.specs.Orientation.{IsSameDirection}
use Rattle.geo_exact.specs.Sector.{in_sector, AreThreeDirections}
use Rattle.geo_exact.specs.Turning.{is_met_first}
use Rattle.geo_exact.proofs.Borders.{in_sector-last_border, in_sector-three}
use Rattle.geo_exact.proofs.Directions.{one_is_first, in_one_sector}
use Rattle.geo_exact.proofs.TurnOrder.{first-between, second-between, last-between, met-later}
use Rattle.geo_exact.proofs.TurnOrder.{met-total, not-met-itself, same-exchanged}

-- ---- Three directions and four in a row

-- counterclockwise about v from a, b is met before c, and these are three directions
record AreInTurn (v a b c : Position) : Type 0 where
  three : AreThreeDirections v a c b
  inside : in_sector v a c b ≡ true

-- so it is where b is in the sector from a to c
in_turn : (v a b c : Position) → ¬ (a ≡ v) → ¬ (c ≡ v) → ¬ IsSameDirection v a c
    → in_sector v a c b ≡ true → AreInTurn v a b c
in_turn v a b c a_away c_away a_from_c inside = record {
  three = in_sector-three v a c b a_away c_away a_from_c inside;
  inside = inside;
}

-- two directions are two in either order
apart_back : (v a b : Position) → ¬ IsSameDirection v a b → ¬ IsSameDirection v b a
apart_back v a b apart s = apart (same-exchanged v b a s)

-- and three in any other
three_turned : (v n p w : Position) → AreThreeDirections v n p w → AreThreeDirections v w n p
three_turned v n p w h = record {
  n_away = h.w_away;
  p_away = h.n_away;
  w_away = h.p_away;
  n_from_p = apart_back v n w h.n_from_w;
  n_from_w = h.w_from_p;
  w_from_p = apart_back v n p h.n_from_p;
}

three_exchanged : (v n p w : Position) → AreThreeDirections v n p w → AreThreeDirections v w p n
three_exchanged v n p w h = record {
  n_away = h.w_away;
  p_away = h.p_away;
  w_away = h.n_away;
  n_from_p = h.w_from_p;
  n_from_w = apart_back v n w h.n_from_w;
  w_from_p = h.n_from_p;
}

-- where w isn't in the sector from n to p, n is in that from w to p
not_inside : (v n p w : Position) → AreThreeDirections v n p w → in_sector v n p w ≡ false
    → AreInTurn v w n p
not_inside v n p w three out = record {
  three = three_exchanged v n p w three;
  inside = not-false (in_sector v w p n) (sym (one_is_first v n p w three) ∙ out);
}

module _ (v a b c : Position) (t : AreInTurn v a b c) where
  -- no two of three in a row can change places
  not_exchanged : in_sector v b c a ≡ false
  not_exchanged = not-true (in_sector v b c a) (sym (one_is_first v a c b t.three) ∙ t.inside)

  -- the last can go before the first
  turned_back : AreInTurn v c a b
  turned_back = record {
    three = three_turned v b a c (three_turned v a c b t.three);
    inside =
        ap (λ (s : Bool). s || in_sector v c b a) (sym not_exchanged)
        ∙ in_one_sector v b c a (three_exchanged v a c b t.three);
  }

-- and the first after the last
turned_on : (v a b c : Position) → AreInTurn v a b c → AreInTurn v b c a
turned_on v a b c t = turned_back v c a b (turned_back v a b c t)

-- w is in the sector from n to p just where p is in that from w to n
pub in_sector-turned : (v n p w : Position) → AreThreeDirections v n p w
    → in_sector v n p w ≡ in_sector v w n p
in_sector-turned v n p w three = elim (cases_Bool (in_sector v n p w)) [
  | inl inside ↦ inside ∙ sym (turned_on v n w p (record { three = three; inside = inside })).inside
  | inr out ↦ out ∙ sym (false_from_ne_true (in_sector v w n p) (λ h.
      let wpn : AreInTurn v w p n = record { three = three_turned v n p w three; inside = h } in
      true≢false (sym (turned_back v w p n wpn).inside ∙ out)))
]

-- a turn that begins in the east meets three directions in a row from one of them on
data MetInTurn (v a b c : Position) : Type 0 where
  from_a : is_met_first v a b ≡ true → is_met_first v b c ≡ true → MetInTurn v a b c
  from_b : is_met_first v b c ≡ true → is_met_first v c a ≡ true → MetInTurn v a b c
  from_c : is_met_first v c a ≡ true → is_met_first v a b ≡ true → MetInTurn v a b c

module _ (v a b c : Position) (a_away : ¬ (a ≡ v)) (b_away : ¬ (b ≡ v)) (c_away : ¬ (c ≡ v)) where
  -- if it meets them so, b is in the sector from a to c
  inside-met : MetInTurn v a b c → in_sector v a c b ≡ true
  inside-met (from_a ab bc) = (second-between v a b c a_away b_away c_away ab bc).inside
  inside-met (from_b bc ca) = (first-between v b c a b_away c_away a_away bc ca).inside
  inside-met (from_c ca ab) = (last-between v c a b c_away a_away b_away ca ab).inside

  -- and if b is in it, it meets them so: in each other order b is outside
  met-inside : ¬ IsSameDirection v a b → ¬ IsSameDirection v b c → ¬ IsSameDirection v c a
      → in_sector v a c b ≡ true → MetInTurn v a b c
  met-inside ab bc ca inside =
      by (met-total v a b a_away b_away ab) (met-total v b c b_away c_away bc)
      (met-total v c a c_away a_away ca)
    where
      never : in_sector v a c b ≡ false → MetInTurn v a b c
      never out = absurd (true≢false (sym inside ∙ out))

      by : (is_met_first v a b ≡ true) ⊎ (is_met_first v b a ≡ true)
          → (is_met_first v b c ≡ true) ⊎ (is_met_first v c b ≡ true)
          → (is_met_first v c a ≡ true) ⊎ (is_met_first v a c ≡ true) → MetInTurn v a b c
      by (inl h) (inl k) l = from_a h k
      by (inr h) (inl k) (inl l) = from_b k l
      by (inl h) (inr k) (inl l) = from_c l h
      by (inr h) (inr k) l = never (last-between v c b a c_away b_away a_away k h).outside
      by (inl h) (inr k) (inr l) = never (first-between v a c b a_away c_away b_away l k).outside
      by (inr h) (inl k) (inr l) = never (second-between v b a c b_away a_away c_away h l).outside

-- where it meets a, b and c in a row, and a, c and d, it meets all four so
module _ (v a b c d : Position) (a_away : ¬ (a ≡ v)) (b_away : ¬ (b ≡ v)) (c_away : ¬ (c ≡ v))
    (d_away : ¬ (d ≡ v)) where
  -- of a and c not each is met before the other
  never : is_met_first v a c ≡ true → is_met_first v c a ≡ true → MetInTurn v a b d
  never ac ca =
      let aa = met-later v a c a a_away c_away a_away ac ca in
      absurd (true≢false (sym aa ∙ not-met-itself v a))

  -- where b is met before c, and c before d, b is met before d
  bd : is_met_first v b c ≡ true → is_met_first v c d ≡ true → is_met_first v b d ≡ true
  bd = met-later v b c d b_away c_away d_away

  met-onward : MetInTurn v a b c → MetInTurn v a c d → MetInTurn v a b d
  met-onward (from_a ab bc) (from_a ac cd) = from_a ab (bd bc cd)
  met-onward (from_a ab bc) (from_b cd da) =
      never (met-later v a b c a_away b_away c_away ab bc)
      (met-later v c d a c_away d_away a_away cd da)
  met-onward (from_a ab bc) (from_c da ac) = from_c da ab
  met-onward (from_b bc ca) (from_a ac cd) = never ac ca
  met-onward (from_b bc ca) (from_b cd da) = from_b (bd bc cd) da
  met-onward (from_b bc ca) (from_c da ac) = never ac ca
  met-onward (from_c ca ab) (from_a ac cd) = never ac ca
  met-onward (from_c ca ab) (from_b cd da) = from_c da ab
  met-onward (from_c ca ab) (from_c da ac) = never ac ca

-- so where a, b and c are in a row, and a, c and d, so are a, b and d
first_and_last : (v a b c d : Position) → AreInTurn v a b c → AreInTurn v a c d → AreInTurn v a b d
first_and_last v a b c d t u =
    let f = t.three in let g = u.three in
    let ca = apart_back v a c f.n_from_p in let da = apart_back v a d g.n_from_p in
    let abc = met-inside v a b c f.n_away f.w_away f.p_away f.n_from_w f.w_from_p ca t.inside in
    let acd = met-inside v a c d g.n_away g.w_away g.p_away g.n_from_w g.w_from_p da u.inside in
    let abd = met-onward v a b c d f.n_away f.w_away f.p_away g.p_away abc acd in
    in_turn v a b d f.n_away g.p_away g.n_from_p (inside-met v a b d f.n_away f.w_away g.p_away abd)

-- and so are b, c and d
last_three : (v a b c d : Position) → AreInTurn v a b c → AreInTurn v a c d → AreInTurn v b c d
last_three v a b c d t u =
    let cdb = first_and_last v c d a b (turned_on v a c d u) (turned_back v a b c t) in
    turned_on v d b c (turned_on v c d b cdb)

-- the same of positions: b is in the sector from a to c, and c in that from a to d
module _ (v a b c d : Position) (a_away : ¬ (a ≡ v)) (d_away : ¬ (d ≡ v))
    (a_from_d : ¬ IsSameDirection v a d) (b_inside : in_sector v a c b ≡ true)
    (c_inside : in_sector v a d c ≡ true) where
  acd : AreInTurn v a c d
  acd = in_turn v a c d a_away d_away a_from_d c_inside

  abc : AreInTurn v a b c
  abc = in_turn v a b c a_away acd.three.w_away acd.three.n_from_w b_inside

  -- then b is in the sector from a to d
  pub in_sector-goes_on : in_sector v a d b ≡ true
  in_sector-goes_on = (first_and_last v a b c d abc acd).inside

  -- and c in that from b to d
  pub in_sector-goes_on-rest : in_sector v b d c ≡ true
  in_sector-goes_on-rest = (last_three v a b c d abc acd).inside

-- ---- What stays clear where a moves to b, which is in the sector from y to x

-- s lies in a fourth direction, and in neither of the sectors from y to a and from a to x
pub record IsClear (v y a x s : Position) : Type 0 where
  pub s_away : ¬ (s ≡ v)
  pub y_from_s : ¬ IsSameDirection v y s
  pub a_from_s : ¬ IsSameDirection v a s
  pub s_from_x : ¬ IsSameDirection v s x
  pub not_first : in_sector v y a s ≡ false
  pub not_last : in_sector v a x s ≡ false

module _ (v y a x : Position) (three : AreThreeDirections v y x a) where
  -- what is in neither sector, nor in the direction of a, isn't in the sector from y to x
  pub in_sector-whole : (r : Position) → ¬ IsSameDirection v a r → in_sector v y a r ≡ false
      → in_sector v a x r ≡ false → in_sector v y x r ≡ false
  in_sector-whole r a_from_r not_first not_last = false_from_ne_true (in_sector v y x r) (λ h.
      let yrx = in_turn v y r x three.n_away three.p_away three.n_from_p h in
      let yar = turned_on v r y a (not_inside v y a r (record {
        n_away = three.n_away;
        p_away = three.w_away;
        w_away = yrx.three.w_away;
        n_from_p = three.n_from_w;
        n_from_w = yrx.three.n_from_w;
        w_from_p = apart_back v a r a_from_r;
      }) not_first) in
      true≢false (sym (last_three v y a r x yar yrx).inside ∙ not_last))

  module _ (b : Position) (b_inside : in_sector v y x b ≡ true) where
    -- b is met between y and x
    ybx : AreInTurn v y b x
    ybx = in_turn v y b x three.n_away three.p_away three.n_from_p b_inside

    xyb : AreInTurn v x y b
    xyb = turned_back v y b x ybx

    -- what was in neither sector at a isn't in the one from b to x
    pub stays-clear_last : (r : Position) → ¬ IsSameDirection v a r → in_sector v y a r ≡ false
        → in_sector v a x r ≡ false → in_sector v b x r ≡ false
    stays-clear_last r a_from_r not_first not_last = false_from_ne_true (in_sector v b x r) (λ h.
        let brx = in_turn v b r x ybx.three.w_away three.p_away ybx.three.w_from_p h in
        let yrx = turned_back v r x y (last_three v b r x y brx (turned_on v y b x ybx)) in
        true≢false (sym yrx.inside ∙ in_sector-whole r a_from_r not_first not_last))

    -- nor in the one from y to b
    pub stays-clear_first : (r : Position) → ¬ IsSameDirection v a r → in_sector v y a r ≡ false
        → in_sector v a x r ≡ false → in_sector v y b r ≡ false
    stays-clear_first r a_from_r not_first not_last = false_from_ne_true (in_sector v y b r) (λ h.
        let yrb = in_turn v y r b three.n_away ybx.three.w_away ybx.three.n_from_w h in
        let yrx = first_and_last v y r b x yrb ybx in
        true≢false (sym yrx.inside ∙ in_sector-whole r a_from_r not_first not_last))

    -- counterclockwise from x, or from what is clear, y is met before b
    met_before : (s : Position) → (s ≡ x) ⊎ IsClear v y a x s → AreInTurn v s y b
    met_before s (inl e) = subst (λ (q : Position). AreInTurn v q y b) (sym e) xyb
    met_before s (inr clear) =
        let outside = in_sector-whole s clear.a_from_s clear.not_first clear.not_last in
        let syx = not_inside v y x s (record {
          n_away = three.n_away;
          p_away = three.p_away;
          w_away = clear.s_away;
          n_from_p = three.n_from_p;
          n_from_w = clear.y_from_s;
          w_from_p = clear.s_from_x;
        }) outside in
        last_three v x s y b (turned_back v s y x syx) xyb

    -- and b isn't in the sector from x, or from what is clear, to a t that comes no later than y
    pub stays-clear_elsewhere : (s t : Position) → (s ≡ x) ⊎ IsClear v y a x s
        → ¬ (t ≡ v) → ¬ IsSameDirection v s t → (t ≡ y) ⊎ (in_sector v s t y ≡ false)
        → in_sector v s t b ≡ false
    stays-clear_elsewhere s t from t_away apart out = false_from_ne_true (in_sector v s t b) (λ h.
        let syb = met_before s from in
        let sbt = in_turn v s b t syb.three.n_away t_away apart h in
        true≢false (sym (first_and_last v s y b t syb sbt).inside ∙ y_outside out))
      where
        y_outside : (t ≡ y) ⊎ (in_sector v s t y ≡ false) → in_sector v s t y ≡ false
        y_outside (inl e) = ap (λ (q : Position). in_sector v s q y) e ∙ in_sector-last_border v s y
        y_outside (inr h) = h
