-- Tables and a point between two others that goes or comes.
use Rattle.std.proofs.Common.{◌≡◌, ℕ, ◌⊎◌, inl, inr, refl, sym, ap, subst, ◌∙◌, Bool, true, false, nat_eq}
use Rattle.std.proofs.lemmas.Bool.{eqb-true}
use Rattle.std.specs.List.{Contains}
use Rattle.cad_rings.specs.Cycle.{Side, Corner}
use Rattle.cad_rings.specs.Surgery.{corner}
use Rattle.cad_map.specs.Map.{Map, all_sides, all_corners}
use Rattle.cad_map.specs.Rings.{HasWholeRings}
use Rattle.cad_map.specs.Views.{ComesAfter}
use Rattle.cad_map.proofs.CallerLemmas.{differs, side_before, side_behind}
use Rattle.half_table.specs.declared.half.Half.{Half}
use Rattle.half_table.specs.Half.{twin}
use Rattle.half_table.specs.Rows.{HalfRows, next, origin_of}
use Rattle.cad_laws.specs.Joining.{AreNotJoined, IsJoinedAt}
use Rattle.cad_laws.specs.Local.{IsShown, side_by, beyond, IsLocal}
use Rattle.cad_laws.specs.Tables.{GoesOnJoined, GoesOnSplit}
use Rattle.cad_laws.proofs.MapCorners.{corner-in, two-whole, before-one, some-corner}
use Rattle.cad_laws.proofs.CornersElsewhere.{to-point}
use Rattle.cad_laws.proofs.TablesParted.{corner_of, next-side}

-- ---- It goes

module _ (m after : Map) (rows : HalfRows) (local : IsLocal m rows) (p a b : ℕ)
    (it : IsJoinedAt m after p a b) where
  -- the half's corner, where its next one leads from w to v
  own-at : (h : Half) → IsShown m h → (w v : ℕ) → side_by rows (next rows h) ≡ (w, v)
      → Contains (all_corners m) (corner (origin_of rows h) w v) × (origin_of rows (twin h) ≡ w)
  own-at h shown w v is =
      let e = next-side m rows local h shown ∙ is in
      let at : origin_of rows (twin h) ≡ w = ap (λ (s : Side). s.0) e in (
        subst (Contains (all_corners m))
            (λ i. corner (origin_of rows h) (at i) (ap (λ (s : Side). s.1) e i))
            (local.corners h shown),
        at,
      )

  pub goes-on_joined : GoesOnJoined m after rows p a b
  goes-on_joined = record {
    stays = λ h shown before here behind.
        it.stays (corner_of m rows local h) (local.corners h shown) before here behind;
    to_first = λ h shown is. let k =
        own-at h shown a p is in
        subst (λ (w : ℕ). ComesAfter after (origin_of rows h, w) b) (sym k.1)
        (it.to_first (origin_of rows h) k.0);
    to_second = λ h shown is. let k =
        own-at h shown b p is in
        subst (λ (w : ℕ). ComesAfter after (origin_of rows h, w) a) (sym k.1)
        (it.to_second (origin_of rows h) k.0);
    from_first =
        λ g shown is.
        it.from_first (beyond rows g)
        (subst (λ (s : Side). Contains (all_corners m) (corner s.0 s.1 (beyond rows g))) is
        (local.corners g shown));
    from_second =
        λ g shown is.
        it.from_second (beyond rows g)
        (subst (λ (s : Side). Contains (all_corners m) (corner s.0 s.1 (beyond rows g))) is
        (local.corners g shown));
  }

-- ---- It comes

module _ (m after : Map) (rows : HalfRows) (local : IsLocal after rows) (p a b : ℕ)
    (it : IsJoinedAt m after p a b) (rings : HasWholeRings m) (rings_after : HasWholeRings after)
    (look : AreNotJoined m a b) where
  abbrev own : Half → Corner
  own h = corner_of after rows local h

  -- the old corner of a half that was there: it leads to the point from a or from b, or it is the
  -- half's own
  was : (h : Half) → IsShown after h → Contains (all_sides m) (side_by rows h)
      → (ComesAfter m (side_by rows h) p × (side_by rows (next rows h) ≡ (a, b)))
      ⊎ ((ComesAfter m (side_by rows h) p × (side_by rows (next rows h) ≡ (b, a)))
      ⊎ ComesAfter m (side_by rows h) (beyond rows h))
  was h shown there =
      let c = some-corner m rings (side_by rows h) there in
      by c.0 c.1 c.2 (nat_eq c.0.after p) refl
    where
      o : ℕ
      o = origin_of rows h

      v : ℕ
      v = origin_of rows (twin h)

      -- from one end of the two it leads to the other now
      by-end : (w q : ℕ) → v ≡ w
          → (Contains (all_corners m) (corner o w p) → Contains (all_corners after) (corner o w q))
          → Contains (all_corners m) (corner o v p) → side_by rows (next rows h) ≡ (w, q)
      by-end w q f to here =
          let new = to (subst (λ (x : ℕ). Contains (all_corners m) (corner o x p)) f here) in
          let same : own h ≡ corner o w q =
          before-one after rings_after (own h) (corner o w q) (local.corners h shown) new
          (λ i. (o, f i)) in
          sym (next-side after rows local h shown) ∙ ap side_behind same

      by : (c : Corner) → Contains (all_corners m) c → side_before c ≡ side_by rows h → (t : Bool)
          → nat_eq c.after p ≡ t
          → (ComesAfter m (side_by rows h) p × (side_by rows (next rows h) ≡ (a, b)))
          ⊎ ((ComesAfter m (side_by rows h) p × (side_by rows (next rows h) ≡ (b, a)))
          ⊎ ComesAfter m (side_by rows h) (beyond rows h))
      by c in_m is true e =
          let before : c.before ≡ o = ap (λ (s : Side). s.0) is in
          let at : c.at ≡ v = ap (λ (s : Side). s.1) is in
          let here : Contains (all_corners m) (corner o v p) =
          subst (Contains (all_corners m))
          (λ i. corner (before i) (at i) (eqb-true c.after p e i)) in_m in
          let side = (corner-in m.boundaries (two-whole m rings) (corner o v p) here).1 in
          elim (to-point m after p a b it rings v side) [
            | inl f ↦ inl (here, by-end a b f (λ h. it.to_first o h) here)
            | inr f ↦ inr (inl (here, by-end b a f (λ h. it.to_second o h) here))
          ]
      by c in_m is false e =
          let away = it.gone (own h) (local.corners h shown) in
          let before : c.before ≡ o = ap (λ (s : Side). s.0) is in
          let at : c.at ≡ v = ap (λ (s : Side). s.1) is in
          let kept =
          it.stays c in_m (λ f. away.0 (sym before ∙ f)) (λ f. away.1 (sym at ∙ f))
          (differs c.after p e) in
          inr (inr
          (subst (Contains (all_corners m))
          (before-one after rings_after c (own h) kept (local.corners h shown) is) in_m))

  -- a half that goes on between the two went on to the point
  entered : (h : Half) → IsShown after h → Contains (all_sides m) (side_by rows h)
      → (Contains (all_sides m) (side_by rows (next rows h)) → ⊥) → ComesAfter m (side_by rows h) p
  entered h shown there none = elim (was h shown there) [
    | inl k ↦ k.0
    | inr k ↦ elim k [
      | inl k ↦ k.0
      | inr own_one ↦
          absurd (none
          (subst (Contains (all_sides m)) (next-side after rows local h shown)
          (corner-in m.boundaries (two-whole m rings) (own h) own_one).1))
    ]
  ]

  first-sides : Contains (all_sides m) (a, p) × Contains (all_sides m) (p, b)
  first-sides = corner-in m.boundaries (two-whole m rings) (corner a p b) it.first_there

  second-sides : Contains (all_sides m) (b, p) × Contains (all_sides m) (p, a)
  second-sides = corner-in m.boundaries (two-whole m rings) (corner b p a) it.second_there

  -- the corner behind the point
  behind : (w n : ℕ) → Contains (all_sides m) (p, n)
      → ((u : ℕ) → Contains (all_corners m) (corner p n u)
      → Contains (all_corners after) (corner w n u))
      → (g : Half) → IsShown after g → side_by rows g ≡ (w, n)
      → ComesAfter m (p, n) (beyond rows g)
  behind w n side from g shown is =
      let c = some-corner m rings (p, n) side in
      let here : Contains (all_corners m) (corner p n c.0.after) =
      subst (λ (s : Side). Contains (all_corners m) (corner s.0 s.1 c.0.after)) c.2 c.1 in
      let same : corner w n c.0.after ≡ own g =
      before-one after rings_after (corner w n c.0.after) (own g) (from c.0.after here)
      (local.corners g shown) (sym is) in
      subst (λ (u : ℕ). Contains (all_corners m) (corner p n u))
      (ap (λ (d : Corner). d.after) same) here

  pub goes-on_split : GoesOnSplit m after rows p a b
  goes-on_split = record {
    stays = λ h shown there forth back. elim (was h shown there) [
      | inl k ↦ absurd (forth k.1)
      | inr k ↦ elim k [ inl k ↦ absurd (back k.1) | inr own_one ↦ own_one ]
    ];
    to_first =
        λ h shown there is.
        entered h shown there (λ k. look.forth (subst (Contains (all_sides m)) is k));
    to_second =
        λ h shown there is.
        entered h shown there (λ k. look.back (subst (Contains (all_sides m)) is k));
    from_first = behind b a second-sides.1 it.from_first;
    from_second = behind a b first-sides.1 it.from_second;
  }
