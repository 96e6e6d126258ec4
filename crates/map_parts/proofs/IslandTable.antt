-- The table where an island comes, and where it goes.
use Rattle.std.proofs.Common.{◌≡◌, ◌≢◌, ◌⊎◌, ℕ, ◌≤◌, ◌||◌, Bool, true, false, List, [], ◌∷◌, map, length, refl, sym, ap, ◌∙◌, subst, inl, inr, true≢false}
use Rattle.std.specs.List.{AllByRecursion, Contains}
use Rattle.cad_rings.specs.Cycle.{Ring, Side, sides_of, opposite, Corner, corners_of}
use Rattle.cad_rings.specs.Surgery.{corner, both_ways}
use Rattle.cad_map.specs.Map.{Map, all_corners, has_string}
use Rattle.cad_map.specs.Rings.{HasWholeRings}
use Rattle.cad_map.specs.Views.{ComesAfter}
use Rattle.cad_map.proofs.CallerLemmas.{Contains-first, Contains-map, map-Contains, All-at_each, of_both_ways, in_both_ways}
use Rattle.half_table.specs.declared.half.Half.{Half}
use Rattle.half_table.specs.Half.{twin}
use Rattle.half_table.specs.Rows.{HalfRows, IsLinked, has, next, origin_of}
use Rattle.half_table.proofs.Halves.{twin-twin}
use Rattle.half_paths.specs.Path.{strings_of, AreDifferent, AreElsewhere}
use Rattle.half_paths.specs.Loose.{is_of}
use Rattle.half_paths.specs.Round.{IsRound}
use Rattle.cad_laws.specs.Local.{IsShown, side_by, beyond, IsLocal, LeadsAlong}
use Rattle.cad_laws.specs.Parting.{HasIsland}
use Rattle.cad_laws.proofs.CallerLemmas.{goes-on_with, goes-on_without, apart-halves}
use Rattle.map_parts.specs.Parts.{HasHalves}
use Rattle.map_parts.specs.Paths.{AreAlong, HasStringsMore}
use Rattle.map_parts.proofs.WholeStrings.{two-ends}
use Rattle.map_parts.proofs.PartsRings.{half-two, half-there}
use Rattle.map_parts.proofs.KeptShown.{bare}
use Rattle.map_parts.proofs.CycleRings.{turn, run-corners}
use Rattle.map_parts.proofs.AlongPaths.{on-path, is-on_path, elsewhere-of, round-before, round-after, strung-run, first-elsewhere, along-meets, round-points}

-- ---- Strings of two maps

module _ (whole parted : Map) (path : List Half) (more : HasStringsMore whole parted path) where
  pub more-old : (h : Half) → IsShown whole h → IsShown parted h
  more-old h shown = more.all h ∙ ap (λ (b : Bool). is_of (strings_of path) h || b) shown ∙ either (is_of (strings_of path) h)
    where
      either : (b : Bool) → (b || true) ≡ true
      either true = refl
      either false = refl

  pub more-new : (h : Half) → Contains path h → IsShown parted h
  more-new h on = more.all h ∙ ap (λ (b : Bool). b || has_string whole h.string) (is-on_path path h on)

  pub more-rest : (h : Half) → IsShown parted h → is_of (strings_of path) h ≡ false → IsShown whole h
  more-rest h shown away = ap (λ (b : Bool). b || has_string whole h.string) (sym away) ∙ sym (more.all h) ∙ shown

  pub more-away : (h : Half) → IsShown whole h → AreElsewhere h path
  more-away h shown = elsewhere-of path h (more.new h shown)

  -- a half is of the first map, or on the path there or back
  pub more-cases : (h : Half) → IsShown parted h → IsShown whole h ⊎ (Contains path h ⊎ Contains path (twin h))
  more-cases h shown = by (is_of (strings_of path) h) refl
    where
      by : (b : Bool) → is_of (strings_of path) h ≡ b → IsShown whole h ⊎ (Contains path h ⊎ Contains path (twin h))
      by true on = inr (on-path path h on)
      by false away = inl (more-rest h shown away)

-- ---- It comes

module _ (whole parted : Map) (ring : Ring) (law : HasIsland whole parted ring) (rings : HasWholeRings parted) (old new : HalfRows) (first : Half) (rest : List Half)
    (more : HasStringsMore whole parted (first ∷ rest)) (different : AreDifferent (first ∷ rest)) (local : IsLocal whole old) (linked : IsLinked new)
    (ends : AllByRecursion (HasHalves new) parted.strings) (same_next : (g : Half) → AreElsewhere g (first ∷ rest) → next new g ≡ next old g)
    (same_origin : (g : Half) → origin_of new g ≡ origin_of old g) (round : IsRound (next new) first rest) (along : AreAlong new (first ∷ rest) (sides_of ring)) where
  abbrev path : List Half
  path = first ∷ rest

  abbrev nx : Half → Half
  nx = next new

  abbrev o : Half → ℕ
  o = origin_of new

  own : (g : Half) → Contains path g → IsShown parted g
  own = more-new whole parted path more

  -- each half of the path ends where its next begins
  meets-path : (g : Half) → Contains path g → o (nx g) ≡ o (twin g)
  meets-path = by ring along
    where
      by : (r : Ring) → map (side_by new) path ≡ sides_of r → (g : Half) → Contains path g → o (nx g) ≡ o (twin g)
      by [] e g among = cc
      by (a ∷ points) e g among =
          along-meets new first rest a points a e round.strung (ap o round.closes ∙ begins (sym (round-points new path (a ∷ points) e))) g among
        where
          begins : a ∷ points ≡ map o path → o first ≡ a
          begins same = let f : a ≡ o first = cc in sym f

  two : (h : Half) → IsShown parted h → o h ≢ o (twin h)
  two h shown = half-two (bare parted new) ends (two-ends parted rings) h shown

  -- the corners of the ring are those of the path
  turns : corners_of ring ≡ map (turn nx o) path
  turns =
      ap corners_of (sym (round-points new path ring along))
      ∙ run-corners nx o first rest (λ e. two first (own first (Contains-first first rest)) (sym (ap o e) ∙ meets-path first (Contains-first first rest)))
      (strung-run nx first first rest (first-elsewhere first rest different) round.strung round.closes)

  turn-there : (g : Half) → Contains path g → Contains (corners_of ring) (turn nx o g)
  turn-there g among = subst (λ (l : List Corner). Contains l (turn nx o g)) (sym turns) (Contains-map (turn nx o) path g among)

  -- what a half of the path goes on to, there and back
  corner-along : (g : Half) → Contains path g → ComesAfter parted (side_by new g) (beyond new g)
  corner-along g among =
      let one = meets-path g among in
      let later = meets-path (nx g) (round-after nx first rest round g among) in
      subst (λ (c : Corner). Contains (all_corners parted) c) (λ i. corner (o g) (one i) (later i)) (law.along (turn nx o g) (turn-there g among))

  module _ (g : Half) (among : Contains path g) where
    before : (p : Half) × Contains path p × (nx p ≡ g) × (nx (twin g) ≡ twin p)
    before = round-before nx first rest round g among

    meets-back : o (nx (twin g)) ≡ o (twin (twin g))
    meets-back = ap o before.3 ∙ sym (meets-path before.0 before.1) ∙ ap o before.2 ∙ ap o (sym (twin-twin g))

    shown-back : IsShown parted (nx (twin g))
    shown-back = subst (IsShown parted) (sym before.3) (own before.0 before.1)

    corner-against : ComesAfter parted (side_by new (twin g)) (beyond new (twin g))
    corner-against =
        let p = before.0 in
        let at : o (nx p) ≡ o (twin (twin g)) = ap o before.2 ∙ ap o (sym (twin-twin g)) in
        let after : o (nx (nx p)) ≡ o (twin g) = ap (λ (x : Half). o (nx x)) before.2 ∙ meets-path g among in
        let last : o p ≡ o (twin (nx (twin g))) = ap o (sym (twin-twin p)) ∙ ap (λ (x : Half). o (twin x)) (sym before.3) in
        subst (λ (c : Corner). Contains (all_corners parted) c) (λ i. corner (after i) (at i) (last i)) (law.back (turn nx o p) (turn-there p before.1))

  -- halves of the first map go on as they did
  next-old : (h : Half) → IsShown whole h → nx h ≡ next old h
  next-old h shown = same_next h (more-away whole parted path more h shown)

  of : (P : Half → Type 0) (h : Half) → Contains path (twin h) → P (twin (twin h)) → P h
  of P h on p = subst P (twin-twin h) p

  pub island-comes : IsLocal parted new
  island-comes = record {
    linked = linked;
    there = λ h shown. half-there (bare parted new) ends h shown;
    inside = λ h shown. elim (more-cases whole parted path more h shown) [
      | inl was ↦ subst (IsShown parted) (sym (next-old h was)) (more-old whole parted path more (next old h) (local.inside h was))
      | inr on ↦ elim on [
        | inl forth ↦ own (nx h) (round-after nx first rest round h forth)
        | inr back ↦ of (λ (x : Half). IsShown parted (nx x)) h back (shown-back (twin h) back)
      ]
    ];
    meets = λ h shown. elim (more-cases whole parted path more h shown) [
      | inl was ↦ ap o (next-old h was) ∙ same_origin (next old h) ∙ local.meets h was ∙ sym (same_origin (twin h))
      | inr on ↦ elim on [
        | inl forth ↦ meets-path h forth
        | inr back ↦ of (λ (x : Half). o (nx x) ≡ o (twin x)) h back (meets-back (twin h) back)
      ]
    ];
    corners = λ h shown. elim (more-cases whole parted path more h shown) [
      | inl was ↦
          let goes = goes-on_with whole parted old ring local law h was in
          let after : beyond old h ≡ beyond new h = sym (same_origin (twin (next old h))) ∙ ap (λ (x : Half). o (twin x)) (sym (next-old h was)) in
          subst (λ (c : Corner). Contains (all_corners parted) c) (λ i. corner (sym (same_origin h) i) (sym (same_origin (twin h)) i) (after i)) goes
      | inr on ↦ elim on [
        | inl forth ↦ corner-along h forth
        | inr back ↦ of (λ (x : Half). ComesAfter parted (side_by new x) (beyond new x)) h back (corner-against (twin h) back)
      ]
    ];
    apart = apart-halves parted new (two-ends parted rings) rings (λ s there. let e = All-at_each (HasHalves new) parted.strings s ends there in (e.from, e.to));
  }

-- ---- It goes

-- a side along which a path leads is that of a half of the path, there or back
pub on-path_side : (whole parted : Map) (sides : List Side) (old : HalfRows) (path : List Half) → HasStringsMore whole parted path → AreAlong old path sides
    → (s : Side) → LeadsAlong sides s → (g : Half) × IsShown parted g × (is_of (strings_of path) g ≡ true) × (side_by old g ≡ s)
on-path_side whole parted sides old path more along s on = elim (of_both_ways sides s on) [
  | inl forth ↦
      let it = map-Contains (side_by old) path s (subst (λ (l : List Side). Contains l s) (sym along) forth) in
      (it.0, more-new whole parted path more it.0 it.1, is-on_path path it.0 it.1, it.2)
  | inr back ↦
      let it = map-Contains (side_by old) path (opposite s) (subst (λ (l : List Side). Contains l (opposite s)) (sym along) back) in
      let turned : side_by old (twin it.0) ≡ opposite (side_by old it.0) = λ i. (origin_of old (twin it.0), origin_of old (twin-twin it.0 i)) in
      (twin it.0, more-new whole parted path more it.0 it.1, is-on_path path it.0 it.1, turned ∙ ap opposite it.2)
]

module _ (whole parted : Map) (ring : Ring) (long : 2 ≤ length ring) (law : HasIsland whole parted ring) (rings : HasWholeRings parted) (old : HalfRows) (path : List Half)
    (more : HasStringsMore whole parted path) (local : IsLocal parted old) (along : AreAlong old path (sides_of ring)) where
  on-island : (s : Side) → LeadsAlong (sides_of ring) s → (g : Half) × IsShown parted g × (is_of (strings_of path) g ≡ true) × (side_by old g ≡ s)
  on-island = on-path_side whole parted (sides_of ring) old path more along

  pub off-island : (h : Half) → IsShown whole h → LeadsAlong (sides_of ring) (side_by old h) → ⊥
  off-island h shown on =
      let it = on-island (side_by old h) on in
      let same = local.apart it.0 h it.1 (more-old whole parted path more h shown) it.3 in
      true≢false (sym it.2 ∙ ap (is_of (strings_of path)) same ∙ more.new h shown)

  leads-along : (h : Half) → is_of (strings_of path) h ≡ true → LeadsAlong (sides_of ring) (side_by old h)
  leads-along h is = elim (on-path path h is) [
    | inl on ↦ (in-sides (side_by old h) (subst (λ (l : List Side). Contains l (side_by old h)) along (Contains-map (side_by old) path h on))).0
    | inr back ↦
        subst (LeadsAlong (sides_of ring)) (λ i. (origin_of old (twin-twin h i), origin_of old (twin h)))
        (in-sides (side_by old (twin h)) (subst (λ (l : List Side). Contains l (side_by old (twin h))) along (Contains-map (side_by old) path (twin h) back))).1
  ]
    where
      in-sides : (s : Side) → Contains (sides_of ring) s → Contains (both_ways (sides_of ring)) s × Contains (both_ways (sides_of ring)) (opposite s)
      in-sides s there = in_both_ways (sides_of ring) s there

  -- what follows a half of the first map is one
  pub stays-inside : (h : Half) → IsShown whole h → IsShown whole (next old h)
  stays-inside h shown = by (is_of (strings_of path) (next old h)) refl
    where
      by : (b : Bool) → is_of (strings_of path) (next old h) ≡ b → IsShown whole (next old h)
      by true on =
          absurd ((goes-on_without whole parted old local rings ring long law h (more-old whole parted path more h shown) (off-island h shown)).1
          (leads-along (next old h) on))
      by false away = more-rest whole parted path more (next old h) (local.inside h (more-old whole parted path more h shown)) away

  module _ (new : HalfRows) (linked : IsLinked new) (there : (h : Half) → IsShown whole h → has new h ≡ true) (same_next : (g : Half) → AreElsewhere g path → next new g ≡ next old g)
      (same_origin : (g : Half) → origin_of new g ≡ origin_of old g) where
    next-kept : (h : Half) → IsShown whole h → next new h ≡ next old h
    next-kept h shown = same_next h (more-away whole parted path more h shown)

    pub island-goes : IsLocal whole new
    island-goes = record {
      linked = linked;
      there = there;
      inside = λ h shown. subst (IsShown whole) (sym (next-kept h shown)) (stays-inside h shown);
      meets = λ h shown.
          ap (origin_of new) (next-kept h shown) ∙ same_origin (next old h) ∙ local.meets h (more-old whole parted path more h shown) ∙ sym (same_origin (twin h));
      corners = λ h shown.
          let goes = (goes-on_without whole parted old local rings ring long law h (more-old whole parted path more h shown) (off-island h shown)).0 in
          let after : beyond old h ≡ beyond new h = sym (same_origin (twin (next old h))) ∙ ap (λ (x : Half). origin_of new (twin x)) (sym (next-kept h shown)) in
          subst (λ (c : Corner). Contains (all_corners whole) c) (λ i. corner (sym (same_origin h) i) (sym (same_origin (twin h)) i) (after i)) goes;
      apart = λ g h one other same.
          local.apart g h (more-old whole parted path more g one) (more-old whole parted path more h other)
          ((λ i. (sym (same_origin g) i, sym (same_origin (twin g)) i)) ∙ same ∙ (λ i. (same_origin h i, same_origin (twin h) i)));
    }
