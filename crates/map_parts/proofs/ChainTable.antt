-- The table where a chain parts a ring in two, or joins two.
use Rattle.std.proofs.Common.{◌≡◌, ◌≢◌, ◌⊎◌, ℕ, ◌≤◌, true, true≢false, List, [], ◌∷◌, map, length, sym, ap, ◌∙◌, subst, inl, inr, arith}
use Rattle.std.specs.List.{AllByRecursion, Contains}
use Rattle.cad_rings.specs.Cycle.{Side, opposite, Corner}
use Rattle.cad_rings.specs.Surgery.{corner, sides_of_chain, corners_of_chain}
use Rattle.cad_map.specs.Chain.{start_of, next_of, end_of, last_but_one, leaving}
use Rattle.cad_map.specs.Map.{Map, all_corners}
use Rattle.cad_map.specs.Rings.{HasWholeRings}
use Rattle.cad_map.specs.Views.{ComesAfter}
use Rattle.cad_map.proofs.CallerLemmas.{Contains-first, Contains-later, Contains-cases, Contains-map, All-at_each, in_both_ways}
use Rattle.half_table.specs.declared.half.Half.{Half}
use Rattle.half_table.specs.Half.{twin}
use Rattle.half_table.specs.Rows.{HalfRows, IsLinked, has, next, origin_of}
use Rattle.half_table.proofs.Halves.{twin-twin, cases_half, other-is_half}
use Rattle.half_paths.specs.Path.{strings_of, last_of}
use Rattle.half_paths.specs.Loose.{is_of}
use Rattle.half_paths.specs.Strung.{IsStrung}
use Rattle.cad_laws.specs.Local.{IsShown, side_by, beyond, IsLocal, LeadsAlong}
use Rattle.cad_laws.specs.Parting.{IsParted}
use Rattle.cad_laws.specs.Tables.{GoesOnParted, GoesOnWhole}
use Rattle.cad_laws.proofs.CallerLemmas.{goes-on_parted, goes-on_whole, apart-halves}
use Rattle.map_parts.specs.Parts.{HasHalves}
use Rattle.map_parts.specs.Paths.{AreAlong, HasStringsMore}
use Rattle.map_parts.proofs.WholeStrings.{two-ends}
use Rattle.map_parts.proofs.PartsRings.{half-there}
use Rattle.map_parts.proofs.KeptShown.{bare}
use Rattle.map_parts.proofs.AlongPaths.{is-on_path, strung-before, last-there, first-of, tail-of}
use Rattle.map_parts.proofs.IslandTable.{on-path_side, more-old, more-new, more-cases}

-- ---- Corners along a path

module _ (rows : HalfRows) where
  abbrev nx : Half → Half
  nx = next rows

  abbrev o : Half → ℕ
  o = origin_of rows

  -- each half of a path but the last makes with its next a corner of the chain
  pub path-corner : (h : Half) (hs : List Half) (chain : List ℕ) → map (side_by rows) (h ∷ hs) ≡ sides_of_chain chain → IsStrung nx h hs → (g : Half) → Contains (h ∷ hs) g
      → (g ≡ last_of h hs) ⊎ (Contains hs (nx g) × (o (nx g) ≡ o (twin g)) × Contains (corners_of_chain chain) (corner (o g) (o (twin g)) (beyond rows g)))
  path-corner h [] chain e s g among = elim (Contains-cases h [] g among) [
    | inl same ↦ inl (sym same)
    | inr none ↦ let low = none.1 in absurd (omega (arith, low))
  ]
  path-corner h (k ∷ hs) [] e s g among = cc
  path-corner h (k ∷ hs) (x ∷ []) e s g among = cc
  path-corner h (k ∷ hs) (x ∷ y ∷ []) e s g among = let none : side_by rows k ∷ map (side_by rows) hs ≡ [] = tail-of e in cc
  path-corner h (k ∷ hs) (x ∷ y ∷ z ∷ points) e s g among = elim (Contains-cases h (k ∷ hs) g among) [
    | inl same ↦
        let own : side_by rows h ≡ (x, y) = first-of e in
        let later : side_by rows k ≡ (y, z) = first-of (tail-of e) in
        let meets : o (nx h) ≡ o (twin h) = ap o s.0 ∙ ap (λ (t : Side). t.0) later ∙ sym (ap (λ (t : Side). t.1) own) in
        let there : Contains (corners_of_chain (x ∷ y ∷ z ∷ points)) (corner (o h) (o (twin h)) (beyond rows h)) =
        subst (λ (c : Corner). Contains (corners_of_chain (x ∷ y ∷ z ∷ points)) c)
        (λ i. corner (sym (ap (λ (t : Side). t.0) own) i) (sym (ap (λ (t : Side). t.1) own) i) ((sym (ap (λ (t : Side). t.1) later) ∙ ap (λ (f : Half). o (twin f)) (sym s.0)) i))
        (Contains-first (corner x y z) (corners_of_chain (y ∷ z ∷ points))) in
        inr (subst (λ (f : Half). Contains (k ∷ hs) (nx f) × (o (nx f) ≡ o (twin f)) × Contains (corners_of_chain (x ∷ y ∷ z ∷ points)) (corner (o f) (o (twin f)) (beyond rows f))) same
        (subst (Contains (k ∷ hs)) (sym s.0) (Contains-first k hs), meets, there))
    | inr later ↦ elim (path-corner k hs (y ∷ z ∷ points) (tail-of e) s.2 g later) [
      | inl last ↦ inl last
      | inr it ↦ inr (Contains-later k hs (nx g) it.0, it.1, Contains-later (corner x y z) (corners_of_chain (y ∷ z ∷ points)) (corner (o g) (o (twin g)) (beyond rows g)) it.2)
    ]
  ]

-- ---- It comes

module _ (whole parted : Map) (chain : List ℕ) (fc lc : Corner) (law : IsParted whole parted chain fc lc) (rings : HasWholeRings whole) (parts : HasWholeRings parted)
    (old new : HalfRows) (first : Half) (rest : List Half) (more : HasStringsMore whole parted (first ∷ rest)) (local : IsLocal whole old) (linked : IsLinked new)
    (ends : AllByRecursion (HasHalves new) parted.strings) (same_origin : (g : Half) → origin_of new g ≡ origin_of old g)
    (along : AreAlong new (first ∷ rest) (sides_of_chain chain)) (strung : IsStrung (next new) first rest)
    (first_side : side_by new first ≡ (start_of chain, next_of chain)) (last_side : side_by new (last_of first rest) ≡ (last_but_one chain, end_of chain))
    (a b : Half) (a_shown : IsShown whole a) (b_shown : IsShown whole b) (a_side : side_by old a ≡ leaving fc) (b_side : side_by old b ≡ leaving lc)
    (enters : (g : Half) → IsShown whole g → next old g ≡ a → next new g ≡ first) (returns : (g : Half) → IsShown whole g → next old g ≡ b → next new g ≡ twin (last_of first rest))
    (others : (g : Half) → IsShown whole g → next old g ≢ a → next old g ≢ b → next new g ≡ next old g)
    (leaves : next new (last_of first rest) ≡ b) (comes_back : next new (twin first) ≡ a) where
  abbrev path : List Half
  path = first ∷ rest

  abbrev last : Half
  last = last_of first rest

  abbrev nn : Half → Half
  nn = next new

  abbrev p : Half → ℕ
  p = origin_of new

  old-side : (g : Half) → side_by new g ≡ side_by old g
  old-side g = λ i. (same_origin g i, same_origin (twin g) i)

  own : (g : Half) → Contains path g → IsShown parted g
  own = more-new whole parted path more

  a_new : side_by new a ≡ leaving fc
  a_new = old-side a ∙ a_side

  b_new : side_by new b ≡ leaving lc
  b_new = old-side b ∙ b_side

  -- a corner of the second map, made by a half with its next
  record Goes (g : Half) : Type 0 where
    pub inside : IsShown parted (nn g)
    pub meets : p (nn g) ≡ p (twin g)
    pub turns : ComesAfter parted (side_by new g) (beyond new g)

  -- ---- Halves of the first map

  module _ (g : Half) (shown : IsShown whole g) where
    meets_old : p (next old g) ≡ p (twin g)
    meets_old = same_origin (next old g) ∙ local.meets g shown ∙ sym (same_origin (twin g))

    law_of : GoesOnParted whole parted old chain fc lc
    law_of = goes-on_parted whole parted old local rings chain fc lc law

    enters-first : next old g ≡ a → Goes g
    enters-first is =
        let to = enters g shown is in
        record {
          inside = subst (IsShown parted) (sym to) (own first (Contains-first first rest));
          meets =
              ap p to ∙ ap (λ (s : Side). s.0) first_side ∙ sym law.first_at ∙ ap (λ (s : Side). s.0) (sym a_new) ∙ ap p (sym is) ∙ meets_old;
          turns =
              subst (λ (s : Side × ℕ). ComesAfter parted s.0 s.1)
              (λ i. (sym (old-side g) i, (sym (ap (λ (s : Side). s.1) first_side) ∙ ap (λ (f : Half). p (twin f)) (sym to)) i))
              (law_of.to_start g shown (ap (side_by old) is ∙ a_side));
        }

    enters-last : next old g ≡ b → Goes g
    enters-last is =
        let to = returns g shown is in
        let at : p (twin last) ≡ end_of chain = ap (λ (s : Side). s.1) last_side in
        let far : p (twin (twin last)) ≡ last_but_one chain = ap p (twin-twin last) ∙ ap (λ (s : Side). s.0) last_side in
        record {
          inside = subst (IsShown parted) (sym to) (own last (last-there nn first rest));
          meets = ap p to ∙ at ∙ sym law.last_at ∙ ap (λ (s : Side). s.0) (sym b_new) ∙ ap p (sym is) ∙ meets_old;
          turns =
              subst (λ (s : Side × ℕ). ComesAfter parted s.0 s.1)
              (λ i. (sym (old-side g) i, (sym far ∙ ap (λ (f : Half). p (twin f)) (sym to)) i))
              (law_of.to_end g shown (ap (side_by old) is ∙ b_side));
        }

    goes-as_before : next old g ≢ a → next old g ≢ b → Goes g
    goes-as_before far away =
        let to = others g shown far away in
        let none : (f : Half) → IsShown whole f → side_by old (next old g) ≡ side_by old f → next old g ≡ f = λ f other same. local.apart (next old g) f (local.inside g shown) other same in
        record {
          inside = subst (IsShown parted) (sym to) (more-old whole parted path more (next old g) (local.inside g shown));
          meets = ap p to ∙ meets_old;
          turns =
              subst (λ (s : Side × ℕ). ComesAfter parted s.0 s.1)
              (λ i. (sym (old-side g) i, (sym (same_origin (twin (next old g))) ∙ ap (λ (f : Half). p (twin f)) (sym to)) i))
              (law_of.stays g shown (λ e. far (none a a_shown (e ∙ sym a_side))) (λ e. away (none b b_shown (e ∙ sym b_side))));
        }

    goes-old : Goes g
    goes-old = elim (cases_half (next old g) a) [
      | inl is ↦ enters-first is
      | inr far ↦ elim (cases_half (next old g) b) [
        | inl is ↦ enters-last is
        | inr away ↦ goes-as_before (other-is_half (next old g) a far) (other-is_half (next old g) b away)
      ]
    ]

  -- ---- Halves of the path

  goes-along : (g : Half) → Contains path g → Goes g
  goes-along g among = elim (path-corner new first rest chain along strung g among) [
    | inl is ↦ subst Goes (sym is) (record {
      inside = subst (IsShown parted) (sym leaves) (more-old whole parted path more b b_shown);
      meets = ap p leaves ∙ ap (λ (s : Side). s.0) b_new ∙ law.last_at ∙ sym (ap (λ (s : Side). s.1) last_side);
      turns =
          subst (λ (s : Side × ℕ). ComesAfter parted s.0 s.1)
          (λ i. (sym last_side i, (sym (ap (λ (s : Side). s.1) b_new) ∙ ap (λ (f : Half). p (twin f)) (sym leaves)) i)) law.from_end;
    })
    | inr it ↦ record {
      inside = own (nn g) (Contains-later first rest (nn g) it.0);
      meets = it.1;
      turns = law.along (corner (p g) (p (twin g)) (beyond new g)) it.2;
    }
  ]

  goes-back : (g : Half) → Contains path g → Goes (twin g)
  goes-back g among = elim (Contains-cases first rest g among) [
    | inl same ↦ subst (λ (f : Half). Goes (twin f)) same (record {
      inside = subst (IsShown parted) (sym comes_back) (more-old whole parted path more a a_shown);
      meets = ap p comes_back ∙ ap (λ (s : Side). s.0) a_new ∙ law.first_at ∙ sym (ap (λ (s : Side). s.0) first_side) ∙ ap p (sym (twin-twin first));
      turns =
          subst (λ (s : Side × ℕ). ComesAfter parted s.0 s.1)
          (λ i. (
            (sym (ap (λ (s : Side). s.1) first_side) i, (sym (ap (λ (s : Side). s.0) first_side) ∙ ap p (sym (twin-twin first))) i),
            (sym (ap (λ (s : Side). s.1) a_new) ∙ ap (λ (f : Half). p (twin f)) (sym comes_back)) i,
          )) law.from_start;
    })
    | inr later ↦
        let before = strung-before nn first rest strung g later in
        let q = before.0 in
        elim (path-corner new first rest chain along strung q before.1) [
          | inl is ↦ let same : b ≡ g = sym leaves ∙ ap nn (sym is) ∙ before.2 in
              absurd (true≢false (sym (is-on_path path g among) ∙ ap (is_of (strings_of path)) (sym same) ∙ more.new b b_shown))
          | inr it ↦ record {
            inside = subst (IsShown parted) (sym before.3) (own q before.1);
            meets = ap p before.3 ∙ sym it.1 ∙ ap p before.2 ∙ ap p (sym (twin-twin g));
            turns =
                subst (λ (c : Corner). Contains (all_corners parted) c)
                (λ i. corner (ap (λ (f : Half). p (twin f)) before.2 i) ((sym it.1 ∙ ap p before.2 ∙ ap p (sym (twin-twin g))) i) ((ap p (sym (twin-twin q)) ∙ ap (λ (f : Half). p (twin f)) (sym before.3)) i))
                (law.back (corner (p q) (p (twin q)) (beyond new q)) it.2);
          }
        ]
  ]

  goes-all : (g : Half) → IsShown parted g → Goes g
  goes-all g shown = elim (more-cases whole parted path more g shown) [
    | inl was ↦ goes-old g was
    | inr on ↦ elim on [
      | inl forth ↦ goes-along g forth
      | inr back ↦ subst Goes (twin-twin g) (goes-back (twin g) back)
    ]
  ]

  pub chain-comes : IsLocal parted new
  chain-comes = record {
    linked = linked;
    there = λ h shown. half-there (bare parted new) ends h shown;
    inside = λ h shown. (goes-all h shown).inside;
    meets = λ h shown. (goes-all h shown).meets;
    corners = λ h shown. (goes-all h shown).turns;
    apart = apart-halves parted new (two-ends parted parts) parts (λ s there. let e = All-at_each (HasHalves new) parted.strings s ends there in (e.from, e.to));
  }

-- ---- It goes

module _ (whole parted : Map) (chain : List ℕ) (long : 2 ≤ length chain) (fc lc : Corner) (law : IsParted whole parted chain fc lc) (parts : HasWholeRings parted)
    (old : HalfRows) (first : Half) (rest : List Half) (more : HasStringsMore whole parted (first ∷ rest)) (local : IsLocal parted old)
    (along : AreAlong old (first ∷ rest) (sides_of_chain chain))
    (first_side : side_by old first ≡ (start_of chain, next_of chain)) (last_side : side_by old (last_of first rest) ≡ (last_but_one chain, end_of chain)) where
  abbrev gone : List Half
  gone = first ∷ rest

  abbrev final : Half
  final = last_of first rest

  abbrev q : Half → ℕ
  q = origin_of old

  tied : GoesOnWhole whole parted old chain fc lc
  tied = goes-on_whole whole parted old local parts chain long fc lc law

  in-parted : (h : Half) → IsShown whole h → IsShown parted h
  in-parted = more-old whole parted gone more

  on-chain : (s : Side) → LeadsAlong (sides_of_chain chain) s → (g : Half) × IsShown parted g × (is_of (strings_of gone) g ≡ true) × (side_by old g ≡ s)
  on-chain = on-path_side whole parted (sides_of_chain chain) old gone more along

  pub off-chain : (h : Half) → IsShown whole h → LeadsAlong (sides_of_chain chain) (side_by old h) → ⊥
  off-chain h shown on =
      let it = on-chain (side_by old h) on in
      let same = local.apart it.0 h it.1 (in-parted h shown) it.3 in
      true≢false (sym it.2 ∙ ap (is_of (strings_of gone)) same ∙ more.new h shown)

  -- a half off the chain is of the first map
  off-shown : (h : Half) → IsShown parted h → (LeadsAlong (sides_of_chain chain) (side_by old h) → ⊥) → IsShown whole h
  off-shown h shown off = elim (more-cases whole parted gone more h shown) [
    | inl was ↦ was
    | inr on ↦ elim on [
      | inl forth ↦
          absurd (off (in_both_ways (sides_of_chain chain) (side_by old h) (subst (λ (l : List Side). Contains l (side_by old h)) along (Contains-map (side_by old) gone h forth))).0)
      | inr back ↦
          let turned : opposite (side_by old (twin h)) ≡ side_by old h = λ i. (q (twin-twin h i), q (twin h)) in
          absurd (off (subst (LeadsAlong (sides_of_chain chain)) turned
          (in_both_ways (sides_of_chain chain) (side_by old (twin h)) (subst (λ (l : List Side). Contains l (side_by old (twin h))) along (Contains-map (side_by old) gone (twin h) back))).1))
    ]
  ]

  twin_first : side_by old (twin first) ≡ (next_of chain, start_of chain)
  twin_first = λ i. ((ap (λ (s : Side). s.1) first_side) i, (ap q (twin-twin first) ∙ ap (λ (s : Side). s.0) first_side) i)

  first_in : IsShown parted first
  first_in = more-new whole parted gone more first (Contains-first first rest)

  final_in : IsShown parted final
  final_in = more-new whole parted gone more final (last-there (next old) first rest)

  -- what follows the path's ends is off the chain
  after-first : side_by old (next old (twin first)) ≡ leaving fc
  after-first =
      (λ i. ((local.meets (twin first) first_in ∙ ap q (twin-twin first) ∙ ap (λ (s : Side). s.0) first_side ∙ sym law.first_at) i, tied.after_start (twin first) first_in twin_first i))

  after-last : side_by old (next old final) ≡ leaving lc
  after-last =
      (λ i. ((local.meets final final_in ∙ ap (λ (s : Side). s.1) last_side ∙ sym law.last_at) i, tied.after_end final final_in last_side i))

  module _ (new : HalfRows) (linked : IsLinked new) (there : (h : Half) → IsShown whole h → has new h ≡ true) (same_origin : (g : Half) → origin_of new g ≡ origin_of old g)
      (enters : (g : Half) → IsShown whole g → next old g ≡ first → next new g ≡ next old (twin first)) (returns : (g : Half) → IsShown whole g → next old g ≡ twin final → next new g ≡ next old final)
      (others : (g : Half) → IsShown whole g → next old g ≢ first → next old g ≢ twin final → next new g ≡ next old g) where
    new-side : (g : Half) → side_by new g ≡ side_by old g
    new-side g = λ i. (same_origin g i, same_origin (twin g) i)

    record Back (g : Half) : Type 0 where
      pub inside : IsShown whole (next new g)
      pub meets : origin_of new (next new g) ≡ origin_of new (twin g)
      pub turns : ComesAfter whole (side_by new g) (beyond new g)

    module _ (g : Half) (shown : IsShown whole g) where
      goes-to : (k : Half) → next new g ≡ k → IsShown whole k → q k ≡ q (twin g) → ComesAfter whole (side_by old g) (q (twin k)) → Back g
      goes-to k is in_whole at turns = record {
        inside = subst (IsShown whole) (sym is) in_whole;
        meets = same_origin (next new g) ∙ ap q is ∙ at ∙ sym (same_origin (twin g));
        turns =
            subst (λ (s : Side × ℕ). ComesAfter whole s.0 s.1)
            (λ i. (sym (new-side g) i, (sym (same_origin (twin k)) ∙ ap (λ (f : Half). origin_of new (twin f)) (sym is)) i)) turns;
      }

      back-first : next old g ≡ first → Back g
      back-first is =
          let k = next old (twin first) in
          goes-to k (enters g shown is) (off-shown k (local.inside (twin first) first_in) (λ on. law.free fc law.first_there (inr (subst (λ (s : Side). LeadsAlong (sides_of_chain chain) s) after-first on))))
          (local.meets (twin first) first_in ∙ ap q (twin-twin first) ∙ ap q (sym is) ∙ local.meets g (in-parted g shown))
          (subst (λ (w : ℕ). ComesAfter whole (side_by old g) w) (sym (ap (λ (s : Side). s.1) after-first)) (tied.to_start g (in-parted g shown) (ap (side_by old) is ∙ first_side)))

      back-last : next old g ≡ twin final → Back g
      back-last is =
          let k = next old final in
          let turned : side_by old (twin final) ≡ (end_of chain, last_but_one chain) = λ i. ((ap (λ (s : Side). s.1) last_side) i, (ap q (twin-twin final) ∙ ap (λ (s : Side). s.0) last_side) i) in
          goes-to k (returns g shown is) (off-shown k (local.inside final final_in) (λ on. law.free lc law.last_there (inr (subst (λ (s : Side). LeadsAlong (sides_of_chain chain) s) after-last on))))
          (local.meets final final_in ∙ ap q (sym is) ∙ local.meets g (in-parted g shown))
          (subst (λ (w : ℕ). ComesAfter whole (side_by old g) w) (sym (ap (λ (s : Side). s.1) after-last)) (tied.to_end g (in-parted g shown) (ap (side_by old) is ∙ turned)))

      off-next : next old g ≢ first → next old g ≢ twin final → LeadsAlong (sides_of_chain chain) (side_by old (next old g)) → ⊥
      off-next far away on = elim (tied.enters g (in-parted g shown) (off-chain g shown) on) [
        | inl is ↦ far (local.apart (next old g) first (local.inside g (in-parted g shown)) first_in (is ∙ sym first_side))
        | inr is ↦
            let turned : side_by old (twin final) ≡ (end_of chain, last_but_one chain) = λ i. ((ap (λ (s : Side). s.1) last_side) i, (ap q (twin-twin final) ∙ ap (λ (s : Side). s.0) last_side) i) in
            away (local.apart (next old g) (twin final) (local.inside g (in-parted g shown)) final_in (is ∙ sym turned))
      ]

      back-other : next old g ≢ first → next old g ≢ twin final → Back g
      back-other far away =
          goes-to (next old g) (others g shown far away) (off-shown (next old g) (local.inside g (in-parted g shown)) (off-next far away)) (local.meets g (in-parted g shown))
          (tied.stays g (in-parted g shown) (off-chain g shown) (off-next far away))

      goes-on : Back g
      goes-on = elim (cases_half (next old g) first) [
        | inl is ↦ back-first is
        | inr far ↦ elim (cases_half (next old g) (twin final)) [
          | inl is ↦ back-last is
          | inr away ↦ back-other (other-is_half (next old g) first far) (other-is_half (next old g) (twin final) away)
        ]
      ]

    pub chain-goes : IsLocal whole new
    chain-goes = record {
      linked = linked;
      there = there;
      inside = λ h shown. (goes-on h shown).inside;
      meets = λ h shown. (goes-on h shown).meets;
      corners = λ h shown. (goes-on h shown).turns;
      apart = λ g h one two same. local.apart g h (in-parted g one) (in-parted h two) (sym (new-side g) ∙ same ∙ new-side h);
    }
