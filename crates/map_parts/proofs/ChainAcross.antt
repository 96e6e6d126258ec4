-- A path of half-edges along a chain: where it begins and ends, and what a table that goes with
-- both maps leads to and from it.
use Rattle.std.proofs.Common.{◌≡◌, ◌≢◌, ◌⊎◌, ℕ, ◌≤◌, ◌<◌, zero, suc, slice_get, Some, Bool, true, false, List, [], ◌∷◌, ◌++◌, map, length, refl, sym, ap, ◌∙◌, subst, inl, inr, arith}
use Rattle.std.specs.List.{Contains}
use Rattle.std.proofs.lemmas.List.{reverse-append}
use Rattle.std.proofs.lemmas.Option.{same_Some}
use Rattle.cad_rows.specs.declared.rows.StringRow.{StringRow}
use Rattle.cad_rows.specs.declared.names.Face.{Face}
use Rattle.cad_rings.specs.Cycle.{Side, Corner}
use Rattle.cad_rings.specs.Surgery.{both_ways, sides_of_chain}
use Rattle.cad_map.specs.Chain.{start_of, next_of, end_of, last_but_one, leaving}
use Rattle.cad_map.specs.Map.{Map, side_of}
use Rattle.cad_map.specs.Rings.{HasWholeRings}
use Rattle.cad_map.proofs.CallerLemmas.{Contains-first, Contains-map, All-from_each, in_both_ways}
use Rattle.half_table.specs.declared.half.Half.{Half}
use Rattle.half_table.specs.Half.{twin}
use Rattle.half_table.specs.Rows.{HalfRows, has, next, origin_of}
use Rattle.half_table.proofs.Halves.{twin-twin}
use Rattle.half_paths.specs.Path.{strings_of, last_of, AreElsewhere}
use Rattle.half_paths.specs.Loose.{is_of}
use Rattle.half_paths.specs.Strung.{IsStrung}
use Rattle.cad_laws.specs.Local.{IsShown, side_by, IsLocal}
use Rattle.cad_laws.specs.Parting.{IsParted}
use Rattle.cad_laws.specs.Tables.{GoesOnWhole}
use Rattle.cad_laws.proofs.CallerLemmas.{goes-on_whole}
use Rattle.map_parts.specs.FaceChanges.{HasChainMore, IsPlaceFor, IsTied}
use Rattle.map_parts.specs.Labels.{IsAlong}
use Rattle.map_parts.specs.Paths.{AreAlong, HasStringsMore}
use Rattle.map_parts.proofs.AlongPaths.{on-path, elsewhere-of, chain-strung, first-of, tail-of, last-there}
use Rattle.map_parts.proofs.IslandTable.{more-new, more-away}

-- ---- The first side of a chain, and the last

pub two-last : (chain : List ℕ) → 2 ≤ length chain → (xs : List ℕ) × (c : ℕ) × (d : ℕ) × (chain ≡ xs ++ c ∷ d ∷ [])
two-last [] long = absurd (omega (arith, long))
two-last (a ∷ []) long = absurd (omega (arith, long))
two-last (a ∷ b ∷ []) long = ([], a, b, refl)
two-last (a ∷ b ∷ e ∷ points) long = let it = two-last (b ∷ e ∷ points) (omega arith) in (a ∷ it.0, it.1, it.2, ap (λ (l : List ℕ). a ∷ l) it.3)

pub ends-last : (xs : List ℕ) (c d : ℕ) → (last_but_one (xs ++ c ∷ d ∷ []) ≡ c) × (end_of (xs ++ c ∷ d ∷ []) ≡ d)
ends-last xs c d = let e = reverse-append xs (c ∷ d ∷ []) in (ap next_of e, ap start_of e)

some-sides : (b : ℕ) (xs : List ℕ) (c d : ℕ) → [] ≡ sides_of_chain (b ∷ xs ++ c ∷ d ∷ []) → ⊥
some-sides b [] c d e = cc
some-sides b (x ∷ xs) c d e = cc

module _ (f : Half → Side) where
  pub first-along : (h : Half) (hs : List Half) (chain : List ℕ) → 2 ≤ length chain → map f (h ∷ hs) ≡ sides_of_chain chain → f h ≡ (start_of chain, next_of chain)
  first-along h hs [] long e = absurd (omega (arith, long))
  first-along h hs (a ∷ []) long e = absurd (omega (arith, long))
  first-along h hs (a ∷ b ∷ points) long e = first-of e

  last-pair : (h : Half) (hs : List Half) (xs : List ℕ) (c d : ℕ) → map f (h ∷ hs) ≡ sides_of_chain (xs ++ c ∷ d ∷ []) → f (last_of h hs) ≡ (c, d)
  last-pair h [] [] c d e = first-of e
  last-pair h (k ∷ hs) [] c d e = let none : f k ∷ map f hs ≡ [] = tail-of e in cc
  last-pair h [] (a ∷ []) c d e = let none : [] ≡ (c, d) ∷ [] = tail-of e in cc
  last-pair h [] (a ∷ b ∷ xs) c d e = absurd (some-sides b xs c d (tail-of e))
  last-pair h (k ∷ hs) (a ∷ []) c d e = last-pair k hs [] c d (tail-of e)
  last-pair h (k ∷ hs) (a ∷ b ∷ xs) c d e = last-pair k hs (b ∷ xs) c d (tail-of e)

  pub last-along : (h : Half) (hs : List Half) (chain : List ℕ) → 2 ≤ length chain → map f (h ∷ hs) ≡ sides_of_chain chain → f (last_of h hs) ≡ (last_but_one chain, end_of chain)
  last-along h hs chain long e =
      let it = two-last chain long in
      let at = ends-last it.0 it.1 it.2 in
      last-pair h hs it.0 it.1 it.2 (e ∙ ap sides_of_chain it.3)
      ∙ (λ i. ((sym at.0 ∙ ap last_but_one (sym it.3)) i, (sym at.1 ∙ ap end_of (sym it.3)) i))

-- strings along a chain are at least one, and the last ends at the chain's end
pub last-string : (added : List StringRow) (chain : List ℕ) → 2 ≤ length chain → map side_of added ≡ sides_of_chain chain
    → (0 < length added) × ((n : ℕ) → suc n ≡ length added → (s : StringRow) → slice_get added n ≡ Some s → s.to ≡ end_of chain)
last-string added chain long sides = by (two-last chain long) added sides
  where
    later : (s t : StringRow) (ss : List StringRow) (d : ℕ) → ((n : ℕ) → suc n ≡ length (t ∷ ss) → (r : StringRow) → slice_get (t ∷ ss) n ≡ Some r → r.to ≡ d)
        → (n : ℕ) → suc n ≡ length (s ∷ t ∷ ss) → (r : StringRow) → slice_get (s ∷ t ∷ ss) n ≡ Some r → r.to ≡ d
    later s t ss d rest zero e r at = absurd (omega (arith, e))
    later s t ss d rest (suc n) e r at = rest n (omega (arith, e)) r at

    only : (s : StringRow) (d : ℕ) → s.to ≡ d → (n : ℕ) → suc n ≡ 1 → (r : StringRow) → slice_get (s ∷ []) n ≡ Some r → r.to ≡ d
    only s d is zero e r at = ap (λ (q : StringRow). q.to) (sym (same_Some s r at)) ∙ is
    only s d is (suc n) e r at = absurd (omega (arith, e))

    first-end : (xs : List ℕ) (c d : ℕ) (ss : List StringRow) → map side_of ss ≡ sides_of_chain (xs ++ c ∷ d ∷ [])
        → (0 < length ss) × ((n : ℕ) → suc n ≡ length ss → (s : StringRow) → slice_get ss n ≡ Some s → s.to ≡ d)
    first-end [] c d [] e = cc
    first-end [] c d (s ∷ []) e = (omega arith, only s d (ap (λ (x : Side). x.1) (first-of e)))
    first-end [] c d (s ∷ t ∷ ss) e = let none : side_of t ∷ map side_of ss ≡ [] = tail-of e in cc
    first-end (a ∷ []) c d [] e = cc
    first-end (a ∷ []) c d (s ∷ []) e = let none : [] ≡ (c, d) ∷ [] = tail-of e in cc
    first-end (a ∷ []) c d (s ∷ t ∷ ss) e = let it = first-end [] c d (t ∷ ss) (tail-of e) in (omega arith, later s t ss d it.1)
    first-end (a ∷ b ∷ xs) c d [] e = cc
    first-end (a ∷ b ∷ xs) c d (s ∷ []) e = absurd (some-sides b xs c d (tail-of e))
    first-end (a ∷ b ∷ xs) c d (s ∷ t ∷ ss) e = let it = first-end (b ∷ xs) c d (t ∷ ss) (tail-of e) in (omega arith, later s t ss d it.1)

    by : (xs : List ℕ) × (c : ℕ) × (d : ℕ) × (chain ≡ xs ++ c ∷ d ∷ []) → (ss : List StringRow) → map side_of ss ≡ sides_of_chain chain
        → (0 < length ss) × ((n : ℕ) → suc n ≡ length ss → (s : StringRow) → slice_get ss n ≡ Some s → s.to ≡ end_of chain)
    by it ss e =
        let found = first-end it.0 it.1 it.2 ss (e ∙ ap sides_of_chain it.3) in
        (found.0, λ n long s at. found.1 n long s at ∙ sym ((ends-last it.0 it.1 it.2).1) ∙ ap end_of (sym it.3))

-- ---- Where it comes

-- a place in a table is one in another with the same halves
pub place-kept : (old new : HalfRows) → ((h : Half) → has new h ≡ has old h) → {path : List Half} {start end : Half} → IsPlaceFor path start end old → IsPlaceFor path start end new
place-kept old new same {start = start} {end = end} it = record {
  start_in = same start ∙ it.start_in;
  end_in = same end ∙ it.end_in;
  start_away = it.start_away;
  end_away = it.end_away;
  differ = it.differ;
}

-- a path that is tied in a table is tied in another where the same halves follow
pub tied-kept : (old new : HalfRows) → ((h : Half) → next new h ≡ next old h) → {first : Half} {rest : List Half} → IsTied first rest old → IsTied first rest new
tied-kept old new same {first} {rest} it = record {
  strung = subst (λ (n : Half → Half). IsStrung n first rest) (λ i h. sym (same h) i) it.strung;
  on_away = subst (λ (h : Half). AreElsewhere h (first ∷ rest)) (sym (same (last_of first rest))) it.on_away;
  back_away = subst (λ (h : Half). AreElsewhere h (first ∷ rest)) (sym (same (twin first))) it.back_away;
}

module _ (whole parted : Map) (path : List Half) (more : HasStringsMore whole parted path) (rows : HalfRows) (chain : List ℕ) (fc lc : Corner) (law : IsParted whole parted chain fc lc)
    (apart : start_of chain ≢ end_of chain) (start end : Half) (start_on : IsAlong whole rows (leaving fc) start) (end_on : IsAlong whole rows (leaving lc) end) where
  chain-place : IsPlaceFor path start end rows
  chain-place = record {
    start_in = start_on.there;
    end_in = end_on.there;
    start_away = more-away whole parted path more start start_on.shown;
    end_away = more-away whole parted path more end end_on.shown;
    differ = λ same.
        let sides : leaving fc ≡ leaving lc = sym start_on.side ∙ ap (side_by rows) same ∙ end_on.side in
        apart (sym law.first_at ∙ ap (λ (s : Side). s.0) sides ∙ law.last_at);
  }

-- ---- Where it goes

module _ (whole parted : Map) (parts : HasWholeRings parted) (chain : List ℕ) (long : 2 ≤ length chain) (fc lc : Corner) (law : IsParted whole parted chain fc lc)
    (first : Half) (rest : List Half) (more : HasStringsMore whole parted (first ∷ rest)) (rows : HalfRows) (local : IsLocal parted rows)
    (along : AreAlong rows (first ∷ rest) (sides_of_chain chain)) where
  abbrev path : List Half
  path = first ∷ rest

  abbrev last : Half
  last = last_of first rest

  first_side : side_by rows first ≡ (start_of chain, next_of chain)
  first_side = first-along (side_by rows) first rest chain long along

  last_side : side_by rows last ≡ (last_but_one chain, end_of chain)
  last_side = last-along (side_by rows) first rest chain long along

  tied : GoesOnWhole whole parted rows chain fc lc
  tied = goes-on_whole whole parted rows local parts chain long fc lc law

  own : (h : Half) → Contains path h → IsShown parted h
  own = more-new whole parted path more

  path-strung : IsStrung (next rows) first rest
  path-strung = chain-strung parted parts rows local first rest chain along (All-from_each (IsShown parted) path own) law.along law.back

  chained : (h : Half) → is_of (strings_of path) h ≡ true → Contains (both_ways (sides_of_chain chain)) (side_by rows h)
  chained h on = elim (on-path path h on) [
    | inl forth ↦ (in_both_ways (sides_of_chain chain) (side_by rows h) (there h forth)).0
    | inr back ↦
        subst (Contains (both_ways (sides_of_chain chain))) (λ i. (origin_of rows (twin-twin h i), origin_of rows (twin h)))
        (in_both_ways (sides_of_chain chain) (side_by rows (twin h)) (there (twin h) back)).1
  ]
    where
      there : (g : Half) → Contains path g → Contains (sides_of_chain chain) (side_by rows g)
      there g among = subst (λ (l : List Side). Contains l (side_by rows g)) along (Contains-map (side_by rows) path g among)

  -- a half along the side that leaves a corner of the first map isn't of the path
  leaves-away : (c : Corner) → ((Contains (both_ways (sides_of_chain chain)) (c.before, c.at) ⊎ Contains (both_ways (sides_of_chain chain)) (c.at, c.after)) → ⊥)
      → (h : Half) → side_by rows h ≡ (c.at, c.after) → AreElsewhere h path
  leaves-away c free h is = by (is_of (strings_of path) h) refl
    where
      by : (t : Bool) → is_of (strings_of path) h ≡ t → AreElsewhere h path
      by false away = elsewhere-of path h away
      by true on = absurd (free (inr (subst (Contains (both_ways (sides_of_chain chain))) is (chained h on))))

  pub last-leaves : side_by rows (next rows last) ≡ leaving lc
  last-leaves =
      let shown = own last (last-there (next rows) first rest) in
      λ i. ((local.meets last shown ∙ ap (λ (s : Side). s.1) last_side ∙ sym law.last_at) i, tied.after_end last shown last_side i)

  pub first-leaves : side_by rows (next rows (twin first)) ≡ leaving fc
  first-leaves =
      let shown = own first (Contains-first first rest) in
      let turned : side_by rows (twin first) ≡ (next_of chain, start_of chain) = λ i. ((first_side i).1, (ap (origin_of rows) (twin-twin first) ∙ ap (λ (s : Side). s.0) first_side) i) in
      λ i. ((local.meets (twin first) shown ∙ ap (λ (s : Side). s.1) turned ∙ sym law.first_at) i, tied.after_start (twin first) shown turned i)

  on-away : AreElsewhere (next rows last) path
  on-away = leaves-away lc (law.free lc law.last_there) (next rows last) last-leaves

  chain-tied : IsTied first rest rows
  chain-tied = record {
    strung = path-strung;
    on_away = on-away;
    back_away = leaves-away fc (law.free fc law.first_there) (next rows (twin first)) first-leaves;
  }

-- ---- Of a map that has a chain more

module _ {whole parted : Map} {outer inner : Face} {first : Half} {rest moved : List Half} {rows : HalfRows} (its : HasChainMore whole parted outer inner (first ∷ rest) moved rows) where
  pub place-across : start_of its.chain ≢ end_of its.chain → {start end : Half} → IsAlong whole rows (leaving its.first_corner) start → IsAlong whole rows (leaving its.last_corner) end
      → IsPlaceFor (first ∷ rest) start end rows
  place-across apart {start} {end} start_on end_on =
      chain-place whole parted (first ∷ rest) its.more rows its.chain its.first_corner its.last_corner its.is.corners apart start end start_on end_on

  pub tied-across : IsLocal parted rows → IsTied first rest rows
  tied-across local = chain-tied whole parted its.parts its.chain its.long its.first_corner its.last_corner its.is.corners first rest its.more rows local its.along
