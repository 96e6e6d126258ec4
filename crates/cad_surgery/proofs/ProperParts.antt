-- Parts that stand for a map with whole rings, and have no other halves, are proper for it.
use Rattle.std.proofs.Common.{◌≡◌, ◌+◌, ◌≤◌, Bool, true, false, List, [], ◌∷◌, map, refl, sym, ap, ◌∙◌, subst, arith, cond}
use Rattle.std.specs.Prelude.{IsPermutation, count_by, filter}
use Rattle.std.specs.List.{Contains}
use Rattle.std.proofs.lemmas.List.Sums.{sum_by-append}
use Rattle.std.proofs.lemmas.List.Sorted.{IsPermutation-map}
use Rattle.cad_rows.specs.declared.names.Face.{Face}
use Rattle.cad_rings.specs.Cycle.{Ring, Side, is_side, sides_of}
use Rattle.cad_rings.specs.Canonical.{least_rotation}
use Rattle.cad_map.specs.declared.boundary.Boundary.{Boundary}
use Rattle.cad_map.specs.Boundaries.{is_face, canonical_order, sides_in, canonical_form}
use Rattle.cad_map.specs.Map.{faces, has_string, rings_at, all_sides}
use Rattle.cad_map.specs.Rings.{HasWholeRings}
use Rattle.cad_map.proofs.CallerLemmas.{Contains-first, Contains-later, All-at_each, count-some, count-map, count-yes, count-no, count-part, IsPermutation-canonical_order, sides_in-canonical_order, is_side-refl, once-from_pairs, Contains-in_part, list_any-Contains, map-Contains, canonical_order-filter}
use Rattle.half_table.specs.declared.half.Half.{Half}
use Rattle.half_table.specs.Cycle.{holds}
use Rattle.half_table.specs.Rows.{HalfRows, has, next, origin_of, face, cycle}
use Rattle.half_table.proofs.Halves.{is_half-self}
use Rattle.cad_laws.specs.Local.{IsShown, side_by}
use Rattle.map_parts.specs.KeptRings.{kept_ring}
use Rattle.map_parts.specs.Parts.{Parts, FitTogether, HasHalves, rows_of, map_of, in_face, kept_at, kept_halves, rings_kept}
use Rattle.cad_surgery.specs.Proper.{IsProper}
use Rattle.map_parts.proofs.Labels.{any-there}
use Rattle.map_parts.proofs.PartsRings.{in_table, side-there}
use Rattle.cad_surgery.proofs.PartsFaces.{rings-face, in_kept}
use Rattle.std.proofs.lemmas.List.Sorted.{sum_by-IsPermutation}
use Rattle.half_table.specs.Half.{is_half}
use Rattle.map_parts.proofs.CycleRings.{map-map, cycle-next}

-- the rings of a face in canonical order
rings-canonical_at : (f : Face) (bs : List Boundary) → IsPermutation (map least_rotation (rings_at f bs)) (rings_at f (canonical_order bs))
rings-canonical_at f bs =
    let own = λ (b : Boundary). is_face f b.face in
    let ring = λ (b : Boundary). b.ring in
    let mine = filter own bs in
    subst (λ (l : List Ring). IsPermutation l (rings_at f (canonical_order bs)))
    (map-map ring canonical_form mine ∙ sym (map-map least_rotation ring mine))
    (subst (IsPermutation (map ring (map canonical_form mine))) (ap (map ring) (canonical_order-filter own (λ b. refl) bs))
    (IsPermutation-map ring (map canonical_form mine) (canonical_order mine) (IsPermutation-canonical_order mine)))

module _ (d : Parts) (fit : FitTogether d) (whole : HasWholeRings (map_of d)) (alone : (h : Half) → has d.table.rows h ≡ has_string (rows_of d) h.string) where
  abbrev rows : HalfRows
  rows = d.table.rows

  shown-half : (h : Half) → has rows h ≡ true → IsShown (rows_of d) h
  shown-half h there = sym (alone h) ∙ there

  same-face : (h : Half) → has rows h ≡ true → face rows (next rows h) ≡ face rows h
  same-face h there =
      let home = fit.homes h (shown-half h there) in
      let k = home.kept in
      let on = cycle-next rows fit.linked k.1 (in_table d fit k.1 (fit.shown k home.there)) h home.on in
      fit.faces k home.there (next rows h) on ∙ sym (fit.faces k home.there h home.on)

  kept-in : (f : Face) (h : Half) → Contains (kept_at d f) h → (has rows h ≡ true) × (face rows h ≡ f)
  kept-in f h among =
      let kept = in_kept d fit f h among in
      (in_table d fit h (fit.shown (f, h) kept), fit.faces (f, h) kept h (Contains-first h _))

  -- ---- One kept half for each half

  module _ (h : Half) (there : has rows h ≡ true) where
    abbrev s : Side
    s = side_by rows h

    abbrev has_it : Half → Bool
    has_it k = holds (cycle rows k) h

    -- one that is kept for its face has the half on its cycle
    record IsKeptFor (f : Face) : Type 0 where
      half : Half
      known : Contains (faces (rows_of d)) f
      among : Contains (kept_at d f) half
      on : Contains (cycle rows half) h

    kept-for : IsKeptFor (face rows h)
    kept-for =
        let home = fit.homes h (shown-half h there) in
        let part = Contains-in_part (in_face d) (faces (rows_of d)) home.kept home.there in
        let one = map-Contains (λ (k : Half). (part.0, k)) (kept_at d part.0) home.kept part.2 in
        let is : face rows h ≡ part.0 = fit.faces home.kept home.there h home.on ∙ sym (ap (λ (k : Face × Half). k.0) one.2) in
        subst IsKeptFor (sym is) (record {
          half = one.0;
          known = part.1;
          among = one.1;
          on = subst (λ (k : Half). Contains (cycle rows k) h) (sym (ap (λ (k : Face × Half). k.1) one.2)) home.on;
        })

    -- no more than its side stands in the rings
    few : (ks : List (Face × Half)) → ((k : Face × Half) → Contains ks k → Contains (kept_halves d) k)
        → count_by (λ (k : Face × Half). has_it k.1) ks ≤ count_by (is_side s) (sides_in (map (kept_ring rows) ks))
    few [] sub = omega arith
    few (k ∷ ks) sub = by (has_it k.1) refl (few ks (λ j later. sub j (Contains-later k ks j later)))
      where
        ring : Ring
        ring = map (origin_of rows) (cycle rows k.1)

        split : count_by (is_side s) (sides_in (map (kept_ring rows) (k ∷ ks))) ≡ count_by (is_side s) (sides_of ring) + count_by (is_side s) (sides_in (map (kept_ring rows) ks))
        split = sum_by-append (λ (t : Side). cond (is_side s t) 1 0) (sides_of ring) (sides_in (map (kept_ring rows) ks))

        by : (t : Bool) → has_it k.1 ≡ t → count_by (λ (k : Face × Half). has_it k.1) ks ≤ count_by (is_side s) (sides_in (map (kept_ring rows) ks))
            → count_by (λ (k : Face × Half). has_it k.1) (k ∷ ks) ≤ count_by (is_side s) (sides_in (map (kept_ring rows) (k ∷ ks)))
        by true is rest =
            let more = count-yes (λ (k : Face × Half). has_it k.1) k ks is in
            let on = any-there h (cycle rows k.1) is in
            let one = count-some (is_side s) (sides_of ring) s (side-there d fit k (sub k (Contains-first k ks)) h on) (is_side-refl s) in
            omega (arith, more, split, one, rest)
        by false is rest =
            let same = count-no (λ (k : Face × Half). has_it k.1) k ks is in
            omega (arith, same, split, rest)

    kept-once : count_by has_it (kept_at d (face rows h)) ≡ 1
    kept-once =
        let f = face rows h in
        let it = kept-for in
        let some = count-some has_it (kept_at d f) it.half it.among (list_any-Contains (is_half h) (cycle rows it.half) h it.on (is_half-self h)) in
        let mine = count-map (λ (k : Half). (f, k)) (λ (k : Face × Half). has_it k.1) (kept_at d f) in
        let part = count-part (λ (k : Face × Half). has_it k.1) (in_face d) (faces (rows_of d)) f it.known in
        let all = few (kept_halves d) (λ k among. among) in
        let same = sum_by-IsPermutation (λ (t : Side). cond (is_side s t) 1 0) (sides_in (rings_kept d)) (sides_in (canonical_order (rings_kept d))) (sides_in-canonical_order (rings_kept d)) in
        let once = once-from_pairs (all_sides (map_of d)) whole.once s in
        omega (arith, some, mine, part, all, same, once)

  -- ---- All together

  pub proper : IsProper (map_of d) rows (kept_at d)
  proper = record {
    halves = alone;
    prev_next = fit.linked.prev_next;
    next_prev = fit.linked.next_prev;
    ends = λ t among. let e = All-at_each (HasHalves rows) d.strings t fit.ends among in (e.from, e.to);
    meets = λ h there. fit.meets h (shown-half h there);
    one_face = same-face;
    in_face = kept-in;
    one_kept = λ f h there is. subst (λ (g : Face). count_by (λ k. holds (cycle rows k) h) (kept_at d g) ≡ 1) is (kept-once h there);
    rings = λ f.
        subst (λ (l : List Ring). IsPermutation l (rings_at f (canonical_order (rings_kept d))))
        (ap (map least_rotation) (rings-face d fit f) ∙ map-map least_rotation (λ (h : Half). map (origin_of rows) (cycle rows h)) (kept_at d f))
        (rings-canonical_at f (rings_kept d));
  }
