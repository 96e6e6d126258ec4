-- What stands where an edit touched nothing, from what becomes of rows, corners and rings.
use Rattle.std.proofs.Common.{◌≡◌, ℕ, ◌⊎◌, inl, inr, refl, sym, ap, subst, ◌∙◌, List, ◌++◌, map, filter, Bool, true, false, ◌==◌}
use Rattle.std.proofs.lemmas.Bool.{eqb-true}
use Rattle.std.proofs.lemmas.List.Elements.{Contains-append_cases}
use Rattle.std.specs.Prelude.{IsTrue, IfSome, ◌↔◌}
use Rattle.std.specs.List.{AllByRecursion, Contains}
use Rattle.cad_rows.specs.declared.names.Face.{Face}
use Rattle.cad_rows.specs.declared.rows.StringRow.{StringRow}
use Rattle.cad_rings.specs.Cycle.{Ring, Corner}
use Rattle.cad_map.specs.Boundaries.{bounding}
use Rattle.cad_map.specs.Map.{Map, has_point, has_face, position_of, is_end, far_end, strings_at, rings_of, all_corners}
use Rattle.cad_map.specs.Touched.{Touched, neighbours, PointStands, StringStands, FaceStands, ComesByMove, ComesBySplit, ComesByJoin, IsTouched}
use Rattle.cad_map.specs.Valid.{HasSoundRows}
use Rattle.cad_map.proofs.CallerLemmas.{All-at_each, All-from_each, Contains-filter, filter-Contains, ends, ring-there}
use Rattle.cad_laws.specs.Parting.{HasCorner}
use Rattle.cad_laws.proofs.Elsewhere.{has-or_not, picked-elsewhere}

module _ (old new : Map) (t : Touched) (sound : HasSoundRows old) where
  -- Points that are so are where they were. Each point of the new map is touched, or such a one.
  pub record KeepsPoints (Ok : ℕ → Type 0) : Type 0 where
    pub position : (q : ℕ) → IsTrue (has_point old q) → Ok q → position_of new q ≡ position_of old q
    pub points : (q : ℕ) → IsTrue (has_point new q)
        → Contains t.points q ⊎ (IsTrue (has_point old q) × Ok q)

  -- Some strings go and some come, all at touched points, and each that comes is touched.
  pub record KeepsStrings (Ok : ℕ → Type 0) : Type 0 where
    pub stays : StringRow → Bool
    pub added : List StringRow
    pub strings : new.strings ≡ filter stays old.strings ++ added
    pub kept : (s : StringRow) → Contains old.strings s → stays s ≡ true
        → Contains t.strings s.number ⊎ (Ok s.from × Ok s.to)
    pub went : (s : StringRow) → Contains old.strings s → stays s ≡ false → (q : ℕ)
        → is_end s q ≡ true → IsTrue (has_point new q) → Contains t.points q
    pub came : (s : StringRow) → Contains added s
        → Contains t.strings s.number × Contains t.points s.from × Contains t.points s.to

  -- at a point that isn't touched the corners are the same
  abbrev pub KeepsCorners : Type 0
  KeepsCorners = (q : ℕ) → IsTrue (has_point new q) → (¬ Contains t.points q) → (c : Corner)
      → c.at ≡ q → HasCorner new c ↔ HasCorner old c

  -- a face that isn't touched was there, with the same rings, through such points
  pub record KeepsFace (Ok : ℕ → Type 0) (f : Face) : Type 0 where
    pub there : IsTrue (has_face old f)
    pub rings : rings_of new f ≡ rings_of old f
    pub points : (r : Ring) → Contains old.boundaries (bounding f r) → (q : ℕ) → Contains r q → Ok q

  module _ (Ok : ℕ → Type 0) (on_points : KeepsPoints Ok) (on_strings : KeepsStrings Ok)
      (on_corners : KeepsCorners)
      (on_faces : (f : Face) → IsTrue (has_face new f) → Contains t.faces f ⊎ KeepsFace Ok f)
      (on_move : IfSome t.moved (λ v. ComesByMove old new v ⊎ ComesBySplit old new v))
      (on_join : IfSome t.joined (ComesByJoin old new)) where
    same-strings : (q : ℕ) → IsTrue (has_point new q) → (¬ Contains t.points q)
        → strings_at new q ≡ strings_at old q
    same-strings q known off =
        ap (filter (λ (s : StringRow). is_end s q)) on_strings.strings
        ∙ picked-elsewhere (λ (s : StringRow). is_end s q) on_strings.stays old.strings
        on_strings.added (λ s h is. stays-on s h is (on_strings.stays s) refl)
        (λ s h. none-came s h (is_end s q) refl)
      where
        stays-on : (s : StringRow) → Contains old.strings s → is_end s q ≡ true → (b : Bool)
            → on_strings.stays s ≡ b → on_strings.stays s ≡ true
        stays-on s h is true e = e
        stays-on s h is false e = absurd (off (on_strings.went s h e q is known))

        none-came : (s : StringRow) → Contains on_strings.added s → (b : Bool)
            → is_end s q ≡ b → is_end s q ≡ false
        none-came s h true is =
            let k = on_strings.came s h in
            absurd (off (elim (ends s q is) [
              | inl e ↦ subst (Contains t.points) e.0 k.1
              | inr e ↦ subst (Contains t.points) e.0 k.2
            ]))
        none-came s h false is = is

    point-stands : (q : ℕ) → IsTrue (has_point new q) → IsTrue (has_point old q) → Ok q
        → (¬ Contains t.points q) → PointStands old new q
    point-stands q known there ok off =
        let same : neighbours new q ≡ neighbours old q =
        ap (map (λ (s : StringRow). far_end s q)) (same-strings q known off) in
        record {
          there = there;
          position = on_points.position q there ok;
          strings = λ p. (
            subst (λ (l : List ℕ). Contains l p) same,
            subst (λ (l : List ℕ). Contains l p) (sym same),
          );
          corners = λ c. (
            λ h.
                let k = filter-Contains (λ c. c.at == q) (all_corners new) c h in
                Contains-filter (λ c. c.at == q) (all_corners old) c
                ((on_corners q known off c (eqb-true c.at q k.1)).0 k.0) k.1,
            λ h.
                let k = filter-Contains (λ c. c.at == q) (all_corners old) c h in
                Contains-filter (λ c. c.at == q) (all_corners new) c
                ((on_corners q known off c (eqb-true c.at q k.1)).1 k.0) k.1,
          );
        }

    string-stands : (s : StringRow) → Contains new.strings s
        → Contains t.strings s.number ⊎ StringStands old new s
    string-stands s h =
        elim (Contains-append_cases (filter on_strings.stays old.strings) on_strings.added s
        (subst (λ (l : List StringRow). Contains l s) on_strings.strings h)) [
          | inl k ↦ stood (filter-Contains on_strings.stays old.strings s k)
          | inr k ↦ inl (on_strings.came s k).0
        ]
      where
        stood : Contains old.strings s × (on_strings.stays s ≡ true)
            → Contains t.strings s.number ⊎ StringStands old new s
        stood k = elim (on_strings.kept s k.0 k.1) [
          | inl named ↦ inl named
          | inr ok ↦
              let ends =
              All-at_each (λ (r : StringRow).
              IsTrue (has_point old r.from) × IsTrue (has_point old r.to))
              old.strings s sound.ends k.0 in
              inr (record {
                before = s;
                there = k.0;
                number = refl;
                from = refl;
                to = refl;
                from_position = on_points.position s.from ends.0 ok.0;
                to_position = on_points.position s.to ends.1 ok.1;
              })
        ]

    face-stands : (f : Face) → KeepsFace Ok f → FaceStands old new f
    face-stands f k = record {
      there = k.there;
      rings = k.rings;
      positions =
          All-from_each (λ r. AllByRecursion (λ q. position_of new q ≡ position_of old q) r)
          (rings_of old f) (λ r h.
          let there = ring-there old f r h in
          let known =
          All-at_each (λ b. AllByRecursion (λ p. IsTrue (has_point old p)) b.ring)
          old.boundaries (bounding f r) sound.points_of_rings there in
          All-from_each (λ q. position_of new q ≡ position_of old q) r (λ q has.
          on_points.position q (All-at_each (λ p. IsTrue (has_point old p)) r q known has)
          (k.points r there q has)));
    }

    pub stands-elsewhere : IsTouched old new t
    stands-elsewhere = record {
      points = λ q known. elim (on_points.points q known) [
        | inl named ↦ inl named
        | inr k ↦ elim (has-or_not t.points q) [
          | inl named ↦ inl named
          | inr off ↦ inr (point-stands q known k.0 k.1 off)
        ]
      ];
      strings =
          All-from_each (λ s. Contains t.strings s.number ⊎ StringStands old new s) new.strings
          string-stands;
      faces = λ f known. elim (on_faces f known) [
        | inl named ↦ inl named
        | inr k ↦ inr (face-stands f k)
      ];
      moved = on_move;
      joined = on_join;
    }
