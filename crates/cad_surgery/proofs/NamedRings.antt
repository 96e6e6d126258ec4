-- The rings that a record names, by the rows of a map and in a table that goes with it.
use Rattle.std.proofs.Common.{◌≡◌, ◌≢◌, ℕ, ◌&&◌, not, inl, inr, Bool, true, false, true≢false, refl, sym, ap, subst, ◌∙◌, List, [], ◌∷◌, ◌++◌, map, filter, length, Option, Some, None, is_some, cond, arith}
use Rattle.std.specs.Prelude.{IsPermutation, count_by}
use Rattle.std.specs.List.{AllByRecursion, Contains}
use Rattle.std.proofs.lemmas.List.{length-map}
use Rattle.std.proofs.lemmas.List.Elements.{Contains-append_left}
use Rattle.std.proofs.lemmas.List.Sums.{length-filter, sum_by-cons}
use Rattle.std.proofs.lemmas.List.Sorted.{Contains-permutation, IsPermutation-sym, IsPermutation-refl, IsPermutation-trans, IsPermutation-cons, IsPermutation-append_left, IsPermutation-middle, IsPermutation-filter_both, length_permutation, sum_by-IsPermutation}
use Rattle.cad_rows.specs.declared.names.Face.{Face}
use Rattle.cad_rows.specs.declared.rows.StringRow.{StringRow}
use Rattle.cad_rings.specs.Cycle.{Side, has_side, sides_of}
use Rattle.cad_map.specs.declared.boundary.Boundary.{Boundary}
use Rattle.cad_map.specs.Boundaries.{is_face}
use Rattle.cad_map.specs.Map.{Map, all_sides, string_of}
use Rattle.cad_map.specs.Rings.{HasWholeRings}
use Rattle.cad_map.proofs.CallerLemmas.{All-at_each, All-follows, All-from_each, Contains-cases, Contains-first, Contains-later, Contains-map, Contains-filter, filter-Contains, Contains-has_side, has_side-Contains, is_face-same, is_face-refl, found-number, count-no, once-from_pairs}
use Rattle.half_table.specs.declared.half.Half.{Half}
use Rattle.half_table.specs.Rows.{HalfRows}
use Rattle.cad_laws.specs.Local.{side_by}
use Rattle.map_parts.specs.Handing.{home_of}
use Rattle.edit_records.specs.HeldChains.{side_along, IsOfRing, NamesRings, rings_beside}
use Rattle.map_parts.specs.Islands.{AreOfRings}
use Rattle.map_parts.specs.Labels.{IsOnRing}
use Rattle.map_parts.specs.Parts.{HasHalves}
use Rattle.map_parts.proofs.KeptEach.{home-is}
use Rattle.map_parts.proofs.RingsOnce.{stands-once}
use Rattle.map_parts.proofs.StringRowsPut.{found-there}
use Rattle.map_parts.proofs.ToHalves.{one_part}
use Rattle.map_parts.proofs.UnmergingBegun.{row-led}

both : (a b : Bool) → (a && b) ≡ true → (a ≡ true) × (b ≡ true)
both true true h = (refl, refl)
both true false h = cc
both false b h = cc

-- Each of these is among those, which are as many, and none stands twice: those are these.
covers : (these those : List Boundary) → ((b : Boundary) (rest : List Boundary) → IsPermutation these (b ∷ rest) → Contains rest b → ⊥)
    → ((b : Boundary) → Contains these b → Contains those b) → length those ≡ length these → IsPermutation those these
covers [] [] apart within many = IsPermutation-refl []
covers [] (c ∷ those) apart within many = absurd (omega (arith, many))
covers (b ∷ these) those apart within many =
    let it = split those (within b (Contains-first b these)) in
    let long = length_permutation those (b ∷ it.0) it.1 in
    let rest = covers these it.0
    (λ c others same again. apart c (b ∷ others)
    (IsPermutation-trans (b ∷ these) (b ∷ c ∷ others) (c ∷ b ∷ others) (IsPermutation-cons b these (c ∷ others) same) (IsPermutation-middle (b ∷ []) c others))
    (Contains-later b others c again))
    (λ c there. elim (Contains-cases b it.0 c (Contains-permutation those (b ∷ it.0) c it.1 (within c (Contains-later b these c there)))) [
      | inl same ↦ absurd (apart b these (IsPermutation-refl (b ∷ these)) (subst (Contains these) (sym same) there))
      | inr later ↦ later
    ]) (omega (arith, many, long)) in
    IsPermutation-trans those (b ∷ it.0) (b ∷ these) it.1 (IsPermutation-cons b it.0 these rest)
  where
    split : (xs : List Boundary) → Contains xs b → (rest : List Boundary) × IsPermutation xs (b ∷ rest)
    split [] there = let low = there.1 in absurd (omega (arith, low))
    split (x ∷ xs) there = elim (Contains-cases x xs b there) [
      | inl is ↦ (xs, subst (λ (y : Boundary). IsPermutation (x ∷ xs) (y ∷ xs)) is (IsPermutation-refl (x ∷ xs)))
      | inr later ↦
          let it = split xs later in
          (x ∷ it.0, IsPermutation-trans (x ∷ xs) (x ∷ b ∷ it.0) (b ∷ x ∷ it.0) (IsPermutation-cons x xs (b ∷ it.0) it.1) (IsPermutation-middle (x ∷ []) b it.0))
    ]

module _ (m : Map) (rows : HalfRows) (ends : AllByRecursion (HasHalves rows) m.strings) where
  -- a half leads along the side of its string's row
  pub row-side : (row : StringRow) (h : Half) → row.number ≡ h.string → HasHalves rows row → side_by rows h ≡ side_along row h
  row-side row h number halves = row-led rows row h number halves

  pub named-on : (b : Boundary) (h : Half) → IsOfRing m b h → IsOnRing m rows b h
  named-on b h it =
      let row = it.along.row in
      let among = found-there (λ (r : StringRow). r.number) h.string m.strings row it.along.there in
      let number = found-number (λ (r : StringRow). r.number) h.string m.strings row it.along.there in
      record {
        shown = ap (λ (o : Option StringRow). is_some o) it.along.there;
        side =
            subst (Contains (sides_of b.ring))
            (sym (row-side row h number (All-at_each (HasHalves rows) m.strings row ends among) ∙ it.along.is)) it.on;
      }

  pub on-named : (b : Boundary) (h : Half) → IsOnRing m rows b h → IsOfRing m b h
  on-named b h on = by (string_of m h.string) refl on.shown
    where
      by : (o : Option StringRow) → string_of m h.string ≡ o → is_some o ≡ true → IsOfRing m b h
      by None is none = absurd (true≢false (sym none))
      by (Some row) is some =
          let among = found-there (λ (r : StringRow). r.number) h.string m.strings row is in
          let number = found-number (λ (r : StringRow). r.number) h.string m.strings row is in
          let same = row-side row h number (All-at_each (HasHalves rows) m.strings row ends among) in
          record {
            side = side_by rows h;
            along = record { row = row; there = is; is = sym same };
            on = on.side;
          }

-- A face has one ring with the side, and its others are among these.
module _ (m : Map) (whole : HasWholeRings m) (inner : Face) (left right : Boundary) (others : List Boundary)
    (were : IsPermutation m.boundaries (left ∷ right ∷ others)) (left_face : left.face ≡ inner) (right_face : right.face ≢ inner)
    (s : Side) (on_left : Contains (sides_of left.ring) s) where
  -- another ring of the face
  abbrev beside : Boundary → Bool
  beside b = is_face inner b.face && not (has_side s (sides_of b.ring))

  abbrev own : Boundary → Bool
  own b = is_face inner b.face

  there : (b : Boundary) → Contains (left ∷ right ∷ others) b → Contains m.boundaries b
  there b = Contains-permutation (left ∷ right ∷ others) m.boundaries b (IsPermutation-sym m.boundaries (left ∷ right ∷ others) were)

  -- the others don't have the side
  off : (b : Boundary) → Contains others b → has_side s (sides_of b.ring) ≡ false
  off b among = by (has_side s (sides_of b.ring)) refl
    where
      by : (t : Bool) → has_side s (sides_of b.ring) ≡ t → has_side s (sides_of b.ring) ≡ false
      by false is = is
      by true is =
          let same : left ≡ b =
          one_part (λ (c : Boundary). sides_of c.ring) s m.boundaries left b (once-from_pairs (all_sides m) whole.once s)
          (there left (Contains-first left (right ∷ others))) (there b (Contains-later left (right ∷ others) b (Contains-later right others b among)))
          on_left (has_side-Contains s (sides_of b.ring) is) in
          absurd (stands-once m whole left (right ∷ others) were (Contains-later right others left (subst (Contains others) (sym same) among)))

  not_left : beside left ≡ false
  not_left = ap (λ (t : Bool). is_face inner left.face && not t) (Contains-has_side s (sides_of left.ring) on_left) ∙ none (is_face inner left.face)
    where
      none : (t : Bool) → (t && false) ≡ false
      none true = refl
      none false = refl

  not_right : beside right ≡ false
  not_right = by (is_face inner right.face) refl
    where
      by : (t : Bool) → is_face inner right.face ≡ t → beside right ≡ false
      by true is = absurd (right_face (sym (is_face-same inner right.face is)))
      by false is = ap (λ (t : Bool). t && not (has_side s (sides_of right.ring))) is

  beside-own : (b : Boundary) → Contains others b → beside b ≡ own b
  beside-own b among = ap (λ (t : Bool). is_face inner b.face && not t) (off b among) ∙ all (is_face inner b.face)
    where
      all : (t : Bool) → (t && true) ≡ t
      all true = refl
      all false = refl

  beside-others : (b : Boundary) → Contains m.boundaries b → beside b ≡ true → Contains others b
  beside-others b among test =
      elim (Contains-cases left (right ∷ others) b (Contains-permutation m.boundaries (left ∷ right ∷ others) b were among)) [
        | inl first ↦ absurd (true≢false (sym test ∙ ap beside (sym first) ∙ not_left))
        | inr more ↦ elim (Contains-cases right others b more) [
          | inl second ↦ absurd (true≢false (sym test ∙ ap beside (sym second) ∙ not_right))
          | inr later ↦ later
        ]
      ]

  pub named-among : (b : Boundary) → Contains (rings_beside m inner s) b → Contains others b
  named-among b among =
      let at = filter-Contains beside m.boundaries b among in
      beside-others b at.0 at.1

  others-beside : (b : Boundary) → Contains others b → b.face ≡ inner → Contains (rings_beside m inner s) b
  others-beside b among is =
      Contains-filter beside m.boundaries b (there b (Contains-later left (right ∷ others) b (Contains-later right others b among)))
      (beside-own b among ∙ ap (is_face inner) is ∙ is_face-refl inner)

  count-same : (f g : Boundary → Bool) (bs : List Boundary) → ((b : Boundary) → Contains bs b → f b ≡ g b) → count_by f bs ≡ count_by g bs
  count-same f g [] same = refl
  count-same f g (b ∷ bs) same =
      let rest = count-same f g bs (λ c h. same c (Contains-later b bs c h)) in
      let one = sum_by-cons (λ c. cond (f c) 1 0) b bs in
      let two = sum_by-cons (λ c. cond (g c) 1 0) b bs in
      let weigh : Bool → ℕ = λ t. cond t 1 0 in
      let first : weigh (f b) ≡ weigh (g b) = ap weigh (same b (Contains-first b bs)) in
      omega (arith, rest, one, two, first)

  -- they are as many
  as-many : length (rings_beside m inner s) ≡ length (filter own others)
  as-many =
      let one = length-filter beside m.boundaries in
      let two = length-filter own others in
      let three = sum_by-IsPermutation (λ b. cond (beside b) 1 0) m.boundaries (left ∷ right ∷ others) were in
      let four = count-no beside left (right ∷ others) not_left in
      let five = count-no beside right others not_right in
      let six = count-same beside own others beside-own in
      omega (arith, one, two, three, four, five, six)

  -- none of them stands twice
  apart : (b : Boundary) (rest : List Boundary) → IsPermutation (filter own others) (b ∷ rest) → Contains rest b → ⊥
  apart b rest same again =
      let off_face : List Boundary = filter (λ c. not (own c)) others in
      let parts = IsPermutation-filter_both own (λ c. not (own c)) (λ c. refl) others in
      let first = IsPermutation-trans others (filter own others ++ off_face) (b ∷ (rest ++ off_face)) parts (IsPermutation-append_left off_face (filter own others) (b ∷ rest) same) in
      let all = IsPermutation-trans m.boundaries (left ∷ right ∷ others) (left ∷ right ∷ b ∷ (rest ++ off_face)) were
      (IsPermutation-cons left (right ∷ others) (right ∷ b ∷ (rest ++ off_face)) (IsPermutation-cons right others (b ∷ (rest ++ off_face)) first)) in
      stands-once m whole b (left ∷ right ∷ (rest ++ off_face))
      (IsPermutation-trans m.boundaries (left ∷ right ∷ b ∷ (rest ++ off_face)) (b ∷ left ∷ right ∷ (rest ++ off_face)) all (IsPermutation-middle (left ∷ right ∷ []) b (rest ++ off_face)))
      (Contains-later left (right ∷ (rest ++ off_face)) b (Contains-later right (rest ++ off_face) b (Contains-append_left rest off_face b again)))

  -- halves that lead along the others, one for each that the face has, name its rings
  pub rings-named : (halves : List Half) → AllByRecursion (λ h. (b : Boundary) × Contains others b × IsOfRing m b h × (b.face ≡ inner)) halves
      → ((b : Boundary) → Contains others b → b.face ≡ inner → (h : Half) × Contains halves h × IsOfRing m b h)
      → length halves ≡ length (filter own others) → NamesRings m halves (rings_beside m inner s)
  rings-named halves each all many = record {
    each =
        All-follows (λ h. (b : Boundary) × Contains others b × IsOfRing m b h × (b.face ≡ inner)) (λ h. (b : Boundary) × Contains (rings_beside m inner s) b × IsOfRing m b h)
        (λ h it. (it.0, others-beside it.0 it.1 it.3, it.2)) halves each;
    all = λ b among.
        let in_it = filter-Contains beside m.boundaries b among in
        all b (named-among b among) (sym (is_face-same inner b.face (both (is_face inner b.face) (not (has_side s (sides_of b.ring))) in_it.1).0));
    as_many = many ∙ sym as-many;
  }

  -- a table in which a half that leads along one of the others is on it
  module _ (rows : HalfRows) (led : (b : Boundary) → Contains others b → (h : Half) → IsOfRing m b h → IsOnRing m rows b h)
      (halves : List Half) (it : NamesRings m halves (rings_beside m inner s)) where
    -- the halves that name the rings are on them
    pub named-rings : AreOfRings m rows halves inner others
    named-rings = record {
      each = All-from_each (λ h. (b : Boundary) × Contains others b × IsOnRing m rows b h × (b.face ≡ inner)) halves (λ h among.
          let at = All-at_each (λ h. (b : Boundary) × Contains (rings_beside m inner s) b × IsOfRing m b h) halves h it.each among in
          let in_it = filter-Contains beside m.boundaries at.0 at.1 in (
            at.0,
            beside-others at.0 in_it.0 in_it.1,
            led at.0 (beside-others at.0 in_it.0 in_it.1) h at.2,
            sym (is_face-same inner at.0.face (both (is_face inner at.0.face) (not (has_side s (sides_of at.0.ring))) in_it.1).0),
          ));
      all = λ b among is.
          let at = it.all b (others-beside b among is) in
          (at.0, at.1, led b among at.0 at.2);
    }

    -- and each has just one
    pub named-once : IsPermutation (map (home_of m rows) halves) (filter own others)
    named-once =
        let long = length-map halves (home_of m rows) in
        let many = it.as_many in
        let same = as-many in
        covers (filter own others) (map (home_of m rows) halves) apart
        (λ b among.
        let in_it = filter-Contains own others b among in
        let at = named-rings.all b in_it.0 (sym (is_face-same inner b.face in_it.1)) in
        subst (Contains (map (home_of m rows) halves)) (home-is m whole rows b (there b (Contains-later left (right ∷ others) b (Contains-later right others b in_it.0))) at.0 at.2)
        (Contains-map (home_of m rows) halves at.0 at.1))
        (omega (arith, long, many, same))
