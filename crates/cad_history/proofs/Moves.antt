-- What an editor stands for after each of its calls.
use Rattle.std.proofs.Common.{◌≡◌, ℕ, ◌+◌, ◌-◌, ◌<◌, ◌≤◌, max, List, [], ◌∷◌, ◌++◌, length, take, slice_get, Some, refl, sym, ap, ◌∙◌, subst, inl, inr, arith, length-drop}
use Rattle.std.proofs.lemmas.Option.{slice_get_within, same_Some}
use Rattle.std.proofs.lemmas.Bool.{cases_lt}
use Rattle.circular_buffer.proofs.Places.{slice_get-some, slice_get-drop}
use Rattle.circular_buffer.specs.Buffer.{keep_last}
use Rattle.cad_rows.specs.declared.edits.Edit.{Edit}
use Rattle.cad_map.specs.Map.{Map}
use Rattle.cad_map.specs.Valid.{IsValid}
use Rattle.cad_map.specs.Outcome.{LeadsTo}
use Rattle.cad_history.specs.History.{History, IsHistory, shown_map, beginning, with_edit}
use Rattle.cad_history.specs.Standing.{EditorState, StandsFor}
use Rattle.cad_history.proofs.Cut.{length-cut, cut_below, cut_at}

-- the history of one valid map is one
pub IsHistory-beginning : (m : Map) (depth : ℕ) → IsValid m → IsHistory (beginning m depth)
IsHistory-beginning m depth valid = record {
  each = λ i e b a at_e at_b at_a. absurd (omega (arith, slice_get_within {A = Edit} [] i e at_e));
  valid = λ i n at_n.
      let here : i ≡ 0 = omega (arith, slice_get_within (m ∷ []) i n at_n) in
      subst IsValid (same_Some _ _ (ap (slice_get (m ∷ [])) (sym here) ∙ at_n)) valid;
  one_more = refl;
  above_floor = omega arith;
  at_a_map = omega arith;
  within_depth = omega arith;
}

-- a history with an edit
pub IsHistory-with_edit : (h : History) (e : Edit) (b a : Map) → IsHistory h → shown_map h ≡ Some b → LeadsTo b e a → IsHistory (with_edit h e a)
IsHistory-with_edit h e b a is at_b leads =
    let k = h.place in
    let fits : k + 1 ≤ length h.maps = omega (arith, is.at_a_map) in
    let fits_edits : k ≤ length h.edits = omega (arith, is.at_a_map, is.one_more) in
    let maps_length = length-cut (k + 1) h.maps a fits in
    let edits_length = length-cut k h.edits e fits_edits in
    record {
      each = λ i f c d at_f at_c at_d.
          let within : i < k + 1 = omega (arith, slice_get_within _ i f at_f, edits_length) in
          elim (cases_lt i k) [
            | inl below ↦ is.each i f c d
                (sym (cut_below k h.edits e i fits_edits below) ∙ at_f)
                (sym (cut_below (k + 1) h.maps a i fits (omega arith)) ∙ at_c)
                (sym (cut_below (k + 1) h.maps a (i + 1) fits (omega arith)) ∙ at_d)
            | inr above ↦
                let here : i ≡ k = omega arith in
                let same_edit = same_Some _ _ (sym (cut_at k h.edits e i fits_edits here) ∙ at_f) in
                let same_before = same_Some _ _ (sym at_b ∙ ap (slice_get h.maps) (sym here) ∙ sym (cut_below (k + 1) h.maps a i fits (omega arith)) ∙ at_c) in
                let same_after = same_Some _ _ (sym (cut_at (k + 1) h.maps a (i + 1) fits (ap (λ n. n + 1) here)) ∙ at_d) in
                subst (λ x. LeadsTo c x d) same_edit (subst (λ x. LeadsTo x e d) same_before (subst (λ x. LeadsTo b e x) same_after leads))
          ];
      valid = λ i m at_m.
          let within : i < k + 2 = omega (arith, slice_get_within _ i m at_m, maps_length) in
          elim (cases_lt i (k + 1)) [
            | inl below ↦ is.valid i m (sym (cut_below (k + 1) h.maps a i fits below) ∙ at_m)
            | inr above ↦
                let same = same_Some _ _ (sym (cut_at (k + 1) h.maps a i fits (omega arith)) ∙ at_m) in
                subst IsValid same leads.valid
          ];
      one_more = omega (arith, maps_length, edits_length);
      above_floor = omega (arith, is.above_floor);
      at_a_map = omega (arith, maps_length);
      within_depth = omega (arith, maps_length);
    }

-- a history at another place from the floor on
pub IsHistory-at : (h : History) (k : ℕ) → IsHistory h → h.floor ≤ k → k < length h.maps → IsHistory (record h { place = k })
IsHistory-at h k is above within = record {
  each = is.each;
  valid = is.valid;
  one_more = is.one_more;
  above_floor = above;
  at_a_map = within;
  within_depth = is.within_depth;
}

module _ {S R : Type 0} (map_of : S → Map) (belongs : R → Map → Map → Type 0) where
  -- an editor whose map is valid stands for valid maps
  pub shown_map-valid : (s : EditorState S R) (h : History) → StandsFor map_of belongs s h → IsValid (map_of s.store)
  shown_map-valid s h st = st.history.valid h.place (map_of s.store) st.shows

  -- no more edits stand than there are records
  pub within_records : (s : EditorState S R) (h : History) → StandsFor map_of belongs s h → s.place ≤ length s.records
  within_records s h st = omega (arith, st.at_place, st.each_pair, st.history.at_a_map)

  -- the store stays where it is
  pub stayed : (s t : S) (rs : List R) (p d : ℕ) (h : History) → StandsFor map_of belongs (record { store = s; records = rs; place = p; depth = d }) h → map_of t ≡ map_of s → StandsFor map_of belongs (record { store = t; records = rs; place = p; depth = d }) h
  stayed s t rs p d h st same = record {
    history = st.history;
    shows = st.shows ∙ ap Some (sym same);
    pairs = st.pairs;
    each_pair = st.each_pair;
    at_place = st.at_place;
    of_depth = st.of_depth;
  }

  -- the store goes to another place
  pub moved : (s t : S) (rs : List R) (p q d k : ℕ) (h : History) → StandsFor map_of belongs (record { store = s; records = rs; place = p; depth = d }) h → h.floor + q ≡ k → slice_get h.maps k ≡ Some (map_of t) → StandsFor map_of belongs (record { store = t; records = rs; place = q; depth = d }) (record h { place = k })
  moved s t rs p q d k h st place at_k = record {
    history = IsHistory-at h k st.history (omega arith) (slice_get_within _ k _ at_k);
    shows = at_k;
    pairs = st.pairs;
    each_pair = st.each_pair;
    at_place = place;
    of_depth = st.of_depth;
  }

  -- the record before the place leads from the map before to the one that is shown
  pub pair_before : (s : S) (rs : List R) (p d : ℕ) (h : History) (r : R) → StandsFor map_of belongs (record { store = s; records = rs; place = p; depth = d }) h → 0 < p → slice_get rs (p - 1) ≡ Some r → (b : Map) × (slice_get h.maps (h.place - 1) ≡ Some b) × belongs r b (map_of s)
  pair_before s rs p d h r st some at_r =
      let there = slice_get-some h.maps (h.place - 1) (omega (arith, st.history.at_a_map)) in
      let before : h.floor + (p - 1) ≡ h.place - 1 = omega (arith, st.at_place) in
      let here : h.floor + (p - 1) + 1 ≡ h.place = omega (arith, st.at_place) in
      (there.0, there.1, st.pairs (p - 1) r there.0 (map_of s) at_r (ap (slice_get h.maps) before ∙ there.1) (ap (slice_get h.maps) here ∙ st.shows))

  -- the record at the place leads from the map that is shown to the next
  pub pair_after : (s : S) (rs : List R) (p d : ℕ) (h : History) (r : R) → StandsFor map_of belongs (record { store = s; records = rs; place = p; depth = d }) h → slice_get rs p ≡ Some r → (a : Map) × (slice_get h.maps (h.place + 1) ≡ Some a) × belongs r (map_of s) a
  pair_after s rs p d h r st at_r =
      let there = slice_get-some h.maps (h.place + 1) (omega (arith, st.each_pair, st.at_place, slice_get_within rs p r at_r)) in
      let next : h.floor + p + 1 ≡ h.place + 1 = omega (arith, st.at_place) in
      (there.0, there.1, st.pairs p r (map_of s) there.0 at_r (ap (slice_get h.maps) st.at_place ∙ st.shows) (ap (slice_get h.maps) next ∙ there.1))

  -- the store made an edit, and its record stands behind those up to the place, as many as the depth
  pub edited : (s t : S) (rs : List R) (p d : ℕ) (h : History) (e : Edit) (r : R) → StandsFor map_of belongs (record { store = s; records = rs; place = p; depth = d }) h → LeadsTo (map_of s) e (map_of t) → belongs r (map_of s) (map_of t) → StandsFor map_of belongs (record { store = t; records = keep_last d (take p rs ++ r ∷ []); place = length (keep_last d (take p rs ++ r ∷ [])); depth = d }) (with_edit h e (map_of t))
  edited s t rs p d h e r st leads belongs_there =
      let k = h.place in
      let xs = take p rs ++ r ∷ [] in
      let n = length xs - d in
      let fits : k + 1 ≤ length h.maps = omega (arith, st.history.at_a_map) in
      let fits_records : p ≤ length rs = omega (arith, st.at_place, st.each_pair, st.history.at_a_map) in
      let maps_length = length-cut (k + 1) h.maps (map_of t) fits in
      let records_length = length-cut p rs r fits_records in
      let kept_length = length-drop n xs in
      let floor : max h.floor (k + 1 - h.depth) ≡ h.floor + n = omega (arith, records_length, st.at_place, st.of_depth) in
      record {
        history = IsHistory-with_edit h e (map_of s) (map_of t) st.history st.shows leads;
        shows = cut_at (k + 1) h.maps (map_of t) (k + 1) fits refl;
        pairs = λ i u b a at_u at_b at_a.
            let at_u' = sym (slice_get-drop n xs i (n + i) refl) ∙ at_u in
            let within : n + i < p + 1 = omega (arith, slice_get_within xs (n + i) u at_u', records_length) in
            let index : max h.floor (k + 1 - h.depth) + i ≡ h.floor + (n + i) = omega (arith, floor) in
            let at_b' = ap (slice_get (take (k + 1) h.maps ++ map_of t ∷ [])) (sym index) ∙ at_b in
            let at_a' = ap (λ j. slice_get (take (k + 1) h.maps ++ map_of t ∷ []) (j + 1)) (sym index) ∙ at_a in
            elim (cases_lt (n + i) p) [
              | inl below ↦ st.pairs (n + i) u b a
                  (sym (cut_below p rs r (n + i) fits_records below) ∙ at_u')
                  (sym (cut_below (k + 1) h.maps (map_of t) (h.floor + (n + i)) fits (omega (arith, st.at_place))) ∙ at_b')
                  (sym (cut_below (k + 1) h.maps (map_of t) (h.floor + (n + i) + 1) fits (omega (arith, st.at_place))) ∙ at_a')
              | inr above ↦
                  let here : n + i ≡ p = omega arith in
                  let at_k : h.floor + (n + i) ≡ k = omega (arith, st.at_place) in
                  let same_record = same_Some _ _ (sym (cut_at p rs r (n + i) fits_records here) ∙ at_u') in
                  let same_before = same_Some _ _ (sym st.shows ∙ ap (slice_get h.maps) (sym at_k) ∙ sym (cut_below (k + 1) h.maps (map_of t) (h.floor + (n + i)) fits (omega arith)) ∙ at_b') in
                  let same_after = same_Some _ _ (sym (cut_at (k + 1) h.maps (map_of t) (h.floor + (n + i) + 1) fits (ap (λ j. j + 1) at_k)) ∙ at_a') in
                  subst (λ x. belongs x b a) same_record (subst (λ x. belongs r x a) same_before (subst (λ x. belongs r (map_of s) x) same_after belongs_there))
            ];
        each_pair = omega (arith, maps_length, records_length, kept_length, floor, st.at_place);
        at_place = omega (arith, records_length, kept_length, floor, st.at_place);
        of_depth = st.of_depth;
      }
