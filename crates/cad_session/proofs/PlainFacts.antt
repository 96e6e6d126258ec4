-- How the reader's machine goes over a line with no quote in it.
use Rattle.std.proofs.Common.{◌≡◌, ◌≢◌, ◌∙◌, sym, ap, refl, ℕ, ◌+◌, ◌-◌, ◌<◌, ◌≤◌, ◌==◌, ◌||◌, List, [], ◌∷◌, ◌++◌, Bool, true, false, take, drop, length, get_or, Option, Some, None, Result, Ok, Err, IfOk, inl, inr, arith}
use Rattle.std.specs.Prelude.{IfSome}
use Rattle.std.specs.List.{slice_range}
use Rattle.std.proofs.lemmas.List.{drop_more, take_more, get_or-drop, length-drop}
use Rattle.std.proofs.lemmas.Bool.{ne_eqb}
use Rattle.csv.specs.Machine.{next_record}
use Rattle.csv.specs.Reading.{Reached, default_config, strip_bom}
use Rattle.csv.specs.Records.{Row, fields_of}
use Rattle.csv.specs.declared.parser.State.{State}
use Rattle.csv.specs.declared.parser.State.TheVariants as st
use Rattle.csv.proofs.RoundTrip.{start-same, record-same}
use Rattle.cad_files.specs.Input.{IsWhole}
use Rattle.cad_session.specs.Plain.{IsLineEnd, is_mark}

-- the machine stands at this place of a line: before it, or in a field
pub data IsBetween : ℕ → State → Type 0 where
  at_start : IsBetween 0 st.StartRecord
  at_field : {i : ℕ} → IsBetween i st.StartField
  in_field : {i : ℕ} → IsBetween i st.InField

or_left : (a b : Bool) → (a || b) ≡ false → a ≡ false
or_left false b e = refl
or_left true b e = cc e

or_right : (a b : Bool) → (a || b) ≡ false → b ≡ false
or_right false b e = e
or_right true b e = cc e

-- a byte that stands for itself goes on with the field
in_step : (fields : List (List ℕ)) (field : List ℕ) (b : ℕ) (rest : List ℕ) → (b == 44) ≡ false → (b == 13) ≡ false → (b == 10) ≡ false
    → next_record default_config st.InField fields field (b ∷ rest) ≡ next_record default_config st.InField fields (field ++ b ∷ []) rest
unfolding next_record
in_step fields field b rest c r n = rw (c, r, n) refl

plain_step : (i : ℕ) (s : State) (fields : List (List ℕ)) (field : List ℕ) (b : ℕ) (rest : List ℕ) → IsBetween i s → (b == 44) ≡ false → is_mark b ≡ false
    → next_record default_config s fields field (b ∷ rest) ≡ next_record default_config st.InField fields (field ++ b ∷ []) rest
plain_step i s fields field b rest at c m =
    let q = or_left (b == 34) _ m in
    let m' = or_right (b == 34) _ m in
    let r = or_left (b == 13) _ m' in
    let n = or_right (b == 13) _ m' in
    go i s at q r n
  where
    go : (j : ℕ) (u : State) → IsBetween j u → (b == 34) ≡ false → (b == 13) ≡ false → (b == 10) ≡ false
        → next_record default_config u fields field (b ∷ rest) ≡ next_record default_config st.InField fields (field ++ b ∷ []) rest
    go _ _ at_start q r n = record-same fields field b rest r n ∙ start-same fields field b rest q ∙ in_step fields field b rest c r n
    go _ _ at_field q r n = start-same fields field b rest q ∙ in_step fields field b rest c r n
    go _ _ in_field q r n = in_step fields field b rest c r n

-- a comma ends it
comma_step : (i : ℕ) (s : State) (fields : List (List ℕ)) (field rest : List ℕ) → IsBetween i s
    → next_record default_config s fields field (44 ∷ rest) ≡ next_record default_config st.StartField (fields ++ field ∷ []) [] rest
unfolding next_record
comma_step _ _ fields field rest at_start = refl
comma_step _ _ fields field rest at_field = refl
comma_step _ _ fields field rest in_field = refl

-- and so does the line's end
end_step : (i : ℕ) (s : State) (fields : List (List ℕ)) (field tail : List ℕ) → IsBetween i s → 0 < i → IsLineEnd tail
    → next_record default_config s fields field tail ≡ Some (fields ++ field ∷ [], st.StartRecord, [])
unfolding next_record
end_step _ _ fields field tail at_start some end = absurd (omega (arith, some))
end_step _ _ fields field tail at_field some (inl e) = rw e refl
end_step _ _ fields field tail at_field some (inr e) = rw e refl
end_step _ _ fields field tail in_field some (inl e) = rw e refl
end_step _ _ fields field tail in_field some (inr e) = rw e refl

-- ---- Along a text

-- the machine has gone over so many bytes of the text, with these fields, and the bytes from start on as the field at hand
pub record IsCut (text : List ℕ) (start place : ℕ) (fields : List (List ℕ)) : Type 0 where
  pub state : State
  pub between : IsBetween place state
  pub read : next_record default_config st.StartRecord [] [] text ≡ next_record default_config state fields (slice_range text start place) (drop place text)

pub cut-none : (text : List ℕ) → IsCut text 0 0 []
cut-none text = record { state = st.StartRecord; between = at_start; read = refl }

-- the field at hand, one byte on
slice-more : (text : List ℕ) (start place : ℕ) → start ≤ place → place < length text → slice_range text start (place + 1) ≡ slice_range text start place ++ get_or text place 0 ∷ []
slice-more text start place from within =
    let on : place + 1 - start ≡ (place - start) + 1 = omega arith in
    let same : start + (place - start) ≡ place = omega arith in
    let left : place - start < length (drop start text) = simp length-drop (omega arith) in
    rw on (take_more (drop start text) (place - start) 0 left ∙ ap (λ (b : ℕ). take (place - start) (drop start text) ++ b ∷ []) (get_or-drop start text (place - start) 0 ∙ ap (λ (k : ℕ). get_or text k 0) same))

pub cut-plain : (text : List ℕ) (start place : ℕ) (fields : List (List ℕ)) → start ≤ place → place < length text → get_or text place 0 ≢ 44 → is_mark (get_or text place 0) ≡ false
    → IsCut text start place fields → IsCut text start (place + 1) fields
cut-plain text start place fields from within c m h = record {
  state = st.InField;
  between = in_field;
  read = h.read ∙ ap (next_record default_config h.state fields (slice_range text start place)) (drop_more text place 0 within) ∙ plain_step place h.state fields (slice_range text start place) (get_or text place 0) (drop (place + 1) text) h.between (ne_eqb (get_or text place 0) 44 c) m
      ∙ ap (λ (f : List ℕ). next_record default_config st.InField fields f (drop (place + 1) text)) (sym (slice-more text start place from within));
}

pub cut-comma : (text : List ℕ) (start place : ℕ) (fields : List (List ℕ)) → place < length text → get_or text place 0 ≡ 44
    → IsCut text start place fields → IsCut text (place + 1) (place + 1) (fields ++ slice_range text start place ∷ [])
cut-comma text start place fields within comma h =
    let none : slice_range text (place + 1) (place + 1) ≡ [] = let zero : (place + 1) - (place + 1) ≡ 0 = omega arith in rw zero refl in
    record {
      state = st.StartField;
      between = at_field;
      read = h.read ∙ ap (next_record default_config h.state fields (slice_range text start place)) (drop_more text place 0 within ∙ ap (λ (b : ℕ). b ∷ drop (place + 1) text) comma)
          ∙ comma_step place h.state fields (slice_range text start place) (drop (place + 1) text) h.between
          ∙ ap (λ (f : List ℕ). next_record default_config st.StartField (fields ++ slice_range text start place ∷ []) f (drop (place + 1) text)) (sym none);
    }

pub cut-end : (text : List ℕ) (start end : ℕ) (fields : List (List ℕ)) → 0 < end → IsLineEnd (drop end text)
    → IsCut text start end fields → next_record default_config st.StartRecord [] [] text ≡ Some (fields ++ slice_range text start end ∷ [], st.StartRecord, [])
cut-end text start end fields some tail h = h.read ∙ end_step end h.state fields (slice_range text start end) (drop end text) h.between some tail

-- ---- The text's records

-- a text that doesn't begin with a byte order mark is all read
pub no-bom : (text : List ℕ) → get_or text 0 0 ≢ 0xEF → strip_bom text ≡ text
unfolding strip_bom
no-bom [] e = refl
no-bom (a ∷ []) e = refl
no-bom (a ∷ b ∷ []) e = refl
no-bom (a ∷ b ∷ c ∷ rest) e = rw (ne_eqb a 0xEF e) refl

-- a record behind which nothing stands is the only one
pub one-whole : (text : List ℕ) (fields : List (List ℕ)) → next_record default_config st.StartRecord [] [] text ≡ Some (fields, st.StartRecord, []) → IsWhole text (fields ∷ [])
unfolding Reached next_record
one-whole text fields e = (st.StartRecord, [], ((fields, st.StartRecord, []), e, refl, (refl, refl)), refl)

-- and so it is of a row, where there is one
pub found-whole : {E : Type 0} (text : List ℕ) (result : Result (Option Row) E) → get_or text 0 0 ≢ 0xEF
    → IfOk result (λ found. IfSome found (λ row. next_record default_config st.StartRecord [] [] text ≡ Some (fields_of row, st.StartRecord, [])))
    → IfOk result (λ found. IfSome found (λ row. IsWhole (strip_bom text) (fields_of row ∷ [])))
found-whole text (Ok (Some row)) other read = rw (no-bom text other) (one-whole text (fields_of row) read)
found-whole text (Ok None) other read = tt
found-whole text (Err e) other read = tt
