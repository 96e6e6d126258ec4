-- The line of a record, and the record of a line.
use Rattle.std.proofs.Common.{◌≡◌, ◌∙◌, sym, ap, refl, ℕ, ◌-◌, List, [], ◌∷◌, ◌++◌, length, length-append, take, append_assoc, arith, if◌then◌else◌}
use Rattle.std.proofs.lemmas.List.{take_at}
use Rattle.std.proofs.lemmas.Option.{same_Some}
use Rattle.csv.specs.Machine.{next_record}
use Rattle.csv.specs.Reading.{default_config}
use Rattle.csv.specs.Writing.{read_back, row_body, is_blank, default_writer}
use Rattle.csv.specs.declared.parser.State.TheVariants as st
use Rattle.csv.proofs.RoundTrip.{read-write}
use Rattle.cad_files.specs.Line.{line_of}
use Rattle.cad_files.specs.Texts.{Record, record_text}
use Rattle.map_journal.specs.Journal.{Line}
use Rattle.map_session.specs.Session.{IsLineOf}

one_text : (a b : Record) → record_text a ≡ record_text b → read_back a ≡ read_back b
unfolding record_text
one_text a b same =
    let read = λ (t : List ℕ). next_record default_config st.StartRecord [] [] (t ++ []) in
    ap (λ p. p.0) (same_Some _ _ (sym (read-write a []) ∙ ap read same ∙ read-write b []))

read_alike : (a : Record) → line_of a ≡ line_of (read_back a)
read_alike [] = refl
read_alike (x ∷ rest) = refl

-- a line means one thing
pub one_line : (line : Line) (a b : Record) → IsLineOf line a → IsLineOf line b → line_of a ≡ line_of b
one_line line a b p q = read_alike a ∙ ap line_of (one_text a b (sym p ∙ q)) ∙ sym (read_alike b)

-- a text without its last byte, and that byte again
last_again : (xs text line : List ℕ) (x : ℕ) → text ≡ xs ++ x ∷ [] → line ≡ take (length text - 1) text → line ++ x ∷ [] ≡ text
last_again xs text line x is cut =
    let count : length (xs ++ x ∷ []) - 1 ≡ length xs = omega (arith, length-append xs (x ∷ [])) in
    let front : line ≡ xs = cut ∙ ap (λ t. take (length t - 1) t) is ∙ take_at xs (x ∷ []) _ (sym count) in
    ap (λ t. t ++ x ∷ []) front ∙ sym is

-- a record's text without its line feed is its line
pub line_of_text : (text line : List ℕ) (fields : Record) → text ≡ record_text fields → line ≡ take (length text - 1) text → IsLineOf line fields
unfolding record_text
line_of_text text line fields is cut =
    let body = row_body default_writer fields ++ (if is_blank default_writer fields then 34 ∷ 34 ∷ [] else []) in
    last_again body text line 10 (is ∙ sym (append_assoc (row_body default_writer fields) _ (10 ∷ []))) cut ∙ is
