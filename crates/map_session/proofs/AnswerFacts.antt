-- The answer `ok` is that to a command that was carried out, and to nothing else.
use Rattle.std.proofs.Common.{◌≡◌, ◌≢◌, ◌∙◌, refl, sym, ap, ℕ, List, [], ◌∷◌, ◌++◌, map, filter, not, Some, None, Option, Bool, true, false, true≢false, ◌↔◌, arith, inl, inr, codes}
use Rattle.std.proofs.lemmas.Bool.{cases_Bool}
use Rattle.cad_rows.specs.declared.refusals.Refusal.{Refusal}
use Rattle.cad_rows.specs.declared.refusals.Refusal.TheVariants as told
use Rattle.cad_rows.specs.declared.names.Name.TheVariants as name
use Rattle.cad_rows.specs.declared.rows.ParcelRow.{ParcelRow}
use Rattle.cad_rows.specs.declared.names.Face.{Face}
use Rattle.cad_rows.specs.declared.names.Face.TheVariants as face
use Rattle.cad_map.specs.Map.{Map, has_parcel, is_positive, rings_of}
use Rattle.cad_history.specs.History.{History}
use Rattle.cad_history.specs.Steps.{Step, edit_refused, nothing_to_undo, nothing_to_redo, no_memory_to_undo, no_memory_to_redo}
use Rattle.cad_history.specs.declared.commands.Command.{Command}
use Rattle.cad_history.specs.declared.commands.Answer.{Answer}
use Rattle.cad_history.specs.declared.commands.Answer.TheVariants as answer
use Rattle.cad_files.specs.Answers.{answer_record, refused_record, refusal_record, syntax_record}
use Rattle.cad_files.specs.Reports.{area_record_in, outline_answer, outline_records, end_record, ring_record}
use Rattle.cad_files.specs.Texts.{Record, record_text, text_of, first_record}
use Rattle.cad_files.specs.Line.{line_of}
use Rattle.cad_files.specs.declared.line.Line.{Line}
use Rattle.cad_files.specs.declared.line.Line.TheVariants as line
use Rattle.cad_session.specs.Answered.{IsAnswered, no_line, by_history, told_areas, told_outline, printed}
use Rattle.map_session.specs.Session.{IsDone, IsDoneIf, done_text}

-- the first byte of a text
abbrev first : List ℕ → ℕ
first [] = 0
first (b ∷ rest) = b

-- it is no `o`
abbrev IsOther : List ℕ → Type 0
IsOther text = first text ≢ 111

-- ---- What other answers begin with

refused_other : (number called kind value tail : List ℕ) → IsOther (record_text (refused_record number called kind value) ++ tail)
unfolding record_text
refused_other number called kind value tail is = let e : 114 ≡ 111 = is in omega (arith, e)

refusal_other : (r : Refusal) (tail : List ℕ) → IsOther (record_text (refusal_record r) ++ tail)
refusal_other told.Range tail = refused_other _ _ _ _ tail
refusal_other (told.Unknown n) tail = refused_other _ _ _ _ tail
refusal_other (told.Taken n) tail = refused_other _ _ _ _ tail
refusal_other (told.Retired n) tail = refused_other _ _ _ _ tail
refusal_other told.Outside tail = refused_other _ _ _ _ tail
refusal_other told.NoChange tail = refused_other _ _ _ _ tail
refusal_other (told.NotFree n) tail = refused_other _ _ _ _ tail
refusal_other (told.NotDegreeTwo n) tail = refused_other _ _ _ _ tail
refusal_other told.BadChain tail = refused_other _ _ _ _ tail
refusal_other (told.NotInParcel n) tail = refused_other _ _ _ _ tail
refusal_other told.ChainJoinsRings tail = refused_other _ _ _ _ tail
refusal_other told.SameParcel tail = refused_other _ _ _ _ tail
refusal_other told.NotNeighbours tail = refused_other _ _ _ _ tail
refusal_other told.NotOneChain tail = refused_other _ _ _ _ tail
refusal_other told.AlreadyAttached tail = refused_other _ _ _ _ tail
refusal_other told.NotAttached tail = refused_other _ _ _ _ tail
refusal_other told.Full tail = refused_other _ _ _ _ tail
refusal_other (told.Breaks rule) tail = refused_other _ _ _ _ tail
refusal_other told.Memory tail = refused_other _ _ _ _ tail

nothing_other : (tail : List ℕ) → IsOther (record_text (answer_record answer.Nothing) ++ tail)
unfolding record_text
nothing_other tail is = let e : 110 ≡ 111 = is in omega (arith, e)

syntax_other : (tail : List ℕ) → IsOther (record_text syntax_record ++ tail)
unfolding record_text
syntax_other tail is = let e : 115 ≡ 111 = is in omega (arith, e)

end_other : (tail : List ℕ) → IsOther (record_text end_record ++ tail)
unfolding record_text
end_other tail is = let e : 101 ≡ 111 = is in omega (arith, e)

plan_other : (tail : List ℕ) → IsOther (record_text first_record ++ tail)
unfolding record_text
plan_other tail is = let e : 112 ≡ 111 = is in omega (arith, e)

area_other : (m : Map) (r : ParcelRow) (tail : List ℕ) → IsOther (record_text (area_record_in m r) ++ tail)
unfolding record_text
area_other m r tail is = let e : 97 ≡ 111 = is in omega (arith, e)

ring_other : (f : Face) (kind : List ℕ) (r : List ℕ) (tail : List ℕ) → IsOther (record_text (ring_record f kind r) ++ tail)
unfolding record_text
ring_other f kind r tail is = let e : 114 ≡ 111 = is in omega (arith, e)

-- records in turn, none of which begins with an `o`
each_other : {X : Type 0} (write : X → Record) (xs : List X) (rest : List Record) → ((x : X) (tail : List ℕ) → IsOther (record_text (write x) ++ tail)) → IsOther (text_of rest)
    → IsOther (text_of (map write xs ++ rest))
each_other write [] rest each other = other
each_other write (x ∷ xs) rest each other = each x _

outline_other : (m : Map) (f : Face) → IsOther (text_of (outline_records m f))
outline_other m f =
    let outer = filter (is_positive m) (rings_of m f) in
    let holes = filter (λ r. not (is_positive m r)) (rings_of m f) in
    let rest = map (ring_record f (codes "hole")) holes ++ end_record ∷ [] in
    each_other (ring_record f (codes "outer")) outer rest (ring_other f (codes "outer")) (each_other (ring_record f (codes "hole")) holes (end_record ∷ []) (ring_other f (codes "hole")) (end_other []))

outline_answer_other : (m : Map) (f : Face) → IsOther (text_of (outline_answer m f))
outline_answer_other m face.Outside = outline_other m face.Outside
outline_answer_other m (face.Parcel n) = elim (cases_Bool (has_parcel m n)) [
  | inl there ↦ rw there (outline_other m (face.Parcel n))
  | inr gone ↦ rw gone (refusal_other (told.Unknown (name.Parcel n)) [])
]

done_first : first done_text ≡ 111
unfolding record_text
done_first = refl

-- ---- What an answer says of the history

-- a command answered otherwise than by `ok` leaves it
other_stays : (h end : History) (c : Command) (a : Answer) → Step h c a end → ¬ (a ≡ answer.Done) → end ≡ h
other_stays h end c answer.Done step other = absurd (other refl)
other_stays h end c answer.Nothing (nothing_to_undo can) other = refl
other_stays h end c answer.Nothing (nothing_to_redo can) other = refl
other_stays h end c (answer.Refused r) (edit_refused shown may) other = refl
other_stays h end c (answer.Refused r) (no_memory_to_undo can) other = refl
other_stays h end c (answer.Refused r) (no_memory_to_redo can) other = refl

not_done : (text : List ℕ) → IsOther text → ¬ (text ≡ done_text)
not_done text other same = other (ap first same ∙ done_first)

commanded : (h end : History) (fields : Record) (text : List ℕ) (c : Command) (a : Answer) → text ≡ done_text → line_of fields ≡ Some (line.Command c) → Step h c a end
    → text ≡ text_of (answer_record a ∷ []) → IsDone h fields end
commanded h end fields text c answer.Done same is step told = (c, is, step)
commanded h end fields text c answer.Nothing same is step told = absurd (not_done _ (nothing_other []) (sym told ∙ same))
commanded h end fields text c (answer.Refused r) same is step told = absurd (not_done _ (refusal_other r []) (sym told ∙ same))

meant : (h end : History) (fields : Record) (l : Option Line) (text : List ℕ) → text ≡ done_text → line_of fields ≡ l → IsAnswered h l text end → IsDone h fields end
meant h end fields None text same is (no_line told) = absurd (not_done _ (syntax_other []) (sym told ∙ same))
meant h end fields (Some (line.Command d)) text same is (by_history {c} {a} step memory told) = commanded h end fields text c a same is step told
meant h end fields (Some line.Areas) text same is (told_areas {m} shown told) =
    absurd (not_done _ (each_other (area_record_in m) m.parcels (end_record ∷ []) (area_other m) (end_other [])) (sym told ∙ same))
meant h end fields (Some (line.Outline g)) text same is (told_outline {m} {f} shown told) = absurd (not_done _ (outline_answer_other m f) (sym told ∙ same))
meant h end fields (Some line.Print) text same is (printed {m} shown told) = absurd (not_done _ (plan_other _) (sym told ∙ same))

-- the answer `ok` is to a command that was carried out
pub ok_is_done : (h end : History) (fields : Record) (text : List ℕ) → IsAnswered h (line_of fields) text end → text ≡ done_text → IsDone h fields end
ok_is_done h end fields text answered same = meant h end fields (line_of fields) text same refl answered

-- and any other leaves the history
pub other_is_same : (h end : History) (l : Option Line) (text : List ℕ) → IsAnswered h l text end → ¬ (text ≡ done_text) → end ≡ h
other_is_same h end None text (no_line told) other = refl
other_is_same h end (Some (line.Command d)) text (by_history {c} {a} step memory told) other =
    other_stays h end c a step (λ done. other (told ∙ ap (λ b. text_of (answer_record b ∷ [])) done))
other_is_same h end (Some line.Areas) text (told_areas shown told) other = refl
other_is_same h end (Some (line.Outline f)) text (told_outline shown told) other = refl
other_is_same h end (Some line.Print) text (printed shown told) other = refl

pub done_if : (done : Bool) (h end : History) (fields : Record) (text : List ℕ) → IsAnswered h (line_of fields) text end → (done ≡ true ↔ text ≡ done_text) → IsDoneIf done h fields end
done_if true h end fields text answered decides = ok_is_done h end fields text answered (decides.0 refl)
done_if false h end fields text answered decides = other_is_same h end (line_of fields) text answered (λ same. true≢false (sym (decides.1 same)))
