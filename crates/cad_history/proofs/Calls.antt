-- Where each call of an editor leads.
use Rattle.std.proofs.Common.{◌≡◌, ℕ, ◌+◌, ◌-◌, ◌<◌, ◌≤◌, List, [], ◌∷◌, ◌++◌, length, take, slice_get, Some, sym, ap, ◌∙◌, arith}
use Rattle.circular_buffer.specs.Buffer.{keep_last}
use Rattle.cad_rows.specs.declared.edits.Edit.{Edit}
use Rattle.cad_rows.specs.declared.refusals.Refusal.{Refusal}
use Rattle.cad_rows.specs.declared.refusals.Refusal.TheVariants.{Memory}
use Rattle.cad_map.specs.Map.{Map}
use Rattle.cad_map.specs.Outcome.{LeadsTo, MayRefuse}
use Rattle.cad_history.specs.declared.commands.Command.TheVariants as command
use Rattle.cad_history.specs.declared.commands.Answer.TheVariants.{Done, Nothing, Refused}
use Rattle.cad_history.specs.History.{History, with_edit, undone, redone, CanUndo, CanRedo}
use Rattle.cad_history.specs.Steps.Step.{edit_made, edit_refused, undo_made, nothing_to_undo, redo_made, nothing_to_redo, no_memory_to_undo, no_memory_to_redo}
use Rattle.cad_history.specs.Standing.{EditorState, StandsFor, Goes}
use Rattle.cad_history.proofs.Moves.{edited, moved, stayed, pair_before, pair_after}

module _ {S R : Type 0} (map_of : S → Map) (belongs : R → Map → Map → Type 0) where
  pub goes-edit : (s t : S) (rs : List R) (p d : ℕ) (e : Edit) (r : R) → LeadsTo (map_of s) e (map_of t) → belongs r (map_of s) (map_of t) → Goes map_of belongs (record { store = s; records = rs; place = p; depth = d }) (command.Edit e) Done (record { store = t; records = keep_last d (take p rs ++ r ∷ []); place = length (keep_last d (take p rs ++ r ∷ [])); depth = d })
  goes-edit s t rs p d e r leads there = λ h st.
      (with_edit h e (map_of t), edit_made st.shows leads, edited map_of belongs s t rs p d h e r st leads there)

  pub goes-refused : (s t : S) (rs : List R) (p d : ℕ) (e : Edit) (r : Refusal) → MayRefuse (map_of s) e r → map_of t ≡ map_of s → Goes map_of belongs (record { store = s; records = rs; place = p; depth = d }) (command.Edit e) (Refused r) (record { store = t; records = rs; place = p; depth = d })
  goes-refused s t rs p d e r may same = λ h st. (h, edit_refused st.shows may, stayed map_of belongs s t rs p d h st same)

  can-undo : (s : EditorState S R) (h : History) → StandsFor map_of belongs s h → 0 < s.place → CanUndo h
  can-undo s h st some = omega (arith, st.at_place)

  can-redo : (s : EditorState S R) (h : History) → StandsFor map_of belongs s h → s.place < length s.records → CanRedo h
  can-redo s h st some = omega (arith, st.at_place, st.each_pair)

  pub goes-nothing_to_undo : (s : S) (rs : List R) (p d : ℕ) → p ≡ 0 → let e : EditorState S R = record { store = s; records = rs; place = p; depth = d } in Goes map_of belongs e command.Undo Nothing e
  goes-nothing_to_undo s rs p d none = λ h st. (h, nothing_to_undo (λ can. absurd (omega (arith, st.at_place))), st)

  pub goes-nothing_to_redo : (s : S) (rs : List R) (p d : ℕ) → length rs ≤ p → let e : EditorState S R = record { store = s; records = rs; place = p; depth = d } in Goes map_of belongs e command.Redo Nothing e
  goes-nothing_to_redo s rs p d none = λ h st. (h, nothing_to_redo (λ can. absurd (omega (arith, st.at_place, st.each_pair))), st)

  pub goes-undo : (s t : S) (rs : List R) (p d : ℕ) (r : R) → 0 < p → slice_get rs (p - 1) ≡ Some r → ((before : Map) → belongs r before (map_of s) → map_of t ≡ before) → Goes map_of belongs (record { store = s; records = rs; place = p; depth = d }) command.Undo Done (record { store = t; records = rs; place = p - 1; depth = d })
  goes-undo s t rs p d r some at back = λ h st.
      let pair = pair_before map_of belongs s rs p d h r st some at in
      let shows : slice_get h.maps (h.place - 1) ≡ Some (map_of t) = pair.1 ∙ ap Some (sym (back pair.0 pair.2)) in
      (undone h, undo_made (can-undo _ h st some), moved map_of belongs s t rs p (p - 1) d (h.place - 1) h st (omega (arith, st.at_place)) shows)

  pub goes-redo : (s t : S) (rs : List R) (p d : ℕ) (r : R) → p < length rs → slice_get rs p ≡ Some r → ((after : Map) → belongs r (map_of s) after → map_of t ≡ after) → Goes map_of belongs (record { store = s; records = rs; place = p; depth = d }) command.Redo Done (record { store = t; records = rs; place = p + 1; depth = d })
  goes-redo s t rs p d r some at forward = λ h st.
      let pair = pair_after map_of belongs s rs p d h r st at in
      let shows : slice_get h.maps (h.place + 1) ≡ Some (map_of t) = pair.1 ∙ ap Some (sym (forward pair.0 pair.2)) in
      (redone h, redo_made (can-redo _ h st some), moved map_of belongs s t rs p (p + 1) d (h.place + 1) h st (omega (arith, st.at_place)) shows)

  pub goes-no_memory_to_undo : (s t : S) (rs : List R) (p d : ℕ) → 0 < p → map_of t ≡ map_of s → Goes map_of belongs (record { store = s; records = rs; place = p; depth = d }) command.Undo (Refused Memory) (record { store = t; records = rs; place = p; depth = d })
  goes-no_memory_to_undo s t rs p d some same = λ h st. (h, no_memory_to_undo (can-undo _ h st some), stayed map_of belongs s t rs p d h st same)

  pub goes-no_memory_to_redo : (s t : S) (rs : List R) (p d : ℕ) → p < length rs → map_of t ≡ map_of s → Goes map_of belongs (record { store = s; records = rs; place = p; depth = d }) command.Redo (Refused Memory) (record { store = t; records = rs; place = p; depth = d })
  goes-no_memory_to_redo s t rs p d some same = λ h st. (h, no_memory_to_redo (can-redo _ h st some), stayed map_of belongs s t rs p d h st same)
