-- Grids of two maps, of which each has entries that the other hasn't.
use Rattle.std.proofs.Common.{◌≡◌, ◌⊎◌, inl, inr, refl, subst, Bool, true, false, true≢false, sym, ap, ◌∙◌, List, [], ◌∷◌, arith}
use Rattle.std.specs.List.{Contains}
use Rattle.cad_map.specs.Map.{Map}
use Rattle.cad_map.proofs.CallerLemmas.{Contains-cases, Contains-first, Contains-later}
use Rattle.cell_grid.specs.declared.entry.Entry.{Entry}
use Rattle.cell_grid.specs.Entries.{is_same_entry}
use Rattle.cell_grid.specs.Kept.{Kept, HoldsSame}
use Rattle.cell_grid.specs.Together.{Listed, HoldsMore, HoldsLess, AreNew, AreHeld}
use Rattle.cell_grid.specs.Grid.{Grid}
use Rattle.cell_grid.proofs.CallerLemmas.{same_entry, is_itself}
use Rattle.cad_near.specs.Near.{HoldsMap}
use Rattle.edit_records.specs.Gridded.{HoldsJust}
use Rattle.edit_records.specs.Exchanged.{AreOnlyOf, IsExchange, HoldsBoth, IsGridOfBoth}
use Rattle.edit_records.proofs.GridRows.{held-strings, held-points}

-- an entry is among these, or isn't
among : (xs : List Entry) (e : Entry) → Contains xs e ⊎ (¬ Contains xs e)
among [] e = inr (λ h. let low = h.1 in omega arith)
among (x ∷ xs) e = by (is_same_entry x e) refl (among xs e)
  where
    by : (b : Bool) → is_same_entry x e ≡ b → Contains xs e ⊎ (¬ Contains xs e) → Contains (x ∷ xs) e ⊎ (¬ Contains (x ∷ xs) e)
    by true is rest = inl (subst (Contains (x ∷ xs)) (same_entry x e is) (Contains-first x xs))
    by false is (inl later) = inl (Contains-later x xs e later)
    by false is (inr none) = inr (λ h. elim (Contains-cases x xs e h) [
      | inl same ↦ true≢false (sym (is_itself x) ∙ ap (is_same_entry x) same ∙ is)
      | inr later ↦ none later
    ])

module _ (olds news : List Entry) (k : Kept) where
  -- what only the new ones have can come where the old ones are held, and then all are
  module _ (come : List Entry) (only : AreOnlyOf news olds come) (just : HoldsJust olds k) where
    pub can-enter : AreNew k come
    can-enter = record { others = λ e c held. ((only.is e).0 c).1 ((just e).0 held); once = only.once }

    pub entered : (new : Kept) → HoldsMore k come new → HoldsBoth olds news new
    entered new more e = (
      (λ held. elim ((more e).0 held) [
        | inl before ↦ inl ((just e).0 before)
        | inr c ↦ inr ((only.is e).0 c).0
      ]),
      (λ there. (more e).1 (elim there [
        | inl o ↦ inl ((just e).1 o)
        | inr n ↦ elim (among olds e) [
          | inl o ↦ inl ((just e).1 o)
          | inr off ↦ inr ((only.is e).1 (n, off))
        ]
      ])),
    )

  -- what only the old ones have can go where all are held, and then the new ones are
  module _ (gone : List Entry) (only : AreOnlyOf olds news gone) (both : HoldsBoth olds news k) where
    pub can-leave : AreHeld k gone
    can-leave = record { held = λ e c. (both e).1 (inl ((only.is e).0 c).0); once = only.once }

    pub left : (new : Kept) → HoldsLess k gone new → HoldsJust news new
    left new less e = (
      (λ held.
          let was = (less e).0 held in
          elim ((both e).0 was.0) [
            | inl o ↦ elim (among news e) [
              | inl n ↦ n
              | inr off ↦ absurd (was.1 ((only.is e).1 (o, off)))
            ]
            | inr n ↦ n
          ]),
      (λ n. (less e).1 ((both e).1 (inr n), λ c. ((only.is e).0 c).1 n)),
    )

pub same-just : (entries : List Entry) (old new : Kept) → HoldsSame old new → HoldsJust entries old → HoldsJust entries new
same-just entries old new same just e = ((λ held. (just e).0 ((same e).0 held)), (λ there. (same e).1 ((just e).1 there)))

-- read backwards what came goes
pub exchange-back : (old new : Map) (gone come : Listed) → IsExchange old gone come new → IsExchange new come gone old
exchange-back old new gone come x = record {
  strings_gone = x.strings_come;
  points_gone = x.points_come;
  strings_come = x.strings_gone;
  points_come = x.points_gone;
}

pub both-back : (g : Grid) (old new : Map) → IsGridOfBoth g old new → IsGridOfBoth g new old
both-back g old new both = record {
  strings = λ e. ((λ held. turned ((both.strings e).0 held)), (λ there. (both.strings e).1 (turned there)));
  points = λ e. ((λ held. turned ((both.points e).0 held)), (λ there. (both.points e).1 (turned there)));
}
  where
    turned : {X Y : Type 0} → X ⊎ Y → Y ⊎ X
    turned (inl x) = inr x
    turned (inr y) = inl y

-- the grid of two maps holds the second
pub both-holds : (g : Grid) (old new : Map) → IsGridOfBoth g old new → HoldsMap g new
both-holds g old new both = record {
  strings = held-strings g new (λ e there. (both.strings e).1 (inr there));
  points = held-points g new (λ e there. (both.points e).1 (inr there));
}
