-- An edit of rows alone on a map on half-edges, made for the first time or again by its record, and taken back.
use Rattle.std.proofs.Common.{◌≡◌, ◌≢◌, ◌∙◌, ap, map, subst, sym, None}
use Rattle.std.specs.Prelude.{IsTrue, Result, OnOk, OnErr}
use Rattle.std.proofs.lemmas.Result.{on_ok_weaker}
use Rattle.cad_rows.specs.declared.edits.Edit.{Edit}
use Rattle.cad_map.specs.Effects.{after}
use Rattle.cad_map.specs.Map.{Map}
use Rattle.cad_map.specs.Refusals.{first_refusal, unknown, taken, not_attached}
use Rattle.cad_map.specs.Valid.{EachPair}
use Rattle.cad_map.proofs.CallerLemmas.{allowed}
use Rattle.map_parts.specs.Parts.{Parts, FitTogether, rows_of, map_of}
use Rattle.cad_map.specs.MapRows.{map_in}
use Rattle.cad_surgery.specs.declared.draft.Draft.TheInside.{Inside}
use Rattle.cad_surgery.specs.RowEdits.{is_of_rows, HasSameEnds, KeepsBeside, with_rows, without_rings}
use Rattle.cad_surgery.proofs.DraftRows.{unknown-rows, taken-rows, not_attached-rows, made-ends, made-map, rows-after, unmade-ends, unmade-map, beside-rows}
use Rattle.cad_surgery.proofs.FitParts.{parts-in}
use Rattle.cad_surgery.proofs.RowsKept.{rows-fit}

module _ {T : Type 0} (inside : Inside T) {v : Parts} (view : parts-in inside ≡ v) (e : Edit) where
  abbrev d : Parts
  d = parts-in inside

  -- ---- What is asked of the rows

  module _ (none : first_refusal (map_of v) e ≡ None) where
    none-here : first_refusal (map_of d) e ≡ None
    none-here = subst (λ (q : Parts). first_refusal (map_of q) e ≡ None) (sym view) none

    pub all-known : unknown (map_in inside.rows) e ≡ None
    all-known = unknown-rows (map_of d) e ∙ (allowed (map_of d) e none-here).unknown

    pub none-taken : taken (map_in inside.rows) e ≡ None
    none-taken = taken-rows (map_of d) e ∙ (allowed (map_of d) e none-here).taken

    pub all-attached : not_attached (map_in inside.rows) e ≡ None
    all-attached = not_attached-rows (map_of d) e ∙ (allowed (map_of d) e none-here).not_attached

  -- ---- What becomes of the parts

  module _ (fit : FitTogether d) (alone : IsTrue (is_of_rows e)) {X Y : Type 0} (r : Result X Y) (m : Map)
      (made : OnOk r (m ≡ after (map_in inside.rows) e)) (err : OnErr r (m ≡ map_in inside.rows)) where
    same-ends : HasSameEnds (rows_of d) m
    same-ends = made-ends d fit e alone r m made err

    -- they fit together
    pub fits : FitTogether (with_rows d m)
    fits = rows-fit d m same-ends fit

    -- they are those of the map after it
    pub becomes : OnOk r (map_of (with_rows d m) ≡ after (map_of v) e)
    becomes = on_ok_weaker r (λ now. made-map d fit e alone m now ∙ ap (λ (q : Parts). after (map_of q) e) view) made

    -- the others stay
    pub beside : KeepsBeside v (with_rows d m)
    beside = subst (λ (q : Parts). KeepsBeside q (with_rows d m)) view (beside-rows d fit m same-ends)

  -- ---- What becomes of them where it is taken back

  module _ (fit : FitTogether d) (alone : IsTrue (is_of_rows e)) (b : Map) (each : EachPair (λ a b. a ≢ b) (map (λ s. s.number) b.strings))
      (is : map_of v ≡ after b e) where
    was : map_of d ≡ after b e
    was = ap map_of view ∙ is

    -- the rows are those after it
    pub rows-were : map_in inside.rows ≡ after (without_rings b) e
    rows-were = rows-after d fit e alone b each was

    -- with the rows before it they are those of the map before it
    pub back-to : (m : Map) → m ≡ without_rings b → map_of (with_rows d m) ≡ b
    back-to = unmade-map d fit e alone b each was

    module _ {X Y : Type 0} (r : Result X Y) (m : Map) (back : OnOk r (m ≡ without_rings b)) (err : OnErr r (m ≡ map_in inside.rows)) where
      ends-back : HasSameEnds (rows_of d) m
      ends-back = unmade-ends d fit e alone b each was r m back err

      -- they fit together
      pub fits-back : FitTogether (with_rows d m)
      fits-back = rows-fit d m ends-back fit

      -- the others stay
      pub beside-back : KeepsBeside v (with_rows d m)
      beside-back = subst (λ (q : Parts). KeepsBeside q (with_rows d m)) view (beside-rows d fit m ends-back)
