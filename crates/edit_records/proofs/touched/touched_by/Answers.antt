use Rattle.std.proofs.Common.{◌≡◌, ◌∷◌, [], ℕ, ℤ, sym, ap, ◌∙◌, Some, None, inl, inr}
use Rattle.std.specs.Prelude.{IsPermutation, Result, Ok, Err, IfOk, IsTrue, is_some}
use Rattle.std.specs.List.{Contains}
use Rattle.cad_rows.specs.declared.edits.Edit.TheVariants.{AddPoint, Split, Join, Divide, Merge, Move, Enclose}
use Rattle.cad_rows.specs.declared.memory.Memory.{Memory}
use Rattle.cad_rows.specs.declared.names.Face.{Face}
use Rattle.cad_rows.specs.declared.names.Face.TheVariants.{Parcel}
use Rattle.cad_rows.specs.declared.rows.StringRow.{StringRow}
use Rattle.cad_rings.specs.Cycle.{Side, opposite}
use Rattle.cad_map.specs.declared.boundary.Boundary.{Boundary}
use Rattle.cad_map.specs.Effects.{after}
use Rattle.cad_map.specs.Map.{Map, position_of, string_of, strings_at}
use Rattle.cad_map.specs.Touched.{IsTouched, neighbours}
use Rattle.cad_map.specs.Views.{HasSide}
use Rattle.cad_map.proofs.CallerLemmas.{whole_valid}
use Rattle.cad_laws.specs.Touching.{touching, joined_between, passes, goes_along, touched_by}
use Rattle.cad_near.specs.declared.Touched.{Touched}
use Rattle.std.proofs.lemmas.Result.{IfOk-weaker}
use Rattle.cad_laws.specs.Tried.{IsTried}
use Rattle.cad_near.specs.Near.{touched_of}
use Rattle.edit_records.specs.Told.{Tells}
use Rattle.edit_records.proofs.GridEdits.{split-there}
use Rattle.edit_records.proofs.TouchedLists.{point-more, move-more, split-more, join-more, just-touched, merge-more}
use Rattle.edit_records.proofs.touched.touched_by.Goals as goal

-- of each call's result, where memory was there
lone : (m : Map) (p : ℕ) (x y : ℤ) → IsTried m (AddPoint p x y) → (o : Result Touched Memory) → IfOk o (λ t. Contains t.points.items p)
    → IfOk o (λ t. Tells (touched_of t) None None)
    → IfOk o (λ t. IsTouched m (after m (AddPoint p x y)) (touched_of t))
lone m p x y tried (Ok t) point none = point-more m (touched_of t) p x y tried point none
lone m p x y tried (Err e) point none = tt

moved : (m : Map) (p : ℕ) (x y : ℤ) → IsTried m (Move p x y) → (o : Result Touched Memory) → IfOk o (λ t. Contains t.points.items p)
    → IfOk o (λ t. (s : StringRow) → Contains (strings_at m p) s → Contains t.strings.items s.number)
    → IfOk o (λ t. (b : Boundary) → Contains m.boundaries b → IsTrue (passes p b.ring) → Contains t.faces.items b.face)
    → IfOk o (λ t. Tells (touched_of t) (Some (record { point = p; from = position_of m p })) None)
    → IfOk o (λ t. IsTouched m (after m (Move p x y)) (touched_of t))
moved m p x y tried (Ok t) point strings faces lay = move-more m (touched_of t) p x y tried point strings faces lay
moved m p x y tried (Err e) point strings faces lay = tt

parted : (m : Map) (s p : ℕ) (x y : ℤ) (first second : ℕ) → IsTried m (Split s p x y first second) → (o : Result Touched Memory)
    → IfOk o (λ t. (r : StringRow) → string_of m s ≡ Some r → t.points.items ≡ p ∷ r.from ∷ r.to ∷ [])
    → IfOk o (λ t. t.strings.items ≡ first ∷ second ∷ [])
    → IfOk o (λ t. (r : StringRow) (b : Boundary) → string_of m s ≡ Some r → Contains m.boundaries b → IsTrue (goes_along r b.ring) → Contains t.faces.items b.face)
    → IfOk o (λ t. (r : StringRow) → string_of m s ≡ Some r → Tells (touched_of t) (Some (record { point = p; from = position_of m r.from })) None)
    → IfOk o (λ t. IsTouched m (after m (Split s p x y first second)) (touched_of t))
parted m s p x y first second tried (Ok t) points strings faces told =
    let there = split-there m s p x y first second tried in
    split-more m (touched_of t) s p x y first second there.0 tried there.1 (points there.0 there.1) strings (λ b. faces there.0 b there.1) (told there.0 there.1)
parted m s p x y first second tried (Err e) points strings faces told = tt

united : (m : Map) (p new : ℕ) → IsTried m (Join p new) → (o : Result Touched Memory)
    → IfOk o (λ t. IsPermutation (neighbours m p) t.points.items)
    → IfOk o (λ t. t.strings.items ≡ new ∷ [])
    → IfOk o (λ t. (b : Boundary) → Contains m.boundaries b → IsTrue (passes p b.ring) → Contains t.faces.items b.face)
    → IfOk o (λ t. Tells (touched_of t) None (joined_between m p t.points.items))
    → IfOk o (λ t. IsTouched m (after m (Join p new)) (touched_of t))
united m p new tried (Ok t) points strings faces told = join-more m (touched_of t) p new tried points strings faces told
united m p new tried (Err e) points strings faces told = tt

merged : (m : Map) (kept ended : Face) → IsTried m (Merge kept ended) → (o : Result Touched Memory)
    → IfOk o (λ t. (s : Side) → HasSide m ended s → HasSide m kept (opposite s) → Contains t.points.items s.0 × Contains t.points.items s.1)
    → IfOk o (λ t. Contains t.faces.items kept)
    → IfOk o (λ t. Tells (touched_of t) None None)
    → IfOk o (λ t. IsTouched m (after m (Merge kept ended)) (touched_of t))
merged m kept ended tried (Ok t) ends face none = merge-more m (touched_of t) kept ended tried ends face none
merged m kept ended tried (Err e) ends face none = tt

pub returns-in-AddPoint : goal.returns-in-AddPoint
returns-in-AddPoint g c =
    let it = c.in-AddPoint in
    let m = g.M.MapView.map c.args.map.now in
    rw it.is (lone m it.point it.x it.y (rw it.is at c.requires) c.lone.result c.lone.ensures.point c.lone.ensures.told)

pub beside-requires-clause-there : goal.beside-requires-clause-there
beside-requires-clause-there g c =
    let it = c.in-Split in
    let m = g.M.MapView.map c.args.map.now in
    let there = split-there m it.string it.point it.x it.y it.first it.second (rw it.is at c.requires) in
    ap is_some there.1

pub returns-in-Split : goal.returns-in-Split
returns-in-Split g c =
    let it = c.in-Split in
    let m = g.M.MapView.map c.args.map.now in
    rw it.is (parted m it.string it.point it.x it.y it.first it.second (rw it.is at c.requires) c.beside.result c.beside.ensures.points c.beside.ensures.strings c.beside.ensures.faces c.beside.ensures.told)

pub returns-in-Join : goal.returns-in-Join
returns-in-Join g c =
    let it = c.in-Join in
    let m = g.M.MapView.map c.args.map.now in
    rw it.is (united m it.point it.string (rw it.is at c.requires) c.across.result c.across.ensures.points c.across.ensures.strings c.across.ensures.faces c.across.ensures.told)

pub returns-in-Divide : goal.returns-in-Divide
returns-in-Divide g c =
    let it = c.in-Divide in
    let m = g.M.MapView.map c.args.map.now in
    rw it.is (IfOk-weaker c.along.result _ _
    (λ t is. just-touched m (touched_of t) (Divide it.face it.chain it.strings it.parcel it.label it.source) (rw it.is at c.requires)
    (is ∙ (λ i. touching (c.as_slice.ensures i) (c.as_slice-in-Divide.ensures i) (it.face ∷ Parcel it.parcel ∷ [])))) c.along.ensures)

pub between-requires : goal.between-requires
between-requires g c = whole_valid (g.M.MapView.map c.args.map.now) c.requires.valid

pub returns-in-Merge : goal.returns-in-Merge
returns-in-Merge g c =
    let it = c.in-Merge in
    let m = g.M.MapView.map c.args.map.now in
    rw it.is (merged m it.kept it.ended (rw it.is at c.requires) c.between.result c.between.ensures.points c.between.ensures.face c.between.ensures.told)

pub returns-in-Move : goal.returns-in-Move
returns-in-Move g c =
    let it = c.in-Move in
    let m = g.M.MapView.map c.args.map.now in
    rw it.is (moved m it.point it.x it.y (rw it.is at c.requires) c.around.result c.around.ensures.point c.around.ensures.strings c.around.ensures.faces c.around.ensures.told)

pub returns-in-Enclose : goal.returns-in-Enclose
returns-in-Enclose g c =
    let it = c.in-Enclose in
    let m = g.M.MapView.map c.args.map.now in
    rw it.is (IfOk-weaker c.along-in-Enclose.result _ _
    (λ t is. just-touched m (touched_of t) (Enclose it.face it.points it.strings it.parcel it.label it.source) (rw it.is at c.requires)
    (is ∙ (λ i. touching (c.as_slice-in-Enclose.ensures i) (c.as_slice-in-Enclose-2.ensures i) (it.face ∷ Parcel it.parcel ∷ [])))) c.along-in-Enclose.ensures)

pub returns-in-AddSource : goal.returns-in-AddSource
returns-in-AddSource g c =
    let m = g.M.MapView.map c.args.map.now in
    just-touched m (touched_of c.nothing.result) c.args.edit.now c.requires (c.nothing.ensures ∙ sym
    (elim c.in-AddSource.is [
      | inl h ↦ ap (touched_by m) h.2
      | inr r ↦ elim r [
        | inl h ↦ ap (touched_by m) h.1
        | inr r ↦ elim r [
          | inl h ↦ ap (touched_by m) h.2
          | inr r ↦ elim r [
            | inl h ↦ ap (touched_by m) h.2
            | inr h ↦ ap (touched_by m) h.2
          ]
        ]
      ]
    ]))
