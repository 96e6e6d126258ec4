-- A parcel that comes by a division or an enclosure, on the parts of a map on half-edges, from growth to rest.
use Rattle.std.proofs.Common.{◌≡◌, ◌≤◌, ◌+◌, ◌*◌, ℕ, sym, ap, subst, ◌∙◌, List, [], ◌∷◌, map, length, false, None, is_some, arith}
use Rattle.std.specs.Prelude.{Result, Ok, Err, IsErr}
use Rattle.std.specs.List.{AllByRecursion}
use Rattle.std.proofs.lemmas.List.{length-map}
use Rattle.cad_rows.specs.declared.names.Face.TheVariants.{Parcel}
use Rattle.cad_rows.specs.declared.rows.ParcelRow.{ParcelRow}
use Rattle.cad_rows.specs.declared.rows.StringRow.{StringRow}
use Rattle.cell_grid.specs.Grid.{Grid}
use Rattle.cad_map.specs.Costs.{work_bound}
use Rattle.cad_map.specs.Effects.{after}
use Rattle.cad_map.specs.Map.{Map, has_string, string_of}
use Rattle.cad_map.specs.Rings.{HasWholeRings}
use Rattle.cad_map.proofs.CallerLemmas.{whole_valid}
use Rattle.half_table.specs.declared.half.Half.{Half}
use Rattle.half_table.specs.Count.{greatest, ticked}
use Rattle.half_table.specs.Half.{forward_of}
use Rattle.half_table.specs.Rows.{HalfRows, Table, has, has_halves, next}
use Rattle.half_table.proofs.Strings.{has-string}
use Rattle.half_paths.specs.Path.{strings_of}
use Rattle.half_paths.specs.Loose.{is_of, numbers_of, AreLoose, AreNew, DropsStrings}
use Rattle.key_lists.specs.Held.{Held}
use Rattle.cad_laws.specs.Counts.{sides_of_face}
use Rattle.cad_laws.specs.Tried.{IsTried}
use Rattle.cad_surgery.specs.declared.draft.Draft.TheInside.{Inside}
use Rattle.cad_surgery.specs.declared.edits.adding.Course.{Course}
use Rattle.cad_surgery.specs.declared.edits.given.NewParcel.{NewParcel}
use Rattle.cad_surgery.specs.declared.edits.merging.Way.{Way}
use Rattle.cad_surgery.specs.declared.edits.merging.Way.TheVariants as way
use Rattle.cad_surgery.specs.NewParcels.{Comes, IsNewOn, IsPut, IsUndoable, AreBeside, CanTakeOut, Begins, IsOut, edit_by, ticks_by, ticks_out}
use Rattle.cad_surgery.specs.Proper.{IsProper}
use Rattle.cad_surgery.specs.Trials.{IsMade}
use Rattle.cad_surgery.specs.Work.{TakesWork, TicksUpTo}
use Rattle.cad_map.specs.declared.map_rows.MapRows.{MapRows}
use Rattle.map_parts.specs.declared.stars.Spoke.{Spoke}
use Rattle.map_parts.specs.Dividing.{CanUndivide}
use Rattle.map_parts.specs.Enclosing.{CanOpen}
use Rattle.map_parts.specs.Parts.{Parts, FitTogether, map_of, kept_at}
use Rattle.map_parts.specs.Paths.{HasStringsMore}
use Rattle.map_parts.specs.Splitting.{FitMap}
use Rattle.map_parts.proofs.AddedStrings.{strings-path}
use Rattle.cad_surgery.proofs.DraftFits.{draft-fits, draft-all}
use Rattle.cad_surgery.proofs.FitParts.{parts, parts-in, GoWith, at-rest, stand-for}
use Rattle.cad_surgery.proofs.LooseBeside as unseen
use Rattle.cad_surgery.proofs.LooseBeside.{AreHidden, either}
use Rattle.cad_surgery.proofs.Trials.{is-left, is-left-too, is-made}
use Rattle.cad_surgery.proofs.WorkTaken.{ticks-just, ticks-fewer, ticks-then, ticks-work, work-allowed}

-- what it may take of work
pub new-work : (m : Map) (w : Way) (d : NewParcel) → IsTried m (edit_by w d)
    → 16 * (length d.strings.now + 2) + 4 * sides_of_face (Parcel d.parcel) (after m (edit_by w d)) ≤ work_bound m (after m (edit_by w d))
new-work m (way.Along start end) d tried = let w = work-allowed m (edit_by (way.Along start end) d) tried in omega (arith, w)
new-work m way.Round d tried = let w = work-allowed m (edit_by way.Round d) tried in omega (arith, w)

-- ---- The strings that come with it

-- a path has a half for each of its strings
pub path-long : {path : List Half} (numbers : List ℕ) → path ≡ map forward_of numbers → length path ≡ length numbers
path-long numbers path_is = ap length path_is ∙ length-map numbers forward_of

module _ (added : List StringRow) (numbers : List ℕ) (numbered : numbers_of added ≡ numbers) where
  -- there is a row for each number
  pub added-long : length added ≡ length numbers
  added-long = sym (length-map added (λ (s : StringRow). s.number)) ∙ ap length numbered

  -- they are the strings of the path along them
  pub path-strings : {path : List Half} → path ≡ map forward_of numbers → strings_of path ≡ numbers_of added
  path-strings path_is = ap strings_of path_is ∙ strings-path numbers ∙ sym numbered

  -- where the map has none of them, its table has none
  pub new-strings : (m : Map) (table : HalfRows) → ((h : Half) → has table h ≡ has_string m h.string) → AllByRecursion (λ n. string_of m n ≡ None) numbers → AreNew table added
  new-strings m table all none = each added (subst (AllByRecursion (λ n. string_of m n ≡ None)) (sym numbered) none)
    where
      each : (ss : List StringRow) → AllByRecursion (λ n. string_of m n ≡ None) (numbers_of ss) → AllByRecursion (λ (s : StringRow). has_halves table s.number ≡ false) ss
      each [] none = tt
      each (s ∷ ss) none = (sym (has-string table (forward_of s.number)) ∙ all (forward_of s.number) ∙ ap is_some none.0, each ss none.1)

-- ---- Put in, and taken out

-- it is in
pub put-in : {A E : Type 0} {m : Map} {w : Way} {d : NewParcel} {path moved : List Half} {before : Table} {rows : MapRows} {t : Table} {held : Held Half} {stars : Held Spoke} {a : A}
    → before.work ≤ greatest → HasWholeRings (after m (edit_by w d)) → HasStringsMore m (after m (edit_by w d)) path → AreBeside path m t.rows
    → FitMap (after m (edit_by w d)) rows t.rows held stars → CanTakeOut m w d path moved before rows t held stars → Begins {A = A} {E = E} m w d path moved before rows t held stars (Ok a)
put-in {m = m} {w = w} {d = d} {path = path} within whole more beside fits back = record {
  within = within;
  put = record {
    whole = whole;
    fits = fits;
    all = λ h. beside h ∙ either (is_of (strings_of path) h) (has_string m h.string) ∙ sym (more.all h);
    ticks = back.ticks;
  };
  back = back;
  err = tt;
  err_rows = tt;
  err_ticks = tt;
}

-- the same with the way, and the path's first half and others, that it has
pub new-as : {m : Map} {w v : Way} {d : NewParcel} {path whole moved : List Half} {added : List StringRow} {row : ParcelRow} {rows : MapRows} {table : Table} {held : Held Half} {stars : Held Spoke}
    → w ≡ v → path ≡ whole → IsNewOn m w d path moved added row rows table held stars → IsNewOn m v d whole moved added row rows table held stars
new-as {m} {d = d} {moved = moved} {added} {row} {rows} {table} {held} {stars} is parted =
    subst (λ (q : Way × List Half). IsNewOn m q.0 d q.1 moved added row rows table held stars) (λ i. (is i, parted i))

pub begins-as : {A E : Type 0} {m : Map} {w v : Way} {d : NewParcel} {path whole moved : List Half} {before : Table} {rows : MapRows} {t : Table} {held : Held Half} {stars : Held Spoke} {r : Result A E}
    → w ≡ v → path ≡ whole → Begins m v d whole moved before rows t held stars r → Begins m w d path moved before rows t held stars r
begins-as {m = m} {d = d} {moved = moved} {before} {rows} {t} {held} {stars} {r} is parted =
    subst (λ (q : Way × List Half). Begins m q.0 d q.1 moved before rows t held stars r) (λ i. (sym is i, sym parted i))

-- it goes out
module _ {m : Map} {w : Way} {d : NewParcel} {path moved : List Half} {before : Table} {rows : MapRows} {t : Table} {held : Held Half} {stars : Held Spoke}
    (can : CanTakeOut m w d path moved before rows t held stars) where
  module _ {first : Half} {others : List Half} (parted : path ≡ first ∷ others) where
    pub undo-as : {v : Way} → w ≡ v → IsUndoable v (first ∷ others) m d moved rows t.rows held stars
    undo-as is = subst (λ (q : Way × List Half). IsUndoable q.0 q.1 m d moved rows t.rows held stars) (λ i. (is i, parted i)) can.undo

    pub taken-out : {v : Way} → w ≡ v → {back : MapRows} {u : Table} {put : Held Half} {wide : Held Spoke} → FitMap m back u.rows put wide → AreLoose (next u.rows) (first ∷ others)
        → ((h : Half) → has u.rows h ≡ has t.rows h) → u.work ≡ ticked (ticks_out v (first ∷ others) moved t.rows) t.work → IsOut m w d path before back u put wide
    taken-out {v} is {u = u} fits loose has_same work =
        let few = subst (λ (q : Way × List Half). ticks_out q.0 q.1 moved t.rows ≤ ticks_by m w d) (λ i. (is i, parted i)) can.few in
        record {
          fits = fits;
          beside = λ h. has_same h ∙ can.beside h;
          loose = subst (AreLoose (next u.rows)) (sym parted) loose;
          ticks = ticks-then before t u (ticks_by m w d) (ticks_by m w d) can.ticks
              (ticks-fewer t u (ticks_out v (first ∷ others) moved t.rows) (ticks_by m w d) few (ticks-just t u (ticks_out v (first ∷ others) moved t.rows) work));
        }

pub out-along : {m : Map} {w : Way} {start end : Half} {d : NewParcel} {path moved : List Half} {before : Table} {rows : MapRows} {t : Table} {held : Held Half} {stars : Held Spoke}
    (can : CanTakeOut m w d path moved before rows t held stars) {first : Half} {others : List Half} (parted : path ≡ first ∷ others) (is : w ≡ way.Along start end)
    {back : MapRows} {u : Table} {put : Held Half} {wide : Held Spoke} → ((c : CanUndivide d.face d.strings.now d.parcel (first ∷ others) moved rows t.rows held stars) → FitMap c.map back u.rows put wide)
    → AreLoose (next u.rows) (first ∷ others) → ((h : Half) → has u.rows h ≡ has t.rows h) → u.work ≡ ticked (ticks_out (way.Along start end) (first ∷ others) moved t.rows) t.work
    → IsOut m w d path before back u put wide
out-along can parted is {back} {u} {put} {wide} fits =
    let undo = undo-as can parted is in
    taken-out can parted is (subst (λ (q : Map). FitMap q back u.rows put wide) undo.1 (fits undo.0))

pub out-round : {m : Map} {w : Way} {d : NewParcel} {path moved : List Half} {before : Table} {rows : MapRows} {t : Table} {held : Held Half} {stars : Held Spoke}
    (can : CanTakeOut m w d path moved before rows t held stars) {first : Half} {others : List Half} (parted : path ≡ first ∷ others) (is : w ≡ way.Round)
    {back : MapRows} {u : Table} {put : Held Half} {wide : Held Spoke} → ((c : CanOpen d.face d.strings.now d.parcel (first ∷ others) moved rows t.rows held stars) → FitMap c.map back u.rows put wide)
    → AreLoose (next u.rows) (first ∷ others) → ((h : Half) → has u.rows h ≡ has t.rows h) → u.work ≡ ticked (ticks_out way.Round (first ∷ others) moved t.rows) t.work
    → IsOut m w d path before back u put wide
out-round can parted is {back} {u} {put} {wide} fits =
    let undo = undo-as can parted is in
    taken-out can parted is (subst (λ (q : Map). FitMap q back u.rows put wide) undo.1 (fits undo.0))

-- ---- On a draft

module _ {T : Type 0} (inside : Inside T) {v : Parts} (view : parts-in inside ≡ v) (fit : FitTogether (parts-in inside)) (d : NewParcel) (k : Course)
    (added : List StringRow) (row : ParcelRow) (tried : IsTried (map_of v) (edit_by k.way d)) (rest : IsProper (map_of v) v.table.rows (kept_at v))
    (comes : Comes k.way (map_of v) v.table.rows d added row k.path.now k.moved.now) where
  abbrev w : Way
  w = k.way

  abbrev path : List Half
  path = k.path.now

  abbrev moved : List Half
  moved = k.moved.now

  abbrev grid : Grid
  grid = inside.grid

  abbrev old : Map
  old = map_of v

  abbrev made : Map
  made = after old (edit_by w d)

  whole_old : HasWholeRings old
  whole_old = whole_valid old tried.valid

  pub on : IsNewOn old w d path moved added row inside.rows inside.table inside.kept inside.stars
  on = record {
    tried = tried;
    comes = subst (λ (q : Parts). Comes w old q.table.rows d added row path moved) (sym view) comes;
    fits = draft-fits inside.rows inside.table inside.kept inside.stars grid v view fit whole_old;
    all = draft-all inside.rows inside.table inside.kept inside.stars grid v view rest;
  }

  -- ticks that are few enough are work within the bound
  in-work : {t : Table} → inside.table.work ≤ greatest → (n : ℕ) → n ≤ work_bound old made → TicksUpTo n inside.table t → TakesWork v.table t (work_bound old made)
  in-work {t} within n low ticks = subst (λ (q : Parts). TakesWork q.table t (work_bound old made)) view (ticks-work inside.table t n (work_bound old made) within low ticks)

  module _ {A E : Type 0} {new : MapRows} {t : Table} {put : Held Half} {wide : Held Spoke} where
    -- where memory ran out
    module _ {f : E} (begins : (m : Map) → IsNewOn m k.way d k.path.now k.moved.now added row inside.rows inside.table inside.kept inside.stars → Begins {A = A} {E = E} m k.way d k.path.now k.moved.now inside.table new t put wide (Err f)) where
      pub left : GoWith old new t put wide
      left = record { whole = whole_old; fits = (begins old on).err }

      pub left-made : {B F : Type 0} {r : Result B F} → IsErr r → IsMade (edit_by w d) v (parts new t put wide grid) r
      left-made is =
          let it = begins old on in
          let most = new-work old w d tried in
          is-left-too is (ap (λ (d : Parts). d.grid) view) (at-rest grid left (λ h. ap (λ (l : HalfRows). has l h) it.err_rows ∙ on.all h))
          (in-work it.within (ticks_by old w d) (omega (arith, most)) it.err_ticks) (stand-for grid left)

    -- where it is made
    module _ {a : A} (begins : (m : Map) → IsNewOn m k.way d k.path.now k.moved.now added row inside.rows inside.table inside.kept inside.stars → Begins {A = A} {E = E} m k.way d k.path.now k.moved.now inside.table new t put wide (Ok a)) where
      put_it : IsPut old w d inside.table new t put wide
      put_it = (begins old on).put

      back_it : CanTakeOut old w d path moved inside.table new t put wide
      back_it = (begins old on).back

      pub gone-through : GoWith made new t put wide
      gone-through = record { whole = put_it.whole; fits = put_it.fits }

      pub stands : map_of (parts new t put wide grid) ≡ made
      stands = stand-for grid gone-through

      pub done : {B F : Type 0} {b : B} → IsMade {A = B} {E = F} (edit_by w d) v (parts new t put wide grid) (Ok b)
      done =
          let most = new-work old w d tried in
          is-made (ap (λ (d : Parts). d.grid) view) (at-rest grid gone-through put_it.all)
          (in-work (begins old on).within (ticks_by old w d) (omega (arith, most)) put_it.ticks) stands

      -- ---- And taken back

      pub undoing : (m : Map) × (before : Table) × CanTakeOut m w d path moved before new t put wide
      undoing = (old, inside.table, back_it)

      module _ {back : MapRows} {u : Table} {kept : Held Half} {star : Held Spoke}
          (taken : (m : Map) → (before : Table) → CanTakeOut m w d path moved before new t put wide → IsOut m w d path before back u kept star) where
        out_it : IsOut old w d path inside.table back u kept star
        out_it = taken old inside.table back_it

        pub back-with : GoWith old back u kept star
        back-with = record { whole = whole_old; fits = out_it.fits }

        pub hidden-now : AreHidden path (parts back u kept star grid)
        hidden-now = unseen.hidden-now path back-with out_it.beside back_it.new grid back_it.different out_it.loose

        pub back-made : {B F : Type 0} {f : F} (p : Parts) → p ≡ record (parts back u kept star grid) { table = p.table } → FitTogether p → map_of p ≡ map_of (parts back u kept star grid)
            → DropsStrings path u.rows p.table.rows → p.table.work ≡ ticked (length path) u.work → IsMade {A = B} (edit_by w d) v p (Err f)
        back-made p are whole is drops work =
            let most = new-work old w d tried in
            let long = back_it.long in
            is-left (ap (λ (d : Parts). d.grid) are ∙ ap (λ (d : Parts). d.grid) view)
            (unseen.hidden-gone path back-with out_it.beside back_it.new grid p whole is drops)
            (in-work (begins old on).within (ticks_by old w d + ticks_by old w d + length path) (omega (arith, most, long))
            (ticks-then inside.table u p.table (ticks_by old w d + ticks_by old w d) (length path) out_it.ticks (ticks-just u p.table (length path) work)))
            (is ∙ stand-for grid back-with)
