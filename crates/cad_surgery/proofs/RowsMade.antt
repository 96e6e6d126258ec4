-- An edit of rows alone that was made of a valid map: what is there after it, and how it is taken back.
use Rattle.std.proofs.Common.{◌≡◌, ◌≢◌, ◌≤◌, ℕ, List, [], ◌∷◌, ◌++◌, true, false, not, ◌==◌, nat_eq, cond, Bool, map, filter, refl, sym, ap, ◌∙◌, subst, Option, Some, None, is_some, slice_get, insert, length}
use Rattle.std.specs.Prelude.{unwrap_or, option_map, find}
use Rattle.std.specs.List.{list_any}
use Rattle.std.proofs.lemmas.Bool.{eq-eqb}
use Rattle.geo_exact.specs.Position.{Position}
use Rattle.cad_rows.specs.declared.edits.Edit.TheVariants as edit
use Rattle.cad_rows.specs.declared.names.Item.{Item}
use Rattle.cad_rows.specs.declared.names.Item.TheVariants as item
use Rattle.cad_rows.specs.declared.names.Name.TheVariants as name
use Rattle.cad_rows.specs.declared.refusals.Refusal.TheVariants as told
use Rattle.cad_rows.specs.declared.rows.PointRow.{PointRow}
use Rattle.cad_rows.specs.declared.rows.StringRow.{StringRow}
use Rattle.cad_rows.specs.declared.rows.ParcelRow.{ParcelRow}
use Rattle.cad_rows.specs.declared.rows.SourceRow.{SourceRow}
use Rattle.cad_map.specs.Changes.{change_point, change_parcel, change_sources}
use Rattle.cad_map.specs.Effects.{after}
use Rattle.cad_map.specs.Map.{Map, point_of, parcel_of, string_of}
use Rattle.cad_map.specs.Refusals.{is_there, item_named, is_attached, sources_at}
use Rattle.numbered_rows.specs.Rows.{row_with, without_row}
use Rattle.cad_map.specs.Valid.{IsValid, EachPair, AreSources}
use Rattle.cad_map.proofs.CallerLemmas.{IsAllowed, allowed, free-source, free-point, there-one, not-when, find-Contains, All-at_each}
use Rattle.edit_records.specs.Record.{edit_of, IsMadeOf}
use Rattle.edit_records.specs.declared.record.SmallRecord.{SmallRecord}
use Rattle.edit_records.specs.declared.record.SmallRecord.TheVariants.{AddSource, AddPoint, DropPoint, Move, Attach, Detach, Rename}
use Rattle.cad_surgery.specs.RowEdits.{without_rings}
use Rattle.numbered_rows.proofs.Removed.{none-taken}
use Rattle.cad_laws.proofs.CallerLemmas.{filter-push, none-any, without-push, insert-without}
use Rattle.map_parts.proofs.RowsUndone.{HasNumbers, IsChanged, changed, point-known, parcel-known, moved-back, named-back, place-left}

-- ---- Lists

some-push : {R : Type 0} (number : R → ℕ) (rows : List R) (row : R) → is_some (row_with number (number row) (rows ++ row ∷ [])) ≡ true
some-push number [] row = rw (eq-eqb (number row) (number row) refl) refl
some-push number (r ∷ rows) row = by (nat_eq (number r) (number row)) refl (some-push number rows row)
  where
    by : (b : Bool) → nat_eq (number r) (number row) ≡ b → is_some (row_with number (number row) (rows ++ row ∷ [])) ≡ true
        → is_some (row_with number (number row) (r ∷ (rows ++ row ∷ []))) ≡ true
    by true is rest = rw is refl
    by false is rest = rw is rest

any-push : (s : ℕ) (ss : List ℕ) → list_any (λ t. t == s) (ss ++ s ∷ []) ≡ true
any-push s [] = rw (eq-eqb s s refl) refl
any-push s (t ∷ ss) = by (nat_eq t s) refl (any-push s ss)
  where
    by : (b : Bool) → nat_eq t s ≡ b → list_any (λ t. t == s) (ss ++ s ∷ []) ≡ true → list_any (λ t. t == s) (t ∷ (ss ++ s ∷ [])) ≡ true
    by true is rest = rw is refl
    by false is rest = rw is rest

map-self : (ns : List ℕ) → map (λ n. n) ns ≡ ns
map-self [] = refl
map-self (n ∷ ns) = ap (λ (l : List ℕ). n ∷ l) (map-self ns)

-- ---- The valid map

module _ (m : Map) (valid : IsValid m) where
  pub numbers : HasNumbers (without_rings m)
  numbers = record {
    points = valid.sound.v1.points.distinct;
    strings = valid.sound.v1.strings.distinct;
    parcels = valid.sound.v1.parcels.distinct;
  }

  -- no source is twice among those of an item
  distinct-sources : (i : Item) → EachPair (λ a b. a ≢ b) (sources_at m i)
  distinct-sources (item.Point n) = by (point_of m n) refl
    where
      by : (o : Option PointRow) → point_of m n ≡ o → EachPair (λ a b. a ≢ b) (unwrap_or (option_map (λ r. r.sources) o) [])
      by None is = tt
      by (Some r) is = (All-at_each (λ (r : PointRow). AreSources m.sources r.sources) m.points r valid.sound.v1.point_sources (find-Contains (λ (r : PointRow). r.number == n) m.points r is).0).distinct
  distinct-sources (item.String n) = by (string_of m n) refl
    where
      by : (o : Option StringRow) → string_of m n ≡ o → EachPair (λ a b. a ≢ b) (unwrap_or (option_map (λ r. r.sources) o) [])
      by None is = tt
      by (Some r) is = (All-at_each (λ (r : StringRow). AreSources m.sources r.sources) m.strings r valid.sound.v1.string_sources (find-Contains (λ (r : StringRow). r.number == n) m.strings r is).0).distinct
  distinct-sources (item.Parcel n) = by (parcel_of m n) refl
    where
      by : (o : Option ParcelRow) → parcel_of m n ≡ o → EachPair (λ a b. a ≢ b) (unwrap_or (option_map (λ r. r.sources) o) [])
      by None is = tt
      by (Some r) is = (All-at_each (λ (r : ParcelRow). AreSources m.sources r.sources) m.parcels r valid.sound.v1.parcel_sources (find-Contains (λ (r : ParcelRow). r.number == n) m.parcels r is).0).distinct

-- what nothing speaks against at once
free : (m : Map) (r : SmallRecord) → IsMadeOf r m → IsAllowed m (edit_of r)
free m r made = allowed m (edit_of r) made.allowed

module _ (m o : Map) where
  -- ---- Sources and points that came

  pub source-back : (row : SourceRow) → IsMadeOf (AddSource row) m → o ≡ after (without_rings m) (edit.AddSource row.number row.text)
      → record o { sources = without_row (λ r. r.number) row.number o.sources } ≡ without_rings m
  unfolding after
  source-back row made is =
      ap (λ (q : Map). record q { sources = without_row (λ r. r.number) row.number q.sources }) is
      ∙ ap (λ (l : List SourceRow). record m { sources = l; boundaries = [] })
      (without-push (λ (r : SourceRow). r.number) m.sources row (free-source m row.number row.text (free m (AddSource row) made).taken))

  pub point-came : (p : ℕ) (at : Position) → o ≡ after (without_rings m) (edit.AddPoint p at.x at.y) → is_some (point_of o p) ≡ true
  unfolding after
  point-came p at is =
      ap (λ (q : Map). is_some (point_of q p)) is
      ∙ some-push (λ (r : PointRow). r.number) m.points (record { number = p; position = at; sources = [] })

  pub point-back : (p : ℕ) (at : Position) → IsMadeOf (AddPoint p at) m → o ≡ after (without_rings m) (edit.AddPoint p at.x at.y)
      → record o { points = without_row (λ r. r.number) p o.points } ≡ without_rings m
  unfolding after
  point-back p at made is =
      ap (λ (q : Map). record q { points = without_row (λ r. r.number) p q.points }) is
      ∙ ap (λ (l : List PointRow). record m { points = l; boundaries = [] })
      (without-push (λ (r : PointRow). r.number) m.points (record { number = p; position = at; sources = [] }) (free-point m p at.x at.y (free m (AddPoint p at) made).taken))

  -- ---- A point that went

  pub dropped-gone : (p : ℕ) → o ≡ after (without_rings m) (edit.DropPoint p) → point_of o p ≡ None
  unfolding after
  dropped-gone p is = ap (λ (q : Map). point_of q p) is ∙ none-taken (λ (r : PointRow). r.number) p m.points

  pub dropped-place : (row : PointRow) (place : ℕ) → IsMadeOf (DropPoint row place) m → o ≡ after (without_rings m) (edit.DropPoint row.number) → place ≤ length o.points
  unfolding after
  dropped-place row place made is =
      subst (λ (q : Map). place ≤ length q.points) (sym is)
      (place-left (λ (r : PointRow). r.number) m.points place row made.valid.sound.v1.points.distinct made.holds)

  pub dropped-back : (row : PointRow) (place : ℕ) → IsMadeOf (DropPoint row place) m → o ≡ after (without_rings m) (edit.DropPoint row.number)
      → record o { points = insert o.points place row } ≡ without_rings m
  unfolding after
  dropped-back row place made is =
      ap (λ (q : Map). record q { points = insert q.points place row }) is
      ∙ ap (λ (l : List PointRow). record m { points = l; boundaries = [] })
      (insert-without (λ (r : PointRow). r.number) m.points place row made.valid.sound.v1.points.distinct made.holds)

  -- ---- A point that lies elsewhere

  pub moved-there : (p : ℕ) (from to : Position) → IsMadeOf (Move p from to) m → o ≡ after (without_rings m) (edit.Move p to.x to.y) → is_some (point_of o p) ≡ true
  unfolding after
  moved-there p from to made is =
      ap (λ (q : Map). is_some (point_of q p)) is
      ∙ point-known (without_rings m) p (λ r. record r { position = to }) (λ r. refl)
      ∙ there-one m (name.Point p) (free m (Move p from to) made).unknown

  pub moved-away : (p : ℕ) (from to : Position) → IsMadeOf (Move p from to) m → o ≡ after (without_rings m) (edit.Move p to.x to.y)
      → change_point p (λ r. record r { position = from }) o ≡ without_rings m
  unfolding after
  moved-away p from to made is =
      ap (change_point p (λ r. record r { position = from })) is ∙ moved-back (without_rings m) p from to (numbers m made.valid) made.holds

  -- ---- A parcel with another label

  pub named-there : (p : ℕ) (from to : List ℕ) → IsMadeOf (Rename p from to) m → o ≡ after (without_rings m) (edit.Rename p to) → is_some (parcel_of o p) ≡ true
  unfolding after
  named-there p from to made is =
      ap (λ (q : Map). is_some (parcel_of q p)) is
      ∙ parcel-known (without_rings m) p (λ r. record r { label = to }) (λ r. refl)
      ∙ there-one m (name.Parcel p) (free m (Rename p from to) made).unknown

  pub named-again : (p : ℕ) (from to : List ℕ) → IsMadeOf (Rename p from to) m → o ≡ after (without_rings m) (edit.Rename p to)
      → change_parcel p (λ r. record r { label = from }) o ≡ without_rings m
  unfolding after
  named-again p from to made is =
      ap (change_parcel p (λ r. record r { label = from })) is ∙ named-back (without_rings m) p from to (numbers m made.valid) made.holds

-- ---- A source that was attached, or detached

-- an item that is named, with a source
there-named : (m : Map) (i : Item) (s : ℕ) → option_map (λ n. told.Unknown n) (find (λ n. not (is_there m n)) (item_named i ∷ name.Source s ∷ [])) ≡ None → is_there m (item_named i) ≡ true
there-named m i s none = by (is_there m (item_named i)) refl
  where
    by : (b : Bool) → is_there m (item_named i) ≡ b → b ≡ true
    by true is = refl
    by false is =
        let some : Some (told.Unknown (item_named i)) ≡ None =
        sym (ap (λ (b : Bool). option_map (λ n. told.Unknown n) (cond (not b) (Some (item_named i)) (find (λ n. not (is_there m n)) (name.Source s ∷ [])))) is) ∙ none in
        cc

-- an item that was named is there
item-there : (m : Map) (i : Item) (s : ℕ) (r : SmallRecord) → IsMadeOf r m → (free_item : is_there m (item_named i) ≡ true) → is_there (without_rings m) (item_named i) ≡ true
item-there m (item.Point n) s r made there = there
item-there m (item.String n) s r made there = there
item-there m (item.Parcel n) s r made there = there

same-list : (m : Map) (i : Item) → sources_at (without_rings m) i ≡ sources_at m i
same-list m (item.Point n) = refl
same-list m (item.String n) = refl
same-list m (item.Parcel n) = refl

module _ (m o : Map) (i : Item) (s : ℕ) where
  abbrev put : List ℕ → List ℕ
  put sources = sources ++ s ∷ []

  abbrev left : List ℕ → List ℕ
  left sources = filter (λ t. not (t == s)) sources

  module _ (made : IsMadeOf (Attach i s) m) (is : o ≡ change_sources i put (without_rings m)) where
    put-changed : IsChanged (without_rings m) i put
    put-changed = changed (without_rings m) i put (item-there m i s (Attach i s) made (there-named m i s (free m (Attach i s) made).unknown))

    pub attached-there : is_there o (item_named i) ≡ true
    attached-there = ap (λ (q : Map). is_there q (item_named i)) is ∙ put-changed.there

    pub attached-has : is_attached o i s ≡ true
    attached-has = ap (λ (q : Map). is_attached q i s) is ∙ ap (list_any (λ t. t == s)) put-changed.sources ∙ any-push s (sources_at (without_rings m) i)

    pub attached-back : change_sources i left o ≡ without_rings m
    attached-back =
        ap (change_sources i left) is
        ∙ put-changed.back (numbers m made.valid) left
        (filter-push s (sources_at (without_rings m) i) (none-any s (sources_at (without_rings m) i)
        (ap (list_any (λ t. t == s)) (same-list m i) ∙ not-when _ _ (free m (Attach i s) made).already_attached)))

  module _ (place : ℕ) (made : IsMadeOf (Detach i s place) m) (is : o ≡ change_sources i left (without_rings m)) where
    left-changed : IsChanged (without_rings m) i left
    left-changed = changed (without_rings m) i left (item-there m i s (Detach i s place) made (there-named m i s (free m (Detach i s place) made).unknown))

    there-at : slice_get (sources_at (without_rings m) i) place ≡ Some s
    there-at = ap (λ (l : List ℕ). slice_get l place) (same-list m i) ∙ made.holds

    each : EachPair (λ a b. a ≢ b) (map (λ (n : ℕ). n) (sources_at (without_rings m) i))
    each = subst (EachPair (λ a b. a ≢ b)) (sym (map-self (sources_at (without_rings m) i) ∙ same-list m i)) (distinct-sources m made.valid i)

    pub detached-there : is_there o (item_named i) ≡ true
    detached-there = ap (λ (q : Map). is_there q (item_named i)) is ∙ left-changed.there

    pub detached-place : place ≤ length (sources_at o i)
    detached-place =
        subst (λ (l : List ℕ). place ≤ length l) (sym (ap (λ (q : Map). sources_at q i) is ∙ left-changed.sources))
        (place-left (λ (n : ℕ). n) (sources_at (without_rings m) i) place s each there-at)

    pub detached-back : change_sources i (λ sources. insert sources place s) o ≡ without_rings m
    detached-back =
        ap (change_sources i (λ sources. insert sources place s)) is
        ∙ left-changed.back (numbers m made.valid) (λ sources. insert sources place s)
        (insert-without (λ (n : ℕ). n) (sources_at (without_rings m) i) place s each there-at)
