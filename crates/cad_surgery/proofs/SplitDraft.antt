-- A split on the parts of a map on half-edges, from growth to rest.
use Rattle.std.proofs.Common.{◌≡◌, ◌≤◌, ◌+◌, ◌*◌, ℕ, refl, sym, ap, subst, ◌∙◌, List, [], ◌∷◌, length, Bool, true, false, ◌||◌, if◌then◌else◌, Some, None, is_some, slice_get, nat_eq, true≢false, arith}
use Rattle.std.specs.Prelude.{IsSome}
use Rattle.std.proofs.lemmas.Bool.{false_from_ne_true}
use Rattle.std.proofs.lemmas.Cmp.{nat_eq_equiv}
use Rattle.cad_rows.specs.declared.edits.Edit.TheVariants.{Split}
use Rattle.cad_rows.specs.declared.rows.StringRow.{StringRow}
use Rattle.cad_map.specs.Costs.{work_bound}
use Rattle.cad_map.specs.Effects.{after}
use Rattle.cad_map.specs.Map.{Map, string_of, has_string}
use Rattle.cad_rows.specs.declared.names.Name.TheVariants as name
use Rattle.cad_map.specs.Rings.{HasWholeRings}
use Rattle.cad_map.proofs.CallerLemmas.{allowed, there-one, found-number, whole_valid}
use Rattle.half_table.specs.declared.half.Half.{Half}
use Rattle.half_table.specs.Count.{greatest, ticked}
use Rattle.half_table.specs.Half.{forward_of, backward_of}
use Rattle.half_table.specs.Rows.{HalfRows, Table, has, has_halves, next, cycle}
use Rattle.half_table.proofs.Strings.{has-string}
use Rattle.half_paths.specs.Path.{AreIn, AreDifferent, strings_of}
use Rattle.half_paths.specs.Loose.{is_of, AreLoose, DropsStrings}
use Rattle.entry_list.specs.Slots.{HasSlot}
use Rattle.key_lists.specs.Held.{Held}
use Rattle.cad_laws.specs.Counts.{sides_through}
use Rattle.cad_laws.specs.Local.{IsShown}
use Rattle.cad_laws.specs.Tried.{IsTried}
use Rattle.cad_laws.proofs.CallerLemmas.{whole-after}
use Rattle.cad_map.specs.declared.map_rows.MapRows.{MapRows}
use Rattle.map_parts.specs.declared.stars.Spoke.{Spoke}
use Rattle.cad_surgery.specs.declared.draft.Draft.TheInside.{Inside}
use Rattle.cad_surgery.specs.declared.edits.try_split.Halving.{Halving}
use Rattle.cad_surgery.specs.declared.edits.try_split.SplitRows.{SplitRows}
use Rattle.cad_map.specs.MapRows.{map_in}
use Rattle.map_parts.specs.Parts.{Parts, FitTogether, HasHalves, map_of, kept_at}
use Rattle.map_parts.specs.Passing.{HasBetween, path_of}
use Rattle.cad_surgery.specs.Proper.{IsProper}
use Rattle.map_parts.specs.Splitting.{FitMap, CanUnsplit, CanBeginSplit}
use Rattle.cad_surgery.specs.Halvings.{split_by, split_rows}
use Rattle.cad_surgery.specs.Work.{TakesWork, TicksUpTo}
use Rattle.edit_records.proofs.EditExchanges.{some-from}
use Rattle.cad_surgery.proofs.DraftFits.{draft-fits, draft-all, draft-work, settled}
use Rattle.cad_surgery.proofs.LooseBeside.{AreUnseen, no-strings}
use Rattle.cad_surgery.proofs.FitParts.{parts, parts-in, GoWith, at-rest, stand-for}
use Rattle.cad_surgery.proofs.LooseBeside.{come-and-gone}
use Rattle.map_parts.proofs.Passing.BothMaps as both
use Rattle.map_parts.proofs.Passing.Lengths.{path-length, whole-length}
use Rattle.map_parts.proofs.Passing.SplitBetween.{split-has_between, split-free}
use Rattle.cad_surgery.proofs.WorkTaken.{work-allowed, ticks-just, ticks-then}

module _ (m : Map) (table : HalfRows) (all : (g : Half) → has table g ≡ has_string m g.string) where
  -- a table with a map's strings alone has none that the map hasn't
  pub table-free : (n : ℕ) → string_of m n ≡ None → has_halves table n ≡ false
  table-free n none = sym (has-string table (forward_of n)) ∙ all (forward_of n) ∙ ap is_some none

-- ---- Of one map

module _ (m : Map) (h : Halving) (string : ℕ) (tried : IsTried m (split_by string h)) where
  abbrev n : Map
  n = after m (split_by string h)

  whole : HasWholeRings m
  whole = whole_valid m tried.valid

  pub split-whole_after : HasWholeRings n
  split-whole_after = whole-after m (split_by string h) tried.valid tried.given tried.allowed tt

  pub split-there : (row : StringRow) × (string_of m string ≡ Some row)
  split-there =
      some-from (string_of m string)
      (there-one m (name.String string) (allowed m (split_by string h) tried.allowed).unknown)

  abbrev row : StringRow
  row = split-there.0

  abbrev it : HasBetween n m h.point row.from row.to (path_of string h.first h.second)
  it = split-has_between m string h.point h.position.x h.position.y h.first h.second row tried split-there.1

  -- ---- The string goes

  module _ (rows : MapRows) (table : HalfRows) (held : Held Half) (stars : Held Spoke) (fits : FitMap m rows table held stars)
      (all : (g : Half) → has table g ≡ has_string m g.string) where
    free : (string_of m h.first ≡ None) × (string_of m h.second ≡ None)
    free = split-free m string h.point h.position.x h.position.y h.first h.second row tried split-there.1

    abbrev can : CanBeginSplit string (split_rows row h).point (split_rows row h).first (split_rows row h).second rows table held stars
    can = record {
      map = m;
      row = row;
      tried = tried;
      found = split-there.1;
      no_sources = refl;
      first_is = refl;
      second_is = refl;
      fits = fits;
      new = (table-free m table all h.first free.0, (table-free m table all h.second free.1, tt));
    }

    module _ (k : SplitRows) (are : (r : StringRow) → string_of m string ≡ Some r → k ≡ split_rows r h) where
      is : split_rows row h ≡ k
      is = sym (are row split-there.1)

      pub split-begins : CanBeginSplit string k.point k.first k.second rows table held stars
      split-begins = subst (λ (k : SplitRows). CanBeginSplit string k.point k.first k.second rows table held stars) is can

      pub split-begun : (new : MapRows) (parted : HalfRows) (put : Held Half) (wide : Held Spoke)
          → ((c : CanBeginSplit string k.point k.first k.second rows table held stars)
          → FitMap (after c.map (Split string k.point.number k.point.position.x k.point.position.y k.first.number k.second.number)) new parted put wide)
          → FitMap n new parted put wide
      split-begun new parted put wide each =
          subst (λ (k : SplitRows). ((c : CanBeginSplit string k.point k.first k.second rows table held stars)
          → FitMap (after c.map (Split string k.point.number k.point.position.x k.point.position.y k.first.number k.second.number)) new parted put wide)
          → FitMap n new parted put wide) is (λ f. f can) each

      pub split-unbegun : (new : MapRows) (same : HalfRows) (put : Held Half) (wide : Held Spoke)
          → ((c : CanBeginSplit string k.point k.first k.second rows table held stars) → FitMap c.map new same put wide)
          → FitMap m new same put wide
      split-unbegun new same put wide each =
          subst (λ (k : SplitRows). ((c : CanBeginSplit string k.point k.first k.second rows table held stars)
          → FitMap c.map new same put wide) → FitMap m new same put wide) is (λ f. f can) each

      -- the numbers of the two strings
      pub split-has : (parted : HalfRows)
          → ((g : Half) → has parted g ≡ (if is_of (k.first.number ∷ k.second.number ∷ []) g then true else has table g))
          → (g : Half) → has parted g ≡ (if is_of (h.first ∷ h.second ∷ []) g then true else has_string m g.string)
      split-has parted each g =
          each g
          ∙ (λ i. if is_of ((sym is i).first.number ∷ (sym is i).second.number ∷ []) g then true else all g i)

      pub split-ticks : (parted : HalfRows) (now was : ℕ)
          → now ≡ ticked (2 + (length (cycle parted (forward_of k.first.number)) + length (cycle parted (backward_of k.second.number)) + 5)) was
          → now ≡ ticked (2 + (length (cycle parted (forward_of h.first)) + length (cycle parted (backward_of h.second)) + 5)) was
      split-ticks parted now was each =
          each
          ∙ (λ i. ticked (2 + (length (cycle parted (forward_of (sym is i).first.number)) + length (cycle parted (backward_of (sym is i).second.number)) + 5)) was)

  -- ---- The table has the two strings, and the string that was split loose

  module _ (parted : HalfRows)
      (more : (g : Half) → has parted g ≡ (if is_of (h.first ∷ h.second ∷ []) g then true else has_string m g.string)) where
    pub split-in : AreIn parted (forward_of string ∷ [])
    split-in = both.whole-in n m h.point row.from row.to (path_of string h.first h.second) it parted more

    pub split-hidden : (g : Half) → IsShown n g → is_of (strings_of (forward_of string ∷ [])) g ≡ false
    split-hidden = both.through-hidden n m h.point row.from row.to (path_of string h.first h.second) it

    pub split-one : AreDifferent (forward_of string ∷ [])
    split-one = both.whole-different n m h.point row.from row.to (path_of string h.first h.second) it

    -- without it the table has the strings of the map after it alone
    pub split-alone : (done : HalfRows) → DropsStrings (forward_of string ∷ []) parted done
        → (g : Half) → has done g ≡ has_string n g.string
    split-alone done drops g =
        drops.has g
        ∙ ap (λ (b : Bool). if is_of (strings_of (forward_of string ∷ [])) g then false else b) (more g)
        ∙ both.through-left n m h.point row.from row.to (path_of string h.first h.second) it g

    -- the two strings, where the split is taken back
    pub halves-in : (back : HalfRows) → ((g : Half) → has back g ≡ has parted g)
        → AreIn back (forward_of h.first ∷ forward_of h.second ∷ [])
    halves-in back same = (
      same (forward_of h.first) ∙ more (forward_of h.first)
          ∙ ap (λ (b : Bool). if b || (nat_eq h.first h.second || false) then true else has_string m h.first) (nat_eq_equiv.refl h.first),
      (
        same (forward_of h.second) ∙ more (forward_of h.second)
            ∙ ap (λ (b : Bool). if nat_eq h.second h.first || (b || false) then true else has_string m h.second) (nat_eq_equiv.refl h.second)
            ∙ either (nat_eq h.second h.first) (has_string m h.second),
        tt,
      ),
    )
      where
        either : (b c : Bool) → (if b || true then true else c) ≡ true
        either true c = refl
        either false c = refl

    pub back-alone : (back done : HalfRows) → ((g : Half) → has back g ≡ has parted g)
        → DropsStrings (forward_of h.first ∷ forward_of h.second ∷ []) back done
        → (g : Half) → has done g ≡ has_string m g.string
    back-alone back done same drops g =
        drops.has g
        ∙ ap (λ (b : Bool). if is_of (h.first ∷ h.second ∷ []) g then false else b) (same g ∙ more g)
        ∙ come-and-gone (is_of (h.first ∷ h.second ∷ []) g) (has_string m g.string)
        (both.past-hidden n m h.point row.from row.to (path_of string h.first h.second) it g)

  pub back-hidden : (g : Half) → IsShown m g → is_of (strings_of (forward_of h.first ∷ forward_of h.second ∷ [])) g ≡ false
  back-hidden = both.past-hidden n m h.point row.from row.to (path_of string h.first h.second) it

  pub back-different : AreDifferent (forward_of h.first ∷ forward_of h.second ∷ [])
  back-different = both.path-different n m h.point row.from row.to (path_of string h.first h.second) it

  -- ---- The split that is taken back

  pub split-back : (r : StringRow) (place : ℕ) (new : MapRows) (parted : HalfRows) (put : Held Half) (wide : Held Spoke)
      → string_of m string ≡ Some r → slice_get m.strings place ≡ Some r → FitMap n new parted put wide → HasHalves parted r
      → AreLoose (next parted) (forward_of string ∷ []) → HasSlot new.strings r.number
      → (c : CanUnsplit r place h.point h.first h.second new parted put wide) × (c.map ≡ m)
  split-back r place new parted put wide found at fits there loose slot =
      let number : string ≡ r.number = sym (found-number (λ (s : StringRow). s.number) string m.strings r found) in
      let c : CanUnsplit r place h.point h.first h.second new parted put wide = record {
        map = m;
        x = h.position.x;
        y = h.position.y;
        tried = subst (λ (s : ℕ). IsTried m (split_by s h)) number tried;
        at = at;
        fits = subst (λ (s : ℕ). FitMap (after m (split_by s h)) new parted put wide) number fits;
        there = there;
        loose = subst (λ (s : ℕ). AreLoose (next parted) (forward_of s ∷ [])) number loose;
        slot = slot;
      } in (c, refl)

  -- ---- Work

  pub path-few : (parted : HalfRows) (new : MapRows) (put : Held Half) (wide : Held Spoke) → FitMap n new parted put wide
      → length (cycle parted (forward_of h.first)) + length (cycle parted (backward_of h.second)) ≤ sides_through h.point n
  path-few parted new put wide fits = path-length n m h.point row.from row.to (path_of string h.first h.second) it parted put fits.fits

  pub whole-few : (back : HalfRows) (new : MapRows) (put : Held Half) (wide : Held Spoke) → FitMap m new back put wide
      → length (cycle back (forward_of string)) + length (cycle back (backward_of string)) ≤ sides_through h.point n
  whole-few back new put wide fits = whole-length n m h.point row.from row.to (path_of string h.first h.second) it back put fits.fits

  pub split-work : 80 + 4 * sides_through h.point n ≤ work_bound m n
  split-work = let w = work-allowed m (split_by string h) tried in omega (arith, w)

  -- ---- A split that was made, and the string comes again

  module _ (table : HalfRows) (all : (g : Half) → has table g ≡ has_string n g.string) where
    whole-gone : has_string n string ≡ false
    whole-gone =
        false_from_ne_true (has_string n string) (λ there.
        true≢false
        (sym (ap (λ (b : Bool). b || false) (nat_eq_equiv.refl string)) ∙ split-hidden-alone (forward_of string) there))
      where
        split-hidden-alone : (g : Half) → IsShown n g → is_of (strings_of (forward_of string ∷ [])) g ≡ false
        split-hidden-alone = both.through-hidden n m h.point row.from row.to (path_of string h.first h.second) it

    pub whole-free : has_halves table string ≡ false
    whole-free = sym (has-string table (forward_of string)) ∙ all (forward_of string) ∙ whole-gone

    module _ (whole : HalfRows)
        (more : (g : Half) → has whole g ≡ (if is_of (string ∷ []) g then true else has table g)) where
      more-of : (g : Half) → has whole g ≡ (if is_of (string ∷ []) g then true else has_string n g.string)
      more-of g = more g ∙ ap (λ (b : Bool). if is_of (string ∷ []) g then true else b) (all g)

      pub unsplit-in : AreIn whole (forward_of h.first ∷ forward_of h.second ∷ [])
      unsplit-in = both.path-in n m h.point row.from row.to (path_of string h.first h.second) it whole more-of

      pub unsplit-alone : (done : HalfRows) → DropsStrings (forward_of h.first ∷ forward_of h.second ∷ []) whole done
          → (g : Half) → has done g ≡ has_string m g.string
      unsplit-alone done drops g =
          drops.has g
          ∙ ap (λ (b : Bool). if is_of (h.first ∷ h.second ∷ []) g then false else b) (more-of g)
          ∙ both.past-left n m h.point row.from row.to (path_of string h.first h.second) it g

-- ---- A split that is made

module _ {T : Type 0} (inside : Inside T) {v : Parts} (view : parts-in inside ≡ v) (fit : FitTogether (parts-in inside)) (h : Halving) (string : ℕ)
    (tried : IsTried (map_of v) (split_by string h)) (rest : IsProper (map_of v) v.table.rows (kept_at v)) where
  abbrev old : Map
  old = map_of v

  abbrev made : Map
  made = after old (split_by string h)

  fits : FitMap old inside.rows inside.table.rows inside.kept inside.stars
  fits = draft-fits inside.rows inside.table inside.kept inside.stars inside.grid v view fit (whole_valid old tried.valid)

  all : (g : Half) → has inside.table.rows g ≡ has_string old g.string
  all = draft-all inside.rows inside.table inside.kept inside.stars inside.grid v view rest

  pub there-some : IsSome (string_of (map_in inside.rows) string)
  there-some =
      subst (λ (q : Parts). IsSome (string_of (map_of q) string)) (sym view)
      (subst IsSome (sym (split-there old h string tried).1) refl)

  -- what the rows that come are
  pub rows-come : (k : SplitRows) → ((r : StringRow) → string_of (map_in inside.rows) string ≡ Some r → k ≡ split_rows r h)
      → (r : StringRow) → string_of old string ≡ Some r → k ≡ split_rows r h
  rows-come k are r is = are r (ap (λ (q : Parts). string_of (map_of q) string) view ∙ is)

  module _ (k : SplitRows) (are : (r : StringRow) → string_of old string ≡ Some r → k ≡ split_rows r h) where
    pub begins : CanBeginSplit string k.point k.first k.second inside.rows inside.table.rows inside.kept inside.stars
    begins = split-begins old h string tried inside.rows inside.table.rows inside.kept inside.stars fits all k are

    pub left-work : (t : Table) → inside.table.work ≤ greatest → (count : ℕ) × (count ≤ 2) × (t.work ≡ ticked count inside.table.work)
        → TakesWork v.table t (work_bound old made)
    left-work t within it =
        let most = split-work old h string tried in
        draft-work inside.rows inside.table inside.kept inside.stars inside.grid v view t 2 (work_bound old made) within (omega (arith, most))
        (record { ticks = it.0; few = it.1; counted = it.2 })

    module _ {new : MapRows} (t : Table) {put : Held Half} {wide : Held Spoke} where
      -- where memory ran out
      module _ (each : (c : CanBeginSplit string k.point k.first k.second inside.rows inside.table.rows inside.kept inside.stars) → FitMap c.map new t.rows put wide) where
        pub left : GoWith old new t put wide
        left = record {
          whole = whole_valid old tried.valid;
          fits = split-unbegun old h string tried inside.rows inside.table.rows inside.kept inside.stars fits all k are new t.rows put wide each;
        }

        pub left-rest : t.rows ≡ inside.table.rows → IsProper (map_of (parts new t put wide inside.grid)) t.rows (kept_at (parts new t put wide inside.grid))
        left-rest same = at-rest inside.grid left (λ g. ap (λ (l : HalfRows). has l g) same ∙ all g)

      -- where it is made
      module _ (each : (c : CanBeginSplit string k.point k.first k.second inside.rows inside.table.rows inside.kept inside.stars)
          → FitMap (after c.map (Split string k.point.number k.point.position.x k.point.position.y k.first.number k.second.number)) new t.rows put wide) where
        pub gone-through : GoWith made new t put wide
        gone-through = record {
          whole = split-whole_after old h string tried;
          fits = split-begun old h string tried inside.rows inside.table.rows inside.kept inside.stars fits all k are new t.rows put wide each;
        }

        module _ (some : (g : Half) → has t.rows g ≡ (if is_of (k.first.number ∷ k.second.number ∷ []) g then true else has inside.table.rows g)) where
          more : (g : Half) → has t.rows g ≡ (if is_of (h.first ∷ h.second ∷ []) g then true else has_string old g.string)
          more = split-has old h string tried inside.rows inside.table.rows inside.kept inside.stars fits all k are t.rows some

          module _ (q : Half) (q_is : q ≡ forward_of string) where
            pub gone-unseen : AreUnseen (q ∷ []) (parts new t put wide inside.grid)
            gone-unseen = no-strings inside.grid gone-through (λ i. q_is i ∷ []) (split-one old h string tried t.rows more) (split-hidden old h string tried t.rows more)

            pub gone-proper : (d : Parts) → FitTogether d → map_of d ≡ map_of (parts new t put wide inside.grid)
                → DropsStrings (q ∷ []) t.rows d.table.rows → IsProper (map_of d) d.table.rows (kept_at d)
            gone-proper d d_fit same drops =
                settled d made d_fit (same ∙ (stand-for inside.grid gone-through)) (split-whole_after old h string tried)
                (split-alone old h string tried t.rows more d.table.rows (subst (λ (q : Half). DropsStrings (q ∷ []) t.rows d.table.rows) q_is drops))

          module _ (within : inside.table.work ≤ greatest)
              (work : t.work ≡ ticked (2 + (length (cycle t.rows (forward_of k.first.number)) + length (cycle t.rows (backward_of k.second.number)) + 5)) inside.table.work) where
            -- the ticks until it is made
            abbrev path : ℕ
            path = 2 + (length (cycle t.rows (forward_of h.first)) + length (cycle t.rows (backward_of h.second)) + 5)

            made-ticks : TicksUpTo path inside.table t
            made-ticks = ticks-just inside.table t path (split-ticks old h string tried inside.rows inside.table.rows inside.kept inside.stars fits all k are t.rows t.work inside.table.work work)

            pub gone-work : (u : Table) → u.work ≡ ticked 1 t.work → TakesWork v.table u (work_bound old made)
            gone-work u one =
                let most = split-work old h string tried in
                let few = path-few old h string tried t.rows new put wide gone-through.fits in
                draft-work inside.rows inside.table inside.kept inside.stars inside.grid v view u (path + 1) (work_bound old made) within (omega (arith, most, few))
                (ticks-then inside.table t u path 1 made-ticks (ticks-just t u 1 one))

          -- ---- And taken back

          module _ {r : StringRow} (place : ℕ) (found_in : string_of (map_in inside.rows) string ≡ Some r)
              (at_in : slice_get (map_in inside.rows).strings place ≡ Some r) (whole_there : HasHalves t.rows r)
              (loose : AreLoose (next t.rows) (forward_of string ∷ [])) (slot : HasSlot new.strings r.number) where
            found : string_of old string ≡ Some r
            found = subst (λ (q : Parts). string_of (map_of q) string ≡ Some r) view found_in

            at : slice_get old.strings place ≡ Some r
            at = subst (λ (q : Parts). slice_get q.strings place ≡ Some r) view at_in

            undo : (c : CanUnsplit r place h.point h.first h.second new t.rows put wide) × (c.map ≡ old)
            undo = split-back old h string tried r place new t.rows put wide found at gone-through.fits whole_there loose slot

            pub undo-begins : CanUnsplit r place h.point h.first h.second new t.rows put wide
            undo-begins = undo.0

            module _ {back : MapRows} (u : Table) {kept : Held Half} {star : Held Spoke}
                (undone : (c : CanUnsplit r place h.point h.first h.second new t.rows put wide) → FitMap c.map back u.rows kept star)
                (has_same : (g : Half) → has u.rows g ≡ has t.rows g) where
              pub gone-back : GoWith old back u kept star
              gone-back = record {
                whole = whole_valid old tried.valid;
                fits = subst (λ (m : Map). FitMap m back u.rows kept star) undo.1 (undone undo.0);
              }

              module _ (x y : Half) (are_two : (x ≡ forward_of h.first) × (y ≡ forward_of h.second)) where
                pub back-unseen : AreUnseen (x ∷ y ∷ []) (parts back u kept star inside.grid)
                back-unseen = no-strings inside.grid gone-back (λ i. are_two.0 i ∷ are_two.1 i ∷ []) (back-different old h string tried) (back-hidden old h string tried)

                pub back-proper : (d : Parts) → FitTogether d → map_of d ≡ map_of (parts back u kept star inside.grid)
                    → DropsStrings (x ∷ y ∷ []) u.rows d.table.rows → IsProper (map_of d) d.table.rows (kept_at d)
                back-proper d d_fit same drops =
                    settled d old d_fit (same ∙ (stand-for inside.grid gone-back)) (whole_valid old tried.valid)
                    (back-alone old h string tried t.rows more u.rows d.table.rows has_same
                    (subst (λ (l : List Half). DropsStrings l u.rows d.table.rows) (λ i. are_two.0 i ∷ are_two.1 i ∷ []) drops))

              module _ (within : inside.table.work ≤ greatest)
                  (work : t.work ≡ ticked (2 + (length (cycle t.rows (forward_of k.first.number)) + length (cycle t.rows (backward_of k.second.number)) + 5)) inside.table.work)
                  (again : u.work ≡ ticked (length (cycle u.rows (forward_of r.number)) + length (cycle u.rows (backward_of r.number)) + 5) t.work) where
                abbrev ring : ℕ
                ring = length (cycle u.rows (forward_of string)) + length (cycle u.rows (backward_of string)) + 5

                number : r.number ≡ string
                number = found-number (λ (s : StringRow). s.number) string old.strings r found

                pub back-work : (w : Table) → w.work ≡ ticked 2 u.work → TakesWork v.table w (work_bound old made)
                back-work w one =
                    let most = split-work old h string tried in
                    let few = path-few old h string tried t.rows new put wide gone-through.fits in
                    let low = whole-few old h string tried u.rows back kept star gone-back.fits in
                    let is : u.work ≡ ticked ring t.work =
                    again ∙ ap (λ (s : ℕ). ticked (length (cycle u.rows (forward_of s)) + length (cycle u.rows (backward_of s)) + 5) t.work) number in
                    draft-work inside.rows inside.table inside.kept inside.stars inside.grid v view w (path within work + ring + 2) (work_bound old made) within (omega (arith, most, few, low))
                    (ticks-then inside.table u w (path within work + ring) 2
                    (ticks-then inside.table t u (path within work) ring (made-ticks within work) (ticks-just t u ring is)) (ticks-just u w 2 one))
