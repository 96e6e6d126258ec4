-- What comes before and after a half of the map's strings, and the string that is told at a place of a star.
use Rattle.std.proofs.Common.{◌⊎◌, ◌≡◌, ℕ, true, List, [], ◌∷◌, length, refl, sym, ap, ◌∙◌, subst, arith, inl, inr, Option, Some, None, slice_get}
use Rattle.std.specs.Prelude.{option_map}
use Rattle.std.specs.List.{Contains}
use Rattle.std.proofs.lemmas.Option.{slice_get-map}
use Rattle.cad_rows.specs.declared.rows.StringRow.{StringRow}
use Rattle.cad_rings.specs.Cycle.{Side}
use Rattle.cad_map.specs.Map.{far_end}
use Rattle.cad_map.specs.Views.{HasSide, ComesAfter, AreBeyond}
use Rattle.cad_map.proofs.CallerLemmas.{Contains-cases, Contains-first, Contains-later, Contains-at}
use Rattle.half_table.specs.declared.half.Half.{Half}
use Rattle.half_table.specs.Half.{twin}
use Rattle.half_table.specs.Cycle.{IsRun, orbit}
use Rattle.half_table.specs.Rows.{HalfRows, has, next, prev, origin_of, face, halves, cycle, IsLinked}
use Rattle.half_table.proofs.Halves.{twin-twin}
use Rattle.half_table.proofs.Closed.{cycle-closes}
use Rattle.key_lists.specs.Held.{items_at}
use Rattle.cad_laws.specs.Local.{IsShown}
use Rattle.map_parts.specs.declared.stars.Spoke.{Spoke}
use Rattle.map_parts.specs.Parts.{Parts, FitTogether, rows_of, map_of}
use Rattle.map_parts.specs.Views.{string_row, view_strings}
use Rattle.map_parts.proofs.PartsRings.{in_table, shown-on, half-side, half-corner}
use Rattle.map_parts.proofs.StarHalves.{spoke-is}
use Rattle.cad_surgery.proofs.StarStrings.{far-told}

-- a half of a run after a, or the one to which it leads, follows a or a half of the run
run-before : (nx : Half → Half) (h a at : Half) (xs : List Half) → nx a ≡ at → IsRun nx h at xs → (g : Half) → (h ≡ g) ⊎ Contains xs g → (f : Half) × Contains (a ∷ xs) f × (nx f ≡ g)
run-before nx h a at [] to run g (inl is) = (a, Contains-first a [], to ∙ run ∙ is)
run-before nx h a at [] to run g (inr among) = let none = among.1 in absurd (omega arith)
run-before nx h a at (b ∷ xs) to run g (inl is) =
    let it = run-before nx h b (nx at) xs (ap nx (sym run.0)) run.2 g (inl is) in
    (it.0, Contains-later a (b ∷ xs) it.0 it.1, it.2)
run-before nx h a at (b ∷ xs) to run g (inr among) = elim (Contains-cases b xs g among) [
  | inl same ↦ (a, Contains-first a (b ∷ xs), to ∙ run.0 ∙ same)
  | inr later ↦
      let it = run-before nx h b (nx at) xs (ap nx (sym run.0)) run.2 g (inr later) in
      (it.0, Contains-later a (b ∷ xs) it.0 it.1, it.2)
]

-- the half before one on a cycle is on it
cycle-prev : (rows : HalfRows) → IsLinked rows → (h : Half) → has rows h ≡ true → (g : Half) → Contains (cycle rows h) g → Contains (cycle rows h) (prev rows g)
cycle-prev rows linked h there g among =
    let rest = orbit (next rows) (length (halves rows)) h (next rows h) in
    let it = run-before (next rows) h h (next rows h) rest refl (cycle-closes rows linked h there) g (Contains-cases h rest g among) in
    subst (Contains (cycle rows h)) (sym (linked.prev_next it.0) ∙ ap (prev rows) it.2) it.1

module _ (d : Parts) (fit : FitTogether d) where
  abbrev rows : HalfRows
  rows = d.table.rows

  abbrev o : Half → ℕ
  o = origin_of rows

  -- the half before one of the map's strings is of one of them
  pub shown-prev : (h : Half) → IsShown (rows_of d) h → IsShown (rows_of d) (prev rows h)
  shown-prev h shown =
      let home = fit.homes h shown in
      let k = home.kept in
      shown-on d fit k home.there (prev rows h) (cycle-prev rows fit.linked k.1 (in_table d fit k.1 (fit.shown k home.there)) h home.on)

  -- a half with what comes before it makes a corner
  corner-before : (h : Half) → IsShown (rows_of d) h → ComesAfter (map_of d) (o (prev rows h), o h) (o (twin h))
  corner-before h shown =
      let m = prev rows h in
      let back = fit.linked.next_prev h in
      let before = shown-prev h shown in
      let at = sym (fit.meets m before) ∙ ap o back in
      let on = ap (λ (g : Half). o (twin g)) back in
      subst (λ (t : Side × ℕ). ComesAfter (map_of d) t.0 t.1) (λ i. ((o m, at i), on i)) (half-corner d fit m before)

  -- what comes before a half's twin, and after the half
  pub half-beyond : (h : Half) → IsShown (rows_of d) h → AreBeyond (map_of d) (o h) (o (twin h)) (o (prev rows (twin h))) (o (twin (next rows h)))
  half-beyond h shown = record {
    comes = subst (λ (g : Half). ComesAfter (map_of d) (o (prev rows (twin h)), o (twin h)) (o g)) (twin-twin h) (corner-before (twin h) shown);
    goes = half-corner d fit h shown;
  }

  -- ---- The half at a place of a star

  -- a half of the map's strings begins at the point, and ends at the far end of the string that is told at the place
  pub record IsTold (p place : ℕ) (h : Half) : Type 0 where
    pub shown : IsShown (rows_of d) h
    pub from : o h ≡ p
    pub string : StringRow
    pub there : slice_get (view_strings d p) place ≡ Some string
    pub far : o (twin h) ≡ far_end string p

  pub half-told : (p place : ℕ) (h : Half) → option_map (λ (x : Spoke). x.half) (slice_get (items_at d.stars p) place) ≡ Some h → IsTold p place h
  half-told p place h at = by (slice_get (items_at d.stars p) place) refl at
    where
      by : (s : Option Spoke) → slice_get (items_at d.stars p) place ≡ s → option_map (λ (x : Spoke). x.half) s ≡ Some h → IsTold p place h
      by None is some = cc
      by (Some x) is some =
          let same : x.half ≡ h = cc in
          let row_of = λ (y : Spoke). string_row d y.half.string in
          let it = spoke-is d fit.ends fit.two_ends fit.stars p x (Contains-at (items_at d.stars p) place x is) in
          let told = slice_get-map row_of (items_at d.stars p) place ∙ ap (option_map row_of) is in
          let ends : Some x.far ≡ Some (far_end (row_of x) p) =
          ap (option_map (λ (y : Spoke). y.far)) (sym is) ∙ far-told d fit p place ∙ ap (option_map (λ (s : StringRow). far_end s p)) told in
          let far : x.far ≡ far_end (row_of x) p = cc in
          subst (IsTold p place) same (record {
            shown = it.shown;
            from = it.from;
            string = row_of x;
            there = told;
            far = it.far ∙ far;
          })

  -- ---- The spoke at a place of a star

  -- its half is of the map's strings, and the twin leads to the point from the far end of the string that is told at the place
  pub record LeadsTo (p place : ℕ) (x : Spoke) : Type 0 where
    pub shown : IsShown (rows_of d) x.half
    pub far : option_map (λ s. far_end s p) (slice_get (view_strings d p) place) ≡ Some x.far
    pub side : HasSide (map_of d) (face rows (twin x.half)) (x.far, p)

  pub spoke-told : (p place : ℕ) (x : Spoke) → slice_get (items_at d.stars p) place ≡ Some x → LeadsTo p place x
  spoke-told p place x is =
      let it = spoke-is d fit.ends fit.two_ends fit.stars p x (Contains-at (items_at d.stars p) place x is) in record {
        shown = it.shown;
        far = sym (far-told d fit p place) ∙ ap (option_map (λ (y : Spoke). y.far)) is;
        side = subst (HasSide (map_of d) (face rows (twin x.half))) (λ i. (it.far i, (ap o (twin-twin x.half) ∙ it.from) i)) (half-side d fit (twin x.half) it.shown);
      }
