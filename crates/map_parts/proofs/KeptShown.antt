-- Where the halves of the map's strings are as they were, the parts stand for the same map.
use Rattle.std.proofs.Common.{◌≡◌, ℕ, true, false, List, [], ◌∷◌, refl, sym, ap, ◌∙◌, subst, true≢false, Bool, nat_eq}
use Rattle.std.specs.List.{AllByRecursion, Contains}
use Rattle.std.proofs.lemmas.Bool.Decides.{Decides-eqb}
use Rattle.std.specs.Prelude.{if◌then◌else◌, ◌||◌, Result, Ok, Err, OnOk, OnErr}
use Rattle.cad_rows.specs.declared.names.Face.{Face}
use Rattle.cad_rows.specs.declared.names.Face.TheVariants.{Outside}
use Rattle.cad_rows.specs.declared.rows.StringRow.{StringRow}
use Rattle.cad_rings.specs.Cycle.{Side, sides_of}
use Rattle.cad_map.specs.declared.boundary.Boundary.{Boundary}
use Rattle.cad_map.specs.Map.{Map}
use Rattle.cad_map.specs.Rings.{HasWholeRings}
use Rattle.cad_map.specs.Views.{ComesAfter, HasSide}
use Rattle.cad_map.proofs.CallerLemmas.{All-at_each, All-from_each}
use Rattle.half_table.specs.declared.half.Half.{Half}
use Rattle.half_table.specs.Half.{twin, forward_of, backward_of}
use Rattle.half_table.specs.Rows.{HalfRows, Table, IsLinked, has, has_halves, next, origin_of, face}
use Rattle.half_table.proofs.Strings.{has-string}
use Rattle.half_paths.specs.Path.{strings_of}
use Rattle.half_paths.specs.Loose.{numbers_of, is_of, AreNew, AddsStrings, DropsStrings}
use Rattle.cad_laws.specs.Local.{IsShown, side_by, beyond, IsLocal}
use Rattle.map_parts.specs.KeptRings.{IsKept, KeepsRings}
use Rattle.map_parts.specs.Parts.{Parts, FitTogether, HasHalves, map_of, kept_halves}
use Rattle.map_parts.specs.Fits.{FitRings, HaveFaces, with_rings}
use Rattle.map_parts.specs.Shown.{KeepsShown}
use Rattle.map_parts.proofs.WholeStrings.{strings-once}
use Rattle.map_parts.proofs.Strings.{with_stars}
use Rattle.map_parts.proofs.PartsRings.{row-there}
use Rattle.map_parts.proofs.FromHalves.{fit-together, map-is}
use Rattle.map_parts.proofs.ToHalves.{fits}

module _ (m : Map) (old new : HalfRows) (has_same : (h : Half) → IsShown m h → has new h ≡ has old h) (next_same : (h : Half) → IsShown m h → next new h ≡ next old h)
    (origin_same : (h : Half) → IsShown m h → origin_of new h ≡ origin_of old h) where
  pub side-kept : (h : Half) → IsShown m h → side_by new h ≡ side_by old h
  side-kept h shown = λ i. (origin_same h shown i, origin_same (twin h) shown i)

  pub local-kept : IsLinked new → IsLocal m old → IsLocal m new
  local-kept linked local = record {
    linked = linked;
    there = λ h shown. has_same h shown ∙ local.there h shown;
    inside = λ h shown. subst (IsShown m) (sym (next_same h shown)) (local.inside h shown);
    meets = λ h shown. ap (origin_of new) (next_same h shown) ∙ origin_same (next old h) (local.inside h shown) ∙ local.meets h shown ∙ sym (origin_same (twin h) shown);
    corners = λ h shown.
        let e : beyond new h ≡ beyond old h = ap (λ (x : Half). origin_of new (twin x)) (next_same h shown) ∙ origin_same (twin (next old h)) (local.inside h shown) in
        subst (λ (s : Side). ComesAfter m s (beyond new h)) (sym (side-kept h shown)) (subst (λ (w : ℕ). ComesAfter m (side_by old h) w) (sym e) (local.corners h shown));
    apart = λ g h one two same. local.apart g h one two (sym (side-kept g one) ∙ same ∙ side-kept h two);
  }

  pub faces-kept : ((h : Half) → IsShown m h → face new h ≡ face old h) → HaveFaces m old → HaveFaces m new
  faces-kept face_same faces h shown =
      subst (λ (s : Side). HasSide m (face new h) s) (sym (side-kept h shown))
      (subst (λ (f : Face). HasSide m f (side_by old h)) (sym (face_same h shown)) (faces h shown))

  pub ends-kept : AllByRecursion (HasHalves old) m.strings → AllByRecursion (HasHalves new) m.strings
  ends-kept ends = All-from_each (HasHalves new) m.strings (λ s there.
      let e = All-at_each (HasHalves old) m.strings s ends there in
      let shown = row-there m.strings s there in
      record {
        there = has_same (forward_of s.number) shown ∙ e.there;
        back = has_same (backward_of s.number) shown ∙ e.back;
        from = origin_same (forward_of s.number) shown ∙ e.from;
        to = origin_same (backward_of s.number) shown ∙ e.to;
      })

  pub rings-kept : (ks : List (Face × Half)) → KeepsRings m old ks → KeepsRings m new ks
  rings-kept ks kept = record {
    homes = kept.homes;
    each = All-from_each (IsKept m new kept.homes) ks (λ k among.
        let it = All-at_each (IsKept m old kept.homes) ks k kept.each among in
        record {
          is_shown = it.is_shown;
          there = it.there;
          has = subst (Contains (sides_of (kept.homes k.1).ring)) (sym (side-kept k.1 it.is_shown)) it.has;
          face = it.face;
        });
    all = kept.all;
  }

-- so a table that goes with a map does so still where every half is as it was
pub local-same : (m : Map) (old new : HalfRows) → ((h : Half) → has new h ≡ has old h) → ((h : Half) → next new h ≡ next old h) → ((h : Half) → origin_of new h ≡ origin_of old h)
    → IsLinked new → IsLocal m old → IsLocal m new
local-same m old new halves links origins = local-kept m old new (λ h shown. halves h) (λ h shown. links h) (λ h shown. origins h)

-- ---- A whole map with another table

module _ (d : Parts) (table : Table) (linked : IsLinked table.rows) (keeps : KeepsShown (map_of d) d.table.rows table.rows) where
  pub fits-kept : (bs : List Boundary) → FitRings d bs → FitRings (record d { table = table }) bs
  fits-kept bs fits =
      let m = with_rings d bs in
      record {
        local = local-kept m d.table.rows table.rows keeps.has keeps.next keeps.origin linked fits.local;
        ends = ends-kept m d.table.rows table.rows keeps.has keeps.next keeps.origin fits.ends;
        faces = faces-kept m d.table.rows table.rows keeps.has keeps.next keeps.origin keeps.face fits.faces;
        kept = rings-kept m d.table.rows table.rows keeps.has keeps.next keeps.origin (kept_halves d) fits.kept;
        no_face = fits.no_face;
        stars = fits.stars;
      }

  module _ (whole : HasWholeRings (map_of d)) (fit : FitTogether d) where
    both : FitRings (record d { table = table }) (map_of d).boundaries
    both = fits-kept (map_of d).boundaries (fits d fit (strings-once (map_of d) whole))

    pub table-fit : FitTogether (record d { table = table })
    table-fit = fit-together (record d { table = table }) (map_of d).boundaries whole both

    pub table-map : map_of (record d { table = table }) ≡ map_of d
    table-map = map-is (record d { table = table }) (map_of d).boundaries whole both

-- a map's strings with a table, and nothing else
abbrev pub bare : Map → HalfRows → Parts
bare m rows = with_stars m rows []

-- ---- Strings that come and go loose

-- a half that is there is of no new string
pub new-apart : (rows : HalfRows) (added : List StringRow) (h : Half) → AreNew rows added → has rows h ≡ true → is_of (numbers_of added) h ≡ false
new-apart rows [] h new there = refl
new-apart rows (s ∷ added) h new there = by (nat_eq h.string s.number) refl (new-apart rows added h new.1 there)
  where
    by : (b : Bool) → nat_eq h.string s.number ≡ b → is_of (numbers_of added) h ≡ false → is_of (numbers_of (s ∷ added)) h ≡ false
    by true e rest =
        let same : h.string ≡ s.number = (Decides-eqb h.string s.number).0 e in
        absurd (true≢false (sym there ∙ has-string rows h ∙ ap (has_halves rows) same ∙ new.0))
    by false e rest = ap (λ (b : Bool). b || is_of (numbers_of added) h) e ∙ rest

shown-same : (m : Map) (old new : HalfRows) → new ≡ old → KeepsShown m old new
shown-same m old new same = subst (KeepsShown m old) (sym same) (record { has = λ h shown. refl; next = λ h shown. refl; origin = λ h shown. refl; face = λ h shown. refl })

module _ (m : Map) (old new : HalfRows) where
  pub adds-hidden : (added : List StringRow) → AreNew old added → ((h : Half) → IsShown m h → has old h ≡ true) → AddsStrings added old new → KeepsShown m old new
  adds-hidden added fresh there adds =
      let away : (h : Half) → IsShown m h → is_of (numbers_of added) h ≡ false = λ h shown. new-apart old added h fresh (there h shown) in
      record {
        has = λ h shown. adds.has h ∙ ap (λ (b : Bool). if b then true else has old h) (away h shown);
        next = λ h shown. adds.next h ∙ ap (λ (b : Bool). if b then twin h else next old h) (away h shown);
        origin = λ h shown. adds.origin h (away h shown);
        face = λ h shown. adds.face h ∙ ap (λ (b : Bool). if b then Outside else face old h) (away h shown);
      }

  pub drops-hidden : (dropped : List Half) → ((h : Half) → IsShown m h → is_of (strings_of dropped) h ≡ false) → DropsStrings dropped old new → KeepsShown m old new
  drops-hidden dropped away drops = record {
    has = λ h shown. drops.has h ∙ ap (λ (b : Bool). if b then false else has old h) (away h shown);
    next = λ h shown. drops.next h ∙ ap (λ (b : Bool). if b then h else next old h) (away h shown);
    origin = λ h shown. drops.origin h ∙ ap (λ (b : Bool). if b then 0 else origin_of old h) (away h shown);
    face = λ h shown. drops.face h ∙ ap (λ (b : Bool). if b then Outside else face old h) (away h shown);
  }

  -- where the strings were added, and where they weren't
  pub tried-hidden : {A E : Type 0} (r : Result A E) (added : List StringRow) → AreNew old added → ((h : Half) → IsShown m h → has old h ≡ true) → OnOk r (AddsStrings added old new) → OnErr r (new ≡ old)
      → KeepsShown m old new
  tried-hidden (Ok a) added fresh there ok err = adds-hidden added fresh there ok
  tried-hidden (Err e) added fresh there ok err = shown-same m old new err
