-- What a row changed in its place keeps of a sound map: a point moved, a parcel renamed, a source attached or detached.
use Rattle.std.proofs.Common.{◌≡◌, ◌≢◌, ℕ, List, [], ◌∷◌, ◌++◌, length, not, nat_le, Option, Some, None, is_some, option_map, filter, refl, sym, ap, ◌∙◌, subst, arith}
use Rattle.std.specs.Prelude.{IsTrue, ◌==◌, unwrap_or, ℤ, IsPermutation}
use Rattle.std.specs.List.{list_any, flat_map}
use Rattle.geo_exact.specs.Position.{OnTheMap}
use Rattle.cad_rows.specs.Limits.{source_limit, IsLabel}
use Rattle.cad_rows.specs.declared.edits.Edit.TheVariants.{Move, Attach}
use Rattle.cad_rows.specs.declared.names.Item.{Item}
use Rattle.cad_rows.specs.declared.names.Item.TheVariants as item
use Rattle.cad_rows.specs.declared.rows.PointRow.{PointRow}
use Rattle.cad_rows.specs.declared.rows.ParcelRow.{ParcelRow}
use Rattle.cad_rows.specs.declared.rows.StringRow.{StringRow}
use Rattle.cad_rows.specs.declared.rows.SourceRow.{SourceRow}
use Rattle.cad_rings.specs.Cycle.{Side, opposite}
use Rattle.cad_map.specs.Map.{Map, point_of, parcel_of, string_of, has_point, side_of, string_sides, all_sides, left_face, right_face}
use Rattle.numbered_rows.specs.Rows.{row_with}
use Rattle.cad_map.specs.Valid.{AreSources, HasSoundRows, IsSound}
use Rattle.cad_map.specs.Refusals.{sources_at}
use Rattle.cad_map.specs.Changes.{with_point, with_parcel, with_string, change_point, change_parcel, change_string, change_sources}
use Rattle.cad_map.proofs.Edits.Allowed.{IsAllowed, not-when, there-attached, position-in_range}
use Rattle.cad_map.proofs.Lists.EachElement.{All-filter, All-with_row, found-number, map-with_row-same}
use Rattle.cad_map.proofs.Edits.KeptRows.{AreSources-attach, All-found, kept-point_row, kept-parcel_row, kept-string_row, length-filter}
use Rattle.cad_map.proofs.Parcels.ChainFacts.{sides-from_ends}
use Rattle.cad_map.proofs.Lists.TakenOut.{EachPair-filter}

-- ---- A row as a change leaves it

-- a map in which a row that is there was changed
kept-changed : {R : Type 0} (m : Map) (put : R → Map) (o : Option R) → IsSound m → ((r : R) → o ≡ Some r → IsSound (put r)) → IsSound (unwrap_or (option_map put o) m)
kept-changed m put None sound new = sound
kept-changed m put (Some r) sound new = new r refl

-- and one with other points and parcels, whose rows are sound
with_rows : (m : Map) (points : List PointRow) (parcels : List ParcelRow) → IsSound m → HasSoundRows (record m { points = points; parcels = parcels }) → IsSound (record m { points = points; parcels = parcels })
with_rows m points parcels sound rows = record { v1 = rows; v2 = sound.v2; v5 = record { three = sound.v5.three; once = sound.v5.once; two_faces = sound.v5.two_faces } }

kept-changed_point : (m : Map) (p : ℕ) (change : PointRow → PointRow) → IsSound m → ((r : PointRow) → point_of m p ≡ Some r → OnTheMap (change r).position × AreSources m.sources (change r).sources)
    → IsSound (change_point p change m)
kept-changed_point m p change sound sources = kept-changed m (λ r. with_point m (change r)) (point_of m p) sound
    (λ r is. with_rows m _ m.parcels sound (kept-point_row m (change r) sound.v1 (sources r is).0 (sources r is).1))

kept-changed_parcel : (m : Map) (p : ℕ) (change : ParcelRow → ParcelRow) → IsSound m → ((r : ParcelRow) → parcel_of m p ≡ Some r → IsLabel (change r).label × AreSources m.sources (change r).sources)
    → IsSound (change_parcel p change m)
kept-changed_parcel m p change sound sources = kept-changed m (λ r. with_parcel m (change r)) (parcel_of m p) sound
    (λ r is. with_rows m m.points _ sound (kept-parcel_row m (change r) sound.v1 (sources r is).0 (sources r is).1))

kept-changed_string : (m : Map) (s : ℕ) (change : List ℕ → List ℕ) → IsSound m → ((r : StringRow) → string_of m s ≡ Some r → AreSources m.sources (change r.sources))
    → IsSound (change_string s (λ r. record r { sources = change r.sources }) m)
kept-changed_string m s change sound sources =
    kept-changed m (λ r. with_string m (record r { sources = change r.sources })) (string_of m s) sound (λ r is.
    let v = sound.v1 in
    let number : StringRow → ℕ = λ q. q.number in
    let new_row : StringRow = record r { sources = change r.sources } in
    let found : row_with number r.number m.strings ≡ Some r = ap (λ (k : ℕ). row_with number k m.strings) (found-number number s m.strings r is) ∙ is in
    let same : string_sides (with_string m new_row) ≡ string_sides m =
    sides-from_ends _ ∙ ap (λ (sides : List Side). flat_map (λ (s : Side). s ∷ opposite s ∷ []) sides) (map-with_row-same number side_of new_row r m.strings v.strings.distinct found refl) ∙ sym (sides-from_ends m.strings) in
    record {
      v1 = kept-string_row m new_row v (All-found number (λ (q : StringRow). IsTrue (has_point m q.from) × IsTrue (has_point m q.to)) s m.strings r v.ends is) (sources r is);
      v2 = All-with_row number (λ (q : StringRow). q.from ≢ q.to) new_row m.strings sound.v2 (All-found number (λ (q : StringRow). q.from ≢ q.to) s m.strings r sound.v2 is);
      v5 = record {
        three = sound.v5.three;
        once = subst (λ (sides : List Side). IsPermutation sides (all_sides m)) (sym same) sound.v5.once;
        two_faces = All-with_row number (λ (q : StringRow). left_face m q ≢ right_face m q) new_row m.strings sound.v5.two_faces
            (All-found number (λ (q : StringRow). left_face m q ≢ right_face m q) s m.strings r sound.v5.two_faces is);
      };
    })

-- ---- The sources of an item

-- an item whose sources are sound as a change leaves them
kept-sources : (m : Map) (i : Item) (change : List ℕ → List ℕ) → IsSound m → ((sources : List ℕ) → sources_at m i ≡ sources → AreSources m.sources sources → AreSources m.sources (change sources)) → IsSound (change_sources i change m)
kept-sources m (item.Point n) change sound each =
    kept-changed_point m n (λ r. record r { sources = change r.sources }) sound (λ r is. (
      All-found (λ (q : PointRow). q.number) (λ (q : PointRow). OnTheMap q.position) n m.points r sound.v1.positions is,
      each r.sources (ap (λ (o : Option PointRow). unwrap_or (option_map (λ (q : PointRow). q.sources) o) []) is)
          (All-found (λ (q : PointRow). q.number) (λ (q : PointRow). AreSources m.sources q.sources) n m.points r sound.v1.point_sources is),
    ))
kept-sources m (item.String n) change sound each =
    kept-changed_string m n change sound (λ r is.
    each r.sources (ap (λ (o : Option StringRow). unwrap_or (option_map (λ (q : StringRow). q.sources) o) []) is)
    (All-found (λ (q : StringRow). q.number) (λ (q : StringRow). AreSources m.sources q.sources) n m.strings r sound.v1.string_sources is))
kept-sources m (item.Parcel n) change sound each =
    kept-changed_parcel m n (λ r. record r { sources = change r.sources }) sound (λ r is. (
      All-found (λ (q : ParcelRow). q.number) (λ (q : ParcelRow). IsLabel q.label) n m.parcels r sound.v1.labels is,
      each r.sources (ap (λ (o : Option ParcelRow). unwrap_or (option_map (λ (q : ParcelRow). q.sources) o) []) is)
          (All-found (λ (q : ParcelRow). q.number) (λ (q : ParcelRow). AreSources m.sources q.sources) n m.parcels r sound.v1.parcel_sources is),
    ))

pub kept-attach : (m : Map) (i : Item) (s : ℕ) → IsSound m → IsAllowed m (Attach i s) → IsSound (change_sources i (λ sources. sources ++ s ∷ []) m)
kept-attach m i s sound free =
    kept-sources m i (λ sources. sources ++ s ∷ []) sound (λ sources at are.
    AreSources-attach m.sources sources s are (there-attached m i s free.unknown).1
    (ap (λ (ss : List ℕ). list_any (λ t. t == s) ss) (sym at) ∙ not-when _ _ free.already_attached) (ap (λ (ss : List ℕ). nat_le source_limit (length ss)) (sym at) ∙ not-when _ _ free.full))

pub kept-detach : (m : Map) (i : Item) (s : ℕ) → IsSound m → IsSound (change_sources i (λ sources. filter (λ t. not (t == s)) sources) m)
kept-detach m i s sound =
    kept-sources m i (λ sources. filter (λ t. not (t == s)) sources) sound (λ sources at are. record {
      known = All-filter (λ t. IsTrue (is_some (row_with (λ (r : SourceRow). r.number) t m.sources))) (λ t. not (t == s)) sources are.known;
      distinct = EachPair-filter (λ a b. a ≢ b) (λ t. not (t == s)) sources are.distinct;
      few = let less = length-filter (λ t. not (t == s)) sources in omega (arith, less, are.few);
    })

-- ---- A position and a label

pub kept-move : (m : Map) (p : ℕ) (x y : ℤ) → IsSound m → IsAllowed m (Move p x y) → IsSound (change_point p (λ r. record r { position = record { x = x; y = y } }) m)
kept-move m p x y sound free =
    kept-changed_point m p (λ r. record r { position = record { x = x; y = y } }) sound (λ r is. (
      position-in_range x y free.range,
      All-found (λ (q : PointRow). q.number) (λ (q : PointRow). AreSources m.sources q.sources) p m.points r sound.v1.point_sources is,
    ))

pub kept-rename : (m : Map) (p : ℕ) (label : List ℕ) → IsSound m → IsLabel label → IsSound (change_parcel p (λ r. record r { label = label }) m)
kept-rename m p label sound is_label =
    kept-changed_parcel m p (λ r. record r { label = label }) sound (λ r is. (
      is_label,
      All-found (λ (q : ParcelRow). q.number) (λ (q : ParcelRow). AreSources m.sources q.sources) p m.parcels r sound.v1.parcel_sources is,
    ))
