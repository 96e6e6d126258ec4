-- In the rows of a valid map each row that is named is there.
use Rattle.std.proofs.Common.{◌≡◌, ℕ, refl, ap, ◌∙◌, List, [], ◌∷◌, ◌++◌, map, true, None}
use Rattle.std.specs.Prelude.{IsTrue}
use Rattle.std.specs.List.{AllByRecursion}
use Rattle.cad_rows.specs.declared.names.Face.{Face}
use Rattle.cad_rows.specs.declared.names.Face.TheVariants.{Outside, Parcel}
use Rattle.cad_rows.specs.declared.names.Name.{Name}
use Rattle.cad_rows.specs.declared.names.Name.TheVariants as name
use Rattle.cad_rows.specs.declared.rows.PointRow.{PointRow}
use Rattle.cad_rows.specs.declared.rows.ParcelRow.{ParcelRow}
use Rattle.cad_rows.specs.declared.rows.StringRow.{StringRow}
use Rattle.cad_rings.specs.Cycle.{opposite}
use Rattle.cad_map.specs.Map.{Map, has_source, has_point, has_face, side_of}
use Rattle.cad_map.specs.Refusals.{is_there}
use Rattle.cad_map.specs.Valid.{AreSources, IsValid}
use Rattle.cad_files.specs.Building.{map_of, rows_of, plan_string_of, unknown_name, missing_name, sources_named, points_name, parcels_name, names_of_face, string_names, strings_name}
use Rattle.cad_files.proofs.AgainFacts.{face-known}
use Rattle.cad_files.proofs.MapAgain.{without_rings}

module _ (m : Map) where
  -- each of these names has its row
  abbrev AreThere : List Name → Type 0
  AreThere names = AllByRecursion (λ n. is_there m n ≡ true) names

  none_missing : (names : List Name) → AreThere names → missing_name m names ≡ None
  none_missing [] all = refl
  none_missing (n ∷ names) all = rw all.0 (none_missing names all.1)

  together : (a b : List Name) → AreThere a → AreThere b → AreThere (a ++ b)
  together [] b first second = second
  together (n ∷ a) b first second = (first.0, together a b first.1 second)

  sources-there : (ns : List ℕ) → AllByRecursion (λ s. IsTrue (has_source m s)) ns → AreThere (sources_named ns)
  sources-there [] all = tt
  sources-there (n ∷ ns) all = (all.0, sources-there ns all.1)

  points-there : (ps : List PointRow) → AllByRecursion (λ r. AreSources m.sources r.sources) ps → AreThere (points_name ps)
  unfolding points_name
  points-there [] all = tt
  points-there (p ∷ ps) all = together (sources_named p.sources) _ (sources-there p.sources all.0.known) (points-there ps all.1)

  parcels-there : (ps : List ParcelRow) → AllByRecursion (λ r. AreSources m.sources r.sources) ps → AreThere (parcels_name ps)
  unfolding parcels_name
  parcels-there [] all = tt
  parcels-there (p ∷ ps) all = together (sources_named p.sources) _ (sources-there p.sources all.0.known) (parcels-there ps all.1)

  face-there : (f : Face) → IsTrue (has_face m f) → AreThere (names_of_face f)
  face-there Outside known = tt
  face-there (Parcel n) known = (known, tt)

  module _ (valid : IsValid m) where
    string-there : (s : StringRow) → IsTrue (has_point m s.from) × IsTrue (has_point m s.to) → AreSources m.sources s.sources → AreThere (string_names (plan_string_of m s))
    string-there s ends named =
        let t = plan_string_of m s in
        let v = valid.sound.v1 in (
          ends.0,
          (
            ends.1,
            together (names_of_face t.left) (names_of_face t.right ++ sources_named s.sources) (face-there t.left (face-known m v (side_of s)))
                (together (names_of_face t.right) (sources_named s.sources) (face-there t.right (face-known m v (opposite (side_of s)))) (sources-there s.sources named.known)),
          ),
        )

    strings-there : (ss : List StringRow) → AllByRecursion (λ s. IsTrue (has_point m s.from) × IsTrue (has_point m s.to)) ss → AllByRecursion (λ r. AreSources m.sources r.sources) ss → AreThere (strings_name (map (plan_string_of m) ss))
    unfolding strings_name
    strings-there [] ends named = tt
    strings-there (s ∷ ss) ends named = together (string_names (plan_string_of m s)) _ (string-there s ends.0 named.0) (strings-there ss ends.1 named.1)

-- what has a row in a map has one in the map without rings
same_there : (m : Map) (n : Name) → is_there (map_of (rows_of m)) n ≡ is_there m n
same_there m (name.Point n) = refl
same_there m (name.String n) = ap (λ (k : Map). is_there k (name.String n)) (without_rings m)
same_there m (name.Parcel n) = refl
same_there m (name.Source n) = refl

same_missing : (m : Map) (names : List Name) → missing_name (map_of (rows_of m)) names ≡ missing_name m names
same_missing m [] = refl
same_missing m (n ∷ names) = rw (same_there m n, same_missing m names) refl

pub none_unknown : (m : Map) → IsValid m → unknown_name (rows_of m) ≡ None
none_unknown m valid =
    let v = valid.sound.v1 in
    let strings = map (plan_string_of m) m.strings in
    rw (
      same_missing m (points_name m.points) ∙ none_missing m (points_name m.points) (points-there m m.points v.point_sources),
      same_missing m (parcels_name m.parcels) ∙ none_missing m (parcels_name m.parcels) (parcels-there m m.parcels v.parcel_sources),
      same_missing m (strings_name strings) ∙ none_missing m (strings_name strings) (strings-there m valid m.strings v.ends v.string_sources),
    ) refl
