-- What each edit makes of a map, where nothing speaks against it.
use Rattle.std.specs.Prelude.{not, ◌==◌, [], ◌∷◌, ◌++◌, filter, option_map, unwrap_or}
use Rattle.cad_rows.specs.declared.edits.Edit.{Edit}
use Rattle.cad_rows.specs.declared.edits.Edit.TheVariants.{AddSource, AddPoint, DropPoint, Split, Join, Divide, Merge, Move, Attach, Detach, Rename, Enclose}
use Rattle.cad_map.specs.Map.{Map, string_of}
use Rattle.numbered_rows.specs.Rows.{without_row}
use Rattle.cad_map.specs.Changes.{change_point, change_parcel, change_sources, split, join, divide, merge, enclose}

-- the map after an edit
unfoldable pub after : Map → Edit → Map
-- a source row last
after m (AddSource s text) = record m { sources = m.sources ++ record { number = s; text = text } ∷ [] }
-- a point row last, with no sources
after m (AddPoint p x y) = record m { points = m.points ++ record { number = p; position = record { x = x; y = y }; sources = [] } ∷ [] }
-- the point's row goes
after m (DropPoint p) = record m { points = without_row (λ r. r.number) p m.points }
-- the string's row goes, a point row and two string rows come last, and the point is put on the rings between its ends
after m (Split s p x y first second) = unwrap_or (option_map (λ row. split m row p x y first second) (string_of m s)) m
-- the point's row and its strings go, a string row comes last, and the point is dropped from the rings
after m (Join p s) = join m p s
-- the chain's strings and a parcel come last, and one ring of the face gives two
after m (Divide face chain strings parcel label source) = divide m face chain strings parcel label source
-- the shared strings and the ended parcel go, its number is retired, and its rings go to the kept face
after m (Merge kept ended) = merge m kept ended
-- the point's position
after m (Move p x y) = change_point p (λ row. record row { position = record { x = x; y = y } }) m
-- the source is put last in the item's list
after m (Attach i source) = change_sources i (λ sources. sources ++ source ∷ []) m
-- the source is taken out of the item's list
after m (Detach i source) = change_sources i (λ sources. filter (λ s. not (s == source)) sources) m
-- the parcel's label
after m (Rename p label) = change_parcel p (λ row. record row { label = label }) m
-- the strings round the points and a parcel come last, and their ring and its reverse are two more
after m (Enclose face points strings parcel label source) = enclose m face points strings parcel label source
