-- What is tested near an edit.
use Rattle.std.specs.Prelude.{◌≡◌, ◌≢◌, ℕ, IsTrue}
use Rattle.std.specs.List.{AllByRecursion, Contains}
use Rattle.geo_exact.specs.Sector.{in_sector}
use Rattle.cad_rows.specs.declared.rows.PointRow.{PointRow}
use Rattle.cad_rows.specs.declared.rows.StringRow.{StringRow}
use Rattle.cad_rows.specs.declared.names.Face.{Face}
use Rattle.cad_rows.specs.declared.names.Face.TheVariants.{Outside, Parcel}
use Rattle.cad_rings.specs.Cycle.{Corner}
use Rattle.cad_map.specs.Map.{Map, has_face, position_of, is_end, far_end, strings_at, all_corners, rings_of}
use Rattle.cad_map.specs.Valid.{IsValid, MeetAtEnds, LiesOnlyAsEnd, is_empty_corner, has_outlines, has_sound_holes}
use Rattle.cad_map.specs.Touched.{Touched, IsTouched}
use Rattle.cad_map.specs.Views.{AreBeyond}
use Rattle.cell_grid.specs.Grid.{Grid, HoldsString, HoldsPoint}
use Rattle.cad_near.specs.declared.Touched.{Touched as Lists}
use Rattle.cad_near.specs.declared.faces.FaceRules.{FaceRules}
use Rattle.cad_valid.specs.Corners.{is_empty_after}

-- the grid holds the map's strings and points at their positions
pub record HoldsMap (g : Grid) (m : Map) : Type 0 where
  pub strings : (s : StringRow) → Contains m.strings s
      → HoldsString g s.number (position_of m s.from) (position_of m s.to)
  pub points : (p : PointRow) → Contains m.points p → HoldsPoint g p.number p.position

-- what an edit touched, by the numbers
abbrev pub touched_of : Lists → Touched
touched_of t =
    record {
      points = t.points.items;
      strings = t.strings.items;
      faces = t.faces.items;
      moved = t.moved;
      joined = t.joined;
    }

-- a valid map led here by an edit that touched no more than this
pub record ComesFromValid (t : Touched) (m : Map) : Type 0 where
  pub before : Map
  pub valid : IsValid before
  pub touched : IsTouched before m t

-- it holds of the point with this number, if the map has it
unfoldable pub OfPoint : Map → (PointRow → Type 0) → ℕ → Type 0
OfPoint m P n = (p : PointRow) → Contains m.points p → p.number ≡ n → P p

-- it holds of the string with this number, if the map has it
unfoldable pub OfString : Map → (StringRow → Type 0) → ℕ → Type 0
OfString m P n = (s : StringRow) → Contains m.strings s → s.number ≡ n → P s

-- it holds of the face, if the map has it
abbrev pub OfFace : Map → (Face → Type 0) → Face → Type 0
OfFace m P f = IsTrue (has_face m f) → P f

-- ---- V3

-- a point is this one, or lies elsewhere
abbrev pub IsApart : PointRow → PointRow → Type 0
IsApart p q = q.number ≢ p.number → ¬ (q.position ≡ p.position)

-- no other point of the map lies where this one does
abbrev pub IsAlone : Map → PointRow → Type 0
IsAlone m p = (q : PointRow) → Contains m.points q → IsApart p q

-- ---- V4

-- a string is this one, or meets it only at a shared end
abbrev pub MeetsIfOther : Map → StringRow → StringRow → Type 0
MeetsIfOther m s t = t.number ≢ s.number → MeetAtEnds m s t

-- the string meets all others only at shared ends
abbrev pub MeetsAtEnds : Map → StringRow → Type 0
MeetsAtEnds m s = (t : StringRow) → Contains m.strings t → MeetsIfOther m s t

-- no point lies on the string but as its end
abbrev pub BearsEnds : Map → StringRow → Type 0
BearsEnds m s = (p : PointRow) → Contains m.points p → LiesOnlyAsEnd m p s

-- the point lies on no string but as its end
abbrev pub LiesAtEnds : Map → PointRow → Type 0
LiesAtEnds m p = (s : StringRow) → Contains m.strings s → LiesOnlyAsEnd m p s

-- nothing crosses the string
pub record IsUncrossed (m : Map) (s : StringRow) : Type 0 where
  pub strings : MeetsAtEnds m s
  pub points : BearsEnds m s

-- nothing crosses the touched strings, and the touched points lie on none but as their ends
pub record AreUncrossed (m : Map) (t : Touched) : Type 0 where
  pub strings : AllByRecursion (OfString m (IsUncrossed m)) t.strings
  pub points : AllByRecursion (OfPoint m (LiesAtEnds m)) t.points

-- ---- V6

-- the corners at a point are empty
abbrev pub HasEmptyCornersAt : Map → ℕ → Type 0
HasEmptyCornersAt m p = (c : Corner) → Contains (all_corners m) c → c.at ≡ p → IsTrue (is_empty_corner m c)

-- the corner that follows a string at this end of it is empty
abbrev pub IsEmptyBeyond : Map → ℕ → StringRow → Type 0
IsEmptyBeyond m p s = IsTrue (is_end s p) → IsTrue (is_empty_after m (far_end s p, p))

-- the corners at both ends of a string are empty
pub record HasEmptyEnds (m : Map) (s : StringRow) : Type 0 where
  pub from : HasEmptyCornersAt m s.from
  pub to : HasEmptyCornersAt m s.to

-- the corners at the far ends of a point's strings are empty
abbrev pub HasEmptyCornersRound : Map → ℕ → Type 0
HasEmptyCornersRound m p = (s : StringRow) → Contains (strings_at m p) s → HasEmptyCornersAt m (far_end s p)

-- q sees its neighbour p between the two strings of q that are next to the one to p
pub record IsSeenBetween (m : Map) (p q : ℕ) : Type 0 where
  pub before : ℕ
  pub after : ℕ
  pub beyond : AreBeyond m p q before after
  pub inside : IsTrue (in_sector (position_of m q) (position_of m after) (position_of m before) (position_of m p))

-- ---- V7, V8

-- how many outlines a face has
abbrev pub outlines_wanted : Face → ℕ
outlines_wanted Outside = 0
outlines_wanted (Parcel n) = 1

-- the face has its outlines
abbrev pub HasOutlines : Map → Face → Type 0
HasOutlines m f = IsTrue (has_outlines (outlines_wanted f) m (rings_of m f))

-- its holes are in place
abbrev pub HasSoundHoles : Map → Face → Type 0
HasSoundHoles m f = IsTrue (has_sound_holes m (rings_of m f))

-- what its rings tell of both rules
abbrev pub rules_of : Map → Face → FaceRules
rules_of m f = record {
  outlines = has_outlines (outlines_wanted f) m (rings_of m f);
  holes = has_sound_holes m (rings_of m f);
}
