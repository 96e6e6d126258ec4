-- The maps that the edit of a record leads from and to, as the areas that are kept of them need
-- them.
use Rattle.std.proofs.Common.{◌≡◌, refl, ℕ, sym, ap, subst, ◌∙◌, Option, None, Some}
use Rattle.std.specs.Prelude.{⊤, IfSome, option_map, unwrap_or}
use Rattle.geo_exact.specs.Position.{Position}
use Rattle.cad_rows.specs.declared.edits.Edit.TheVariants as edit
use Rattle.cad_rows.specs.declared.names.Face.{Face}
use Rattle.cad_rows.specs.declared.refusals.Rule.TheVariants.{V4}
use Rattle.cad_rows.specs.declared.rows.PointRow.{PointRow}
use Rattle.cad_rows.specs.declared.rows.StringRow.{StringRow}
use Rattle.cad_map.specs.Asked.{GivesInRange}
use Rattle.cad_map.specs.Effects.{after}
use Rattle.cad_map.specs.Map.{Map, far_end, origin, position_of, string_of}
use Rattle.cad_map.specs.Touched.{GoesStraight}
use Rattle.cad_map.specs.Valid.{IsValid}
use Rattle.cad_map.proofs.CallerLemmas.{none_broken}
use Rattle.cad_laws.specs.Areas.{HasPointAt, ended_by}
use Rattle.cad_laws.specs.Joining.{AreNotJoined, FarEndsAreApart}
use Rattle.cad_laws.specs.Touching.{touched_by}
use Rattle.cad_laws.specs.Tried.{IsTried}
use Rattle.cad_laws.proofs.CallerLemmas.{found-at, join-breaks, join-straight, move-from, move-from_after, move-to, move-to_after, split-between, split-lies, split-straight, touched-after}
use Rattle.cad_near.specs.KeptAreas.{HoldsAreas, KeptAreas, area_at}
use Rattle.edit_records.specs.Record.{Belongs, edit_of}
use Rattle.edit_records.specs.Recut.{recut}
use Rattle.edit_records.specs.declared.record.SmallRecord.{SmallRecord}
use Rattle.edit_records.specs.declared.record.SmallRecord.TheVariants.{AddSource, AddPoint, DropPoint, Split, Join, Divide, MergeAlong, MergeIsland, Move, Attach, Detach, Rename, Enclose}
use Rattle.edit_records.proofs.AreasLeft.{IsLeft, KeepsNone, holds-after, holds-before}

-- the record's edit is tried on the map before it
pub tried-of : (r : SmallRecord) (b n : Map) → GivesInRange (edit_of r) → Belongs r b n
    → IsTried b (edit_of r)
tried-of r b n given it =
    record { valid = it.valid; given = given; allowed = it.leads.allowed }

-- ---- Points that go elsewhere

module _ (p : ℕ) (from to : Position) (b n : Map) (given : GivesInRange (edit.Move p to.x to.y))
    (it : Belongs (Move p from to) b n) where
  tried : IsTried b (edit.Move p to.x to.y)
  tried = tried-of (Move p from to) b n given it

  -- where the point lay
  lies : position_of b p ≡ from
  lies = ap (λ (o : Option Position). unwrap_or o origin) it.holds

  -- seen from the map before, and from the map after
  pub moved-from : HasPointAt b b p from
  moved-from = subst (HasPointAt b b p) lies (move-from b p)

  pub moved-to : HasPointAt b n p to
  moved-to =
      subst (λ (x : Map). HasPointAt b x p to) (sym it.leads.is) (move-to b p to.x to.y tried)

  pub moved-from_after : HasPointAt n b p from
  moved-from_after =
      subst (λ (x : Map). HasPointAt x b p from) (sym it.leads.is)
      (subst (HasPointAt (after b (edit.Move p to.x to.y)) b p) lies
      (move-from_after b p to.x to.y tried))

  pub moved-to_after : HasPointAt n n p to
  moved-to_after =
      subst (λ (x : Map). HasPointAt x x p to) (sym it.leads.is)
      (move-to_after b p to.x to.y tried)

-- ---- Points that come between two others

module _ (row : StringRow) (place p : ℕ) (at : Position) (first second : ℕ) (b n : Map)
    (given : GivesInRange (edit.Split row.number p at.x at.y first second))
    (it : Belongs (Split row place p at first second) b n) where
  tried-split : IsTried b (edit.Split row.number p at.x at.y first second)
  tried-split = tried-of (Split row place p at first second) b n given it

  found : string_of b row.number ≡ Some row
  found =
      found-at (λ (r : StringRow). r.number) b.strings place row
      it.valid.sound.v1.strings.distinct it.holds

  -- the map after goes round by the point
  pub split-bent : GoesStraight n b p row.from row.to
  split-bent =
      subst (λ (x : Map). GoesStraight x b p row.from row.to) (sym it.leads.is)
      (split-straight b row.number p at.x at.y first second row tried-split found)

  -- which lies there
  pub split-there : position_of n p ≡ at
  split-there =
      ap (λ (x : Map). position_of x p) it.leads.is
      ∙ split-lies b row.number p at.x at.y first second row tried-split found

  -- and no side leads past it
  pub split-apart : AreNotJoined n row.from row.to
  split-apart =
      subst (λ (x : Map). AreNotJoined x row.from row.to) (sym it.leads.is)
      (split-between b row.number p at.x at.y first second row it.valid given it.leads.allowed
      found).1

-- ---- Points that go from between two others

module _ (row : PointRow) (place : ℕ) (first : StringRow) (i : ℕ) (second : StringRow)
    (j string : ℕ) (b n : Map) (given : GivesInRange (edit.Join row.number string))
    (it : Belongs (Join row place first i second j string) b n) where
  -- the map before goes round by the point
  pub joined-bent : GoesStraight b n row.number (far_end first row.number)
      (far_end second row.number)
  joined-bent =
      subst (λ (x : Map). GoesStraight b x row.number (far_end first row.number)
      (far_end second row.number)) (sym it.leads.is)
      (join-straight b row.number string first second
      (tried-of (Join row place first i second j string) b n given it) it.holds.strings)

  -- which lies there
  pub joined-there : position_of b row.number ≡ row.position
  joined-there =
      ap (λ (o : Option PointRow). unwrap_or (option_map (λ (r : PointRow). r.position) o) origin)
      (found-at (λ (r : PointRow). r.number) b.points place row
      it.valid.sound.v1.points.distinct it.holds.point)

  -- that the far ends are apart can't be denied, since the map after is valid
  not-joined : (FarEndsAreApart b (edit.Join row.number string) → ⊥) → ⊥
  not-joined never =
      none_broken (after b (edit.Join row.number string)) V4
      (subst IsValid it.leads.is it.leads.valid)
      (join-breaks b row.number string it.valid given it.leads.allowed never)

  -- and no side leads past it
  pub joined-apart : AreNotJoined b (far_end first row.number) (far_end second row.number)
  joined-apart = record {
    forth = λ h. not-joined (λ look. (look first second it.holds.strings).forth h);
    back = λ h. not-joined (λ look. (look first second it.holds.strings).back h);
  }

-- ---- Faces that are cut, or made one

-- the record is of an edit with which areas are known
abbrev pub IsBent : SmallRecord → Type 0
IsBent (Split row place p at first second) = ⊤
IsBent (Join row place first i second j string) = ⊤
IsBent (Move p from to) = ⊤
IsBent _ = ⊥

-- a record of none of these edits is none such
pub off-bent : (r : SmallRecord) → ((p : ℕ) (from to : Position) → r ≡ Move p from to → ⊥)
    → ((row : StringRow) (place p : ℕ) (at : Position) (first second : ℕ)
    → r ≡ Split row place p at first second → ⊥)
    → ((row : PointRow) (place : ℕ) (first : StringRow) (i : ℕ) (second : StringRow)
    (j string : ℕ) → r ≡ Join row place first i second j string → ⊥)
    → ¬ IsBent r
off-bent (Move p from to) move split join is = move p from to refl
off-bent (Split row place p at first second) move split join is =
    split row place p at first second refl
off-bent (Join row place first i second j string) move split join is =
    join row place first i second j string refl
off-bent (AddSource row) move split join is = is
off-bent (AddPoint p at) move split join is = is
off-bent (DropPoint row place) move split join is = is
off-bent (Divide face chain strings parcel label source start end moved) move split join is = is
off-bent (MergeAlong kept row place chain strings start end moved) move split join is = is
off-bent (MergeIsland kept row place points strings moved) move split join is = is
off-bent (Attach i source) move split join is = is
off-bent (Detach i source place) move split join is = is
off-bent (Rename p from to) move split join is = is
off-bent (Enclose face points strings parcel label source moved) move split join is = is

-- none is kept of the two faces that the edit makes of one, or that it makes one of
abbrev pub KeepsNoneRecut : KeptAreas → SmallRecord → Type 0
KeepsNoneRecut kept r =
    IfSome (recut (edit_of r)) (λ faces.
    (area_at kept faces.0 ≡ None) × (area_at kept faces.1 ≡ None))

-- then none is kept of the faces that it touches or ends
pub recut-gone : (m : Map) (r : SmallRecord) (kept : KeptAreas) → ¬ IsBent r
    → KeepsNoneRecut kept r
    → KeepsNone kept (touched_by m (edit_of r)).faces × KeepsNone kept (ended_by (edit_of r))
recut-gone m (Move p from to) kept off gone = absurd (off tt)
recut-gone m (Split row place p at first second) kept off gone = absurd (off tt)
recut-gone m (Join row place first i second j string) kept off gone = absurd (off tt)
recut-gone m (AddSource row) kept off gone = (tt, tt)
recut-gone m (AddPoint p at) kept off gone = (tt, tt)
recut-gone m (DropPoint row place) kept off gone = (tt, tt)
recut-gone m (Divide face chain strings parcel label source start end moved) kept off gone =
    ((gone.0, (gone.1, tt)), tt)
recut-gone m (MergeAlong face row place chain strings start end moved) kept off gone =
    ((gone.0, tt), (gone.1, tt))
recut-gone m (MergeIsland face row place points strings moved) kept off gone =
    ((gone.0, tt), (gone.1, tt))
recut-gone m (Attach i source) kept off gone = (tt, tt)
recut-gone m (Detach i source place) kept off gone = (tt, tt)
recut-gone m (Rename p from to) kept off gone = (tt, tt)
recut-gone m (Enclose face points strings parcel label source moved) kept off gone =
    ((gone.0, (gone.1, tt)), tt)

module _ (r : SmallRecord) (b n : Map) (given : GivesInRange (edit_of r)) (it : Belongs r b n)
    (old new : KeptAreas) (off : ¬ IsBent r) (gone : KeepsNoneRecut new r)
    (left : (f : Face) → IsLeft old new f) where
  -- areas of the map after the edit that are left are those of the map before it
  pub recut-back : HoldsAreas old n → HoldsAreas new b
  recut-back held =
      let parts = recut-gone b r new off gone in
      holds-before old new b (edit_of r) (touched_by b (edit_of r)) (tried-of r b n given it)
      (touched-after b (edit_of r) it.valid given it.leads.allowed) parts.0 parts.1 left
      (subst (HoldsAreas old) it.leads.is held)

  -- and the other way
  pub recut-again : HoldsAreas old b → HoldsAreas new n
  recut-again held =
      let parts = recut-gone b r new off gone in
      subst (HoldsAreas new) (sym it.leads.is)
      (holds-after old new b (edit_of r) (touched_by b (edit_of r)) (tried-of r b n given it)
      (touched-after b (edit_of r) it.valid given it.leads.allowed) parts.0 parts.1 left held)
