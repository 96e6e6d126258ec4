-- A face of which an edit is seen to leave the rings as they were has its outlines, and its holes in place.
use Rattle.std.proofs.Common.{◌≡◌, inl, inr, refl, sym, ap, ◌∙◌, List}
use Rattle.std.specs.Prelude.{IsTrue, is_some}
use Rattle.cad_rows.specs.declared.names.Face.{Face}
use Rattle.cad_rows.specs.declared.names.Face.TheVariants.{Outside, Parcel}
use Rattle.cad_rows.specs.declared.rows.ParcelRow.{ParcelRow}
use Rattle.cad_map.specs.Map.{Map, has_face, position_of, rings_of}
use Rattle.cad_map.specs.Rings.{HasWholeRings}
use Rattle.numbered_rows.specs.Rows.{row_with}
use Rattle.cad_map.specs.Touched.{Moved, Joined}
use Rattle.cad_map.specs.Valid.{IsValid, has_outlines, has_sound_holes}
use Rattle.cad_map.proofs.CallerLemmas.{whole_valid}
use Rattle.cad_near.specs.Joins.{JoinsValid, LeavesJoined}
use Rattle.cad_near.specs.Moves.{MovesValid, LeavesRings}
use Rattle.cad_near.specs.Near.{outlines_wanted, HasOutlines, HasSoundHoles}
use Rattle.cad_near.proofs.JoinedFaces.{left-by_join}
use Rattle.cad_near.proofs.MovedRings.{outlines-moved, holes-moved}
use Rattle.cad_near.proofs.NearFaces.{faces-at}
use Rattle.cad_near.proofs.StraightFaces.{outlines-straight, holes-straight}

-- what a face's rings told in a valid map with the same parcels
module _ (old new : Map) (valid : IsValid old) (parcels : new.parcels ≡ old.parcels) where
  was-there : (f : Face) → IsTrue (has_face new f) → IsTrue (has_face old f)
  was-there Outside there = refl
  was-there (Parcel n) there = ap (λ (rows : List ParcelRow). is_some (row_with (λ (r : ParcelRow). r.number) n rows)) (sym parcels) ∙ there

  pub outlines-from : (f : Face) → has_outlines (outlines_wanted f) new (rings_of new f) ≡ has_outlines (outlines_wanted f) old (rings_of old f) → IsTrue (has_face new f) → HasOutlines new f
  outlines-from f same there = same ∙ faces-at old valid.sound.v1 (λ f. has_outlines (outlines_wanted f) old (rings_of old f)) valid.keeps.v7 f (was-there f there)

  pub holes-from : (f : Face) → has_sound_holes new (rings_of new f) ≡ has_sound_holes old (rings_of old f) → IsTrue (has_face new f) → HasSoundHoles new f
  holes-from f same there = same ∙ faces-at old valid.sound.v1 (λ f. has_sound_holes old (rings_of old f)) valid.keeps.v8 f (was-there f there)

-- after a move or a split
module _ (m : Map) (v : Moved) (comes : MovesValid m v) (whole : HasWholeRings m) (f : Face) (leaves : LeavesRings m f v) where
  pub outlines-left : IsTrue (has_face m f) → HasOutlines m f
  outlines-left = elim comes.comes [
    | inl by_move ↦ outlines-from comes.before m comes.valid by_move.parcels f (outlines-moved comes.before m v comes.valid whole by_move f leaves (outlines_wanted f))
    | inr by_split ↦
        let goes = by_split.straight in
        outlines-from comes.before m comes.valid (sym goes.parcels) f
        (outlines-straight m comes.before v.point by_split.first by_split.second v.from goes (sym (goes.elsewhere by_split.first goes.first_other) ∙ by_split.from) whole f leaves (outlines_wanted f))
  ]

  pub holes-left : IsTrue (has_face m f) → HasSoundHoles m f
  holes-left = elim comes.comes [
    | inl by_move ↦ holes-from comes.before m comes.valid by_move.parcels f (holes-moved comes.before m v comes.valid whole by_move f leaves)
    | inr by_split ↦
        let goes = by_split.straight in
        holes-from comes.before m comes.valid (sym goes.parcels) f
        (holes-straight m comes.before v.point by_split.first by_split.second v.from goes (sym (goes.elsewhere by_split.first goes.first_other) ∙ by_split.from) whole f leaves)
  ]

-- after a join
module _ (m : Map) (j : Joined) (comes : JoinsValid m j) (whole : HasWholeRings m) (f : Face) (leaves : LeavesJoined m f j) where
  abbrev old : Map
  old = comes.before

  left : LeavesRings old f (record { point = j.point; from = position_of old j.first })
  left = left-by_join old m j comes.comes (whole_valid old comes.valid) whole f leaves

  pub outlines-joined : IsTrue (has_face m f) → HasOutlines m f
  outlines-joined = outlines-from old m comes.valid comes.comes.straight.parcels f
      (sym (outlines-straight old m j.point j.first j.second (position_of old j.first) comes.comes.straight refl (whole_valid old comes.valid) f left (outlines_wanted f)))

  pub holes-joined : IsTrue (has_face m f) → HasSoundHoles m f
  holes-joined = holes-from old m comes.valid comes.comes.straight.parcels f
      (sym (holes-straight old m j.point j.first j.second (position_of old j.first) comes.comes.straight refl (whole_valid old comes.valid) f left))
