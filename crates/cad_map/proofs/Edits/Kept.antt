-- What an edit of a valid map keeps: of the map made it can be asked what rule it breaks first.
-- V1 and V2 are kept row by row (`KeptRows`, `KeptChanges`). V5 is one theorem, `complete` of
-- `TwoFaces`: rings are complete where they have the strings' sides, each as often, and no side
-- has one face on its two hands. A join's rings are whole only where V3 and V4 hold, as in a
-- triangle.
use Rattle.std.proofs.Common.{◌≡◌, ℕ, Option, Some, None, is_some, refl, ap, sym, subst, ◌∙◌, true≢false, length, [], arith}
use Rattle.std.specs.Prelude.{ℤ}
use Rattle.cad_rows.specs.Limits.{row_limit}
use Rattle.cad_rows.specs.declared.edits.Edit.{Edit}
use Rattle.cad_rows.specs.declared.edits.Edit.TheVariants.{AddSource, AddPoint, DropPoint, Split, Join, Divide, Merge, Move, Attach, Detach, Rename, Enclose}
use Rattle.cad_rows.specs.declared.names.Face.{Face}
use Rattle.cad_rows.specs.declared.names.Face.TheVariants.{Parcel}
use Rattle.cad_rows.specs.declared.names.Name.TheVariants as name
use Rattle.cad_rows.specs.declared.rows.StringRow.{StringRow}
use Rattle.cad_map.specs.Map.{Map, string_of}
use Rattle.cad_map.specs.Valid.{IsSound, IsValid, KeepsAll, CanBeTested}
use Rattle.cad_map.specs.Refusals.{first_refusal}
use Rattle.cad_map.specs.Changes.{split, merge}
use Rattle.cad_map.specs.Effects.{after}
use Rattle.cad_map.specs.Asked.{GivesInRange}
use Rattle.cad_map.proofs.Edits.Allowed.{IsAllowed, allowed, not-when, there-one, free-point, free-dropped, position-in_range, room}
use Rattle.cad_map.proofs.Edits.KeptRows.{kept-source, kept-point, kept-drop}
use Rattle.cad_map.proofs.Edits.KeptChanges.{kept-move, kept-attach, kept-detach, kept-rename}
use Rattle.cad_map.proofs.Edits.AllowedParcels.{can-divide, can-enclose, can-merge, names-parcels}
use Rattle.cad_map.proofs.Parcels.Divided.{divided-sound}
use Rattle.cad_map.proofs.Parcels.Enclosed.{enclosed-sound}
use Rattle.cad_map.proofs.Mergers.MergedRows.{merged-sound}
use Rattle.cad_map.proofs.Edits.KeptSplit.{kept-split}
use Rattle.cad_map.proofs.Edits.KeptJoin.{kept-join}

-- V5 holds whether or not a rule before it is broken
testable : (m : Map) → IsSound m → CanBeTested m
testable m sound = record { v1 = sound.v1; v2 = sound.v2; v5 = λ v3 v4. sound.v5 }

-- a string that is named is there
there-split : (m : Map) (s p : ℕ) (x y : ℤ) (one two : ℕ) → IsAllowed m (Split s p x y one two) → (row : StringRow) × (string_of m s ≡ Some row)
there-split m s p x y one two free = by (string_of m s) refl
  where
    by : (o : Option StringRow) → string_of m s ≡ o → (row : StringRow) × (string_of m s ≡ Some row)
    by None is = absurd (true≢false (sym (there-one m (name.String s) free.unknown) ∙ ap (λ (o : Option StringRow). is_some o) is))
    by (Some row) is = (row, is)

-- a merger of two parcels
kept-merge : (m : Map) (k e : Face) → IsValid m → IsAllowed m (Merge k e) → CanBeTested (merge m k e)
kept-merge m k e v free =
    let names = names-parcels m k e free in
    let two = subst (λ (f : Face). IsAllowed m (Merge f (Parcel names.second))) names.kept_is (subst (λ (f : Face). IsAllowed m (Merge k f)) names.ended_is free) in
    subst (λ (f : Face). CanBeTested (merge m f e)) (sym names.kept_is) (subst (λ (f : Face). CanBeTested (merge m (Parcel names.first) f)) (sym names.ended_is)
    (testable (merge m (Parcel names.first) (Parcel names.second)) (merged-sound m names.first names.second v (can-merge m names.first names.second two))))

-- Of the map after an edit that is not refused at once it can be asked what rule it breaks first.
pub kept : (m : Map) (e : Edit) → IsValid m → GivesInRange e → first_refusal m e ≡ None → CanBeTested (after m e)
unfolding after
kept m (AddSource s text) v given none =
    let sound = v.sound in
    testable _ (record {
      v1 = kept-source m s text sound.v1 given.0 given.1 (allowed m (AddSource s text) none);
      v2 = sound.v2;
      v5 = record { three = sound.v5.three; once = sound.v5.once; two_faces = sound.v5.two_faces };
    })
kept m (AddPoint p x y) v given none =
    let sound = v.sound in
    let free = allowed m (AddPoint p x y) none in
    testable _ (record {
      v1 = kept-point m (record { number = p; position = record { x = x; y = y }; sources = [] }) sound.v1 given (free-point m p x y free.taken) (position-in_range x y free.range)
          (record { known = tt; distinct = tt; few = omega arith }) (room row_limit (length m.points) (not-when _ _ free.full));
      v2 = sound.v2;
      v5 = record { three = sound.v5.three; once = sound.v5.once; two_faces = sound.v5.two_faces };
    })
kept m (DropPoint p) v given none =
    let sound = v.sound in
    testable _ (record {
      v1 = kept-drop m p sound (free-dropped m p (allowed m (DropPoint p) none).not_free);
      v2 = sound.v2;
      v5 = record { three = sound.v5.three; once = sound.v5.once; two_faces = sound.v5.two_faces };
    })
kept m (Split s p x y one two) v given none =
    let free = allowed m (Split s p x y one two) none in
    let there = there-split m s p x y one two free in
    rw there.1 (testable (split m there.0 p x y one two) (kept-split m s there.0 p x y one two v there.1 given free))
kept m (Join p s) v given none = kept-join m p s v given (allowed m (Join p s) none)
kept m (Divide face chain strings parcel label source) v given none =
    testable _ (divided-sound m face chain strings parcel label source v (can-divide m face chain strings parcel label source given (allowed m (Divide face chain strings parcel label source) none)))
kept m (Merge k e) v given none = kept-merge m k e v (allowed m (Merge k e) none)
kept m (Move p x y) v given none = testable _ (kept-move m p x y v.sound (allowed m (Move p x y) none))
kept m (Attach i s) v given none = testable _ (kept-attach m i s v.sound (allowed m (Attach i s) none))
kept m (Detach i s) v given none = testable _ (kept-detach m i s v.sound)
kept m (Rename p label) v given none = testable _ (kept-rename m p label v.sound given)
kept m (Enclose face points strings parcel label source) v given none =
    testable _ (enclosed-sound m face points strings parcel label source v (can-enclose m face points strings parcel label source given (allowed m (Enclose face points strings parcel label source) none)))

-- a map that breaks no rule, of which that can be asked, is valid
pub valid-from_kept : (m : Map) → CanBeTested m → KeepsAll m → IsValid m
valid-from_kept m tested keeps = record { sound = record { v1 = tested.v1; v2 = tested.v2; v5 = tested.v5 keeps.v3 keeps.v4 }; keeps = keeps }
