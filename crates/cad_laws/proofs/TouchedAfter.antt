-- What each edit touches.
use Rattle.std.proofs.Common.{◌≡◌, ◌++◌, [], ◌∷◌, not, ◌==◌, filter, None}
use Rattle.cad_rows.specs.declared.edits.Edit.{Edit}
use Rattle.cad_rows.specs.declared.edits.Edit.TheVariants.{AddSource, AddPoint, DropPoint, Split, Join, Divide, Merge, Move, Attach, Detach, Rename, Enclose}
use Rattle.cad_map.specs.Asked.{GivesInRange}
use Rattle.cad_map.specs.Effects.{after}
use Rattle.cad_map.specs.Map.{Map}
use Rattle.cad_map.specs.Refusals.{first_refusal}
use Rattle.cad_map.specs.Touched.{IsTouched}
use Rattle.cad_map.specs.Valid.{IsValid}
use Rattle.cad_laws.specs.Touching.{touched_by}
use Rattle.cad_laws.proofs.TouchedMerger.{merged-touched}
use Rattle.cad_laws.proofs.TouchedParcels.{divided-touched, enclosed-touched}
use Rattle.cad_laws.proofs.TouchedPoints.{split-touched, join-touched, move-touched}
use Rattle.cad_laws.proofs.TouchedRows.{untouched-sources, untouched-label, untouched-source, added-touched, dropped-touched}

-- An edit that isn't refused at once touches no more than this.
pub touched-after : (m : Map) (e : Edit) → IsValid m → GivesInRange e → first_refusal m e ≡ None
    → IsTouched m (after m e) (touched_by m e)
unfolding after
touched-after m (AddSource s text) v given none = untouched-source m v s text
touched-after m (AddPoint p x y) v given none = added-touched m p x y v
touched-after m (DropPoint p) v given none = dropped-touched m p v none
touched-after m (Split s p x y one two) v given none = split-touched m s p x y one two v given none
touched-after m (Join p s) v given none = join-touched m p s v none
touched-after m (Divide face chain strings parcel label source) v given none =
    divided-touched m face chain strings parcel label source v given none
touched-after m (Merge k e) v given none = merged-touched m k e v none
touched-after m (Move p x y) v given none = move-touched m p x y v none
touched-after m (Attach i s) v given none =
    untouched-sources m v i (λ sources. sources ++ s ∷ [])
touched-after m (Detach i s) v given none =
    untouched-sources m v i (λ sources. filter (λ t. not (t == s)) sources)
touched-after m (Rename p label) v given none = untouched-label m v p label
touched-after m (Enclose face points strings parcel label source) v given none =
    enclosed-touched m face points strings parcel label source v given none
