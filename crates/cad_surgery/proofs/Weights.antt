-- The record of an edit is small.
use Rattle.std.proofs.Common.{◌≡◌, ◌≤◌, ◌+◌, ◌*◌, ℕ, List, [], ◌∷◌, refl, sym, ap, ◌∙◌, subst, Some, Option, length, arith, Bool, true, false}
use Rattle.std.specs.Prelude.{option_map, unwrap_or, sum_by, nat_lt, Result, Ok, Err, IfOk, OnOk}
use Rattle.std.proofs.lemmas.List.Sums.{sum_by-cons}
use Rattle.std.proofs.lemmas.List.Sorted.{length_permutation, sum_by-IsPermutation}
use Rattle.cad_rows.specs.declared.edits.Edit.{Edit}
use Rattle.cad_rows.specs.declared.edits.Edit.TheVariants as edit
use Rattle.cad_rows.specs.declared.names.Face.{Face}
use Rattle.cad_rows.specs.declared.names.Face.TheVariants as face_of
use Rattle.cad_rows.specs.declared.names.Item.TheVariants as item
use Rattle.cad_rows.specs.declared.rows.ParcelRow.{ParcelRow}
use Rattle.cad_rows.specs.declared.rows.PointRow.{PointRow}
use Rattle.cad_rows.specs.declared.rows.StringRow.{StringRow}
use Rattle.cad_rings.specs.Cycle.{Side}
use Rattle.cad_map.specs.Changes.{by_number}
use Rattle.cad_map.specs.Chain.{start_of, next_of}
use Rattle.cad_map.specs.Costs.{weight_bound}
use Rattle.cad_map.specs.Effects.{after}
use Rattle.cad_map.specs.Map.{Map, point_of, string_of, parcel_of, strings_at, rings_of}
use Rattle.cad_map.specs.Refusals.{sources_at}
use Rattle.cad_map.proofs.CallerLemmas.{allowed, can-divide, can-enclose}
use Rattle.cad_laws.specs.Counts.{rows_by, sources_by, rings_by, shared_strings}
use Rattle.cad_laws.specs.Tried.{IsTried}
use Rattle.cad_laws.proofs.CallerLemmas.{counted, rings-counted_by, found-at}
use Rattle.half_table.specs.declared.half.Half.{Half}
use Rattle.edit_records.specs.HeldChains.{HeldMerged, NamesRings, rings_beside, rows_along, closed}
use Rattle.edit_records.specs.Record.{edit_of, Holds, weight, chain_weight}
use Rattle.edit_records.specs.declared.record.ChainString.{ChainString}
use Rattle.edit_records.specs.declared.record.SmallRecord.{SmallRecord}
use Rattle.edit_records.specs.declared.record.SmallRecord.TheVariants.{AddSource, AddPoint, DropPoint, Split, Join, Divide, MergeAlong, MergeIsland, Move, Attach, Detach, Rename, Enclose}
use Rattle.edit_records.proofs.ChainWeights.{rings-few, rows-many, rows-weigh, closed-long}

-- two strings in the order of their numbers have the same sources
by-number-sum : (f : StringRow → ℕ) (ss : List StringRow) (s t : StringRow) → by_number ss ≡ s ∷ t ∷ [] → sum_by f ss ≡ f s + f t
by-number-sum f [] s t is = cc
by-number-sum f (a ∷ []) s t is = cc
by-number-sum f (a ∷ b ∷ rest) s t is = by (nat_lt b.number a.number) refl
  where
    total : (x y : StringRow) (more : List StringRow) → sum_by f (x ∷ y ∷ more) ≡ f x + (f y + sum_by f more)
    total x y more = sum_by-cons f x (y ∷ more) ∙ ap (λ (n : ℕ). f x + n) (sum_by-cons f y more)

    by : (c : Bool) → nat_lt b.number a.number ≡ c → sum_by f (a ∷ b ∷ rest) ≡ f s + f t
    by true less =
        let at : b ∷ a ∷ rest ≡ s ∷ t ∷ [] = rw less at is in
        let one = total a b rest in
        let two = sym (total b a rest) ∙ ap (sum_by f) at ∙ total s t [] in
        omega (arith, one, two)
    by false less =
        let at : a ∷ b ∷ rest ≡ s ∷ t ∷ [] = rw less at is in
        let two = ap (sum_by f) at ∙ total s t [] in
        omega (arith, two)

-- the rings that pass over are no more than the face's
moved-few : (m : Map) (f : Face) (s : Side) (halves : List Half) → NamesRings m halves (rings_beside m f s) → length halves ≤ length (rings_of m f)
moved-few m f s halves names =
    let few = rings-few m f s in
    let many = names.as_many in
    omega (arith, few, many)

-- what a merger takes weighs as much as its strings and their places, and the sources of all that goes
gone-weighs : (m : Map) (kept : Face) (row : ParcelRow) (place : ℕ) (strings : List ChainString) (chain : List ℕ) → IsTried m (edit.Merge kept (face_of.Parcel row.number)) → HeldMerged m kept row place strings chain
    → (length (shared_strings m kept (face_of.Parcel row.number)) ≡ length strings) × (chain_weight strings + length row.sources ≡ 2 * length strings + sources_by m (edit.Merge kept (face_of.Parcel row.number)))
gone-weighs m kept row place strings chain t held =
    let shared = shared_strings m kept (face_of.Parcel row.number) in
    let rows = rows_along strings chain in
    let many = rows-many strings chain held.as_many in
    let weigh = rows-weigh strings chain held.as_many in
    let as_many = length_permutation rows shared held.shared in
    let sources = sum_by-IsPermutation (λ (s : StringRow). length s.sources) rows shared held.shared in
    let found : parcel_of m row.number ≡ Some row = found-at (λ (q : ParcelRow). q.number) m.parcels place row t.valid.sound.v1.parcels.distinct held.parcel in
    let is : length (sources_at m (item.Parcel row.number)) ≡ length row.sources = ap (λ (o : Option ParcelRow). length (unwrap_or (option_map (λ r. r.sources) o) [])) found in
    (omega (arith, many, as_many), omega (arith, weigh, sources, is))

light : (m : Map) (r : SmallRecord) → IsTried m (edit_of r) → Holds r m → weight r ≤ 8 + 3 * rows_by m (edit_of r) + rings_by m (edit_of r) + sources_by m (edit_of r)
light m (AddSource row) t holds = omega arith
light m (AddPoint p at) t holds = omega arith
light m (DropPoint row place) t holds =
    let found : point_of m row.number ≡ Some row = found-at (λ (q : PointRow). q.number) m.points place row t.valid.sound.v1.points.distinct holds in
    let is : length (sources_at m (item.Point row.number)) ≡ length row.sources = ap (λ (o : Option PointRow). length (unwrap_or (option_map (λ r. r.sources) o) [])) found in
    omega (arith, is)
light m (Split row place p at first second) t holds =
    let found : string_of m row.number ≡ Some row = found-at (λ (q : StringRow). q.number) m.strings place row t.valid.sound.v1.strings.distinct holds in
    let is : length (sources_at m (item.String row.number)) ≡ length row.sources = ap (λ (o : Option StringRow). length (unwrap_or (option_map (λ r. r.sources) o) [])) found in
    omega (arith, is)
light m (Join row place first i second j string) t holds =
    let found : point_of m row.number ≡ Some row = found-at (λ (q : PointRow). q.number) m.points place row t.valid.sound.v1.points.distinct holds.point in
    let is : length (sources_at m (item.Point row.number)) ≡ length row.sources = ap (λ (o : Option PointRow). length (unwrap_or (option_map (λ r. r.sources) o) [])) found in
    let both = by-number-sum (λ s. length s.sources) (strings_at m row.number) first second holds.strings in
    omega (arith, is, both)
light m (Divide face chain strings parcel label source start end moved) t holds =
    let can = can-divide m face chain strings parcel label source t.given (allowed m (edit.Divide face chain strings parcel label source) t.allowed) in
    let long = can.as_many in
    let many = moved-few (after m (edit.Divide face chain strings parcel label source)) (face_of.Parcel parcel) (start_of chain, next_of chain) moved.items holds.moved_are in
    omega (arith, long, many)
light m (MergeAlong kept row place chain strings start end moved) t holds =
    let gone = gone-weighs m kept row place strings.items chain t holds.gone in
    let long = holds.gone.as_many in
    let many = moved-few m (face_of.Parcel row.number) (start_of chain, next_of chain) moved.items holds.held.moved_are in
    omega (arith, gone, long, many)
light m (MergeIsland kept row place points strings moved) t holds =
    let gone = gone-weighs m kept row place strings.items (closed points) t holds.gone in
    let long = holds.gone.as_many in
    let round = closed-long points in
    let many = moved-few m (face_of.Parcel row.number) (start_of points, next_of points) moved.items holds.held in
    omega (arith, gone, long, round, many)
light m (Move p from to) t holds = omega arith
light m (Attach (item.Point n) s) t holds = omega arith
light m (Attach (item.String n) s) t holds = omega arith
light m (Attach (item.Parcel n) s) t holds = omega arith
light m (Detach (item.Point n) s place) t holds = omega arith
light m (Detach (item.String n) s place) t holds = omega arith
light m (Detach (item.Parcel n) s place) t holds = omega arith
light m (Rename p from to) t holds = omega arith
light m (Enclose face points strings parcel label source moved) t holds =
    let can = can-enclose m face points strings parcel label source t.given (allowed m (edit.Enclose face points strings parcel label source) t.allowed) in
    let long = can.as_many in
    let many = moved-few (after m (edit.Enclose face points strings parcel label source)) (face_of.Parcel parcel) (start_of points, next_of points) moved.items holds in
    omega (arith, long, many)

-- no more than the bound for its edit
pub weight-few : (m : Map) (e : Edit) (r : SmallRecord) → IsTried m e → edit_of r ≡ e → Holds r m → weight r ≤ weight_bound m (after m e)
weight-few m e r t is holds =
    let few = subst (λ (f : Edit). weight r ≤ 8 + 3 * rows_by m f + rings_by m f + sources_by m f) is (light m r (subst (IsTried m) (sym is) t) holds) in
    let rows = (counted m e t.valid t.given t.allowed).rows_are in
    let sources = (counted m e t.valid t.given t.allowed).sources_are in
    let rings = rings-counted_by m e t.valid t.given t.allowed in
    omega (arith, few, rows, sources, rings)

pub weight-ok : {E : Type 0} (m n : Map) (e : Edit) → IsTried m e → (o : Result SmallRecord E) → IfOk o (λ r. edit_of r ≡ e) → IfOk o (λ r. Holds r m) → OnOk o (n ≡ after m e) → IfOk o (λ r. weight r ≤ weight_bound m n)
weight-ok m n e t (Ok r) is holds made = subst (λ (q : Map). weight r ≤ weight_bound m q) (sym made) (weight-few m e r t is holds)
weight-ok m n e t (Err x) is holds made = tt
