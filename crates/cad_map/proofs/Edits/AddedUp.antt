-- What a division, an enclosure and a merger make of parcels adds up.
use Rattle.std.proofs.Common.{ℕ, ◌-◌, List, [], ◌∷◌, ◌++◌, length, length-append, map, sym, subst, arith}
use Rattle.std.proofs.lemmas.List.{map-append}
use Rattle.std.specs.List.{AllByRecursion}
use Rattle.geo_exact.specs.Measure.{Measure, IsOdd}
use Rattle.cad_rows.specs.Limits.{IsNumber, IsLabel}
use Rattle.cad_rows.specs.declared.edits.Edit.TheVariants.{Divide, Merge, Enclose}
use Rattle.cad_rows.specs.declared.names.Face.{Face}
use Rattle.cad_rows.specs.declared.names.Face.TheVariants.{Parcel}
use Rattle.cad_rows.specs.declared.rows.ParcelRow.{ParcelRow}
use Rattle.cad_rows.specs.declared.rows.StringRow.{StringRow}
use Rattle.cad_map.specs.declared.boundary.Boundary.{Boundary}
use Rattle.cad_map.specs.Chain.{start_of, next_of, end_of, last_but_one, strings_along, chosen_corner}
use Rattle.cad_map.specs.Changes.{with_boundaries, with_new_parcel, divide_at, divide, enclose, merge}
use Rattle.cad_map.specs.Division.{boundaries_enclosed}
use Rattle.cad_map.specs.Effects.{after}
use Rattle.cad_map.specs.Map.{Map}
use Rattle.cad_map.specs.Outcome.{LeadsTo}
use Rattle.cad_map.specs.Sums.{IsSharedOut, IsTakenIn}
use Rattle.cad_map.specs.Valid.{HasSoundRows, IsValid}
use Rattle.cad_map.proofs.Edits.Allowed.{IsAllowed, allowed, not-when}
use Rattle.cad_map.proofs.Edits.AllowedParcels.{can-divide, can-enclose, can-merge, good-chain, names-parcels}
use Rattle.cad_map.proofs.Lists.EachElement.{All-append}
use Rattle.cad_map.proofs.Mergers.MergedSums.{merged-adds_up}
use Rattle.cad_map.proofs.Parcels.ChainFacts.{numbers-strings_along}
use Rattle.cad_map.proofs.Parcels.Divided.{divided-adds_up}
use Rattle.cad_map.proofs.Parcels.Enclosed.{enclosed-adds_up}

-- where a new parcel and its strings are in a map, their numbers and its label are in range
new-in_range : (m : Map) (rows : List StringRow) (parcel : ℕ) (label : List ℕ) (source : ℕ) (bs : List Boundary) → HasSoundRows (with_boundaries bs (with_new_parcel rows parcel label source m))
    → AllByRecursion IsNumber (map (λ (r : StringRow). r.number) rows) × IsNumber parcel × IsLabel label
new-in_range m rows parcel label source bs sound =
    let row : ParcelRow = record { number = parcel; label = label; sources = source ∷ [] } in
    let number : StringRow → ℕ = λ r. r.number in
    let no : ParcelRow → ℕ = λ r. r.number in
    let strings = All-append IsNumber (map number m.strings) (map number rows) (subst (λ (l : List ℕ). AllByRecursion IsNumber l) (map-append number m.strings rows) sound.strings.in_range) in
    let parcels = All-append IsNumber (map no m.parcels) (parcel ∷ []) (subst (λ (l : List ℕ). AllByRecursion IsNumber l) (map-append no m.parcels (row ∷ [])) sound.parcels.in_range) in
    let labels = All-append (λ (r : ParcelRow). IsLabel r.label) m.parcels (row ∷ []) sound.labels in
    (strings.1, parcels.1.0, labels.1.0)

pub divided : (f : Measure) → IsOdd f → (m new : Map) (face : Face) (chain strings : List ℕ) (parcel : ℕ) (label : List ℕ) (source : ℕ) → IsValid m
    → LeadsTo m (Divide face chain strings parcel label source) new → IsSharedOut f m face parcel new
unfolding after
divided f odd m new face chain strings parcel label source valid leads =
    let free = allowed m (Divide face chain strings parcel label source) leads.allowed in
    let good = good-chain chain 2 strings (length chain - 1) (not-when _ _ free.bad_chain) in
    let long = good.long in
    let many = good.as_many in
    let rows = strings_along (source ∷ []) strings chain in
    let sound : HasSoundRows (divide m face chain strings parcel label source) = subst HasSoundRows leads.is leads.valid.sound.v1 in
    let new_ones = divide_at m face chain parcel (chosen_corner m face (start_of chain) (next_of chain)) (chosen_corner m face (end_of chain) (last_but_one chain)) in
    let range = new-in_range m rows parcel label source new_ones sound in
    let given = subst (λ (l : List ℕ). AllByRecursion IsNumber l) (numbers-strings_along (source ∷ []) strings chain (omega (arith, long, many))) range.0 in
    subst (IsSharedOut f m face parcel) (sym leads.is) (divided-adds_up f odd m face chain strings parcel label source valid (can-divide m face chain strings parcel label source (given, range.1, range.2) free))

pub enclosed : (f : Measure) → IsOdd f → (m new : Map) (face : Face) (points strings : List ℕ) (parcel : ℕ) (label : List ℕ) (source : ℕ) → IsValid m
    → LeadsTo m (Enclose face points strings parcel label source) new → IsSharedOut f m face parcel new
unfolding after
enclosed f odd m new face points strings parcel label source valid leads =
    let free = allowed m (Enclose face points strings parcel label source) leads.allowed in
    let good = good-chain points 3 strings (length points) (not-when _ _ free.bad_chain) in
    let many = good.as_many in
    let round = points ++ start_of points ∷ [] in
    let longer = length-append points (start_of points ∷ []) in
    let rows = strings_along (source ∷ []) strings round in
    let sound : HasSoundRows (enclose m face points strings parcel label source) = subst HasSoundRows leads.is leads.valid.sound.v1 in
    let range = new-in_range m rows parcel label source (boundaries_enclosed m face (Parcel parcel) points) sound in
    let given = subst (λ (l : List ℕ). AllByRecursion IsNumber l) (numbers-strings_along (source ∷ []) strings round (omega (arith, longer, many))) range.0 in
    subst (IsSharedOut f m face parcel) (sym leads.is) (enclosed-adds_up f odd m face points strings parcel label source valid (can-enclose m face points strings parcel label source (given, range.1, range.2) free))

pub merged : (f : Measure) → IsOdd f → (m new : Map) (kept ended : Face) → IsValid m → LeadsTo m (Merge kept ended) new → IsTakenIn f m kept ended new
unfolding after
merged f odd m new kept ended valid leads =
    let free = allowed m (Merge kept ended) leads.allowed in
    let names = names-parcels m kept ended free in
    let two = subst (λ (g : Face). IsAllowed m (Merge g (Parcel names.second))) names.kept_is (subst (λ (g : Face). IsAllowed m (Merge kept g)) names.ended_is free) in
    subst (IsTakenIn f m kept ended) (sym leads.is)
    (subst (λ (g : Face). IsTakenIn f m g ended (merge m g ended)) (sym names.kept_is) (subst (λ (g : Face). IsTakenIn f m (Parcel names.first) g (merge m (Parcel names.first) g)) (sym names.ended_is)
    (merged-adds_up f odd m names.first names.second valid (can-merge m names.first names.second two))))
