-- What a record of a chain or an island weighs.
use Rattle.std.proofs.Common.{◌≡◌, ◌≤◌, ◌+◌, ◌*◌, ℕ, Bool, true, false, List, [], ◌∷◌, refl, length, filter, length-append, arith}
use Rattle.std.specs.Prelude.{◌&&◌, not}
use Rattle.std.proofs.lemmas.List.{length-map}
use Rattle.std.proofs.lemmas.List.Sums.{sum_by-cons}
use Rattle.cad_rows.specs.declared.names.Face.{Face}
use Rattle.cad_rows.specs.declared.rows.StringRow.{StringRow}
use Rattle.cad_rings.specs.Cycle.{Side, has_side, sides_of}
use Rattle.cad_map.specs.declared.boundary.Boundary.{Boundary}
use Rattle.cad_map.specs.Boundaries.{is_face}
use Rattle.cad_map.specs.Chain.{start_of}
use Rattle.cad_map.specs.Map.{Map, rings_of}
use Rattle.cad_laws.specs.Counts.{sources_of_strings}
use Rattle.edit_records.specs.HeldChains.{rings_beside, row_between, rows_along, closed}
use Rattle.edit_records.specs.Record.{chain_weight, chain_string_weight}
use Rattle.edit_records.specs.declared.record.ChainString.{ChainString}

-- no more pass two tests than the first
fewer : {X : Type 0} (p q : X → Bool) (xs : List X) → length (filter (λ x. p x && q x) xs) ≤ length (filter p xs)
fewer p q [] = omega arith
fewer p q (x ∷ xs) = by (p x) (q x) refl refl (fewer p q xs)
  where
    by : (a b : Bool) → p x ≡ a → q x ≡ b → length (filter (λ x. p x && q x) xs) ≤ length (filter p xs)
        → length (filter (λ x. p x && q x) (x ∷ xs)) ≤ length (filter p (x ∷ xs))
    by true true one two more = rw one (rw two (omega (arith, more)))
    by true false one two more = rw one (rw two (omega (arith, more)))
    by false b one two more = rw one more

-- the rings beside a side are no more than the face's
pub rings-few : (m : Map) (f : Face) (s : Side) → length (rings_beside m f s) ≤ length (rings_of m f)
rings-few m f s =
    let few = fewer (λ (b : Boundary). is_face f b.face) (λ (b : Boundary). not (has_side s (sides_of b.ring))) m.boundaries in
    let same = length-map (filter (λ b. is_face f b.face) m.boundaries) (λ (b : Boundary). b.ring) in
    omega (arith, few, same)

-- a chain has a row for each of its strings
pub rows-many : (strings : List ChainString) (chain : List ℕ) → length chain ≡ length strings + 1 → length (rows_along strings chain) ≡ length strings
rows-many [] chain long = refl
rows-many (s ∷ strings) [] long = absurd (omega (arith, long))
rows-many (s ∷ strings) (a ∷ []) long = absurd (omega (arith, long))
rows-many (s ∷ strings) (a ∷ b ∷ points) long =
    let more = rows-many strings (b ∷ points) (omega (arith, long)) in omega (arith, more)

-- and with these their sources
pub rows-weigh : (strings : List ChainString) (chain : List ℕ) → length chain ≡ length strings + 1
    → chain_weight strings ≡ 2 * length strings + sources_of_strings (rows_along strings chain)
rows-weigh [] chain long = refl
rows-weigh (s ∷ strings) [] long = absurd (omega (arith, long))
rows-weigh (s ∷ strings) (a ∷ []) long = absurd (omega (arith, long))
rows-weigh (s ∷ strings) (a ∷ b ∷ points) long =
    let more = rows-weigh strings (b ∷ points) (omega (arith, long)) in
    let one = sum_by-cons chain_string_weight s strings in
    let other = sum_by-cons (λ (r : StringRow). length r.sources) (row_between s a b) (rows_along strings (b ∷ points)) in
    omega (arith, more, one, other)

-- the chain round an island has a point more than the island
pub closed-long : (points : List ℕ) → length (closed points) ≡ length points + 1
closed-long points = let long = length-append points (start_of points ∷ []) in omega (arith, long)
