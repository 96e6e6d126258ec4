-- A hash under which numbers that follow one another mostly stand side by side in a table.
use Rattle.std.specs.Prelude.{ℕ, List, length, ◌/◌, ◌%◌, ◌*◌, ◌==◌, if◌then◌else◌, bit_xor}
use Rattle.std.specs.Int.{to_le_bytes, from_le_bytes, w32, w64}
use Rattle.std.specs.Hash.FoldHasher as folding
use Rattle.number_hash.specs.declared.hasher.NumberHasher.{NumberHasher}

-- the number of four or eight bytes, the lowest first, and of others their hash
abbrev pub number_in : List ℕ → ℕ
number_in bytes =
    if length bytes == 4 then from_le_bytes w32 bytes
    else (if length bytes == 8 then from_le_bytes w64 bytes else folding.finish (folding.write folding.initial bytes))

-- a hasher keeps the number that it was given last
abbrev pub write : NumberHasher → List ℕ → NumberHasher
write hasher bytes = record hasher { number = number_in bytes }

-- std's hash of the number's block of four, changed in two high bits by the place in the block
abbrev pub finish : NumberHasher → ℕ
finish hasher =
    bit_xor (folding.finish (folding.write hasher.start (to_le_bytes w64 (hasher.number / 4)))) (hasher.number % 4 * 1073741824)
