-- Where a hash of numbers begins.
use Rattle.std.specs.declared.hash.FoldHasher.{FoldHasher}
use Rattle.number_hash.specs.declared.hash.NumberHash.{NumberHash}

-- the hasher that it copies for each number
abbrev pub start_of : NumberHash → FoldHasher
start_of hash = hash.start
