use Rattle.std.proofs.Common.{◌+◌, ap, refl, ◌∙◌, ◌∷◌, [], Some, arith}
use Rattle.std.proofs.lemmas.Option.{slice_get_read}
use Rattle.cad_map.specs.Chain.{start_of}
use Rattle.edit_records.proofs.GridLists.{closed-at, closed-last, starts-at}
use Rattle.edit_records.proofs.grid_lists.point_after.Goals as goal

pub returns-then-place-chain : goal.returns-then-place-chain
returns-then-place-chain c =
    let chain = c.args.chain.now in
    let next = c.index-chain-place.result in
    closed-at chain (start_of chain ∷ []) (c.args.place + 1) next (slice_get_read chain _ (c.args.place + 1) next refl c.if-place-chain.true c.index-chain-place.is)

pub returns-else-place-chain : goal.returns-else-place-chain
returns-else-place-chain c =
    let chain = c.args.chain.now in
    let next = c.index-chain-0.result in
    closed-last chain (start_of chain) (c.args.place + 1) (omega (arith, c.if-place-chain.false, c.requires))
    ∙ ap Some (starts-at chain next (slice_get_read chain _ 0 next refl (omega (arith, c.requires)) c.index-chain-0.is))
