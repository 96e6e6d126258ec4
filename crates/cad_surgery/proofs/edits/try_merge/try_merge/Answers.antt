use Rattle.std.proofs.Common.{◌≡◌, ◌∙◌, sym, ap, subst, false, true≢false, refl, List, [], length, Option, Some, None}
use Rattle.std.specs.Prelude.{◌==◌, IsSome, IfNone}
use Rattle.cad_rows.specs.declared.edits.Edit.TheVariants.{Merge}
use Rattle.cad_rows.specs.declared.names.Face.{Face}
use Rattle.cad_rows.specs.declared.names.Face.TheVariants.{Parcel}
use Rattle.cad_map.specs.Merger.{ChainInRings, shared_chains}
use Rattle.cad_map.specs.declared.shared_chain.SharedChain.{SharedChain}
use Rattle.cad_map.proofs.CallerLemmas.{allowed, names-parcels, not-when}
use Rattle.map_parts.specs.Parts.{map_of}
use Rattle.cad_surgery.specs.Trials.{IsReadyFor, IsTrialOf}
use Rattle.cad_surgery.proofs.edits.try_merge.try_merge.Goals as goal

-- where there is a chain, one is found
found-one : (o : Option SharedChain) (chains : List ChainInRings) → (length chains == 0) ≡ false → IfNone o (chains ≡ []) → IsSome o
found-one (Some x) chains more none = refl
found-one None chains more none = absurd (true≢false (sym (ap (λ (l : List ChainInRings). length l == 0) none) ∙ more))

pub unreachable-requires : goal.unreachable-requires
unreachable-requires g c =
    let names = names-parcels (map_of c.args.draft.now) c.args.kept c.args.ended (allowed (map_of c.args.draft.now) (Merge c.args.kept c.args.ended) c.requires.tried.allowed) in
    c.in_default.not-Parcel names.second names.ended_is

pub unwrap-chain-requires : goal.unwrap-chain-requires
unwrap-chain-requires g c =
    let m = map_of c.args.draft.now in
    let more = not-when _ _ (allowed m (Merge c.args.kept c.args.ended) c.requires.tried.allowed).not_one_chain in
    found-one c.find_shared_chain.result (shared_chains m c.args.kept (Parcel c.in-Parcel.parcel))
    (subst (λ (f : Face). (length (shared_chains m c.args.kept f) == 0) ≡ false) c.in-Parcel.is more) c.find_shared_chain.ensures.none

pub merge_recording-requires-clause-ready : goal.merge_recording-requires-clause-ready
merge_recording-requires-clause-ready g c =
    subst (λ (f : Face). IsReadyFor (Merge c.args.kept f) c.args.draft.now c.args.areas.now c.args.touched.now) c.in-Parcel.is c.requires

pub returns : goal.returns
returns g c =
    subst (λ (f : Face). IsTrialOf (Merge c.args.kept f) c.args.draft.now c.merge_recording.new.draft c.merge_recording.result) (sym c.in-Parcel.is) c.merge_recording.ensures
