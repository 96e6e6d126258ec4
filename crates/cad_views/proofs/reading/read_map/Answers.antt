use Rattle.std.proofs.Common.{inl, inr}
use Rattle.csv.specs.Reading.{strip_bom}
use Rattle.cad_files.proofs.CallerLemmas.{if_some}
use Rattle.cad_views.specs.Reading.{IsFaultOf}
use Rattle.cad_views.proofs.ReadingFacts.{plan_read}
use Rattle.cad_views.proofs.reading.read_map.Goals as goal

pub returns-in-Err-clause-fault : goal.returns-in-Err-clause-fault
returns-in-Err-clause-fault g c = if_some {Q = λ input. IsFaultOf (strip_bom input) c.in-Err.fault} _ (λ input start.
    λ read memory. inl (c.in-Err.ensures.err (strip_bom input) start read memory)) c.records_of-reader.ensures

pub returns-in-Err-build-clause-fault : goal.returns-in-Err-build-clause-fault
returns-in-Err-build-clause-fault g c = if_some _ (λ input start.
    let (plan, read, opens) = c.in-Ok.ensures.ok (strip_bom input) start in
    λ _ memory. inr (_, plan_read g.R.Read.remaining (strip_bom input) plan _ _ read opens, c.in-Err-build.ensures.err memory)) c.records_of-reader.ensures

pub returns-clause-read : goal.returns-clause-read
returns-clause-read g c = if_some _ (λ input start.
    let (plan, read, opens) = c.in-Ok.ensures.ok (strip_bom input) start in
    plan_read g.R.Read.remaining (strip_bom input) plan _ _ read opens) c.records_of-reader.ensures
