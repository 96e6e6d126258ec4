use Rattle.std.proofs.Common.{◌≡◌, ◌∙◌, refl, Option, Some, None, IfSome}
use Rattle.cad_files.proofs.InputFacts.{has_read-start}
use Rattle.cad_files.proofs.input.records_of.Goals as goal

if_known : {X : Type 0} (o : Option X) (P : X → Type 0) → ((x : X) → o ≡ Some x → P x) → IfSome o P
if_known None P h = tt
if_known (Some x) P h = h x refl

pub returns : goal.returns
returns g c = if_known _ _ (λ input known.
    let fr = c.from_reader.ensures in
    let e = c.has_headers.ensures in
    has_read-start g.R.Read.remaining c.from_reader.result (g.R.Read.remaining c.args.input) input
    (rw e at fr.trim ∙ c.new.ensures.trim) (rw e at fr.has_headers) fr.headers (rw e at fr.config ∙ c.new.ensures.config) (rw e at fr.flexible ∙ c.new.ensures.flexible) fr.expected fr.state fr.source known)
