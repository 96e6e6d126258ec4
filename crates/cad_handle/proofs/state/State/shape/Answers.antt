use Rattle.std.proofs.lemmas.Bool.{false≢true}
use Rattle.cad_handle.proofs.NumberFacts.{no-parcel}
use Rattle.cad_handle.proofs.state.State.shape.Goals as goal

pub returns-in_default-clause-shape : goal.returns-in_default-clause-shape
returns-in_default-clause-shape c = λ h m shows shown.
    no-parcel m c.args.number (shows.history.valid h.place m shown) (λ n. false≢true (c.in_default.ensures.some.1 n))
