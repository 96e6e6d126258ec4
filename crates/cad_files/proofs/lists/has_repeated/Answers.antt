use Rattle.std.proofs.Common.{◌≡◌, ◌∙◌, ℕ, List}
use Rattle.cad_files.proofs.RepeatedSources.{repeated-told}
use Rattle.cad_files.proofs.lists.has_repeated.Goals as goal

pub returns : goal.returns
returns g c =
    let list : List ℕ = c.args.list.now in
    let keys : List ℕ = c.as_slice.result.now in
    let same : keys ≡ list = c.as_slice.ensures.value ∙ c.in_ok-keys.ensures in
    c.is_some.ensures
    ∙ repeated-told list c.in_ok-first_repeated.field-0 (rw same at c.in_ok-first_repeated.ensures.some)
    (rw same at c.in_ok-first_repeated.ensures.none)
