-- What becomes of the sources of an item.
use Rattle.std.specs.Prelude.{ℕ, not, ◌==◌, List, [], ◌∷◌, ◌++◌, filter}
use Rattle.cad_edit.specs.declared.edits.sources.SourceChange.{SourceChange}
use Rattle.cad_edit.specs.declared.edits.sources.SourceChange.TheVariants.{Put, Leave}

-- the sources as a change leaves them
abbrev pub sources_after : SourceChange → List ℕ → List ℕ
sources_after (Put s) sources = sources ++ s ∷ []
sources_after (Leave s) sources = filter (λ t. not (t == s)) sources
