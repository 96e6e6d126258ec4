use Rattle.std.proofs.Common.{sym}
use Rattle.cad_history.proofs.Built.{built_shown}
use Rattle.cad_history.proofs.Moves.{shown_map-valid}
use Rattle.cad_history.proofs.editor.Editor.map.Goals as goal

pub returns-clause-built : goal.returns-clause-built
returns-clause-built g c = λ h first st at_first.
    rw (sym c.self.view_is) at (built_shown h first _ st.history at_first st.shows)

pub returns-clause-valid : goal.returns-clause-valid
returns-clause-valid g c = λ some. rw (sym c.self.view_is) at (shown_map-valid g.M.MapView.map g.M.MapStore.belongs _ some.0 some.1)
