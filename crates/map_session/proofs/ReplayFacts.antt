-- Journals.
use Rattle.std.proofs.Common.{◌≡◌, ◌∙◌, sym, subst, refl, List, [], ◌∷◌, ◌++◌, Some}
use Rattle.cad_history.specs.declared.commands.Command.{Command}
use Rattle.cad_history.specs.declared.commands.Answer.TheVariants as answer
use Rattle.cad_history.specs.History.{History}
use Rattle.cad_history.specs.Steps.{Step}
use Rattle.cad_history.proofs.OneHistory.{one_end}
use Rattle.cad_files.specs.Texts.{Record}
use Rattle.cad_files.specs.declared.line.Line.TheVariants as line
use Rattle.map_journal.specs.Journal.{Line}
use Rattle.map_session.specs.Session.{IsLineOf, IsDone, Replays}
use Rattle.map_session.proofs.LineFacts.{one_line}

one_step : (h x y : History) (c : Command) → Step h c answer.Done x → Step h c answer.Done y → x ≡ y
one_step h x y c p q = one_end (c ∷ []) (answer.Done ∷ []) h x y (x, p, refl) (y, q, refl)

same_command : (c d : Command) → Some (line.Command c) ≡ Some (line.Command d) → c ≡ d
same_command c d same = cc same

-- a line leads from a history to one
one_done : (text : Line) (a b : Record) (h x y : History) → IsLineOf text a → IsLineOf text b → IsDone h a x → IsDone h b y → x ≡ y
one_done text a b h x y p q (c, is, goes) (d, means, steps) =
    let same : d ≡ c = same_command d c (sym means ∙ sym (one_line text a b p q) ∙ is) in
    one_step h x y c goes (subst (λ e. Step h e answer.Done y) same steps)

pub one_replay : (lines : List Line) (h x y : History) → Replays h lines x → Replays h lines y → x ≡ y
one_replay [] h x y p q = p ∙ sym q
one_replay (text ∷ lines) h x y (a, mid, is, goes, rest) (b, other, means, steps, more) =
    let same : other ≡ mid = one_done text b a h other mid means is steps goes in
    one_replay lines mid x y rest (subst (λ m. Replays m lines y) same more)

pub replays_on : (first mid end : History) (done more : List Line) → Replays first done mid → Replays mid more end → Replays first (done ++ more) end
replays_on first mid end [] more p q = subst (λ h. Replays h more end) p q
replays_on first mid end (text ∷ done) more (a, next, is, goes, rest) q = (a, next, is, goes, replays_on next mid end done more rest q)
