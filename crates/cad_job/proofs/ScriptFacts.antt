-- One record more of a script.
use Rattle.std.proofs.Common.{◌∙◌, sym, ap, refl, ℕ, Bool, true, false, ◌≡◌, List, [], ◌∷◌, ◌++◌, append-nil, append_assoc, subst}
use Rattle.cad_history.specs.History.{History}
use Rattle.cad_files.specs.Line.{line_of}
use Rattle.cad_session.specs.Answered.{IsAnswered, AreAnswered}
use Rattle.cad_job.specs.Stopped.{AreGoneThrough, stops}

pub AreAnswered-more : (old : History) (script : List (List (List ℕ))) (text : List ℕ) (mid : History) (fields : List (List ℕ)) (more : List ℕ) (new : History)
    → AreAnswered old script text mid → IsAnswered mid (line_of fields) more new → AreAnswered old (script ++ fields ∷ []) (text ++ more) new
AreAnswered-more old [] text mid fields more new told next =
    (new, more, [], subst (λ (h : History). IsAnswered h (line_of fields) more new) told.1 next, (refl, refl), ap (λ (t : List ℕ). t ++ more) told.0 ∙ sym (append-nil more))
AreAnswered-more old (first ∷ script) text mid fields more new told next =
    let (between, here, rest, answered, later, whole) = told in
    (between, here, rest ++ more, answered, AreAnswered-more between script rest mid fields more new later next, ap (λ (t : List ℕ). t ++ more) whole ∙ append_assoc here rest more)

-- the same of a script that may stop
pub AreGoneThrough-more : (stop : Bool) (old : History) (script : List (List (List ℕ))) (text : List ℕ) (mid : History) (fields : List (List ℕ)) (more : List ℕ) (new : History)
    → AreGoneThrough stop old script text mid → IsAnswered mid (line_of fields) more new → (stop ≡ true → stops more ≡ false) → AreGoneThrough stop old (script ++ fields ∷ []) (text ++ more) new
AreGoneThrough-more stop old [] text mid fields more new told next on =
    (new, more, [], subst (λ (h : History). IsAnswered h (line_of fields) more new) told.1 next, on, (refl, refl), ap (λ (t : List ℕ). t ++ more) told.0 ∙ sym (append-nil more))
AreGoneThrough-more stop old (first ∷ script) text mid fields more new told next on =
    let (between, here, rest, answered, goes, later, whole) = told in
    (between, here, rest ++ more, answered, goes, AreGoneThrough-more stop between script rest mid fields more new later next on, ap (λ (t : List ℕ). t ++ more) whole ∙ append_assoc here rest more)

-- what went through was answered
pub through-answered : (stop : Bool) (old : History) (script : List (List (List ℕ))) (text : List ℕ) (new : History) → AreGoneThrough stop old script text new → AreAnswered old script text new
through-answered stop old [] text new told = told
through-answered stop old (first ∷ script) text new (between, here, rest, answered, goes, later, whole) = (between, here, rest, answered, through-answered stop between script rest new later, whole)
