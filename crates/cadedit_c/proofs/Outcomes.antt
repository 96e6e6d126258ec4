-- What follows of a fault, and of a status.
use Rattle.std.proofs.Common.{◌≡◌, ◌≢◌, ◌⊎◌, ◌∙◌, sym, subst, ℕ, List, [], ◌∷◌, inl, inr}
use Rattle.cad_history.specs.History.{History}
use Rattle.cad_files.specs.Input.{IsWhole}
use Rattle.cad_files.specs.Line.{line_of}
use Rattle.cad_session.specs.Answered.{IsCarriedOut, IsSubmitFault}
use Rattle.cad_session.specs.declared.faults.SubmitFault.{SubmitFault}
use Rattle.cad_session.specs.declared.faults.SubmitFault.TheVariants as faults
use Rattle.cad_handle.specs.Sessions.{Shows}
use Rattle.cad_handle.specs.declared.state.State.{State}

-- the command of the one record was carried out
pub carried_out : (s t : State) (text : List ℕ) (fault : SubmitFault) → fault ≡ faults.Done
    → ((h : History) → Shows s.editor h → (end : History) × IsSubmitFault h text fault end × Shows t.editor end)
    → (h : History) → Shows s.editor h → (fields : List (List ℕ)) × (end : History) × IsWhole text (fields ∷ []) × IsCarriedOut h (line_of fields) end × Shows t.editor end
carried_out s t text fault is goes h shows =
    let (end, told, after) = goes h shows in
    let done : IsSubmitFault h text faults.Done end = subst (λ (f : SubmitFault). IsSubmitFault h text f end) is told in
    let (fields, whole, carried) = done in
    (fields, end, whole, carried, after)

-- a status of two is no third
pub no_other : (r n : ℕ) → n ≢ 2 → n ≢ 5 → (r ≡ 2) ⊎ (r ≡ 5) → r ≡ n → ⊥
no_other r n two five (inl e) is = two (sym is ∙ e)
no_other r n two five (inr e) is = five (sym is ∙ e)

pub among_all : (r : ℕ) → (r ≡ 2) ⊎ (r ≡ 5) → (r ≡ 0) ⊎ ((r ≡ 1) ⊎ ((r ≡ 2) ⊎ ((r ≡ 4) ⊎ (r ≡ 5))))
among_all r (inl e) = inr (inr (inl e))
among_all r (inr e) = inr (inr (inr (inr e)))
