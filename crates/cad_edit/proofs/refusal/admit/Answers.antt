use Rattle.std.proofs.Common.{◌≡◌, sym, subst, ◌∙◌, List, [], ◌∷◌, Option, Some, None}
use Rattle.std.specs.Prelude.{IfOk, IfErr}
use Rattle.cad_rows.specs.declared.edits.Edit.{Edit}
use Rattle.cad_rows.specs.declared.refusals.Refusal.{Refusal}
use Rattle.cad_map.specs.Map.{Map}
use Rattle.cad_map.specs.Refusals.{first_of, first_refusal, range, unknown, taken, retired, outside, no_change, not_free, not_degree_two, bad_chain, not_in_parcel, chain_joins_rings, same_parcel, not_neighbours, not_one_chain, already_attached, not_attached, full}
use Rattle.cad_edit.proofs.FirstReasons.{first-none, first-former, first-latter}
use Rattle.cad_edit.proofs.refusal.admit.Goals as goal

abbrev early : Map → Edit → List (Option Refusal)
early m e = range e ∷ unknown m e ∷ taken m e ∷ retired m e ∷ outside e ∷ no_change m e ∷ not_free m e ∷ not_degree_two m e ∷ bad_chain e ∷ []

abbrev later : Map → Edit → List (Option Refusal)
later m e =
    not_in_parcel m e ∷ chain_joins_rings m e ∷ same_parcel e ∷ not_neighbours m e ∷ not_one_chain m e ∷ already_attached m e ∷ not_attached m e ∷ full m e ∷ []

-- what none of the early reasons says
early-none : (m : Map) (e : Edit) → first_of (early m e) ≡ None → (unknown m e ≡ None) × (not_degree_two m e ≡ None) × (bad_chain e ≡ None)
early-none m e none =
    let a = first-none (range e) (unknown m e ∷ taken m e ∷ retired m e ∷ outside e ∷ no_change m e ∷ not_free m e ∷ not_degree_two m e ∷ bad_chain e ∷ []) none in
    let b = first-none (unknown m e) (taken m e ∷ retired m e ∷ outside e ∷ no_change m e ∷ not_free m e ∷ not_degree_two m e ∷ bad_chain e ∷ []) a.1 in
    let c = first-none (taken m e) (retired m e ∷ outside e ∷ no_change m e ∷ not_free m e ∷ not_degree_two m e ∷ bad_chain e ∷ []) b.1 in
    let d = first-none (retired m e) (outside e ∷ no_change m e ∷ not_free m e ∷ not_degree_two m e ∷ bad_chain e ∷ []) c.1 in
    let f = first-none (outside e) (no_change m e ∷ not_free m e ∷ not_degree_two m e ∷ bad_chain e ∷ []) d.1 in
    let g = first-none (no_change m e) (not_free m e ∷ not_degree_two m e ∷ bad_chain e ∷ []) f.1 in
    let h = first-none (not_free m e) (not_degree_two m e ∷ bad_chain e ∷ []) g.1 in
    let i = first-none (not_degree_two m e) (bad_chain e ∷ []) h.1 in
    let j = first-none (bad_chain e) [] i.1 in
    (b.0, i.0, j.0)

pub admit_later-requires-clause-two : goal.admit_later-requires-clause-two
admit_later-requires-clause-two g c = (early-none (g.M.MapView.map c.args.map.now) c.args.edit.now (sym c.early_refusal.ensures ∙ c.in_default.is)).1

pub admit_later-requires-clause-chain : goal.admit_later-requires-clause-chain
admit_later-requires-clause-chain g c = (early-none (g.M.MapView.map c.args.map.now) c.args.edit.now (sym c.early_refusal.ensures ∙ c.in_default.is)).2

pub returns-in-Some-clause-refused : goal.returns-in-Some-clause-refused
unfolding first_refusal
returns-in-Some-clause-refused g c =
    let m = g.M.MapView.map c.args.map.now in
    let e = c.args.edit.now in
    first-former (early m e) (later m e) c.in-Some.refusal (sym c.early_refusal.ensures ∙ c.in-Some.is)

pub returns-clause-refused : goal.returns-clause-refused
unfolding first_refusal
returns-clause-refused g c =
    let m = g.M.MapView.map c.args.map.now in
    let e = c.args.edit.now in
    subst (λ (o : Option Refusal). IfErr c.admit_later.result (λ r. o ≡ Some r)) (sym (first-latter (early m e) (later m e) (sym c.early_refusal.ensures ∙ c.in_default.is))) c.admit_later.ensures.refused

pub returns-clause-allowed : goal.returns-clause-allowed
unfolding first_refusal
returns-clause-allowed g c =
    let m = g.M.MapView.map c.args.map.now in
    let e = c.args.edit.now in
    subst (λ (o : Option Refusal). IfOk c.admit_later.result (λ found. o ≡ None)) (sym (first-latter (early m e) (later m e) (sym c.early_refusal.ensures ∙ c.in_default.is))) c.admit_later.ensures.allowed
