use Rattle.std.proofs.Common.{◌≡◌, ◌∙◌, ◌-◌, ◌∷◌, [], List, ℕ, Bor, take, drop, map, sym, ap, arith}
use Rattle.std.proofs.lemmas.List.{take_all, drop-map, length-drop}
use Rattle.cad_files.specs.Fields.{are_blank}
use Rattle.cad_files.proofs.fields.Fields.is_record.Goals as goal

-- the rest of a list is all that is left of it
rest : {X Y : Type 0} (f : X → Y) (a b d e g h : X) (used : ℕ)
    → map f (take (6 - used) (drop used (a ∷ b ∷ d ∷ e ∷ g ∷ h ∷ []))) ≡ drop used (map f (a ∷ b ∷ d ∷ e ∷ g ∷ h ∷ []))
rest f a b d e g h used =
    let list = a ∷ b ∷ d ∷ e ∷ g ∷ h ∷ [] in
    ap (map f) (take_all (6 - used) (drop used list) (simp length-drop (omega arith))) ∙ sym (drop-map f used list)

pub returns-then-eq : goal.returns-then-eq
returns-then-eq c =
    let r = c.self.inside in
    rw (← c.self.view_is, sym c.eq.ensures ∙ c.if-eq.true)
    (c.are_blank.ensures ∙ ap are_blank (rest (λ (f : Bor (List ℕ)). f.now) r.a r.b r.c r.d r.e r.f c.args.used))
