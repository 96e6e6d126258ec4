use Rattle.cad_near.proofs.strings.is_uncrossed.Goals as goal

pub returns-then-meets_at_ends : goal.returns-then-meets_at_ends
returns-then-meets_at_ends g c = (
  (λ t. record { strings = c.meets_at_ends.ensures.0 c.if-meets_at_ends.true; points = c.bears_ends.ensures.0 t }),
  (λ uncrossed. c.bears_ends.ensures.1 uncrossed.points),
)
