-- What a splice does to cycles.
use Rattle.std.proofs.Common.{◌≡◌, true, false, List, ◌∷◌, ◌++◌, sym, ap, ◌∙◌, subst}
use Rattle.half_table.specs.declared.half.Half.{Half}
use Rattle.half_table.specs.Cycle.{holds, exchanged, IsCycle}
use Rattle.half_table.specs.Rows.{HalfRows, has, next, prev, IsLinked, HasCycle}
use Rattle.half_table.specs.Surgery.{KeepsHalves, IsUnchanged, IsSpliced, SplicesCycles}
use Rattle.half_table.proofs.Halves.{exchanged-first, exchanged-second, exchanged-twice, exchanged-turned, exchanged-same}
use Rattle.half_table.proofs.Cycles.{cycle-parted, cycles-joined, cycle-kept, cycles-apart}
use Rattle.half_table.proofs.Closed.{has-cycle}

module _ (a b : Half) (old new : HalfRows) (s : IsSpliced a b old new) where
  -- the new next is the old one with two values exchanged, and the other way round
  forth : exchanged a b (next old) ≡ next new
  forth = λ i g. sym (s.next g) i

  back : exchanged a b (next new) ≡ next old
  back = λ i g. (ap (λ f. exchanged a b f g) (sym forth) ∙ exchanged-twice (next old) a b g) i

  others : (f : HalfRows) (g : HalfRows) → exchanged a b (next f) ≡ next g → ((h : Half) → has g h ≡ has f h) → (ring : List Half) → holds ring a ≡ false → holds ring b ≡ false → HasCycle f ring → HasCycle g ring
  others f g to same ring no_a no_b c = record {
    closes = subst (λ n. IsCycle n ring) to (cycle-kept (next f) a b ring no_a no_b c.closes);
    inside = λ h e. same h ∙ c.inside h e;
  }

  pub spliced-cycles : IsLinked new → has old a ≡ true → has old b ≡ true → SplicesCycles a b old new
  spliced-cycles linked a_in b_in =
      let a_in' : has new a ≡ true = s.halves.has a ∙ a_in in
      let b_in' : has new b ≡ true = s.halves.has b ∙ b_in in
      record {
        parted = λ xs ys c.
            let r = cycle-parted (next old) a b xs ys c.closes in
            (has-cycle new linked a ys a_in' (subst (λ f. IsCycle f (a ∷ ys)) forth r.0), has-cycle new linked b xs b_in' (subst (λ f. IsCycle f (b ∷ xs)) forth r.1));
        joined = λ xs ys c d apart.
            has-cycle new linked a (ys ++ b ∷ xs) a_in' (subst (λ f. IsCycle f (a ∷ ys ++ b ∷ xs)) forth
            (cycles-joined (next old) a b xs ys c.closes d.closes (cycles-apart (next old) a b xs ys c.closes.0 d.closes.0 apart)));
        others = λ ring no_a no_b.
            (others old new forth s.halves.has ring no_a no_b, others new old back (λ h. sym (s.halves.has h)) ring no_a no_b);
      }

  both : (again : HalfRows) → KeepsHalves new again → KeepsHalves old again
  both again k = record {
    strings = k.strings ∙ s.halves.strings;
    has = λ g. k.has g ∙ s.halves.has g;
    origin = λ g. k.origin g ∙ s.halves.origin g;
    face = λ g. k.face g ∙ s.halves.face g;
  }

  -- the same splice again restores
  pub spliced-twice : (again : HalfRows) → IsSpliced a b new again → IsUnchanged old again
  spliced-twice again t =
      let A : next new a ≡ next old b = s.next a ∙ exchanged-first (next old) a b in
      let B : next new b ≡ next old a = s.next b ∙ exchanged-second (next old) a b in
      record {
        halves = both again t.halves;
        next = λ g. t.next g ∙ (λ i. back i g);
        prev = λ g. t.prev g ∙ (λ i. exchanged (A i) (B i) (λ h. s.prev h i) g)
            ∙ exchanged-turned (exchanged (next old a) (next old b) (prev old)) (next old b) (next old a) g
            ∙ exchanged-twice (prev old) (next old a) (next old b) g;
      }

  -- a splice of a half with itself changes nothing
  pub spliced-same : a ≡ b → IsUnchanged old new
  spliced-same e = record {
    halves = s.halves;
    next = λ g. s.next g ∙ (λ i. exchanged a (sym e i) (next old) g) ∙ exchanged-same (next old) a g;
    prev = λ g. s.prev g ∙ (λ i. exchanged (next old a) (next old (sym e i)) (prev old) g) ∙ exchanged-same (prev old) (next old a) g;
  }
