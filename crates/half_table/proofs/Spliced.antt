-- Two nexts that change places.
use Rattle.std.proofs.Common.{◌≡◌, true, sym, ap, ◌∙◌, subst, Some, inl, inr, nat_eq, if◌then◌else◌}
use Rattle.std.specs.List.{IsDistinct}
use Rattle.std.specs.Option.{option_map_or}
use Rattle.half_table.specs.declared.half.Half.{Half}
use Rattle.half_table.specs.declared.links.Links.{Links}
use Rattle.half_table.specs.Half.{is_half}
use Rattle.half_table.specs.Cycle.{exchanged}
use Rattle.half_table.specs.Rows.{HalfRows, links_of, has, next, prev, IsLinked}
use Rattle.half_table.specs.Writes.{ChangesNext, ChangesPrev}
use Rattle.half_table.specs.Surgery.{IsSpliced}
use Rattle.half_table.proofs.Halves.{cases_half, exchanged-first, exchanged-second, exchanged-other, exchanged-undone}

pub next-links : (rows : HalfRows) (h : Half) (l : Links) → links_of rows h ≡ Some l → l.next ≡ next rows h
next-links rows h l e = sym (ap (λ o. option_map_or (λ (l : Links). l.next) o h) e)

pub has-next : (rows : HalfRows) (h : Half) (l : Links) → IsLinked rows → links_of rows h ≡ Some l → has rows h ≡ true → has rows l.next ≡ true
has-next rows h l linked e in_table = ap (has rows) (next-links rows h l e) ∙ linked.inside h ∙ in_table

pub has-prev : (rows : HalfRows) (h : Half) (l : Links) → IsLinked rows → links_of rows h ≡ Some l → has rows h ≡ true → has rows l.prev ≡ true
has-prev rows h l linked e in_table =
    ap (has rows) (sym (ap (λ o. option_map_or (λ (l : Links). l.prev) o h) e)) ∙ sym (linked.inside (prev rows h)) ∙ ap (has rows) (linked.next_prev h) ∙ in_table

pub spliced : (o r1 r2 r3 r4 : HalfRows) (a b A B : Half) → A ≡ next o a → B ≡ next o b → IsLinked o
    → ChangesNext b A o r1 → ChangesNext a B r1 r2 → ChangesPrev B a r2 r3 → ChangesPrev A b r3 r4 → IsSpliced a b o r4
spliced o r1 r2 r3 r4 a b A B is_A is_B linked c1 c2 c3 c4 = record {
  next = λ g. c4.next g ∙ c3.next g ∙ c2.next g ∙ ap (λ v. if is_half g a then B else v) (c1.next g)
      ∙ (λ i. if is_half g a then is_B i else (if is_half g b then is_A i else next o g));
  prev = λ g. c4.prev g ∙ ap (λ v. if is_half g A then b else v) (c3.prev g ∙ ap (λ v. if is_half g B then a else v) (c2.prev g ∙ c1.prev g))
      ∙ (λ i. if is_half g (is_A i) then sym (linked.prev_next b) i else (if is_half g (is_B i) then sym (linked.prev_next a) i else prev o g));
  halves = record {
    strings = c4.strings ∙ c3.strings ∙ c2.strings ∙ c1.strings;
    has = λ g. c4.has g ∙ c3.has g ∙ c2.has g ∙ c1.has g;
    origin = λ g. c4.origin g ∙ c3.origin g ∙ c2.origin g ∙ c1.origin g;
    face = λ g. c4.face g ∙ c3.face g ∙ c2.face g ∙ c1.face g;
  };
}

-- what follows what is kept in step
pub spliced-linked : (old new : HalfRows) (a b : Half) → IsLinked old → has old a ≡ true → has old b ≡ true → IsSpliced a b old new → IsLinked new
spliced-linked old new a b linked a_in b_in s = record {
  distinct = subst (IsDistinct nat_eq) (sym s.halves.strings) linked.distinct;
  prev_next = λ h. s.prev (next new h) ∙ ap (exchanged (next old a) (next old b) (prev old)) (s.next h)
      ∙ exchanged-undone (next old) (prev old) linked.prev_next a b h;
  next_prev = λ h. s.next (prev new h) ∙ ap (exchanged a b (next old)) (s.prev h)
      ∙ (λ i. exchanged (sym (linked.prev_next a) i) (sym (linked.prev_next b) i) (next old) (exchanged (next old a) (next old b) (prev old) h))
      ∙ exchanged-undone (prev old) (next old) linked.next_prev (next old a) (next old b) h;
  inside = λ h. s.halves.has (next new h) ∙ ap (has old) (s.next h) ∙ within h ∙ sym (s.halves.has h);
}
  where
    within : (h : Half) → has old (exchanged a b (next old) h) ≡ has old h
    within h =
        elim (cases_half h a) [
          | inl e ↦ subst (λ x. has old (exchanged a b (next old) x) ≡ has old x) (sym e)
              (ap (has old) (exchanged-first (next old) a b) ∙ linked.inside b ∙ b_in ∙ sym a_in)
          | inr ne ↦ elim (cases_half h b) [
            | inl e ↦ subst (λ x. has old (exchanged a b (next old) x) ≡ has old x) (sym e)
                (ap (has old) (exchanged-second (next old) a b) ∙ linked.inside a ∙ a_in ∙ sym b_in)
            | inr nf ↦ ap (has old) (exchanged-other (next old) a b h ne nf) ∙ linked.inside h
          ]
        ]
