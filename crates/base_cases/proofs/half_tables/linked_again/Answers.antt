use Rattle.std.proofs.Common.{◌≡◌, ◌∙◌, sym, ap, subst, refl, inl, inr, nat_eq}
use Rattle.std.specs.List.{IsDistinct}
use Rattle.cad_rows.specs.declared.names.Face.{Face}
use Rattle.half_table.specs.declared.half.Half.{Half}
use Rattle.half_table.specs.Rows.{HalfRows, has, next, prev, IsLinked}
use Rattle.half_table.specs.Writes.{Relinks, set_at}
use Rattle.half_table.proofs.Halves.{is_half-self, cases_half}
use Rattle.base_cases.proofs.half_tables.linked_again.Goals as goal

-- what is written where it stands already changes nothing
set-same : (h : Half) (v : Half) (f : Half → Half) → v ≡ f h → (g : Half) → set_at h v f g ≡ f g
set-same h v f is g = elim (cases_half g h) [
  | inl e ↦ subst (λ x. set_at h v f x ≡ f x) (sym e) (rw (is_half-self h) is)
  | inr e ↦ rw e refl
]

-- a half linked as it was leaves all fitting
relinked : (old new : HalfRows) (h before after : Half) (to : Face) → IsLinked old → before ≡ prev old h → after ≡ next old h → Relinks h before after to old new → IsLinked new
relinked old new h before after to linked is_before is_after r = record {
  distinct = subst (IsDistinct nat_eq) (sym r.strings) linked.distinct;
  prev_next = λ g. left (next new g) ∙ ap (prev old) (right g) ∙ linked.prev_next g;
  next_prev = λ g. right (prev new g) ∙ ap (next old) (left g) ∙ linked.next_prev g;
  inside = λ g. r.has (next new g) ∙ ap (has old) (right g) ∙ linked.inside g ∙ sym (r.has g);
}
  where
    right : (g : Half) → next new g ≡ next old g
    right g = r.next g ∙ set-same h after (next old) is_after g

    left : (g : Half) → prev new g ≡ prev old g
    left g = r.prev g ∙ set-same h before (prev old) is_before g

pub close-requires : goal.close-requires
close-requires c =
    let same = c.open-open.ensures.same in
    relinked _ _ _ _ _ _ c.open-open.ensures.linked (c.prev-before.ensures.is ∙ sym (ap (λ t. prev t.rows c.args.at.now) same))
    (c.next-after.ensures.is ∙ sym (ap (λ t. next t.rows c.args.at.now) same)) c.link.ensures.links
