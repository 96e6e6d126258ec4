use Rattle.std.proofs.Common.{◌≡◌, ◌∙◌, ℕ, refl, ap, map}
use Rattle.cad_map.specs.Boundaries.{face_place}
use Rattle.half_table.specs.declared.half.Half.{Half}
use Rattle.half_table.specs.Half.{twin}
use Rattle.half_table.specs.Rows.{next, face, cycle}
use Rattle.key_lists.specs.Held.{items_at}
use Rattle.map_parts.specs.Passing.{in_place_at}
use Rattle.map_parts.proofs.CycleRings.{map-map}
use Rattle.map_parts.proofs.Passing.FitPast.{fit-past}
use Rattle.map_parts.proofs.RelabelledEach.{both-ends}
use Rattle.map_parts.proofs.Passing.Ready.{past-whole_in, past-first_in, past-second_in, past-different, past-can, past-then, relabels-as, both-work}
use Rattle.map_parts.proofs.edits.passing.go_past.Goals as goal

pub face-requires : goal.face-requires
face-requires g c = past-first_in c.args.passing.now c.args.table.now.rows c.args.kept.now c.requires

pub face-requires-2 : goal.face-requires-2
face-requires-2 g c =
    c.twin-2.ensures.inside
    ∙ past-second_in c.args.passing.now c.args.table.now.rows c.args.kept.now c.requires

pub reroute-requires-clause-old_in : goal.reroute-requires-clause-old_in
reroute-requires-clause-old_in g c = (
  past-first_in c.args.passing.now c.args.table.now.rows c.args.kept.now c.requires,
  (past-second_in c.args.passing.now c.args.table.now.rows c.args.kept.now c.requires, tt),
)

pub reroute-requires-clause-different : goal.reroute-requires-clause-different
reroute-requires-clause-different g c =
    past-different c.args.passing.now c.args.table.now.rows c.args.kept.now c.requires

pub reroute-requires-clause-can : goal.reroute-requires-clause-can
reroute-requires-clause-can g c =
    past-can c.args.passing.now c.args.table.now.rows c.args.kept.now c.requires

pub relabel-requires : goal.relabel-requires
relabel-requires g c =
    c.reroute.ensures.halves.has c.args.passing.now.whole
    ∙ past-whole_in c.args.passing.now c.args.table.now.rows c.args.kept.now c.requires

pub relabel-requires-2 : goal.relabel-requires-2
relabel-requires-2 g c =
    c.relabel.ensures.relabels.has c.twin-3.result
    ∙ c.reroute.ensures.halves.has c.twin-3.result ∙ c.twin-3.ensures.inside
    ∙ past-whole_in c.args.passing.now c.args.table.now.rows c.args.kept.now c.requires

pub returns-clause-fits : goal.returns-clause-fits
returns-clause-fits g c = λ can.
    let rows = c.args.table.now.rows in
    let held = c.args.kept.now in
    let passing = c.args.passing.now in
    let new = c.reroute.new.table.rows in
    let mid = c.relabel.new.self.rows in
    let done = c.relabel-2.new.self.rows in
    let x : Half = c.args.passing.now.first in
    let y : Half = c.args.passing.now.second in
    let z : Half = c.args.passing.now.whole in
    let first_back = c.twin.ensures.is in
    let second_back = c.twin-2.ensures.is in
    let back = c.twin-3.ensures.is in
    let left : c.face.result ≡ face rows x = c.face.ensures in
    let right : c.face-2.result ≡ face rows (twin y) = c.face-2.ensures ∙ ap (face rows) second_back in
    let one = relabels-as refl left c.relabel.ensures.relabels in
    let two = relabels-as (ap (cycle mid) back) right c.relabel-2.ensures.relabels in
    let L : ℕ = face_place (face rows x) in
    let R : ℕ = face_place (face rows (twin y)) in
    let items : (n : ℕ) → items_at c.replace_kept-4.new.kept n
    ≡ map (in_place_at R (twin x) (twin z) n) (map (in_place_at R (twin y) (twin z) n)
    (map (in_place_at L y z n) (map (in_place_at L x z n) (items_at held n)))) = λ n.
    c.replace_kept-4.ensures n
    ∙ ap (map (in_place_at (face_place c.face-2.result) c.twin.result c.twin-3.result n))
    (c.replace_kept-3.ensures n
    ∙ ap (map (in_place_at (face_place c.face-2.result) c.twin-2.result c.twin-3.result n))
    (c.replace_kept-2.ensures n
    ∙ ap (map (in_place_at (face_place c.face.result) y z n)) (c.replace_kept.ensures n)))
    ∙ (λ j. map (in_place_at (face_place (right j)) (first_back j) (back j) n)
    (map (in_place_at (face_place (right j)) (second_back j) (back j) n)
    (map (in_place_at (face_place (left j)) y z n)
    (map (in_place_at (face_place (left j)) x z n) (items_at held n))))) in
    fit-past can.between rows held can.fits
    can.whole_there new c.reroute.ensures.halves c.reroute.ensures.linked
    (past-then passing rows held can new c.reroute.ensures.next) mid done c.relabel.ensures.linked
    c.relabel-2.ensures.linked one two c.replace_kept-4.new.kept
    (λ n.
    items n
    ∙ ap (λ l. map (in_place_at R (twin x) (twin z) n) (map (in_place_at R (twin y) (twin z) n) l))
    (map-map (in_place_at L y z n) (in_place_at L x z n) (items_at held n))
    ∙ ap (map (in_place_at R (twin x) (twin z) n))
    (map-map (in_place_at R (twin y) (twin z) n) (λ h. in_place_at L y z n (in_place_at L x z n h)) (items_at held n))
    ∙ map-map (in_place_at R (twin x) (twin z) n)
    (λ h. in_place_at R (twin y) (twin z) n (in_place_at L y z n (in_place_at L x z n h))) (items_at held n))

pub returns-clause-loose : goal.returns-clause-loose
returns-clause-loose g c =
    let now = past-then c.args.passing.now c.args.table.now.rows c.args.kept.now c.requires
    c.reroute.new.table.rows c.reroute.ensures.next in
    let on : (h : Half) → next c.relabel-2.new.self.rows h ≡ next c.reroute.new.table.rows h = λ h.
    c.relabel-2.ensures.relabels.next h ∙ c.relabel.ensures.relabels.next h in
    let x : Half = c.args.passing.now.first in
    let y : Half = c.args.passing.now.second in (
      (on x ∙ now.first, on (twin x) ∙ now.first_back),
      ((on y ∙ now.second, on (twin y) ∙ now.second_back), tt),
    )

pub returns-clause-halves : goal.returns-clause-halves
returns-clause-halves g c = both-ends c.reroute.ensures.halves c.relabel.ensures.relabels c.relabel-2.ensures.relabels

pub returns-clause-work : goal.returns-clause-work
returns-clause-work g c =
    both-work c.reroute.new.table.rows c.relabel.new.self.rows c.relabel-2.new.self.rows c.args.passing.now.whole (twin c.args.passing.now.whole) c.twin-3.result c.face.result c.face-2.result
    c.relabel.ensures.relabels c.relabel-2.ensures.relabels c.twin-3.ensures.is c.args.table.now.work c.reroute.new.table.work c.relabel.new.self.work c.relabel-2.new.self.work
    c.reroute.ensures.work c.relabel.ensures.work c.relabel-2.ensures.work
