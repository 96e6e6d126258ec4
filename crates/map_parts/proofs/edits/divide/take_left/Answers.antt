use Rattle.std.proofs.Common.{◌≡◌, ◌∙◌, ◌∷◌, ◌+◌, ◌*◌, length, sym, subst, if◌then◌else◌, arith}
use Rattle.cad_rings.specs.Surgery.{sides_of_chain}
use Rattle.half_table.specs.declared.half.Half.{Half}
use Rattle.half_table.specs.Count.{ticked}
use Rattle.half_table.specs.Cycle.{holds}
use Rattle.half_table.specs.Rows.{face, cycle}
use Rattle.half_paths.specs.Loose.{AreLoose}
use Rattle.map_parts.specs.Relabelled.{cycles_length}
use Rattle.map_parts.proofs.TicksAdded.{three-steps}
use Rattle.map_parts.proofs.KeptShown.{local-same}
use Rattle.map_parts.proofs.RelabelledEach.{in-relabelled}
use Rattle.map_parts.proofs.IslandFits.{along-same}
use Rattle.map_parts.proofs.ChainAcross.{tied-kept}
use Rattle.map_parts.proofs.ChainFaces.{cycles-of_loose, length-of_loose}
use Rattle.map_parts.proofs.edits.divide.take_left.Goals as goal

pub relabel-requires : goal.relabel-requires
relabel-requires g c = c.requires.within.0

pub take_chain-requires : goal.take_chain-requires
take_chain-requires g c =
    let labels = c.relabel.ensures.relabels in
    record {
      linked = c.relabel.ensures.linked;
      within = in-relabelled c.args.table.now.rows c.relabel.new.self.rows (c.args.first.now ∷ c.args.rest.now) labels.has c.requires.within;
      different = c.requires.different;
      tied = tied-kept c.args.table.now.rows c.relabel.new.self.rows labels.next c.requires.tied;
    }

pub relabel_path-requires-clause-within : goal.relabel_path-requires-clause-within
relabel_path-requires-clause-within g c =
    in-relabelled c.args.table.now.rows c.take_chain.new.table.rows (c.args.first.now ∷ c.args.rest.now) (λ h. c.take_chain.ensures.halves.has h ∙ c.relabel.ensures.relabels.has h) c.requires.within

pub returns : goal.returns
returns g c =
    let old = c.args.table.now.rows in
    let one = c.relabel.new.self.rows in
    let out = c.take_chain.new.table.rows in
    let new = c.relabel_path.new.table.rows in
    let a : Half = c.args.first.now in
    let rest = c.args.rest.now in
    let outer = c.args.outer.now in
    let inner = c.args.inner.now in
    let labels = c.relabel.ensures.relabels in
    let each = c.relabel_path.ensures.relabels in
    let taken = c.take_chain.ensures in
    let within = in-relabelled old out (a ∷ rest) (λ k. taken.halves.has k ∙ labels.has k) c.requires.within in
    record {
      faces = λ h.
          let was : face out h ≡ (if holds (cycle old a) h then outer else face old h) = taken.halves.face h ∙ labels.face h in
          each.face h ∙ (λ i. if cycles-of_loose out taken.linked (a ∷ rest) within taken.loose h i then inner else was i);
      local = λ whole parted chain fc lc parts long law more along local.
          let before = local-same parted old one labels.has labels.next labels.origin c.relabel.ensures.linked local in
          local-same whole out new each.has each.next each.origin c.relabel_path.ensures.linked
          (taken.local whole parted chain fc lc parts long law more (along-same old one labels.origin (a ∷ rest) (sides_of_chain chain) along) before);
      loose = subst (λ (n : Half → Half). AreLoose n (a ∷ rest)) (λ i h. sym (each.next h) i) taken.loose;
      halves = record { has = λ h. each.has h ∙ taken.halves.has h ∙ labels.has h; origin = λ h. each.origin h ∙ taken.halves.origin h ∙ labels.origin h };
      linked = c.relabel_path.ensures.linked;
      work =
          let w = c.args.table.now.work in
          let n = length rest + 2 in
          let p = cycles_length out (a ∷ rest) in
          let r = length (cycle old a) in
          let two : p ≡ 2 + 2 * length rest = let all = length-of_loose out taken.linked (a ∷ rest) within taken.loose in omega (arith, all) in
          three-steps r n p w c.relabel.ensures.work taken.work c.relabel_path.ensures.work ∙ (λ i. ticked ((r + n) + two i) w);
    }
