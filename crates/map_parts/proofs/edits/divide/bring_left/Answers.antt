use Rattle.std.proofs.Common.{◌≡◌, ◌∙◌, ◌∷◌, ◌+◌, ◌*◌, Bool, List, length, sym, ap, subst, if◌then◌else◌, arith}
use Rattle.cad_rings.specs.Surgery.{sides_of_chain}
use Rattle.half_table.specs.declared.half.Half.{Half}
use Rattle.half_table.specs.Count.{ticked}
use Rattle.half_table.specs.Cycle.{holds}
use Rattle.half_table.specs.Rows.{face, cycle}
use Rattle.half_paths.specs.Path.{strings_of}
use Rattle.half_paths.specs.Loose.{is_of, AreLoose}
use Rattle.map_parts.specs.Relabelled.{cycles_length}
use Rattle.map_parts.proofs.TicksAdded.{three-steps}
use Rattle.map_parts.proofs.KeptShown.{local-same}
use Rattle.map_parts.proofs.RelabelledEach.{cycle-same, in-relabelled}
use Rattle.map_parts.proofs.IslandFits.{along-same, half-same, ends-same}
use Rattle.map_parts.proofs.ChainAcross.{place-kept}
use Rattle.map_parts.proofs.ChainFaces.{cycles-of_loose, length-of_loose}
use Rattle.map_parts.proofs.edits.divide.bring_left.Goals as goal

pub bring_chain-requires : goal.bring_chain-requires
bring_chain-requires g c =
    let each = c.relabel_path.ensures.relabels in
    record {
      linked = c.relabel_path.ensures.linked;
      within = in-relabelled c.args.table.now.rows c.relabel_path.new.table.rows (c.args.first.now ∷ c.args.rest.now) each.has c.requires.within;
      different = c.requires.different;
      loose = subst (λ (n : Half → Half). AreLoose n (c.args.first.now ∷ c.args.rest.now)) (λ i h. sym (each.next h) i) c.requires.loose;
      place = place-kept c.args.table.now.rows c.relabel_path.new.table.rows each.has c.requires.place;
    }

pub relabel-requires : goal.relabel-requires
relabel-requires g c = c.bring_chain.ensures.halves.has c.args.first.now ∙ c.relabel_path.ensures.relabels.has c.args.first.now ∙ c.requires.within.0

pub returns : goal.returns
returns g c =
    let old = c.args.table.now.rows in
    let lone = c.relabel_path.new.table.rows in
    let mid = c.bring_chain.new.table.rows in
    let new = c.relabel.new.self.rows in
    let a : Half = c.args.first.now in
    let rest = c.args.rest.now in
    let outer = c.args.outer.now in
    let inner = c.args.inner.now in
    let labels = c.relabel.ensures.relabels in
    let each = c.relabel_path.ensures.relabels in
    let chained = c.bring_chain.ensures in
    let same : cycle mid ≡ cycle new = sym (cycle-same mid new labels.strings labels.next) in
    record {
      faces = λ h.
          let was : face mid h ≡ (if is_of (strings_of (a ∷ rest)) h then outer else face old h) =
          chained.halves.face h ∙ each.face h ∙ ap (λ (t : Bool). if t then outer else face old h) (cycles-of_loose old c.requires.linked (a ∷ rest) c.requires.within c.requires.loose h) in
          labels.face h ∙ (λ i. if holds (same i a) h then inner else was i);
      local = λ whole parted chain fc lc rings parts long law more along ends start_on end_on local.
          let local_lone = local-same whole old lone each.has each.next each.origin c.relabel_path.ensures.linked local in
          local-same parted mid new labels.has labels.next labels.origin c.relabel.ensures.linked
          (chained.local whole parted chain fc lc rings parts long law more (along-same old lone each.origin (a ∷ rest) (sides_of_chain chain) along)
          (ends-same old lone each.origin each.has parted.strings ends) (half-same old lone each.origin each.has start_on) (half-same old lone each.origin each.has end_on) local_lone);
      halves = record { has = λ h. labels.has h ∙ chained.halves.has h ∙ each.has h; origin = λ h. labels.origin h ∙ chained.halves.origin h ∙ each.origin h };
      linked = c.relabel.ensures.linked;
      work =
          let w = c.args.table.now.work in
          let n = length rest + 2 in
          let p = cycles_length old (a ∷ rest) in
          let r = length (cycle mid a) in
          let two : p ≡ 2 + 2 * length rest = let all = length-of_loose old c.requires.linked (a ∷ rest) c.requires.within c.requires.loose in omega (arith, all) in
          let is_r : r ≡ length (cycle new a) = ap (λ (f : Half → List Half). length (f a)) same in
          three-steps p n r w c.relabel_path.ensures.work chained.work c.relabel.ensures.work ∙ (λ i. ticked ((two i + n) + is_r i) w);
    }
