use Rattle.std.proofs.Common.{◌≡◌, ◌∙◌, ◌∷◌, true, length, ap}
use Rattle.half_table.specs.declared.half.Half.{Half}
use Rattle.half_table.specs.Rows.{has, next}
use Rattle.half_paths.specs.Path.{last_of}
use Rattle.half_paths.proofs.Along.{keeps-on}
use Rattle.half_paths.proofs.Exchanged.{last-all, unstrung-loose}
use Rattle.cad_laws.specs.Local.{side_by}
use Rattle.cad_rings.specs.Surgery.{sides_of_chain}
use Rattle.map_parts.proofs.TicksAdded.{two-steps}
use Rattle.map_parts.proofs.IslandFits.{side-same, along-same, ends-same}
use Rattle.map_parts.proofs.IslandTable.{more-away}
use Rattle.map_parts.proofs.ChainTable.{chain-comes}
use Rattle.map_parts.proofs.ChainAcross.{first-along, last-along}
use Rattle.map_parts.proofs.ChainPut.{can, put-in}
use Rattle.map_parts.proofs.edits.chain.bring_chain.Goals as goal

pub string_up-requires-clause-unstrung : goal.string_up-requires-clause-unstrung
string_up-requires-clause-unstrung g c = unstrung-loose (next c.args.table.now.rows) c.args.first.now c.args.rest.now c.requires.loose

pub put_path-requires-clause-before_in : goal.put_path-requires-clause-before_in
put_path-requires-clause-before_in g c = c.string_up.ensures.halves.has _ ∙ c.prev-before.ensures.inside

pub put_path-requires-clause-beyond_in : goal.put_path-requires-clause-beyond_in
put_path-requires-clause-beyond_in g c = c.string_up.ensures.halves.has _ ∙ c.prev-beyond.ensures.inside

pub put_path-requires-clause-first_in : goal.put_path-requires-clause-first_in
put_path-requires-clause-first_in g c = c.string_up.ensures.halves.has _ ∙ c.requires.within.0

pub put_path-requires-clause-last_in : goal.put_path-requires-clause-last_in
put_path-requires-clause-last_in g c =
    c.string_up.ensures.halves.has _ ∙ ap (has c.args.table.now.rows) c.last_half-last.ensures
    ∙ last-all (λ h. has c.args.table.now.rows h ≡ true) c.args.first.now c.args.rest.now c.requires.within

pub put_path-requires-clause-free : goal.put_path-requires-clause-free
put_path-requires-clause-free g c =
    can c.args.table.now.rows c.requires.linked c.args.first.now c.args.rest.now c.requires.different c.requires.loose c.args.start.now c.args.end.now c.requires.place.start_away c.requires.place.end_away c.requires.place.differ
    c.prev-before.result c.prev-beyond.result c.last_half-last.result c.prev-before.ensures.is c.prev-beyond.ensures.is c.last_half-last.ensures (next c.string_up.new.table.rows) c.string_up.ensures.next

pub returns : goal.returns
returns g c =
    let old = c.args.table.now.rows in
    let new = c.put_path.new.table.rows in
    let first : Half = c.args.first.now in
    let rest = c.args.rest.now in
    let path = first ∷ rest in
    let put =
    put-in old c.requires.linked first rest c.requires.different c.requires.loose c.args.start.now c.args.end.now c.requires.place.start_away c.requires.place.end_away c.requires.place.differ
    c.prev-before.result c.prev-beyond.result c.last_half-last.result c.prev-before.ensures.is c.prev-beyond.ensures.is c.last_half-last.ensures (next c.string_up.new.table.rows) c.string_up.ensures.next
    (next new) c.put_path.ensures.next in
    let halves = keeps-on old c.string_up.new.table.rows new c.string_up.ensures.halves c.put_path.ensures.halves in
    record {
      strung = put.strung;
      leaves = put.leaves;
      comes_back = put.comes_back;
      enters = put.enters;
      returns = put.returns;
      others = put.others;
      local = λ whole parted chain fc lc rings parts long law more along ends start_on end_on local.
          chain-comes whole parted chain fc lc law rings parts old new first rest more local c.put_path.ensures.linked
          (ends-same old new halves.origin halves.has parted.strings ends) halves.origin (along-same old new halves.origin path (sides_of_chain chain) along) put.strung
          (side-same old new halves.origin first ∙ first-along (side_by old) first rest chain long along) (side-same old new halves.origin (last_of first rest) ∙ last-along (side_by old) first rest chain long along)
          c.args.start.now c.args.end.now start_on.shown end_on.shown start_on.side end_on.side
          (λ h shown is. put.enters h is) (λ h shown is. put.returns h is)
          (λ h shown far near. put.others h (more-away whole parted path more h shown) far near)
          put.leaves put.comes_back;
      halves = halves;
      linked = c.put_path.ensures.linked;
      work = two-steps (length rest) 2 c.args.table.now.work c.string_up.ensures.work c.put_path.ensures.work;
    }
