use Rattle.std.proofs.Common.{◌≡◌, ◌∙◌, ap, refl, arith}
use Rattle.map_tables.specs.Tables.{AreEmpty}
use Rattle.sqlite_trees.specs.Memory.{memory_view}
use Rattle.map_cases.proofs.tables.new_tables.Goals as goal

pub returns-clause-empty : goal.returns-clause-empty
returns-clause-empty c = record {
  sources = c.in_ok-new.ensures.empty 1 (λ is. omega (arith, is)) (λ is. omega (arith, is));
  points = c.in_ok-new.ensures.empty 2 (λ is. omega (arith, is)) (λ is. omega (arith, is));
  parcels = c.in_ok-new.ensures.empty 3 (λ is. omega (arith, is)) (λ is. omega (arith, is));
  strings = c.in_ok-new.ensures.empty 4 (λ is. omega (arith, is)) (λ is. omega (arith, is));
  retired = c.in_ok-new.ensures.empty 5 (λ is. omega (arith, is)) (λ is. omega (arith, is));
}

pub returns-clause-fresh : goal.returns-clause-fresh
returns-clause-fresh c = record {
  shapes = record {
    sources = ap (λ shape. shape 1) c.in_ok-new.ensures.shape;
    points = ap (λ shape. shape 2) c.in_ok-new.ensures.shape;
    parcels = ap (λ shape. shape 3) c.in_ok-new.ensures.shape;
    strings = ap (λ shape. shape 4) c.in_ok-new.ensures.shape;
    retired = ap (λ shape. shape 5) c.in_ok-new.ensures.shape;
  };
  tables = record {
    sources = c.in_ok-new.ensures.empty 1 (λ is. omega (arith, is)) (λ is. omega (arith, is));
    points = c.in_ok-new.ensures.empty 2 (λ is. omega (arith, is)) (λ is. omega (arith, is));
    parcels = c.in_ok-new.ensures.empty 3 (λ is. omega (arith, is)) (λ is. omega (arith, is));
    strings = c.in_ok-new.ensures.empty 4 (λ is. omega (arith, is)) (λ is. omega (arith, is));
    retired = c.in_ok-new.ensures.empty 5 (λ is. omega (arith, is)) (λ is. omega (arith, is));
  };
  settings_shape = ap (λ shape. shape 6) c.in_ok-new.ensures.shape;
  settings = c.in_ok-new.ensures.empty 6 (λ is. omega (arith, is)) (λ is. omega (arith, is));
  journal = c.in_ok-new.ensures.empty 0 (λ is. omega (arith, is)) (λ is. omega (arith, is));
}
