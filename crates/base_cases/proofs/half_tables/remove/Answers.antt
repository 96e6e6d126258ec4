use Rattle.std.proofs.Common.{rules, ◌≡◌, ◌∙◌, sym, true}
use Rattle.half_table.specs.Half.{is_half, forward_of, backward_of}
use Rattle.half_table.proofs.Halves.{is_half-same}
use Rattle.base_cases.proofs.half_tables.remove.Goals as goal

pub remove_loose-requires : goal.remove_loose-requires
remove_loose-requires g c =
    let there : c.has_string.result ≡ true = search rules in
    let after : is_half c.next-after.result (backward_of c.string-string.result) ≡ true = search rules in
    let before : is_half c.next-before.result (forward_of c.string-string.result) ≡ true = search rules in
    record {
      there = sym c.has_string.ensures.is ∙ there;
      forward = sym c.next-after.ensures.is ∙ is_half-same _ _ after;
      backward = sym c.next-before.ensures.is ∙ is_half-same _ _ before;
    }
