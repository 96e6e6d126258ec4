use Rattle.std.proofs.Common.{◌∙◌, sym}
use Rattle.cad_files.proofs.TextFacts.{list_field-none}
use Rattle.cad_files.proofs.list_texts.list_text.Goals as goal

pub loop-i-init : goal.loop-i-init
loop-i-init g c = c.new-text.ensures.items ∙ sym list_field-none

pub loop-i-preserved : goal.loop-i-preserved
loop-i-preserved g c =
    c.in_ok-append_number.ensures c.args.numbers.now _ c.loop-i-test.true (c.get.ensures.value ∙ c.index-numbers-i.is) c.loop-i.invariant
