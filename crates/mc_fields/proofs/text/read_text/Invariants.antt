use Rattle.mc_fields.specs.Reading.{text_at}
use Rattle.mc_fields.proofs.TextTest.{IsReadTo}
use Rattle.mc_fields.proofs.text.read_text.Given as goal

abbrev pub invariant-loop-len : goal.invariant-loop-len
invariant-loop-len g l =
    IsReadTo g.T.TextRule.first g.T.TextRule.other g.T.TextRule.least g.T.TextRule.most l.stop l.bytes l.len (text_at g.T.TextRule.first g.T.TextRule.other g.T.TextRule.least g.T.TextRule.most l.stop l.bytes)
