use Rattle.mc_fields.proofs.TextTest.{AreTaken}
use Rattle.mc_fields.proofs.text.is_text.Given as goal

abbrev pub invariant-loop-len : goal.invariant-loop-len
invariant-loop-len g l = AreTaken g.T.TextRule.first g.T.TextRule.other g.T.TextRule.most l.bytes l.len
