use Rattle.mc_top.proofs.program.settle.Goals as goal

pub returns-clause-operated : goal.returns-clause-operated
returns-clause-operated g c = (c.operate_book.ensures.causes, c.operate_book.ensures.operated)
