use Rattle.wallet_core.proofs.taking.taken_list.Goals as goal

pub returns : goal.returns
returns c = λ ps are is. c.in-Some.ensures.only ps are is

pub unreachable-requires : goal.unreachable-requires
unreachable-requires c = c.in-None.ensures.only c.requires.pieces c.requires.are c.requires.spelled
