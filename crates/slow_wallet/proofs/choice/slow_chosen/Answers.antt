use Rattle.std.proofs.Common.{Some, None}
use Rattle.slow_wallet.proofs.ChoiceLaws.{choice_answers}
use Rattle.slow_wallet.proofs.choice.slow_chosen.Goals as goal

pub returns-in-Some : goal.returns-in-Some
returns-in-Some c = choice_answers c.args.h.now c.args.moment c.args.vendor.now c.args.limit c.choice_of-choice.result (Some c.in-Some.offer) c.choice_of-choice.ensures c.in-Some.is

pub returns-in-None : goal.returns-in-None
returns-in-None c = choice_answers c.args.h.now c.args.moment c.args.vendor.now c.args.limit c.choice_of-choice.result None c.choice_of-choice.ensures c.in-None.is
