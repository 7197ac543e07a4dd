use Rattle.std.proofs.Common.{take}
use Rattle.wallet_model.specs.Holdings.{pieces_came}
use Rattle.slow_wallet.specs.Choices.{IsChoice}
use Rattle.slow_wallet.proofs.ChoiceLaws.{fits_of}
use Rattle.slow_wallet.proofs.choice.choice_of.Given as goal

abbrev pub invariant-loop-n : goal.invariant-loop-n
invariant-loop-n l = IsChoice l.limit (fits_of l.h l.moment l.vendor (pieces_came (take l.n l.h))) l.choice
