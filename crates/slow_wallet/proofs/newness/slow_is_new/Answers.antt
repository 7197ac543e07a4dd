use Rattle.std.proofs.Common.{option_to_list}
use Rattle.mc_requests.specs.Requests.{seen}
use Rattle.wallet_model.specs.Holdings.{texts_came}
use Rattle.slow_wallet.proofs.Steps.{text_there, text_apart}
use Rattle.slow_wallet.proofs.newness.slow_is_new.Goals as goal

pub returns-then-is_change : goal.returns-then-is_change
returns-then-is_change c = text_there (texts_came c.args.h.now) (option_to_list (seen c.args.change)) c.args.text.now c.if-is_change.ensures

pub returns : goal.returns
returns c = text_apart c.args.h.now (option_to_list (seen c.args.change)) c.args.text.now c.slow_came.result c.if-is_change.ensures c.slow_came.ensures
