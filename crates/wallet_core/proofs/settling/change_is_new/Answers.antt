use Rattle.std.proofs.Common.{sym}
use Rattle.wallet_book.specs.Holdings.{texts_of}
use Rattle.wallet_core.proofs.CameLaws.{none_read}
use Rattle.wallet_core.proofs.SettledLaws.{no_piece_is_new}
use Rattle.wallet_core.proofs.settling.change_is_new.Goals as goal

pub returns-in-None : goal.returns-in-None
returns-in-None c =
    let change = c.args.came.now.reply.change.now in
    sym (no_piece_is_new (texts_of c.args.book.now.holdings) change (none_read c.args.came.now.change change c.in-None.is c.requires.piece))
