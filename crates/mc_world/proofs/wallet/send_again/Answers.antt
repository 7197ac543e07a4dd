use Rattle.mc_world.proofs.Wallets.{nothing_kept, sent_again}
use Rattle.mc_world.proofs.wallet.send_again.Goals as goal

pub returns-in-Err : goal.returns-in-Err
returns-in-Err c =
    record { sends = nothing_kept c.args.history.now c.args.peer.now c.in-Err._nothing (c.in-Err.ensures.exact c.args.history.now c.in_ok-book.ensures.opened.represents) }

pub returns : goal.returns
returns c =
    record {
      sends = sent_again c.args.history.now c.args.peer.now c.in-Ok.number c.in-Some.request c.in_ok-bytes_of.field-0.items (c.in-Ok.ensures.exact c.args.history.now c.in_ok-book.ensures.opened.represents)
          (c.in-Some.ensures c.args.history.now c.in_ok-book.ensures.opened.represents) c.in_ok-bytes_of.ensures;
    }
