use Rattle.std.proofs.Common.{◌++◌, codes}
use Rattle.mc_fields.proofs.Puts.{appends_then}
use Rattle.slow_wallet.proofs.sending.write_start.Goals as goal

pub returns : goal.returns
returns c =
    appends_then c.args.out.now.items c.append_both.new.out.items c.append_both-2.new.out.items (codes "GET " ++ c.args.target.now) (codes " HTTP/1.1\r\n") c.append_both-2.result c.in_ok-append_both.ensures c.append_both-2.ensures
