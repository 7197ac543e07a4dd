use Rattle.std.proofs.Common.{◌++◌, codes, sym, append_assoc}
use Rattle.mc_fields.proofs.Puts.{appends_then, appends_along}
use Rattle.slow_wallet.proofs.sending.write_field.Goals as goal

pub returns : goal.returns
returns c =
    appends_along c.args.out.now.items c.append_both-2.new.out.items _ _ c.append_both-2.result (sym (append_assoc (c.args.name.now ++ codes ": ") c.args.value.now (codes "\r\n")))
    (appends_then c.args.out.now.items c.append_both.new.out.items c.append_both-2.new.out.items (c.args.name.now ++ codes ": ") (c.args.value.now ++ codes "\r\n") c.append_both-2.result c.in_ok-append_both.ensures c.append_both-2.ensures)
