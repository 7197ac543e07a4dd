use Rattle.reply_reader.proofs.ReplyLemmas.{one_reply, reply_not_bad, reply_not_short, bad_not_short}
use Rattle.reply_reader.proofs.law.one_reply.Goals as goal

pub returns : goal.returns
returns c = record { same = one_reply; not_bad = reply_not_bad; not_short = reply_not_short; bad_not_short = bad_not_short }
