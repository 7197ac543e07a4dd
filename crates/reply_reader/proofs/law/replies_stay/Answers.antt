use Rattle.reply_reader.proofs.ReplyLemmas.{reply_stays, bad_stays, short_stays}
use Rattle.reply_reader.proofs.law.replies_stay.Goals as goal

pub returns : goal.returns
returns c = record { whole = λ bytes more r. reply_stays bytes more r; bad = λ bytes more. bad_stays bytes more; short = λ bytes more needed. short_stays bytes more needed }
