use Rattle.reply_reader.proofs.BackLemmas.{reads_back}
use Rattle.reply_reader.proofs.law.a_site_reply_reads_back.Goals as goal

pub returns : goal.returns
returns c = reads_back
