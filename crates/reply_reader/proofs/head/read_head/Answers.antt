use Rattle.std.proofs.Common.{rules}
use Rattle.reply_reader.proofs.HeadLemmas.{head_says}
use Rattle.reply_reader.proofs.head.read_head.Goals as goal

pub returns-in-Ok-Complete-clause-says : goal.returns-in-Ok-Complete-clause-says
returns-in-Ok-Complete-clause-says c =
    head_says c.args.text.now c.parse_response.new.headers _ c.in-Ok-Complete.head c.read_fields.result (search rules) (search rules) (search rules) (search rules) c.read_fields.ensures.says
