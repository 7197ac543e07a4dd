use Rattle.millicent_http.proofs.FieldLemmas.{same_name_is}
use Rattle.reply_reader.proofs.places.same_name.Goals as goal

pub returns : goal.returns
returns c = same_name_is c.args.a.now c.args.b.now c.eq_ignore_ascii_case.result c.eq_ignore_ascii_case.ensures.test
