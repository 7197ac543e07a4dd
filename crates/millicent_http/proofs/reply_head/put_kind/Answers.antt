use Rattle.millicent_http.proofs.reply_head.put_kind.Goals as goal

pub returns-in-Some-clause-put : goal.returns-in-Some-clause-put
returns-in-Some-clause-put c = rw (c.in-Some.is, ← c.media_type.ensures.text) c.put_field.ensures.put
