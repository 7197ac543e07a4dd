use Rattle.millicent_http.proofs.reply_head.put_change.Goals as goal

pub returns-clause-put : goal.returns-clause-put
returns-clause-put c = rw (← c.or_dash.ensures) c.put_field.ensures.put
