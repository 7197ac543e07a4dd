use Rattle.millicent_http.proofs.reply_head.put_sign.Goals as goal

pub returns-in-None-clause-put : goal.returns-in-None-clause-put
returns-in-None-clause-put c = rw c.in-None.is c.put_field.ensures.put

pub returns-in-Some-clause-put : goal.returns-in-Some-clause-put
returns-in-Some-clause-put c = rw (c.in-Some.is, ← c.hex_digits.ensures) c.put_field-in-Some.ensures.put
