use Rattle.std.proofs.Common.{◌∙◌}
use Rattle.millicent_http.proofs.reply_head.put_price.Goals as goal

pub returns-in-None-clause-put : goal.returns-in-None-clause-put
returns-in-None-clause-put c = rw c.in-None.is c.put_field.ensures.put

pub returns-in-Some-clause-put : goal.returns-in-Some-clause-put
returns-in-Some-clause-put c =
    let digits = c.as_bytes.ensures.value ∙ c.format.ensures.text in
    rw (c.in-Some.is, ← digits) c.put_field-in-Some.ensures.put
