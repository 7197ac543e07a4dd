use Rattle.std.proofs.Common.{◌≤◌, length, arith, sym}
use Rattle.scrip_form.proofs.Laws.{text_is_short}
use Rattle.wallet_core.proofs.sending.put_scrip.Goals as goal

pub put_field-requires : goal.put_field-requires
put_field-requires c =
    let is = c.in-Some.ensures.text in
    let short : length c.in-Some.text.now ≤ 293 = text_is_short c.in-Some.text.now is.0 is.1 is.2 in
    omega (arith, short, c.requires)

pub returns-in-Some-clause-end : goal.returns-in-Some-clause-end
returns-in-Some-clause-end c =
    let is = c.in-Some.ensures.text in
    let short : length c.in-Some.text.now ≤ 293 = text_is_short c.in-Some.text.now is.0 is.1 is.2 in
    omega (arith, short, c.put_field.ensures.end)

pub returns-in-Some-clause-written : goal.returns-in-Some-clause-written
returns-in-Some-clause-written c = rw (sym c.in-Some.ensures.seen) c.put_field.ensures.put
