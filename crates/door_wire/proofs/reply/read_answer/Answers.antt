use Rattle.std.proofs.Common.{◌<◌, ◌^◌, length, rules, sym, ◌∙◌, refl}
use Rattle.door_wire.proofs.ReplyLemmas.{no_parts, same_parts, same_digit, whole_answer}
use Rattle.door_wire.proofs.reply.read_answer.Goals as goal

pub returns-in_err-number-clause-exact : goal.returns-in_err-number-clause-exact
returns-in_err-number-clause-exact c number line is =
    let small : length c.args.bytes.now < 2 ^ 64 = search rules in
    no_parts c.args.bytes.now number line small is c.in_err-number.ensures

pub returns-in_err-status-clause-exact : goal.returns-in_err-status-clause-exact
returns-in_err-status-clause-exact c number line is =
    let small : length c.args.bytes.now < 2 ^ 64 = search rules in
    let same = same_parts c.args.bytes.now c.in_ok-number.number.now c.in_ok-number.line.now number line small is c.in_ok-number.ensures in
    absurd (c.in_err-status.ensures.none refl number is.of_door same.0)

pub returns-clause-some : goal.returns-clause-some
returns-clause-some c = whole_answer c.args.bytes.now c.in_ok-number.number.now c.in_ok-number.line.now c.in_ok-status.status c.in_ok-number.ensures c.in_ok-status.ensures.some

pub returns-clause-exact : goal.returns-clause-exact
returns-clause-exact c number line is =
    let small : length c.args.bytes.now < 2 ^ 64 = search rules in
    let same = same_parts c.args.bytes.now c.in_ok-number.number.now c.in_ok-number.line.now number line small is c.in_ok-number.ensures in
    let some = c.in_ok-status.ensures.some in
    ((same_digit c.in_ok-status.status number some.0 is.of_door (sym some.1 ∙ same.0), same.1), refl)
