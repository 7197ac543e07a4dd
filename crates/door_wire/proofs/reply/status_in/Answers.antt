use Rattle.door_wire.proofs.ReplyLemmas.{none_spelled, other_status, other_spelled}
use Rattle.door_wire.proofs.reply.status_in.Goals.{else-is_doors-via-then-is_doors+else-is_spelled, else-is_doors-via-else-is_doors}
use Rattle.door_wire.proofs.reply.status_in.Goals as goal

pub returns-in_err-status-clause-none : goal.returns-in_err-status-clause-none
returns-in_err-status-clause-none c none n is so = none_spelled c.args.number.now n is so c.in_err-status.ensures.value

pub returns-else-is_doors-clause-none : goal.returns-else-is_doors-clause-none
returns-else-is_doors-clause-none c none n is so =
    let at = c.in_ok-status.ensures.value in
    elim c.else-is_doors.branch [
      | else-is_doors-via-then-is_doors+else-is_spelled w ↦ other_spelled c.args.number.now n c.in_ok-status.field-0.now w.from.result is so at w.from.ensures w.if-is_spelled.ensures
      | else-is_doors-via-else-is_doors w ↦ other_status c.args.number.now n c.in_ok-status.field-0.now is so at w.if-is_doors.ensures
    ]
