use Rattle.std.proofs.Common.{◌∙◌}
use Rattle.scrip_journal.proofs.Looking.{ahead_then, ends_then, payload_after, framed_here}
use Rattle.scrip_journal.proofs.replay.Replay.look.Goals as goal

pub returns-in-Err-clause-ends : goal.returns-in-Err-clause-ends
returns-in-Err-clause-ends g c = c.in-Err.ensures.ends

pub returns-in-Err-look_chain-clause-ends : goal.returns-in-Err-look_chain-clause-ends
returns-in-Err-look_chain-clause-ends g c = ends_then g.D.Disk.disk c.args.self.now c.look_payload.new.self c.in-Err-look_chain.ending c.look_payload.ensures.ahead c.in-Err-look_chain.ensures.ends

pub returns-in-Ok-look_chain-clause-ahead : goal.returns-in-Ok-look_chain-clause-ahead
returns-in-Ok-look_chain-clause-ahead g c = ahead_then g.D.Disk.disk _ _ _ c.look_payload.ensures.ahead c.look_chain.ensures.ahead

pub returns-in-Ok-look_chain-clause-frame : goal.returns-in-Ok-look_chain-clause-frame
returns-in-Ok-look_chain-clause-frame g c =
    let n = c.in-Ok.bytes in
    let p = payload_after g.D.Disk.disk c.look_payload.new.self c.look_chain.new.self c.look_chain.ensures.ahead n c.in-Ok.ensures.payload in
    framed_here (record { bytes = n; switches = c.begins_switch.result; chain = c.in-Ok-look_chain.chain }) c.look_chain.new.self p (λ e is. c.begins_switch.ensures e (c.payload.ensures ∙ is)) c.in-Ok-look_chain.ensures.chained
