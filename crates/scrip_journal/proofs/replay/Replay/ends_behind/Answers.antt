use Rattle.std.proofs.Common.{◌+◌, inr, sym, ◌∙◌, ap}
use Rattle.mc_records.specs.Forms.{entry_of}
use Rattle.scrip_journal.specs.Answers.{unless_failed}
use Rattle.scrip_journal.specs.States.{Reading}
use Rattle.scrip_journal.proofs.replay.Replay.ends_behind.Goals as goal

pub returns-in-Err : goal.returns-in-Err
returns-in-Err g c =
    let place = c.in-Err.fault.place in
    let gate = ap (λ (v : Reading g.row.D.Denot). unless_failed c.args.ending (v.gate + 5 + place)) c.self.view_is in
    inr (place, ap entry_of (sym c.payload.ensures) ∙ c.in-Err.ensures.exact, c.unless_failed.ensures ∙ gate)
