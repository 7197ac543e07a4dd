use Rattle.std.proofs.Common.{◌+◌, ℕ, Some, None, sym, ◌∙◌, ap}
use Rattle.scrip_journal.specs.States.{Reading, known_chain}
use Rattle.scrip_journal.proofs.Passing.{passes_none, found_again}
use Rattle.scrip_journal.proofs.replay.Replay.find_chain.Goals as goal

pub returns-in-Ok-clause-looked : goal.returns-in-Ok-clause-looked
returns-in-Ok-clause-looked g c =
    let gate = ap (λ (v : Reading g.row.D.Denot). v.gate) c.self.view_is in
    let entries = ap (λ (v : Reading g.row.D.Denot). v.entries) c.self.view_is in
    found_again g.D.Disk.disk c.args.self.now c.stand_at.new.self c.pass_to.new.self c.stand_at-in-Ok.new.self c.self.inside.gate c.self.inside.entries (Some c.known_chain-chain.result)
    c.requires.going c.requires.unswitched gate entries c.stand_at.ensures c.pass_to.ensures.only_read c.pass_to.ensures.limit c.pass_to.ensures.going
    (λ h r. c.known_chain-chain.ensures ∙ ap (λ (v : Reading g.row.D.Denot). known_chain v.chain) c.self-in-Ok.view_is ∙ c.in-Ok.ensures.passed h (passes_none g.D.Disk.disk c.args.self.now h r c.stand_at.new.self c.requires.going c.stand_at.ensures) (ap (λ (n : ℕ). n + 1) gate ∙ r.gate_is))
    c.stand_at-in-Ok.ensures

pub returns-in-Err-clause-looked : goal.returns-in-Err-clause-looked
returns-in-Err-clause-looked g c =
    let gate = ap (λ (v : Reading g.row.D.Denot). v.gate) c.self.view_is in
    let entries = ap (λ (v : Reading g.row.D.Denot). v.entries) c.self.view_is in
    found_again g.D.Disk.disk c.args.self.now c.stand_at.new.self c.pass_to.new.self c.stand_at-in-Err.new.self c.self.inside.gate c.self.inside.entries None
    c.requires.going c.requires.unswitched gate entries c.stand_at.ensures c.pass_to.ensures.only_read c.pass_to.ensures.limit c.pass_to.ensures.going
    (λ h r. sym r.switched_is ∙ c.requires.unswitched)
    c.stand_at-in-Err.ensures
