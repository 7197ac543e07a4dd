use Rattle.std.proofs.Common.{◌∙◌, ap}
use Rattle.mc_outside.specs.LinkView.{LinkView}
use Rattle.wallet_core.specs.Outcomes.{outcome_disk}
use Rattle.wallet_commands.specs.Chaining.{HasChained, chained_status, switch_entry}
use Rattle.wallet_commands.proofs.CauseLemmas.{none_linked, switch_causes}
use Rattle.wallet_commands.proofs.PayLemmas.{AtClock, clocked_by}
use Rattle.wallet_commands.proofs.ChainLemmas.{has_chained}
use Rattle.wallet_commands.proofs.chaining.chain_by_clock.Goals as goal

pub returns-clause-causes : goal.returns-clause-causes
returns-clause-causes g c =
    let w = c.args.wallet in
    let y = c.raise_by_clock-reading.new.wallet in
    let line = c.end_by_wallet.new.line.items in
    rw (c.chained.ensures.out, c.chained.ensures.status)
    (switch_causes line g.O.Link.link g.O.Disk.disk w.journal.disk y.journal.disk c.switch-switched.result
    (none_linked g.O.Link.link g.O.Disk.disk w.journal.disk y.journal.disk (g.met.O.Outside.link_keeps _ _ c.raise_by_clock-reading.ensures.moved) (ap (λ (v : LinkView). v.faults) c.raise_by_clock-reading.ensures.rest))
    c.raise_by_clock-reading.ensures.rest c.switch-switched.ensures.back.counts (g.met.O.Outside.disk_keeps _ _ c.switch-switched.ensures.back.moved') c.switch-switched.ensures.refused)

pub returns-clause-chained : goal.returns-clause-chained
returns-clause-chained g c a x at =
    let w = c.args.wallet in
    let y = c.raise_by_clock-reading.new.wallet in
    let r = c.raise_by_clock-reading.ensures in
    let out = c.switch-switched.result in
    let line = c.end_by_wallet.new.line.items in
    let clock : AtClock g.O.Link.link g.O.Disk.disk x a w y c.raise_by_clock-reading.result =
    record { opened = at; keeps = g.met.O.Outside.link_keeps _ _ r.moved; stands = r.stands at.opened.history at.opened.wallet; time' = r.time; rest = r.rest; read = r.read } in
    let h = at.opened.history in
    rw (c.chained.ensures.out, c.chained.ensures.status)
    (clocked_by g.O.Link.link g.O.Disk.disk x a w y c.raise_by_clock-reading.result g.met.O.Outside.sent_aside clock
    (λ i t clocked. HasChained g.O.Link.link g.O.Disk.disk i (switch_entry i t) a clocked (chained_status line out) (outcome_disk out))
    (has_chained g.O.Link.link g.O.Disk.disk x a w y c.raise_by_clock-reading.result g.met.O.Outside.sent_aside clock c.args.line.items line out g.met.O.Disk.is_disk (r.limits ∙ c.requires.limits) (c.requires.begun h at.opened.wallet)
    (g.met.O.Outside.disk_keeps _ _ c.switch-switched.ensures.back.moved') (c.switch-switched.ensures.exact h clock.stands) c.end_by_wallet.ensures))
