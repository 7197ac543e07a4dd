use Rattle.std.proofs.Common.{◌∙◌, sym, ap, subst}
use Rattle.mc_outside.specs.LinkView.{LinkView}
use Rattle.wallet_model.specs.Asks.{pend_entry}
use Rattle.wallet_core.specs.Asks.{asking_of}
use Rattle.wallet_core.specs.Answers.{TellsNumber}
use Rattle.command_status.specs.declared.status.Status.TheVariants as ends
use Rattle.wallet_commands.specs.declared.saying.Saying.TheVariants as sayings
use Rattle.wallet_commands.specs.Causes.{OnlyClocked, LinkRefused, RefusedBy}
use Rattle.wallet_commands.specs.Paying.{PaysBy}
use Rattle.wallet_commands.proofs.CauseLemmas.{causes_from, none_linked, none_then, none_on_disk, disk_then, clocked_so, pended_so}
use Rattle.wallet_commands.proofs.PayLemmas.{AtClock, clocked_by, known_on, asks, pend_keeps, pay_refused, pay_wants, pay_doubted, pay_asked}
use Rattle.wallet_commands.proofs.paying.pay_by_clock.Goals as goal

pub use_link-requires-clause-kept : goal.use_link-requires-clause-kept
use_link-requires-clause-kept g c s st =
    let y = c.raise_by_clock-reading.new.wallet in
    let known = known_on g.O.Disk.disk c.args.wallet y (g.met.O.Outside.link_keeps _ _ c.raise_by_clock-reading.ensures.moved) c.raise_by_clock-reading.ensures.stands c.requires.known in
    pend_keeps g.O.Disk.disk y c.in-Done.wallet (λ h. pend_entry h y.book.time (asking_of c.args.ask.now)) c.in-Done.number (λ h e is. asks h y.book.time (asking_of c.args.ask.now) e is) known (g.met.O.Disk.disk_goes _ _ c.in-Done.ensures.back.moved').goes.tells (λ h at. (c.in-Done.ensures.exact h at).adds) s st

pub use_link-requires-clause-limits : goal.use_link-requires-clause-limits
use_link-requires-clause-limits g c = c.in-Done.ensures.back.limits ∙ c.raise_by_clock-reading.ensures.limits ∙ c.requires.limits

pub returns-in-Done-clause-causes : goal.returns-in-Done-clause-causes
returns-in-Done-clause-causes g c =
    let w = c.args.wallet.journal.disk in
    let y = c.raise_by_clock-reading.new.wallet.journal.disk in
    let z = c.in-Done.wallet.journal.disk in
    let first = none_linked g.O.Link.link g.O.Disk.disk w y (g.met.O.Outside.link_keeps _ _ c.raise_by_clock-reading.ensures.moved) (ap (λ (v : LinkView). v.faults) c.raise_by_clock-reading.ensures.rest) in
    let second = none_on_disk g.O.Link.link g.O.Disk.disk y z c.in-Done.ensures.back.counts (g.met.O.Outside.disk_keeps _ _ c.in-Done.ensures.back.moved') in
    let clocked : OnlyClocked (g.O.Link.link w) (g.O.Link.link z) = subst (λ (v : LinkView). OnlyClocked (g.O.Link.link w) v) (sym (g.met.O.Outside.disk_keeps _ _ c.in-Done.ensures.back.moved')) c.raise_by_clock-reading.ensures.rest in
    causes_from LinkRefused RefusedBy g.O.Link.link g.O.Disk.disk w z c.use_link.result.0 c.use_link.result.1 (none_then g.O.Link.link g.O.Disk.disk w y z first second)
    (λ f why. clocked_so f (g.O.Link.link w) (g.O.Link.link z) (g.O.Link.link c.use_link.result.0) clocked why) c.use_link.ensures.causes

pub returns-in-Done-clause-paid : goal.returns-in-Done-clause-paid
returns-in-Done-clause-paid g c a x at =
    let w = c.args.wallet in
    let y = c.raise_by_clock-reading.new.wallet in
    let r = c.raise_by_clock-reading.ensures in
    let clock : AtClock g.O.Link.link g.O.Disk.disk x a w y c.raise_by_clock-reading.result =
    record { opened = at; keeps = g.met.O.Outside.link_keeps _ _ r.moved; stands = r.stands at.opened.history at.opened.wallet; time' = r.time; rest = r.rest; read = r.read } in
    let h = at.opened.history in
    let done = c.in-Done.ensures.exact h clock.stands in
    clocked_by g.O.Link.link g.O.Disk.disk x a w y c.raise_by_clock-reading.result g.met.O.Outside.sent_aside clock
    (λ i t clocked. PaysBy g.O.Link.link g.O.Disk.disk i t (pend_entry i t (asking_of c.args.ask.now)) a clocked c.use_link.result.1 c.use_link.result.0)
    (pay_asked g.O.Link.link g.O.Disk.disk x a w y c.raise_by_clock-reading.result g.met.O.Outside.sent_aside clock sayings.Contents (pend_entry h y.book.time (asking_of c.args.ask.now)) c.in-Done.wallet c.in-Done.number
    c.use_link.result.1 c.use_link.result.0 (λ e is. asks h y.book.time (asking_of c.args.ask.now) e is) (g.met.O.Outside.disk_keeps _ _ c.in-Done.ensures.back.moved') done.adds done.ran c.use_link.ensures.used)

pub returns-in-Refused-clause-causes : goal.returns-in-Refused-clause-causes
returns-in-Refused-clause-causes g c =
    let w = c.args.wallet.journal.disk in
    let y = c.raise_by_clock-reading.new.wallet.journal.disk in
    let z = c.in-Refused.wallet.journal.disk in
    let first = none_linked g.O.Link.link g.O.Disk.disk w y (g.met.O.Outside.link_keeps _ _ c.raise_by_clock-reading.ensures.moved) (ap (λ (v : LinkView). v.faults) c.raise_by_clock-reading.ensures.rest) in
    let second = none_on_disk g.O.Link.link g.O.Disk.disk y z c.in-Refused.ensures.back.counts (g.met.O.Outside.disk_keeps _ _ c.in-Refused.ensures.back.moved') in
    let clocked : OnlyClocked (g.O.Link.link w) (g.O.Link.link z) = subst (λ (v : LinkView). OnlyClocked (g.O.Link.link w) v) (sym (g.met.O.Outside.disk_keeps _ _ c.in-Refused.ensures.back.moved')) c.raise_by_clock-reading.ensures.rest in
    rw c.close.ensures (none_then g.O.Link.link g.O.Disk.disk w y z first second, pended_so c.in-Refused.refusal (g.O.Link.link w) (g.O.Link.link z) clocked c.in-Refused.ensures.refused)

pub returns-in-Refused-clause-paid : goal.returns-in-Refused-clause-paid
returns-in-Refused-clause-paid g c a x at =
    let w = c.args.wallet in
    let y = c.raise_by_clock-reading.new.wallet in
    let r = c.raise_by_clock-reading.ensures in
    let clock : AtClock g.O.Link.link g.O.Disk.disk x a w y c.raise_by_clock-reading.result =
    record { opened = at; keeps = g.met.O.Outside.link_keeps _ _ r.moved; stands = r.stands at.opened.history at.opened.wallet; time' = r.time; rest = r.rest; read = r.read } in
    let h = at.opened.history in
    let done = c.in-Refused.ensures.exact h clock.stands in
    rw c.close.ensures (clocked_by g.O.Link.link g.O.Disk.disk x a w y c.raise_by_clock-reading.result g.met.O.Outside.sent_aside clock
    (λ i t clocked. PaysBy g.O.Link.link g.O.Disk.disk i t (pend_entry i t (asking_of c.args.ask.now)) a clocked (ends.Refused c.in-Refused.refusal) c.in-Refused.wallet.journal.disk)
    (pay_refused g.O.Link.link g.O.Disk.disk x a w y c.raise_by_clock-reading.result g.met.O.Outside.sent_aside clock sayings.Contents (pend_entry h y.book.time (asking_of c.args.ask.now)) c.in-Refused.wallet c.in-Refused.refusal (TellsNumber h) (r.limits ∙ c.requires.limits) done.adds))

pub returns-in-NoMemory-clause-causes : goal.returns-in-NoMemory-clause-causes
returns-in-NoMemory-clause-causes g c =
    let w = c.args.wallet.journal.disk in
    let y = c.raise_by_clock-reading.new.wallet.journal.disk in
    let z = c.in-NoMemory.wallet.journal.disk in
    let first = none_linked g.O.Link.link g.O.Disk.disk w y (g.met.O.Outside.link_keeps _ _ c.raise_by_clock-reading.ensures.moved) (ap (λ (v : LinkView). v.faults) c.raise_by_clock-reading.ensures.rest) in
    let second = none_on_disk g.O.Link.link g.O.Disk.disk y z c.in-NoMemory.ensures.back.counts (g.met.O.Outside.disk_keeps _ _ c.in-NoMemory.ensures.back.moved') in
    rw c.close-in-NoMemory.ensures (none_then g.O.Link.link g.O.Disk.disk w y z first second)

pub returns-in-NoMemory-clause-paid : goal.returns-in-NoMemory-clause-paid
returns-in-NoMemory-clause-paid g c a x at =
    let w = c.args.wallet in
    let y = c.raise_by_clock-reading.new.wallet in
    let r = c.raise_by_clock-reading.ensures in
    let clock : AtClock g.O.Link.link g.O.Disk.disk x a w y c.raise_by_clock-reading.result =
    record { opened = at; keeps = g.met.O.Outside.link_keeps _ _ r.moved; stands = r.stands at.opened.history at.opened.wallet; time' = r.time; rest = r.rest; read = r.read } in
    let h = at.opened.history in
    let done = c.in-NoMemory.ensures.exact h clock.stands in
    rw c.close-in-NoMemory.ensures (clocked_by g.O.Link.link g.O.Disk.disk x a w y c.raise_by_clock-reading.result g.met.O.Outside.sent_aside clock
    (λ i t clocked. PaysBy g.O.Link.link g.O.Disk.disk i t (pend_entry i t (asking_of c.args.ask.now)) a clocked ends.NoMemory c.in-NoMemory.wallet.journal.disk)
    (pay_wants g.O.Link.link g.O.Disk.disk x a w y c.raise_by_clock-reading.result g.met.O.Outside.sent_aside clock sayings.Contents (pend_entry h y.book.time (asking_of c.args.ask.now)) c.in-NoMemory.wallet (TellsNumber h) (r.limits ∙ c.requires.limits) done.adds))

pub returns-clause-causes : goal.returns-clause-causes
returns-clause-causes g c =
    let w = c.args.wallet.journal.disk in
    let y = c.raise_by_clock-reading.new.wallet.journal.disk in
    let first = none_linked g.O.Link.link g.O.Disk.disk w y (g.met.O.Outside.link_keeps _ _ c.raise_by_clock-reading.ensures.moved) (ap (λ (v : LinkView). v.faults) c.raise_by_clock-reading.ensures.rest) in
    rw c.close-in-Halted.ensures (disk_then g.O.Link.link g.O.Disk.disk w y c.in-Halted.halted first (record { disk' = c.in-Halted.ensures.back.counts; link' = ap (λ (v : LinkView). v.faults) (g.met.O.Outside.disk_keeps _ _ c.in-Halted.ensures.back.moved') }))

pub returns-clause-paid : goal.returns-clause-paid
returns-clause-paid g c a x at =
    let w = c.args.wallet in
    let y = c.raise_by_clock-reading.new.wallet in
    let r = c.raise_by_clock-reading.ensures in
    let clock : AtClock g.O.Link.link g.O.Disk.disk x a w y c.raise_by_clock-reading.result =
    record { opened = at; keeps = g.met.O.Outside.link_keeps _ _ r.moved; stands = r.stands at.opened.history at.opened.wallet; time' = r.time; rest = r.rest; read = r.read } in
    let h = at.opened.history in
    let done = c.in-Halted.ensures.exact h clock.stands in
    rw c.close-in-Halted.ensures (clocked_by g.O.Link.link g.O.Disk.disk x a w y c.raise_by_clock-reading.result g.met.O.Outside.sent_aside clock
    (λ i t clocked. PaysBy g.O.Link.link g.O.Disk.disk i t (pend_entry i t (asking_of c.args.ask.now)) a clocked ends.DiskFault c.in-Halted.halted)
    (pay_doubted g.O.Link.link g.O.Disk.disk x a w y c.raise_by_clock-reading.result g.met.O.Outside.sent_aside clock sayings.Contents (pend_entry h y.book.time (asking_of c.args.ask.now)) c.in-Halted.halted (TellsNumber h) (g.met.O.Disk.is_disk c.in-Halted.halted)
    (g.met.O.Outside.disk_keeps _ _ c.in-Halted.ensures.back.moved') done.adds done.ran))
