use Rattle.std.proofs.Common.{◌∙◌, ℕ, sym, ap, subst}
use Rattle.mc_outside.specs.LinkView.{LinkView}
use Rattle.mc_requests.specs.declared.refusal.Refusal.TheVariants as refusals
use Rattle.command_status.specs.declared.status.Status.TheVariants as ends
use Rattle.wallet_model.specs.Asks.{due_entry}
use Rattle.wallet_core.specs.declared.ask.Ask.{Ask}
use Rattle.wallet_core.specs.Asks.{HasAmounts, PaysAt}
use Rattle.wallet_core.proofs.AskLaws.{none_due}
use Rattle.wallet_core.specs.declared.outcome.WalletOut.TheVariants as outs
use Rattle.wallet_core.specs.Answers.{TellsNumber}
use Rattle.wallet_commands.specs.declared.saying.Saying.TheVariants as sayings
use Rattle.wallet_commands.specs.Causes.{OnlyClocked, LinkRefused, RefusedBy}
use Rattle.wallet_commands.specs.Paying.{PaysAs}
use Rattle.wallet_commands.proofs.CauseLemmas.{causes_from, none_linked, none_then, none_on_disk, disk_then, clocked_so, full_so}
use Rattle.wallet_commands.proofs.PayLemmas.{AtClock, clocked_by, known_on, due_asks, due_performs, pend_keeps, not_due, pay_refused, pay_wants, pay_doubted, pay_asked}
use Rattle.wallet_commands.proofs.renewing.renew_by_clock.Goals as goal

pub get_with-ask-requires : goal.get_with-ask-requires
get_with-ask-requires g c =
    let pays = c.in-Some.ensures.pays c.args.target.now 0 in
    (pays.holding, pays.here)

pub pend_with-requires-clause-amounts : goal.pend_with-requires-clause-amounts
pend_with-requires-clause-amounts g c =
    let pays = c.in-Some.ensures.pays c.args.target.now 0 in
    let what = c.get_with-ask.ensures pays.holding pays.here in
    subst HasAmounts (sym what) tt

pub pend_with-requires-clause-pays : goal.pend_with-requires-clause-pays
pend_with-requires-clause-pays g c =
    let pays = c.in-Some.ensures.pays c.args.target.now 0 in
    let what = c.get_with-ask.ensures pays.holding pays.here in
    subst (λ (a : Ask). PaysAt c.raise_by_clock-reading.new.wallet.book c.in-Some.place a) (sym what) (c.in-Some.ensures.pays c.args.target.now pays.holding.piece.value)

pub use_link-requires-clause-kept : goal.use_link-requires-clause-kept
use_link-requires-clause-kept g c s st =
    let y = c.raise_by_clock-reading.new.wallet in
    let known = known_on g.O.Disk.disk c.args.wallet y (g.met.O.Outside.link_keeps _ _ c.raise_by_clock-reading.ensures.moved) c.raise_by_clock-reading.ensures.stands c.requires.known in
    let pays = c.in-Some.ensures.pays c.args.target.now 0 in
    let what = c.get_with-ask.ensures pays.holding pays.here in
    pend_keeps g.O.Disk.disk y c.in-Done.wallet (λ h. due_entry h y.book.time c.args.vendor.now c.args.target.now c.args.before) c.in-Done.number (λ h e is. due_asks h y.book.time c.args.vendor.now c.args.target.now c.args.before e is)
    known (g.met.O.Disk.disk_goes _ _ c.in-Done.ensures.back.moved').goes.tells
    (λ h at. (due_performs {A = ℕ} g.O.Disk.disk y h c.args.vendor.now c.args.target.now c.args.before pays.holding.piece.value c.in-Some.place c.get_with-ask.result (TellsNumber h) (outs.Done c.in-Done.wallet c.in-Done.number) what (c.in-Some.ensures.due h at) (c.in-Done.ensures.exact h at)).adds) s st

pub use_link-requires-clause-limits : goal.use_link-requires-clause-limits
use_link-requires-clause-limits g c = c.in-Done.ensures.back.limits ∙ c.raise_by_clock-reading.ensures.limits ∙ c.requires.limits

pub returns-in-Done-clause-causes : goal.returns-in-Done-clause-causes
returns-in-Done-clause-causes g c =
    let w = c.args.wallet.journal.disk in
    let y = c.raise_by_clock-reading.new.wallet.journal.disk in
    let z = c.in-Done.wallet.journal.disk in
    let first = none_linked g.O.Link.link g.O.Disk.disk w y (g.met.O.Outside.link_keeps _ _ c.raise_by_clock-reading.ensures.moved) (ap (λ (v : LinkView). v.faults) c.raise_by_clock-reading.ensures.rest) in
    let second = none_on_disk g.O.Link.link g.O.Disk.disk y z c.in-Done.ensures.back.counts (g.met.O.Outside.disk_keeps _ _ c.in-Done.ensures.back.moved') in
    let clocked : OnlyClocked (g.O.Link.link w) (g.O.Link.link z) = subst (λ (v : LinkView). OnlyClocked (g.O.Link.link w) v) (sym (g.met.O.Outside.disk_keeps _ _ c.in-Done.ensures.back.moved')) c.raise_by_clock-reading.ensures.rest in
    causes_from LinkRefused RefusedBy g.O.Link.link g.O.Disk.disk w z c.use_link.result.0 c.use_link.result.1 (none_then g.O.Link.link g.O.Disk.disk w y z first second)
    (λ f why. clocked_so f (g.O.Link.link w) (g.O.Link.link z) (g.O.Link.link c.use_link.result.0) clocked why) c.use_link.ensures.causes

pub returns-in-Done-clause-renewed : goal.returns-in-Done-clause-renewed
returns-in-Done-clause-renewed g c a x at =
    let w = c.args.wallet in
    let y = c.raise_by_clock-reading.new.wallet in
    let r = c.raise_by_clock-reading.ensures in
    let clock : AtClock g.O.Link.link g.O.Disk.disk x a w y c.raise_by_clock-reading.result =
    record { opened = at; keeps = g.met.O.Outside.link_keeps _ _ r.moved; stands = r.stands at.opened.history at.opened.wallet; time' = r.time; rest = r.rest; read = r.read } in
    let h = at.opened.history in
    let pays = c.in-Some.ensures.pays c.args.target.now 0 in
    let what = c.get_with-ask.ensures pays.holding pays.here in
    let todo = due_entry h y.book.time c.args.vendor.now c.args.target.now c.args.before in
    let done = due_performs {A = ℕ} g.O.Disk.disk y h c.args.vendor.now c.args.target.now c.args.before pays.holding.piece.value c.in-Some.place c.get_with-ask.result (TellsNumber h) (outs.Done c.in-Done.wallet c.in-Done.number) what (c.in-Some.ensures.due h clock.stands) (c.in-Done.ensures.exact h clock.stands) in
    (clocked_by g.O.Link.link g.O.Disk.disk x a w y c.raise_by_clock-reading.result g.met.O.Outside.sent_aside clock
    (λ i t clocked. PaysAs (sayings.Renewal c.args.vendor.now) g.O.Link.link g.O.Disk.disk i t (due_entry i t c.args.vendor.now c.args.target.now c.args.before) a clocked c.use_link.result.1 c.use_link.result.0)
    (pay_asked g.O.Link.link g.O.Disk.disk x a w y c.raise_by_clock-reading.result g.met.O.Outside.sent_aside clock (sayings.Renewal c.args.vendor.now) todo c.in-Done.wallet c.in-Done.number c.use_link.result.1 c.use_link.result.0
    (λ e is. due_asks h y.book.time c.args.vendor.now c.args.target.now c.args.before e is) (g.met.O.Outside.disk_keeps _ _ c.in-Done.ensures.back.moved') done.adds done.ran c.use_link.ensures.used))

pub returns-in-Refused-clause-causes : goal.returns-in-Refused-clause-causes
returns-in-Refused-clause-causes g c =
    let w = c.args.wallet.journal.disk in
    let y = c.raise_by_clock-reading.new.wallet.journal.disk in
    let z = c.in-Refused.wallet.journal.disk in
    let first = none_linked g.O.Link.link g.O.Disk.disk w y (g.met.O.Outside.link_keeps _ _ c.raise_by_clock-reading.ensures.moved) (ap (λ (v : LinkView). v.faults) c.raise_by_clock-reading.ensures.rest) in
    let second = none_on_disk g.O.Link.link g.O.Disk.disk y z c.in-Refused.ensures.back.counts (g.met.O.Outside.disk_keeps _ _ c.in-Refused.ensures.back.moved') in
    let clocked : OnlyClocked (g.O.Link.link w) (g.O.Link.link z) = subst (λ (v : LinkView). OnlyClocked (g.O.Link.link w) v) (sym (g.met.O.Outside.disk_keeps _ _ c.in-Refused.ensures.back.moved')) c.raise_by_clock-reading.ensures.rest in
    rw c.close-in-Refused.ensures (none_then g.O.Link.link g.O.Disk.disk w y z first second, full_so c.in-Refused.refusal (g.O.Link.link w) (g.O.Link.link z) clocked c.in-Refused.ensures.refused)

pub returns-in-Refused-clause-renewed : goal.returns-in-Refused-clause-renewed
returns-in-Refused-clause-renewed g c a x at =
    let w = c.args.wallet in
    let y = c.raise_by_clock-reading.new.wallet in
    let r = c.raise_by_clock-reading.ensures in
    let clock : AtClock g.O.Link.link g.O.Disk.disk x a w y c.raise_by_clock-reading.result =
    record { opened = at; keeps = g.met.O.Outside.link_keeps _ _ r.moved; stands = r.stands at.opened.history at.opened.wallet; time' = r.time; rest = r.rest; read = r.read } in
    let h = at.opened.history in
    let pays = c.in-Some.ensures.pays c.args.target.now 0 in
    let what = c.get_with-ask.ensures pays.holding pays.here in
    let todo = due_entry h y.book.time c.args.vendor.now c.args.target.now c.args.before in
    let done = due_performs {A = ℕ} g.O.Disk.disk y h c.args.vendor.now c.args.target.now c.args.before pays.holding.piece.value c.in-Some.place c.get_with-ask.result (TellsNumber h) (outs.Refused c.in-Refused.wallet c.in-Refused.refusal) what (c.in-Some.ensures.due h clock.stands) (c.in-Refused.ensures.exact h clock.stands) in
    rw c.close-in-Refused.ensures (clocked_by g.O.Link.link g.O.Disk.disk x a w y c.raise_by_clock-reading.result g.met.O.Outside.sent_aside clock
    (λ i t clocked. PaysAs (sayings.Renewal c.args.vendor.now) g.O.Link.link g.O.Disk.disk i t (due_entry i t c.args.vendor.now c.args.target.now c.args.before) a clocked (ends.Refused c.in-Refused.refusal) c.in-Refused.wallet.journal.disk)
    (pay_refused g.O.Link.link g.O.Disk.disk x a w y c.raise_by_clock-reading.result g.met.O.Outside.sent_aside clock (sayings.Renewal c.args.vendor.now) todo c.in-Refused.wallet c.in-Refused.refusal (TellsNumber h) (r.limits ∙ c.requires.limits) done.adds))

pub returns-in-NoMemory-clause-causes : goal.returns-in-NoMemory-clause-causes
returns-in-NoMemory-clause-causes g c =
    let w = c.args.wallet.journal.disk in
    let y = c.raise_by_clock-reading.new.wallet.journal.disk in
    let z = c.in-NoMemory.wallet.journal.disk in
    let first = none_linked g.O.Link.link g.O.Disk.disk w y (g.met.O.Outside.link_keeps _ _ c.raise_by_clock-reading.ensures.moved) (ap (λ (v : LinkView). v.faults) c.raise_by_clock-reading.ensures.rest) in
    let second = none_on_disk g.O.Link.link g.O.Disk.disk y z c.in-NoMemory.ensures.back.counts (g.met.O.Outside.disk_keeps _ _ c.in-NoMemory.ensures.back.moved') in
    rw c.close-in-NoMemory.ensures (none_then g.O.Link.link g.O.Disk.disk w y z first second)

pub returns-in-NoMemory-clause-renewed : goal.returns-in-NoMemory-clause-renewed
returns-in-NoMemory-clause-renewed g c a x at =
    let w = c.args.wallet in
    let y = c.raise_by_clock-reading.new.wallet in
    let r = c.raise_by_clock-reading.ensures in
    let clock : AtClock g.O.Link.link g.O.Disk.disk x a w y c.raise_by_clock-reading.result =
    record { opened = at; keeps = g.met.O.Outside.link_keeps _ _ r.moved; stands = r.stands at.opened.history at.opened.wallet; time' = r.time; rest = r.rest; read = r.read } in
    let h = at.opened.history in
    let pays = c.in-Some.ensures.pays c.args.target.now 0 in
    let what = c.get_with-ask.ensures pays.holding pays.here in
    let todo = due_entry h y.book.time c.args.vendor.now c.args.target.now c.args.before in
    let done = due_performs {A = ℕ} g.O.Disk.disk y h c.args.vendor.now c.args.target.now c.args.before pays.holding.piece.value c.in-Some.place c.get_with-ask.result (TellsNumber h) (outs.NoMemory c.in-NoMemory.wallet) what (c.in-Some.ensures.due h clock.stands) (c.in-NoMemory.ensures.exact h clock.stands) in
    rw c.close-in-NoMemory.ensures (clocked_by g.O.Link.link g.O.Disk.disk x a w y c.raise_by_clock-reading.result g.met.O.Outside.sent_aside clock
    (λ i t clocked. PaysAs (sayings.Renewal c.args.vendor.now) g.O.Link.link g.O.Disk.disk i t (due_entry i t c.args.vendor.now c.args.target.now c.args.before) a clocked ends.NoMemory c.in-NoMemory.wallet.journal.disk)
    (pay_wants g.O.Link.link g.O.Disk.disk x a w y c.raise_by_clock-reading.result g.met.O.Outside.sent_aside clock (sayings.Renewal c.args.vendor.now) todo c.in-NoMemory.wallet (TellsNumber h) (r.limits ∙ c.requires.limits) done.adds))

pub returns-clause-causes : goal.returns-clause-causes
returns-clause-causes g c =
    let w = c.args.wallet.journal.disk in
    let y = c.raise_by_clock-reading.new.wallet.journal.disk in
    let first = none_linked g.O.Link.link g.O.Disk.disk w y (g.met.O.Outside.link_keeps _ _ c.raise_by_clock-reading.ensures.moved) (ap (λ (v : LinkView). v.faults) c.raise_by_clock-reading.ensures.rest) in
    rw c.close-in-Halted.ensures (disk_then g.O.Link.link g.O.Disk.disk w y c.in-Halted.halted first (record { disk' = c.in-Halted.ensures.back.counts; link' = ap (λ (v : LinkView). v.faults) (g.met.O.Outside.disk_keeps _ _ c.in-Halted.ensures.back.moved') }))

pub returns-clause-renewed : goal.returns-clause-renewed
returns-clause-renewed g c a x at =
    let w = c.args.wallet in
    let y = c.raise_by_clock-reading.new.wallet in
    let r = c.raise_by_clock-reading.ensures in
    let clock : AtClock g.O.Link.link g.O.Disk.disk x a w y c.raise_by_clock-reading.result =
    record { opened = at; keeps = g.met.O.Outside.link_keeps _ _ r.moved; stands = r.stands at.opened.history at.opened.wallet; time' = r.time; rest = r.rest; read = r.read } in
    let h = at.opened.history in
    let pays = c.in-Some.ensures.pays c.args.target.now 0 in
    let what = c.get_with-ask.ensures pays.holding pays.here in
    let todo = due_entry h y.book.time c.args.vendor.now c.args.target.now c.args.before in
    let done = due_performs {A = ℕ} g.O.Disk.disk y h c.args.vendor.now c.args.target.now c.args.before pays.holding.piece.value c.in-Some.place c.get_with-ask.result (TellsNumber h) (outs.Halted c.in-Halted.halted) what (c.in-Some.ensures.due h clock.stands) (c.in-Halted.ensures.exact h clock.stands) in
    rw c.close-in-Halted.ensures (clocked_by g.O.Link.link g.O.Disk.disk x a w y c.raise_by_clock-reading.result g.met.O.Outside.sent_aside clock
    (λ i t clocked. PaysAs (sayings.Renewal c.args.vendor.now) g.O.Link.link g.O.Disk.disk i t (due_entry i t c.args.vendor.now c.args.target.now c.args.before) a clocked ends.DiskFault c.in-Halted.halted)
    (pay_doubted g.O.Link.link g.O.Disk.disk x a w y c.raise_by_clock-reading.result g.met.O.Outside.sent_aside clock (sayings.Renewal c.args.vendor.now) todo c.in-Halted.halted (TellsNumber h) (g.met.O.Disk.is_disk c.in-Halted.halted)
    (g.met.O.Outside.disk_keeps _ _ c.in-Halted.ensures.back.moved') done.adds done.ran))

pub returns-in-None-clause-causes : goal.returns-in-None-clause-causes
returns-in-None-clause-causes g c =
    let w = c.args.wallet.journal.disk in
    let y = c.raise_by_clock-reading.new.wallet.journal.disk in
    rw c.close.ensures (none_linked g.O.Link.link g.O.Disk.disk w y (g.met.O.Outside.link_keeps _ _ c.raise_by_clock-reading.ensures.moved) (ap (λ (v : LinkView). v.faults) c.raise_by_clock-reading.ensures.rest), c.raise_by_clock-reading.ensures.rest)

pub returns-in-None-clause-renewed : goal.returns-in-None-clause-renewed
returns-in-None-clause-renewed g c a x at =
    let w = c.args.wallet in
    let y = c.raise_by_clock-reading.new.wallet in
    let r = c.raise_by_clock-reading.ensures in
    let clock : AtClock g.O.Link.link g.O.Disk.disk x a w y c.raise_by_clock-reading.result =
    record { opened = at; keeps = g.met.O.Outside.link_keeps _ _ r.moved; stands = r.stands at.opened.history at.opened.wallet; time' = r.time; rest = r.rest; read = r.read } in
    let h = at.opened.history in
    rw c.close.ensures (clocked_by g.O.Link.link g.O.Disk.disk x a w y c.raise_by_clock-reading.result g.met.O.Outside.sent_aside clock
    (λ i t clocked. PaysAs (sayings.Renewal c.args.vendor.now) g.O.Link.link g.O.Disk.disk i t (due_entry i t c.args.vendor.now c.args.target.now c.args.before) a clocked (ends.Refused refusals.NothingDue) y.journal.disk)
    (not_due g.O.Link.link g.O.Disk.disk x a w y c.raise_by_clock-reading.result g.met.O.Outside.sent_aside clock c.args.vendor.now c.args.target.now c.args.before (none_due h y.book.time c.args.vendor.now c.args.target.now c.args.before (c.in-None.ensures.due h clock.stands))))
