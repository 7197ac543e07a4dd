use Rattle.std.proofs.Common.{◌∙◌, refl, sym, ap, subst}
use Rattle.mc_outside.specs.LinkView.{LinkView}
use Rattle.mc_requests.specs.declared.refusal.Refusal.{Refusal}
use Rattle.command_status.specs.declared.status.Status.TheVariants as ends
use Rattle.wallet_model.specs.Requests.{oldest_kept}
use Rattle.wallet_commands.specs.Causes.{LinkRefused, RefusedBy}
use Rattle.wallet_commands.specs.Paying.{RetriesBy}
use Rattle.wallet_commands.proofs.CauseLemmas.{causes_from, none_linked, clocked_so}
use Rattle.wallet_commands.proofs.PayLemmas.{AtClock, clocked_by, oldest_keeps, try_none, try_oldest}
use Rattle.wallet_commands.proofs.paying.retry_by_clock.Goals as goal

pub use_link-requires-clause-kept : goal.use_link-requires-clause-kept
use_link-requires-clause-kept g c h st = oldest_keeps h c.args.peer.now c.in-Ok.number (c.in-Ok.ensures.exact h st)

pub use_link-requires-clause-limits : goal.use_link-requires-clause-limits
use_link-requires-clause-limits g c = c.raise_by_clock-reading.ensures.limits ∙ c.requires.limits

pub returns-in-Ok-clause-causes : goal.returns-in-Ok-clause-causes
returns-in-Ok-clause-causes g c =
    let w = c.args.wallet.journal.disk in
    let y = c.raise_by_clock-reading.new.wallet.journal.disk in
    causes_from LinkRefused RefusedBy g.O.Link.link g.O.Disk.disk w y c.use_link.result.0 c.use_link.result.1
    (none_linked g.O.Link.link g.O.Disk.disk w y (g.met.O.Outside.link_keeps _ _ c.raise_by_clock-reading.ensures.moved) (ap (λ (v : LinkView). v.faults) c.raise_by_clock-reading.ensures.rest))
    (λ f why. clocked_so f (g.O.Link.link w) (g.O.Link.link y) (g.O.Link.link c.use_link.result.0) c.raise_by_clock-reading.ensures.rest why) c.use_link.ensures.causes

pub returns-in-Ok-clause-tried : goal.returns-in-Ok-clause-tried
returns-in-Ok-clause-tried g c a x at =
    let w = c.args.wallet in
    let y = c.raise_by_clock-reading.new.wallet in
    let r = c.raise_by_clock-reading.ensures in
    let clock : AtClock g.O.Link.link g.O.Disk.disk x a w y c.raise_by_clock-reading.result =
    record { opened = at; keeps = g.met.O.Outside.link_keeps _ _ r.moved; stands = r.stands at.opened.history at.opened.wallet; time' = r.time; rest = r.rest; read = r.read } in
    let h = at.opened.history in
    clocked_by g.O.Link.link g.O.Disk.disk x a w y c.raise_by_clock-reading.result g.met.O.Outside.sent_aside clock
    (λ i t clocked. RetriesBy g.O.Link.link g.O.Disk.disk i t (oldest_kept i c.args.peer.now) a clocked c.use_link.result.1 c.use_link.result.0)
    (try_oldest g.O.Link.link g.O.Disk.disk x a w y c.raise_by_clock-reading.result g.met.O.Outside.sent_aside clock c.args.peer.now (oldest_kept h c.args.peer.now) c.in-Ok.number c.use_link.result.1 c.use_link.result.0 refl (c.in-Ok.ensures.exact h clock.stands)
    c.use_link.ensures.used)

pub returns-clause-causes : goal.returns-clause-causes
returns-clause-causes g c =
    let w = c.args.wallet.journal.disk in
    let y = c.raise_by_clock-reading.new.wallet.journal.disk in
    rw c.close.ensures (
      none_linked g.O.Link.link g.O.Disk.disk w y (g.met.O.Outside.link_keeps _ _ c.raise_by_clock-reading.ensures.moved) (ap (λ (v : LinkView). v.faults) c.raise_by_clock-reading.ensures.rest),
      subst (λ (f : Refusal). RefusedBy f (g.O.Link.link w) (g.O.Link.link y)) (sym c.in-Err.ensures.refused) c.raise_by_clock-reading.ensures.rest,
    )

pub returns-clause-tried : goal.returns-clause-tried
returns-clause-tried g c a x at =
    let w = c.args.wallet in
    let y = c.raise_by_clock-reading.new.wallet in
    let r = c.raise_by_clock-reading.ensures in
    let clock : AtClock g.O.Link.link g.O.Disk.disk x a w y c.raise_by_clock-reading.result =
    record { opened = at; keeps = g.met.O.Outside.link_keeps _ _ r.moved; stands = r.stands at.opened.history at.opened.wallet; time' = r.time; rest = r.rest; read = r.read } in
    let h = at.opened.history in
    rw c.close.ensures (clocked_by g.O.Link.link g.O.Disk.disk x a w y c.raise_by_clock-reading.result g.met.O.Outside.sent_aside clock
    (λ i t clocked. RetriesBy g.O.Link.link g.O.Disk.disk i t (oldest_kept i c.args.peer.now) a clocked (ends.Refused c.in-Err.refusal) y.journal.disk)
    (try_none g.O.Link.link g.O.Disk.disk x a w y c.raise_by_clock-reading.result g.met.O.Outside.sent_aside clock (oldest_kept h c.args.peer.now) c.in-Err.refusal (c.in-Err.ensures.exact h clock.stands)))
