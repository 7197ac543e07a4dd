use Rattle.std.proofs.Common.{◌≡◌, ◌+◌, ◌∙◌, refl, arith, ap, subst, inl, inr, Ok, Err}
use Rattle.mc_outside.specs.LinkView.{LinkView}
use Rattle.mc_requests.specs.declared.limits.Limits.{Limits}
use Rattle.wallet_book.specs.Book.{BookView}
use Rattle.link_turns.proofs.CauseLemmas.{counts_none, counts_link, counts_then, rose_then}
use Rattle.wallet_proxy.specs.Proxy.{Bounds}
use Rattle.wallet_proxy.specs.Links.{ServesLink, now, state_at}
use Rattle.wallet_proxy.proofs.LinkLemmas.{linked_starts, linked_goes_on, linked_over, linked_broke, linked_halts, linked_all}
use Rattle.wallet_proxy.proofs.links.proxy_links.Goals as goal

pub links-init : goal.links-init
links-init g c = record {
  few = omega arith;
  moved = g.met.U.Link.link_stays _;
  counts = counts_none g.O.Link.link g.O.Disk.disk c.args.wallet.journal.disk;
  limits = refl;
  linked = λ h st. linked_starts g.O.Link.link g.O.Disk.disk g.met.O.Outside.sent_aside (record { vendor = c.args.vendor.now; limit = c.args.limit; budget = c.args.budget; limits = c.args.wallet.book.limits }) c.args.wallet h (g.U.Link.link c.args.up.now) (g.met.O.Disk.is_disk _) st;
}

pub links-preserved : goal.links-preserved
links-preserved g c =
    let w = c.args.wallet in
    let x = c.links.wallet in
    let y = c.next_link.new.self in
    let b : Bounds = record { vendor = c.args.vendor.now; limit = c.args.limit; budget = c.args.budget; limits = w.book.limits } in
    let up : LinkView = g.U.Link.link c.links.up in
    let keeps = g.met.O.Outside.link_keeps _ _ c.next_link.ensures.moved.0 in
    let goes = g.met.O.Link.link_goes _ _ c.next_link.ensures.moved.0 in
    let rests = c.next_link.ensures.moved.1 in
    let same : y.book.limits ≡ w.book.limits = ap (λ (k : BookView). k.limits) rests.book ∙ c.links.invariant.limits in
    let now_up : LinkView = g.U.Link.link c.serve_link.new.up in
    let taken = rw c.in-Ok-true.field-0-test at c.in-Ok-true.ensures.taken in
    record {
      few = omega (arith, c.links-test.true);
      moved = g.met.U.Link.link_goes_on _ _ _ c.links.invariant.moved c.serve_link.ensures.moved;
      counts = counts_then g.O.Link.link g.O.Disk.disk _ _ _ c.links.invariant.counts (counts_then g.O.Link.link g.O.Disk.disk _ _ _ (counts_link g.O.Link.link g.O.Disk.disk _ _ keeps goes) c.in-Ok-serve_link.ensures.causes);
      limits = c.in-Ok-serve_link.ensures.limits ∙ same;
      linked = λ h st. linked_goes_on g.O.Link.link g.O.Disk.disk g.met.O.Outside.sent_aside b c.links.served w.journal.disk (state_at h (now w 0 (g.U.Link.link c.args.up.now))) x y c.links.paid up (record { keeps = keeps; goes = goes; rests = rests }) (c.links.invariant.linked h st) (c.links.served + 1) c.in-Ok-serve_link.after c.serve_link.new.paid now_up
          (omega arith) taken (λ k sk fk. subst (λ (l : Limits). ServesLink g.O.Link.link g.O.Disk.disk (record { vendor = c.args.vendor.now; limit = c.args.limit; budget = c.args.budget; limits = l }) y.journal.disk (state_at k (now y c.links.paid up)) c.serve_link.new.paid now_up (Ok c.in-Ok-serve_link.after)) same (c.in-Ok-serve_link.ensures.served k sk fk));
    }

pub returns-in-Err-serve_link-clause-causes : goal.returns-in-Err-serve_link-clause-causes
returns-in-Err-serve_link-clause-causes g c =
    let w = c.args.wallet in
    let x = c.links.wallet in
    let y = c.next_link.new.self in
    let b : Bounds = record { vendor = c.args.vendor.now; limit = c.args.limit; budget = c.args.budget; limits = w.book.limits } in
    let up : LinkView = g.U.Link.link c.links.up in
    let keeps = g.met.O.Outside.link_keeps _ _ c.next_link.ensures.moved.0 in
    let goes = g.met.O.Link.link_goes _ _ c.next_link.ensures.moved.0 in
    let rests = c.next_link.ensures.moved.1 in
    let same : y.book.limits ≡ w.book.limits = ap (λ (k : BookView). k.limits) rests.book ∙ c.links.invariant.limits in
    rose_then g.O.Link.link g.O.Disk.disk _ _ _ c.links.invariant.counts (rose_then g.O.Link.link g.O.Disk.disk _ _ _ (counts_link g.O.Link.link g.O.Disk.disk _ _ keeps goes) c.in-Err-serve_link.ensures.causes)

pub returns-in-Err-serve_link-clause-served : goal.returns-in-Err-serve_link-clause-served
returns-in-Err-serve_link-clause-served g c h st =
    let w = c.args.wallet in
    let x = c.links.wallet in
    let y = c.next_link.new.self in
    let b : Bounds = record { vendor = c.args.vendor.now; limit = c.args.limit; budget = c.args.budget; limits = w.book.limits } in
    let up : LinkView = g.U.Link.link c.links.up in
    let keeps = g.met.O.Outside.link_keeps _ _ c.next_link.ensures.moved.0 in
    let goes = g.met.O.Link.link_goes _ _ c.next_link.ensures.moved.0 in
    let rests = c.next_link.ensures.moved.1 in
    let same : y.book.limits ≡ w.book.limits = ap (λ (k : BookView). k.limits) rests.book ∙ c.links.invariant.limits in
    let now_up : LinkView = g.U.Link.link c.serve_link.new.up in
    let taken = rw c.in-Ok-true.field-0-test at c.in-Ok-true.ensures.taken in
    linked_halts g.O.Link.link g.O.Disk.disk g.met.O.Outside.sent_aside b c.links.served w.journal.disk (state_at h (now w 0 (g.U.Link.link c.args.up.now))) x y c.links.paid up (record { keeps = keeps; goes = goes; rests = rests }) (c.links.invariant.linked h st) c.args.links c.in-Err-serve_link.halted c.serve_link.new.paid now_up
    c.links-test.true taken (λ k sk fk. subst (λ (l : Limits). ServesLink g.O.Link.link g.O.Disk.disk (record { vendor = c.args.vendor.now; limit = c.args.limit; budget = c.args.budget; limits = l }) y.journal.disk (state_at k (now y c.links.paid up)) c.serve_link.new.paid now_up (Err c.in-Err-serve_link.halted)) same (c.in-Err-serve_link.ensures.served k sk fk))

pub returns-in-Ok-false-clause-served : goal.returns-in-Ok-false-clause-served
returns-in-Ok-false-clause-served g c h st =
    let w = c.args.wallet in
    let x = c.links.wallet in
    let y = c.next_link.new.self in
    let b : Bounds = record { vendor = c.args.vendor.now; limit = c.args.limit; budget = c.args.budget; limits = w.book.limits } in
    let up : LinkView = g.U.Link.link c.links.up in
    let keeps = g.met.O.Outside.link_keeps _ _ c.next_link.ensures.moved.0 in
    let goes = g.met.O.Link.link_goes _ _ c.next_link.ensures.moved.0 in
    let rests = c.next_link.ensures.moved.1 in
    let same : y.book.limits ≡ w.book.limits = ap (λ (k : BookView). k.limits) rests.book ∙ c.links.invariant.limits in
    let over = rw c.in-Ok-false.field-0-test at c.in-Ok-false.ensures.taken in
    linked_over g.O.Link.link g.O.Disk.disk g.met.O.Outside.sent_aside b c.links.served w.journal.disk (state_at h (now w 0 (g.U.Link.link c.args.up.now))) x y c.links.paid up (record { keeps = keeps; goes = goes; rests = rests }) (c.links.invariant.linked h st) c.args.links c.links-test.true over

pub returns-in-Err-clause-causes : goal.returns-in-Err-clause-causes
returns-in-Err-clause-causes g c = record {
  before = c.links.wallet.journal.disk;
  counts = c.links.invariant.counts;
  keeps = g.met.O.Outside.link_keeps _ _ c.next_link.ensures.moved.0;
  fault = record { same = c.in-Err.ensures.failed; rose = c.in-Err.ensures.cause.rose };
}

pub returns-in-Err-clause-served : goal.returns-in-Err-clause-served
returns-in-Err-clause-served g c h st =
    let w = c.args.wallet in
    let x = c.links.wallet in
    let y = c.next_link.new.self in
    let b : Bounds = record { vendor = c.args.vendor.now; limit = c.args.limit; budget = c.args.budget; limits = w.book.limits } in
    let up : LinkView = g.U.Link.link c.links.up in
    let keeps = g.met.O.Outside.link_keeps _ _ c.next_link.ensures.moved.0 in
    let goes = g.met.O.Link.link_goes _ _ c.next_link.ensures.moved.0 in
    let rests = c.next_link.ensures.moved.1 in
    let same : y.book.limits ≡ w.book.limits = ap (λ (k : BookView). k.limits) rests.book ∙ c.links.invariant.limits in
    let broke = linked_broke g.O.Link.link g.O.Disk.disk g.met.O.Outside.sent_aside b c.links.served w.journal.disk (state_at h (now w 0 (g.U.Link.link c.args.up.now))) x y c.links.paid up (record { keeps = keeps; goes = goes; rests = rests }) (c.links.invariant.linked h st) c.args.links c.links-test.true (record { same = c.in-Err.ensures.failed; rose = c.in-Err.ensures.cause.rose }) in
    broke

pub returns-clause-served : goal.returns-clause-served
returns-clause-served g c h st =
    let w = c.args.wallet in
    linked_all g.O.Link.link g.O.Disk.disk g.met.O.Outside.sent_aside (record { vendor = c.args.vendor.now; limit = c.args.limit; budget = c.args.budget; limits = w.book.limits }) c.args.links c.links.served w.journal.disk (state_at h (now w 0 (g.U.Link.link c.args.up.now))) c.links.wallet c.links.paid (g.U.Link.link c.links.up)
    (omega (arith, c.links-test.false, c.links.invariant.few)) (c.links.invariant.linked h st)

pub returns-in-Err-serve_link-clause-moved : goal.returns-in-Err-serve_link-clause-moved
returns-in-Err-serve_link-clause-moved g c = g.met.U.Link.link_goes_on _ _ _ c.links.invariant.moved c.serve_link.ensures.moved

pub returns-in-Ok-false-clause-causes : goal.returns-in-Ok-false-clause-causes
returns-in-Ok-false-clause-causes g c =
    counts_then g.O.Link.link g.O.Disk.disk _ _ _ c.links.invariant.counts (counts_link g.O.Link.link g.O.Disk.disk _ _ (g.met.O.Outside.link_keeps _ _ c.next_link.ensures.moved.0) (g.met.O.Link.link_goes _ _ c.next_link.ensures.moved.0))

pub returns-in-Ok-false-clause-enough : goal.returns-in-Ok-false-clause-enough
returns-in-Ok-false-clause-enough g c =
    let over = rw c.in-Ok-false.field-0-test at c.in-Ok-false.ensures.taken in
    inr (c.links-test.true, ap (λ (v : LinkView). v.over) over)

pub returns-clause-enough : goal.returns-clause-enough
returns-clause-enough g c = inl (omega (arith, c.links-test.false, c.links.invariant.few))
