use Rattle.std.proofs.Common.{Ok}
use Rattle.wallet_model.specs.Asks.{get, pend_entry}
use Rattle.wallet_core.specs.Requests.{pending_view, pend_of}
use Rattle.wallet_core.specs.Answers.{TellsNumber, Any, IsFull, MayPend}
use Rattle.wallet_core.proofs.AskLaws.{asked_follows}
use Rattle.wallet_core.proofs.CallLaws.{answered, not_answered}
use Rattle.wallet_core.proofs.OutcomeLaws.{performs_as, refuses, tells_more, full_pend, funds_may}
use Rattle.wallet_core.proofs.wallet.Wallet.pend_chosen.Goals as goal

pub keep-requires-clause-may : goal.keep-requires-clause-may
keep-requires-clause-may g c = rw (← c.self.view_is) (λ h st.
    let choice = (rw (← c.self.view_is) at c.requires.chosen) h st in
    asked_follows c.self.inside.book h (get c.args.vendor.now c.args.target.now choice.0) (Ok c.in-Ok.request) st.book tt (c.in-Ok.ensures.exact h choice.0 st.book choice.1))

pub returns-in-Ok-clause-exact : goal.returns-in-Ok-clause-exact
returns-in-Ok-clause-exact g c = rw (← c.self.view_is) (λ h limit st chooses.
    let t = c.self.inside.book.time in
    let todo = pend_entry h t (get c.args.vendor.now c.args.target.now limit) in
    performs_as g.D.Disk.disk (record { journal = c.self.inside.journal; book = c.self.inside.book }) h (pend_of t (pending_view c.in-Ok.request)) todo (TellsNumber h) (TellsNumber h) c.keep.result
    (answered t todo c.in-Ok.request (c.in-Ok.ensures.exact h limit st.book chooses)) (λ a told. told) ((rw (← c.self.view_is) at c.keep.ensures.exact) h st))

pub returns-in-Err-clause-exact : goal.returns-in-Err-clause-exact
returns-in-Err-clause-exact g c = rw (← c.self.view_is) (λ h limit st chooses.
    let t = c.self.inside.book.time in
    let todo = pend_entry h t (get c.args.vendor.now c.args.target.now limit) in
    refuses g.D.Disk.disk (record { journal = c.self.inside.journal; book = c.self.inside.book }) h (TellsNumber h) (g.met.D.Disk.is_disk c.self.inside.journal.disk) st todo c.in-Err.none (not_answered t todo c.in-Err.none (c.in-Err.ensures.exact h limit st.book chooses)))

pub returns-in-Ok-clause-refused : goal.returns-in-Ok-clause-refused
returns-in-Ok-clause-refused g c = tells_more IsFull MayPend Any Any c.keep.result full_pend (λ a told. tt) c.keep.ensures.refused

pub returns-in-Err-clause-refused : goal.returns-in-Err-clause-refused
returns-in-Err-clause-refused g c = funds_may c.in-Err.none c.in-Err.ensures.refused
