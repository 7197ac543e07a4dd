use Rattle.std.proofs.Common.{◌≡◌, ◌∙◌, ℕ, Ok, sym, ap}
use Rattle.mc_records.specs.Entry.{Entry}
use Rattle.mc_records.specs.Views.{entry}
use Rattle.wallet_core.specs.Requests.{pending_view, pend_of}
use Rattle.wallet_core.specs.Answers.{TellsNumber, Any, IsFull}
use Rattle.wallet_core.proofs.OutcomeLaws.{performs_as, tells_more}
use Rattle.wallet_core.proofs.wallet.Wallet.keep.Goals as goal

pub returns-clause-exact : goal.returns-clause-exact
returns-clause-exact g c = rw (← c.self.view_is) (λ h st.
    let r = entry c.pend_record-record.result in
    let asked = pending_view c.args.request.now in
    let is : r ≡ pend_of c.self.inside.book.time asked = c.pend_record-record.ensures.entry ∙ ap (λ (t : ℕ). pend_of t asked) c.time.ensures in
    performs_as g.D.Disk.disk (record { journal = c.self.inside.journal; book = c.self.inside.book }) h r (Ok (pend_of c.self.inside.book.time asked)) (λ (e : Entry) (a : ℕ). a ≡ c.count-number.result) (TellsNumber h) c.enter.result
    (ap (λ (e : Entry). Ok e) (sym is)) (λ a told. told ∙ c.count-number.ensures ∙ sym st.book.counted) ((rw (← c.self.view_is) at c.enter.ensures.exact) h st))

pub returns-clause-refused : goal.returns-clause-refused
returns-clause-refused g c = tells_more IsFull IsFull (λ (a : ℕ). a ≡ c.count-number.result) Any c.enter.result (λ f is. is) (λ a told. tt) c.enter.ensures.told
