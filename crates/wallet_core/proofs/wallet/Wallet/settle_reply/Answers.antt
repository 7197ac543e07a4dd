use Rattle.std.proofs.Common.{◌≡◌, ◌∙◌, ℕ, Some, Ok, sym, ap, subst}
use Rattle.mc_records.specs.Entry.{Entry, Fits, IsMoment, moment_of}
use Rattle.mc_records.specs.Views.{entry}
use Rattle.wallet_model.specs.Follows.{WalletFollows}
use Rattle.wallet_model.specs.Settling.{settlement}
use Rattle.reply_reader.specs.Seen.{received_of}
use Rattle.wallet_book.specs.Holdings.{texts_of}
use Rattle.wallet_book.specs.Kept.{kept_in}
use Rattle.wallet_core.specs.declared.settling.Settlement.{Settlement}
use Rattle.wallet_core.specs.Requests.{pending_view}
use Rattle.wallet_core.specs.Settled.{IsSettledAs, settlement_with}
use Rattle.wallet_core.specs.Checking.{CheckedView}
use Rattle.wallet_core.specs.Outcomes.{Performs}
use Rattle.wallet_core.specs.Answers.{TellsOnly, IsFull}
use Rattle.wallet_core.proofs.CallLaws.{settled_fits, settled_now}
use Rattle.wallet_core.proofs.SettledLaws.{settled_here, settlement_enters}
use Rattle.wallet_core.proofs.OutcomeLaws.{performs_as, tells_more}
use Rattle.wallet_core.proofs.wallet.Wallet.settle_reply.Goals as goal

pub enter-requires-clause-fits : goal.enter-requires-clause-fits
enter-requires-clause-fits g c =
    let b = c.self.inside.book in
    let n = c.c.inside.number in
    let p = pending_view c.c.inside.request in
    let r = received_of c.c.inside.came.reply in
    let moment : IsMoment b.time = subst IsMoment c.time-moment.ensures c.seconds-seconds.ensures.last in
    let told : entry c.settled_entry-record.result ≡ settlement_with (texts_of b.holdings) b.time n p r = c.settled_entry-record.ensures ∙ ap (λ (t : ℕ). settlement_with (texts_of b.holdings) t n p r) c.time-moment.ensures in
    subst Fits (sym told) (settled_fits (texts_of b.holdings) b.time n p r moment c.c.invariant.2 c.c.invariant.0 c.c.invariant.1)

pub enter-requires-clause-now : goal.enter-requires-clause-now
enter-requires-clause-now g c = rw (← c.self.view_is) (
    let b = c.self.inside.book in
    let n = c.c.inside.number in
    let p = pending_view c.c.inside.request in
    let r = received_of c.c.inside.came.reply in
    ap (λ (e : Entry). moment_of e) c.settled_entry-record.ensures ∙ settled_now (texts_of b.holdings) c.time-moment.result n p r ∙ c.time-moment.ensures)

pub enter-requires-clause-may : goal.enter-requires-clause-may
enter-requires-clause-may g c = rw (← c.self.view_is) (λ h st.
    let b = c.self.inside.book in
    let n = c.c.inside.number in
    let p = pending_view c.c.inside.request in
    let r = received_of c.c.inside.came.reply in
    let kept : kept_in h n ≡ Some p = subst (λ (v : CheckedView). kept_in h v.number ≡ Some v.request) (sym c.c.view_is) ((rw (← c.self.view_is) at c.requires.kept) h st) in
    let moment : IsMoment b.time = subst IsMoment c.time-moment.ensures c.seconds-seconds.ensures.last in
    let told : entry c.settled_entry-record.result ≡ settlement h b.time n p r = c.settled_entry-record.ensures ∙ ap (λ (t : ℕ). settlement_with (texts_of b.holdings) t n p r) c.time-moment.ensures ∙ settled_here b h b.time n p r st.book in
    subst (WalletFollows h) (sym told) (settlement_enters b h n p r st.book moment c.c.invariant.2 kept c.c.invariant.1).follows)

pub returns-clause-exact : goal.returns-clause-exact
returns-clause-exact g c = rw (← c.self.view_is) (λ h st.
    let b = c.self.inside.book in
    let t = b.time in
    let n = c.c.inside.number in
    let p = pending_view c.c.inside.request in
    let r = received_of c.c.inside.came.reply in
    let told : entry c.settled_entry-record.result ≡ settlement h t n p r = c.settled_entry-record.ensures ∙ ap (λ (t : ℕ). settlement_with (texts_of b.holdings) t n p r) c.time-moment.ensures ∙ settled_here b h t n p r st.book in
    subst (λ (v : CheckedView). Performs g.D.Disk.disk (record { journal = c.self.inside.journal; book = c.self.inside.book }) h (Ok (settlement h t v.number v.request v.reply)) (λ (e : Entry) (s : Settlement). IsSettledAs v.request v.reply s) c.enter.result) c.c.view_is
    (performs_as g.D.Disk.disk (record { journal = c.self.inside.journal; book = c.self.inside.book }) h (entry c.settled_entry-record.result) (Ok (settlement h t n p r)) (λ (e : Entry) (s : Settlement). s ≡ c.settled_as-settled.result) (λ (e : Entry) (s : Settlement). IsSettledAs p r s) c.enter.result
    (ap (λ (e : Entry). Ok e) (sym told)) (λ s same. subst (λ (x : Settlement). IsSettledAs p r x) (sym same) c.settled_as-settled.ensures) ((rw (← c.self.view_is) at c.enter.ensures.exact) h st)))

pub returns-clause-told : goal.returns-clause-told
returns-clause-told g c =
    let p = pending_view c.c.inside.request in
    let r = received_of c.c.inside.came.reply in
    subst (λ (v : CheckedView). TellsOnly IsFull (λ (s : Settlement). IsSettledAs v.request v.reply s) c.enter.result) c.c.view_is
    (tells_more IsFull IsFull (λ (s : Settlement). s ≡ c.settled_as-settled.result) (λ (s : Settlement). IsSettledAs p r s) c.enter.result (λ f is. is) (λ s told. subst (λ (x : Settlement). IsSettledAs p r x) (sym told) c.settled_as-settled.ensures) c.enter.ensures.told)
