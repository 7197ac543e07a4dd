use Rattle.std.proofs.Common.{◌≡◌, ◌∙◌, inl, inr, ℕ, List, refl, sym, ap, subst}
use Rattle.mc_outside.specs.LinkView.{LinkView}
use Rattle.mc_requests.specs.declared.refusal.Refusal.{Refusal}
use Rattle.ledger_model.specs.Histories.{History}
use Rattle.millicent_http.specs.Inputs.{IsInput, LostInput}
use Rattle.command_status.specs.declared.status.Status.TheVariants as ends
use Rattle.wallet_book.specs.Book.{BookView}
use Rattle.wallet_core.specs.Rests.{wallet_keeps}
use Rattle.wallet_core.specs.Wallet.{WalletStands}
use Rattle.wallet_core.specs.Answers.{MayTake}
use Rattle.wallet_core.specs.Outcomes.{outcome_disk}
use Rattle.wallet_commands.specs.Causes.{OnlyClocked, RefusedBy}
use Rattle.wallet_commands.specs.Taking.{taken_status}
use Rattle.wallet_commands.specs.Lines.{taken_line}
use Rattle.wallet_commands.specs.declared.taking.TheConstants.{MOST_LINES}
use Rattle.millicent_http.proofs.InputLemmas.{lost_rose, input_counts}
use Rattle.millicent_http.proofs.AsideLemmas.{no_more_still, lost_quiet}
use Rattle.wallet_commands.proofs.CauseLemmas.{causes_from, none_linked, none_then, taken_so, outcome_causes}
use Rattle.wallet_commands.proofs.TakeLemmas.{unread, took}
use Rattle.wallet_commands.proofs.taking.take_input.Goals as goal

pub returns-in_default-clause-took : goal.returns-in_default-clause-took
returns-in_default-clause-took g c a x at =
    let w = c.args.wallet in
    rw c.close.ensures (inl (unread g.O.Link.link g.O.Disk.disk x a w g.met.O.Outside.sent_aside at w ends.NoMemory at.opened.wallet (g.met.O.Outside.link_keeps _ _ (g.met.O.Link.link_stays w.journal.disk))
    (no_more_still (g.O.Link.link w.journal.disk) (g.O.Link.link w.journal.disk) refl) (inr (refl, refl))))

pub returns-in-Err-NoMemory-clause-took : goal.returns-in-Err-NoMemory-clause-took
returns-in-Err-NoMemory-clause-took g c a x at =
    let w = c.args.wallet in
    let m = c.input_of.new.k in
    let keeps = g.met.O.Outside.link_keeps _ _ c.input_of.ensures.moved.0 in
    let same : g.O.Link.link m.journal.disk ≡ g.O.Link.link w.journal.disk = rw c.in-Err-NoMemory.field-0-is at c.in-Err-NoMemory.ensures.fault in
    rw c.close-in-Err-NoMemory.ensures (inl (unread g.O.Link.link g.O.Disk.disk x a w g.met.O.Outside.sent_aside at m ends.NoMemory (wallet_keeps g.O.Disk.disk w m at.opened.history at.opened.wallet keeps c.input_of.ensures.moved.1) keeps
    (no_more_still (g.O.Link.link w.journal.disk) (g.O.Link.link m.journal.disk) (ap (λ (v : LinkView). v.sessions) same)) (inr (refl, same))))

pub returns-in-Err-Link-clause-causes : goal.returns-in-Err-Link-clause-causes
returns-in-Err-Link-clause-causes g c =
    let w = c.args.wallet in
    let m = c.input_of.new.k in
    let keeps = g.met.O.Outside.link_keeps _ _ c.input_of.ensures.moved.0 in
    let lost : LostInput (g.O.Link.link w.journal.disk) (g.O.Link.link m.journal.disk) = rw c.in-Err-Link.field-0-is at c.in-Err-Link.ensures.fault in
    rw c.close-in-Err-Link.ensures (record { disk' = keeps.faults; link' = lost_rose (g.O.Link.link w.journal.disk) (g.O.Link.link m.journal.disk) lost })

pub returns-in-Err-Link-clause-took : goal.returns-in-Err-Link-clause-took
returns-in-Err-Link-clause-took g c a x at =
    let w = c.args.wallet in
    let m = c.input_of.new.k in
    let keeps = g.met.O.Outside.link_keeps _ _ c.input_of.ensures.moved.0 in
    let lost : LostInput (g.O.Link.link w.journal.disk) (g.O.Link.link m.journal.disk) = rw c.in-Err-Link.field-0-is at c.in-Err-Link.ensures.fault in
    rw c.close-in-Err-Link.ensures (inl (unread g.O.Link.link g.O.Disk.disk x a w g.met.O.Outside.sent_aside at m ends.LinkFault (wallet_keeps g.O.Disk.disk w m at.opened.history at.opened.wallet keeps c.input_of.ensures.moved.1) keeps
    (lost_quiet (g.O.Link.link w.journal.disk) (g.O.Link.link m.journal.disk) lost) (inl (refl, lost))))

pub returns-clause-causes : goal.returns-clause-causes
returns-clause-causes g c =
    let w = c.args.wallet in
    let m = c.input_of.new.k in
    let y = c.raise_by_clock-reading.new.wallet in
    let input : IsInput MOST_LINES (g.O.Link.link w.journal.disk) c.in-Ok-input_of.input.items (g.O.Link.link m.journal.disk) = c.in-Ok-input_of.ensures.read in
    let first = none_linked g.O.Link.link g.O.Disk.disk w.journal.disk m.journal.disk (g.met.O.Outside.link_keeps _ _ c.input_of.ensures.moved.0) (input_counts MOST_LINES (g.O.Link.link w.journal.disk) (g.O.Link.link m.journal.disk) c.in-Ok-input_of.input.items input) in
    let second = none_linked g.O.Link.link g.O.Disk.disk m.journal.disk y.journal.disk (g.met.O.Outside.link_keeps _ _ c.raise_by_clock-reading.ensures.moved) (ap (λ (v : LinkView). v.faults) c.raise_by_clock-reading.ensures.rest) in
    let b = outcome_disk c.take.result in
    rw (c.taken.ensures.out, c.taken.ensures.status)
    (causes_from (λ (f : Refusal) (u v : LinkView). MayTake f × (v ≡ u)) RefusedBy g.O.Link.link g.O.Disk.disk w.journal.disk y.journal.disk b (taken_status c.take.result) (none_then g.O.Link.link g.O.Disk.disk w.journal.disk m.journal.disk y.journal.disk first second)
    (λ f why. taken_so f (g.O.Link.link w.journal.disk) (g.O.Link.link b)
    (c.in-Ok-input_of.input.items, g.O.Link.link m.journal.disk, input, subst (λ (v : LinkView). OnlyClocked (g.O.Link.link m.journal.disk) v) (sym why.1) c.raise_by_clock-reading.ensures.rest) why.0)
    (outcome_causes MayTake taken_line g.O.Link.link g.O.Disk.disk y.journal.disk c.take.result c.take.ensures.back.counts (g.met.O.Outside.disk_keeps _ _ c.take.ensures.back.moved') c.take.ensures.refused))

pub returns-clause-took : goal.returns-clause-took
returns-clause-took g c a x at =
    let w = c.args.wallet in
    let m = c.input_of.new.k in
    let y = c.raise_by_clock-reading.new.wallet in
    let raised = c.raise_by_clock-reading.ensures in
    let h : History = at.opened.history in
    let kept_so_far = g.met.O.Outside.link_keeps _ _ c.input_of.ensures.moved.0 in
    let both = g.met.O.Outside.link_keeps _ _ (g.met.O.Link.link_goes_on _ _ _ c.input_of.ensures.moved.0 raised.moved) in
    let st : WalletStands g.O.Disk.disk y h = raised.stands h (wallet_keeps g.O.Disk.disk w m h at.opened.wallet kept_so_far c.input_of.ensures.moved.1) in
    let takes : IsInput MOST_LINES (g.O.Link.link w.journal.disk) c.deref.result.now (g.O.Link.link m.journal.disk) =
    subst (λ (l : List ℕ). IsInput MOST_LINES (g.O.Link.link w.journal.disk) l (g.O.Link.link m.journal.disk)) (sym c.deref.ensures.value) c.in-Ok-input_of.ensures.read in
    let done = c.take.ensures.exact h st in
    rw (c.taken.ensures.out, c.taken.ensures.status)
    (inr (took g.O.Link.link g.O.Disk.disk x a w g.met.O.Outside.sent_aside at m y c.deref.result.now c.raise_by_clock-reading.result c.take.result g.met.O.Disk.is_disk
    (raised.limits ∙ ap (λ (b : BookView). b.limits) c.input_of.ensures.moved.1.book ∙ c.requires) (ap (λ (b : BookView). b.time) c.input_of.ensures.moved.1.book) takes both st raised.time raised.rest raised.read
    (g.met.O.Outside.disk_keeps _ _ c.take.ensures.back.moved') done.adds done.ran))
