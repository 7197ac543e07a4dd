use Rattle.std.proofs.Common.{◌≡◌, ◌∙◌, ℕ, List, length, refl, sym, ap, subst, Some, option_map, Ok}
use Rattle.mc_outside.specs.LinkView.{LinkView}
use Rattle.mc_requests.specs.declared.refusal.Refusal.{Refusal}
use Rattle.reply_reader.specs.Seen.{received_of}
use Rattle.millicent_http.specs.Received.{Received}
use Rattle.wallet_model.specs.Requests.{Pending}
use Rattle.wallet_model.specs.Settling.{check_of, settlement}
use Rattle.wallet_core.specs.Settled.{IsSettledAs}
use Rattle.wallet_book.specs.Book.{BookView}
use Rattle.wallet_book.specs.Kept.{kept_in}
use Rattle.wallet_core.specs.Wallet.{WalletStands}
use Rattle.wallet_core.specs.Rests.{wallet_keeps}
use Rattle.wallet_core.specs.Checking.{CheckedView}
use Rattle.wallet_core.specs.Outcomes.{outcome_disk, Performs}
use Rattle.wallet_commands.specs.Causes.{SettleRefused, CheckRefused, CausesBy}
use Rattle.wallet_commands.specs.Saying.{said_as, IsSaid, IsSaidInPart}
use Rattle.wallet_commands.specs.Replies.{settled_status, EndsReply}
use Rattle.wallet_commands.proofs.CauseLemmas.{causes_from, none_linked, settle_check, checked_so}
use Rattle.wallet_commands.proofs.BookLemmas.{stood}
use Rattle.wallet_commands.proofs.SettleLemmas.{passed, refused_reply, said_less, settled_reply, settled_causes}
use Rattle.wallet_commands.proofs.settling.settle.Goals as goal

pub returns-in-Err-clause-causes : goal.returns-in-Err-clause-causes
returns-in-Err-clause-causes g c =
    rw c.close.ensures (record { disk' = refl; link' = refl }, checked_so (received_of c.args.reply.now) c.in-Err.refusal (g.O.Link.link c.args.wallet.journal.disk) c.in-Err.ensures.refused)

pub returns-in-Err-clause-ended : goal.returns-in-Err-clause-ended
returns-in-Err-clause-ended g c h p st kept =
    rw c.close.ensures (refused_reply c.args.saying.now g.O.Link.link g.O.Disk.disk h c.args.wallet.book.time c.args.number p (received_of c.args.reply.now) c.in-Err.refusal c.args.wallet (g.met.O.Disk.is_disk c.args.wallet.journal.disk) (c.in-Err.ensures.exact h p st kept) st)

pub settle_reply-requires : goal.settle_reply-requires
settle_reply-requires g c = record {
  kept = λ h st.
      let w = c.args.wallet in
      let y = c.say_all.new.k in
      let back = stood g.O.Disk.disk w y h (g.met.O.Outside.link_keeps _ _ c.say_all.ensures.moved.0) c.say_all.ensures.moved.1 st in
      let k = c.requires.kept h back in
      let same = (passed (check_of k.0 (received_of c.args.reply.now)) c.args.number k.0 (received_of c.args.reply.now) c.in-Ok.checked (c.in-Ok.ensures.exact h k.0 back k.1)).1 in
      subst (λ (v : CheckedView). kept_in h v.number ≡ Some v.request) (sym same) k.1;
}

pub returns-in-Ok-say_all-clause-causes : goal.returns-in-Ok-say_all-clause-causes
returns-in-Ok-say_all-clause-causes g c =
    let k = c.args.saying.now in
    let count = c.piece_count-count.result in
    let w = c.args.wallet in
    let y = c.say_all.new.k in
    let p : Pending = c.in-Ok.checked.request in
    let r : Received = c.in-Ok.checked.reply in
    let out = c.settle_reply.result in
    let causes : CausesBy (CheckRefused r) g.O.Link.link g.O.Disk.disk w.journal.disk (settled_status k count out) (outcome_disk out) =
    causes_from (λ (f : Refusal) (u v : LinkView). SettleRefused r f) (CheckRefused r) g.O.Link.link g.O.Disk.disk w.journal.disk y.journal.disk (outcome_disk out) (settled_status k count out)
    (none_linked g.O.Link.link g.O.Disk.disk w.journal.disk y.journal.disk (g.met.O.Outside.link_keeps _ _ c.say_all.ensures.moved.0) (ap (λ (v : LinkView). v.faults) c.in-Ok-say_all.ensures.said))
    (λ f why. settle_check r f (g.O.Link.link w.journal.disk) (g.O.Link.link (outcome_disk out)) why)
    (settled_causes k count g.O.Link.link g.O.Disk.disk y.journal.disk p r out c.settle_reply.ensures.back.counts (g.met.O.Outside.disk_keeps _ _ c.settle_reply.ensures.back.moved') c.settle_reply.ensures.told) in
    rw (c.settled.ensures.out, c.settled.ensures.status)
    (subst (λ (q : Received). CausesBy (CheckRefused q) g.O.Link.link g.O.Disk.disk w.journal.disk (settled_status k count out) (outcome_disk out)) c.in-Ok.ensures.reply causes)

pub returns-in-Ok-say_all-clause-ended : goal.returns-in-Ok-say_all-clause-ended
returns-in-Ok-say_all-clause-ended g c h p st kept =
    let k = c.args.saying.now in
    let w = c.args.wallet in
    let y = c.say_all.new.k in
    let r : Received = received_of c.args.reply.now in
    let out = c.settle_reply.result in
    let keeps = g.met.O.Outside.link_keeps _ _ c.say_all.ensures.moved.0 in
    let rests = c.say_all.ensures.moved.1 in
    let checked = passed (check_of p r) c.args.number p r c.in-Ok.checked (c.in-Ok.ensures.exact h p st kept) in
    let now : WalletStands g.O.Disk.disk y h = wallet_keeps g.O.Disk.disk w y h st keeps rests in
    let done = subst (λ (v : CheckedView). Performs g.O.Disk.disk y h (Ok (settlement h y.book.time v.number v.request v.reply)) (λ e s. IsSettledAs v.request v.reply s) out) checked.1 (c.settle_reply.ensures.exact h now) in
    let kind : c.kept_kind.result ≡ Some p.ask = sym (c.kept_kind.ensures h st) ∙ ap (option_map (λ (q : Pending). q.ask)) kept in
    let said : IsSaid (said_as k p r) (g.O.Link.link w.journal.disk) (g.O.Link.link y.journal.disk) =
    subst (λ (l : List ℕ). IsSaid l (g.O.Link.link w.journal.disk) (g.O.Link.link y.journal.disk)) (c.said_first-contents.ensures p kind) c.in-Ok-say_all.ensures.said in
    let limits = ap (λ (b : BookView). b.limits) rests.book ∙ c.requires.limits in
    let stood_before : c.piece_count-count.result ≡ length y.book.holdings = c.piece_count-count.ensures in
    let ended : EndsReply k g.O.Link.link g.O.Disk.disk h y.book.time c.args.number p r w.journal.disk (settled_status k (length y.book.holdings) out) (outcome_disk out) =
    settled_reply g.O.Link.link g.O.Disk.disk h c.args.number p r k w y out g.met.O.Outside.sent_aside g.met.O.Disk.is_disk checked.0 limits st now keeps said (g.met.O.Outside.disk_keeps _ _ c.settle_reply.ensures.back.moved') done.adds done.ran in
    rw (c.settled.ensures.out, c.settled.ensures.status) (subst (λ (i : ℕ). EndsReply k g.O.Link.link g.O.Disk.disk h w.book.time c.args.number p r w.journal.disk (settled_status k i out) (outcome_disk out)) (sym stood_before)
    (subst (λ (b : BookView). EndsReply k g.O.Link.link g.O.Disk.disk h b.time c.args.number p r w.journal.disk (settled_status k (length y.book.holdings) out) (outcome_disk out)) rests.book ended))

pub returns-in-Err-say_all-clause-causes : goal.returns-in-Err-say_all-clause-causes
returns-in-Err-say_all-clause-causes g c =
    let failed = c.in-Err-say_all.ensures.failed in
    rw c.close-in-Err-say_all.ensures (record { disk' = (g.met.O.Outside.link_keeps _ _ c.say_all.ensures.moved.0).faults; link' = failed.rose })

pub returns-in-Err-say_all-clause-ended : goal.returns-in-Err-say_all-clause-ended
returns-in-Err-say_all-clause-ended g c h p st kept =
    let k = c.args.saying.now in
    let w = c.args.wallet in
    let y = c.say_all.new.k in
    let r : Received = received_of c.args.reply.now in
    let keeps = g.met.O.Outside.link_keeps _ _ c.say_all.ensures.moved.0 in
    let checked = passed (check_of p r) c.args.number p r c.in-Ok.checked (c.in-Ok.ensures.exact h p st kept) in
    let kind : c.kept_kind.result ≡ Some p.ask = sym (c.kept_kind.ensures h st) ∙ ap (option_map (λ (q : Pending). q.ask)) kept in
    let said : IsSaidInPart (said_as k p r) (g.O.Link.link w.journal.disk) (g.O.Link.link y.journal.disk) =
    subst (λ (l : List ℕ). IsSaidInPart l (g.O.Link.link w.journal.disk) (g.O.Link.link y.journal.disk)) (c.said_first-contents.ensures p kind) c.in-Err-say_all.ensures.failed in
    rw c.close-in-Err-say_all.ensures (said_less c.args.saying.now g.O.Link.link g.O.Disk.disk h w.book.time c.args.number p r w y g.met.O.Outside.sent_aside checked.0 st (wallet_keeps g.O.Disk.disk w y h st keeps c.say_all.ensures.moved.1) keeps said)
