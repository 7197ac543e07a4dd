use Rattle.std.proofs.Common.{◌≡◌, ◌⊎◌, ◌∙◌, ℕ, List, take, ap, subst}
use Rattle.mc_outside.specs.LinkView.{LinkView, next_taken, none_left, after_send}
use Rattle.millicent_http.specs.Courses.{NoLink}
use Rattle.wallet_model.specs.Asks.{request_bytes}
use Rattle.wallet_book.specs.Book.{BookView}
use Rattle.wallet_book.specs.Kept.{kept_in}
use Rattle.wallet_core.specs.Rests.{wallet_keeps}
use Rattle.wallet_commands.specs.Causes.{ReadRefused, LinkRefused}
use Rattle.wallet_commands.specs.Payments.{SentPart}
use Rattle.wallet_commands.specs.Replies.{ReadsReply}
use Rattle.wallet_commands.proofs.CauseLemmas.{causes_from, none_linked, sent_so}
use Rattle.wallet_commands.proofs.BookLemmas.{stood}
use Rattle.wallet_commands.proofs.UseLemmas.{used_link, came_none, broke, written_bytes}
use Rattle.wallet_commands.proofs.settling.use_link.Goals as goal

pub settle_by_reply-requires-clause-kept : goal.settle_by_reply-requires-clause-kept
settle_by_reply-requires-clause-kept g c h st = c.requires.kept h (stood g.O.Disk.disk c.args.wallet c.send_request.new.k h (g.met.O.Outside.link_keeps _ _ c.send_request.ensures.moved.0) c.send_request.ensures.moved.1 st)

pub settle_by_reply-requires-clause-limits : goal.settle_by_reply-requires-clause-limits
settle_by_reply-requires-clause-limits g c = ap (λ (b : BookView). b.limits) c.send_request.ensures.moved.1.book ∙ c.requires.limits

pub returns-in-Ok-clause-causes : goal.returns-in-Ok-clause-causes
returns-in-Ok-clause-causes g c =
    let w = c.args.wallet.journal.disk in
    let y = c.send_request.new.k.journal.disk in
    let b = c.settle_by_reply.result.0 in
    let request : List ℕ = take c.in-Some.len c.request_bytes.new.out in
    let sent : g.O.Link.link y ≡ after_send request (next_taken (g.O.Link.link w)) = c.in-Ok.ensures.sent in
    causes_from ReadRefused LinkRefused g.O.Link.link g.O.Disk.disk w y b c.settle_by_reply.result.1
    (none_linked g.O.Link.link g.O.Disk.disk w y (g.met.O.Outside.link_keeps _ _ c.send_request.ensures.moved.0) (ap (λ (v : LinkView). v.faults) sent))
    (λ f why. sent_so f request (g.O.Link.link w) (g.O.Link.link b) (subst (λ (v : LinkView). ReadRefused f v (g.O.Link.link b)) sent why)) c.settle_by_reply.ensures.causes

pub returns-in-Err-NoLink-clause-causes : goal.returns-in-Err-NoLink-clause-causes
returns-in-Err-NoLink-clause-causes g c =
    let w = c.args.wallet.journal.disk in
    let y = c.send_request.new.k.journal.disk in
    let none : g.O.Link.link y ≡ none_left (g.O.Link.link w) = rw c.in-Err-NoLink.field-0-is at c.in-Err-NoLink.ensures.fault in
    rw c.close-in-Err-NoLink.ensures (none_linked g.O.Link.link g.O.Disk.disk w y (g.met.O.Outside.link_keeps _ _ c.send_request.ensures.moved.0) (ap (λ (v : LinkView). v.faults) none), none)

pub returns-in-Ok-clause-used : goal.returns-in-Ok-clause-used
returns-in-Ok-clause-used g c h p st kept =
    let w = c.args.wallet in
    let y = c.send_request.new.k in
    let keeps = g.met.O.Outside.link_keeps _ _ c.send_request.ensures.moved.0 in
    let rests = c.send_request.ensures.moved.1 in
    let cut = written_bytes (kept_in h c.args.number) p c.request_bytes.new.out c.in-Some.len kept (c.in-Some.ensures h st) in
    let sent : g.O.Link.link y.journal.disk ≡ after_send (request_bytes p) (next_taken (g.O.Link.link w.journal.disk)) =
    subst (λ (l : List ℕ). g.O.Link.link y.journal.disk ≡ after_send l (next_taken (g.O.Link.link w.journal.disk))) cut c.in-Ok.ensures.sent in
    let reads = subst (λ (b : BookView). ReadsReply c.args.saying.now g.O.Link.link g.O.Disk.disk h b.time c.args.number p y.journal.disk c.settle_by_reply.result.1 c.settle_by_reply.result.0) rests.book
    (c.settle_by_reply.ensures.read h p (wallet_keeps g.O.Disk.disk w y h st keeps rests) kept) in
    used_link c.args.saying.now g.O.Link.link g.O.Disk.disk h w.book.time c.args.number p g.met.O.Outside.sent_aside w y c.settle_by_reply.result.1 c.settle_by_reply.result.0 st keeps sent reads

pub returns-in-Err-NoLink-clause-used : goal.returns-in-Err-NoLink-clause-used
returns-in-Err-NoLink-clause-used g c h p st kept =
    let w = c.args.wallet in
    let y = c.send_request.new.k in
    let keeps = g.met.O.Outside.link_keeps _ _ c.send_request.ensures.moved.0 in
    let none : g.O.Link.link y.journal.disk ≡ none_left (g.O.Link.link w.journal.disk) = rw c.in-Err-NoLink.field-0-is at c.in-Err-NoLink.ensures.fault in
    rw c.close-in-Err-NoLink.ensures (came_none c.args.saying.now g.O.Link.link g.O.Disk.disk h w.book.time c.args.number p g.met.O.Outside.sent_aside w y st (wallet_keeps g.O.Disk.disk w y h st keeps c.send_request.ensures.moved.1) keeps none)

pub returns-clause-used : goal.returns-clause-used
returns-clause-used g c h p st kept =
    let w = c.args.wallet in
    let y = c.send_request.new.k in
    let keeps = g.met.O.Outside.link_keeps _ _ c.send_request.ensures.moved.0 in
    let cut = written_bytes (kept_in h c.args.number) p c.request_bytes.new.out c.in-Some.len kept (c.in-Some.ensures h st) in
    let lost : NoLink (g.O.Link.link w.journal.disk) (g.O.Link.link y.journal.disk) ⊎ SentPart (take c.in-Some.len c.request_bytes.new.out) (g.O.Link.link w.journal.disk) (g.O.Link.link y.journal.disk) = rw c.in-Err-Link.field-0-is at c.in-Err-Link.ensures.fault in
    let lost' = subst (λ (l : List ℕ). NoLink (g.O.Link.link w.journal.disk) (g.O.Link.link y.journal.disk) ⊎ SentPart l (g.O.Link.link w.journal.disk) (g.O.Link.link y.journal.disk)) cut lost in
    rw c.close-in-Err-Link.ensures (broke c.args.saying.now g.O.Link.link g.O.Disk.disk h w.book.time c.args.number p g.met.O.Outside.sent_aside w y st (wallet_keeps g.O.Disk.disk w y h st keeps c.send_request.ensures.moved.1) keeps lost')
