use Rattle.std.proofs.Common.{◌≡◌, ◌∙◌, inl, refl, ap, subst, Ok, Err}
use Rattle.std.specs.Prelude.{Result}
use Rattle.mc_requests.specs.declared.refusal.Refusal.TheVariants as refusals
use Rattle.reply_reader.specs.declared.reply.ReplyRef.{ReplyRef}
use Rattle.reply_reader.specs.declared.reply.ReplyFault.{ReplyFault}
use Rattle.reply_reader.specs.declared.reply.ReplyFault.TheVariants as replies
use Rattle.reply_reader.specs.Seen.{received_of, taken_of}
use Rattle.reply_reader.specs.Takes.{TookReply}
use Rattle.command_status.specs.declared.status.Status.TheVariants as ends
use Rattle.wallet_book.specs.Book.{BookView}
use Rattle.wallet_core.specs.Rests.{wallet_keeps}
use Rattle.wallet_commands.specs.Causes.{CheckRefused, ReadRefused}
use Rattle.wallet_commands.specs.Replies.{EndsReply}
use Rattle.wallet_commands.proofs.CauseLemmas.{causes_from, none_linked, read_so}
use Rattle.wallet_commands.proofs.BookLemmas.{stood}
use Rattle.wallet_core.proofs.DiskLemmas.{on_disk}
use Rattle.wallet_commands.proofs.UseLemmas.{took_counts, took_rose, read_reply, no_reply}
use Rattle.wallet_commands.proofs.settling.settle_by_reply.Goals as goal

pub settle-requires-clause-kept : goal.settle-requires-clause-kept
settle-requires-clause-kept g c h st = c.requires.kept h (stood g.O.Disk.disk c.args.wallet c.take.new.k h (g.met.O.Outside.link_keeps _ _ c.take.ensures.moved.0) c.take.ensures.moved.1 st)

pub settle-requires-clause-limits : goal.settle-requires-clause-limits
settle-requires-clause-limits g c = ap (λ (b : BookView). b.limits) c.take.ensures.moved.1.book ∙ c.requires.limits

pub returns-in-Ok-clause-causes : goal.returns-in-Ok-clause-causes
returns-in-Ok-clause-causes g c =
    let a = c.args.wallet.journal.disk in
    let m = c.take.new.k.journal.disk in
    let took : TookReply (g.O.Link.link a) (Ok (received_of c.in-Ok.reply)) (g.O.Link.link m) = subst (λ (r : Result ReplyRef ReplyFault). TookReply (g.O.Link.link a) (taken_of r) (g.O.Link.link m)) c.in-Ok.is c.take.follows.holds-at-none in
    causes_from (CheckRefused (received_of c.in-Ok.reply)) ReadRefused g.O.Link.link g.O.Disk.disk a m c.settle.result.0 c.settle.result.1
    (none_linked g.O.Link.link g.O.Disk.disk a m (g.met.O.Outside.link_keeps _ _ c.take.ensures.moved.0) (took_counts (g.O.Link.link a) (g.O.Link.link m) (Ok (received_of c.in-Ok.reply)) took (λ e. cc e)))
    (λ f why. read_so f (g.O.Link.link a) (g.O.Link.link c.settle.result.0) (received_of c.in-Ok.reply, g.O.Link.link m, took, why)) c.settle.ensures.causes

pub returns-in-Ok-clause-read : goal.returns-in-Ok-clause-read
returns-in-Ok-clause-read g c h p st kept =
    let w = c.args.wallet in
    let y = c.take.new.k in
    let keeps = g.met.O.Outside.link_keeps _ _ c.take.ensures.moved.0 in
    let rests = c.take.ensures.moved.1 in
    let took : TookReply (g.O.Link.link w.journal.disk) (Ok (received_of c.in-Ok.reply)) (g.O.Link.link y.journal.disk) = subst (λ (r : Result ReplyRef ReplyFault). TookReply (g.O.Link.link w.journal.disk) (taken_of r) (g.O.Link.link y.journal.disk)) c.in-Ok.is c.take.follows.holds-at-none in
    let ended = subst (λ (b : BookView). EndsReply c.args.saying.now g.O.Link.link g.O.Disk.disk h b.time c.args.number p (received_of c.in-Ok.reply) y.journal.disk c.settle.result.1 c.settle.result.0) rests.book
    (c.settle.ensures.ended h p (wallet_keeps g.O.Disk.disk w y h st keeps rests) kept) in
    read_reply c.args.saying.now g.O.Link.link g.O.Disk.disk h c.args.number p g.met.O.Outside.sent_aside w.book.time (received_of c.in-Ok.reply) w y c.settle.result.1 c.settle.result.0 st keeps took ended

pub returns-in-Err-NoReply-clause-causes : goal.returns-in-Err-NoReply-clause-causes
returns-in-Err-NoReply-clause-causes g c =
    let a = c.args.wallet.journal.disk in
    let m = c.take.new.k.journal.disk in
    let is : c.take.result ≡ Err replies.NoReply = c.in-Err-NoReply.is ∙ ap (λ (f : ReplyFault). Err f) c.in-Err-NoReply.field-0-is in
    let took : TookReply (g.O.Link.link a) (Err replies.NoReply) (g.O.Link.link m) = subst (λ (r : Result ReplyRef ReplyFault). TookReply (g.O.Link.link a) (taken_of r) (g.O.Link.link m)) is c.take.follows.holds-at-none in
    rw c.close.ensures (none_linked g.O.Link.link g.O.Disk.disk a m (g.met.O.Outside.link_keeps _ _ c.take.ensures.moved.0) (took_counts (g.O.Link.link a) (g.O.Link.link m) (Err replies.NoReply) took (λ e. cc e)), took)

pub returns-in-Err-NoReply-clause-read : goal.returns-in-Err-NoReply-clause-read
returns-in-Err-NoReply-clause-read g c h p st kept =
    let w = c.args.wallet in
    let y = c.take.new.k in
    let keeps = g.met.O.Outside.link_keeps _ _ c.take.ensures.moved.0 in
    let is : c.take.result ≡ Err replies.NoReply = c.in-Err-NoReply.is ∙ ap (λ (f : ReplyFault). Err f) c.in-Err-NoReply.field-0-is in
    let took : TookReply (g.O.Link.link w.journal.disk) (Err replies.NoReply) (g.O.Link.link y.journal.disk) = subst (λ (r : Result ReplyRef ReplyFault). TookReply (g.O.Link.link w.journal.disk) (taken_of r) (g.O.Link.link y.journal.disk)) is c.take.follows.holds-at-none in
    let now = wallet_keeps g.O.Disk.disk w y h st keeps c.take.ensures.moved.1 in
    rw c.close.ensures (no_reply c.args.saying.now g.O.Link.link g.O.Disk.disk h c.args.number p g.met.O.Outside.sent_aside w.book.time replies.NoReply w y (ends.Refused refusals.NoReply) st now keeps took (refl, on_disk g.O.Disk.disk y h now, refl))

pub returns-in-Err-BadReply-clause-causes : goal.returns-in-Err-BadReply-clause-causes
returns-in-Err-BadReply-clause-causes g c =
    let a = c.args.wallet.journal.disk in
    let m = c.take.new.k.journal.disk in
    let is : c.take.result ≡ Err replies.BadReply = c.in-Err-BadReply.is ∙ ap (λ (f : ReplyFault). Err f) c.in-Err-BadReply.field-0-is in
    let took : TookReply (g.O.Link.link a) (Err replies.BadReply) (g.O.Link.link m) = subst (λ (r : Result ReplyRef ReplyFault). TookReply (g.O.Link.link a) (taken_of r) (g.O.Link.link m)) is c.take.follows.holds-at-none in
    rw c.close-in-Err-BadReply.ensures (none_linked g.O.Link.link g.O.Disk.disk a m (g.met.O.Outside.link_keeps _ _ c.take.ensures.moved.0) (took_counts (g.O.Link.link a) (g.O.Link.link m) (Err replies.BadReply) took (λ e. cc e)), inl took)

pub returns-in-Err-BadReply-clause-read : goal.returns-in-Err-BadReply-clause-read
returns-in-Err-BadReply-clause-read g c h p st kept =
    let w = c.args.wallet in
    let y = c.take.new.k in
    let keeps = g.met.O.Outside.link_keeps _ _ c.take.ensures.moved.0 in
    let is : c.take.result ≡ Err replies.BadReply = c.in-Err-BadReply.is ∙ ap (λ (f : ReplyFault). Err f) c.in-Err-BadReply.field-0-is in
    let took : TookReply (g.O.Link.link w.journal.disk) (Err replies.BadReply) (g.O.Link.link y.journal.disk) = subst (λ (r : Result ReplyRef ReplyFault). TookReply (g.O.Link.link w.journal.disk) (taken_of r) (g.O.Link.link y.journal.disk)) is c.take.follows.holds-at-none in
    let now = wallet_keeps g.O.Disk.disk w y h st keeps c.take.ensures.moved.1 in
    rw c.close-in-Err-BadReply.ensures (no_reply c.args.saying.now g.O.Link.link g.O.Disk.disk h c.args.number p g.met.O.Outside.sent_aside w.book.time replies.BadReply w y (ends.Refused refusals.BadReply) st now keeps took (refl, on_disk g.O.Disk.disk y h now, refl))

pub returns-clause-causes : goal.returns-clause-causes
returns-clause-causes g c =
    let a = c.args.wallet.journal.disk in
    let m = c.take.new.k.journal.disk in
    let is : c.take.result ≡ Err replies.Fault = c.in-Err-Fault.is ∙ ap (λ (f : ReplyFault). Err f) c.in-Err-Fault.field-0-is in
    let took : TookReply (g.O.Link.link a) (Err replies.Fault) (g.O.Link.link m) = subst (λ (r : Result ReplyRef ReplyFault). TookReply (g.O.Link.link a) (taken_of r) (g.O.Link.link m)) is c.take.follows.holds-at-none in
    rw c.close-in-Err-Fault.ensures (record { disk' = (g.met.O.Outside.link_keeps _ _ c.take.ensures.moved.0).faults; link' = took_rose (g.O.Link.link a) (g.O.Link.link m) took })

pub returns-clause-read : goal.returns-clause-read
returns-clause-read g c h p st kept =
    let w = c.args.wallet in
    let y = c.take.new.k in
    let keeps = g.met.O.Outside.link_keeps _ _ c.take.ensures.moved.0 in
    let is : c.take.result ≡ Err replies.Fault = c.in-Err-Fault.is ∙ ap (λ (f : ReplyFault). Err f) c.in-Err-Fault.field-0-is in
    let took : TookReply (g.O.Link.link w.journal.disk) (Err replies.Fault) (g.O.Link.link y.journal.disk) = subst (λ (r : Result ReplyRef ReplyFault). TookReply (g.O.Link.link w.journal.disk) (taken_of r) (g.O.Link.link y.journal.disk)) is c.take.follows.holds-at-none in
    let now = wallet_keeps g.O.Disk.disk w y h st keeps c.take.ensures.moved.1 in
    rw c.close-in-Err-Fault.ensures (no_reply c.args.saying.now g.O.Link.link g.O.Disk.disk h c.args.number p g.met.O.Outside.sent_aside w.book.time replies.Fault w y ends.LinkFault st now keeps took (refl, on_disk g.O.Disk.disk y h now, refl))
