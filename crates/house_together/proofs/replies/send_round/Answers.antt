use Rattle.std.proofs.Common.{◌++◌, ◌∷◌, [], List, take, drop, length, get_or, sym, subst, ◌+◌}
use Rattle.std.proofs.lemmas.List.{drop_more, take_more}
use Rattle.millicent_http.specs.declared.item.After.TheVariants.{GoOn}
use Rattle.scrip_journal.specs.Batches.{batch_rests_then}
use Rattle.house_together.specs.declared.replies.Due.{Due}
use Rattle.house_together.specs.Replying.{RepliesRound, AreDue}
use Rattle.house_together.proofs.ReplyingLemmas.{due_next, replies_more}
use Rattle.house_together.proofs.replies.send_round.Goals as goal

pub loop-due-preserved : goal.loop-due-preserved
loop-due-preserved g c =
    let slots = g.O.Slots.slots in
    let disk = g.O.Disk.disk in
    let i = c.loop-due.due-index in
    let ds = c.args.dues.now in
    let none : Due = record { slot = 0; from = 0; to = 0; after = GoOn } in
    let d = get_or ds i none in
    let a = c.loop-due.batch.disk in
    let b = c.reply_due-turn.new.batch.disk in
    let size = length c.args.out.now in
    let due : AreDue (slots a) size (d ∷ drop (i + 1) ds) = subst (λ (l : List Due). AreDue (slots a) size l) (drop_more ds i none c.loop-due-test.true) c.loop-due.invariant.due in
    let so = c.loop-due.invariant.replied in
    let turns = so.0 ++ c.reply_due-turn.result ∷ [] in
    record {
      rests = batch_rests_then _ _ _ c.loop-due.invariant.rests c.reply_due-turn.ensures.rests;
      replied = (
        turns,
        subst (λ (l : List Due). RepliesRound slots disk c.args.out.now l turns c.args.batch.now.disk b) (sym (take_more ds i none c.loop-due-test.true))
            (replies_more slots disk c.args.out.now (take i ds) so.0 d c.reply_due-turn.result c.args.batch.now.disk a b so.1 c.reply_due-turn.ensures.replied),
      );
      due = due_next slots disk a b size d (drop (i + 1) ds) _ c.reply_due-turn.result due c.reply_due-turn.ensures.replied;
    }
