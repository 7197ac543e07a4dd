use Rattle.std.proofs.Common.{◌≡◌, ◌∙◌, Bool, ◌≤◌, inl, inr, ℕ, List, refl, sym, subst, arith, Some, None, Ok}
use Rattle.std.specs.Prelude.{IsTrue}
use Rattle.mc_outside.specs.Bytes.{Rose}
use Rattle.mc_outside.specs.LinkView.{LinkView}
use Rattle.mc_requests.specs.declared.refusal.Refusal.TheVariants.{DiskFault, NoMemory}
use Rattle.reply_reader.specs.Seen.{received_of}
use Rattle.millicent_http.specs.Received.{Received}
use Rattle.wallet_model.specs.Settling.{check_of, settlement}
use Rattle.wallet_core.specs.Settled.{IsSettledAs}
use Rattle.wallet_book.specs.Kept.{kept_in}
use Rattle.wallet_core.specs.declared.outcome.WalletOut.TheVariants as outs
use Rattle.wallet_core.specs.Checking.{CheckedView}
use Rattle.wallet_core.specs.Outcomes.{Performs}
use Rattle.link_turns.specs.Sending.{Sends}
use Rattle.link_turns.specs.Turns.{Sent}
use Rattle.wallet_proxy.specs.Told.{refusal, told_reply}
use Rattle.wallet_proxy.specs.Proxy.{settled_told}
use Rattle.wallet_proxy.proofs.StepLaws.{paid_few}
use Rattle.link_turns.proofs.ItemLemmas.{sends_so}
use Rattle.wallet_proxy.proofs.SettleLemmas.{passed, not_passed, piece_there, settle_not, settle_done, settle_halts}
use Rattle.wallet_proxy.proofs.settling.settle.Goals as goal

pub returns-in-Err-clause-settled : goal.returns-in-Err-clause-settled
returns-in-Err-clause-settled g c h p up budget st kept can =
    let w = c.args.wallet in
    let z = c.refuse.result.0 in
    let r : Received = received_of c.args.reply.now in
    let is : check_of p r ≡ Some c.in-Err.refusal = not_passed (check_of p r) c.args.number p r c.in-Err.refusal (c.in-Err.ensures.exact h p st kept) in
    settle_not g.O.Link.link g.O.Disk.disk g.met.O.Outside.sent_aside budget c.args.after h c.args.number p r w c.args.paid.now up st kept can w z c.refuse.result.1 (refusal c.in-Err.refusal) (Some c.in-Err.refusal) is (refl, refl)
    (record { stands = st; journal' = refl; time' = refl })
    (record {
      is_link = g.met.O.Link.is_link w.journal.disk;
      standing = c.requires.stands;
      keeps = g.met.O.Outside.link_keeps _ _ c.refuse.ensures.moved;
      goes = g.met.O.Link.link_goes _ _ c.refuse.ensures.moved;
      rests = c.refuse.ensures.rests;
    }) c.refuse.ensures.sent

pub settle_reply-requires : goal.settle_reply-requires
settle_reply-requires g c = record {
  kept = λ h st.
      let r : Received = received_of c.args.reply.now in
      let k = c.requires.kept h st in
      let same = (passed (check_of k.0 r) c.args.number k.0 r c.in-Ok.checked (c.in-Ok.ensures.exact h k.0 st k.1)).1 in
      subst (λ (v : CheckedView). kept_in h v.number ≡ Some v.request) (sym same) k.1;
}

pub returns-in-Done-clause-settled : goal.returns-in-Done-clause-settled
returns-in-Done-clause-settled g c h p up budget st kept can =
    let w = c.args.wallet in
    let y = c.in-Done.wallet in
    let z = c.tell_settled.result.0 in
    let r : Received = received_of c.args.reply.now in
    let pass = passed (check_of p r) c.args.number p r c.in-Ok.checked (c.in-Ok.ensures.exact h p st kept) in
    let moved = c.in-Done.ensures.back.moved' in
    let same = g.met.O.Outside.disk_keeps _ _ moved in
    let done = subst (λ (v : CheckedView). Performs g.O.Disk.disk w h (Ok (settlement h w.book.time v.number v.request v.reply)) (λ e s. IsSettledAs v.request v.reply s) (outs.Done y c.in-Done.settled)) pass.1 (c.in-Done.ensures.exact h st) in
    let few = paid_few p r (piece_there h c.args.number p w.book st.book kept can.get) pass.0 in
    let told = c.tell_settled.ensures.told p can.get done.adds.1 (omega (arith, few, can.within, can.few)) in
    settle_done g.O.Link.link g.O.Disk.disk g.met.O.Outside.sent_aside budget c.args.after h c.args.number p r w c.args.paid.now up st kept can y z c.tell_settled.result.1 (settled_told r) c.tell_settled.new.paid pass.0 refl told.more done.adds.0 done.ran
    (record { quiet = (g.met.O.Disk.disk_goes _ _ moved).aside; calm = c.in-Done.ensures.back.counts; same = same })
    (record {
      is_link = g.met.O.Link.is_link y.journal.disk;
      standing = subst (λ (v : LinkView). IsTrue v.stands) (sym same) c.requires.stands;
      keeps = g.met.O.Outside.link_keeps _ _ c.tell_settled.ensures.moved;
      goes = g.met.O.Link.link_goes _ _ c.tell_settled.ensures.moved;
      rests = c.tell_settled.ensures.rests;
    }) (told.part, subst (λ (m : ℕ). Sent c.args.after (told_reply m (settled_told r)) c.tell_settled.result.1 told.part (g.O.Link.link y.journal.disk) (g.O.Link.link z.journal.disk)) done.adds.0.time' told.sent)

pub returns-in-Refused-clause-settled : goal.returns-in-Refused-clause-settled
returns-in-Refused-clause-settled g c h p up budget st kept can =
    let w = c.args.wallet in
    let y = c.in-Refused.wallet in
    let z = c.refuse-in-Refused.result.0 in
    let r : Received = received_of c.args.reply.now in
    let pass = passed (check_of p r) c.args.number p r c.in-Ok.checked (c.in-Ok.ensures.exact h p st kept) in
    let same = g.met.O.Outside.disk_keeps _ _ c.in-Refused.ensures.back.moved' in
    let done = subst (λ (v : CheckedView). Performs g.O.Disk.disk w h (Ok (settlement h w.book.time v.number v.request v.reply)) (λ e s. IsSettledAs v.request v.reply s) (outs.Refused y c.in-Refused.refusal)) pass.1 (c.in-Refused.ensures.exact h st) in
    let was = done.adds.1 in
    settle_not g.O.Link.link g.O.Disk.disk g.met.O.Outside.sent_aside budget c.args.after h c.args.number p r w c.args.paid.now up st kept can y z c.refuse-in-Refused.result.1 (refusal c.in-Refused.refusal) None pass.0 (inr (inl (c.in-Refused.refusal, done.adds.0, refl), refl)) was
    (record {
      is_link = g.met.O.Link.is_link y.journal.disk;
      standing = subst (λ (v : LinkView). IsTrue v.stands) (sym same) c.requires.stands;
      keeps = g.met.O.Outside.link_keeps _ _ c.refuse-in-Refused.ensures.moved;
      goes = g.met.O.Link.link_goes _ _ c.refuse-in-Refused.ensures.moved;
      rests = c.refuse-in-Refused.ensures.rests;
    }) (subst (λ (m : ℕ). (part : List ℕ) × Sent c.args.after (told_reply m (refusal c.in-Refused.refusal)) c.refuse-in-Refused.result.1 part (g.O.Link.link y.journal.disk) (g.O.Link.link z.journal.disk)) was.time' c.refuse-in-Refused.ensures.sent)

pub returns-in-NoMemory-clause-settled : goal.returns-in-NoMemory-clause-settled
returns-in-NoMemory-clause-settled g c h p up budget st kept can =
    let w = c.args.wallet in
    let y = c.in-NoMemory.wallet in
    let z = c.refuse-in-NoMemory.result.0 in
    let r : Received = received_of c.args.reply.now in
    let pass = passed (check_of p r) c.args.number p r c.in-Ok.checked (c.in-Ok.ensures.exact h p st kept) in
    let same = g.met.O.Outside.disk_keeps _ _ c.in-NoMemory.ensures.back.moved' in
    let done = subst (λ (v : CheckedView). Performs g.O.Disk.disk w h (Ok (settlement h w.book.time v.number v.request v.reply)) (λ e s. IsSettledAs v.request v.reply s) (outs.NoMemory y)) pass.1 (c.in-NoMemory.ensures.exact h st) in
    let was = done.adds.1 in
    settle_not g.O.Link.link g.O.Disk.disk g.met.O.Outside.sent_aside budget c.args.after h c.args.number p r w c.args.paid.now up st kept can y z c.refuse-in-NoMemory.result.1 (refusal NoMemory) None pass.0 (inr (inr (done.adds.0, refl), refl)) was
    (record {
      is_link = g.met.O.Link.is_link y.journal.disk;
      standing = subst (λ (v : LinkView). IsTrue v.stands) (sym same) c.requires.stands;
      keeps = g.met.O.Outside.link_keeps _ _ c.refuse-in-NoMemory.ensures.moved;
      goes = g.met.O.Link.link_goes _ _ c.refuse-in-NoMemory.ensures.moved;
      rests = c.refuse-in-NoMemory.ensures.rests;
    }) (subst (λ (m : ℕ). (part : List ℕ) × Sent c.args.after (told_reply m (refusal NoMemory)) c.refuse-in-NoMemory.result.1 part (g.O.Link.link y.journal.disk) (g.O.Link.link z.journal.disk)) was.time' c.refuse-in-NoMemory.ensures.sent)

pub returns-in-Halted-clause-settled : goal.returns-in-Halted-clause-settled
returns-in-Halted-clause-settled g c h p up budget st kept can =
    let w = c.args.wallet in
    let b = c.in-Halted.halted in
    let d = c.tell_disk_fault-told.new.k in
    let r : Received = received_of c.args.reply.now in
    let pass = passed (check_of p r) c.args.number p r c.in-Ok.checked (c.in-Ok.ensures.exact h p st kept) in
    let moved = c.in-Halted.ensures.back.moved' in
    let same = g.met.O.Outside.disk_keeps _ _ moved in
    let done = subst (λ (v : CheckedView). Performs g.O.Disk.disk w h (Ok (settlement h w.book.time v.number v.request v.reply)) (λ e s. IsSettledAs v.request v.reply s) (outs.Halted b)) pass.1 (c.in-Halted.ensures.exact h st) in
    settle_halts g.O.Link.link g.O.Disk.disk g.met.O.Outside.sent_aside budget c.args.after h c.args.number p r w c.args.paid.now up st kept can b d (g.met.O.Disk.is_disk b) pass.0 done.ran (g.met.O.Disk.disk_goes _ _ moved).aside done.adds.rose same
    (g.met.O.Link.is_link b) (subst (λ (v : LinkView). IsTrue v.stands) (sym same) c.requires.stands) (g.met.O.Outside.link_keeps _ _ c.tell_disk_fault-told.ensures.moved) (g.met.O.Link.link_goes _ _ c.tell_disk_fault-told.ensures.moved)
    (subst (λ (m : ℕ). (said : List ℕ) × Sends (told_reply m (refusal DiskFault)) said (g.O.Link.link b) (g.O.Link.link d)) c.time-time.ensures
    (sends_so (told_reply c.time-time.result (refusal DiskFault)) c.tell_disk_fault-told.result (g.O.Link.link b) (g.O.Link.link d) c.tell_disk_fault-told.ensures.sent c.tell_disk_fault-told.ensures.fault))

pub returns-in-Done-clause-causes : goal.returns-in-Done-clause-causes
returns-in-Done-clause-causes g c = record {
  disk' = (g.met.O.Outside.link_keeps _ _ c.tell_settled.ensures.moved).faults ∙ c.in-Done.ensures.back.counts;
  link' = subst (λ (v : LinkView). v.faults ≤ (g.O.Link.link c.tell_settled.result.0.journal.disk).faults) (g.met.O.Outside.disk_keeps _ _ c.in-Done.ensures.back.moved') (g.met.O.Link.link_goes _ _ c.tell_settled.ensures.moved).faults;
}

pub returns-in-Done-clause-standing : goal.returns-in-Done-clause-standing
returns-in-Done-clause-standing g c go =
    let there = subst (λ (v : LinkView). IsTrue v.stands) (sym (g.met.O.Outside.disk_keeps _ _ c.in-Done.ensures.back.moved')) c.requires.stands in
    subst (λ (b : Bool). IsTrue b) (sym c.tell_settled.ensures.standing) there

pub returns-in-Halted-clause-causes : goal.returns-in-Halted-clause-causes
returns-in-Halted-clause-causes g c =
    subst (λ (n : ℕ). Rose (g.O.Disk.disk c.args.wallet.journal.disk).faults n) (sym (g.met.O.Outside.link_keeps _ _ c.tell_disk_fault-told.ensures.moved).faults) c.in-Halted.ensures.back.counts

pub tell_settled-requires-clause-stands : goal.tell_settled-requires-clause-stands
tell_settled-requires-clause-stands g c = subst (λ (v : LinkView). IsTrue v.stands) (sym (g.met.O.Outside.disk_keeps _ _ c.in-Done.ensures.back.moved')) c.requires.stands

pub tell_disk_fault-told-requires : goal.tell_disk_fault-told-requires
tell_disk_fault-told-requires g c = record { link = subst (λ (v : LinkView). IsTrue v.stands) (sym (g.met.O.Outside.disk_keeps _ _ c.in-Halted.ensures.back.moved')) c.requires.stands }

pub returns-in-Refused-clause-causes : goal.returns-in-Refused-clause-causes
returns-in-Refused-clause-causes g c = record {
  disk' = (g.met.O.Outside.link_keeps _ _ c.refuse-in-Refused.ensures.moved).faults ∙ c.in-Refused.ensures.back.counts;
  link' = subst (λ (v : LinkView). v.faults ≤ (g.O.Link.link c.refuse-in-Refused.result.0.journal.disk).faults) (g.met.O.Outside.disk_keeps _ _ c.in-Refused.ensures.back.moved') (g.met.O.Link.link_goes _ _ c.refuse-in-Refused.ensures.moved).faults;
}

pub returns-in-NoMemory-clause-causes : goal.returns-in-NoMemory-clause-causes
returns-in-NoMemory-clause-causes g c = record {
  disk' = (g.met.O.Outside.link_keeps _ _ c.refuse-in-NoMemory.ensures.moved).faults ∙ c.in-NoMemory.ensures.back.counts;
  link' = subst (λ (v : LinkView). v.faults ≤ (g.O.Link.link c.refuse-in-NoMemory.result.0.journal.disk).faults) (g.met.O.Outside.disk_keeps _ _ c.in-NoMemory.ensures.back.moved') (g.met.O.Link.link_goes _ _ c.refuse-in-NoMemory.ensures.moved).faults;
}
