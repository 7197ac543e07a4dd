use Rattle.std.proofs.Common.{◌∙◌, ◌≡◌, ◌+◌, inl, inr, ℕ, List, [], ◌∷◌, ◌++◌, refl, sym, ap, subst, arith, Result, Ok}
use Rattle.std.specs.Prelude.{IsTrue}
use Rattle.mc_outside.specs.LinkView.{LinkView}
use Rattle.mc_requests.specs.declared.refusal.Refusal.{Refusal}
use Rattle.mc_requests.specs.declared.refusal.Refusal.TheVariants.{DiskFault, NoMemory}
use Rattle.mc_records.specs.Entry.{Entry}
use Rattle.wallet_model.specs.Requests.{Pending}
use Rattle.wallet_model.specs.Asks.{Offered, chosen, paid_with}
use Rattle.wallet_book.specs.Choosing.{Chooses}
use Rattle.wallet_book.specs.Kept.{kept_in}
use Rattle.wallet_core.specs.declared.outcome.WalletOut.TheVariants as outs
use Rattle.wallet_core.specs.Answers.{TellsNumber}
use Rattle.wallet_core.specs.Outcomes.{Performs}
use Rattle.link_turns.specs.Sending.{Sends}
use Rattle.link_turns.specs.Turns.{Sent}
use Rattle.wallet_proxy.specs.Told.{refusal, told_reply}
use Rattle.wallet_proxy.specs.Proxy.{Bounds, get_with, get_entry, CanPay, Tries, TryInDoubt}
use Rattle.wallet_proxy.specs.Links.{Answers, bounds_of, now, state_at}
use Rattle.wallet_proxy.proofs.KeptLemmas.{entered_is_kept}
use Rattle.wallet_proxy.proofs.ChoiceLaws.{chosen_value}
use Rattle.link_turns.proofs.ItemLemmas.{sends_so}
use Rattle.wallet_proxy.proofs.PayLemmas.{ask_made, ask_missed, ask_halts}
use Rattle.wallet_proxy.proofs.paying.ask.Goals as goal

-- what was chosen is the piece of the place
chose : (r : Result Offered Refusal) (o : Offered) (place : ℕ) → r ≡ Ok o → place ≡ o.place → Chooses r (Ok place)
chose r o place is at = subst (λ (x : Result Offered Refusal). Chooses x (Ok place)) (sym is) (ap (λ (n : ℕ). Ok n) at)

pub returns-in-Done-clause-asked : goal.returns-in-Done-clause-asked
returns-in-Done-clause-asked g c h o st is at few most =
    let w = c.args.wallet in
    let y = c.in-Done.wallet in
    let a = c.args.allowance.now in
    let target : List ℕ = c.args.target.now in
    let paid : ℕ = c.args.paid.now in
    let b : Bounds = bounds_of a w.book.limits in
    let e : Entry = get_entry b w.book.time target o in
    let p : Pending = get_with b target o in
    let from : LinkView = g.U.Link.link c.args.up.now in
    let up : LinkView = g.U.Link.link c.try_get.new.up in
    let moved = c.in-Done.ensures.back.moved' in
    let made = subst (λ (r : Result Offered Refusal). Performs g.O.Disk.disk w h (paid_with w.book.time 0 a.vendor target r) (TellsNumber h) (outs.Done y c.in-Done.number)) is (c.in-Done.ensures.exact h a.limit st (chose (chosen h w.book.time a.vendor a.limit) o c.args.place is at)) in
    let can : CanPay a.budget paid p = record { get = refl; within = omega (arith, few, chosen_value h w.book.time a.vendor a.limit o is); few = most } in
    let kept = ap (λ (n : ℕ). kept_in (h ++ e ∷ []) n) made.adds.1 ∙ entered_is_kept h e p st.book.lawful refl in
    let tried = subst (λ (n : ℕ). Answers g.O.Link.link g.O.Disk.disk a.budget (Tries y.book.limits (state_at (h ++ e ∷ []) (now y paid from)) n p) (TryInDoubt (state_at (h ++ e ∷ []) (now y paid from)) n p) c.args.after y.journal.disk (state_at (h ++ e ∷ []) (now y paid from)) c.try_get.new.paid up c.try_get.result)
    made.adds.1 (c.try_get.ensures.tried (h ++ e ∷ []) p a.budget made.adds.0.stands kept can) in
    ask_made g.O.Link.link g.O.Disk.disk g.met.O.Outside.sent_aside a.budget c.args.after b h o target w paid from st refl refl y c.try_get.new.paid up c.try_get.result made.adds.0 c.in-Done.ensures.back.limits made.ran
    (record { quiet = (g.met.O.Disk.disk_goes _ _ moved).aside; calm = c.in-Done.ensures.back.counts; same = g.met.O.Outside.disk_keeps _ _ moved }) tried

pub returns-in-Refused-clause-asked : goal.returns-in-Refused-clause-asked
returns-in-Refused-clause-asked g c h o st is at few most =
    let w = c.args.wallet in
    let y = c.in-Refused.wallet in
    let z = c.refuse.result.0 in
    let a = c.args.allowance.now in
    let target : List ℕ = c.args.target.now in
    let same = g.met.O.Outside.disk_keeps _ _ c.in-Refused.ensures.back.moved' in
    let made = subst (λ (r : Result Offered Refusal). Performs g.O.Disk.disk w h (paid_with w.book.time 0 a.vendor target r) (TellsNumber h) (outs.Refused y c.in-Refused.refusal)) is (c.in-Refused.ensures.exact h a.limit st (chose (chosen h w.book.time a.vendor a.limit) o c.args.place is at)) in
    let was = made.adds.1 in
    ask_missed g.O.Link.link g.O.Disk.disk g.met.O.Outside.sent_aside a.budget c.args.after (bounds_of a w.book.limits) h o target w c.args.paid.now (g.U.Link.link c.args.up.now) st refl refl y z c.refuse.result.1 (refusal c.in-Refused.refusal) (omega (arith, few)) (inl (c.in-Refused.refusal, made.adds.0, refl), refl) was
    (record {
      is_link = g.met.O.Link.is_link y.journal.disk;
      standing = subst (λ (v : LinkView). IsTrue v.stands) (sym same) c.requires.stands;
      keeps = g.met.O.Outside.link_keeps _ _ c.refuse.ensures.moved;
      goes = g.met.O.Link.link_goes _ _ c.refuse.ensures.moved;
      rests = c.refuse.ensures.rests;
    }) (subst (λ (m : ℕ). (part : List ℕ) × Sent c.args.after (told_reply m (refusal c.in-Refused.refusal)) c.refuse.result.1 part (g.O.Link.link y.journal.disk) (g.O.Link.link z.journal.disk)) was.time' c.refuse.ensures.sent)

pub returns-in-NoMemory-clause-asked : goal.returns-in-NoMemory-clause-asked
returns-in-NoMemory-clause-asked g c h o st is at few most =
    let w = c.args.wallet in
    let y = c.in-NoMemory.wallet in
    let z = c.refuse-in-NoMemory.result.0 in
    let a = c.args.allowance.now in
    let target : List ℕ = c.args.target.now in
    let same = g.met.O.Outside.disk_keeps _ _ c.in-NoMemory.ensures.back.moved' in
    let made = subst (λ (r : Result Offered Refusal). Performs g.O.Disk.disk w h (paid_with w.book.time 0 a.vendor target r) (TellsNumber h) (outs.NoMemory y)) is (c.in-NoMemory.ensures.exact h a.limit st (chose (chosen h w.book.time a.vendor a.limit) o c.args.place is at)) in
    let was = made.adds.1 in
    ask_missed g.O.Link.link g.O.Disk.disk g.met.O.Outside.sent_aside a.budget c.args.after (bounds_of a w.book.limits) h o target w c.args.paid.now (g.U.Link.link c.args.up.now) st refl refl y z c.refuse-in-NoMemory.result.1 (refusal NoMemory) (omega (arith, few)) (inr (made.adds.0, refl), refl) was
    (record {
      is_link = g.met.O.Link.is_link y.journal.disk;
      standing = subst (λ (v : LinkView). IsTrue v.stands) (sym same) c.requires.stands;
      keeps = g.met.O.Outside.link_keeps _ _ c.refuse-in-NoMemory.ensures.moved;
      goes = g.met.O.Link.link_goes _ _ c.refuse-in-NoMemory.ensures.moved;
      rests = c.refuse-in-NoMemory.ensures.rests;
    }) (subst (λ (m : ℕ). (part : List ℕ) × Sent c.args.after (told_reply m (refusal NoMemory)) c.refuse-in-NoMemory.result.1 part (g.O.Link.link y.journal.disk) (g.O.Link.link z.journal.disk)) was.time' c.refuse-in-NoMemory.ensures.sent)

pub returns-in-Halted-clause-asked : goal.returns-in-Halted-clause-asked
returns-in-Halted-clause-asked g c h o st is at few most =
    let w = c.args.wallet in
    let b = c.in-Halted.halted in
    let d = c.tell_disk_fault-told.new.k in
    let a = c.args.allowance.now in
    let target : List ℕ = c.args.target.now in
    let moved = c.in-Halted.ensures.back.moved' in
    let same = g.met.O.Outside.disk_keeps _ _ moved in
    let made = subst (λ (r : Result Offered Refusal). Performs g.O.Disk.disk w h (paid_with w.book.time 0 a.vendor target r) (TellsNumber h) (outs.Halted b)) is (c.in-Halted.ensures.exact h a.limit st (chose (chosen h w.book.time a.vendor a.limit) o c.args.place is at)) in
    ask_halts g.O.Link.link g.O.Disk.disk g.met.O.Outside.sent_aside a.budget c.args.after (bounds_of a w.book.limits) h o target w c.args.paid.now (g.U.Link.link c.args.up.now) st refl refl b d (g.met.O.Disk.is_disk b) made.ran (g.met.O.Disk.disk_goes _ _ moved).aside made.adds.rose same
    (g.met.O.Link.is_link b) (subst (λ (v : LinkView). IsTrue v.stands) (sym same) c.requires.stands) (g.met.O.Outside.link_keeps _ _ c.tell_disk_fault-told.ensures.moved) (g.met.O.Link.link_goes _ _ c.tell_disk_fault-told.ensures.moved)
    (subst (λ (m : ℕ). (said : List ℕ) × Sends (told_reply m (refusal DiskFault)) said (g.O.Link.link b) (g.O.Link.link d)) c.time-time.ensures
    (sends_so (told_reply c.time-time.result (refusal DiskFault)) c.tell_disk_fault-told.result (g.O.Link.link b) (g.O.Link.link d) c.tell_disk_fault-told.ensures.sent c.tell_disk_fault-told.ensures.fault))
