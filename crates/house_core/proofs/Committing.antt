-- What was authorized, by the column of the answer that it belongs to.
use Rattle.std.proofs.Common.{◌≡◌, ◌<◌, ◌≤◌, ◌^◌, ℕ, Bool, true, false, cond, eqb, None, Some, List, [], ◌∷◌, ◌++◌, length, refl, sym, ap, subst, arith}
use Rattle.std.specs.Prelude.{MatchOption}
use Rattle.std.proofs.lemmas.Bool.{ne_eqb}
use Rattle.mc_requests.specs.declared.limits.Limits.{Limits}
use Rattle.mc_records.specs.Entry.{Entry, payload}
use Rattle.mc_requests.specs.Requests.{Asked}
use Rattle.mc_records.specs.Sizes.{tail_bytes}
use Rattle.kept_replies.specs.Kept.{KeptReply, KeptView}
use Rattle.ledger_model.specs.Histories.{History}
use Rattle.ledger_model.specs.Goods.{is_goods_of}
use Rattle.ledger_model.specs.Sums.{price_paid}
use Rattle.ledger_model.specs.Lawful.{IsAllowed}
use Rattle.ledger_model.specs.Answer as answers
use Rattle.ledger_model.specs.Answer.{answer, without_scrip}
use Rattle.house_state.specs.declared.verdict.DrawAuthorization.{DrawAuthorization}
use Rattle.house_state.specs.declared.verdict.Authorized.{Authorized}
use Rattle.house_state.specs.declared.verdict.Authorized.TheVariants as by
use Rattle.house_state.specs.Learning.{ByHouse, ByTrade, MayLearn}
use Rattle.house_state.specs.Trade.{OfGoods, NamesInForce}
use Rattle.house_core.specs.Tallies.{change_given}
use Rattle.house_state.specs.HouseState.{HouseStateView, kept_if, IsKeptAs, IsKeptToo, IsAsBefore, IsDrawn, series_now, kept_entry, kept_draw}
use Rattle.house_state.specs.LiveWindows.{AreUsed}
use Rattle.house_state.specs.Representation.{StateRepresents}
use Rattle.house_core.specs.House.{AskedFor}
use Rattle.house_state.specs.Verdicts.{draw_entry, authorized_entry, payload_of, price_of, change_of, fresh_of, IsDrawReady, IsOrdered, MayCommit, IsOfNew, OfDeed, BringsAs, IsCommitted, AreUsedFor}
use Rattle.house_core.proofs.Accepting.{as_it_was, ready_as_before, stands_taken}
use Rattle.house_core.proofs.Contents.{held_by}
use Rattle.house_core.proofs.Entered.{keep_stays, takes_follow, stands_more}
use Rattle.house_core.proofs.DrawSays.{says_draw}
use Rattle.house_core.proofs.HouseDisk.{asked_for}
use Rattle.house_core.proofs.TallyLaws.{change_is}
use Rattle.house_state.proofs.WindowCounts.{used_marked}

-- ---- where room was made

pub draw_as_before : {old new : HouseStateView} → IsAsBefore old new → (target : List ℕ) (d : DrawAuthorization) → IsDrawReady old target d → IsDrawReady new target d
draw_as_before {old = old} {new = new} is target d ready =
    let series : series_now new ≡ series_now old = rw (is.issuer, is.time) refl in
    record {
      some = ready.some;
      below = rw (series, is.issued (series_now old), is.most) ready.below;
      next = rw (series, is.issued (series_now old)) ready.next;
      payload = subst (λ (t : ℕ). d.payload ≡ length (payload (draw_entry t target d))) (sym is.time) ready.payload;
      fits = omega (arith, ready.fits, is.sized, ap tail_bytes is.switched);
    }

pub may_as_before : {old new : HouseStateView} → IsAsBefore old new → (target : List ℕ) (a : Authorized) → MayCommit old target a → MayCommit new target a
may_as_before is target (by.Scrip a) ready = ready_as_before is target a ready
may_as_before is target (by.Draw d) ready = draw_as_before is target d ready

pub new_as_before : {old new : HouseStateView} → IsAsBefore old new → (q : Asked) (a : Authorized) → IsOfNew old q a → IsOfNew new q a
new_as_before is q (by.Scrip a) new = (new.0, rw (is.time, is.keep, is.replies) new.1)
new_as_before is q (by.Draw d) new = rw (is.time, is.keep, is.replies) new

pub held_as : (old new : ℕ → Type 0) → ((n : ℕ) → old n → new n) → (a : Authorized) → OfDeed (OfGoods old) a → OfDeed (OfGoods new) a
held_as old new keeps (by.Scrip a) held = held_by old new keeps a.deed held
held_as old new keeps (by.Draw d) held = tt

-- ---- the entry

pub price_paid_is : (t : ℕ) (target : List ℕ) (a : Authorized) → price_paid (authorized_entry t target a) ≡ price_of a
price_paid_is t target (by.Scrip a) = refl
price_paid_is t target (by.Draw d) = refl

pub change_given_is : (b : HouseStateView) (q : Asked) (t : ℕ) (target : List ℕ) (a : Authorized) → IsOfNew b q a → change_given (authorized_entry t target a) ≡ change_of a
change_given_is b q t target (by.Scrip a) new = change_is t target a q new.0
change_given_is b q t target (by.Draw d) new = refl

pub puts_no_goods : (t : ℕ) (at target : List ℕ) (a : Authorized) → is_goods_of target (authorized_entry t at a) ≡ false
puts_no_goods t at target (by.Scrip a) = refl
puts_no_goods t at target (by.Draw d) = refl

pub trade_half : (passes : History → Entry → Type 0) (kind : ℕ) (h : History) (t : ℕ) (target : List ℕ) (a : Authorized) → ByTrade passes kind h (authorized_entry t target a)
trade_half passes kind h t target (by.Scrip a) = tt
trade_half passes kind h t target (by.Draw d) = tt

house_half : (limits : Limits) (kind : ℕ) (h : History) (t : ℕ) (target : List ℕ) (a : Authorized) → IsAllowed limits h (authorized_entry t target a) → ByHouse limits kind h (authorized_entry t target a)
house_half limits kind h t target (by.Scrip a) allowed = allowed
house_half limits kind h t target (by.Draw d) allowed = allowed

-- the entry that is answered may be learned
pub may_learn : {b : HouseStateView} {h : History} → StateRepresents b h → (kind : ℕ) (limits : Limits) (q : Asked) (a : Authorized) → limits.series ≡ b.limits.series → limits.journal ≤ 2 ^ 40
    → answer h b.time limits q ≡ answers.Take (authorized_entry b.time q.target a) → MayLearn b.limits kind b.count h (authorized_entry b.time q.target a)
may_learn {b = b} {h = h} st kind limits q a series most takes =
    let may = takes_follow st limits q (authorized_entry b.time q.target a) series most takes in
    record { counted = sym st.counted; in_order = may.in_order; by_house = house_half b.limits kind h b.time q.target a may.allowed }

-- ---- the state

-- what is kept for its reply
abbrev pub kept_of : HouseStateView → Asked → Authorized → KeptReply
kept_of b q (by.Scrip a) = record { asked = q; entry = kept_entry b a.scrip.now.piece a }
kept_of b q (by.Draw d) = record { asked = without_scrip q; entry = kept_draw b d }

kept_too : (old new : KeptView) (r : KeptReply) → 0 < old.keep → MatchOption (kept_if old.keep r) (IsKeptAs old new) (IsKeptToo old new) → IsKeptToo old new r
kept_too old new r some is = go (eqb old.keep 0) (ne_eqb old.keep 0 (λ e. omega (arith, e, some))) is
  where
    go : (b : Bool) → b ≡ false → MatchOption (cond b None (Some r)) (IsKeptAs old new) (IsKeptToo old new) → IsKeptToo old new r
    go true not_none is = absurd cc
    go false not_none is = is

pub replies_committed : (old new : HouseStateView) (q : Asked) (a : Authorized) → 0 < old.kept.keep → IsCommitted old new q a → new.kept.replies ≡ old.kept.replies ++ kept_of old q a ∷ []
replies_committed old new q (by.Scrip a) some is = (kept_too old.kept new.kept (kept_of old q (by.Scrip a)) some is.kept).replies
replies_committed old new q (by.Draw d) some is = (kept_too old.kept new.kept (kept_of old q (by.Draw d)) some is.kept).replies

pub keep_committed : (old new : HouseStateView) (q : Asked) (a : Authorized) → IsCommitted old new q a → new.kept.keep ≡ old.kept.keep
keep_committed old new q (by.Scrip a) is = keep_stays old.kept new.kept _ is.kept
keep_committed old new q (by.Draw d) is = keep_stays old.kept new.kept _ is.kept

pub kept_held : (b : HouseStateView) (q : Asked) (P : ℕ → Type 0) (a : Authorized) → OfDeed (OfGoods P) a → OfGoods P (kept_of b q a).entry.deed
kept_held b q P (by.Scrip a) held = held
kept_held b q P (by.Draw d) held = tt

pub kept_in_force : (b : HouseStateView) (q : Asked) (h : History) (a : Authorized) → OfDeed (NamesInForce h) a → NamesInForce h (kept_of b q a).entry.deed
kept_in_force b q h (by.Scrip a) in_force = in_force
kept_in_force b q h (by.Draw d) in_force = tt

pub used_committed : (old new : HouseStateView) (q : Asked) (a : Authorized) → IsCommitted old new q a → AreUsedFor a old.spent → AreUsed new.spent
used_committed old new q (by.Scrip a) is used = used_marked a.scrip.now.piece.id old.spent new.spent is.spent.marked is.spent.ends used
used_committed old new q (by.Draw d) is used = subst AreUsed (sym is.spent) used

pub stands_drawn : {old new : HouseStateView} {h : History} → StateRepresents old h → (q : Asked) (d : DrawAuthorization) → IsDrawReady old q.target d → IsOrdered h q.target d → (limits : Limits) → limits.series ≡ old.limits.series → limits.journal ≤ 2 ^ 40
    → answer h old.time limits q ≡ answers.Take (draw_entry old.time q.target d) → IsDrawn old new (without_scrip q) d → StateRepresents new (h ++ draw_entry old.time q.target d ∷ [])
stands_drawn {old = old} {new = new} {h = h} st q d ready ordered limits series most takes is =
    let e = draw_entry old.time q.target d in
    stands_more st e _ (says_draw st q d ready ordered limits takes is.short) (takes_follow st limits q e series most takes) is

pub stands_committed : {old new : HouseStateView} {h : History} → StateRepresents old h → (q : Asked) (a : Authorized) → IsOfNew old q a → MayCommit old q.target a → BringsAs h q.target a → (limits : Limits) → limits.series ≡ old.limits.series → limits.journal ≤ 2 ^ 40
    → answer h old.time limits q ≡ answers.Take (authorized_entry old.time q.target a) → IsCommitted old new q a → StateRepresents new (h ++ authorized_entry old.time q.target a ∷ [])
stands_committed {old = old} st q (by.Scrip a) new ready brings limits series most takes is = stands_taken st (as_it_was old) q a new.0 ready brings limits series most takes is
stands_committed st q (by.Draw d) new ready brings limits series most takes is = stands_drawn st q d ready brings limits series most takes is

-- ---- what a house answers

-- the windows were asked for the piece of the entry, where it accepts one
pub asked_for_it : {b : HouseStateView} {h : History} {t : ℕ} → StateRepresents b h → (q : Asked) (a : Authorized) → IsOfNew b q a → MayCommit b q.target a → t ≡ b.time
    → AskedFor h t (authorized_entry b.time q.target a) (fresh_of a)
asked_for_it st q (by.Scrip a) new ready same = asked_for st q a new.0 ready.fresh same
asked_for_it st q (by.Draw d) new ready same = record { its = refl; seen = tt }

pub payload_is : (b : HouseStateView) (target : List ℕ) (a : Authorized) → MayCommit b target a → payload_of a ≡ length (payload (authorized_entry b.time target a))
payload_is b target (by.Scrip a) ready = ready.payload
payload_is b target (by.Draw d) ready = ready.payload
