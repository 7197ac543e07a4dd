-- How an item is answered: what was written before its reply began, and what was told.
use Rattle.std.proofs.Common.{◌≡◌, ◌∙◌, ℕ, ◌+◌, List, [], ◌∷◌, ◌++◌, sym, ap, subst, Result, Ok, Err}
use Rattle.std.specs.Prelude.{IsTrue}
use Rattle.mc_outside.specs.Bytes.{Rose}
use Rattle.mc_outside.specs.DiskView.{DiskView, IsDisk, LinkKeeps, Ran}
use Rattle.mc_outside.specs.LinkView.{LinkView, IsLink, LinkGoes}
use Rattle.mc_records.specs.Entry.{Entry}
use Rattle.ledger_model.specs.Histories.{History}
use Rattle.scrip_journal.specs.Layout.{Encodes}
use Rattle.scrip_journal.specs.Rests.{journal_leaves}
use Rattle.scrip_journal.specs.Exits.{EitherNoOutput}
use Rattle.millicent_http.proofs.AsideLemmas.{TellsAside}
use Rattle.millicent_http.specs.declared.item.After.{After}
use Rattle.millicent_http.specs.Steps.{Did}
use Rattle.wallet_book.specs.Book.{BookView}
use Rattle.wallet_core.specs.WalletView.{WalletView}
use Rattle.wallet_core.specs.Rests.{WalletRests, wallet_keeps}
use Rattle.link_turns.specs.declared.turn.Turn.{Turn}
use Rattle.link_turns.specs.Sending.{Sends}
use Rattle.link_turns.specs.Turns.{Sent}
use Rattle.link_turns.specs.Orders.{HaltsAt}
use Rattle.link_turns.proofs.ItemLemmas.{sent_sessions, said_sessions}
use Rattle.link_turns.proofs.OrderLemmas.{went_sent, went_written, went_from, halts_told, halts_written}
use Rattle.wallet_proxy.specs.Told.{Told, refusal, told_reply}
use Rattle.wallet_proxy.specs.Proxy.{ProxyState, history_of}
use Rattle.wallet_proxy.specs.Links.{Now, now, out_of, StandsAt, Answers}
use Rattle.mc_requests.specs.declared.refusal.Refusal.TheVariants.{DiskFault}

module _ {O : Type 0} (link : O → LinkView) (disk : O → DiskView) (all : TellsAside link (λ o. (disk o).aside)) (budget : ℕ) where
  pub state_leaves : (x : Now O) (s : ProxyState) → StandsAt disk budget x s → (c : List ℕ) → (disk (out_of x)).leaves c → Encodes (history_of s) c
  state_leaves x s st c l = journal_leaves disk x.wallet.journal s.history st.book.journal c l

  -- what links do leaves it
  pub stands_kept : (x y : WalletView O) (paid : ℕ) (up : LinkView) (s : ProxyState) → LinkKeeps (disk x.journal.disk) (disk y.journal.disk) → WalletRests x y → StandsAt disk budget (now x paid up) s → StandsAt disk budget (now y paid up) s
  stands_kept x y paid up s keeps rests st = record {
    book = wallet_keeps disk x y s.history st.book keeps rests;
    time' = ap (λ (b : BookView). b.time) rests.book ∙ st.time';
    paid' = st.paid';
    up' = st.up';
    within = st.within;
  }

  module _ (Does : Told → ProxyState → Type 0) (Doubts : List Entry → Entry → LinkView → Type 0) (after : After) where
    -- something was told, when all that it speaks of was there
    pub answers_told : (x y : WalletView O) (turn : Turn) (s t : ProxyState) (told : Told) (paid : ℕ) (up : LinkView) → IsLink (link x.journal.disk) → IsTrue (link x.journal.disk).stands → StandsAt disk budget (now x paid up) t
        → LinkKeeps (disk x.journal.disk) (disk y.journal.disk) → LinkGoes (link x.journal.disk) (link y.journal.disk) → WalletRests x y → Does told t
        → (part : List ℕ) × Sent after (told_reply s.time told) turn part (link x.journal.disk) (link y.journal.disk) → Answers link disk budget Does Doubts after x.journal.disk s paid up (Ok (y, turn))
    answers_told x y turn s t told paid up is on st keeps goes rests does sent =
        let step : Did ProxyState = record { sent = sent.0; after = t } in (
          step,
          told,
          went_sent link disk out_of (StandsAt disk budget) history_of state_leaves all (now x paid up) (now y paid up) s step is on st (stands_kept x y paid up t keeps rests st) keeps goes
              (sent_sessions after (told_reply s.time told) sent.0 turn (link x.journal.disk) (link y.journal.disk) sent.1),
          does,
          sent.1,
        )

    -- an entry was written before, from another state
    pub answers_written : (Doubts' : List Entry → Entry → LinkView → Type 0) (a b : O) (s u : ProxyState) (e : Entry) (paid : ℕ) (up : LinkView) (r : Result (WalletView O × Turn) O) → u.history ≡ s.history ++ e ∷ [] → u.time ≡ s.time
        → ((told : Told) (t : ProxyState) → Does told t → (others : List Entry) × (t.history ≡ u.history ++ others)) → ((added : List Entry) (f : Entry) (v : LinkView) → Doubts' added f v → Doubts (e ∷ added) f v)
        → Ran (disk a) (disk b) (EitherNoOutput s.history e (disk a).aside) → (disk b).aside ≡ (disk a).aside → (disk b).faults ≡ (disk a).faults → link b ≡ link a
        → Answers link disk budget Does Doubts' after b u paid up r → Answers link disk budget Does Doubts after a s paid up r
    answers_written Doubts' a b s u e paid up (Ok r) has time grows so written quiet calm same answers =
        let grown = grows answers.1 answers.0.after answers.3 in (
          answers.0,
          answers.1,
          went_written link disk out_of (StandsAt disk budget) history_of state_leaves all a b s u e answers.0 grown.0 (now r.0 paid up) has grown.1 written quiet calm same answers.2,
          answers.3,
          subst (λ (v : LinkView). Sent after (told_reply s.time answers.1) r.1 answers.0.sent v (link r.0.journal.disk)) same
              (subst (λ (m : ℕ). Sent after (told_reply m answers.1) r.1 answers.0.sent (link b) (link r.0.journal.disk)) time answers.4),
        )
    answers_written Doubts' a b s u e paid up (Err d) has time grows so written quiet calm same answers = (
      e ∷ answers.0,
      answers.1,
      answers.2,
      halts_written link disk all a b s.history u.history e answers.0 answers.1 answers.2 d has written quiet calm same answers.3,
      so answers.0 answers.1 up answers.4,
      subst (λ (v : LinkView). Sends (told_reply s.time (refusal DiskFault)) answers.2 v (link d)) same
          (subst (λ (m : ℕ). Sends (told_reply m (refusal DiskFault)) answers.2 (link b) (link d)) time answers.5),
    )

    -- the disk failed while an entry was written
    pub answers_halted : (a b c : O) (s : ProxyState) (e : Entry) (paid : ℕ) (up : LinkView) → IsDisk (disk b) → Ran (disk a) (disk b) (EitherNoOutput s.history e (disk a).aside) → (disk b).aside ≡ (disk a).aside → Rose (disk a).faults (disk b).faults
        → link b ≡ link a → IsLink (link b) → IsTrue (link b).stands → LinkKeeps (disk b) (disk c) → LinkGoes (link b) (link c) → Doubts [] e up
        → (said : List ℕ) × Sends (told_reply s.time (refusal DiskFault)) said (link b) (link c) → Answers link disk budget Does Doubts after a s paid up (Err c)
    answers_halted a b c s e paid up is_b written quiet rose same is_link on keeps goes doubts said = (
      [],
      e,
      said.0,
      halts_told link disk all a b c s.history e said.0 is_b written quiet rose same is_link on keeps goes (said_sessions (told_reply s.time (refusal DiskFault)) said.0 (link b) (link c) said.1),
      doubts,
      subst (λ (v : LinkView). Sends (told_reply s.time (refusal DiskFault)) said.0 v (link c)) same said.1,
    )

  -- the same in other words, from another state with the same history and time
  pub answers_as : (Does Does' : Told → ProxyState → Type 0) (Doubts Doubts' : List Entry → Entry → LinkView → Type 0) (after : After) (a : O) (s t : ProxyState) (paid : ℕ) (up : LinkView) (r : Result (WalletView O × Turn) O) → s.history ≡ t.history → s.time ≡ t.time
      → ((told : Told) (u : ProxyState) → Does' told u → Does told u) → ((added : List Entry) (f : Entry) → Doubts' added f up → Doubts added f up)
      → Answers link disk budget Does' Doubts' after a t paid up r → Answers link disk budget Does Doubts after a s paid up r
  answers_as Does Does' Doubts Doubts' after a s t paid up (Ok r) same time so doubt answers = (
    answers.0,
    answers.1,
    went_from link disk out_of (StandsAt disk budget) history_of state_leaves all a s t answers.0 [] (now r.0 paid up) same answers.2,
    so answers.1 answers.0.after answers.3,
    subst (λ (m : ℕ). Sent after (told_reply m answers.1) r.1 answers.0.sent (link a) (link r.0.journal.disk)) (sym time) answers.4,
  )
  answers_as Does Does' Doubts Doubts' after a s t paid up (Err d) same time so doubt answers = (
    answers.0,
    answers.1,
    answers.2,
    subst (λ (h : History). HaltsAt link disk a h answers.0 answers.1 answers.2 d) (sym same) answers.3,
    doubt answers.0 answers.1 answers.4,
    subst (λ (m : ℕ). Sends (told_reply m (refusal DiskFault)) answers.2 (link a) (link d)) (sym time) answers.5,
  )
