-- How a link is used for a kept request.
use Rattle.std.proofs.Common.{◌≡◌, ◌⊎◌, ◌∙◌, inl, inr, ℕ, List, [], ◌++◌, take, refl, sym, ap, subst, Option, Some, None, Result, Ok, Err}
use Rattle.std.specs.Prelude.{IsSome}
use Rattle.mc_outside.specs.Bytes.{BeginsWith, Rose}
use Rattle.mc_outside.specs.DiskView.{DiskView, LinkKeeps}
use Rattle.mc_outside.specs.LinkView.{LinkView, next_taken, none_left, after_recv, after_send}
use Rattle.mc_outside.proofs.Runs.{ran_then, ran_weaker}
use Rattle.mc_requests.specs.declared.refusal.Refusal.{Refusal}
use Rattle.mc_requests.specs.declared.refusal.Refusal.TheVariants as refusals
use Rattle.mc_records.specs.Entry.{Entry}
use Rattle.ledger_model.specs.Histories.{History}
use Rattle.scrip_journal.specs.Layout.{Encodes}
use Rattle.scrip_journal.specs.Rests.{journal_leaves}
use Rattle.millicent_http.specs.Courses.{NoLink}
use Rattle.reply_reader.specs.declared.reply.ReplyFault.{ReplyFault}
use Rattle.reply_reader.specs.declared.reply.ReplyFault.TheVariants as replies
use Rattle.millicent_http.specs.Received.{Received}
use Rattle.reply_reader.specs.Takes.{EndsAs, TookReply}
use Rattle.command_status.specs.declared.status.Status.{Status}
use Rattle.command_status.specs.declared.status.Status.TheVariants as ends
use Rattle.wallet_model.specs.Requests.{Pending}
use Rattle.wallet_model.specs.Asks.{request_bytes}
use Rattle.wallet_model.specs.Settling.{check_of}
use Rattle.wallet_core.specs.WalletView.{WalletView}
use Rattle.wallet_core.specs.Wallet.{WalletStands}
use Rattle.wallet_core.specs.Checking.{IsWritten}
use Rattle.wallet_commands.specs.declared.saying.Saying.{Saying}
use Rattle.wallet_commands.specs.Payments.{Stays, Breaks, SentPart, Learns, Read}
use Rattle.wallet_commands.specs.Paying as paying
use Rattle.wallet_commands.specs.Paying.{UsePair, UsesLinkAs, settled_by}
use Rattle.wallet_commands.specs.Replies.{learned_by, learned_of, SettledPair, EndsReply, ReadsReply}
use Rattle.millicent_http.proofs.AsideLemmas.{TellsAside, SentNoMore, no_more_then, no_more_still, no_more_heard, no_more_finished, aside_still, still_told, quiet_link}
use Rattle.wallet_commands.proofs.SentLemmas.{SentMore, more_none, more_on_next, still_tells, aside_more, begins_itself, begins_take, begun_link}
use Rattle.wallet_core.proofs.DiskLemmas.{on_disk}

-- ---- reading the reply

answer_quiet : (got : List ℕ) (answer : Result Received ReplyFault) (u v : LinkView) → EndsAs got answer u v → SentNoMore u v
answer_quiet got (Ok r) u v at = no_more_still u v (ap (λ (w : LinkView). w.sessions) at.1)
answer_quiet got (Err replies.BadReply) u v at = no_more_still u v (ap (λ (w : LinkView). w.sessions) at.1)
answer_quiet got (Err replies.NoReply) u v at = no_more_finished u v (ap (λ (w : LinkView). w.sessions) at.1)
answer_quiet got (Err replies.Fault) u v at = no_more_still u v (ap (λ (w : LinkView). w.sessions) at.1.same)

-- reading sends nothing
pub took_quiet : (u v : LinkView) (answer : Result Received ReplyFault) → TookReply u answer v → SentNoMore u v
took_quiet u v answer took = no_more_then u (after_recv took.got u) v (no_more_heard u (after_recv took.got u) took.got refl) (answer_quiet took.got answer (after_recv took.got u) v took.ends)

answer_counts : (got : List ℕ) (answer : Result Received ReplyFault) (u v : LinkView) → EndsAs got answer u v → (answer ≡ Err replies.Fault → ⊥) → v.faults ≡ u.faults
answer_counts got (Ok r) u v at other = ap (λ (w : LinkView). w.faults) at.1
answer_counts got (Err replies.BadReply) u v at other = ap (λ (w : LinkView). w.faults) at.1
answer_counts got (Err replies.NoReply) u v at other = ap (λ (w : LinkView). w.faults) at.1
answer_counts got (Err replies.Fault) u v at other = absurd (other refl)

-- and no call failed, unless a fault is told
pub took_counts : (u v : LinkView) (answer : Result Received ReplyFault) → TookReply u answer v → (answer ≡ Err replies.Fault → ⊥) → v.faults ≡ u.faults
took_counts u v answer took other = answer_counts took.got answer (after_recv took.got u) v took.ends other

pub took_rose : (u v : LinkView) → TookReply u (Err replies.Fault) v → Rose u.faults v.faults
took_rose u v took = took.ends.1.rose

module _ (k : Saying) {O : Type 0} (link : O → LinkView) (disk : O → DiskView) (h : History) (n : ℕ) (p : Pending) (all : TellsAside link (λ o. (disk o).aside)) where
  -- a reply was read, and then this became of it
  pub read_reply : (t : ℕ) (r : Received) (x y : WalletView O) (status : Status) (b : O) → WalletStands disk x h → LinkKeeps (disk x.journal.disk) (disk y.journal.disk) → TookReply (link x.journal.disk) (Ok r) (link y.journal.disk)
      → EndsReply k link disk h t n p r y.journal.disk status b → ReadsReply k link disk h t n p x.journal.disk status b
  read_reply t r x y status b st keeps took ends' =
      let a : O = x.journal.disk in
      let m : O = y.journal.disk in
      let quiet : SentNoMore (link a) (link m) = took_quiet (link a) (link m) (Ok r) took in
      let settled : List Entry = settled_by h t n p (learned_by r (check_of p r)) status in
      record {
        answer = Ok r;
        middle = link m;
        took = took;
        ends' = ends'.ends';
        pairs = ran_then (disk a) (disk m) (disk b) (SettledPair (IsSome (link a).sessions) (disk a).aside h settled)
            (quiet_link link disk (IsSome (link a).sessions) (λ c. Encodes h c ⊎ Encodes (h ++ settled) c) (disk a).aside a m all keeps (λ t'. t') quiet (λ t'. refl) (λ c l. inl (journal_leaves disk x.journal h st.journal c l)))
            (ran_weaker (disk m) (disk b) _ _ ends'.pairs (λ c s q. (q.0, λ told. q.1 (still_told (link a) (link m) quiet told) ∙ aside_still link (λ o. (disk o).aside) a m all told quiet)));
      }

  -- no reply was read, and the request stays kept
  pub no_reply : (t : ℕ) (fault : ReplyFault) (x y : WalletView O) (status : Status) → WalletStands disk x h → WalletStands disk y h → LinkKeeps (disk x.journal.disk) (disk y.journal.disk) → TookReply (link x.journal.disk) (Err fault) (link y.journal.disk)
      → paying.EndsAs k h t n p (learned_of p (Err fault)) (link y.journal.disk) status (disk y.journal.disk) (link y.journal.disk) → ReadsReply k link disk h t n p x.journal.disk status y.journal.disk
  no_reply t fault x y status st now keeps took ends' = record {
    answer = Err fault;
    middle = link y.journal.disk;
    took = took;
    ends' = ends';
    pairs = quiet_link link disk (IsSome (link x.journal.disk).sessions) _ (disk x.journal.disk).aside x.journal.disk y.journal.disk all keeps (λ t'. t') (took_quiet (link x.journal.disk) (link y.journal.disk) (Err fault) took) (λ t'. refl)
        (λ c l. inl (journal_leaves disk x.journal h st.journal c l));
  }

-- ---- from the request on

learns_by : (p : Pending) (r : Received) (o : Option Refusal) (u v : LinkView) → check_of p r ≡ o → Read p (Ok r) u v → Learns p (learned_by r o) u v
learns_by p r None u v is read = (read, is)
learns_by p r (Some f) u v is read = inr (inr (inr (r, read, is)))

-- what was read is what is learned
learns_of : (p : Pending) (answer : Result Received ReplyFault) (u v : LinkView) → Read p answer u v → Learns p (learned_of p answer) u v
learns_of p (Ok r) u v read = learns_by p r (check_of p r) u v refl read
learns_of p (Err replies.NoReply) u v read = inr (inl (refl, read))
learns_of p (Err replies.BadReply) u v read = inr (inr (inl (refl, read)))
learns_of p (Err replies.Fault) u v read = inr (inr read)

module _ (k : Saying) {O : Type 0} (link : O → LinkView) (disk : O → DiskView) (h : History) (t n : ℕ) (p : Pending) (all : TellsAside link (λ o. (disk o).aside)) where
  -- the request was sent whole, and then a reply was read, or none
  pub used_link : (x y : WalletView O) (status : Status) (b : O) → WalletStands disk x h → LinkKeeps (disk x.journal.disk) (disk y.journal.disk) → link y.journal.disk ≡ after_send (request_bytes p) (next_taken (link x.journal.disk))
      → ReadsReply k link disk h t n p y.journal.disk status b → UsesLinkAs k link disk h t n p x.journal.disk status b
  used_link x y status b st keeps sent reads =
      let a : O = x.journal.disk in
      let m : O = y.journal.disk in
      let more : SentMore (request_bytes p) (link a) (link m) = more_on_next (link a) (link m) (request_bytes p) (ap (λ (v : LinkView). v.sessions) sent) in
      let settled : List Entry = settled_by h t n p (learned_of p reads.answer) status in
      record {
        learned = learned_of p reads.answer;
        middle = reads.middle;
        learns = learns_of p reads.answer (link a) reads.middle (subst (λ (v : LinkView). TookReply v reads.answer reads.middle) sent reads.took);
        ends' = reads.ends';
        pairs = ran_then (disk a) (disk m) (disk b) (UsePair (IsSome (link a).sessions) (disk a).aside p h settled)
            (begun_link link disk (IsSome (link a).sessions) (λ c. Encodes h c ⊎ Encodes (h ++ settled) c) (request_bytes p) (request_bytes p) a m all keeps (λ t'. t') more (begins_itself (request_bytes p)) (λ c l. inl (journal_leaves disk x.journal h st.journal c l)))
            (ran_weaker (disk m) (disk b) _ _ reads.pairs (λ c s q. (
              q.0,
              λ told. let whole : s ≡ (disk a).aside ++ request_bytes p = q.1 (still_tells (request_bytes p) (link a) (link m) more told) ∙ aside_more link disk a m (request_bytes p) all told more in
                  subst (λ (z : List ℕ). BeginsWith (disk a).aside z × BeginsWith z ((disk a).aside ++ request_bytes p)) (sym whole) ((request_bytes p, refl), begins_itself ((disk a).aside ++ request_bytes p)),
            )));
      }

  -- no link came
  pub came_none : (x y : WalletView O) → WalletStands disk x h → WalletStands disk y h → LinkKeeps (disk x.journal.disk) (disk y.journal.disk) → link y.journal.disk ≡ none_left (link x.journal.disk)
      → UsesLinkAs k link disk h t n p x.journal.disk (ends.Refused refusals.NoLink) y.journal.disk
  came_none x y st now keeps none = record {
    learned = Stays refusals.NoLink;
    middle = link y.journal.disk;
    learns = inl (refl, none);
    ends' = (refl, on_disk disk y h now, refl);
    pairs = begun_link link disk (IsSome (link x.journal.disk).sessions) _ [] (request_bytes p) x.journal.disk y.journal.disk all keeps (λ t'. t') (more_none (link x.journal.disk) (link y.journal.disk) (no_more_still (link x.journal.disk) (link y.journal.disk) (ap (λ (v : LinkView). v.sessions) none))) (request_bytes p, refl)
        (λ c l. inl (journal_leaves disk x.journal h st.journal c l));
  }

  -- no link could be taken, or the request was not sent whole
  pub broke : (x y : WalletView O) → WalletStands disk x h → WalletStands disk y h → LinkKeeps (disk x.journal.disk) (disk y.journal.disk) → NoLink (link x.journal.disk) (link y.journal.disk) ⊎ SentPart (request_bytes p) (link x.journal.disk) (link y.journal.disk)
      → UsesLinkAs k link disk h t n p x.journal.disk ends.LinkFault y.journal.disk
  broke x y st now keeps (inl none) = record {
    learned = Breaks;
    middle = link y.journal.disk;
    learns = inl none;
    ends' = (refl, on_disk disk y h now, refl);
    pairs = begun_link link disk (IsSome (link x.journal.disk).sessions) _ [] (request_bytes p) x.journal.disk y.journal.disk all keeps (λ t'. t') (more_none (link x.journal.disk) (link y.journal.disk) (no_more_still (link x.journal.disk) (link y.journal.disk) (ap (λ (v : LinkView). v.sessions) none.same))) (request_bytes p, refl)
        (λ c l. inl (journal_leaves disk x.journal h st.journal c l));
  }
  broke x y st now keeps (inr part) = record {
    learned = Breaks;
    middle = link y.journal.disk;
    learns = inr (inl part);
    ends' = (refl, on_disk disk y h now, refl);
    pairs = begun_link link disk (IsSome (link x.journal.disk).sessions) _ (take part.n (request_bytes p)) (request_bytes p) x.journal.disk y.journal.disk all keeps (λ t'. t') (more_on_next (link x.journal.disk) (link y.journal.disk) (take part.n (request_bytes p)) (ap (λ (v : LinkView). v.sessions) part.fault.same)) (begins_take part.n (request_bytes p))
        (λ c l. inl (journal_leaves disk x.journal h st.journal c l));
  }

-- the bytes of a request that is kept
pub written_bytes : (o : Option Pending) (p : Pending) (out : List ℕ) (n : ℕ) → o ≡ Some p → IsWritten o out (Some n) → take n out ≡ request_bytes p
written_bytes None p out n is written = absurd (cc is)
written_bytes (Some q) p out n is written = let same : q ≡ p = cc in written.1 ∙ ap request_bytes same
