-- How a reply settles a kept request, or leaves it kept.
use Rattle.std.proofs.Common.{◌≡◌, ◌⊎◌, ◌∙◌, inl, inr, ⊎_elim, ℕ, zero, suc, true, false, List, [], ◌∷◌, ◌++◌, length, refl, sym, ap, ap₂, subst, Option, Some, None, Ok, Err}
use Rattle.std.proofs.lemmas.List.{length-map}
use Rattle.std.specs.Prelude.{◌==◌, IsSome, option_and_then, slice_get}
use Rattle.std.proofs.lemmas.Bool.{eqb-true, eq-eqb}
use Rattle.mc_outside.specs.DiskView.{DiskView, IsDisk, LinkKeeps, Ran}
use Rattle.mc_outside.specs.LinkView.{LinkView}
use Rattle.mc_outside.proofs.Runs.{ran_none, ran_then, ran_weaker, ran_now}
use Rattle.mc_requests.specs.declared.limits.Limits.{Limits}
use Rattle.mc_requests.specs.declared.limits.TheConstants.Limits.{FULL}
use Rattle.mc_requests.specs.declared.refusal.Refusal.{Refusal}
use Rattle.mc_requests.specs.declared.refusal.Refusal.TheVariants as refusals
use Rattle.mc_records.specs.Entry.{Held, Entry}
use Rattle.scrip_form.specs.Scrip.{Scrip}
use Rattle.ledger_model.specs.Histories.{History}
use Rattle.ledger_model.specs.Pieces.{piece_of}
use Rattle.ledger_model.specs.Lines as lines
use Rattle.ledger_model.specs.Answer.{fitted}
use Rattle.scrip_journal.specs.Layout.{Encodes}
use Rattle.scrip_journal.specs.Rests.{journal_leaves}
use Rattle.millicent_http.specs.Received.{Received}
use Rattle.command_status.specs.declared.status.Status.TheVariants as ends
use Rattle.wallet_model.specs.Requests.{Pending}
use Rattle.wallet_model.specs.Settling.{check_of, settlement, refusal_number}
use Rattle.wallet_model.specs.Holdings.{texts_came, brings}
use Rattle.wallet_model.proofs.BookLaws.{book_grows}
use Rattle.wallet_model.proofs.CameLaws.{texts_more}
use Rattle.wallet_model.proofs.KeptLaws.{by_cases}
use Rattle.wallet_book.specs.declared.holding.Holding.{Holding}
use Rattle.wallet_book.specs.Holdings.{text_of, texts_of}
use Rattle.wallet_book.specs.Parts.{held_texts}
use Rattle.wallet_book.specs.Book.{BookView, WalletRepresents}
use Rattle.wallet_book.proofs.PartLaws.{came_texts}
use Rattle.wallet_core.specs.declared.settling.Settlement.{Settlement}
use Rattle.wallet_core.specs.declared.settling.Settlement.TheVariants as settled
use Rattle.wallet_core.specs.Settled.{bought, IsSettledAs}
use Rattle.wallet_core.specs.WalletView.{WalletView}
use Rattle.wallet_core.specs.declared.outcome.WalletOut.{WalletOut}
use Rattle.wallet_core.specs.declared.outcome.WalletOut.TheVariants as outs
use Rattle.wallet_core.specs.Wallet.{WalletStands}
use Rattle.wallet_core.specs.Checking.{CheckedView, Checks}
use Rattle.wallet_core.specs.Outcomes.{outcome_disk, CountsFaults, Adds, LeavesBy}
use Rattle.wallet_core.specs.Answers.{TellsOnly, IsFull}
use Rattle.wallet_commands.specs.declared.saying.Saying.{Saying}
use Rattle.wallet_commands.specs.declared.saying.Saying.TheVariants as sayings
use Rattle.wallet_commands.specs.Lines.{renewed_line}
use Rattle.wallet_core.specs.OnDisk.{EncodesWallet}
use Rattle.wallet_commands.specs.Causes.{SettleRefused, CausesBy, NoneFailed}
use Rattle.wallet_commands.specs.Saying.{said_as, IsSaid, IsSaidInPart}
use Rattle.wallet_commands.specs.Paying.{ended_by, ended_as, first_brought, SettlesAs, EndsAs, entered_by, settled_by}
use Rattle.wallet_commands.specs.Replies.{settlement_status, came_behind, told_status, settled_status, learned_by, SettledPair, EndsReply}
use Rattle.millicent_http.proofs.AsideLemmas.{TellsAside, SentNoMore, no_more_still, aside_still, quiet_link}
use Rattle.wallet_core.proofs.DiskLemmas.{on_disk}
use Rattle.wallet_commands.proofs.CauseLemmas.{full_check}

-- ---- the check

-- a reply that the check lets pass
pub passed : (o : Option Refusal) (n : ℕ) (p : Pending) (r : Received) (c : CheckedView) → Checks o n p r (Ok c) → (o ≡ None) × (c ≡ record { number = n; request = p; reply = r })
passed None n p r c checks = (refl, checks)
passed (Some f) n p r c checks = absurd checks

refused_ends : (k : Saying) {O : Type 0} (link : O → LinkView) (disk : O → DiskView) (h : History) (t n : ℕ) (p : Pending) (r : Received) (o : Option Refusal) (f : Refusal) (x : WalletView O) → Checks o n p r (Err f) → WalletStands disk x h
    → EndsAs k h t n p (learned_by r o) (link x.journal.disk) (ends.Refused f) (disk x.journal.disk) (link x.journal.disk)
refused_ends k link disk h t n p r None f x checks st = absurd checks
refused_ends k link disk h t n p r (Some g) f x checks st = (ap (λ (e : Refusal). ends.Refused e) checks, on_disk disk x h st, refl)

-- the check refused the reply
pub refused_reply : (k : Saying) {O : Type 0} (link : O → LinkView) (disk : O → DiskView) (h : History) (t n : ℕ) (p : Pending) (r : Received) (f : Refusal) (x : WalletView O) → IsDisk (disk x.journal.disk) → Checks (check_of p r) n p r (Err f) → WalletStands disk x h
    → EndsReply k link disk h t n p r x.journal.disk (ends.Refused f) x.journal.disk
refused_reply k link disk h t n p r f x is_disk checks st = record {
  ends' = refused_ends k link disk h t n p r (check_of p r) f x checks st;
  pairs = ran_none (disk x.journal.disk) _ is_disk (λ c l. (inl (journal_leaves disk x.journal h st.journal c l), λ t. refl));
}

-- ---- saying failed

pub said_less : (k : Saying) {O : Type 0} (link : O → LinkView) (disk : O → DiskView) (h : History) (t n : ℕ) (p : Pending) (r : Received) (x y : WalletView O) → TellsAside link (λ o. (disk o).aside) → check_of p r ≡ None → WalletStands disk x h → WalletStands disk y h
    → LinkKeeps (disk x.journal.disk) (disk y.journal.disk) → IsSaidInPart (said_as k p r) (link x.journal.disk) (link y.journal.disk) → EndsReply k link disk h t n p r x.journal.disk ends.LinkFault y.journal.disk
said_less k link disk h t n p r x y all none st now keeps said = record {
  ends' = subst (λ (o : Option Refusal). EndsAs k h t n p (learned_by r o) (link x.journal.disk) ends.LinkFault (disk y.journal.disk) (link y.journal.disk)) (sym none) (on_disk disk y h now, said);
  pairs = quiet_link link disk (IsSome (link x.journal.disk).sessions) _ (disk x.journal.disk).aside x.journal.disk y.journal.disk all keeps (λ t. t) (no_more_still (link x.journal.disk) (link y.journal.disk) (ap (λ (v : LinkView). v.sessions) said.same)) (λ t. refl)
      (λ c l. inl (journal_leaves disk x.journal h st.journal c l));
}

-- ---- the settlement

other_status : (m n : ℕ) → (m ≡ n → ⊥) → (m == n) ≡ false
other_status m n ne = ⊎_elim (λ e. absurd (ne (eqb-true m n e))) (λ e. e) (by_cases (m == n))

-- what is told of a settlement is what its reply says
settled_as : (p : Pending) (r : Received) (s : Settlement) → IsSettledAs p r s → settlement_status s ≡ ended_by p r
settled_as p r (settled.Paid price) is =
    let test : (r.status == 200) ≡ true = eq-eqb r.status 200 is.0 in
    let none : bought p.ask r.contents ≡ None = ap (λ (ask : ℕ). bought ask r.contents) is.1 in
    rw (test, none) refl
settled_as p r (settled.Got piece) is =
    let test : (r.status == 200) ≡ true = eq-eqb r.status 200 is.0 in
    let some : bought p.ask r.contents ≡ Some piece = is.1 in
    rw (test, some) refl
settled_as p r (settled.Refused number) is =
    let test : (r.status == 200) ≡ false = other_status r.status 200 is.0 in
    let told : number ≡ refusal_number r.refusal = is.1 in
    ap (λ (k : ℕ). ends.Refused (refusals.SiteRefused k)) told ∙ (rw test refl)

came_first : {X : Type 0} (xs ys : List X) → slice_get (xs ++ ys) (length xs) ≡ slice_get ys 0
came_first [] ys = refl
came_first (x ∷ xs) ys = came_first xs ys

text_at : (xs : List Holding) (i : ℕ) → came_behind i xs ≡ option_and_then piece_of (slice_get (texts_of xs) i)
text_at [] i = refl
text_at (x ∷ xs) zero = refl
text_at (x ∷ xs) (suc i) = text_at xs i

first_text : (ps : List Held) → option_and_then piece_of (slice_get (held_texts ps) 0) ≡ option_and_then (λ x. piece_of x.text) (slice_get ps 0)
first_text [] = refl
first_text (x ∷ ps) = refl

-- The holdings are those of before, and behind them what the settlement brings.
brought_behind : (h : History) (e : Entry) (old new : BookView) → WalletRepresents old h → WalletRepresents new (h ++ e ∷ []) → came_behind (length old.holdings) new.holdings ≡ first_brought h e
brought_behind h e old new was is =
    let after : texts_of new.holdings ≡ texts_came h ++ held_texts (brings h e) = sym (came_texts (h ++ e ∷ []) new.holdings is.parts.pieces) ∙ texts_more h e in
    let count : length old.holdings ≡ length (texts_came h) = sym (length-map old.holdings text_of) ∙ ap length (sym (came_texts h old.holdings was.parts.pieces)) in
    text_at new.holdings (length old.holdings)
    ∙ ap₂ (λ (ts : List (List ℕ)) (i : ℕ). option_and_then piece_of (slice_get ts i)) after count
    ∙ ap (option_and_then piece_of) (came_first (texts_came h) (held_texts (brings h e)))
    ∙ first_text (brings h e)

-- what is told of a settlement, by what a command says
told_as : (k : Saying) (h : History) (e : Entry) (p : Pending) (r : Received) (change : Option Scrip) (s : Settlement) → IsSettledAs p r s → change ≡ first_brought h e → told_status k change s ≡ ended_as k h e p r
told_as sayings.Contents h e p r change s is came = settled_as p r s is
told_as (sayings.Renewal vendor) h e p r change (settled.Paid price) is came =
    let test : (r.status == 200) ≡ true = eq-eqb r.status 200 is.0 in
    let told = ap (λ (o : Option Scrip). ends.Did (renewed_line vendor o)) came in
    rw test told
told_as (sayings.Renewal vendor) h e p r change (settled.Got piece) is came =
    let test : (r.status == 200) ≡ true = eq-eqb r.status 200 is.0 in
    let told = ap (λ (o : Option Scrip). ends.Did (renewed_line vendor o)) came in
    rw test told
told_as (sayings.Renewal vendor) h e p r change (settled.Refused number) is came =
    let test : (r.status == 200) ≡ false = other_status r.status 200 is.0 in
    let told : number ≡ refusal_number r.refusal = is.1 in
    ap (λ (i : ℕ). ends.Refused (refusals.SiteRefused i)) told ∙ (rw test refl)

module _ {O : Type 0} (link : O → LinkView) (disk : O → DiskView) (h : History) (n : ℕ) (p : Pending) (r : Received) where
  -- it is done
  done_so : (k : Saying) (t : ℕ) (before after : LinkView) (d : DiskView) (change : Option Scrip) (s : Settlement) → IsSaid (said_as k p r) before after → told_status k change s ≡ ended_as k h (settlement h t n p r) p r
      → EncodesWallet d (h ++ settlement h t n p r ∷ []) → SettlesAs k h t n p r before (told_status k change s) d after
  done_so sayings.Contents t before after d change (settled.Paid price) said told left = (said, inl (told, left))
  done_so sayings.Contents t before after d change (settled.Got piece) said told left = (said, inl (told, left))
  done_so sayings.Contents t before after d change (settled.Refused number) said told left = (said, inl (told, left))
  done_so (sayings.Renewal vendor) t before after d change (settled.Paid price) said told left = (said, inl (told, left))
  done_so (sayings.Renewal vendor) t before after d change (settled.Got piece) said told left = (said, inl (told, left))
  done_so (sayings.Renewal vendor) t before after d change (settled.Refused number) said told left = (said, inl (told, left))

  -- how the disk is left, and the links, by the outcome
  settles : (k : Saying) (before : LinkView) (y : WalletView O) (out : WalletOut O Settlement) → y.book.limits ≡ FULL → WalletStands disk y h → ((o : O) → IsDisk (disk o)) → IsSaid (said_as k p r) before (link (outcome_disk out))
      → Adds disk y h (Ok (settlement h y.book.time n p r)) (λ e s. IsSettledAs p r s) out → Ran (disk y.journal.disk) (disk (outcome_disk out)) (LeavesBy (Ok (settlement h y.book.time n p r)) out h (disk y.journal.disk).aside)
      → SettlesAs k h y.book.time n p r before (settled_status k (length y.book.holdings) out) (disk (outcome_disk out)) (link (outcome_disk out))
  settles k before y (outs.Done x s) limits st is_disk said adds ran =
      let e : Entry = settlement h y.book.time n p r in
      done_so k y.book.time before (link x.journal.disk) (disk x.journal.disk) (came_behind (length y.book.holdings) x.book.holdings) s said
      (told_as k h e p r (came_behind (length y.book.holdings) x.book.holdings) s adds.1 (brought_behind h e y.book x.book st.book adds.0.stands.book)) (on_disk disk x _ adds.0.stands)
  settles k before y (outs.Refused x f) limits st is_disk said adds ran =
      (said, inr (f, refl, subst (λ (l : Limits). fitted h l (settlement h y.book.time n p r) ≡ Err (lines.Refuse f)) limits adds.0, on_disk disk x h adds.1.stands))
  settles k before y (outs.NoMemory x) limits st is_disk said adds ran = (
    on_disk disk x h adds.1.stands,
    said,
    subst (λ (l : Limits). fitted h l (settlement h y.book.time n p r) ≡ Ok (settlement h y.book.time n p r)) limits adds.0,
  )
  settles k before y (outs.Halted d) limits st is_disk said adds ran = (
    record { leaves = λ image l. (ran_now (disk y.journal.disk) (disk d) _ (is_disk d) ran image l).0; lawful = book_grows h (settlement h y.book.time n p r) st.book.lawful adds.follows },
    said,
  )

  done_pair : (k : Saying) (tells : Type 0) (e : Entry) (change : Option Scrip) (s : Settlement) (now : List ℕ) (c sent : List ℕ) → (Encodes h c ⊎ Encodes (h ++ e ∷ []) c) × (tells → sent ≡ now)
      → SettledPair tells now h (entered_by (told_status k change s) e) c sent
  done_pair sayings.Contents tells e change (settled.Paid price) now c sent pair = pair
  done_pair sayings.Contents tells e change (settled.Got piece) now c sent pair = pair
  done_pair sayings.Contents tells e change (settled.Refused number) now c sent pair = pair
  done_pair (sayings.Renewal vendor) tells e change (settled.Paid price) now c sent pair = pair
  done_pair (sayings.Renewal vendor) tells e change (settled.Got piece) now c sent pair = pair
  done_pair (sayings.Renewal vendor) tells e change (settled.Refused number) now c sent pair = pair

  settle_pair : (k : Saying) (count : ℕ) (tells : Type 0) (e : Entry) (out : WalletOut O Settlement) (aside now : List ℕ) (c s : List ℕ) → (tells → aside ≡ now) → LeavesBy (Ok e) out h aside c s → SettledPair tells now h (entered_by (settled_status k count out) e) c s
  settle_pair k count tells e (outs.Done x a) aside now c s same leaves = done_pair k tells e (came_behind count x.book.holdings) a now c s (leaves.0, λ t. leaves.1 ∙ same t)
  settle_pair k count tells e (outs.Refused x f) aside now c s same leaves = (inl leaves.0, λ t. leaves.1 ∙ same t)
  settle_pair k count tells e (outs.NoMemory x) aside now c s same leaves = (inl leaves.0, λ t. leaves.1 ∙ same t)
  settle_pair k count tells e (outs.Halted d) aside now c s same leaves = (leaves.0, λ t. leaves.1 ∙ same t)

  -- the reply was said as it is to be, and then the settlement was written, or was not
  pub settled_reply : (k : Saying) (x y : WalletView O) (out : WalletOut O Settlement) → TellsAside link (λ o. (disk o).aside) → ((o : O) → IsDisk (disk o)) → check_of p r ≡ None → y.book.limits ≡ FULL → WalletStands disk x h → WalletStands disk y h
      → LinkKeeps (disk x.journal.disk) (disk y.journal.disk) → IsSaid (said_as k p r) (link x.journal.disk) (link y.journal.disk) → link (outcome_disk out) ≡ link y.journal.disk
      → Adds disk y h (Ok (settlement h y.book.time n p r)) (λ e s. IsSettledAs p r s) out → Ran (disk y.journal.disk) (disk (outcome_disk out)) (LeavesBy (Ok (settlement h y.book.time n p r)) out h (disk y.journal.disk).aside)
      → EndsReply k link disk h y.book.time n p r x.journal.disk (settled_status k (length y.book.holdings) out) (outcome_disk out)
  settled_reply k x y out all is_disk none limits st now keeps said same adds ran =
      let a : O = x.journal.disk in
      let m : O = y.journal.disk in
      let b : O = outcome_disk out in
      let e : Entry = settlement h y.book.time n p r in
      let entered : List Entry = entered_by (settled_status k (length y.book.holdings) out) e in
      let quiet : SentNoMore (link a) (link m) = no_more_still (link a) (link m) (ap (λ (v : LinkView). v.sessions) said) in
      record {
        ends' = subst (λ (o : Option Refusal). EndsAs k h y.book.time n p (learned_by r o) (link a) (settled_status k (length y.book.holdings) out) (disk b) (link b)) (sym none)
            (settles k (link a) y out limits now is_disk (same ∙ said) adds ran);
        pairs = subst (λ (o : Option Refusal). Ran (disk a) (disk b) (SettledPair (IsSome (link a).sessions) (disk a).aside h (settled_by h y.book.time n p (learned_by r o) (settled_status k (length y.book.holdings) out)))) (sym none)
            (ran_then (disk a) (disk m) (disk b) (SettledPair (IsSome (link a).sessions) (disk a).aside h entered)
            (quiet_link link disk (IsSome (link a).sessions) (λ c. Encodes h c ⊎ Encodes (h ++ entered) c) (disk a).aside a m all keeps (λ t. t) quiet (λ t. refl) (λ c l. inl (journal_leaves disk x.journal h st.journal c l)))
            (ran_weaker (disk m) (disk b) _ _ ran (λ c s l. settle_pair k (length y.book.holdings) (IsSome (link a).sessions) e out (disk m).aside (disk a).aside c s (λ t. aside_still link (λ o. (disk o).aside) a m all t quiet) l)));
      }

-- ---- causes

told_causes : {O : Type 0} (link : O → LinkView) (disk : O → DiskView) (y b : O) (p : Pending) (r : Received) (k : Saying) (change : Option Scrip) (s : Settlement) → NoneFailed link disk y b → IsSettledAs p r s
    → CausesBy (λ f v w. SettleRefused r f) link disk y (told_status k change s) b
told_causes link disk y b p r sayings.Contents change (settled.Paid price) none told = none
told_causes link disk y b p r sayings.Contents change (settled.Got piece) none told = none
told_causes link disk y b p r sayings.Contents change (settled.Refused number) none told = (none, told)
told_causes link disk y b p r (sayings.Renewal vendor) change (settled.Paid price) none told = none
told_causes link disk y b p r (sayings.Renewal vendor) change (settled.Got piece) none told = none
told_causes link disk y b p r (sayings.Renewal vendor) change (settled.Refused number) none told = (none, told)

pub settled_causes : (k : Saying) (count : ℕ) {O : Type 0} (link : O → LinkView) (disk : O → DiskView) (y : O) (p : Pending) (r : Received) (out : WalletOut O Settlement) → CountsFaults out (disk y).faults (disk (outcome_disk out)).faults → link (outcome_disk out) ≡ link y
    → TellsOnly IsFull (λ s. IsSettledAs p r s) out → CausesBy (λ f v w. SettleRefused r f) link disk y (settled_status k count out) (outcome_disk out)
settled_causes k count link disk y p r (outs.Done x s) counts same told =
    told_causes link disk y x.journal.disk p r k (came_behind count x.book.holdings) s (record { disk' = counts; link' = ap (λ (v : LinkView). v.faults) same }) told
settled_causes k count link disk y p r (outs.Refused x f) counts same told = (record { disk' = counts; link' = ap (λ (v : LinkView). v.faults) same }, full_check r f told)
settled_causes k count link disk y p r (outs.NoMemory x) counts same told = record { disk' = counts; link' = ap (λ (v : LinkView). v.faults) same }
settled_causes k count link disk y p r (outs.Halted d) counts same told = record { disk' = counts; link' = ap (λ (v : LinkView). v.faults) same }
