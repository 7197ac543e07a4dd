-- How pieces are taken.
use Rattle.std.proofs.Common.{◌≡◌, ◌⊎◌, ◌∙◌, ℕ, List, [], ◌∷◌, ◌++◌, length, max, sym, ap, subst, Result, Ok, Err}
use Rattle.std.specs.Prelude.{IsSome}
use Rattle.std.specs.Result.{result_ok}
use Rattle.mc_outside.specs.DiskView.{DiskView, IsDisk, LinkKeeps, Ran}
use Rattle.mc_outside.specs.LinkView.{LinkView}
use Rattle.mc_requests.specs.declared.limits.Limits.{Limits}
use Rattle.mc_requests.specs.declared.limits.TheConstants.Limits.{FULL}
use Rattle.mc_requests.specs.declared.refusal.Refusal.{Refusal}
use Rattle.mc_records.specs.Entry.{Entry, Got}
use Rattle.ledger_model.specs.Histories.{History, time}
use Rattle.ledger_model.specs.Lines as lines
use Rattle.ledger_model.specs.Answer.{fitted}
use Rattle.millicent_http.specs.declared.clock.Clock.TheVariants.{OfLinks}
use Rattle.millicent_http.specs.Courses.{AreRead, with_readings}
use Rattle.millicent_http.specs.Inputs.{IsInput, LostInput}
use Rattle.command_status.specs.declared.status.Status.{Status}
use Rattle.command_status.specs.declared.status.Status.TheVariants as ends
use Rattle.wallet_model.specs.Holdings.{brings}
use Rattle.wallet_core.specs.Taking.{take_entry}
use Rattle.wallet_core.specs.WalletView.{WalletView}
use Rattle.wallet_core.specs.declared.outcome.WalletOut.{WalletOut}
use Rattle.wallet_core.specs.declared.outcome.WalletOut.TheVariants as outs
use Rattle.wallet_core.specs.Wallet.{WalletStands}
use Rattle.wallet_core.specs.Answers.{TellsCount}
use Rattle.wallet_core.specs.Outcomes.{outcome_disk, AddsAfterMemory, LeavesBy}
use Rattle.wallet_commands.specs.declared.taking.TheConstants.{MOST_LINES}
use Rattle.wallet_commands.specs.Lines.{taken_line}
use Rattle.wallet_commands.specs.Books.{Opened, OldPair, AddPair}
use Rattle.wallet_commands.specs.Taking.{taken_status, TookBy, Unread, Took}
use Rattle.millicent_http.proofs.AsideLemmas.{TellsAside, SentNoMore, no_more_then, no_more_still, aside_still, input_quiet}
use Rattle.wallet_commands.proofs.BookLemmas.{tells_on, old_pairs}
use Rattle.wallet_core.proofs.DiskLemmas.{on_disk}
use Rattle.wallet_commands.proofs.PayLemmas.{entry_pairs, unwritten, doubted}

-- ---- what is taken

count_is : (h : History) (e : Entry) (count : ℕ) → TellsCount e count → count ≡ length (brings h e)
count_is h (Got m pieces) count is = is
count_is h e count is = absurd is

took_by : {O : Type 0} (disk : O → DiskView) (h : History) (y : WalletView O) (todo : Result Entry Refusal) (out : WalletOut O ℕ) → y.book.limits ≡ FULL → WalletStands disk y h → ((o : O) → IsDisk (disk o))
    → AddsAfterMemory disk y h todo TellsCount out → Ran (disk y.journal.disk) (disk (outcome_disk out)) (LeavesBy todo out h (disk y.journal.disk).aside) → TookBy (disk (outcome_disk out)) h todo (taken_status out)
took_by disk h y (Ok e) (outs.Done x count) limits st is_disk adds ran = (ap taken_line (count_is h e count adds.1), on_disk disk x (h ++ e ∷ []) adds.0.stands)
took_by disk h y (Ok e) (outs.Refused x f) limits st is_disk adds ran = (subst (λ (l : Limits). fitted h l e ≡ Err (lines.Refuse f)) limits adds.0, on_disk disk x h adds.1.stands)
took_by disk h y (Ok e) (outs.NoMemory x) limits st is_disk adds ran = on_disk disk x h adds.stands
took_by disk h y (Ok e) (outs.Halted d) limits st is_disk adds ran = doubted disk h y e d TellsCount (is_disk d) st adds ran
took_by disk h y (Err g) (outs.Done x count) limits st is_disk adds ran = absurd adds
took_by disk h y (Err g) (outs.Refused x f) limits st is_disk adds ran = (adds.0, on_disk disk x h adds.1.stands)
took_by disk h y (Err g) (outs.NoMemory x) limits st is_disk adds ran = on_disk disk x h adds.stands
took_by disk h y (Err g) (outs.Halted d) limits st is_disk adds ran = absurd adds

took_pairs : {O : Type 0} (disk : O → DiskView) (tells : Type 0) (before : DiskView) (h : History) (y : WalletView O) (todo : Result Entry Refusal) (out : WalletOut O ℕ) → Ran before (disk y.journal.disk) (OldPair tells before h)
    → (tells → (disk y.journal.disk).aside ≡ before.aside) → Ran (disk y.journal.disk) (disk (outcome_disk out)) (LeavesBy todo out h (disk y.journal.disk).aside)
    → Ran before (disk (outcome_disk out)) (AddPair tells before h (result_ok todo) (taken_status out))
took_pairs disk tells before h y (Ok e) (outs.Done x n) old same ran = entry_pairs disk tells before h y e (outs.Done x n) old same ran
took_pairs disk tells before h y (Ok e) (outs.Refused x f) old same ran = unwritten disk tells before h y.journal.disk x.journal.disk old same ran
took_pairs disk tells before h y (Ok e) (outs.NoMemory x) old same ran = unwritten disk tells before h y.journal.disk x.journal.disk old same ran
took_pairs {O = O} disk tells before h y (Ok e) (outs.Halted d) old same ran = entry_pairs {A = ℕ} disk tells before h y e (outs.Halted d) old same ran
took_pairs disk tells before h y (Err g) (outs.Done x n) old same ran = unwritten disk tells before h y.journal.disk x.journal.disk old same ran
took_pairs disk tells before h y (Err g) (outs.Refused x f) old same ran = unwritten disk tells before h y.journal.disk x.journal.disk old same ran
took_pairs disk tells before h y (Err g) (outs.NoMemory x) old same ran = unwritten disk tells before h y.journal.disk x.journal.disk old same ran
took_pairs disk tells before h y (Err g) (outs.Halted d) old same ran = unwritten disk tells before h y.journal.disk d old same ran

module _ {O : Type 0} (link : O → LinkView) (disk : O → DiskView) (bytes : List ℕ) (a : O) (x : WalletView O) (all : TellsAside link (λ o. (disk o).aside)) (at : Opened link disk bytes a x) where
  -- the input was not read
  pub unread : (m : WalletView O) (status : Status) → WalletStands disk m at.opened.history → LinkKeeps (disk x.journal.disk) (disk m.journal.disk) → SentNoMore (link x.journal.disk) (link m.journal.disk)
      → ((status ≡ ends.LinkFault) × LostInput (link x.journal.disk) (link m.journal.disk)) ⊎ ((status ≡ ends.NoMemory) × (link m.journal.disk ≡ link x.journal.disk)) → Unread link disk bytes a status m.journal.disk
  unread m status st keeps quiet lost = record {
    history = at.opened.history;
    stands = at.opened.of_bytes;
    left = on_disk disk m at.opened.history st;
    pairs = old_pairs link disk at.opened.history a x.journal.disk m.journal.disk all at.untouched keeps quiet;
    lost = subst (λ (v : LinkView). ((status ≡ ends.LinkFault) × LostInput v (link m.journal.disk)) ⊎ ((status ≡ ends.NoMemory) × (link m.journal.disk ≡ v))) at.untouched.link' lost;
  }

  -- the input was read, and then the clock, and the pieces were taken, or not
  pub took : (m y : WalletView O) (input : List ℕ) (moment : ℕ) (out : WalletOut O ℕ) → ((o : O) → IsDisk (disk o)) → y.book.limits ≡ FULL → m.book.time ≡ x.book.time → IsInput MOST_LINES (link x.journal.disk) input (link m.journal.disk)
      → LinkKeeps (disk x.journal.disk) (disk y.journal.disk) → WalletStands disk y at.opened.history → y.book.time ≡ max m.book.time moment
      → link y.journal.disk ≡ with_readings (link y.journal.disk).readings (link m.journal.disk) → AreRead OfLinks (moment ∷ []) (link m.journal.disk).readings (link y.journal.disk).readings
      → link (outcome_disk out) ≡ link y.journal.disk → AddsAfterMemory disk y at.opened.history (take_entry at.opened.history y.book.time input) TellsCount out
      → Ran (disk y.journal.disk) (disk (outcome_disk out)) (LeavesBy (take_entry at.opened.history y.book.time input) out at.opened.history (disk y.journal.disk).aside) → Took link disk bytes a (taken_status out) (outcome_disk out)
  took m y input moment out is_disk limits early takes keeps st raised rest read same adds ran =
      let h : History = at.opened.history in
      let t : y.book.time ≡ max (time h) moment = raised ∙ ap (λ (n : ℕ). max n moment) (early ∙ at.opened.time') in
      let quiet : SentNoMore (link x.journal.disk) (link y.journal.disk) =
      no_more_then (link x.journal.disk) (link m.journal.disk) (link y.journal.disk) (input_quiet MOST_LINES (link x.journal.disk) (link m.journal.disk) input takes) (no_more_still (link m.journal.disk) (link y.journal.disk) (ap (λ (v : LinkView). v.sessions) rest)) in
      let before : IsSome (link a).sessions → (disk y.journal.disk).aside ≡ (disk a).aside =
      λ told. aside_still link (λ o. (disk o).aside) x.journal.disk y.journal.disk all (tells_on link a x.journal.disk at.untouched.link' told) quiet ∙ at.untouched.read.aside in
      record {
        history = h;
        stands = at.opened.of_bytes;
        input = input;
        taken = link m.journal.disk;
        takes = subst (λ (v : LinkView). IsInput MOST_LINES v input (link m.journal.disk)) at.untouched.link' takes;
        moment = moment;
        read = subst (λ (v : LinkView). AreRead OfLinks (moment ∷ []) (link m.journal.disk).readings v.readings) (sym same) read;
        rest = subst (λ (v : LinkView). v ≡ with_readings v.readings (link m.journal.disk)) (sym same) rest;
        took = subst (λ (n : ℕ). TookBy (disk (outcome_disk out)) h (take_entry h n input) (taken_status out)) t (took_by disk h y (take_entry h y.book.time input) out limits st is_disk adds ran);
        pairs = subst (λ (n : ℕ). Ran (disk a) (disk (outcome_disk out)) (AddPair (IsSome (link a).sessions) (disk a) h (result_ok (take_entry h n input)) (taken_status out))) t
            (took_pairs disk (IsSome (link a).sessions) (disk a) h y (take_entry h y.book.time input) out (old_pairs link disk h a x.journal.disk y.journal.disk all at.untouched keeps quiet) before ran);
      }
