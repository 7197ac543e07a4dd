-- What comes of a call of a wallet.
use Rattle.std.proofs.Common.{◌≡◌, Ok, Err, refl, sym, subst}
use Rattle.std.specs.Prelude.{Result}
use Rattle.mc_outside.specs.DiskView.{DiskView, IsDisk}
use Rattle.mc_requests.specs.declared.refusal.Refusal.{Refusal}
use Rattle.mc_requests.specs.declared.refusal.Refusal.TheVariants.{BadInput, TwiceHeld, NoFunds, JournalFull}
use Rattle.mc_records.specs.Entry.{Entry}
use Rattle.ledger_model.specs.Histories.{History}
use Rattle.wallet_book.specs.Choosing.{IsNoFunds}
use Rattle.wallet_core.specs.Taking.{IsTakeRefusal}
use Rattle.wallet_core.specs.WalletView.{WalletView}
use Rattle.wallet_core.specs.declared.outcome.WalletOut.{WalletOut}
use Rattle.wallet_core.specs.declared.outcome.WalletOut.TheVariants.{Done, Refused, NoMemory, Halted}
use Rattle.wallet_core.specs.Wallet.{WalletStands}
use Rattle.wallet_core.specs.Outcomes.{IsAsItWas, Adds, Performs, AddsAfterMemory, PerformsAfterMemory}
use Rattle.wallet_core.specs.Answers.{TellsOnly, IsFull, MayTake, MayPend}
use Rattle.wallet_core.proofs.EnterLaws.{ran_nothing}

pub as_it_stood : {D : Type 0} (view : D → DiskView) (x : WalletView D) (h : History) → WalletStands view x h → IsAsItWas view x x h
as_it_stood view x h st = record { stands = st; journal' = refl; time' = refl }

-- what is answered is told in other words
tells_as : {D A : Type 0} (view : D → DiskView) (old : WalletView D) (h : History) (e : Entry) (T U : Entry → A → Type 0) (r : WalletOut D A) → ((a : A) → T e a → U e a) → Adds view old h (Ok e) T r → Adds view old h (Ok e) U r
tells_as view old h e T U (Done x a) so adds = (adds.0, so a adds.1)
tells_as view old h e T U (Refused x f) so adds = adds
tells_as view old h e T U (NoMemory x) so adds = adds
tells_as view old h e T U (Halted d) so adds = adds

-- an entry is what there was to do, and what is answered is told in other words
pub performs_as : {D A : Type 0} (view : D → DiskView) (old : WalletView D) (h : History) (e : Entry) (todo : Result Entry Refusal) (T U : Entry → A → Type 0) (r : WalletOut D A)
    → todo ≡ Ok e → ((a : A) → T e a → U e a) → Performs view old h (Ok e) T r → Performs view old h todo U r
performs_as view old h e todo T U r is so performs =
    subst (λ (t : Result Entry Refusal). Performs view old h t U r) (sym is) (record { adds = tells_as view old h e T U r so performs.adds; ran = performs.ran })

-- what comes of a call that judges first may come of one that takes memory first
pub after_memory : {D A : Type 0} (view : D → DiskView) (old : WalletView D) (h : History) (todo : Result Entry Refusal) (T : Entry → A → Type 0) (r : WalletOut D A) → Performs view old h todo T r → PerformsAfterMemory view old h todo T r
after_memory {D} {A} view old h todo T r performs = record { adds = adds_after todo r performs.adds; ran = performs.ran }
  where
    adds_after : (t : Result Entry Refusal) (out : WalletOut D A) → Adds view old h t T out → AddsAfterMemory view old h t T out
    adds_after (Ok e) (Done x a) adds = adds
    adds_after (Ok e) (Refused x f) adds = adds
    adds_after (Ok e) (NoMemory x) adds = adds.1
    adds_after (Ok e) (Halted d) adds = adds
    adds_after (Err g) (Done x a) adds = adds
    adds_after (Err g) (Refused x f) adds = adds
    adds_after (Err g) (NoMemory x) adds = absurd adds
    adds_after (Err g) (Halted d) adds = adds

-- ---- another answer in the place of one

module _ {D A B : Type 0} (view : D → DiskView) (old : WalletView D) (h : History) (e : Entry) (T : Entry → A → Type 0) (U : Entry → B → Type 0) where
  -- the entry was added
  pub done_so : (x : WalletView D) (a : A) (b : B) → U e b → Performs view old h (Ok e) T (Done x a) → Performs view old h (Ok e) U (Done x b)
  done_so x a b told is = record { adds = (is.adds.0, told); ran = is.ran }

  -- it was refused
  pub refused_so : (x : WalletView D) (f : Refusal) → Performs view old h (Ok e) T (Refused x f) → Performs view old h (Ok e) U (Refused x f)
  refused_so x f is = record { adds = is.adds; ran = is.ran }

  -- memory was refused
  pub wanting_so : (x : WalletView D) → Performs view old h (Ok e) T (NoMemory x) → Performs view old h (Ok e) U (NoMemory x)
  wanting_so x is = record { adds = is.adds; ran = is.ran }

  -- the disk failed
  pub halted_so : (d : D) → Performs view old h (Ok e) T (Halted d) → Performs view old h (Ok e) U (Halted d)
  halted_so d is = record { adds = is.adds; ran = is.ran }

-- ---- what is told

-- what is answered is told by less
pub tells_more : {D A : Type 0} (R S : Refusal → Type 0) (T U : A → Type 0) (out : WalletOut D A) → ((f : Refusal) → R f → S f) → ((a : A) → T a → U a) → TellsOnly R T out → TellsOnly S U out
tells_more R S T U (Done x a) so to told = to a told
tells_more R S T U (Refused x f) so to told = so f told
tells_more R S T U (NoMemory x) so to told = tt
tells_more R S T U (Halted d) so to told = tt

pub full_take : (f : Refusal) → IsFull f → MayTake f
full_take (JournalFull size payload) is = tt
full_take f is = absurd is

pub full_pend : (f : Refusal) → IsFull f → MayPend f
full_pend (JournalFull size payload) is = tt
full_pend f is = absurd is

pub take_may : (f : Refusal) → IsTakeRefusal f → MayTake f
take_may (BadInput line) is = tt
take_may (TwiceHeld id) is = tt
take_may f is = absurd is

pub funds_may : (f : Refusal) → IsNoFunds f → MayPend f
funds_may (NoFunds greatest) is = tt
funds_may f is = absurd is

module _ {D A : Type 0} (view : D → DiskView) (x : WalletView D) (h : History) (T : Entry → A → Type 0) (disk : IsDisk (view x.journal.disk)) (st : WalletStands view x h) where
  -- nothing is done, since it is refused
  pub refuses : (todo : Result Entry Refusal) (f : Refusal) → todo ≡ Err f → Performs view x h todo T (Refused x f)
  refuses todo f is =
      subst (λ (t : Result Entry Refusal). Performs view x h t T (Refused x f)) (sym is)
      (record { adds = (refl, as_it_stood view x h st); ran = ran_nothing view x.journal h disk st.journal })

  -- or since memory was refused before it could be judged
  pub wants_memory : (todo : Result Entry Refusal) → PerformsAfterMemory view x h todo T (NoMemory x)
  wants_memory (Ok e) = record { adds = as_it_stood view x h st; ran = ran_nothing view x.journal h disk st.journal }
  wants_memory (Err f) = record { adds = as_it_stood view x h st; ran = ran_nothing view x.journal h disk st.journal }
