-- Switching the book of a wallet.
use Rattle.std.proofs.Common.{◌≡◌, ◌∙◌, ℕ, ◌+◌, ◌≤◌, Bool, true, false, List, [], ◌∷◌, ◌++◌, length, Option, None, Some, Ok, Err, sym, ap, subst, arith}
use Rattle.mc_outside.specs.DiskView.{DiskView, IsDisk, Ran}
use Rattle.mc_records.specs.Chains.{chain, has_switch}
use Rattle.mc_records.specs.Entry.{Entry, Switch}
use Rattle.mc_records.specs.Sizes.{size, entry_size}
use Rattle.mc_requests.specs.declared.limits.TheConstants.Limits.{MOST_JOURNAL}
use Rattle.mc_requests.specs.declared.refusal.Refusal.{Refusal}
use Rattle.ledger_model.specs.Histories.{History}
use Rattle.ledger_model.specs.Lines.{Refuse}
use Rattle.ledger_model.specs.Answer.{fitted}
use Rattle.scrip_journal.specs.States.{AtRest, IsJournal}
use Rattle.scrip_journal.specs.Exits.{EitherNoOutput}
use Rattle.wallet_model.specs.Follows.{WalletFollows}
use Rattle.wallet_model.proofs.WrittenLaws.{switch_follows}
use Rattle.wallet_book.specs.Book.{BookView, WalletRepresents, Learns}
use Rattle.wallet_core.specs.WalletView.{WalletView}
use Rattle.wallet_core.specs.declared.outcome.WalletOut.{WalletOut}
use Rattle.wallet_core.specs.declared.outcome.WalletOut.TheVariants.{Done, Refused, Halted}
use Rattle.wallet_core.specs.Wallet.{WalletStands}
use Rattle.wallet_core.specs.Outcomes.{HasAdded, IsInDoubt, Performs}
use Rattle.wallet_core.specs.Switching.{TellsAdded, Switches, SwitchesBy}
use Rattle.wallet_core.proofs.EnterLaws.{has_room, learned, ran_nothing}
use Rattle.wallet_core.proofs.OutcomeLaws.{as_it_stood}

-- a Switch of the chain of the entries may follow them, where none stands
pub may_switch : (b : BookView) (h : History) (t : ℕ) → WalletRepresents b h → has_switch h ≡ false → t ≡ b.time → WalletFollows h (Switch t (chain h))
may_switch b h t is none time = switch_follows h t is.lawful (omega (arith, is.in_time, time)) none

-- and is learned, where it tells that chain
pub switch_learned : (b : BookView) (h : History) (t : ℕ) (c : List ℕ) (told : Bool) → c ≡ chain h → WalletFollows h (Switch t (chain h)) → Learns b h (Switch t c) told → (told ≡ true) × WalletRepresents b (h ++ Switch t (chain h) ∷ [])
switch_learned b h t c told same may learns = learned b h (Switch t (chain h)) told may (subst (λ (d : List ℕ). Learns b h (Switch t d) told) same learns)

-- a journal that has it has room for one
pub switch_room : {D : Type 0} (view : D → DiskView) (j : AtRest D) (h : History) (t : ℕ) (c : List ℕ) → c ≡ chain h → IsJournal view j (h ++ Switch t (chain h) ∷ []) → size h + entry_size h (Switch t c) ≤ MOST_JOURNAL
switch_room view j h t c same is = subst (λ (d : List ℕ). size h + entry_size h (Switch t d) ≤ MOST_JOURNAL) (sym same) (has_room view j h (Switch t (chain h)) is)

module _ {D : Type 0} (view : D → DiskView) (x : WalletView D) (h : History) (st : WalletStands view x h) where
  -- where one stands nothing is done
  pub switched_already : IsDisk (view x.journal.disk) → x.journal.switched ≡ true → Switches view x h (Done x None)
  switched_already disk stands =
      let is : has_switch h ≡ true = sym st.journal.switched_is ∙ stands in
      subst (λ (b : Bool). SwitchesBy b view x h (Done x None)) (sym is) (as_it_stood view x h st, ran_nothing view x.journal h disk st.journal)

  -- else what becomes of the Switch is told
  module _ (none : has_switch h ≡ false) (t : ℕ) (time : t ≡ x.book.time) where
    switches : (out : WalletOut D (Option ℕ)) → Performs view x h (Ok (Switch t (chain h))) (TellsAdded h) out → Switches view x h out
    switches out performs =
        let e : Switch t (chain h) ≡ Switch x.book.time (chain h) = ap (λ (k : ℕ). Switch k (chain h)) time in
        subst (λ (b : Bool). SwitchesBy b view x h out) (sym none) (subst (λ (f : Entry). Performs view x h (Ok f) (TellsAdded h) out) e performs)

    pub switch_done : (y : WalletView D) (n : ℕ) → HasAdded view x y h (Switch t (chain h)) → n ≡ length h → Ran (view x.journal.disk) (view y.journal.disk) (EitherNoOutput h (Switch t (chain h)) (view x.journal.disk).aside) → Switches view x h (Done y (Some n))
    switch_done y n added number ran = switches (Done y (Some n)) (record { adds = (added, ap (λ (k : ℕ). Some k) number); ran = ran })

    pub switch_refused : (f : Refusal) → IsDisk (view x.journal.disk) → fitted h x.book.limits (Switch t (chain h)) ≡ Err (Refuse f) → Switches view x h (Refused x f)
    switch_refused f disk over = switches (Refused x f) (record { adds = (over, as_it_stood view x h st); ran = ran_nothing view x.journal h disk st.journal })

    pub switch_halted : (d : D) → IsInDoubt view x d h (Switch t (chain h)) → Ran (view x.journal.disk) (view d) (EitherNoOutput h (Switch t (chain h)) (view x.journal.disk).aside) → Switches view x h (Halted d)
    switch_halted d doubt ran = switches (Halted d) (record { adds = doubt; ran = ran })
