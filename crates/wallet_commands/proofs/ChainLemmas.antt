-- How the book of a wallet is switched, and its chain told.
use Rattle.std.proofs.Common.{◌≡◌, ◌∙◌, ℕ, Bool, true, false, List, [], ◌∷◌, ◌++◌, length, ap, subst, Option, Some, None, Err}
use Rattle.std.specs.Prelude.{if◌then◌else◌, IsSome}
use Rattle.mc_outside.specs.DiskView.{DiskView, IsDisk, Ran}
use Rattle.mc_outside.specs.LinkView.{LinkView}
use Rattle.mc_records.specs.Chains.{chain, has_switch}
use Rattle.mc_requests.specs.declared.limits.Limits.{Limits}
use Rattle.mc_requests.specs.declared.limits.TheConstants.Limits.{FULL}
use Rattle.mc_records.specs.Entry.{Entry, Switch}
use Rattle.ledger_model.specs.Histories.{History}
use Rattle.ledger_model.specs.Houses.{site_name}
use Rattle.ledger_model.specs.Lines as lines
use Rattle.ledger_model.specs.Answer.{fitted}
use Rattle.said_lines.specs.Lines.{chain_words, chain_end}
use Rattle.wallet_core.specs.WalletView.{WalletView}
use Rattle.wallet_core.specs.declared.outcome.WalletOut.{WalletOut}
use Rattle.wallet_core.specs.declared.outcome.WalletOut.TheVariants as outs
use Rattle.wallet_core.specs.Wallet.{WalletStands}
use Rattle.wallet_core.specs.Outcomes.{outcome_disk}
use Rattle.wallet_core.specs.Switching.{TellsAdded, SwitchesBy, Switches}
use Rattle.wallet_commands.specs.Books.{OldPair, AddPair}
use Rattle.wallet_commands.specs.Chaining.{switch_entry, EndsLine, chained_status, ChainedBy, HasChained}
use Rattle.millicent_http.proofs.AsideLemmas.{TellsAside}
use Rattle.wallet_core.proofs.DiskLemmas.{on_disk}
use Rattle.wallet_commands.proofs.PayLemmas.{AtClock, entry_pairs, unwritten, doubted, old, aside_at}

-- the entry of a Switch at a time, by whether one stands
abbrev entry_by : Bool → History → ℕ → Option Entry
entry_by b h t = if b then None else Some (Switch t (chain h))

module _ {O : Type 0} (disk : O → DiskView) (h : History) (y : WalletView O) (is_disk : (o : O) → IsDisk (disk o)) (st : WalletStands disk y h) where
  -- what became of it
  chained_by : (words line : List ℕ) (b : Bool) (out : WalletOut O (Option ℕ)) → y.book.limits ≡ FULL → words ≡ chain_words (site_name h) → SwitchesBy b disk y h out → EndsLine disk out words line
      → ChainedBy (disk (outcome_disk out)) h (entry_by b h y.book.time) (chained_status line out)
  chained_by words line true (outs.Done x None) limits begun stays ends' = (ends' h stays.0.stands ∙ ap (λ (w : List ℕ). w ++ chain_end (length h) (chain h)) begun, on_disk disk x h stays.0.stands)
  chained_by words line true (outs.Done x (Some n)) limits begun stays ends' = absurd stays
  chained_by words line true (outs.Refused x f) limits begun stays ends' = absurd stays
  chained_by words line true (outs.NoMemory x) limits begun stays ends' = absurd stays
  chained_by words line true (outs.Halted d) limits begun stays ends' = absurd stays
  chained_by words line false (outs.Done x a) limits begun performs ends' =
      let g : History = h ++ Switch y.book.time (chain h) ∷ [] in
      (ends' g performs.adds.0.stands ∙ ap (λ (w : List ℕ). w ++ chain_end (length g) (chain g)) begun, on_disk disk x g performs.adds.0.stands)
  chained_by words line false (outs.Refused x f) limits begun performs ends' =
      (subst (λ (l : Limits). fitted h l (Switch y.book.time (chain h)) ≡ Err (lines.Refuse f)) limits performs.adds.0, on_disk disk x h performs.adds.1.stands)
  chained_by words line false (outs.NoMemory x) limits begun performs ends' = on_disk disk x h performs.adds.1.stands
  chained_by words line false (outs.Halted d) limits begun performs ends' = doubted disk h y (Switch y.book.time (chain h)) d (TellsAdded h) (is_disk d) st performs.adds performs.ran

  -- and what a crash left
  chained_pairs : (tells : Type 0) (before : DiskView) (line : List ℕ) (b : Bool) (out : WalletOut O (Option ℕ)) → Ran before (disk y.journal.disk) (OldPair tells before h) → (tells → (disk y.journal.disk).aside ≡ before.aside)
      → SwitchesBy b disk y h out → Ran before (disk (outcome_disk out)) (AddPair tells before h (entry_by b h y.book.time) (chained_status line out))
  chained_pairs tells before line true (outs.Done x None) stood same stays = unwritten disk tells before h y.journal.disk x.journal.disk stood same stays.1
  chained_pairs tells before line true (outs.Done x (Some n)) stood same stays = absurd stays
  chained_pairs tells before line true (outs.Refused x f) stood same stays = absurd stays
  chained_pairs tells before line true (outs.NoMemory x) stood same stays = absurd stays
  chained_pairs tells before line true (outs.Halted d) stood same stays = absurd stays
  chained_pairs tells before line false (outs.Done x a) stood same performs = entry_pairs disk tells before h y (Switch y.book.time (chain h)) (outs.Done x a) stood same performs.ran
  chained_pairs tells before line false (outs.Refused x f) stood same performs = unwritten disk tells before h y.journal.disk x.journal.disk stood same performs.ran
  chained_pairs tells before line false (outs.NoMemory x) stood same performs = unwritten disk tells before h y.journal.disk x.journal.disk stood same performs.ran
  chained_pairs tells before line false (outs.Halted d) stood same performs = entry_pairs {A = Option ℕ} disk tells before h y (Switch y.book.time (chain h)) (outs.Halted d) stood same performs.ran

module _ {O : Type 0} (link : O → LinkView) (disk : O → DiskView) (bytes : List ℕ) (a : O) (x y : WalletView O) (moment : ℕ) (all : TellsAside link (λ o. (disk o).aside)) (at : AtClock link disk bytes a x y moment) where
  -- once the clock was read
  pub has_chained : (words line : List ℕ) (out : WalletOut O (Option ℕ)) → ((o : O) → IsDisk (disk o)) → y.book.limits ≡ FULL → words ≡ chain_words (site_name at.opened.opened.history) → link (outcome_disk out) ≡ link y.journal.disk
      → Switches disk y at.opened.opened.history out → EndsLine disk out words line
      → HasChained link disk at.opened.opened.history (switch_entry at.opened.opened.history y.book.time) a (link y.journal.disk) (chained_status line out) (outcome_disk out)
  has_chained words line out is_disk limits begun same switches ends' =
      let h : History = at.opened.opened.history in
      record {
        did = chained_by disk h y is_disk at.stands words line (has_switch h) out limits begun switches ends';
        link' = same;
        pairs = chained_pairs disk h y is_disk at.stands (IsSome (link a).sessions) (disk a) line (has_switch h) out (old link disk bytes a x y moment all at) (aside_at link disk bytes a x y moment all at) switches;
      }
