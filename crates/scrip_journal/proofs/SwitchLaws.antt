-- What writing a Switch leaves.
use Rattle.std.proofs.Common.{◌≡◌, ◌∙◌, ℕ, ◌<◌, ◌≤◌, Bool, false, List, [], ◌++◌, length, Option, Some, inl, ⊎_elim, ◌↔◌, refl, sym, ap, subst, arith, length-append}
use Rattle.std.specs.Prelude.{IsTrue}
use Rattle.std.proofs.lemmas.Bool.{true≢false, cases_lt}
use Rattle.mc_fields.specs.Field.{one, eight, number_bytes}
use Rattle.mc_fields.proofs.FieldBytes.{length-number_bytes}
use Rattle.mc_outside.specs.DiskView.{DiskView, IsDisk, OnlyRead, Ran}
use Rattle.mc_outside.proofs.Runs.{ran_none, ran_then, ran_weaker}
use Rattle.mc_records.specs.declared.ranges.TheConstants.{CHAIN_BYTES}
use Rattle.mc_records.specs.Entry.{Entry, Switch, payload}
use Rattle.mc_records.specs.Chains.{chain, has_switch}
use Rattle.mc_records.specs.Sizes.{entry_size, framed_size, tail_bytes}
use Rattle.mc_records.proofs.ChainLaws.{length-chain}
use Rattle.mc_records.proofs.SizeLaws.{length-tail, tail_size-by}
use Rattle.scrip_journal.specs.States.{AtRest, IsChainOf, IsJournal}
use Rattle.scrip_journal.specs.Rests.{journal_leaves}
use Rattle.scrip_journal.specs.Exits.{EitherNoOutput}
use Rattle.scrip_journal.specs.declared.switching.TheConstants.{SWITCH_PAYLOAD}

-- the payload of a Switch, whatever chain it tells
pub switch_long : (m : ℕ) (c : List ℕ) → length c ≡ CHAIN_BYTES → length (payload (Switch m c)) ≡ SWITCH_PAYLOAD
switch_long m c long = omega (
  arith,
  long,
  length-append (number_bytes one 17) (number_bytes eight m ++ (c ++ [])),
  length-append (number_bytes eight m) (c ++ []),
  length-append c [],
  length-number_bytes one 17,
  length-number_bytes eight m,
)

-- what it adds to a journal of this history
pub switch_adds : (h : List Entry) (m : ℕ) (switched : Bool) → switched ≡ has_switch h → entry_size h (Switch m (chain h)) ≡ framed_size SWITCH_PAYLOAD (tail_bytes switched)
switch_adds h m switched is = omega (arith, switch_long m (chain h) (length-chain h), ap tail_bytes is, length-tail h (Switch m (chain h)), tail_size-by h)

-- what is not full has room
pub within_limit : (full : Bool) (limit needed : ℕ) → IsTrue full ↔ (limit < needed) → full ≡ false → needed ≤ limit
within_limit full limit needed decides spare = ⊎_elim (λ over. absurd (true≢false (sym (decides.1 over) ∙ spare))) (λ within. within) (cases_lt limit needed)

-- a chain that a journal knows is that of its entries
pub chain_found : {D : Type 0} (view : D → DiskView) (j : AtRest D) (h : List Entry) (c : List ℕ) → IsJournal view j h → j.chain ≡ Some c → c ≡ chain h
chain_found view j h c is known = subst (λ (o : Option (List ℕ)). IsChainOf o h) known is.chain_is

-- nothing was done
pub ran_unwritten : {D : Type 0} (view : D → DiskView) (j : AtRest D) (h : List Entry) (e : Entry) → IsDisk (view j.disk) → IsJournal view j h → Ran (view j.disk) (view j.disk) (EitherNoOutput h e (view j.disk).aside)
ran_unwritten view j h e disk is = ran_none (view j.disk) (EitherNoOutput h e (view j.disk).aside) disk (λ c l. (inl (journal_leaves view j h is c l), refl))

-- the entries were read
pub ran_read : {D : Type 0} (view : D → DiskView) (j : AtRest D) (b : DiskView) (h : List Entry) (e : Entry) → IsJournal view j h → OnlyRead (view j.disk) b → Ran (view j.disk) b (EitherNoOutput h e (view j.disk).aside)
ran_read view j b h e is read = ran_weaker (view j.disk) b _ (EitherNoOutput h e (view j.disk).aside) read.ran (λ c s p. (inl (journal_leaves view j h is c p.0), p.1))

-- and then one was written
pub ran_read_then : {D : Type 0} (view : D → DiskView) (j : AtRest D) (b d : DiskView) (h : List Entry) (e f : Entry) → IsJournal view j h → OnlyRead (view j.disk) b → f ≡ e → Ran b d (EitherNoOutput h f b.aside) → Ran (view j.disk) d (EitherNoOutput h e (view j.disk).aside)
ran_read_then view j b d h e f is read same ran =
    ran_then (view j.disk) b d (EitherNoOutput h e (view j.disk).aside) (ran_read view j b h e is read)
    (subst (λ (x : List ℕ). Ran b d (EitherNoOutput h e x)) read.aside (subst (λ (g : Entry). Ran b d (EitherNoOutput h g b.aside)) same ran))
