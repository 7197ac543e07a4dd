-- What stays of a journal while links work.
use Rattle.std.specs.Prelude.{◌≡◌, refl, ℕ, List, Option}
use Rattle.std.proofs.Common.{◌∙◌}
use Rattle.std.proofs.Common.{subst, sym}
use Rattle.mc_outside.specs.DiskView.{DiskView, LinkKeeps}
use Rattle.mc_records.specs.Entry.{Entry}
use Rattle.scrip_journal.specs.Layout.{Encodes}
use Rattle.scrip_journal.specs.States.{AtRest, IsJournal, IsChainOf}

-- only the disk may have changed
pub record RestsAs {D : Type 0} (old new : AtRest D) : Type 0 where
  pub size : new.size ≡ old.size
  pub entries : new.entries ≡ old.entries
  pub limit : new.limit ≡ old.limit
  pub switched : new.switched ≡ old.switched
  pub chain : new.chain ≡ old.chain

pub rests_none : {D : Type 0} (a : AtRest D) → RestsAs a a
rests_none a = record { size = refl; entries = refl; limit = refl; switched = refl; chain = refl }

pub rests_then : {D : Type 0} (a b c : AtRest D) → RestsAs a b → RestsAs b c → RestsAs a c
rests_then a b c m n = record { size = n.size ∙ m.size; entries = n.entries ∙ m.entries; limit = n.limit ∙ m.limit; switched = n.switched ∙ m.switched; chain = n.chain ∙ m.chain }

-- a crash now leaves what encodes the entries
pub journal_leaves : {D : Type 0} (view : D → DiskView) (j : AtRest D) (h : List Entry) → IsJournal view j h → (c : List ℕ) → (view j.disk).leaves c → Encodes h c
journal_leaves view j h is c l = subst (Encodes h) (sym (is.synced c l)) is.stands

-- what links do leaves the journal
pub journal_keeps : {D : Type 0} (view : D → DiskView) (j k : AtRest D) (h : List Entry) → IsJournal view j h → LinkKeeps (view j.disk) (view k.disk) → RestsAs j k → IsJournal view k h
journal_keeps view j k h is keeps rests = record {
  bytes = is.bytes;
  told = keeps.contents ∙ is.told;
  stands = is.stands;
  size_is = rests.size ∙ is.size_is;
  entries_is = rests.entries ∙ is.entries_is;
  switched_is = rests.switched ∙ is.switched_is;
  chain_is = subst (λ (c : Option (List ℕ)). IsChainOf c h) (sym rests.chain) is.chain_is;
  synced = λ c l. is.synced c ((keeps.leaves c).0 l);
}
