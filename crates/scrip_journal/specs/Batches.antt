-- Entries that are gathered in memory behind the closed gate of a journal, and written together.
use Rattle.std.specs.Prelude.{refl, ◌≡◌, ◌≢◌, ◌⊎◌, ℕ, ◌+◌, Bool, List, ◌∷◌, ◌++◌, length, drop, Option, Some, Result, Ok, Err}
use Rattle.std.specs.List.{AllByRecursion}
use Rattle.std.proofs.Common.{◌∙◌, subst, sym, ap}
use Rattle.mc_outside.specs.DiskView.{DiskView, LinkKeeps}
use Rattle.mc_records.specs.Entry.{Entry, Fits, payload}
use Rattle.mc_records.specs.Chains.{has_switch}
use Rattle.mc_records.specs.Sizes.{size, framed_size, tail_bytes}
use Rattle.scrip_journal.specs.Layout.{gated, body, Encodes}
use Rattle.scrip_journal.specs.States.{IsChainOf}

-- A journal at rest whose disk has this gate closed, and behind it in memory the bytes of entries, each behind an open gate.
-- `first` is how many entries the disk has; the number of entries, whether a Switch stands and the chain are those with the
-- ones gathered.
pub record InBatch (D : Type 0) : Type 0 where
  pub disk : D
  pub gate : ℕ
  pub block : List ℕ
  pub first : ℕ
  pub entries : ℕ
  pub limit : ℕ
  pub switched : Bool
  pub chain : Option (List ℕ)

-- The disk tells its bytes, which encode the first entries, and a crash now leaves just them; the others are gathered.
pub record IsBatch {D : Type 0} (view : D → DiskView) (b : InBatch D) (h es : List Entry) : Type 0 where
  pub bytes : List ℕ
  pub told : (view b.disk).contents ≡ Some bytes
  pub stands : Encodes h bytes
  pub more_fit : AllByRecursion Fits es
  pub gate_is : b.gate + 1 ≡ size h
  pub block_is : b.block ≡ gated h es
  pub first_is : b.first ≡ length h
  pub entries_is : b.entries ≡ length (h ++ es)
  pub switched_is : b.switched ≡ has_switch (h ++ es)
  pub chain_is : IsChainOf b.chain (h ++ es)
  pub synced : (c : List ℕ) → (view b.disk).leaves c → c ≡ bytes

-- The same, where the disk has the others too, behind the gate that is still closed, but for the gate of the first.
pub record IsBatchWritten {D : Type 0} (view : D → DiskView) (b : InBatch D) (h es : List Entry) : Type 0 where
  pub bytes : List ℕ
  pub told : (view b.disk).contents ≡ Some bytes
  pub fits : AllByRecursion Fits h
  pub more_fit : AllByRecursion Fits es
  pub gate : ℕ
  pub rest : List ℕ
  pub closed : gate ≢ 1
  pub shape : bytes ≡ body h ++ gate ∷ (drop 1 b.block ++ 0 ∷ rest)
  pub gate_is : b.gate + 1 ≡ size h
  pub block_is : b.block ≡ gated h es
  pub first_is : b.first ≡ length h
  pub entries_is : b.entries ≡ length (h ++ es)
  pub switched_is : b.switched ≡ has_switch (h ++ es)
  pub chain_is : IsChainOf b.chain (h ++ es)
  pub synced : (c : List ℕ) → (view b.disk).leaves c → c ≡ bytes

-- the numbers of entries that stand: so many, from the first one on
pub record ReceiptsView : Type 0 where
  pub first : ℕ
  pub count : ℕ

-- how many bytes the journal has with one entry more, and how many the buffer needs with it
abbrev pub with_entry : {D : Type 0} → InBatch D → Entry → ℕ
with_entry b e = b.gate + 1 + length b.block + framed_size (length (payload e)) (tail_bytes b.switched)

abbrev pub block_with : {D : Type 0} → InBatch D → Entry → ℕ
block_with b e = length b.block + 1 + framed_size (length (payload e)) (tail_bytes b.switched)

-- the disk that comes back from writing, whatever is answered
abbrev pub batch_disk : {D : Type 0} → Result (InBatch D) D → D
batch_disk (Ok b) = b.disk
batch_disk (Err d) = d

-- a crash pair that encodes the first entries with all of these or with none, with nothing sent
abbrev pub AllOrNone : List Entry → List Entry → List ℕ → List ℕ → List ℕ → Type 0
AllOrNone h es aside c s = (Encodes h c ⊎ Encodes (h ++ es) c) × (s ≡ aside)

-- and from committing
abbrev pub committed_disk : {D X : Type 0} → Result (InBatch D × X) D → D
committed_disk (Ok r) = r.0.disk
committed_disk (Err d) = d

-- ---- while links work

-- only the disk may have changed
pub record BatchRests {D : Type 0} (old new : InBatch D) : Type 0 where
  pub gate : new.gate ≡ old.gate
  pub block : new.block ≡ old.block
  pub first : new.first ≡ old.first
  pub entries : new.entries ≡ old.entries
  pub limit : new.limit ≡ old.limit
  pub switched : new.switched ≡ old.switched
  pub chain : new.chain ≡ old.chain

pub batch_rests_none : {D : Type 0} (a : InBatch D) → BatchRests a a
batch_rests_none a = record { gate = refl; block = refl; first = refl; entries = refl; limit = refl; switched = refl; chain = refl }

pub batch_rests_then : {D : Type 0} (a b c : InBatch D) → BatchRests a b → BatchRests b c → BatchRests a c
batch_rests_then a b c m n = record { gate = n.gate ∙ m.gate; block = n.block ∙ m.block; first = n.first ∙ m.first; entries = n.entries ∙ m.entries; limit = n.limit ∙ m.limit; switched = n.switched ∙ m.switched; chain = n.chain ∙ m.chain }

-- what links do leaves the batch
pub batch_keeps : {D : Type 0} (view : D → DiskView) (b c : InBatch D) (h es : List Entry) → IsBatch view b h es → LinkKeeps (view b.disk) (view c.disk) → BatchRests b c → IsBatch view c h es
batch_keeps view b c h es is keeps rests = record {
  bytes = is.bytes;
  told = keeps.contents ∙ is.told;
  stands = is.stands;
  more_fit = is.more_fit;
  gate_is = ap (λ (n : ℕ). n + 1) rests.gate ∙ is.gate_is;
  block_is = rests.block ∙ is.block_is;
  first_is = rests.first ∙ is.first_is;
  entries_is = rests.entries ∙ is.entries_is;
  switched_is = rests.switched ∙ is.switched_is;
  chain_is = subst (λ (k : Option (List ℕ)). IsChainOf k (h ++ es)) (sym rests.chain) is.chain_is;
  synced = λ i l. is.synced i ((keeps.leaves i).0 l);
}
