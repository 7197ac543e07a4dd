-- What holds of chains.
use Rattle.std.proofs.Common.{◌≡◌, ℕ, Bool, true, false, ◌||◌, List, [], ◌∷◌, ◌++◌, length, refl, sym, ◌∙◌, ap}
use Rattle.sha2.proofs.Facts256.{length-sha256}
use Rattle.mc_records.specs.declared.ranges.TheConstants.{CHAIN_BYTES}
use Rattle.mc_records.specs.Entry.{Entry, payload}
use Rattle.mc_records.specs.Chains.{first_chain, chain_after, chain_from, chain, is_switch, has_switch}

pub length-chain_after : (c p : List ℕ) → length (chain_after c p) ≡ CHAIN_BYTES
unfolding chain_after
length-chain_after c p = length-sha256 (c ++ p)

chain_from-more : (c : List ℕ) (h : List Entry) (e : Entry) → chain_from c (h ++ e ∷ []) ≡ chain_after (chain_from c h) (payload e)
chain_from-more c [] e = refl
chain_from-more c (x ∷ h) e = chain_from-more (chain_after c (payload x)) h e

-- the chain of no entries
pub chain-none : chain [] ≡ first_chain
unfolding chain
chain-none = refl

-- the chain goes on with each entry
pub chain-more : (h : List Entry) (e : Entry) → chain (h ++ e ∷ []) ≡ chain_after (chain h) (payload e)
unfolding chain
chain-more h e = chain_from-more first_chain h e

chain_from_long : (c : List ℕ) (h : List Entry) → length c ≡ CHAIN_BYTES → length (chain_from c h) ≡ CHAIN_BYTES
chain_from_long c [] long = long
chain_from_long c (x ∷ h) long = chain_from_long (chain_after c (payload x)) h (length-chain_after c (payload x))

pub length-chain : (h : List Entry) → length (chain h) ≡ CHAIN_BYTES
unfolding chain
length-chain h = chain_from_long first_chain h refl

-- a Switch stands once it was entered, and stays
pub has_switch-more : (h : List Entry) (e : Entry) → has_switch (h ++ e ∷ []) ≡ (has_switch h || is_switch e)
has_switch-more [] e = or_false (is_switch e) where
  or_false : (b : Bool) → (b || false) ≡ b
  or_false true = refl
  or_false false = refl
has_switch-more (x ∷ h) e = ap (λ (b : Bool). is_switch x || b) (has_switch-more h e) ∙ sym (or_assoc (is_switch x) (has_switch h) (is_switch e)) where
  or_assoc : (a b c : Bool) → ((a || b) || c) ≡ (a || (b || c))
  or_assoc true b c = refl
  or_assoc false b c = refl

-- the same, the entry first
pub has_switch-first : (h : List Entry) (e : Entry) → has_switch (h ++ e ∷ []) ≡ (is_switch e || has_switch h)
has_switch-first h e = has_switch-more h e ∙ or_comm (has_switch h) (is_switch e) where
  or_comm : (a b : Bool) → (a || b) ≡ (b || a)
  or_comm true true = refl
  or_comm true false = refl
  or_comm false true = refl
  or_comm false false = refl
