-- What the sizes of tails keep, whatever a tail holds.
use Rattle.std.proofs.Common.{◌≡◌, ℕ, ◌≤◌, Bool, true, false, List, [], ◌∷◌, ◌++◌, length, refl, ap, arith}
use Rattle.mc_records.specs.Entry.{Entry}
use Rattle.mc_records.specs.Chains.{chain, has_switch}
use Rattle.mc_records.specs.Sizes.{tail, tail_by, tail_bytes, tail_size}
use Rattle.mc_records.proofs.ChainLaws.{length-chain}

-- how many bytes a tail has that is there or not
tail_long : (c : List ℕ) (b : Bool) → length c ≡ 32 → length (tail_by b c) ≡ tail_bytes b
tail_long c true long = long
tail_long c false long = refl

-- the tail of an entry that comes next has the size that every such tail has
pub length-tail : (before : List Entry) (e : Entry) → length (tail before e) ≡ tail_size before
unfolding tail tail_size
length-tail before e = tail_long (chain (before ++ e ∷ [])) (has_switch before) (length-chain (before ++ e ∷ []))

-- the size of a tail, by whether a Switch stands
pub tail_size-by : (before : List Entry) → tail_size before ≡ tail_bytes (has_switch before)
unfolding tail_size
tail_size-by before = refl

-- the tail of an entry, by whether a Switch stands
pub tail-by : (before : List Entry) (e : Entry) → tail before e ≡ tail_by (has_switch before) (chain (before ++ e ∷ []))
unfolding tail
tail-by before e = refl

-- without a Switch there is no tail
pub no_tail : (before : List Entry) (e : Entry) → has_switch before ≡ false → tail before e ≡ []
unfolding tail
no_tail before e none = ap (λ (b : Bool). tail_by b (chain (before ++ e ∷ []))) none

-- a tail is short
pub tail_size_is_short : (before : List Entry) → tail_size before ≤ 32
unfolding tail_size
tail_size_is_short before = short (has_switch before) where
  short : (b : Bool) → tail_bytes b ≤ 32
  short true = omega arith
  short false = omega arith

pub tail_is_short : (before : List Entry) (e : Entry) → length (tail before e) ≤ 64
tail_is_short before e = omega (arith, length-tail before e, tail_size_is_short before)
