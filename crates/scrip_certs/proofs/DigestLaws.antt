-- Digests of either version have 16 bytes.
use Rattle.std.proofs.Common.{◌≡◌, ℕ, zero, suc, ◌<◌, Bool, true, false, cond, List, length, take, get_or, arith}
use Rattle.std.specs.Prelude.{◌==◌, All}
use Rattle.std.specs.Int.{w32, to_le_bytes, to_be_bytes}
use Rattle.std.proofs.lemmas.List.{length-take-le}
use Rattle.std.proofs.lemmas.List.Elements.{All-nil, All-append, All-from_recursion, All-take}
use Rattle.md5.specs.Md5.{md5}
use Rattle.md5.specs.Md5 as first
use Rattle.md5.proofs.StandardFacts.{length-md5}
use Rattle.sha2.specs.Sha256.{sha256}
use Rattle.sha2.specs.Sha256 as second
use Rattle.sha2.proofs.Facts256.{length-sha256}
use Rattle.scrip_certs.specs.Digests.{digest}

pub length-digest : (version : ℕ) (m : List ℕ) → length (digest version m) ≡ 16
unfolding digest
length-digest version m = go (version == 2)
  where
    go : (b : Bool) → length (cond b (take 16 (sha256 m)) (md5 m)) ≡ 16
    go true = length-take-le 16 (sha256 m) (omega (arith, length-sha256 m))
    go false = length-md5 m

first_below : (h : List ℕ) (n : ℕ) → All (λ b. b < 256) (first.digest_bytes h n)
unfolding first.digest_bytes
first_below h zero = All-nil (λ b. b < 256)
first_below h (suc n) = All-append (λ b. b < 256) (first.digest_bytes h n) (to_le_bytes w32 (get_or h n 0)) (first_below h n) (word (get_or h n 0))
  where
    word : (x : ℕ) → All (λ b. b < 256) (to_le_bytes w32 x)
    word x = All-from_recursion (λ b. b < 256) (to_le_bytes w32 x) (omega arith, (omega arith, (omega arith, (omega arith, tt))))

second_below : (h : List ℕ) (n : ℕ) → All (λ b. b < 256) (second.digest_bytes h n)
unfolding second.digest_bytes
second_below h zero = All-nil (λ b. b < 256)
second_below h (suc n) = All-append (λ b. b < 256) (second.digest_bytes h n) (to_be_bytes w32 (get_or h n 0)) (second_below h n) (word (get_or h n 0))
  where
    word : (x : ℕ) → All (λ b. b < 256) (to_be_bytes w32 x)
    word x = All-from_recursion (λ b. b < 256) (to_be_bytes w32 x) (omega arith, (omega arith, (omega arith, (omega arith, tt))))

pub digest_below : (version : ℕ) (m : List ℕ) → All (λ b. b < 256) (digest version m)
unfolding digest md5 sha256
digest_below version m = go (version == 2)
  where
    go : (b : Bool) → All (λ b. b < 256) (cond b (take 16 (sha256 m)) (md5 m))
    go true = All-take (λ b. b < 256) 16 (sha256 m) (second_below _ 8)
    go false = first_below _ 4
