-- Reading bytes one after the other, as a loop does.
use Rattle.std.proofs.Common.{◌≡◌, ℕ, suc, ◌-◌, ◌+◌, ◌*◌, ◌≤◌, ◌<◌, List, [], ◌∷◌, ◌++◌, length, take, drop, set, Some, Ok, Err, refl, sym, ap, ◌∙◌, append_assoc, slice_index_or, arith}
use Rattle.std.proofs.lemmas.List.{append-nil, take_all, take_more_set, length-set, drop_more}
use Rattle.mc_fields.specs.Reading.{Read, ◌>>=◌, pair_at, map_read, digit_of, digit_at, byte_at, hex_at}
use Rattle.mc_fields.proofs.Formats.{done, failed}

-- what was read before, and what is still read
abbrev pub with_front : List ℕ → Read (List ℕ) → Read (List ℕ)
with_front front read = map_read (λ bytes. front ++ bytes) read

-- what a byte read before others gives
regroup : (front : List ℕ) (b : ℕ) (read : Read (List ℕ)) → with_front front (map_read (λ bytes. b ∷ bytes) read) ≡ with_front (front ++ b ∷ []) read
regroup front b (Ok x) = ap (λ (bytes : List ℕ). done (bytes, x.1)) (simp append_assoc)
regroup front b (Err f) = refl

-- the reading of so many bytes, as a loop has come with it
pub record IsSoFar (count i : ℕ) (out rest : List ℕ) (total : Read (List ℕ)) : Type 0 where
  pub size : length out ≡ count
  pub reads : with_front (take i out) (hex_at (count - i) rest) ≡ total

-- what is read behind a value that was
abbrev with_first : {A B : Type 0} → A → Read B → Read (A × B)
with_first a read = read >>= λ b. Ok ((a, b.0), b.1)

hex_joined : (high low : ℕ) (last : Read (List ℕ))
    → map_read {A = ℕ × (ℕ × List ℕ)} (λ x. (x.0 * 16 + x.1.0) ∷ x.1.1) (with_first high (with_first low last)) ≡ map_read {A = ℕ × List ℕ} (λ x. x.0 ∷ x.1) (with_first (high * 16 + low) last)
hex_joined high low (Ok x) = refl
hex_joined high low (Err e) = refl

hex_low : (n high : ℕ) (low : Read ℕ)
    → map_read {A = ℕ × (ℕ × List ℕ)} (λ x. (x.0 * 16 + x.1.0) ∷ x.1.1) (with_first high (low >>= λ b. with_first b.0 (hex_at n b.1)))
    ≡ map_read {A = ℕ × List ℕ} (λ x. x.0 ∷ x.1) (map_read {A = ℕ × ℕ} (λ x. x.0 * 16 + x.1) (with_first high low) >>= λ a. with_first a.0 (hex_at n a.1))
hex_low n high (Ok x) = hex_joined high x.0 (hex_at n x.1)
hex_low n high (Err e) = refl

hex_high : (n : ℕ) (high : Read ℕ)
    → map_read {A = ℕ × (ℕ × List ℕ)} (λ x. (x.0 * 16 + x.1.0) ∷ x.1.1) (high >>= λ a. with_first a.0 (pair_at digit_at (hex_at n) a.1))
    ≡ map_read {A = ℕ × List ℕ} (λ x. x.0 ∷ x.1) (map_read {A = ℕ × ℕ} (λ x. x.0 * 16 + x.1) (high >>= λ a. with_first a.0 (digit_at a.1)) >>= λ a. with_first a.0 (hex_at n a.1))
hex_high n (Ok x) = hex_low n x.0 (digit_at x.1)
hex_high n (Err e) = refl

-- so many bytes and one are that one and then the others
hex_by_byte : (n : ℕ) (rest : List ℕ) → hex_at (suc n) rest ≡ map_read {A = ℕ × List ℕ} (λ x. x.0 ∷ x.1) (pair_at byte_at (hex_at n) rest)
unfolding hex_at byte_at
hex_by_byte n rest = hex_high n (digit_at rest)

byte_joined : (b : ℕ) (read : Read (List ℕ)) → map_read {A = ℕ × List ℕ} (λ x. x.0 ∷ x.1) (with_first b read) ≡ map_read (λ bytes. b ∷ bytes) read
byte_joined b (Ok x) = refl
byte_joined b (Err e) = refl

hex_step : (n : ℕ) (rest tail : List ℕ) (b : ℕ) → byte_at rest ≡ done (b, tail) → hex_at (suc n) rest ≡ map_read (λ bytes. b ∷ bytes) (hex_at n tail)
hex_step n rest tail b h = hex_by_byte n rest ∙ rw h (byte_joined b (hex_at n tail))

byte_of : (c d high low : ℕ) (tail : List ℕ) → digit_of c ≡ Some high → digit_of d ≡ Some low → byte_at (c ∷ d ∷ tail) ≡ done (high * 16 + low, tail)
unfolding byte_at digit_at
byte_of c d high low tail is_high is_low = rw (is_high, is_low) refl

-- the byte at a place of a list is that of the two digits that stand there
pub byte_at_place : (front rest : List ℕ) (i high low : ℕ) → 2 * i + 1 < length front → digit_of (slice_index_or front (2 * i) 0) ≡ Some high → digit_of (slice_index_or front (2 * i + 1) 0) ≡ Some low
    → byte_at (drop (2 * i) front ++ rest) ≡ done (high * 16 + low, drop (2 * (i + 1)) front ++ rest)
byte_at_place front rest i high low lt is_high is_low =
    let next : 2 * i + 1 + 1 ≡ 2 * (i + 1) = omega arith in
    rw (drop_more front (2 * i) 0 (omega (arith, lt)), drop_more front (2 * i + 1) 0 lt, next)
    (byte_of (slice_index_or front (2 * i) 0) (slice_index_or front (2 * i + 1) 0) high low (drop (2 * (i + 1)) front ++ rest) is_high is_low)

pub hex_goes_on : (count i : ℕ) (out rest tail : List ℕ) (b : ℕ) (total : Read (List ℕ)) → i < count → byte_at rest ≡ done (b, tail)
    → IsSoFar count i out rest total → IsSoFar count (i + 1) (set out i b) tail total
hex_goes_on count i out rest tail b total lt h so_far = record {
  size = length-set out i b ∙ so_far.size;
  reads =
      let within : i < length out = omega (arith, so_far.size) in
      let k : count - i ≡ suc (count - (i + 1)) = omega arith in
      let step : with_front (take i out) (hex_at (count - i) rest) ≡ with_front (take i out ++ b ∷ []) (hex_at (count - (i + 1)) tail) =
      rw (k, hex_step (count - (i + 1)) rest tail b h) (regroup (take i out) b (hex_at (count - (i + 1)) tail)) in
      rw (take_more_set out i b within) (sym step ∙ so_far.reads);
}

pub hex_ends : (count i : ℕ) (out rest : List ℕ) (left : ℕ) (total : Read (List ℕ)) → i < count → byte_at rest ≡ failed left → IsSoFar count i out rest total → total ≡ failed left
hex_ends count i out rest left total lt h so_far =
    let k : count - i ≡ suc (count - (i + 1)) = omega arith in
    let one : with_front (take i out) (hex_at (count - i) rest) ≡ failed left = rw (k, hex_by_byte (count - (i + 1)) rest, h) refl in
    sym so_far.reads ∙ one

pub hex_is_read : (count i : ℕ) (out rest : List ℕ) (total : Read (List ℕ)) → count ≤ i → IsSoFar count i out rest total → total ≡ done (out, rest)
unfolding hex_at
hex_is_read count i out rest total le so_far =
    let k : count - i ≡ 0 = omega arith in
    let all : take i out ≡ out = take_all i out (omega (arith, so_far.size)) in
    let one : with_front (take i out) (hex_at (count - i) rest) ≡ done (out, rest) = rw (k, all) (ap (λ (bytes : List ℕ). done (bytes, rest)) (append-nil out)) in
    sym so_far.reads ∙ one

front_is_nil : (read : Read (List ℕ)) → with_front [] read ≡ read
front_is_nil (Ok x) = refl
front_is_nil (Err e) = refl

pub hex_starts : (count : ℕ) (out rest : List ℕ) → length out ≡ count → IsSoFar count 0 out rest (hex_at count rest)
hex_starts count out rest size = record { size = size; reads = let k : count - 0 ≡ count = omega arith in rw k (front_is_nil (hex_at count rest)) }
