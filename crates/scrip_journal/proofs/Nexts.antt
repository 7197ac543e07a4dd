-- What comes at a gate, case by case.
use Rattle.std.proofs.Common.{◌≡◌, ◌≢◌, Bool, true, false, cond, ℕ, ◌+◌, ◌≤◌, ◌<◌, List, [], ◌∷◌, ◌++◌, length, take, drop, Result, Ok, Err, refl, sym, ◌∙◌, ap, subst, arith, ltb, leb, bytes_eq, length-append}
use Rattle.std.specs.Int.{from_be_bytes, to_be_bytes, w32}
use Rattle.std.proofs.lemmas.List.{take_at, drop_at}
use Rattle.std.proofs.lemmas.Nat.{from_be_bytes-to_be_bytes_4}
use Rattle.std.proofs.lemmas.Slice.Eq.{bytes_eq-Decides}
use Rattle.std.proofs.lemmas.Bool.{lt-ltb, le-ltb, le-leb, lt-leb, ne_eqb}
use Rattle.mc_records.specs.declared.sizes.TheConstants.{PAYLOAD_BOUND}
use Rattle.mc_requests.specs.declared.limits.TheConstants.Limits.{MOST_JOURNAL}
use Rattle.mc_records.specs.Entry.{Entry, Fits, payload}
use Rattle.mc_records.specs.Sizes.{tail, tail_size}
use Rattle.mc_records.proofs.EntryLaws.{payload_only}
use Rattle.mc_records.proofs.PayloadSizes.{payload_is_short}
use Rattle.mc_records.specs.Forms.{entry_of}
use Rattle.scrip_journal.specs.Layout.{body, Next, at_end, entered, spoiled, unchained, next_tail, next_payload, next_framed, next_behind, next_of}

-- ---- behind a payload

-- the disk ends in the tail
pub tail_cut : (h : List Entry) (place : ℕ) (e : Entry) (rest : List ℕ) → length rest < tail_size h → next_tail h place e rest ≡ spoiled (place + length rest)
tail_cut h place e rest cut = rw (lt-ltb (length rest) (tail_size h) cut) refl

-- the tail is there
pub tail_there : (h : List Entry) (place : ℕ) (e : Entry) (rest : List ℕ) → tail_size h ≤ length rest → take (tail_size h) rest ≡ tail h e → next_tail h place e rest ≡ entered e
tail_there h place e rest whole same = rw (le-ltb (length rest) (tail_size h) whole, (bytes_eq-Decides (take (tail_size h) rest) (tail h e)).1 same) refl

-- another chain is there
pub tail_other : (h : List Entry) (place : ℕ) (e : Entry) (rest : List ℕ) → tail_size h ≤ length rest → take (tail_size h) rest ≢ tail h e
    → next_tail h place e rest ≡ unchained place (take (tail_size h) rest) (tail h e)
tail_other h place e rest whole other = rw (le-ltb (length rest) (tail_size h) whole, differ (bytes_eq (take (tail_size h) rest) (tail h e)) refl) refl where
  differ : (b : Bool) → b ≡ bytes_eq (take (tail_size h) rest) (tail h e) → bytes_eq (take (tail_size h) rest) (tail h e) ≡ false
  differ true is = absurd (other ((bytes_eq-Decides (take (tail_size h) rest) (tail h e)).0 (sym is)))
  differ false is = sym is

-- ---- at a gate

module _ (h : List Entry) (gate : ℕ) (place : gate ≡ length (body h)) where
  pub nothing_there : next_of h [] ≡ spoiled gate
  nothing_there = ap spoiled (sym place)

  pub closed_there : (byte : ℕ) (rest : List ℕ) → byte ≢ 1 → next_of h (byte ∷ rest) ≡ at_end
  closed_there byte rest shut = rw (ne_eqb byte 1 shut) refl

  -- behind an open gate
  behind : (rest : List ℕ) (n : Next) → next_behind h (gate + 1) rest ≡ n → next_of h (1 ∷ rest) ≡ n
  behind rest n is = subst (λ (p : ℕ). next_behind h (p + 1) rest ≡ n) place is

  pub length_cut : (rest : List ℕ) → length rest < 4 → next_of h (1 ∷ rest) ≡ spoiled (gate + 1 + length rest)
  length_cut rest cut = behind rest _ (rw (lt-ltb (length rest) 4 cut) refl)

  module _ (n : ℕ) (rest : List ℕ) (n_is : from_be_bytes w32 (take 4 rest) ≡ n) (four : 4 ≤ length rest) where
    -- behind the length
    behind_length : (next : Next) → next_framed h (gate + 1) n (drop 4 rest) ≡ next → next_of h (1 ∷ rest) ≡ next
    behind_length next is =
        behind rest next (rw (le-ltb (length rest) 4 four) (subst (λ (k : ℕ). next_framed h (gate + 1) k (drop 4 rest) ≡ next) (sym n_is) is))

    pub long_there : PAYLOAD_BOUND ≤ n → next_of h (1 ∷ rest) ≡ spoiled (gate + 1)
    long_there long = behind_length _ (rw (le-leb PAYLOAD_BOUND n long) refl)

    pub far_there : n < PAYLOAD_BOUND → MOST_JOURNAL < gate + n + tail_size h + 6 → next_of h (1 ∷ rest) ≡ spoiled (gate + 1)
    far_there short far =
        behind_length _ (rw (lt-leb PAYLOAD_BOUND n short, lt-ltb MOST_JOURNAL (gate + 1 + 4 + n + tail_size h + 1) (omega (arith, far))) refl)

    module _ (short : n < PAYLOAD_BOUND) (near : gate + n + tail_size h + 6 ≤ MOST_JOURNAL) where
      pub payload_cut : length (drop 4 rest) < n → next_of h (1 ∷ rest) ≡ spoiled (gate + 5 + length (drop 4 rest))
      payload_cut cut =
          behind_length _ (rw (lt-leb PAYLOAD_BOUND n short, le-ltb MOST_JOURNAL (gate + 1 + 4 + n + tail_size h + 1) (omega (arith, near)), lt-ltb (length (drop 4 rest)) n cut) (ap spoiled (omega arith)))

      pub payload_there : n ≤ length (drop 4 rest) → (read : Result Entry ℕ) → entry_of (take n (drop 4 rest)) ≡ read → next_of h (1 ∷ rest) ≡ next_payload h (gate + 5) n read (drop n (drop 4 rest))
      payload_there whole read is =
          behind_length _ (rw (lt-leb PAYLOAD_BOUND n short, le-ltb MOST_JOURNAL (gate + 1 + 4 + n + tail_size h + 1) (omega (arith, near)), le-ltb (length (drop 4 rest)) n whole)
          (ap (λ (r : Result Entry ℕ). next_payload h (gate + 1 + 4) n r (drop n (drop 4 rest))) is ∙ ap (λ (p : ℕ). next_payload h p n read (drop n (drop 4 rest))) (omega arith)))

  -- an entry's length and payload stand behind an open gate
  pub behind_payload : (e : Entry) (rest : List ℕ) → Fits e → gate + length (payload e) + tail_size h + 6 ≤ MOST_JOURNAL
      → next_of h (1 ∷ (to_be_bytes w32 (length (payload e)) ++ (payload e ++ rest))) ≡ next_tail h (gate + 5 + length (payload e)) e rest
  behind_payload e rest fits near =
      let n = length (payload e) in
      let bytes = to_be_bytes w32 n in
      let all : List ℕ = bytes ++ (payload e ++ rest) in
      let short : n < PAYLOAD_BOUND = payload_is_short e fits in
      let back : drop 4 all ≡ payload e ++ rest = drop_at bytes (payload e ++ rest) 4 refl in
      let n_is : from_be_bytes w32 (take 4 all) ≡ n = ap (λ (l : List ℕ). from_be_bytes w32 l) (take_at bytes (payload e ++ rest) 4 refl) ∙ from_be_bytes-to_be_bytes_4 n (omega (arith, short)) in
      let four : 4 ≤ length all = omega (arith, length-append bytes (payload e ++ rest)) in
      let whole : n ≤ length (drop 4 all) = omega (arith, ap (λ (l : List ℕ). length l) back, length-append (payload e) rest) in
      let read : entry_of (take n (drop 4 all)) ≡ Ok e = ap (λ (l : List ℕ). entry_of (take n l)) back ∙ ap entry_of (take_at (payload e) rest n refl) ∙ payload_only e fits in
      payload_there n all n_is four short near whole (Ok e) read ∙ ap (λ (l : List ℕ). next_tail h (gate + 5 + n) e l) (ap (λ (l : List ℕ). drop n l) back ∙ drop_at (payload e) rest n refl)

-- it is no end
NotEnd : Next → Type 0
NotEnd at_end = ⊥
NotEnd (entered e) = Unit {0}
NotEnd (spoiled place) = Unit {0}
NotEnd (unchained place stood computed) = Unit {0}

either : (b : Bool) (x y : Next) → NotEnd x → NotEnd y → NotEnd (cond b x y)
either true x y a b = a
either false x y a b = b

tail_no_end : (h : List Entry) (place : ℕ) (e : Entry) (rest : List ℕ) → NotEnd (next_tail h place e rest)
unfolding NotEnd
tail_no_end h place e rest =
    either (ltb (length rest) (tail_size h)) (spoiled (place + length rest)) _ tt
    (either (bytes_eq (take (tail_size h) rest) (tail h e)) (entered e) (unchained place (take (tail_size h) rest) (tail h e)) tt tt)

payload_no_end : (h : List Entry) (place n : ℕ) (read : Result Entry ℕ) (rest : List ℕ) → NotEnd (next_payload h place n read rest)
unfolding NotEnd
payload_no_end h place n (Ok e) rest = tail_no_end h (place + n) e rest
payload_no_end h place n (Err fault) rest = tt

behind_no_end : (h : List Entry) (place : ℕ) (rest : List ℕ) → NotEnd (next_behind h place rest)
unfolding NotEnd
behind_no_end h place rest =
    either (ltb (length rest) 4) (spoiled (place + length rest)) _ tt (framed_no_end (from_be_bytes w32 (take 4 rest)) (drop 4 rest)) where
      framed_no_end : (n : ℕ) (l : List ℕ) → NotEnd (next_framed h place n l)
      framed_no_end n l =
          either (leb PAYLOAD_BOUND n) (spoiled place) _ tt
          (either (ltb MOST_JOURNAL (place + 4 + n + tail_size h + 1)) (spoiled place) _ tt
          (either (ltb (length l) n) (spoiled (place + 4 + length l)) _ tt (payload_no_end h (place + 4) n (entry_of (take n l)) (drop n l))))

-- only a closed gate is an end
pub at_end_is : (h : List Entry) (rest : List ℕ) → next_of h rest ≡ at_end → (gate : ℕ) × (more : List ℕ) × (gate ≢ 1) × (rest ≡ gate ∷ more)
unfolding NotEnd
at_end_is h [] e = absurd (cc e)
at_end_is h (gate ∷ more) e = (gate, more, (λ one. subst NotEnd (sym (ap (λ (g : ℕ). next_of h (g ∷ more)) one) ∙ e) (behind_no_end h (length (body h) + 1) more)), refl)
