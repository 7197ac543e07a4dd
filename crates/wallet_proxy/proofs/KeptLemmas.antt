-- The kept requests that a proxy uses a link for.
use Rattle.std.proofs.Common.{◌≡◌, ℕ, suc, ◌+◌, Bool, true, false, cond, List, [], ◌∷◌, ◌++◌, length, take, find, filter, Option, Some, None, refl, sym, ap, ◌∙◌, arith}
use Rattle.std.specs.Prelude.{◌==◌, ◌&&◌, bytes_eq, option_map, option_and_then, filter_map}
use Rattle.std.specs.List.{list_any, enumerate_from, cons_option}
use Rattle.std.proofs.lemmas.List.Folds.{list_any-append}
use Rattle.mc_records.specs.Entry.{Entry, Pend}
use Rattle.ledger_model.specs.Histories.{History}
use Rattle.wallet_model.specs.Requests.{Pending, pending_of, pending_in, settles, numbered, is_open, kept_get}
use Rattle.wallet_model.specs.Asks.{request_bytes}
use Rattle.wallet_core.specs.Checking.{IsWritten}
use Rattle.wallet_model.specs.Follows.{IsWalletBook}
use Rattle.wallet_model.proofs.KeptLaws.{not_true}
use Rattle.wallet_model.proofs.PaidLaws.{book_next}
use Rattle.wallet_book.specs.Kept.{kept_in}
use Rattle.wallet_book.proofs.HoldingLaws.{get_last}

-- a request that no entry settles is kept
kept_by : (h : History) (n : ℕ) (p : Pending) → pending_in h n ≡ Some p → list_any (settles n) h ≡ false → kept_in h n ≡ Some p
kept_by h n p is open' = rw (is, open') refl

-- ---- one that was just entered

asks_only : (e : Entry) (p : Pending) (n : ℕ) → pending_of e ≡ Some p → settles n e ≡ false
asks_only (Pend m ask peer target scrip secret) p n is = refl
asks_only e p n is = absurd (cc is)

pub entered_is_kept : (h : History) (e : Entry) (p : Pending) → IsWalletBook h → pending_of e ≡ Some p → kept_in (h ++ e ∷ []) (length h) ≡ Some p
entered_is_kept h e p lawful is =
    kept_by (h ++ e ∷ []) (length h) p (ap (option_and_then pending_of) (get_last h e) ∙ is)
    (list_any-append (settles (length h)) h (e ∷ []) ∙ (rw (book_next h lawful, asks_only e p (length h) is) refl))

-- ---- the oldest of which a test holds

-- what was found among the requests of some entries, of which the first has the number k
record FoundAmong (h : History) (k : ℕ) (es : History) (x : ℕ × Pending) : Type 0 where
  place : ℕ
  number : x.0 ≡ k + place
  here : pending_in es place ≡ Some x.1
  unsettled : is_open h x ≡ true

later : (h : History) (k : ℕ) (e : Entry) (es : History) (x : ℕ × Pending) → FoundAmong h (k + 1) es x → FoundAmong h k (e ∷ es) x
later h k e es x at = record { place = suc at.place; number = omega (arith, at.number); here = at.here; unsettled = at.unsettled }

-- the kept ones of the requests of some entries, of which the first has the number k
abbrev behind : History → ℕ → History → List (ℕ × Pending)
behind h k es = filter (is_open h) (filter_map numbered (enumerate_from k es))

module _ (h : History) (test : ℕ × Pending → Bool) (k : ℕ) (e : Entry) (es : History) (x : ℕ × Pending) (next : find test (behind h (k + 1) es) ≡ Some x → FoundAmong h k (e ∷ es) x) where
  by_test : (p : Pending) → pending_of e ≡ Some p → is_open h (k, p) ≡ true → (b : Bool) → cond b (Some (k, p)) (find test (behind h (k + 1) es)) ≡ Some x → FoundAmong h k (e ∷ es) x
  by_test p asks unsettled true found =
      let same : (k, p) ≡ x = cc in
      record { place = 0; number = ap (λ (y : ℕ × Pending). y.0) (sym same) ∙ omega arith; here = asks ∙ ap (λ (y : ℕ × Pending). Some y.1) same; unsettled = ap (is_open h) (sym same) ∙ unsettled }
  by_test p asks unsettled false found = next found

  by_open : (p : Pending) → pending_of e ≡ Some p → (b : Bool) → is_open h (k, p) ≡ b → find test (cond b ((k, p) ∷ behind h (k + 1) es) (behind h (k + 1) es)) ≡ Some x → FoundAmong h k (e ∷ es) x
  by_open p asks true unsettled found = by_test p asks unsettled (test (k, p)) found
  by_open p asks false settled found = next found

  by_entry : (o : Option Pending) → pending_of e ≡ o → find test (filter (is_open h) (cons_option (option_map (λ p. (k, p)) o) (filter_map numbered (enumerate_from (k + 1) es)))) ≡ Some x → FoundAmong h k (e ∷ es) x
  by_entry None asks found = next found
  by_entry (Some p) asks found = by_open p asks (is_open h (k, p)) refl found

found_among : (h : History) (test : ℕ × Pending → Bool) (k : ℕ) (es : History) (x : ℕ × Pending) → find test (behind h k es) ≡ Some x → FoundAmong h k es x
found_among h test k [] x is = absurd (cc is)
found_among h test k (e ∷ es) x is = by_entry h test k e es x (λ found. later h k e es x (found_among h test (k + 1) es x found)) (pending_of e) refl is

pub get_is_kept : (h : History) (vendor target : List ℕ) (x : ℕ × Pending) → kept_get h vendor target ≡ Some x → (kept_in h x.0 ≡ Some x.1) × (pending_in h x.0 ≡ Some x.1)
get_is_kept h vendor target x is =
    let at : FoundAmong h 0 h x = found_among h (λ y. y.1.ask == 0 && (bytes_eq y.1.peer vendor && bytes_eq y.1.target target)) 0 h x is in
    let number : at.place ≡ x.0 = omega (arith, at.number) in
    let here : pending_in h x.0 ≡ Some x.1 = ap (pending_in h) (sym number) ∙ at.here in
    (kept_by h x.0 x.1 here (not_true (list_any (settles x.0) h) at.unsettled), here)

-- ---- the bytes of a kept request

pub written_bytes : (o : Option Pending) (p : Pending) (out : List ℕ) (n : ℕ) → o ≡ Some p → IsWritten o out (Some n) → take n out ≡ request_bytes p
written_bytes None p out n is written = absurd (cc is)
written_bytes (Some q) p out n is written = let same : q ≡ p = cc in written.1 ∙ ap request_bytes same

pub written_kept : (o : Option Pending) (out : List ℕ) (n : ℕ) → IsWritten o out (Some n) → (p : Pending) × (o ≡ Some p)
written_kept None out n written = absurd cc
written_kept (Some q) out n written = (q, refl)
