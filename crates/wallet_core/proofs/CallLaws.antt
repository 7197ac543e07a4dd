-- What there is to do, by the tasks of a wallet.
use Rattle.std.proofs.Common.{◌≡◌, ℕ, zero, suc, ◌<◌, List, [], ◌∷◌, ◌++◌, map, Bool, true, false, cond, Option, Some, None, Ok, Err, refl, sym, ap, subst, arith}
use Rattle.std.proofs.lemmas.Bool.{false≢true}
use Rattle.std.specs.Prelude.{Result, ◌==◌, ◌&&◌, not, ◌↔◌, ◌≤◌, IsTrue, IsSome, option_map, is_ok}
use Rattle.std.specs.Result.{result_ok}
use Rattle.scrip_form.specs.Scrip.{Scrip}
use Rattle.scrip_form.specs.Reading.{scrip_of, is_scrip}
use Rattle.ledger_model.specs.Pieces.{piece_of}
use Rattle.mc_requests.specs.declared.refusal.Refusal.{Refusal}
use Rattle.mc_requests.specs.declared.refusal.Refusal.TheVariants.{BadReply, Unproved}
use Rattle.mc_records.specs.Entry.{Held, Entry, Got, Fits, IsMoment, IsLong, moment_of}
use Rattle.ledger_model.specs.Histories.{History}
use Rattle.wallet_model.specs.Requests.{Pending, pending_in, is_kept}
use Rattle.wallet_model.specs.Follows.{IsWalletBook}
use Rattle.wallet_model.specs.Holdings.{texts_came}
use Rattle.wallet_model.specs.Laws.{HasItsPiece}
use Rattle.wallet_model.specs.Settling.{fits_request, is_proved, check_of}
use Rattle.wallet_model.proofs.FitLaws.{settlement_fits, requests_have}
use Rattle.millicent_http.specs.Received.{Received}
use Rattle.wallet_book.specs.Kept.{kept_in}
use Rattle.wallet_core.specs.declared.request.WalletRequest.{WalletRequest}
use Rattle.wallet_core.specs.Requests.{pending_view, pend_of}
use Rattle.wallet_core.specs.Asks as asks
use Rattle.wallet_core.specs.Settled.{settlement_with}
use Rattle.wallet_core.proofs.SettledLaws.{by_texts}
use Rattle.wallet_core.specs.Answers.{MayCheck}

-- ---- a settlement by the texts of the pieces that came

-- pieces of these texts
bare : List (List ℕ) → List Held
bare [] = []
bare (t ∷ ts) = record { text = t; secret = [] } ∷ bare ts

bare_texts : (ts : List (List ℕ)) → map (λ (p : Held). p.text) (bare ts ++ []) ≡ ts
unfolding bare
bare_texts [] = refl
bare_texts (t ∷ ts) = ap (λ (xs : List (List ℕ)). t ∷ xs) (bare_texts ts)

-- it is in the ranges of its entry, whatever came before
pub settled_fits : (texts : List (List ℕ)) (t n : ℕ) (p : Pending) (r : Received) → IsMoment t → IsLong n → HasItsPiece p.ask p.scrip → check_of p r ≡ None → Fits (settlement_with texts t n p r)
settled_fits texts t n p r moment number has passes =
    let h : History = Got 0 (bare texts) ∷ [] in
    let came : texts_came h ≡ texts = bare_texts texts in
    subst (λ (ts : List (List ℕ)). Fits (settlement_with ts t n p r)) came
    (subst Fits (sym (by_texts h t n p r)) (settlement_fits h t n p r moment number has passes))

-- it is made at its time
pub settled_now : (texts : List (List ℕ)) (t n : ℕ) (p : Pending) (r : Received) → moment_of (settlement_with texts t n p r) ≡ t
unfolding settlement_with
settled_now texts t n p r = go (r.status == 200) _ _ refl refl
  where
    go : (b : Bool) (x y : Entry) → moment_of x ≡ t → moment_of y ≡ t → moment_of (cond b x y) ≡ t
    go true x y a b = a
    go false x y a b = b

-- ---- what is asked

pub answered : (t : ℕ) (todo : Result Entry Refusal) (p : WalletRequest) → asks.Answers t todo (Ok p) → todo ≡ Ok (pend_of t (pending_view p))
answered t (Ok e) p is = ap (λ (x : Entry). Ok x) is
answered t (Err f) p is = absurd is

pub not_answered : (t : ℕ) (todo : Result Entry Refusal) (f : Refusal) → asks.Answers t todo (Err f) → todo ≡ Err f
not_answered t (Ok e) f is = absurd is
not_answered t (Err g) f is = ap (λ (x : Refusal). Err x) (sym is)

-- ---- whether a reply settles a request

pub checks_so : (p : Pending) (r : Received) (f : Refusal) → check_of p r ≡ Some f → MayCheck f
unfolding check_of
checks_so p r f is = go (r.status == 200 && not (fits_request p r)) (not (is_proved p r)) is
  where
    go : (a b : Bool) → cond a (Some BadReply) (cond b (Some Unproved) None) ≡ Some f → MayCheck f
    go true b e = let same : BadReply ≡ f = cc in subst MayCheck same tt
    go false true e = let same : Unproved ≡ f = cc in subst MayCheck same tt
    go false false e = absurd cc

-- ---- the piece of a request

-- the test tells whether a text has a piece
pub scrip_has : (text : List ℕ) → IsTrue (is_scrip text) ↔ IsSome (piece_of text)
unfolding is_scrip
scrip_has text = go (scrip_of text)
  where
    go : (r : Result (Scrip × List ℕ) ℕ) → IsTrue (is_ok r) ↔ IsSome (option_map (λ y. y.0) (result_ok r))
    go (Ok x) = (λ yes'. refl, λ some. refl)
    go (Err place) = (λ no'. absurd (false≢true no'), λ some. absurd (false≢true some))

pub draws_have : (ask : ℕ) (scrip : Option (List ℕ)) → 2 ≤ ask → HasItsPiece ask scrip
draws_have zero scrip le = absurd (omega arith)
draws_have (suc zero) scrip le = absurd (omega arith)
draws_have (suc (suc ask)) scrip le = tt

pub has_text : (ask : ℕ) (text : List ℕ) (b : Bool) → ask < 2 → IsTrue b ↔ IsSome (piece_of text) → IsTrue b ↔ HasItsPiece ask (Some text)
has_text zero text b lt is = is
has_text (suc zero) text b lt is = is
has_text (suc (suc ask)) text b lt is = absurd (omega arith)

pub has_none : (ask : ℕ) → ask < 2 → HasItsPiece ask None → ⊥
has_none zero lt has = has
has_none (suc zero) lt has = has
has_none (suc (suc ask)) lt has = absurd (omega arith)

-- of a kept one
pub kept_has : (h : History) (n : ℕ) (p : Pending) → IsWalletBook h → kept_in h n ≡ Some p → HasItsPiece p.ask p.scrip
kept_has h n p book kept = requests_have h n p book (go (is_kept h n) kept)
  where
    go : (b : Bool) → cond b (pending_in h n) None ≡ Some p → pending_in h n ≡ Some p
    go true is = is
    go false is = absurd cc
