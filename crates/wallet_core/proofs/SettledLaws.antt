-- What a settlement is where the reply passes the check.
use Rattle.std.proofs.Common.{◌≡◌, ℕ, Bool, true, false, cond, ◌&&◌, not, List, [], ◌∷◌, Option, Some, None, unwrap_or, refl, sym, ap, subst, ◌∙◌}
use Rattle.std.specs.Prelude.{◌==◌}
use Rattle.std.specs.List.{list_any}
use Rattle.scrip_form.specs.Scrip.{Scrip}
use Rattle.mc_requests.specs.declared.refusal.Refusal.TheVariants.{BadReply, Unproved}
use Rattle.mc_records.specs.Entry.{IsMoment, IsLong}
use Rattle.ledger_model.specs.Histories.{History}
use Rattle.ledger_model.specs.Pieces.{piece_of}
use Rattle.millicent_http.specs.Received.{Received}
use Rattle.wallet_model.specs.Requests.{Pending, pending_in, is_kept}
use Rattle.wallet_model.specs.Holdings.{texts_came}
use Rattle.wallet_model.specs.Newness.{is_same_piece, are_one_piece, is_new}
use Rattle.wallet_model.specs.Settling.{price_of, fits_at, fits_request, is_proved, check_of, settlement}
use Rattle.wallet_model.proofs.WrittenLaws.{settlement_follows}
use Rattle.wallet_model.proofs.FitLaws.{settlement_fits, requests_have}
use Rattle.wallet_book.specs.Holdings.{texts_of}
use Rattle.wallet_book.specs.Kept.{kept_in}
use Rattle.wallet_book.specs.Book.{BookView, WalletRepresents}
use Rattle.wallet_book.proofs.PartLaws.{came_texts}
use Rattle.wallet_core.specs.Requests.{CanEnter}
use Rattle.wallet_core.specs.Settled.{settlement_with}

-- ---- the entry

pub by_texts : (h : History) (t n : ℕ) (p : Pending) (r : Received) → settlement_with (texts_came h) t n p r ≡ settlement h t n p r
unfolding settlement settlement_with
by_texts h t n p r = refl

pub settled_here : (b : BookView) (h : History) (t n : ℕ) (p : Pending) (r : Received) → WalletRepresents b h → settlement_with (texts_of b.holdings) t n p r ≡ settlement h t n p r
settled_here b h t n p r is = ap (λ (texts : List (List ℕ)). settlement_with texts t n p r) (sym (came_texts h b.holdings is.parts.pieces)) ∙ by_texts h t n p r

record IsKept (h : History) (n : ℕ) (p : Pending) : Type 0 where
  kept : is_kept h n ≡ true
  request : pending_in h n ≡ Some p

kept_is : (h : History) (n : ℕ) (p : Pending) → kept_in h n ≡ Some p → IsKept h n p
kept_is h n p is = go (is_kept h n) refl is
  where
    go : (b : Bool) → is_kept h n ≡ b → cond b (pending_in h n) None ≡ Some p → IsKept h n p
    go true e i = record { kept = e; request = i }
    go false e i = absurd cc

pub settlement_enters : (b : BookView) (h : History) (n : ℕ) (p : Pending) (r : Received) → WalletRepresents b h → IsMoment b.time → IsLong n → kept_in h n ≡ Some p → check_of p r ≡ None → CanEnter h (settlement h b.time n p r)
settlement_enters b h n p r is moment number kept checked =
    let k = kept_is h n p kept in
    record {
      follows = settlement_follows h b.time n p r is.lawful is.in_time k.kept;
      fits = settlement_fits h b.time n p r moment number (requests_have h n p is.lawful k.request) checked;
    }

-- ---- what passes the check

may_fit : {A : Type 0} (x y : A) (a b : Bool) → cond (true && not a) (Some x) (cond (not b) (Some y) None) ≡ None → a ≡ true
may_fit x y true b e = refl
may_fit x y false b e = absurd cc

fits_200 : (p : Pending) (r : Received) → check_of p r ≡ None → r.status ≡ 200 → fits_at p r (price_of r) ≡ true
unfolding check_of
fits_200 p r checked status = may_fit BadReply Unproved (fits_request p r) (is_proved p r) (subst (λ (s : ℕ). cond (s == 200 && not (fits_request p r)) (Some BadReply) (cond (not (is_proved p r)) (Some Unproved) None) ≡ None) status checked)

some_price : (p : Pending) (r : Received) (o : Option ℕ) → fits_at p r o ≡ true → o ≡ Some (unwrap_or o 0)
some_price p r (Some price) fits = refl
some_price p r None fits = absurd cc

pub paid_price : (p : Pending) (r : Received) → check_of p r ≡ None → r.status ≡ 200 → price_of r ≡ Some (unwrap_or (price_of r) 0)
paid_price p r checked status = some_price p r (price_of r) (fits_200 p r checked status)

-- ---- new pieces

same_as_none : (o : Option Scrip) → is_same_piece o None ≡ false
same_as_none (Some p) = refl
same_as_none None = refl

pub no_piece_is_new : (texts : List (List ℕ)) (text : List ℕ) → piece_of text ≡ None → is_new texts text ≡ true
no_piece_is_new texts text none = ap not (go texts)
  where
    go : (ts : List (List ℕ)) → list_any (λ t. are_one_piece t text) ts ≡ false
    go [] = refl
    go (t ∷ ts) = let first : are_one_piece t text ≡ false = ap (is_same_piece (piece_of t)) none ∙ same_as_none (piece_of t) in rw (first, go ts) refl
