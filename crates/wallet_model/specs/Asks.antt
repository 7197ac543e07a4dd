-- What a wallet asks for, the piece that it chooses, and the bytes of its request.
use Rattle.std.specs.Prelude.{ℕ, ◌&&◌, Bool, nat_lt, nat_le, max, if◌then◌else◌, List, ◌++◌, Option, Some, None, Result, Ok, Err, option_map, filter_map, filter, fold, codes, bytes_eq}
use Rattle.std.specs.List.{enumerate_from, reduce}
use Rattle.hex.specs.Hex.{encode_lower}
use Rattle.scrip_form.specs.Scrip.{Scrip}
use Rattle.scrip_certs.specs.Digests.{request_signature, request_text}
use Rattle.mc_requests.specs.declared.refusal.Refusal.{Refusal}
use Rattle.mc_requests.specs.declared.refusal.Refusal.TheVariants.{NoFunds, NothingDue}
use Rattle.mc_requests.specs.Errands as errands
use Rattle.mc_requests.specs.Errands.{errand_text}
use Rattle.mc_requests.specs.Replies.{field, field_if, or_dash}
use Rattle.mc_requests.specs.Requests.{Asked}
use Rattle.mc_records.specs.Entry.{Entry, Pend}
use Rattle.ledger_model.specs.Histories.{History}
use Rattle.ledger_model.specs.Pieces.{piece_of}
use Rattle.wallet_model.specs.Requests.{Pending}
use Rattle.wallet_model.specs.Holdings.{Holding, holdings, is_held}

-- ---- a request and its bytes

-- the signature under the request's secret; `-` stands for the scrip text of a draw
abbrev pub signature_of : Pending → List ℕ
signature_of p = request_signature (or_dash p.scrip) p.target p.secret

-- what its peer is asked
abbrev pub asked_by : Pending → Asked
asked_by p = record { target = p.target; scrip = p.scrip; sign = Some (encode_lower (signature_of p)) }

-- its head, by which its link ends with the reply
unfoldable pub request_bytes : Pending → List ℕ
request_bytes p =
    request_text p.target ++ codes " HTTP/1.1\r\n"
    ++ field (codes "Host") p.peer
    ++ field_if (codes "Millicent-Scrip") p.scrip
    ++ field (codes "Millicent-Sign") (encode_lower (signature_of p))
    ++ field (codes "Connection") (codes "close")
    ++ codes "\r\n"

-- ---- choosing

-- a holding with its place, from 0, and its piece
pub record Offered : Type 0 where
  pub place : ℕ
  pub holding : Holding
  pub piece : Scrip

abbrev pub offered_at : ℕ × Holding → Option Offered
offered_at x = option_map (λ p. record { place = x.0; holding = x.1; piece = p }) (piece_of x.1.text)

-- held, of this vendor, and not expired at a time
abbrev pub is_fit : ℕ → List ℕ → Offered → Bool
is_fit t vendor o = is_held o.holding.state && (nat_lt t o.piece.expires && bytes_eq o.piece.vendor vendor)

abbrev pub fit_for : History → ℕ → List ℕ → List Offered
fit_for h t vendor = filter (is_fit t vendor) (filter_map offered_at (enumerate_from 0 (holdings h)))

-- the one of less value, and of two of the same value the first
abbrev pub lesser : Offered → Offered → Offered
lesser a b = if nat_lt b.piece.value a.piece.value then b else a

abbrev pub greatest_value : List Offered → ℕ
greatest_value fit = fold (λ m o. max m o.piece.value) 0 fit

abbrev pub chosen_of : List Offered → Option Offered → Result Offered Refusal
chosen_of fit (Some o) = Ok o
chosen_of fit None = Err (NoFunds (greatest_value fit))

-- of those that cover a limit the one of least value; else 62 NoFunds with the greatest value, 0 where there are none
abbrev pub chosen_by : List Offered → ℕ → Result Offered Refusal
chosen_by fit limit = chosen_of fit (reduce lesser (filter (λ o. nat_le limit o.piece.value) fit))

-- the piece that is chosen for a vendor at a time
abbrev pub chosen : History → ℕ → List ℕ → ℕ → Result Offered Refusal
chosen h t vendor limit = chosen_by (fit_for h t vendor) limit

-- ---- renewing

-- the one that ends first, and of two that end together the first
abbrev pub sooner : Offered → Offered → Offered
sooner a b = if nat_lt b.piece.expires a.piece.expires then b else a

-- of those that end at a moment at the latest the one that ends first
abbrev pub due_of : List Offered → ℕ → Option Offered
due_of fit before = reduce sooner (filter (λ o. nat_le o.piece.expires before) fit)

-- the piece of a vendor that is due for renewal at a time
abbrev pub due : History → ℕ → List ℕ → ℕ → Option Offered
due h t vendor before = due_of (fit_for h t vendor) before

-- ---- what is asked

-- Goods of a vendor; scrip of a vendor for scrip of a broker; scrip of a broker out of an account, signed under the
-- account's key, under an order. A limit is the least that the piece that pays is worth.
pub data Asking : Type 0 where
  get : (vendor target : List ℕ) (limit : ℕ) → Asking
  buy : (broker vendor : List ℕ) (amount limit : ℕ) → Asking
  draw : (broker account key : List ℕ) (order amount : ℕ) → Asking

abbrev pub paid_with : ℕ → ℕ → List ℕ → List ℕ → Result Offered Refusal → Result Entry Refusal
paid_with t ask peer target (Ok o) = Ok (Pend t ask peer target (Some o.holding.text) o.holding.secret)
paid_with t ask peer target (Err refusal) = Err refusal

-- the Pend entry of what is asked at a time, or 62 NoFunds
abbrev pub pend_entry : History → ℕ → Asking → Result Entry Refusal
pend_entry h t (get vendor target limit) = paid_with t 0 vendor target (chosen h t vendor limit)
pend_entry h t (buy broker vendor amount limit) = paid_with t 1 broker (errand_text (errands.buy vendor amount)) (chosen h t broker limit)
pend_entry h t (draw broker account key order amount) = Ok (Pend t 2 broker (errand_text (errands.draw account order amount)) None key)

-- 80 NothingDue where none is
abbrev pub or_none_due : Option Offered → Result Offered Refusal
or_none_due (Some o) = Ok o
or_none_due None = Err NothingDue

-- the Pend entry of a renewal at a time: of goods of a vendor, with the piece that is due; or 80 NothingDue
abbrev pub due_entry : History → ℕ → (vendor target : List ℕ) (before : ℕ) → Result Entry Refusal
due_entry h t vendor target before = paid_with t 0 vendor target (or_none_due (due h t vendor before))
