-- How a reply settles a kept request.
use Rattle.std.specs.Prelude.{ℕ, zero, suc, ◌+◌, ◌==◌, ◌&&◌, Bool, true, false, not, nat_lt, if◌then◌else◌, List, [], ◌∷◌, ◌++◌, Option, Some, None, option_map, option_and_then, option_to_list, unwrap_or, codes, bytes_eq, Result, Ok}
use Rattle.std.specs.Result.{result_ok}
use Rattle.hex.specs.Hex.{encode_lower}
use Rattle.mc_fields.specs.Reading.{number_at}
use Rattle.scrip_form.specs.Scrip.{Scrip}
use Rattle.scrip_certs.specs.Digests.{reply_signature}
use Rattle.mc_requests.specs.declared.refusal.Refusal.{Refusal}
use Rattle.mc_requests.specs.declared.refusal.Refusal.TheVariants.{BadReply, Unproved}
use Rattle.mc_base.specs.declared.amount.TheConstants.Amount.{MOST}
use Rattle.mc_requests.specs.Errands.{Errand, buy, draw, errand_of}
use Rattle.mc_requests.specs.Replies.{or_dash}
use Rattle.mc_records.specs.Entry.{Held, Entry, Done, Refused}
use Rattle.piece_lines.specs.declared.rule.PieceRule.TheVariants.{Any}
use Rattle.piece_lines.specs.Rules.{passes}
use Rattle.piece_lines.specs.PieceLines.{input_lines}
use Rattle.ledger_model.specs.Histories.{History}
use Rattle.ledger_model.specs.Pieces.{piece_of}
use Rattle.millicent_http.specs.Decimals.{decimal_of}
use Rattle.wallet_model.specs.Requests.{Pending}
use Rattle.wallet_model.specs.Holdings.{texts_came}
use Rattle.wallet_model.specs.Newness.{is_new}
use Rattle.millicent_http.specs.Received.{Received}
use Rattle.wallet_model.specs.Received.{line_read}

-- ---- the values of a 200

-- the price, which is at most the greatest amount: no piece pays more
abbrev pub price_of : Received → Option ℕ
price_of r = decimal_of MOST r.price

-- Whether a text is change of a piece at a price: a piece of the same vendor, for the same customer and with the same
-- props, of the value that is left.
abbrev pub is_change : Scrip → ℕ → Option Scrip → Bool
is_change paid price (Some p) = bytes_eq p.vendor paid.vendor && (p.cust == paid.cust && (bytes_eq p.props paid.props && p.value + price == paid.value))
is_change paid price None = false

-- A piece pays a price of at most its value: there is change where some is left, and `-` where none is.
abbrev pub is_paid_by : Option Scrip → ℕ → List ℕ → Bool
is_paid_by None price change = true
is_paid_by (Some paid) price change =
    if price == paid.value then bytes_eq change (codes "-")
    else nat_lt price paid.value && is_change paid price (piece_of change)

abbrev pub sole : Result (List Held) ℕ → Option Held
sole (Ok (p ∷ [])) = Some p
sole _ = None

-- the piece whose line the contents are
abbrev pub one_line : List ℕ → Option Held
one_line contents = sole (input_lines (passes Any) contents)

-- whether contents are one piece line, of a piece of a vendor with a value
abbrev pub is_piece_of : List ℕ → ℕ → List ℕ → Bool
is_piece_of vendor value contents =
    unwrap_or (option_map (λ p. bytes_eq p.vendor vendor && p.value == value) (option_and_then (λ x. piece_of x.text) (one_line contents))) false

-- a buy brings the piece that its target names
abbrev pub brings_bought : Option Errand → List ℕ → Bool
brings_bought (Some (buy vendor amount)) contents = is_piece_of vendor amount contents
brings_bought _ contents = false

-- a draw brings a piece of its peer of the amount that its target names, which is its price too, and no change
abbrev pub brings_drawn : List ℕ → Option Errand → ℕ → List ℕ → List ℕ → Bool
brings_drawn peer (Some (draw account order amount)) price change contents = bytes_eq change (codes "-") && (price == amount && is_piece_of peer amount contents)
brings_drawn peer _ price change contents = false

abbrev pub brings_asked : Pending → ℕ → ℕ → Received → Bool
brings_asked p zero price r = true
brings_asked p (suc zero) price r = brings_bought (errand_of p.target) r.contents
brings_asked p (suc (suc ask)) price r = brings_drawn p.peer (errand_of p.target) price r.change r.contents

abbrev pub fits_at : Pending → Received → Option ℕ → Bool
fits_at p r None = false
fits_at p r (Some price) = is_paid_by (option_and_then piece_of p.scrip) price r.change && brings_asked p p.ask price r

-- whether the values of a 200 are those that a request may get
abbrev pub fits_request : Pending → Received → Bool
fits_request p r = fits_at p r (price_of r)

-- ---- the check

-- whether a reply is signed under the request's secret
abbrev pub is_proved : Pending → Received → Bool
is_proved p r = bytes_eq r.sign (encode_lower (reply_signature (or_dash p.scrip) p.target (line_read r) r.contents p.secret))

-- 65 BadReply, 66 Unproved, or nothing: the reply settles the request
unfoldable pub check_of : Pending → Received → Option Refusal
check_of p r =
    if r.status == 200 && not (fits_request p r) then Some BadReply
    else if not (is_proved p r) then Some Unproved
    else None

-- ---- the settlement

-- the number that a text begins with, before a space; 0 where it begins with none or with 0
abbrev pub number_before : List ℕ → ℕ
number_before text = unwrap_or (option_map (λ x. x.0) (result_ok (number_at 0xffff 32 text))) 0

-- the number of a refusal, which its text begins with
abbrev pub refusal_number : Option (List ℕ) → ℕ
refusal_number None = 0
refusal_number (Some text) = number_before text

-- the change of a reply, where it is new
abbrev pub change_came : List (List ℕ) → List ℕ → Option (List ℕ)
change_came texts text = if bytes_eq text (codes "-") then None else if is_new texts text then Some text else None

-- a piece, where it is new
abbrev pub if_new : List (List ℕ) → Option Held → Option Held
if_new texts (Some p) = if is_new texts p.text then Some p else None
if_new texts None = None

-- the piece in the contents of a buy or a draw
abbrev pub contents_came : ℕ → List ℕ → Option Held
contents_came zero contents = None
contents_came (suc ask) contents = one_line contents

-- the piece in the contents, where it is new to the pieces of some texts and to the change
abbrev pub got_came : List (List ℕ) → Option (List ℕ) → ℕ → List ℕ → Option Held
got_came texts change ask contents = if_new (option_to_list change ++ texts) (contents_came ask contents)

abbrev pub done_entry : History → ℕ → ℕ → Pending → Received → Option (List ℕ) → Entry
done_entry h t n p r change = Done t n (unwrap_or (price_of r) 0) change (got_came (texts_came h) change p.ask r.contents)

-- The entry by which a reply settles the request of a number at a time. The change, and then the piece in the contents,
-- come where no piece of their vendor with their identity came before.
unfoldable pub settlement : History → ℕ → ℕ → Pending → Received → Entry
settlement h t n p r =
    if r.status == 200 then done_entry h t n p r (change_came (texts_came h) r.change)
    else Refused t n (refusal_number r.refusal)
