-- How a reply settled a request.
use Rattle.std.specs.Prelude.{◌≡◌, ℕ, ◌==◌, if◌then◌else◌, List, Option, Some, option_and_then, unwrap_or}
use Rattle.scrip_form.specs.Scrip.{Scrip}
use Rattle.mc_records.specs.Entry.{Entry, Done, Refused}
use Rattle.ledger_model.specs.Pieces.{piece_of}
use Rattle.millicent_http.specs.Received.{Received}
use Rattle.wallet_model.specs.Requests.{Pending}
use Rattle.wallet_model.specs.Settling.{price_of, change_came, contents_came, got_came, refusal_number}
use Rattle.wallet_core.specs.declared.settling.Settlement.{Settlement}
use Rattle.wallet_core.specs.declared.settling.Settlement.TheVariants as ends

-- the piece that a buy or a draw brings
abbrev pub bought : ℕ → List ℕ → Option Scrip
bought ask contents = option_and_then (λ p. piece_of p.text) (contents_came ask contents)

-- the price of a get, the piece of a buy or a draw, or the number of a refusal
abbrev pub IsSettledAs : Pending → Received → Settlement → Type 0
IsSettledAs p r (ends.Paid price) = (r.status ≡ 200) × (p.ask ≡ 0) × (price_of r ≡ Some price)
IsSettledAs p r (ends.Got piece) = (r.status ≡ 200) × (bought p.ask r.contents ≡ Some piece)
IsSettledAs p r (ends.Refused number) = (r.status ≡ 200 → ⊥) × (number ≡ refusal_number r.refusal)

-- ---- the entry, by the texts of the pieces that came

abbrev pub done_with : List (List ℕ) → ℕ → ℕ → Pending → Received → Option (List ℕ) → Entry
done_with texts t n p r change = Done t n (unwrap_or (price_of r) 0) change (got_came texts change p.ask r.contents)

-- `settlement`, where the texts of the pieces that came are these
unfoldable pub settlement_with : List (List ℕ) → ℕ → ℕ → Pending → Received → Entry
settlement_with texts t n p r =
    if r.status == 200 then done_with texts t n p r (change_came texts r.change)
    else Refused t n (refusal_number r.refusal)
