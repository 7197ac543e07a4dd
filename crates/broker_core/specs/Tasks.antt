-- What there is to do by a command of a broker's operator, and what is answered.
use Rattle.std.specs.Prelude.{◌≡◌, ◌==◌, ◌||◌, nat_lt, ℕ, if◌then◌else◌, List, [], length, find, count_by, Bool, Option, Some, None, option_map, Result, Ok, Err}
use Rattle.std.specs.List.{list_any}
use Rattle.scrip_form.specs.Issuing.{Issuing}
use Rattle.mc_requests.specs.declared.refusal.Refusal.{Refusal}
use Rattle.mc_requests.specs.declared.refusal.Refusal.TheVariants.{BadInput, StockTwice, LicenceTwice}
use Rattle.mc_records.specs.Pieces.{pieces_bytes}
use Rattle.mc_records.specs.Entry.{Held, Entry, Licence, Stock, Fits, moment_of}
use Rattle.ledger_model.specs.Histories.{History}
use Rattle.ledger_model.specs.Accounts.{balance}
use Rattle.ledger_model.specs.Stock.{licence_in, ids_of, stock_ids}
use Rattle.issuer_terms.specs.Terms.{are_same_terms}
use Rattle.piece_lines.specs.Rules.{is_stock_of}
use Rattle.piece_lines.specs.PieceLines.{input_lines}
use Rattle.broker_ledger.specs.Tasks as accounts
use Rattle.house_state.specs.CommandEntries.{IsCommand}
use Rattle.house_core.specs.Tasks.{Task, Add, Stays, Refuse}
use Rattle.house_core.specs.Upgrading.{upgrade_task}
use Rattle.broker_core.specs.Moves.{moved_issuer}

-- ---- accounts

-- a task of the accounts, as one of a house
abbrev pub as_task : accounts.Task → Task
as_task (Ok (Some e)) = Add e
as_task (Ok None) = Stays
as_task (Err f) = Refuse f

abbrev pub account_task : History → ℕ → List ℕ → List ℕ → Task
account_task h t name key = as_task (accounts.account_task h t name key)

abbrev pub deposit_task : History → ℕ → List ℕ → ℕ → List ℕ → Task
deposit_task h t name amount reference = as_task (accounts.deposit_task h t name amount reference)

abbrev pub withdraw_task : History → ℕ → List ℕ → ℕ → List ℕ → Task
withdraw_task h t name amount reference = as_task (accounts.withdraw_task h t name amount reference)

-- ---- licences

-- A licence is taken where the vendor has none. Under the same terms nothing is added; 59 LicenceTwice tells the
-- issuer of those that stand.
abbrev pub licensed : ℕ → List ℕ → Issuing → Option Issuing → Task
licensed t vendor terms None = Add (Licence t vendor terms)
licensed t vendor terms (Some x) = if are_same_terms x terms then Stays else Refuse (LicenceTwice x.issuer)

abbrev pub licence_task : History → ℕ → List ℕ → Issuing → Task
licence_task h t vendor terms = licensed t vendor terms (licence_in h vendor)

-- What there is to do where an issuer is to be moved by the name of a vendor, from an epoch on. The order of refusals, 71,
-- then after the test for the same 72 and 73, is that of every house.
abbrev pub upgrade_licence_task : History → ℕ → List ℕ → ℕ → Task
upgrade_licence_task h t vendor from = upgrade_task h t vendor (moved_issuer h vendor) from

-- ---- stock

-- whether an identity stands twice among some
abbrev pub stands_twice : List ℕ → ℕ → Bool
stands_twice ids id = nat_lt 1 (count_by (λ k. k == id) ids)

-- the first of some identities that is known already, or stands a second time anywhere among them
abbrev pub first_twice : List ℕ → List ℕ → Option ℕ
first_twice known ids = find (λ id. list_any (λ k. k == id) known || stands_twice ids id) ids

-- Why an input is not taken as stock where these identities are known: 53 BadInput tells the line at which it breaks the
-- form of piece lines, or has a piece of another vendor, or one that is not first-hand; then 57 StockTwice tells the first
-- identity that is known or stands twice.
abbrev pub stock_refusal : List ℕ → Result (List Held) ℕ → Option Refusal
stock_refusal known (Ok pieces) = option_map StockTwice (first_twice known (ids_of pieces))
stock_refusal known (Err line) = Some (BadInput line)

-- the pieces that an input has
abbrev pub pieces_in : Result (List Held) ℕ → List Held
pieces_in (Ok pieces) = pieces
pieces_in (Err line) = []

abbrev pub unless : Entry → Option Refusal → Task
unless e None = Add e
unless e (Some f) = Refuse f

-- the pieces of a vendor that an input has, as his stock; or the line at which it breaks
abbrev pub stock_lines : List ℕ → List ℕ → Result (List Held) ℕ
stock_lines vendor lines = input_lines (is_stock_of vendor) lines

abbrev pub stock_task : History → ℕ → List ℕ → List ℕ → Task
stock_task h t vendor lines =
    unless (Stock t vendor (pieces_in (stock_lines vendor lines))) (stock_refusal (stock_ids h vendor) (stock_lines vendor lines))

-- the lines are of pieces that have these elements
pub record IsReadAs (vendor lines elements : List ℕ) : Type 0 where
  pub pieces : List Held
  pub read : stock_lines vendor lines ≡ Ok pieces
  pub elements' : elements ≡ pieces_bytes pieces

-- ---- what is entered

-- P of the entry to add, where there is one
abbrev pub IfAdded : (Entry → Type 0) → Task → Type 0
IfAdded P (Add e) = P e
IfAdded P _ = Unit {0}

-- an entry of a command at a time, in its ranges
pub record IsCommandAt (t : ℕ) (e : Entry) : Type 0 where
  pub fits : Fits e
  pub command : IsCommand e
  pub at : moment_of e ≡ t

-- ---- what is answered

-- the balance of the account of a name as it stands then
abbrev pub TellsBalance : List ℕ → Task → History → ℕ → Type 0
TellsBalance name task g answer = answer ≡ balance g name

-- how many pieces were put into stock
abbrev pub TellsCount : List ℕ → List ℕ → Task → History → ℕ → Type 0
TellsCount vendor lines task g answer = answer ≡ length (pieces_in (stock_lines vendor lines))
