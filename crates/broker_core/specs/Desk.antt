-- What a desk represents.
use Rattle.std.specs.Prelude.{◌≡◌, ℕ, false, List, [], Option, Some, None, option_map, unwrap_or, Result}
use Rattle.mc_requests.specs.Errands.{Errand, pay_in}
use Rattle.mc_records.specs.Entry.{Entry, Site, Accept, Account, Deposit, Withdraw, Draw, Licence, Stock, Upgrade, Switch, Note}
use Rattle.ledger_model.specs.Histories.{History}
use Rattle.ledger_model.specs.Houses.{fee}
use Rattle.ledger_model.specs.Accounts.{account_in, balance}
use Rattle.ledger_model.specs.Stock.{licence_in, stock_ids, knows_vendor}
use Rattle.ledger_model.specs.Stages.{Offer, credit_by}
use Rattle.ledger_model.specs.Lines.{Stop}
use Rattle.ledger_model.specs.declared.numbers.TheConstants.{BROKER_KIND}
use Rattle.kept_replies.specs.declared.deed.Deed.{Deed}
use Rattle.kept_replies.specs.declared.deed.Deed.TheVariants as kept
use Rattle.broker_ledger.specs.Ledger.{Represents, HasRoom, AccountsAllow}
use Rattle.broker_stalls.specs.Vendors.{StallsRepresent, StallsHaveRoom, StallsAllow}
use Rattle.house_state.specs.Trade.{TradeView}
use Rattle.broker_core.specs.declared.desk.Desk.{Desk}
use Rattle.broker_core.specs.Moves.{MovesRepresent, MovesHaveRoom, MovesAllow}

-- accounts, stalls, moved issuers and fee are what a history says
pub record DeskRepresents (d : Desk) (h : History) : Type 0 where
  pub of_accounts : Represents d.accounts h
  pub of_stalls : StallsRepresent d.stalls h
  pub of_moves : MovesRepresent d.moves h
  pub of_fee : fee h ≡ d.fee

-- there is room for what an entry adds
abbrev pub DeskHasRoom : Desk → Entry → Type 0
DeskHasRoom d e = HasRoom d.accounts e × StallsHaveRoom d.stalls e × MovesHaveRoom d.moves e

-- what has to hold of accounts and stalls for an entry of an operator to come next
abbrev pub PartsAllow : History → Entry → Type 0
PartsAllow h e = AccountsAllow h e × StallsAllow h e

-- and of the issuers that were moved
abbrev pub DeskAllows : History → Entry → Type 0
DeskAllows h e = PartsAllow h e × MovesAllow h e

-- a broker has nothing of a vendor, and has not heard of him
pub record HasNothingOf (h : History) (vendor : List ℕ) : Type 0 where
  pub licence : licence_in h vendor ≡ None
  pub stock : stock_ids h vendor ≡ []
  pub known : knows_vendor h vendor ≡ false

-- what a desk means: the trade of a broker, which has no goods
abbrev pub desk_view : Desk → TradeView
desk_view d = record { represents = DeskRepresents d; site = BROKER_KIND; has_room = DeskHasRoom d; holds = λ n. ⊥ }

-- what is offered for a piece whose value is asked to be credited in an account
abbrev pub credit_offer : History → List ℕ → ℕ → Result Offer Stop
credit_offer h account value = credit_by (option_map (λ _. balance h account) (account_in h account)) value

-- a deed that gives credit
abbrev pub IsCredit : Deed → Type 0
IsCredit (kept.Credit balance) = Unit {0}
IsCredit _ = ⊥

-- the account that an errand asks credit in
abbrev pub account_credited : Option Errand → Option (List ℕ)
account_credited (Some (pay_in account)) = Some account
account_credited _ = None

-- an entry of a kind that a broker learns
abbrev pub IsOfBroker : Entry → Type 0
IsOfBroker (Site m kind name house) = Unit {0}
IsOfBroker (Account m name key) = Unit {0}
IsOfBroker (Deposit m name amount reference) = Unit {0}
IsOfBroker (Withdraw m name amount reference) = Unit {0}
IsOfBroker (Accept m scrip target sign price change deed) = Unit {0}
IsOfBroker (Draw m target sign drawn) = Unit {0}
IsOfBroker (Licence m vendor terms) = Unit {0}
IsOfBroker (Stock m vendor pieces) = Unit {0}
IsOfBroker (Upgrade m vendor issuer from) = Unit {0}
IsOfBroker (Switch m chain) = Unit {0}
IsOfBroker (Note m tag bytes) = Unit {0}
IsOfBroker _ = ⊥

-- the fee after an entry: a Site entry of a house sets it
abbrev pub fee_by : ℕ → Entry → ℕ
fee_by before (Site m kind name house) = unwrap_or (option_map (λ x. x.fee) house) before
fee_by before _ = before
