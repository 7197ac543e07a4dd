-- Which entries a trade may learn: the lawfulness of an entry in two halves, of which the house tells
-- one and the trade the other.
use Rattle.std.specs.Prelude.{◌≡◌, ℕ, ◌+◌, ◌<◌, ◌≤◌, ◌⊎◌, ◌==◌, ◌||◌, Bool, IsTrue, IsFalse, IsNone, IsSome, List, [], ◌∷◌, ◌++◌, length, Some, option_and_then, MatchOption}
use Rattle.scrip_form.specs.Issuing.{epoch}
use Rattle.mc_records.specs.declared.ranges.TheConstants.{MOST_IN_ACCOUNT}
use Rattle.mc_requests.specs.declared.limits.Limits.{Limits}
use Rattle.mc_records.specs.Entry.{Entry, Site, AddTerms, Goods, Accept, Mint, Account, Deposit, Withdraw, Draw, Licence, Stock, Upgrade, Switch, Note, Fits, moment_of}
use Rattle.mc_records.specs.Chains.{chain, has_switch}
use Rattle.mc_records.specs.Following.{AllFollowBy}
use Rattle.ledger_model.specs.declared.numbers.TheConstants.{VENDOR_KIND, BROKER_KIND, MOST_IN_FORCE}
use Rattle.ledger_model.specs.Histories.{History, time}
use Rattle.ledger_model.specs.Houses.{site_kind, terms_in, upgrade_in, own_series}
use Rattle.ledger_model.specs.Goods.{in_force}
use Rattle.ledger_model.specs.Pieces.{own_count, next_identity, has_reference}
use Rattle.ledger_model.specs.Accounts.{account_in, balance}
use Rattle.ledger_model.specs.Stock.{licence_in, of_issuer, stock_ids, are_stock}
use Rattle.ledger_model.specs.Answer.{answer, Take}
use Rattle.ledger_model.specs.Lawful.{unbounded, request_of, draw_request, MayFollow, MayUpgrade}

-- a trade's own test of a Note that follows a history
abbrev pub Test : Type 1
Test = History → Entry → Type 0

-- that of a trade which asks nothing of Notes
abbrev pub untested : Test
untested h e = Unit {0}

-- whether it is the house that tells of an Upgrade of an issuer: at a vendor of each, at a broker of issuer 0
abbrev pub is_by_house : ℕ → ℕ → Bool
is_by_house kind issuer = kind == VENDOR_KIND || issuer == 0

-- The house's half: a Site entry comes first and is of its kind; what was accepted or drawn is what the house
-- answers; the pieces of a mint go on with the serials of its series; an Upgrade that it tells of may be made; one
-- Switch at most stands, and tells the chain of the entries before it.
abbrev pub ByHouse : Limits → ℕ → History → Entry → Type 0
ByHouse limits kind h (Site m k name house) = (h ≡ []) × (k ≡ kind)
ByHouse limits kind h (Accept m scrip target sign price change deed) =
    answer h m (unbounded limits) (request_of scrip target sign) ≡ Take (Accept m scrip target sign price change deed)
ByHouse limits kind h (Mint m reference count value first) =
    (first ≡ next_identity h (own_series h m)) × (own_count h (own_series h m) + count ≤ limits.series)
ByHouse limits kind h (Draw m target sign drawn) = answer h m (unbounded limits) (draw_request target sign) ≡ Take (Draw m target sign drawn)
ByHouse limits kind h (Upgrade m vendor issuer from) = IsTrue (is_by_house kind issuer) → MayUpgrade h m vendor issuer from
ByHouse limits kind h (Switch m c) = IsFalse (has_switch h) × (c ≡ chain h)
ByHouse limits kind h _ = Unit {0}

-- the issuer of a vendor's licence may be moved to version 2 at a moment, from an epoch on
pub record MayRaise (h : History) (m : ℕ) (vendor : List ℕ) (issuer from : ℕ) : Type 0 where
  pub new : IsNone (upgrade_in h vendor issuer)
  pub coming : MatchOption (option_and_then (of_issuer issuer) (licence_in h vendor)) ⊥ (λ terms. epoch terms m < from)

-- The trade's half. A vendor's terms are of a new issuer, its contents in force stay within their most bytes, and
-- the reference of a mint is new. A broker's accounts are new, and money moves in and out of those that stand, under
-- a new reference, within what an account holds; a vendor has one licence, and his stock is new and of him; and an
-- issuer of which the house does not tell may be moved to version 2 by the vendor's licence. Notes pass the trade's own
-- test. No house has an entry of a wallet.
abbrev pub ByTrade : Test → ℕ → History → Entry → Type 0
ByTrade passes kind h (Site m k name house) = Unit {0}
ByTrade passes kind h (AddTerms m terms) = (kind ≡ VENDOR_KIND) × IsNone (terms_in h terms.issuer)
ByTrade passes kind h (Goods m target price k contents) = (kind ≡ VENDOR_KIND) × (in_force (h ++ Goods m target price k contents ∷ []) ≤ MOST_IN_FORCE)
ByTrade passes kind h (Accept m scrip target sign price change deed) = Unit {0}
ByTrade passes kind h (Mint m reference count value first) = (kind ≡ VENDOR_KIND) × IsFalse (has_reference h reference)
ByTrade passes kind h (Account m name key) = (kind ≡ BROKER_KIND) × IsNone (account_in h name)
ByTrade passes kind h (Deposit m name amount reference) =
    (kind ≡ BROKER_KIND) × IsSome (account_in h name) × IsFalse (has_reference h reference) × (balance h name + amount ≤ MOST_IN_ACCOUNT)
ByTrade passes kind h (Withdraw m name amount reference) =
    (kind ≡ BROKER_KIND) × IsSome (account_in h name) × IsFalse (has_reference h reference) × (amount ≤ balance h name)
ByTrade passes kind h (Draw m target sign drawn) = Unit {0}
ByTrade passes kind h (Licence m vendor terms) = (kind ≡ BROKER_KIND) × IsNone (licence_in h vendor)
ByTrade passes kind h (Stock m vendor pieces) = (kind ≡ BROKER_KIND) × IsTrue (are_stock vendor (stock_ids h vendor) pieces)
ByTrade passes kind h (Upgrade m vendor issuer from) = IsFalse (is_by_house kind issuer) → (kind ≡ BROKER_KIND) × MayRaise h m vendor issuer from
ByTrade passes kind h (Switch m c) = Unit {0}
ByTrade passes kind h (Note m tag bytes) = passes h (Note m tag bytes)
ByTrade passes kind h _ = ⊥

-- what a trade's own test asks of an entry: of a Note that it passes, of other entries nothing
abbrev pub Passes : Test → History → Entry → Type 0
Passes passes h (Note m tag bytes) = passes h (Note m tag bytes)
Passes passes h _ = Unit {0}

-- each Note of a history passes it
abbrev pub AllPass : Test → History → Type 0
AllPass passes h = AllFollowBy (Passes passes) [] h

-- an entry may follow a history, and passes the trade's own test
pub record MayEnter (passes : Test) (limits : Limits) (h : History) (e : Entry) : Type 0 where
  pub follows : MayFollow limits h e
  pub passed : Passes passes h e

-- what the house has told of the entry of a number before the trade learns it
pub record MayLearn (limits : Limits) (kind number : ℕ) (h : History) (e : Entry) : Type 0 where
  pub counted : number ≡ length h
  pub in_order : time h ≤ moment_of e
  pub by_house : ByHouse limits kind h e

-- An entry is in its ranges. Of what was accepted or drawn nothing is said: the house tells of it by its answer.
abbrev pub CommandFits : Entry → Type 0
CommandFits (Accept m scrip target sign price change deed) = Unit {0}
CommandFits (Draw m target sign drawn) = Unit {0}
CommandFits e = Fits e

-- an entry that puts goods on sale
abbrev pub IsGoods : Entry → Type 0
IsGoods (Goods m target price kind contents) = Unit {0}
IsGoods _ = ⊥

-- ---- the halves together

-- the Site entry of this kind of site
abbrev pub IsSiteOf : ℕ → Entry → Type 0
IsSiteOf kind (Site m k name house) = k ≡ kind
IsSiteOf kind _ = ⊥

-- a history of this kind of site, or the Site entry of one
abbrev pub IsOfKind : ℕ → History → Entry → Type 0
IsOfKind kind h e = (site_kind h ≡ Some kind) ⊎ IsSiteOf kind e

-- both halves hold of the entry that comes next
pub record InParts (passes : Test) (limits : Limits) (kind : ℕ) (h : History) (e : Entry) : Type 0 where
  pub by_house : MayLearn limits kind (length h) h e
  pub by_trade : ByTrade passes kind h e
