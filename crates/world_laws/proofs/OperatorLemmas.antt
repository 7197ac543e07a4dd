-- What operators' commands add: one entry at most, of a command and of its time.
use Rattle.std.proofs.Common.{◌≡◌, inl, inr, ℕ, ◌+◌, ◌<◌, Bool, true, false, List, [], ◌∷◌, ◌++◌, refl, sym, subst, Option, Some, None, Result, Ok, Err}
use Rattle.std.specs.Prelude.{All, if◌then◌else◌, nat_lt, ◌==◌, is_some, bytes_eq, unwrap_or, option_map, find}
use Rattle.std.specs.List.{AllByRecursion}
use Rattle.std.proofs.lemmas.List.Elements.{All-from_recursion}
use Rattle.scrip_form.specs.Scrip.{Scrip}
use Rattle.scrip_form.specs.Issuing.{Issuing, epoch}
use Rattle.mc_requests.specs.declared.refusal.Refusal.{Refusal}
use Rattle.mc_requests.specs.declared.refusal.Refusal.TheVariants as refusals
use Rattle.mc_records.specs.Entry.{Entry, Held, Account, Deposit, Goods, Stock, Switch, Upgrade, Withdraw}
use Rattle.mc_records.specs.Chains.{chain, has_switch}
use Rattle.mc_records.specs.declared.ranges.TheConstants.{MOST_CONTENTS}
use Rattle.ledger_model.specs.declared.numbers.TheConstants.{MOST_IN_FORCE}
use Rattle.ledger_model.specs.Histories.{History}
use Rattle.ledger_model.specs.Houses.{site_name, terms_in, upgrade_in}
use Rattle.ledger_model.specs.Goods.{goods_in, in_force}
use Rattle.ledger_model.specs.Accounts.{key_in}
use Rattle.ledger_model.specs.Stock.{licence_in, stock_ids, upgrade_terms}
use Rattle.piece_lines.specs.PieceLines.{LineFits, IsTold}
use Rattle.piece_lines.specs.Rules.{is_stock_of}
use Rattle.piece_lines.proofs.LineLaws.{input_told}
use Rattle.issuer_terms.specs.Terms.{are_same_terms}
use Rattle.command_status.specs.declared.status.Status.{Status}
use Rattle.command_status.specs.declared.status.Status.TheVariants as statuses
use Rattle.house_core.specs.Tasks.{Task, Add, Stays, Refuse, after, switch_task}
use Rattle.house_core.specs.Upgrading.{upgraded, upgrade_task}
use Rattle.operator_command.specs.Operations.{OperationView, full}
use Rattle.vendor_core.specs.Tasks as shelves
use Rattle.broker_accounts.specs.Accounts.{put_refusal, withdraw_refusal}
use Rattle.broker_ledger.specs.declared.payment.Payment.{Payment}
use Rattle.broker_ledger.specs.Ledger.{is_under, payment_in}
use Rattle.broker_ledger.specs.Tasks as accounts
use Rattle.broker_core.specs.Moves.{moved_issuer}
use Rattle.broker_core.specs.Tasks as desks
use Rattle.site_words.specs.declared.operation.Operation.{Operation}
use Rattle.site_words.specs.declared.operation.Operation.TheVariants as operations
use Rattle.site_words.specs.declared.broker_operation.BrokerOperation.{BrokerOperation}
use Rattle.site_words.specs.declared.broker_operation.BrokerOperation.TheVariants as broker_operations
use Rattle.site_words.specs.Words.{licensed_terms}
use Rattle.mc_words.specs.declared.command.Command.{Command}
use Rattle.mc_words.specs.declared.command.Command.TheVariants as commands
use Rattle.vendor_commands.specs.Operations as vendors
use Rattle.broker_commands.specs.Operations as brokers
use Rattle.house_doors.specs.Performing.{EndsAs}
use Rattle.door_commands.specs.Told.{BrokerObeys, BrokerDoubts, VendorObeys, VendorDoubts, EndsBy, DoubtsBy}
use Rattle.world_laws.specs.Doors.{IsOperators, AddsOperators, AllAddOperators, DoubtsOperators}

-- ---- tasks

-- what a task adds is an entry of a command, of this time
abbrev TaskIs : ℕ → Task → Type 0
TaskIs t (Add e) = IsOperators t e
TaskIs t _ = Unit {0}

either_is : (t : ℕ) (b : Bool) (x y : Task) → TaskIs t x → TaskIs t y → TaskIs t (if b then x else y)
either_is t true x y p q = p
either_is t false x y p q = q

by_equality : (t : ℕ) (x y : Task) → TaskIs t y → x ≡ y → TaskIs t x
by_equality t x y is same = subst (TaskIs t) (sym same) is

switch_is : (h : History) (t : ℕ) → TaskIs t (switch_task h t)
switch_is h t = either_is t (has_switch h) Stays (Add (Switch t (chain h))) tt (record { command = tt; at = refl; secrets = tt })

upgraded_is : (t : ℕ) (vendor : List ℕ) (issuer from : ℕ) (terms : Option Issuing) (standing : Option ℕ) → TaskIs t (upgraded t vendor issuer from terms standing)
upgraded_is t vendor issuer from None standing = tt
upgraded_is t vendor issuer from (Some terms) (Some e) = either_is t (e == from) Stays (Refuse (refusals.VersionSet e)) tt tt
upgraded_is t vendor issuer from (Some terms) None =
    either_is t (nat_lt (epoch terms t) from) (Add (Upgrade t vendor issuer from)) (Refuse (refusals.TooEarly (epoch terms t))) (record { command = tt; at = refl; secrets = tt }) tt

-- ---- a vendor's

goods_is : (t bytes : ℕ) (e : Entry) → IsOperators t e → TaskIs t (shelves.goods_entered e bytes)
goods_is t bytes e is = either_is t (nat_lt MOST_IN_FORCE bytes) (Refuse (refusals.ContentsFull bytes)) (Add e) tt is

repriced_is : (t : ℕ) (target : List ℕ) (price : ℕ) (old : Option Entry) → TaskIs t (shelves.repriced t target price old)
repriced_is t target price None = tt
repriced_is t target price (Some e) = record { command = tt; at = refl; secrets = tt }

terms_is : (t : ℕ) (terms : Issuing) (old : Option Issuing) → TaskIs t (shelves.licensed t terms old)
terms_is t terms None = record { command = tt; at = refl; secrets = tt }
terms_is t terms (Some x) = either_is t (are_same_terms x terms) Stays (Refuse (refusals.IssuerTaken terms.issuer)) tt tt

mint_is : (h : History) (t : ℕ) (reference : List ℕ) (count value : ℕ) (task : Task) → shelves.IsMintTask h t full reference count value task → TaskIs t task
mint_is h t reference count value (Add e) is = subst (IsOperators t) (sym is.2) (record { command = tt; at = refl; secrets = tt })
mint_is h t reference count value Stays is = tt
mint_is h t reference count value (Refuse f) is = tt

vendor_is : (o : Operation) (input : List ℕ) (h : History) (t : ℕ) (task : Task) → (vendors.operation_view o).asks input h t task → TaskIs t task
vendor_is (operations.Goods l) input h t task (inl a) =
    let e : Entry = Goods t l.target l.price (unwrap_or l.kind 0) input in
    by_equality t task (shelves.goods_task h t l.target l.price (unwrap_or l.kind 0) input) (goods_is t (in_force (h ++ e ∷ [])) e (record { command = tt; at = refl; secrets = tt })) a.1
vendor_is (operations.Goods l) input h t task (inr b) = by_equality t task (Refuse (refusals.ContentsFull (MOST_CONTENTS + 1))) tt b.1
vendor_is (operations.Price p) input h t task asks = by_equality t task (shelves.price_task h t p.target p.price) (repriced_is t p.target p.price (goods_in h p.target)) asks
vendor_is (operations.Licence l) input h t task asks =
    by_equality t task (shelves.terms_task h t (licensed_terms l)) (terms_is t (licensed_terms l) (terms_in h (licensed_terms l).issuer)) asks
vendor_is (operations.Mint m) input h t task asks = mint_is h t m.reference m.count m.value task asks
vendor_is (operations.Upgrade u) input h t task asks =
    by_equality t task (upgrade_task h t (site_name h) u.issuer u.from) (upgraded_is t (site_name h) u.issuer u.from (upgrade_terms h (site_name h) u.issuer) (upgrade_in h (site_name h) u.issuer)) asks
vendor_is (operations.Chain c) input h t task asks = by_equality t task (switch_task h t) (switch_is h t) asks
vendor_is (operations.List l) input h t task asks = by_equality t task Stays tt asks
vendor_is (operations.Status l) input h t task asks = by_equality t task Stays tt asks

-- ---- a broker's

-- a task of the accounts
abbrev AccountIs : ℕ → accounts.Task → Type 0
AccountIs t task = TaskIs t (desks.as_task task)

account_either : (t : ℕ) (b : Bool) (x y : accounts.Task) → AccountIs t x → AccountIs t y → AccountIs t (if b then x else y)
account_either t true x y p q = p
account_either t false x y p q = q

opened_is : (t : ℕ) (e : Entry) (key : List ℕ) (old : Option (List ℕ)) → IsOperators t e → AccountIs t (accounts.opened e key old)
opened_is t e key None is = is
opened_is t e key (Some k) is = account_either t (bytes_eq k key) (Ok None) (Err refusals.AccountTaken) tt tt

unless_is : (t : ℕ) (e : Entry) (f : Option Refusal) → IsOperators t e → AccountIs t (accounts.unless_refused e f)
unless_is t e None is = is
unless_is t e (Some f) is = tt

under_is : (t : ℕ) (reference : List ℕ) (same : Payment → Bool) (old : Option Entry) (new : accounts.Task) → AccountIs t new → AccountIs t (accounts.under_reference reference same old new)
under_is t reference same None new is = is
under_is t reference same (Some e) new is = account_either t (unwrap_or (option_map same (payment_in e)) false) (Ok None) (Err (refusals.RefUsed reference)) tt tt

licensed_is : (t : ℕ) (vendor : List ℕ) (terms : Issuing) (old : Option Issuing) → TaskIs t (desks.licensed t vendor terms old)
licensed_is t vendor terms None = record { command = tt; at = refl; secrets = tt }
licensed_is t vendor terms (Some x) = either_is t (are_same_terms x terms) Stays (Refuse (refusals.LicenceTwice x.issuer)) tt tt

taken_is : (h : History) (t : ℕ) (told : Result (List ℕ × Issuing) ℕ) → TaskIs t (brokers.taken h t told)
taken_is h t (Ok x) = licensed_is t x.0 x.1 (licence_in h x.0)
taken_is h t (Err line) = tt

-- the secrets of lines are bytes, since they are read as such
lines_bytes : (test : Scrip → Bool) (pieces : List Held) → AllByRecursion (LineFits test) pieces → AllByRecursion (λ p. All (λ b. b < 256) p.secret) pieces
lines_bytes test [] fit = tt
lines_bytes test (p ∷ ps) fit = (All-from_recursion (λ b. b < 256) p.secret fit.0.secret.1, lines_bytes test ps fit.1)

told_bytes : (test : Scrip → Bool) (bytes : List ℕ) (r : Result (List Held) ℕ) → IsTold test bytes r → AllByRecursion (λ p. All (λ b. b < 256) p.secret) (desks.pieces_in r)
told_bytes test bytes (Ok pieces) told = lines_bytes test pieces told.fit
told_bytes test bytes (Err line) told = tt

stock_is : (t : ℕ) (e : Entry) (f : Option Refusal) → IsOperators t e → TaskIs t (desks.unless e f)
stock_is t e None is = is
stock_is t e (Some f) is = tt

broker_is : (o : BrokerOperation) (input : List ℕ) (h : History) (t : ℕ) (task : Task) → (brokers.operation_view o).asks input h t task → TaskIs t task
broker_is (broker_operations.Account o) input h t task asks =
    by_equality t task (desks.account_task h t o.account o.key) (opened_is t (Account t o.account o.key) o.key (key_in h o.account) (record { command = tt; at = refl; secrets = tt })) asks
broker_is (broker_operations.Deposit p) input h t task asks =
    by_equality t task (desks.deposit_task h t p.account p.amount p.reference)
    (under_is t p.reference (accounts.is_deposit p.account p.amount) (find (is_under p.reference) h) (accounts.unless_refused (Deposit t p.account p.amount p.reference) (put_refusal p.amount (accounts.account_now h p.account)))
    (unless_is t (Deposit t p.account p.amount p.reference) (put_refusal p.amount (accounts.account_now h p.account)) (record { command = tt; at = refl; secrets = tt }))) asks
broker_is (broker_operations.Withdraw p) input h t task asks =
    by_equality t task (desks.withdraw_task h t p.account p.amount p.reference)
    (under_is t p.reference (accounts.is_withdrawal p.account p.amount) (find (is_under p.reference) h) (accounts.unless_refused (Withdraw t p.account p.amount p.reference) (withdraw_refusal p.amount (accounts.account_now h p.account)))
    (unless_is t (Withdraw t p.account p.amount p.reference) (withdraw_refusal p.amount (accounts.account_now h p.account)) (record { command = tt; at = refl; secrets = tt }))) asks
broker_is (broker_operations.Balance i) input h t task asks =
    by_equality t task (brokers.balance_task h i.account) (either_is t (is_some (key_in h i.account)) Stays (Refuse refusals.NoAccount) tt tt) asks
broker_is (broker_operations.Licence l) input h t task asks = by_equality t task (brokers.taken h t asks.0) (taken_is h t asks.0) asks.2
broker_is (broker_operations.Stock s) input h t task asks =
    by_equality t task (desks.stock_task h t s.vendor input)
    (stock_is t (Stock t s.vendor (desks.pieces_in (desks.stock_lines s.vendor input))) (desks.stock_refusal (stock_ids h s.vendor) (desks.stock_lines s.vendor input))
    (record { command = tt; at = refl; secrets = told_bytes (is_stock_of s.vendor) input (desks.stock_lines s.vendor input) (input_told (is_stock_of s.vendor) input) })) asks
broker_is (broker_operations.Upgrade u) input h t task asks =
    by_equality t task (desks.upgrade_licence_task h t u.vendor u.from)
    (upgraded_is t u.vendor (moved_issuer h u.vendor) u.from (upgrade_terms h u.vendor (moved_issuer h u.vendor)) (upgrade_in h u.vendor (moved_issuer h u.vendor))) asks
broker_is (broker_operations.Chain c) input h t task asks = by_equality t task (switch_task h t) (switch_is h t) asks
broker_is (broker_operations.List l) input h t task asks = by_equality t task Stays tt asks
broker_is (broker_operations.Status l) input h t task asks = by_equality t task Stays tt asks

-- ---- how a command ends

task_adds : (t : ℕ) (h : History) (line : List ℕ) (task : Task) (g : History) → TaskIs t task → g ≡ after task h → AddsOperators t h (statuses.Did line) g
task_adds t h line (Add e) g is at = inr (e, line, refl, at, is)
task_adds t h line Stays g is at = inl at
task_adds t h line (Refuse f) g is at = inl at

ends_add : (operation : OperationView) (input : List ℕ) (h : History) (t : ℕ) (status : Status) (g : History) → ((task : Task) → operation.asks input h t task → TaskIs t task) → EndsAs operation input h t status g → AddsOperators t h status g
ends_add operation input h t (statuses.Did line) g so x = task_adds t h line x.0 g (so x.0 x.1) x.4
ends_add operation input h t (statuses.Refused f) g so x = inl x.3
ends_add operation input h t statuses.NoMemory g so x = inl x
ends_add operation input h t status g so x = absurd x

vendor_obeys : (c : Command) (input : List ℕ) (h : History) (t : ℕ) (status : Status) (g : History) → VendorObeys c input h t status g → AddsOperators t h status g
vendor_obeys (commands.Operate o) input h t status g x = ends_add (vendors.operation_view o) input h t status g (vendor_is o input h t) x
vendor_obeys (commands.BrokerOperate o) input h t status g x = inl x.1
vendor_obeys c input h t status g x = inl x.1

broker_obeys : (c : Command) (input : List ℕ) (h : History) (t : ℕ) (status : Status) (g : History) → BrokerObeys c input h t status g → AddsOperators t h status g
broker_obeys (commands.BrokerOperate o) input h t status g x = ends_add (brokers.operation_view o) input h t status g (broker_is o input h t) x
broker_obeys (commands.Operate o) input h t status g x = inl x.1
broker_obeys c input h t status g x = inl x.1

pub vendor_adds : AllAddOperators (EndsBy VendorObeys)
vendor_adds told h t status g (inl none) = inl none.1
vendor_adds told h t status g (inr (inl bad)) = inl bad.1
vendor_adds told h t status g (inr (inr x)) = vendor_obeys x.0 x.1 h t status g x.3

pub broker_adds : AllAddOperators (EndsBy BrokerObeys)
broker_adds told h t status g (inl none) = inl none.1
broker_adds told h t status g (inr (inl bad)) = inl bad.1
broker_adds told h t status g (inr (inr x)) = broker_obeys x.0 x.1 h t status g x.3

-- ---- and an entry in doubt

vendor_in_doubt : (c : Command) (input : List ℕ) (h : History) (t : ℕ) (e : Entry) → VendorDoubts c input h t e → IsOperators t e
vendor_in_doubt (commands.Operate o) input h t e x = vendor_is o input h t (Add e) x.0
vendor_in_doubt c input h t e x = absurd x

broker_in_doubt : (c : Command) (input : List ℕ) (h : History) (t : ℕ) (e : Entry) → BrokerDoubts c input h t e → IsOperators t e
broker_in_doubt (commands.BrokerOperate o) input h t e x = broker_is o input h t (Add e) x.0
broker_in_doubt c input h t e x = absurd x

pub vendor_doubts : DoubtsOperators (DoubtsBy VendorDoubts)
vendor_doubts told h t e x = vendor_in_doubt x.0 x.1 h t e x.3

pub broker_doubts : DoubtsOperators (DoubtsBy BrokerDoubts)
broker_doubts told h t e x = broker_in_doubt x.0 x.1 h t e x.3
