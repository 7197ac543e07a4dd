-- What was answered is what is told of it.
use Rattle.std.proofs.Common.{◌≡◌, ℕ, List, true, false, Option, Some, None, IfSome, is_some, option_map, refl, sym, ap, ap₂, subst, ◌∙◌}
use Rattle.std.proofs.lemmas.Option.{none-some}
use Rattle.mc_outside.specs.DiskView.{DiskView}
use Rattle.mc_requests.specs.declared.limits.Limits.{Limits}
use Rattle.mc_requests.specs.declared.refusal.Refusal.TheVariants.{NoAccount}
use Rattle.ledger_model.specs.Histories.{History}
use Rattle.ledger_model.specs.Accounts.{key_in, balance}
use Rattle.broker_ledger.specs.declared.broker_ledger.Standing.{Standing}
use Rattle.broker_ledger.specs.Ledger.{standing_in}
use Rattle.house_core.specs.declared.outcome.Outcome.{Outcome}
use Rattle.house_core.specs.declared.outcome.Outcome.TheVariants as outcomes
use Rattle.house_state.specs.Trade.{TradeView}
use Rattle.house_core.specs.Tasks.{Task, Add, Stays, Refuse, Does, Performs}
use Rattle.broker_commands.specs.Answers.{answer_in}
use Rattle.said_lines.specs.Lines.{with_number}
use Rattle.broker_commands.specs.Operations.{balance_words, balance_task}

does_told : {D T A : Type 0} (disk : D → DiskView) (trade : T → TradeView) (Told : Task → History → A → Type 0) (L : A → Type 0) (limits : Limits) (d : D) (h : History) (task : Task) (out : Outcome D T A)
    → IfSome (answer_in out) L → Does disk trade Told limits d h task out → Does disk trade (λ t g a. Told t g a × L a) limits d h task out
does_told disk trade Told L limits d h (Add e) (outcomes.Done x a) is does = (does.0, (does.1, is), does.2)
does_told disk trade Told L limits d h (Add e) (outcomes.Refused x f) is does = does
does_told disk trade Told L limits d h (Add e) (outcomes.NoMemory x) is does = does
does_told disk trade Told L limits d h (Add e) (outcomes.Halted y) is does = does
does_told disk trade Told L limits d h Stays (outcomes.Done x a) is does = (does.0, (does.1, is))
does_told disk trade Told L limits d h Stays (outcomes.Refused x f) is does = absurd does
does_told disk trade Told L limits d h Stays (outcomes.NoMemory x) is does = does
does_told disk trade Told L limits d h Stays (outcomes.Halted y) is does = absurd does
does_told disk trade Told L limits d h (Refuse g) (outcomes.Done x a) is does = absurd does
does_told disk trade Told L limits d h (Refuse g) (outcomes.Refused x f) is does = does
does_told disk trade Told L limits d h (Refuse g) (outcomes.NoMemory x) is does = absurd does
does_told disk trade Told L limits d h (Refuse g) (outcomes.Halted y) is does = absurd does

-- what holds of the answer is told with it
pub performs_told : {D T A : Type 0} (disk : D → DiskView) (trade : T → TradeView) (Asks : Task → Type 0) (Told : Task → History → A → Type 0) (L : A → Type 0) (limits : Limits) (d : D) (h : History) (out : Outcome D T A)
    → IfSome (answer_in out) L → Performs disk trade Asks Told limits d h out → Performs disk trade Asks (λ t g a. Told t g a × L a) limits d h out
performs_told disk trade Asks Told L limits d h out is does = record {
  task = does.task;
  asks = does.asks;
  does = does_told disk trade Told L limits d h does.task out is does.does;
  ran = does.ran;
}

-- a line that ends by the balance that was answered
pub balance_said : (g : History) (name account : List ℕ) (answer : ℕ) (bare line : List ℕ) → name ≡ account → bare ≡ balance_words account → answer ≡ balance g name → line ≡ with_number bare answer
    → line ≡ with_number (balance_words account) (balance g account)
balance_said g name account answer bare line same is_bare is_balance is_line =
    is_line ∙ ap₂ (λ (words : List ℕ) (n : ℕ). with_number words n) is_bare (is_balance ∙ ap (balance g) same)

-- whether there is an account, by what was found of it
none_found : (o : Option (List ℕ)) (f : List ℕ → Standing) → option_map f o ≡ None → is_some o ≡ false
none_found None f e = refl
none_found (Some key) f e = absurd (none-some (f key) (sym e))

some_found : (o : Option (List ℕ)) (f : List ℕ → Standing) (s : Standing) → option_map f o ≡ Some s → is_some o ≡ true
some_found None f s e = absurd (none-some s e)
some_found (Some key) f s e = refl

pub no_account : (h : History) (name account : List ℕ) → name ≡ account → standing_in h name ≡ None → Refuse NoAccount ≡ balance_task h account
no_account h name account same none = rw (← same, none_found (key_in h name) _ none) refl

pub an_account : (h : History) (name account : List ℕ) (s : Standing) → name ≡ account → standing_in h name ≡ Some s → Stays ≡ balance_task h account
an_account h name account s same some = rw (← same, some_found (key_in h name) _ s some) refl

same_balance : (o : Option (List ℕ)) (f : List ℕ → Standing) (n : ℕ) (s : Standing) → ((key : List ℕ) → (f key).balance ≡ n) → option_map f o ≡ Some s → s.balance ≡ n
same_balance None f n s all e = absurd (none-some s e)
same_balance (Some key) f n s all e = subst (λ (o : Option Standing). IfSome o (λ x. x.balance ≡ n)) e (all key)

pub balance_found : (h : History) (name : List ℕ) (s : Standing) → standing_in h name ≡ Some s → s.balance ≡ balance h name
balance_found h name s some = same_balance (key_in h name) _ (balance h name) s (λ key. refl) some
