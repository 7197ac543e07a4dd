-- What the two calls come to, line by line.
use Rattle.std.proofs.Common.{◌≡◌, ℕ, ◌<◌, ◌≤◌, Bool, true, false, List, ◌++◌, Option, Some, None, Result, Ok, refl, sym, ap, ◌∙◌, ltb, ap₂, subst, arith}
use Rattle.std.specs.Prelude.{codes, is_some}
use Rattle.std.proofs.lemmas.Bool.{lt-ltb, le-ltb}
use Rattle.mc_outside.specs.DiskView.{DiskView}
use Rattle.scrip_form.specs.Issuing.{Issuing, series_end}
use Rattle.mc_requests.specs.declared.limits.Limits.{Limits}
use Rattle.mc_requests.specs.declared.refusal.Refusal.TheVariants.{NoTerms, SeriesOpen}
use Rattle.mc_records.specs.Entry.{Note}
use Rattle.ledger_model.specs.Histories.{History}
use Rattle.ledger_model.specs.Houses.{site_name, terms_in}
use Rattle.ledger_model.specs.Lines as lines
use Rattle.ledger_model.specs.Lines.{Stop, ◌>>=◌, given, refused_if}
use Rattle.house_state.specs.Trade.{TradeView}
use Rattle.house_core.specs.declared.outcome.Outcome.{Outcome}
use Rattle.house_core.specs.declared.outcome.Outcome.TheVariants as outcomes
use Rattle.house_core.specs.Tasks.{Task, Add, Stays, Refuse, IsDoable, Does, Performs}
use Rattle.house_core.proofs.TaskLemmas.{IsDone}
use Rattle.settle_core.specs.declared.claim.Claim.{Claim}
use Rattle.settle_core.specs.declared.claim.Payment.{Payment}
use Rattle.settle_core.specs.Claims.{claim_text, statement_line}
use Rattle.settle_core.specs.Settlement.{stated_amount, redeemed}
use Rattle.settle_core.specs.Tasks.{claim_at, stated_before, state_lines}
use Rattle.counted_trade.specs.Tasks.{noted_task, state_task, TellsStated}

-- a task that was done is done where it is asked for otherwise, and the answer says something else
pub performs_as : {D T A : Type 0} (view : D → DiskView) (trade : T → TradeView) (Asks Asks' : Task → Type 0) (Told Told' : Task → History → A → Type 0) (limits : Limits) (disk : D) (h : History) (r : Outcome D T A)
    → ((task : Task) → Asks task → Asks' task) → (IsDone r → (task : Task) (g : History) (a : A) → Told task g a → Told' task g a)
    → Performs view trade Asks Told limits disk h r → Performs view trade Asks' Told' limits disk h r
performs_as {D = D} {T = T} {A = A} view trade Asks Asks' Told Told' limits disk h r asks told p = record { task = p.task; asks = asks p.task p.asks; does = does p.task r told p.does; ran = p.ran }
  where
    does : (task : Task) (r : Outcome D T A) → (IsDone r → (task : Task) (g : History) (a : A) → Told task g a → Told' task g a) → Does view trade Told limits disk h task r → Does view trade Told' limits disk h task r
    does (Add e) (outcomes.Done x a) told d = (d.0, told tt (Add e) _ a d.1, d.2)
    does (Add e) (outcomes.Refused x f) told d = d
    does (Add e) (outcomes.NoMemory x) told d = d
    does (Add e) (outcomes.Halted y) told d = d
    does Stays (outcomes.Done x a) told d = (d.0, told tt Stays h a d.1)
    does Stays (outcomes.Refused x f) told d = absurd d
    does Stays (outcomes.NoMemory x) told d = d
    does Stays (outcomes.Halted y) told d = absurd d
    does (Refuse f) (outcomes.Done x a) told d = absurd d
    does (Refuse f) (outcomes.Refused x g) told d = d
    does (Refuse f) (outcomes.NoMemory x) told d = absurd d
    does (Refuse f) (outcomes.Halted y) told d = absurd d

-- ---- to state a series

abbrev as_task : ℕ → Result Claim Stop → Task
as_task t r = noted_task (codes "stated") claim_text t r

abbrev behind_terms : History → ℕ → ℕ → ℕ → Issuing → Result Claim Stop
behind_terms h t issuer epoch terms =
    refused_if (ltb t (series_end terms epoch)) (SeriesOpen (series_end terms epoch) t)
    >>= λ _. stated_before (stated_amount h issuer epoch)
    >>= λ _. Ok (claim_at h issuer epoch)

pub no_terms : (h : History) (t issuer epoch : ℕ) → terms_in h issuer ≡ None → Refuse NoTerms ≡ state_task h t issuer epoch
no_terms h t issuer epoch none = sym (ap (λ (o : Option Issuing). as_task t (given o NoTerms >>= behind_terms h t issuer epoch)) none)

by_terms : (h : History) (t issuer epoch : ℕ) (terms : Issuing) → terms_in h issuer ≡ Some terms → state_lines h t issuer epoch ≡ behind_terms h t issuer epoch terms
by_terms h t issuer epoch terms some = ap (λ (o : Option Issuing). given o NoTerms >>= behind_terms h t issuer epoch) some

pub still_open : (h : History) (t issuer epoch : ℕ) (terms : Issuing) (end now : ℕ) → terms_in h issuer ≡ Some terms → end ≡ series_end terms epoch → now ≡ t → now < end → Refuse (SeriesOpen end now) ≡ state_task h t issuer epoch
still_open h t issuer epoch terms end now some is same early =
    let before : t < series_end terms epoch = omega (arith, is, same, early) in
    ap₂ (λ (e n : ℕ). Refuse (SeriesOpen e n)) is same
    ∙ sym (ap (as_task t) (by_terms h t issuer epoch terms some)
    ∙ ap (λ (b : Bool). as_task t (refused_if b (SeriesOpen (series_end terms epoch) t) >>= λ _. stated_before (stated_amount h issuer epoch) >>= λ _. Ok (claim_at h issuer epoch))) (lt-ltb t (series_end terms epoch) before))

ended : (h : History) (t issuer epoch : ℕ) (terms : Issuing) → terms_in h issuer ≡ Some terms → series_end terms epoch ≤ t → state_lines h t issuer epoch ≡ (stated_before (stated_amount h issuer epoch) >>= λ _. Ok (claim_at h issuer epoch))
ended h t issuer epoch terms some late =
    by_terms h t issuer epoch terms some
    ∙ ap (λ (b : Bool). refused_if b (SeriesOpen (series_end terms epoch) t) >>= λ _. stated_before (stated_amount h issuer epoch) >>= λ _. Ok (claim_at h issuer epoch)) (le-ltb t (series_end terms epoch) late)

pub stands : (h : History) (t issuer epoch amount : ℕ) (terms : Issuing) → terms_in h issuer ≡ Some terms → series_end terms epoch ≤ t → stated_amount h issuer epoch ≡ Some amount → Stays ≡ state_task h t issuer epoch
stands h t issuer epoch amount terms some late stated =
    sym (ap (as_task t) (ended h t issuer epoch terms some late ∙ ap (λ (o : Option ℕ). stated_before o >>= λ _. Ok (claim_at h issuer epoch)) stated))

pub is_due : (h : History) (t issuer epoch amount : ℕ) (terms : Issuing) → terms_in h issuer ≡ Some terms → series_end terms epoch ≤ t → stated_amount h issuer epoch ≡ None → amount ≡ redeemed h issuer epoch
    → state_lines h t issuer epoch ≡ Ok (record { issuer = issuer; epoch = epoch; amount = amount })
is_due h t issuer epoch amount terms some late none is =
    ended h t issuer epoch terms some late ∙ ap (λ (o : Option ℕ). stated_before o >>= λ _. Ok (claim_at h issuer epoch)) none ∙ ap claimed (sym is)
  where
    claimed : ℕ → Result Claim Stop
    claimed n = Ok (record { issuer = issuer; epoch = epoch; amount = n })

pub due_task : (h : History) (t issuer epoch : ℕ) (c : Claim) → state_lines h t issuer epoch ≡ Ok c → Add (Note t (codes "stated") (claim_text c)) ≡ state_task h t issuer epoch
due_task h t issuer epoch c is = sym (ap (as_task t) is)

-- behind the end of the series it is done, and was not refused
pub is_doable : (h : History) (t issuer epoch : ℕ) (terms : Issuing) → terms_in h issuer ≡ Some terms → series_end terms epoch ≤ t → IsDoable (state_task h t issuer epoch)
is_doable h t issuer epoch terms some late = subst IsDoable (sym (ap (as_task t) (ended h t issuer epoch terms some late))) (go (stated_amount h issuer epoch))
  where
    go : (o : Option ℕ) → IsDoable (as_task t (stated_before o >>= λ _. Ok (claim_at h issuer epoch)))
    go None = tt
    go (Some amount) = tt

pub some_amount : (o : Option ℕ) → is_some o ≡ true → (n : ℕ) × (o ≡ Some n)
some_amount None e = absurd cc
some_amount (Some n) e = (n, refl)

pub none_amount : (o : Option ℕ) → is_some o ≡ false → o ≡ None
none_amount None e = refl
none_amount (Some n) e = absurd cc

-- a vendor's payment of a series
abbrev pub payment : List ℕ → ℕ → ℕ → ℕ → Payment
payment name issuer epoch amount = record { vendor = name; claim = record { issuer = issuer; epoch = epoch; amount = amount } }

-- the statement that stands in a list
pub tells_stated : (h : History) (issuer epoch : ℕ) (before after : List ℕ) (task : Task) (g : History) (terms : Issuing) (name : List ℕ) (amount : ℕ) → terms_in h issuer ≡ Some terms → name ≡ site_name h → amount ≡ redeemed h issuer epoch
    → after ≡ before ++ statement_line terms (payment name issuer epoch amount)
    → TellsStated h issuer epoch before after task g amount
tells_stated h issuer epoch before after task g terms name amount stand named is line = record {
  terms = terms;
  stand = stand;
  is = is;
  line = line ∙ ap₂ (λ (v : List ℕ) (a : ℕ). before ++ statement_line terms (payment v issuer epoch a)) named is;
}
