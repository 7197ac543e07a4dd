-- Links one after another.
use Rattle.std.proofs.Common.{◌≡◌, inl, inr, ℕ, suc, ◌<◌, List, subst, Ok, Err}
use Rattle.mc_outside.specs.LinkView.{LinkView, next_taken, none_left}
use Rattle.mc_requests.specs.declared.limits.Limits.{Limits}
use Rattle.millicent_http.specs.declared.clock.Clock.{Clock}
use Rattle.millicent_http.specs.Steps.{Did, state_after, StepRelation}
use Rattle.millicent_http.specs.Courses.{HadLink, HadLinks, NoLink}
use Rattle.millicent_http.proofs.CourseLemmas.{links_start, links_go_on}
use Rattle.house_core.specs.BenchView.{BenchView}
use Rattle.house_serving.specs.declared.serving.BenchEnd.TheVariants as ends
use Rattle.house_serving.specs.Counting.{Counts}
use Rattle.house_core.specs.Tallies.{ToldState, ToldStep}
use Rattle.house_serving.proofs.CountsLemmas.{counts_so, counts_then, counts_nowhere}
use Rattle.house_serving.specs.Served.{Served}
use Rattle.house_state.specs.Trade.{TradeView}

-- as many links as were asked for
pub links_all : {S : Type 0} (Step : StepRelation S) (clock : Clock) (links n : ℕ) (steps : List (Did S)) (s : S) (before now : LinkView) → n ≡ links → HadLinks Step clock n steps s before now
    → Served Step clock links (Ok n) steps s before now
links_all Step clock links n steps s before now all so = inl (all, so)

-- all that came
pub links_over : {S : Type 0} (Step : StepRelation S) (clock : Clock) (links n : ℕ) (steps : List (Did S)) (s : S) (before now next : LinkView) → n < links → next ≡ none_left now → HadLinks Step clock n steps s before now
    → Served Step clock links (Ok n) steps s before next
links_over Step clock links n steps s before now next few over so = inr (few, (now, so, over))

-- the next one could not be taken
pub links_broke : {S : Type 0} (Step : StepRelation S) (clock : Clock) (links n : ℕ) (steps : List (Did S)) (s : S) (before now next : LinkView) → n < links → NoLink now next → HadLinks Step clock n steps s before now
    → Served Step clock links (Err ends.Link) steps s before next
links_broke Step clock links n steps s before now next few fault so = record { n = n; few = few; between = now; links_had = so; fault = fault }

-- ---- from one house to another

-- so many links were taken
abbrev pub Linked : {T : Type 0} → (T → TradeView) → Limits → Clock → ℕ → BenchView T → LinkView → BenchView T → LinkView → Type 0
Linked trade limits clock n a before b now = Counts trade (λ steps s. HadLinks (ToldStep limits) clock n steps s before now) a b

-- one link was taken
abbrev pub LinkedOne : {T : Type 0} → (T → TradeView) → Limits → Clock → BenchView T → LinkView → BenchView T → LinkView → Type 0
LinkedOne trade limits clock a before b now = Counts trade (λ steps s. HadLink (ToldStep limits) clock steps s before now) a b

pub linked_none : {T : Type 0} (trade : T → TradeView) (limits : Limits) (clock : Clock) (b : BenchView T) (v : LinkView) → Linked trade limits clock 0 b v b v
linked_none trade limits clock b v = counts_nowhere trade (λ (steps : List (Did ToldState)) (s : ToldState). HadLinks (ToldStep limits) clock 0 steps s v v) b (λ (s : ToldState). links_start (ToldStep limits) clock s v)

pub linked_more : {T : Type 0} (trade : T → TradeView) (limits now_limits : Limits) (clock : Clock) (n m : ℕ) (a b c : BenchView T) (before now taken next : LinkView)
    → now_limits ≡ limits → m ≡ suc n → taken ≡ next_taken now → Linked trade limits clock n a before b now → LinkedOne trade now_limits clock b taken c next
    → Linked trade limits clock m a before c next
linked_more trade limits now_limits clock n m a b c before now taken next same more took so had =
    counts_then trade (λ (ds : List (Did ToldState)) (s : ToldState). HadLinks (ToldStep limits) clock n ds s before now) (λ (es : List (Did ToldState)) (t : ToldState). HadLink (ToldStep limits) clock es t taken next)
    (λ (l : List (Did ToldState)) (s : ToldState). HadLinks (ToldStep limits) clock m l s before next) a b c
    (λ (ds es : List (Did ToldState)) (s : ToldState) (x : HadLinks (ToldStep limits) clock n ds s before now) (y : HadLink (ToldStep limits) clock es (state_after s ds) taken next). links_go_on (ToldStep limits) clock n m ds es s before now taken next more took x y)
    so (subst (λ (l : Limits). LinkedOne trade l clock b taken c next) same had)

pub linked_all : {T : Type 0} (trade : T → TradeView) (limits : Limits) (clock : Clock) (links n : ℕ) (a b : BenchView T) (before now : LinkView) → n ≡ links
    → Linked trade limits clock n a before b now → Counts trade (λ steps s. Served (ToldStep limits) clock links (Ok n) steps s before now) a b
linked_all trade limits clock links n a b before now all so =
    counts_so trade (λ (steps : List (Did ToldState)) (s : ToldState). HadLinks (ToldStep limits) clock n steps s before now) (λ (steps : List (Did ToldState)) (s : ToldState). Served (ToldStep limits) clock links (Ok n) steps s before now) a b
    (λ (steps : List (Did ToldState)) (s : ToldState) (x : HadLinks (ToldStep limits) clock n steps s before now). links_all (ToldStep limits) clock links n steps s before now all x) so

pub linked_over : {T : Type 0} (trade : T → TradeView) (limits : Limits) (clock : Clock) (links n : ℕ) (a b : BenchView T) (before now next : LinkView) → n < links → next ≡ none_left now
    → Linked trade limits clock n a before b now → Counts trade (λ steps s. Served (ToldStep limits) clock links (Ok n) steps s before next) a b
linked_over trade limits clock links n a b before now next few over so =
    counts_so trade (λ (steps : List (Did ToldState)) (s : ToldState). HadLinks (ToldStep limits) clock n steps s before now) (λ (steps : List (Did ToldState)) (s : ToldState). Served (ToldStep limits) clock links (Ok n) steps s before next) a b
    (λ (steps : List (Did ToldState)) (s : ToldState) (x : HadLinks (ToldStep limits) clock n steps s before now). links_over (ToldStep limits) clock links n steps s before now next few over x) so

pub linked_broke : {T : Type 0} (trade : T → TradeView) (limits : Limits) (clock : Clock) (links n : ℕ) (a b : BenchView T) (before now next : LinkView) → n < links → NoLink now next
    → Linked trade limits clock n a before b now → Counts trade (λ steps s. Served (ToldStep limits) clock links (Err ends.Link) steps s before next) a b
linked_broke trade limits clock links n a b before now next few fault so =
    counts_so trade (λ (steps : List (Did ToldState)) (s : ToldState). HadLinks (ToldStep limits) clock n steps s before now) (λ (steps : List (Did ToldState)) (s : ToldState). Served (ToldStep limits) clock links (Err ends.Link) steps s before next) a b
    (λ (steps : List (Did ToldState)) (s : ToldState) (x : HadLinks (ToldStep limits) clock n steps s before now). links_broke (ToldStep limits) clock links n steps s before now next few fault x) so
