-- What becomes of a book by an operation of its operator.
use Rattle.std.proofs.Common.{◌≡◌, ◌⊎◌, inl, inr, ⊎_elim, ℕ, List, [], ◌∷◌, ◌++◌, max, refl, sym, ap, ◌∙◌, subst, Some, Err}
use Rattle.std.specs.Prelude.{IsSome}
use Rattle.mc_outside.specs.Bytes.{Rose}
use Rattle.mc_outside.specs.DiskView.{DiskView, IsDisk, LinkKeeps, OnlyRead, Ran}
use Rattle.mc_outside.specs.LinkView.{LinkView}
use Rattle.mc_outside.proofs.Runs.{ran_then, ran_weaker, ran_now}
use Rattle.mc_requests.specs.declared.limits.Limits.{Limits}
use Rattle.ledger_model.specs.Histories.{History, time}
use Rattle.ledger_model.specs.Houses.{site_kind}
use Rattle.ledger_model.specs.Lawful.{IsLawful, MayFollow}
use Rattle.ledger_model.proofs.AcceptLaws.{accepted_once}
use Rattle.ledger_model.proofs.FollowLaws.{longer_lawful}
use Rattle.ledger_model.specs.Lines as lines
use Rattle.ledger_model.specs.Answer.{fitted}
use Rattle.scrip_journal.specs.Layout.{Encodes}
use Rattle.millicent_http.specs.declared.clock.Clock.TheVariants.{OfLinks}
use Rattle.millicent_http.specs.Courses.{AreRead, with_readings}
use Rattle.house_core.specs.HouseView.{HouseView}
use Rattle.house_core.specs.declared.outcome.Outcome.{Outcome}
use Rattle.house_core.specs.declared.outcome.Outcome.TheVariants as outcomes
use Rattle.house_core.specs.Bench.{house_time, limits_of}
use Rattle.house_core.specs.House.{HouseRepresents, HouseRests, house_rests_none, IfRefused, KeepsTime, OfHouse, CountsFaults, outcome_disk}
use Rattle.house_core.specs.Refusing.{IsAmong}
use Rattle.house_core.proofs.HouseDisk.{house_keeps}
use Rattle.mc_records.specs.Following.{AllFollowBy}
use Rattle.house_state.specs.Learning.{Test, Passes, AllPass, MayEnter}
use Rattle.house_state.specs.Trade.{TradeView}
use Rattle.house_core.specs.Tasks.{Task, Add, Stays, Refuse, Does, LeavesBy, Performs}
use Rattle.millicent_http.proofs.AsideLemmas.{TellsAside, SentNoMore, no_more_then, no_more_still, taken_quiet, aside_still, quiet_link}
use Rattle.command_status.specs.declared.status.Status.{Status}
use Rattle.command_status.specs.declared.status.Status.TheVariants as ends
use Rattle.millicent_http.specs.Inputs.{TakesInput, LosesInput}
use Rattle.operator_command.specs.Operations.{full, OperationView}
use Rattle.site_commands.specs.Endings.{outcome_status}
use Rattle.site_commands.specs.Serving.{EncodesLawful}
use Rattle.site_commands.specs.Operator.{DidBy, OperateImage, OperatePair, IsReady, OperateCauses, Operated, Opened, Unread}
use Rattle.site_commands.proofs.ServedLemmas.{stands_lawful}

-- entries that may be entered pass the trade's own test
pub all_passed : (passes : Test) (before es : History) → AllFollowBy (MayEnter passes full) before es → AllFollowBy (Passes passes) before es
all_passed passes before [] follow = tt
all_passed passes before (e ∷ es) follow = (follow.0.passed, all_passed passes (before ++ e ∷ []) es follow.1)

lawful_in : {O T : Type 0} (disk : O → DiskView) (trade : T → TradeView) (x : HouseView O T) (h : History) → limits_of x.bench ≡ full → HouseRepresents disk trade x h → EncodesLawful (disk x.journal.disk) h
lawful_in disk trade x h limits st = stands_lawful disk trade x h st (subst (λ (l : Limits). IsLawful l h) limits st.house.represents.state.lawful)

-- ---- up to the task

-- a crash pair of before; where what is sent is told, nothing was sent
abbrev pub BeforePair : Type 0 → DiskView → List ℕ → List ℕ → Type 0
BeforePair tells d image sent = d.leaves image × (tells → sent ≡ d.aside)

-- what was sent is told
abbrev pub Tells : {O : Type 0} → (O → LinkView) → O → Type 0
Tells link a = IsSome (link a).sessions

-- Links worked on the outside of a house, which sent nothing: the house is what it was, but for its time.
pub record Worked {O T : Type 0} (link : O → LinkView) (disk : O → DiskView) (trade : T → TradeView) (x y : HouseView O T) : Type 0 where
  pub quiet : SentNoMore (link x.journal.disk) (link y.journal.disk)
  pub keeps : LinkKeeps (disk x.journal.disk) (disk y.journal.disk)
  pub represents : (h : History) → HouseRepresents disk trade x h → HouseRepresents disk trade y h
  pub limits' : limits_of y.bench ≡ limits_of x.bench

pub worked_then : {O T : Type 0} (link : O → LinkView) (disk : O → DiskView) (trade : T → TradeView) (x y z : HouseView O T) → Worked link disk trade x y → LinkKeeps (disk x.journal.disk) (disk z.journal.disk) → Worked link disk trade y z → Worked link disk trade x z
worked_then link disk trade x y z a keeps b = record {
  quiet = no_more_then (link x.journal.disk) (link y.journal.disk) (link z.journal.disk) a.quiet b.quiet;
  keeps = keeps;
  represents = λ h st. b.represents h (a.represents h st);
  limits' = b.limits' ∙ a.limits';
}

-- the crash pairs of it are of before
worked_pairs : {O T : Type 0} (link : O → LinkView) (disk : O → DiskView) (trade : T → TradeView) (x y : HouseView O T) → TellsAside link (λ o. (disk o).aside) → Worked link disk trade x y
    → Ran (disk x.journal.disk) (disk y.journal.disk) (BeforePair (Tells link x.journal.disk) (disk x.journal.disk)) × (Tells link x.journal.disk → (disk y.journal.disk).aside ≡ (disk x.journal.disk).aside)
worked_pairs link disk trade x y tells worked =
    let same : Tells link x.journal.disk → (disk y.journal.disk).aside ≡ (disk x.journal.disk).aside = λ told'. aside_still link (λ o. (disk o).aside) x.journal.disk y.journal.disk tells told' worked.quiet in (
      quiet_link link disk (Tells link x.journal.disk) (disk x.journal.disk).leaves (disk x.journal.disk).aside x.journal.disk y.journal.disk tells worked.keeps (λ t. t) worked.quiet (λ t. refl) (λ i l. l),
      same,
    )

-- The house of a book whose history is this, with its operation's input and the reading of the clock.
pub record Ready {O T : Type 0} (link : O → LinkView) (disk : O → DiskView) (trade : T → TradeView) (kind : ℕ) (operation : OperationView) (bytes input : List ℕ) (a : O) (y : HouseView O T) (h : History) : Type 0 where
  pub of_bytes : Encodes h bytes
  pub of_kind : site_kind h ≡ Some kind
  pub house : HouseRepresents disk trade y h
  pub limits' : limits_of y.bench ≡ full
  pub taken : LinkView
  pub takes : TakesInput operation.input (link a) input taken
  pub moment : ℕ
  pub read : AreRead OfLinks (moment ∷ []) taken.readings (link y.journal.disk).readings
  pub rest : link y.journal.disk ≡ with_readings (link y.journal.disk).readings taken
  pub time' : house_time y.bench ≡ max (time h) moment
  pub pairs : Ran (disk a) (disk y.journal.disk) (BeforePair (Tells link a) (disk a)) × (Tells link a → (disk y.journal.disk).aside ≡ (disk a).aside)

-- the pairs from the outside that was handed in on
pub before_pairs : {O T : Type 0} (link : O → LinkView) (disk : O → DiskView) (trade : T → TradeView) (a : O) (x y : HouseView O T) → TellsAside link (λ o. (disk o).aside) → OnlyRead (disk a) (disk x.journal.disk) → link x.journal.disk ≡ link a → Worked link disk trade x y
    → Ran (disk a) (disk y.journal.disk) (BeforePair (Tells link a) (disk a)) × (Tells link a → (disk y.journal.disk).aside ≡ (disk a).aside)
before_pairs link disk trade a x y tells read same worked =
    let on : Tells link a → Tells link x.journal.disk = λ told'. subst (λ (v : LinkView). IsSome v.sessions) (sym same) told' in
    let pairs = worked_pairs link disk trade x y tells worked in (
      ran_then (disk a) (disk x.journal.disk) (disk y.journal.disk) (BeforePair (Tells link a) (disk a))
          (ran_weaker (disk a) (disk x.journal.disk) _ _ read.ran (λ i s p. (p.0, λ told'. p.1)))
          (ran_weaker (disk x.journal.disk) (disk y.journal.disk) _ _ pairs.0 (λ i s p. (read.leaves i p.0, λ told'. p.1 (on told') ∙ read.aside))),
      λ told'. pairs.1 (on told') ∙ read.aside,
    )

-- the clock alone was read
pub by_clock : {O T : Type 0} (link : O → LinkView) (disk : O → DiskView) (trade : T → TradeView) (x y : HouseView O T) → LinkKeeps (disk x.journal.disk) (disk y.journal.disk) → link y.journal.disk ≡ with_readings (link y.journal.disk).readings (link x.journal.disk)
    → ((h : History) → HouseRepresents disk trade x h → HouseRepresents disk trade y h) → limits_of y.bench ≡ limits_of x.bench → Worked link disk trade x y
by_clock link disk trade x y keeps rest stands limits = record {
  quiet = no_more_still (link x.journal.disk) (link y.journal.disk) (ap (λ (v : LinkView). v.sessions) rest);
  keeps = keeps;
  represents = stands;
  limits' = limits;
}

-- ---- without the input

-- links worked on the outside of a house
pub by_links : {O T : Type 0} (link : O → LinkView) (disk : O → DiskView) (trade : T → TradeView) (x y : HouseView O T) → SentNoMore (link x.journal.disk) (link y.journal.disk) → LinkKeeps (disk x.journal.disk) (disk y.journal.disk) → HouseRests x y → Worked link disk trade x y
by_links link disk trade x y quiet keeps rests = record {
  quiet = quiet;
  keeps = keeps;
  represents = λ h st. house_keeps disk trade x y h st keeps rests;
  limits' = ap limits_of rests.bench;
}

-- an operation was ready once its input was read, and the clock
pub ready_by : {O T : Type 0} (link : O → LinkView) (disk : O → DiskView) (trade : T → TradeView) (passes : Test) (kind : ℕ) (operation : OperationView) (bytes input : List ℕ) (a : O) (x m y : HouseView O T) (moment : ℕ) → TellsAside link (λ o. (disk o).aside)
    → (at : Opened link disk trade passes kind bytes a x) → TakesInput operation.input (link x.journal.disk) input (link m.journal.disk) → LinkKeeps (disk x.journal.disk) (disk m.journal.disk) → HouseRests x m
    → LinkKeeps (disk x.journal.disk) (disk y.journal.disk) → LinkKeeps (disk m.journal.disk) (disk y.journal.disk)
    → ((h : History) → HouseRepresents disk trade m h → HouseRepresents disk trade y h) → limits_of y.bench ≡ limits_of m.bench
    → AreRead OfLinks (moment ∷ []) (link m.journal.disk).readings (link y.journal.disk).readings → link y.journal.disk ≡ with_readings (link y.journal.disk).readings (link m.journal.disk)
    → house_time y.bench ≡ max (house_time m.bench) moment → Ready link disk trade kind operation bytes input a y at.house.history
ready_by link disk trade passes kind operation bytes input a x m y moment tells at takes kept_so_far rests kept_both kept_then stands limits read rest raised =
    let by_input = by_links link disk trade x m (taken_quiet operation.input (link x.journal.disk) (link m.journal.disk) input takes) kept_so_far rests in
    let worked = worked_then link disk trade x m y by_input kept_both (by_clock link disk trade m y kept_then rest stands limits) in
    record {
      of_bytes = at.house.of_bytes;
      of_kind = at.house.of_kind;
      house = worked.represents at.house.history at.house.house;
      limits' = worked.limits' ∙ at.house.limits';
      taken = link m.journal.disk;
      takes = subst (λ (v : LinkView). TakesInput operation.input v input (link m.journal.disk)) at.link' takes;
      moment = moment;
      read = read;
      rest = rest;
      time' = raised ∙ ap (λ (n : ℕ). max n moment) (ap house_time rests.bench ∙ at.house.time');
      pairs = before_pairs link disk trade a x y tells at.read at.link' worked;
    }

-- an image of before, or of the entries as they were, is one however the operation ended
unchanged : (before : DiskView) (task : Task) (h : History) (status : Status) (image : List ℕ) → before.leaves image ⊎ Encodes h image → OperateImage before task h status image
unchanged before task h (ends.Did line) image is = ⊎_elim (λ l. inl l) (λ st. inr (inl st)) is
unchanged before task h ends.DiskFault image is = ⊎_elim (λ l. inl l) (λ st. inr (inl st)) is
unchanged before task h ends.Done image is = is
unchanged before task h (ends.Served n) image is = is
unchanged before task h (ends.Founded name) image is = is
unchanged before task h (ends.Proxied n paid) image is = is
unchanged before task h ends.BadWords image is = is
unchanged before task h (ends.Stranger name id) image is = is
unchanged before task h ends.NotJournal image is = is
unchanged before task h (ends.BadEntry place) image is = is
unchanged before task h (ends.BadChain place) image is = is
unchanged before task h (ends.UnlawfulEntry place) image is = is
unchanged before task h ends.NoMemory image is = is
unchanged before task h ends.LinkFault image is = is
unchanged before task h (ends.Refused f) image is = is

-- nothing was done to the book
pub unread : {O T : Type 0} (link : O → LinkView) (disk : O → DiskView) (trade : T → TradeView) (passes : Test) (kind : ℕ) (operation : OperationView) (bytes : List ℕ) (a : O) (x y : HouseView O T) (status : Status) → TellsAside link (λ o. (disk o).aside) → Opened link disk trade passes kind bytes a x → Worked link disk trade x y
    → ((status ≡ ends.LinkFault) × LosesInput operation.input (link x.journal.disk) (link y.journal.disk)) ⊎ ((status ≡ ends.NoMemory) × (link y.journal.disk ≡ link x.journal.disk)) → Unread link disk passes kind operation bytes a status y.journal.disk
unread link disk trade passes kind operation bytes a x y status tells at worked lost = record {
  history = at.house.history;
  stands = at.house.of_bytes;
  of_kind = at.house.of_kind;
  passed = all_passed passes [] at.house.history at.house.follow;
  left = lawful_in disk trade y at.house.history (worked.limits' ∙ at.house.limits') (worked.represents at.house.history at.house.house);
  pairs = ran_weaker (disk a) (disk y.journal.disk) _ _ (before_pairs link disk trade a x y tells at.read at.link' worked).0 (λ i s p. (unchanged (disk a) Stays at.house.history status i (inl p.0), p.1));
  lost = ⊎_elim
      (λ l. inl (l.0, subst (λ (v : LinkView). LosesInput operation.input v (link y.journal.disk)) at.link' l.1))
      (λ l. inr (l.0, l.1 ∙ at.link')) lost;
}

-- memory was refused before anything was done
pub unread_at_once : {O T : Type 0} (link : O → LinkView) (disk : O → DiskView) (trade : T → TradeView) (passes : Test) (kind : ℕ) (operation : OperationView) (bytes : List ℕ) (a : O) (x : HouseView O T) → TellsAside link (λ o. (disk o).aside) → LinkKeeps (disk x.journal.disk) (disk x.journal.disk) → Opened link disk trade passes kind bytes a x
    → Unread link disk passes kind operation bytes a ends.NoMemory x.journal.disk
unread_at_once link disk trade passes kind operation bytes a x tells keeps at =
    unread link disk trade passes kind operation bytes a x x ends.NoMemory tells at (by_links link disk trade x x (no_more_still (link x.journal.disk) (link x.journal.disk) refl) keeps (house_rests_none x)) (inr (refl, refl))

-- ---- the task

-- how the disk is left, by what was done
did : {O T : Type 0} (disk : O → DiskView) (trade : T → TradeView) (operation : OperationView) (input line : List ℕ) (y : HouseView O T) (h : History) (task : Task) (out : Outcome O T (Unit {0})) → limits_of y.bench ≡ full → IsLawful full h
    → ((o : O) → IsDisk (disk o)) → OfHouse (KeepsTime y) out
    → Does disk trade (λ t g answer. operation.says input h t line) (limits_of y.bench) y.journal.disk h task out → Ran (disk y.journal.disk) (disk (outcome_disk out)) (LeavesBy task out h (disk y.journal.disk).aside)
    → DidBy (disk (outcome_disk out)) operation input h task (outcome_status out line)
did disk trade operation input line y h (Add e) (outcomes.Done x n) limits lawful is_disk keeps does ran = (tt, does.1, lawful_in disk trade x (h ++ e ∷ []) (keeps.limits ∙ limits) does.0)
did disk trade operation input line y h (Add e) (outcomes.Refused x f) limits lawful is_disk keeps does ran =
    (subst (λ (l : Limits). fitted h l e ≡ Err (lines.Refuse f)) limits does.0, lawful_in disk trade x h (keeps.limits ∙ limits) does.1.represents)
did disk trade operation input line y h (Add e) (outcomes.NoMemory x) limits lawful is_disk keeps does ran = lawful_in disk trade x h (keeps.limits ∙ limits) does.represents
did disk trade operation input line y h (Add e) (outcomes.Halted d) limits lawful is_disk keeps does ran =
    let more : IsLawful full (h ++ e ∷ []) = longer_lawful full h e lawful (subst (λ (l : Limits). MayFollow l h e) limits does.0) in
    record { leaves = λ image l. (ran_now (disk y.journal.disk) (disk d) _ (is_disk d) ran image l).0; lawful = more; once = accepted_once full (h ++ e ∷ []) more }
did disk trade operation input line y h Stays (outcomes.Done x n) limits lawful is_disk keeps does ran = (tt, does.1, lawful_in disk trade x h (keeps.limits ∙ limits) does.0.represents)
did disk trade operation input line y h Stays (outcomes.Refused x f) limits lawful is_disk keeps does ran = absurd does
did disk trade operation input line y h Stays (outcomes.NoMemory x) limits lawful is_disk keeps does ran = lawful_in disk trade x h (keeps.limits ∙ limits) does.represents
did disk trade operation input line y h Stays (outcomes.Halted d) limits lawful is_disk keeps does ran = absurd does
did disk trade operation input line y h (Refuse g) (outcomes.Done x n) limits lawful is_disk keeps does ran = absurd does
did disk trade operation input line y h (Refuse g) (outcomes.Refused x f) limits lawful is_disk keeps does ran = (does.0, lawful_in disk trade x h (keeps.limits ∙ limits) does.1.represents)
did disk trade operation input line y h (Refuse g) (outcomes.NoMemory x) limits lawful is_disk keeps does ran = absurd does
did disk trade operation input line y h (Refuse g) (outcomes.Halted d) limits lawful is_disk keeps does ran = absurd does

-- the crash pairs of a task
leaves_pair : {O T : Type 0} (tells : Type 0) (before : DiskView) (task : Task) (out : Outcome O T (Unit {0})) (line : List ℕ) (h : History) (aside image sent : List ℕ) → (tells → aside ≡ before.aside) → LeavesBy task out h aside image sent
    → OperatePair tells before task h (outcome_status out line) image sent
leaves_pair tells before (Add e) (outcomes.Done x n) line h aside image sent same p = (inr p.0, λ t. p.1 ∙ same t)
leaves_pair tells before (Add e) (outcomes.Refused x f) line h aside image sent same p = (inr p.0, λ t. p.1 ∙ same t)
leaves_pair tells before (Add e) (outcomes.NoMemory x) line h aside image sent same p = (inr p.0, λ t. p.1 ∙ same t)
leaves_pair tells before (Add e) (outcomes.Halted d) line h aside image sent same p = (inr p.0, λ t. p.1 ∙ same t)
leaves_pair tells before Stays out line h aside image sent same p = (unchanged before Stays h (outcome_status out line) image (inr p.0), λ t. p.1 ∙ same t)
leaves_pair tells before (Refuse f) out line h aside image sent same p = (unchanged before (Refuse f) h (outcome_status out line) image (inr p.0), λ t. p.1 ∙ same t)

-- an operation that the book's house was ready for
pub operated : {O T : Type 0} (link : O → LinkView) (disk : O → DiskView) (trade : T → TradeView) (passes : Test) (kind : ℕ) (operation : OperationView) (bytes input line : List ℕ) (a : O) (y : HouseView O T) (h : History) (out : Outcome O T (Unit {0}))
    → AllPass passes h → Ready link disk trade kind operation bytes input a y h → ((o : O) → IsDisk (disk o)) → link (outcome_disk out) ≡ link y.journal.disk → OfHouse (KeepsTime y) out
    → Performs disk trade (operation.asks input h (house_time y.bench)) (λ task g answer. operation.says input h task line) (limits_of y.bench) y.journal.disk h out
    → Operated link disk passes kind operation bytes a (outcome_status out line) (outcome_disk out)
operated link disk trade passes kind operation bytes input line a y h out pass at is_disk same keeps does = record {
  history = h;
  stands = at.of_bytes;
  of_kind = at.of_kind;
  passed = pass;
  input = input;
  taken = at.taken;
  takes = at.takes;
  moment = at.moment;
  read = subst (λ (v : LinkView). AreRead OfLinks (at.moment ∷ []) at.taken.readings v.readings) (sym same) at.read;
  rest = subst (λ (v : LinkView). v ≡ with_readings v.readings at.taken) (sym same) at.rest;
  task = does.task;
  asks = subst (λ (t : ℕ). operation.asks input h t does.task) at.time' does.asks;
  did = did disk trade operation input line y h does.task out at.limits' (subst (λ (l : Limits). IsLawful l h) at.limits' at.house.house.represents.state.lawful) is_disk keeps does.does does.ran;
  pairs = ran_then (disk a) (disk y.journal.disk) (disk (outcome_disk out)) (OperatePair (Tells link a) (disk a) does.task h (outcome_status out line))
      (ran_weaker (disk a) (disk y.journal.disk) _ _ at.pairs.0 (λ i s p. (unchanged (disk a) does.task h (outcome_status out line) i (inl p.0), p.1)))
      (ran_weaker (disk y.journal.disk) (disk (outcome_disk out)) _ _ does.ran (λ i s p. leaves_pair (Tells link a) (disk a) does.task out line h (disk y.journal.disk).aside i s at.pairs.1 p));
}

-- ---- causes

-- the input was read, and then the clock, before what was done to the disk; a refusal is one of the operation's
pub operated_causes : {O T A : Type 0} (link : O → LinkView) (disk : O → DiskView) (operation : OperationView) (a y : O) (out : Outcome O T A) (line : List ℕ) → (disk y).faults ≡ (disk a).faults → CountsFaults out (disk y).faults (disk (outcome_disk out)).faults
    → IfRefused (IsAmong operation.refusals) out → IsReady operation (link a) (link (outcome_disk out)) → OperateCauses link disk operation a (outcome_status out line) (outcome_disk out)
operated_causes link disk operation a y (outcomes.Done x n) line same counts among ready = (counts ∙ same, ready)
operated_causes link disk operation a y (outcomes.Refused x f) line same counts among ready = (counts ∙ same, inr (among, ready))
operated_causes link disk operation a y (outcomes.NoMemory x) line same counts among ready = (counts ∙ same, inr ready)
operated_causes link disk operation a y (outcomes.Halted d) line same counts among ready = subst (λ (n : ℕ). Rose n (disk d).faults) same counts

-- the causes from the outside on that was opened
pub causes_opened : {O : Type 0} (link : O → LinkView) (disk : O → DiskView) (operation : OperationView) (a x : O) (status : Status) (b : O) → (disk x).faults ≡ (disk a).faults → link x ≡ link a → OperateCauses link disk operation x status b → OperateCauses link disk operation a status b
causes_opened link disk operation a x ends.Done b same links causes = absurd causes.1
causes_opened link disk operation a x (ends.Served n) b same links causes = absurd causes.1
causes_opened link disk operation a x (ends.Founded name) b same links causes = absurd causes.1
causes_opened link disk operation a x (ends.Proxied n paid) b same links causes = absurd causes.1
causes_opened link disk operation a x (ends.Did line) b same links causes = (causes.0 ∙ same, subst (λ (v : LinkView). IsReady operation v (link b)) links causes.1)
causes_opened link disk operation a x ends.BadWords b same links causes = absurd causes.1
causes_opened link disk operation a x (ends.Stranger name id) b same links causes = absurd causes.1
causes_opened link disk operation a x ends.NotJournal b same links causes = (causes.0 ∙ same, causes.1 ∙ links)
causes_opened link disk operation a x (ends.BadEntry place) b same links causes = (causes.0 ∙ same, causes.1 ∙ links)
causes_opened link disk operation a x (ends.BadChain place) b same links causes = (causes.0 ∙ same, causes.1 ∙ links)
causes_opened link disk operation a x (ends.UnlawfulEntry place) b same links causes = (causes.0 ∙ same, causes.1 ∙ links)
causes_opened link disk operation a x ends.DiskFault b same links causes = subst (λ (n : ℕ). Rose n (disk b).faults) same causes
causes_opened link disk operation a x ends.NoMemory b same links causes = (causes.0 ∙ same, ⊎_elim (λ still. inl (still ∙ links)) (λ ready. inr (subst (λ (v : LinkView). IsReady operation v (link b)) links ready)) causes.1)
causes_opened link disk operation a x ends.LinkFault b same links causes = (causes.0 ∙ same, (subst (λ (v : LinkView). Rose v.faults (link b).faults) links causes.1.0, subst (λ (v : LinkView). LosesInput operation.input v (link b)) links causes.1.1))
causes_opened link disk operation a x (ends.Refused f) b same links causes = (causes.0 ∙ same, ⊎_elim (λ other. inl (other.0, other.1 ∙ links)) (λ own. inr (own.0, subst (λ (v : LinkView). IsReady operation v (link b)) links own.1)) causes.1)
