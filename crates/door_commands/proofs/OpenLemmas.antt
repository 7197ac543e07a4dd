-- A book that is served with a door for its operator.
use Rattle.std.proofs.Common.{◌≡◌, inl, inr, ℕ, List, [], ◌∷◌, ◌++◌, refl, sym, ap, ◌∙◌, subst, arith, append-nil, Bool, false}
use Rattle.std.specs.Prelude.{IsSome, IsTrue, max}
use Rattle.mc_outside.specs.DiskView.{DiskView, OnlyRead, Ran}
use Rattle.mc_outside.specs.LinkView.{LinkView, next_taken}
use Rattle.mc_outside.proofs.Runs.{ran_weaker}
use Rattle.mc_records.specs.Entry.{Entry}
use Rattle.mc_requests.specs.declared.limits.Limits.{Limits}
use Rattle.ledger_model.specs.Histories.{History, time}
use Rattle.ledger_model.specs.Lawful.{IsLawful}
use Rattle.ledger_model.proofs.AcceptLaws.{accepted_once}
use Rattle.millicent_http.specs.Steps.{Did, sent_of, state_after}
use Rattle.millicent_http.proofs.StepLemmas.{state_after-append}
use Rattle.link_turns.specs.Orders.{MovedBy, IsEither}
use Rattle.link_turns.proofs.OrderLemmas.{doubt_told}
use Rattle.house_state.specs.Learning.{Test}
use Rattle.house_state.specs.Trade.{TradeView}
use Rattle.house_core.specs.HouseView.{HouseView}
use Rattle.house_core.specs.Bench.{limits_of, state_of}
use Rattle.house_core.specs.House.{HouseRepresents}
use Rattle.house_core.specs.Session.{State}
use Rattle.house_core.specs.Tasks.{Task, after}
use Rattle.house_opening.specs.Opening.{OpenedFor}
use Rattle.house_serving.specs.declared.links.ServeOut.{ServeOut}
use Rattle.house_serving.specs.declared.links.ServeOut.TheVariants as outs
use Rattle.house_serving.specs.Orders.{history_of, RefinesBy}
use Rattle.house_serving.specs.Links.{served_outside}
use Rattle.operator_command.specs.Operations.{OperationView, full}
use Rattle.command_status.specs.declared.status.Status.{Status}
use Rattle.command_status.specs.declared.status.Status.TheVariants as ends
use Rattle.site_commands.specs.Endings.{served_status}
use Rattle.site_commands.specs.Serving.{EncodesLawful, ServedFrom, Unserved}
use Rattle.site_commands.specs.Operator.{DidBy, Operated}
use Rattle.site_commands.proofs.LawfulRuns.{IsSound, doubt_sound}
use Rattle.site_commands.proofs.ServedLemmas.{stands_lawful, read_then_moved}
use Rattle.house_doors.specs.Commands.{Endings, Doubts}
use Rattle.house_doors.specs.Links.{ServedAllBy, ServedSomeBy, InDoubtBy, HadEither, DoubtsEither, HasLimits, ServesBy}
use Rattle.house_doors.specs.Performing.{EndsAs}
use Rattle.door_commands.specs.Open.{OpensLinksOf}

-- the book was only read, and then the house went by these steps
served_from : {O T : Type 0} (link : O → LinkView) (disk : O → DiskView) (trade : T → TradeView) (passes : Test) (kind : ℕ) (bytes : List ℕ) (a : O) (x y : HouseView O T) (steps : List (Did State))
    (at : OpenedFor disk trade passes full kind bytes x) → OnlyRead (disk a) (disk x.journal.disk) → link x.journal.disk ≡ link a → RefinesBy link disk trade x.journal.disk (state_of at.history x.bench) steps y
    → IsLawful full (state_after (state_of at.history x.bench) steps).history → ServedFrom link disk kind bytes a y.journal.disk (state_of at.history x.bench) steps
served_from link disk trade passes kind bytes a x y steps at read same went lawful = record {
  encoded = record { stands = at.of_bytes; of_kind = at.of_kind; time' = at.time' };
  left = stands_lawful disk trade y (state_after (state_of at.history x.bench) steps).history went.stands.house lawful;
  pairs = read_then_moved (IsSome (link a).sessions) (disk a) (disk x.journal.disk) (disk y.journal.disk) (state_of at.history x.bench) steps read
      (subst (λ (v : LinkView). MovedBy history_of (IsSome v.sessions) (disk x.journal.disk) (disk y.journal.disk) (state_of at.history x.bench) steps) same went.moved);
}

-- the house that is left represents a lawful history
left_lawful : {O T : Type 0} (link : O → LinkView) (disk : O → DiskView) (trade : T → TradeView) (a : O) (s : State) (steps : List (Did State)) (x y : HouseView O T) → limits_of x.bench ≡ full → limits_of y.bench ≡ limits_of x.bench
    → RefinesBy link disk trade a s steps y → IsLawful full (state_after s steps).history
left_lawful link disk trade a s steps x y is_full same went = subst (λ (l : Limits). IsLawful l (state_after s steps).history) (same ∙ is_full) went.stands.house.house.represents.state.lawful

-- with an entry in doubt the history is lawful: on the last link alone
one_lawful : (whose : LinkView → Bool → Type 0) (doubts : Doubts) (most : ℕ) (steps : List (Did State)) (s : State) (between : LinkView) (e : Entry) (said : List ℕ) (after : LinkView)
    → DoubtsEither whose doubts most steps s (next_taken between) e said after → IsLawful full ((state_after s steps).history ++ e ∷ [])
one_lawful whose doubts most steps s between e said stopped (inl customer) =
    let sound : IsSound full s = record { lawful = customer.1; in_time = customer.2 } in
    (doubt_sound full 1 steps s between e said (record stopped { stands = false }) (omega arith) sound
    (record {
      n = 0;
      few = omega arith;
      front = [];
      last = steps;
      steps_are = refl;
      between = between;
      links_had = (refl, refl);
      stopped = stopped;
      last_link = customer.3;
      ended = refl;
    })).1
one_lawful whose doubts most steps s between e said stopped (inr operator) =
    subst (λ (l : List (Did State)). IsLawful full ((state_after s l).history ++ e ∷ [])) (sym operator.1.none) operator.1.in_doubt.lawful

-- and behind all links
doubt_lawful : (whose : LinkView → Bool → Type 0) (ends : Endings) (doubts : Doubts) (most links : ℕ) (steps : List (Did State)) (s : State) (before : LinkView) (e : Entry) (said : List ℕ) (after : LinkView)
    → InDoubtBy (HadEither whose ends most) (DoubtsEither whose doubts most) links steps s before e said after → IsLawful full ((state_after s steps).history ++ e ∷ [])
doubt_lawful whose ends doubts most links steps s before e said after doubt =
    subst (λ (l : List (Did State)). IsLawful full ((state_after s l).history ++ e ∷ [])) (sym doubt.steps_are)
    (subst (λ (t : State). IsLawful full (t.history ++ e ∷ [])) (sym (state_after-append s doubt.front doubt.last))
    (one_lawful whose doubts most doubt.last (state_after s doubt.front) doubt.between e said doubt.stopped doubt.last_link))

-- the book of the house that was opened is served
pub opens_book : {O T : Type 0} (link : O → LinkView) (disk : O → DiskView) (trade : T → TradeView) (passes : Test) (whose : LinkView → Bool → Type 0) (ends : Endings) (doubts : Doubts) (most kind links : ℕ) (bytes : List ℕ) (a : O) (x : HouseView O T) (out : ServeOut O T)
    (at : OpenedFor disk trade passes full kind bytes x) → OnlyRead (disk a) (disk x.journal.disk) → (disk x.journal.disk).faults ≡ (disk a).faults → link x.journal.disk ≡ link a → HasLimits (limits_of x.bench) out
    → ((h : History) → HouseRepresents disk trade x h → limits_of x.bench ≡ full → ServesBy link disk trade (HadEither whose ends most) (DoubtsEither whose doubts most) links x.journal.disk (state_of h x.bench) out)
    → OpensLinksOf link disk (HadEither whose ends most) (DoubtsEither whose doubts most) kind links bytes a (served_status out) (served_outside out)
opens_book link disk trade passes whose ends doubts most kind links bytes a x (outs.Done y n) at read calm same limits served =
    let s : State = state_of at.history x.bench in
    let by = served at.history at.house at.limits' in (
      s,
      by.0,
      served_from link disk trade passes kind bytes a x y by.0 at read same by.1 (left_lawful link disk trade x.journal.disk s by.0 x y at.limits' limits by.1),
      subst (λ (v : LinkView). ServedAllBy (HadEither whose ends most) links n by.0 s v (link y.journal.disk)) same by.2,
    )
opens_book link disk trade passes whose ends doubts most kind links bytes a x (outs.Link y) at read calm same limits served =
    let s : State = state_of at.history x.bench in
    let by = served at.history at.house at.limits' in (
      s,
      by.0,
      served_from link disk trade passes kind bytes a x y by.0 at read same by.1 (left_lawful link disk trade x.journal.disk s by.0 x y at.limits' limits by.1),
      subst (λ (v : LinkView). ServedSomeBy (HadEither whose ends most) links by.0 s v (link y.journal.disk)) same by.2,
    )
opens_book {O = O} link disk trade passes whose ends doubts most kind links bytes a x (outs.NoMemory y) at read calm same limits served =
    let by = served at.history at.house at.limits' in
    subst (λ (d : O). Unserved link disk a d) (sym by.1) (record { link' = same; read = read })
opens_book link disk trade passes whose ends doubts most kind links bytes a x (outs.Halted d) at read calm same limits served =
    let s : State = state_of at.history x.bench in
    let by = served at.history at.house at.limits' in
    let halted = by.3 in
    let tells : Type 0 = IsSome (link a).sessions in
    let until : MovedBy history_of tells (disk x.journal.disk) (disk halted.taken) s by.0 =
    subst (λ (v : LinkView). MovedBy history_of (IsSome v.sessions) (disk x.journal.disk) (disk halted.taken) s by.0) same halted.until in
    let h : History = (state_after s by.0).history in
    let still : tells → IsSome (link halted.taken).sessions = λ told'. subst (λ (o : Bool). IsTrue o) (sym halted.tells) (subst (λ (v : LinkView). IsSome v.sessions) (sym same) told') in
    let doubt = subst (λ (v : LinkView). InDoubtBy (HadEither whose ends most) (DoubtsEither whose doubts most) links by.0 s v by.1 by.2 (link d)) same by.4 in
    let lawful = doubt_lawful whose ends doubts most links by.0 s (link a) by.1 by.2 (link d) doubt in (
      s,
      by.0,
      by.1,
      by.2,
      record {
        encoded = record { stands = at.of_bytes; of_kind = at.of_kind; time' = at.time' };
        left = record { leaves = λ i l. subst (λ (g : History). IsEither g by.1 i) (append-nil h) (halted.halts.leaves i l); lawful = lawful; once = accepted_once full _ lawful };
        taken = halted.taken;
        quiet = halted.quiet ∙ calm;
        aside = λ told'. until.aside told' ∙ ap (λ (l : List ℕ). l ++ sent_of by.0) read.aside;
        until = read_then_moved tells (disk a) (disk x.journal.disk) (disk halted.taken) s by.0 read until;
        rose = halted.halts.rose;
        since = ran_weaker (disk halted.taken) (disk d) _ _ halted.halts.since (λ i x. doubt_told tells (IsSome (link halted.taken).sessions) h (disk halted.taken).aside (by.1 ∷ []) by.2 i x still);
      },
      doubt,
    )

-- ---- at a door as over a closed book

did_as : (d : DiskView) (operation : OperationView) (input : List ℕ) (h : History) (t : ℕ) (task : Task) (status : Status) → operation.asks input h t task → DidBy d operation input h task status → (status ≡ ends.DiskFault → ⊥)
    → (g : History) × EndsAs operation input h t status g × EncodesLawful d g
did_as d operation input h t task (ends.Did line) asks did none = (after task h, (task, asks, did.0, did.1, refl), did.2)
did_as d operation input h t task (ends.Refused f) asks did none = (h, (task, asks, did.0, refl), did.1)
did_as d operation input h t task ends.NoMemory asks did none = (h, refl, did)
did_as d operation input h t task ends.DiskFault asks did none = absurd (none refl)
did_as d operation input h t task ends.Done asks did none = absurd did
did_as d operation input h t task (ends.Served n) asks did none = absurd did
did_as d operation input h t task (ends.Proxied n paid) asks did none = absurd did
did_as d operation input h t task (ends.Founded name) asks did none = absurd did
did_as d operation input h t task ends.BadWords asks did none = absurd did
did_as d operation input h t task ends.NotJournal asks did none = absurd did
did_as d operation input h t task (ends.BadEntry place) asks did none = absurd did
did_as d operation input h t task (ends.BadChain place) asks did none = absurd did
did_as d operation input h t task (ends.UnlawfulEntry place) asks did none = absurd did
did_as d operation input h t task ends.LinkFault asks did none = absurd did
did_as d operation input h t task (ends.Stranger name id) asks did none = absurd did

pub operated_as : {O : Type 0} (link : O → LinkView) (disk : O → DiskView) (passes : Test) (kind : ℕ) (operation : OperationView) (bytes : List ℕ) (a : O) (status : Status) (b : O) (o : Operated link disk passes kind operation bytes a status b) → (status ≡ ends.DiskFault → ⊥)
    → (g : History) × EndsAs operation o.input o.history (max (time o.history) o.moment) status g × EncodesLawful (disk b) g
operated_as link disk passes kind operation bytes a status b o none =
    did_as (disk b) operation o.input o.history (max (time o.history) o.moment) o.task status o.asks o.did none
