-- How serving the book of a site ends.
use Rattle.std.proofs.Common.{◌≤◌, ◌≡◌, ◌⊎◌, inl, inr, ℕ, List, [], ◌∷◌, ◌++◌, refl, sym, ap, ◌∙◌, subst, arith, append-nil, Err}
use Rattle.std.specs.Prelude.{Bool, IsSome, IsTrue}
use Rattle.mc_outside.specs.Bytes.{Rose}
use Rattle.mc_outside.specs.DiskView.{DiskView, OnlyRead, Ran}
use Rattle.mc_outside.specs.LinkView.{LinkView}
use Rattle.mc_outside.proofs.Runs.{ran_then, ran_weaker}
use Rattle.mc_requests.specs.declared.limits.Limits.{Limits}
use Rattle.ledger_model.specs.Histories.{History}
use Rattle.ledger_model.specs.Lawful.{IsLawful}
use Rattle.ledger_model.proofs.AcceptLaws.{accepted_once}
use Rattle.millicent_http.specs.declared.clock.Clock.TheVariants.{OfLinks}
use Rattle.millicent_http.specs.Steps.{Did, sent_of, state_after}
use Rattle.millicent_http.specs.Courses.{ServedAll, ServedSome}
use Rattle.link_turns.specs.Orders.{InOrder, MovedBy, IsEither}
use Rattle.link_turns.proofs.OrderLemmas.{doubt_told}
use Rattle.house_core.specs.HouseView.{HouseView}
use Rattle.house_core.specs.Bench.{limits_of, state_of}
use Rattle.house_core.specs.House.{HouseRepresents}
use Rattle.scrip_journal.specs.Layout.{Encodes}
use Rattle.scrip_journal.specs.declared.fault.HouseFault.{HouseFault}
use Rattle.scrip_journal.specs.declared.fault.HouseFault.TheVariants as faults
use Rattle.scrip_journal.specs.Founds.{fault_disk}
use Rattle.book_opening.specs.Opening.{CountedBy}
use Rattle.house_opening.specs.Opening.{OpenedFor, OpensHouse}
use Rattle.house_core.specs.Session.{State, Step}
use Rattle.house_serving.specs.declared.links.ServeOut.{ServeOut}
use Rattle.house_serving.specs.declared.links.ServeOut.TheVariants as outs
use Rattle.house_serving.specs.InDoubt.{InDoubtLinks}
use Rattle.house_serving.specs.Orders.{history_of, RefinesBy}
use Rattle.house_serving.specs.Links.{ServesLinks, ServedEnough, HaveCauses, served_outside}
use Rattle.operator_command.specs.Operations.{full}
use Rattle.command_status.specs.declared.status.Status.{Status}
use Rattle.command_status.specs.declared.status.Status.TheVariants as ends
use Rattle.command_status.specs.Faults.{fault_status}
use Rattle.site_commands.specs.Endings.{served_status}
use Rattle.site_commands.specs.Serving.{EncodesLawful, ServePair, ServedFrom, Unserved, NotOpened, ServesLinksOf, BookCauses, ServeCauses}
use Rattle.site_commands.proofs.LawfulRuns.{IsSound, all_sound, links_sound, doubt_sound}
use Rattle.house_state.specs.Learning.{Test}
use Rattle.house_state.specs.Trade.{TradeView}

-- ---- causes

-- of a book that was not opened: a command may end for want of memory with the links as they were
pub unopened_causes : {O : Type 0} (A : Type 0) (link : O → LinkView) (disk : O → DiskView) (Own : Status → O → O → Type 0) (a : O) (fault : HouseFault O) → ((b : O) → link b ≡ link a → Own ends.NoMemory a b)
    → CountedBy {D = O} {A = A} (Err fault) (disk a).faults (disk (fault_disk fault)).faults → link (fault_disk fault) ≡ link a → BookCauses link disk Own a (fault_status fault) (fault_disk fault)
unopened_causes A link disk Own a (faults.NotJournal d) short counts same = (counts, same)
unopened_causes A link disk Own a (faults.BadRecord d place) short counts same = (counts, same)
unopened_causes A link disk Own a (faults.BadChain d place stood computed) short counts same = (counts, same)
unopened_causes A link disk Own a (faults.Unlawful d place) short counts same = (counts, same)
unopened_causes A link disk Own a (faults.WrongKind d) short counts same = (counts, inl (refl, same))
unopened_causes A link disk Own a (faults.NotEmpty d size) short counts same = absurd counts
unopened_causes A link disk Own a (faults.Disk d) short counts same = counts
unopened_causes A link disk Own a (faults.NoMemory d) short counts same = (counts, short d same)

pub serve_causes : {O T : Type 0} (link : O → LinkView) (disk : O → DiskView) (wanted : ℕ) (a b : O) (out : ServeOut O T) → (disk b).faults ≡ (disk a).faults → link b ≡ link a → HaveCauses link disk b out → ServedEnough link wanted out
    → ServeCauses link disk wanted a (served_status out) (served_outside out)
serve_causes link disk wanted a b (outs.Done x n) same links kept enough = (kept.disk' ∙ same, (subst (λ (v : LinkView). v.faults ≤ (link x.journal.disk).faults) links kept.link', enough))
serve_causes link disk wanted a b (outs.Link x) same links kept enough =
    let grown : (link a).faults ≤ (link kept.before).faults = subst (λ (v : LinkView). v.faults ≤ (link kept.before).faults) links kept.counts.link' in (
      kept.keeps.faults ∙ kept.counts.disk' ∙ same,
      (
        omega (arith, grown, kept.fault.rose),
        record { before = kept.before; counts = record { disk' = kept.counts.disk' ∙ same; link' = grown }; keeps = kept.keeps; fault = kept.fault },
      ),
    )
serve_causes link disk wanted a b (outs.NoMemory x) same links kept enough = (ap (λ d. (disk d).faults) kept ∙ same, ap link kept ∙ links)
serve_causes link disk wanted a b (outs.Halted d) same links kept enough = subst (λ (n : ℕ). Rose n (disk d).faults) same kept

-- ---- from the opened house on

-- the book was only read, and then the house went by these steps
pub read_then_moved : (tells : Type 0) (a b c : DiskView) (s : State) (steps : List (Did State)) → OnlyRead a b → MovedBy history_of tells b c s steps → Ran a c (ServePair tells a s steps)
read_then_moved tells a b c s steps read moved =
    ran_then a b c (ServePair tells a s steps) (ran_weaker a b _ _ read.ran (λ i x p. inl p))
    (subst (λ (l : List ℕ). Ran b c (λ i x. (a.leaves i × (x ≡ a.aside)) ⊎ InOrder history_of tells s l steps i x)) read.aside (ran_weaker b c _ _ moved.ran (λ i x o. inr o)))

-- the state of the house that was opened
opened_sound : {O T : Type 0} (disk : O → DiskView) (trade : T → TradeView) (passes : Test) (kind : ℕ) (bytes : List ℕ) (x : HouseView O T) (at : OpenedFor disk trade passes full kind bytes x)
    → IsSound full (state_of at.history x.bench)
opened_sound disk trade passes kind bytes x at = record {
  lawful = subst (λ (l : Limits). IsLawful l at.history) at.limits' at.house.house.represents.state.lawful;
  in_time = at.house.house.represents.state.in_time;
}

pub stands_lawful : {O T : Type 0} (disk : O → DiskView) (trade : T → TradeView) (x : HouseView O T) (h : History) → HouseRepresents disk trade x h → IsLawful full h → EncodesLawful (disk x.journal.disk) h
stands_lawful disk trade x h st lawful = record {
  bytes = st.journal.bytes;
  told = st.journal.told;
  stands = st.journal.stands;
  lawful = lawful;
  once = accepted_once full h lawful;
  lasts = λ image left. subst (λ (x : List ℕ). Encodes h x) (sym (st.journal.synced image left)) st.journal.stands;
}

served_from : {O T : Type 0} (link : O → LinkView) (disk : O → DiskView) (trade : T → TradeView) (passes : Test) (kind : ℕ) (bytes : List ℕ) (a : O) (x y : HouseView O T) (steps : List (Did State))
    (at : OpenedFor disk trade passes full kind bytes x) → OnlyRead (disk a) (disk x.journal.disk) → link x.journal.disk ≡ link a → RefinesBy link disk trade x.journal.disk (state_of at.history x.bench) steps y
    → IsLawful full (state_after (state_of at.history x.bench) steps).history → ServedFrom link disk kind bytes a y.journal.disk (state_of at.history x.bench) steps
served_from link disk trade passes kind bytes a x y steps at read same went lawful = record {
  encoded = record { stands = at.of_bytes; of_kind = at.of_kind; time' = at.time' };
  left = stands_lawful disk trade y (state_after (state_of at.history x.bench) steps).history went.stands.house lawful;
  pairs = read_then_moved (IsSome (link a).sessions) (disk a) (disk x.journal.disk) (disk y.journal.disk) (state_of at.history x.bench) steps read
      (subst (λ (v : LinkView). MovedBy history_of (IsSome v.sessions) (disk x.journal.disk) (disk y.journal.disk) (state_of at.history x.bench) steps) same went.moved);
}

-- why a book was not opened
pub not_opened : {O T : Type 0} (link : O → LinkView) (disk : O → DiskView) (trade : T → TradeView) (passes : Test) (kind : ℕ) (bytes : List ℕ) (a : O) (fault : HouseFault O)
    → OpensHouse {D = O} {T = T} disk trade passes full kind bytes (Err fault) → link (fault_disk fault) ≡ link a → OnlyRead (disk a) (disk (fault_disk fault)) → NotOpened link disk passes kind bytes a (fault_status fault) (fault_disk fault)
not_opened link disk trade passes kind bytes a (faults.NotJournal d) by same read = (by, record { link' = same; read = read })
not_opened link disk trade passes kind bytes a (faults.BadRecord d place) by same read = (by, record { link' = same; read = read })
not_opened link disk trade passes kind bytes a (faults.BadChain d place stood computed) by same read = ((stood, computed, by), record { link' = same; read = read })
not_opened link disk trade passes kind bytes a (faults.Unlawful d place) by same read = (by, record { link' = same; read = read })
not_opened link disk trade passes kind bytes a (faults.WrongKind d) by same read = (refl, by, record { link' = same; read = read })
not_opened link disk trade passes kind bytes a (faults.NotEmpty d size) by same read = absurd by
not_opened link disk trade passes kind bytes a (faults.Disk d) by same read = record { link' = same; read = read }
not_opened link disk trade passes kind bytes a (faults.NoMemory d) by same read = record { link' = same; read = read }

-- the book of the house that was opened is served
pub serves_book : {O T : Type 0} (link : O → LinkView) (disk : O → DiskView) (trade : T → TradeView) (passes : Test) (kind links : ℕ) (bytes : List ℕ) (a : O) (x : HouseView O T) (out : ServeOut O T)
    (at : OpenedFor disk trade passes full kind bytes x) → OnlyRead (disk a) (disk x.journal.disk) → (disk x.journal.disk).faults ≡ (disk a).faults → link x.journal.disk ≡ link a
    → ((h : History) → HouseRepresents disk trade x h → ServesLinks link disk trade (limits_of x.bench) links x.journal.disk (state_of h x.bench) out)
    → ServesLinksOf link disk kind links bytes a (served_status out) (served_outside out)
serves_book link disk trade passes kind links bytes a x (outs.Done y n) at read calm same served =
    let s : State = state_of at.history x.bench in
    let by = served at.history at.house in
    let all = subst (λ (v : LinkView). ServedAll (Step full) OfLinks links n by.0 s v (link y.journal.disk)) same
    (subst (λ (l : Limits). ServedAll (Step l) OfLinks links n by.0 s (link x.journal.disk) (link y.journal.disk)) at.limits' by.2) in
    let sound = all_sound full links n by.0 s (link a) (link y.journal.disk) (omega arith) (opened_sound disk trade passes kind bytes x at) all in
    (s, by.0, served_from link disk trade passes kind bytes a x y by.0 at read same by.1 sound.lawful, all)
serves_book link disk trade passes kind links bytes a x (outs.Link y) at read calm same served =
    let s : State = state_of at.history x.bench in
    let by = served at.history at.house in
    let some = subst (λ (v : LinkView). ServedSome (Step full) OfLinks links by.0 s v (link y.journal.disk)) same
    (subst (λ (l : Limits). ServedSome (Step l) OfLinks links by.0 s (link x.journal.disk) (link y.journal.disk)) at.limits' by.2) in
    let sound = links_sound full some.n by.0 s (link a) some.between (omega arith) (opened_sound disk trade passes kind bytes x at) some.links_had in
    (s, by.0, served_from link disk trade passes kind bytes a x y by.0 at read same by.1 sound.lawful, some)
serves_book {O = O} link disk trade passes kind links bytes a x (outs.NoMemory y) at read calm same served =
    let by = served at.history at.house in
    subst (λ (d : O). Unserved link disk a d) (sym by.1) (record { link' = same; read = read })
serves_book link disk trade passes kind links bytes a x (outs.Halted d) at read calm same served =
    let s : State = state_of at.history x.bench in
    let by = served at.history at.house in
    let halted = by.3 in
    let tells : Type 0 = IsSome (link a).sessions in
    let until : MovedBy history_of tells (disk x.journal.disk) (disk halted.taken) s by.0 =
    subst (λ (v : LinkView). MovedBy history_of (IsSome v.sessions) (disk x.journal.disk) (disk halted.taken) s by.0) same halted.until in
    let h : History = (state_after s by.0).history in
    let still : tells → IsSome (link halted.taken).sessions = λ told'. subst (λ (o : Bool). IsTrue o) (sym halted.tells) (subst (λ (v : LinkView). IsSome v.sessions) (sym same) told') in
    let doubt = subst (λ (v : LinkView). InDoubtLinks full links by.0 s v by.1 by.2 (link d)) same
    (subst (λ (l : Limits). InDoubtLinks l links by.0 s (link x.journal.disk) by.1 by.2 (link d)) at.limits' by.4) in
    let sound = doubt_sound full links by.0 s (link a) by.1 by.2 (link d) (omega arith) (opened_sound disk trade passes kind bytes x at) doubt in (
      s,
      by.0,
      by.1,
      by.2,
      record {
        encoded = record { stands = at.of_bytes; of_kind = at.of_kind; time' = at.time' };
        left = record { leaves = λ i l. subst (λ (g : History). IsEither g by.1 i) (append-nil h) (halted.halts.leaves i l); lawful = sound.1; once = accepted_once full _ sound.1 };
        taken = halted.taken;
        quiet = halted.quiet ∙ calm;
        aside = λ told'. until.aside told' ∙ ap (λ (l : List ℕ). l ++ sent_of by.0) read.aside;
        until = read_then_moved tells (disk a) (disk x.journal.disk) (disk halted.taken) s by.0 read until;
        rose = halted.halts.rose;
        since = ran_weaker (disk halted.taken) (disk d) _ _ halted.halts.since (λ i x. doubt_told tells (IsSome (link halted.taken).sessions) h (disk halted.taken).aside (by.1 ∷ []) by.2 i x still);
      },
      doubt,
    )
