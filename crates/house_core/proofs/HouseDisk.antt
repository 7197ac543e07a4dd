-- The disk of a house, while an entry is written.
use Rattle.std.proofs.Common.{◌≡◌, ◌∙◌, ℕ, ◌+◌, ◌<◌, ◌≤◌, arith, false, Some, Option, option_map, Ok, List, [], ◌∷◌, ◌++◌, length, Err, subst, refl, sym, ap}
use Rattle.std.specs.Prelude.{Result, MatchResult, max}
use Rattle.std.specs.Result.{result_ok}
use Rattle.mc_outside.specs.DiskView.{DiskView, IsDisk, LinkKeeps, Ran}
use Rattle.mc_outside.proofs.Runs.{ran_none}
use Rattle.mc_records.specs.Chains.{TellsChain}
use Rattle.mc_records.specs.Entry.{Entry, Switch, payload}
use Rattle.mc_records.specs.Sizes.{size, entry_size, tail_bytes}
use Rattle.mc_records.proofs.SizeLaws.{length-tail, tail_size-by}
use Rattle.scrip_journal.specs.States.{AtRest, IsJournal}
use Rattle.scrip_journal.specs.Rests.{journal_keeps, journal_leaves}
use Rattle.scrip_journal.specs.Exits.{EncodesNoOutput}
use Rattle.mc_requests.specs.declared.limits.Limits.{Limits}
use Rattle.ledger_model.specs.Histories.{History}
use Rattle.ledger_model.specs.Lawful.{MayFollow}
use Rattle.house_core.specs.BenchView.{BenchView}
use Rattle.house_core.specs.HouseView.{HouseView}
use Rattle.house_state.specs.declared.verdict.Authorization.{Authorization}
use Rattle.house_state.specs.HouseState.{HouseStateView, size_with}
use Rattle.house_state.specs.Representation.{StateRepresents, has_ended}
use Rattle.house_state.specs.Verdicts.{accept_entry, WasAsked}
use Rattle.house_core.specs.Bench.{Represents, HasContents, IsRoomed, limits_of, IsHouse}
use Rattle.house_core.specs.House.{HouseRepresents, IsAsItWas, HasEntered, AskedFor, Responds, Accepted, Leaves, HouseRests}
use Rattle.house_core.specs.declared.outcome.Outcome.TheVariants.{Done, Refused, NoMemory, Halted}
use Rattle.house_core.specs.declared.outcome.Response.{Response}
use Rattle.house_core.specs.declared.outcome.Response.TheVariants.{New, Again}
use Rattle.house_core.specs.SettledView.{SettledView}
use Rattle.mc_requests.specs.declared.refusal.Refusal.TheVariants.{Spent}
use Rattle.mc_requests.specs.declared.refusal.Refusal.{Refusal}
use Rattle.scrip_form.specs.Scrip.{Scrip}
use Rattle.mc_requests.specs.Requests.{Asked}
use Rattle.ledger_model.specs.Stages.{read_by}
use Rattle.ledger_model.proofs.TableLaws.{read_ok}
use Rattle.ledger_model.specs.Answer as answers
use Rattle.ledger_model.specs.Answer.{Answer}
use Rattle.house_core.proofs.Accepting.{holds_roomed}
use Rattle.house_core.proofs.Contents.{contents_roomed}
use Rattle.house_state.specs.Trade.{TradeView}

-- nothing was written
pub ran_nothing : {D : Type 0} (view : D → DiskView) (j : AtRest D) (d : D) (h : List Entry) → IsDisk (view j.disk) → IsJournal view j h → d ≡ j.disk → Ran (view j.disk) (view d) (EncodesNoOutput h (view j.disk).aside)
ran_nothing {D = D} view j d h disk is same =
    subst (λ (x : D). Ran (view j.disk) (view x) (EncodesNoOutput h (view j.disk).aside)) (sym same)
    (ran_none (view j.disk) (EncodesNoOutput h (view j.disk).aside) disk (λ c leaves. (journal_leaves view j h is c leaves, refl)))

-- ---- the house

-- the bench is another one that represents the history, too
pub stands_with : {D T : Type 0} (view : D → DiskView) (trade : T → TradeView) (x : HouseView D T) (b : BenchView T) (h : History)
    → HouseRepresents view trade x h → Represents trade b h → HasContents trade b h → limits_of b ≡ limits_of x.bench → HouseRepresents {D = D} {T = T} view trade (record { journal = x.journal; bench = b }) h
stands_with view trade x b h st has contents limits = record {
  journal = st.journal;
  house = record { represents = has; contents = contents };
  limit = st.limit ∙ ap (λ (l : Limits). l.journal) (sym limits);
}

-- room was made
pub stands_roomed : {D T : Type 0} (view : D → DiskView) (trade : T → TradeView) (x y : HouseView D T) (h : History)
    → y.journal ≡ x.journal → IsRoomed trade x.bench y.bench → HouseRepresents view trade x h → HouseRepresents view trade y h
stands_roomed {D = D} view trade x y h same roomed st = record {
  journal = rw same st.journal;
  house = record {
    represents = holds_roomed trade x.bench y.bench h roomed st.house.represents;
    contents = contents_roomed trade x.bench y.bench h roomed st.house.contents;
  };
  limit = ap (λ (j : AtRest D). j.limit) same ∙ st.limit ∙ ap (λ (l : Limits). l.journal) (sym roomed.state.limits);
}

pub as_roomed : {D T : Type 0} (view : D → DiskView) (trade : T → TradeView) (x y : HouseView D T) (h : History)
    → y.journal ≡ x.journal → IsRoomed trade x.bench y.bench → HouseRepresents view trade x h → IsAsItWas view trade x.journal.disk y h
as_roomed {D = D} view trade x y h same roomed st = record {
  represents = stands_roomed view trade x y h same roomed st;
  disk' = ap (λ (j : AtRest D). j.disk) same;
}

-- an entry was written and entered
pub has_entered : {D T : Type 0} (view : D → DiskView) (trade : T → TradeView) (x y : HouseView D T) (h : History) (e f : Entry) (number : ℕ) → f ≡ e
    → HouseRepresents view trade x h → IsJournal view y.journal (h ++ f ∷ []) → y.journal.limit ≡ x.journal.limit → limits_of y.bench ≡ limits_of x.bench
    → number ≡ length h → Represents trade y.bench (h ++ e ∷ []) → HasContents trade y.bench (h ++ e ∷ []) → HasEntered view trade y h e number
has_entered view trade x y h e f number same st written limit limits counted entered contents = record {
  represents = record {
    journal = subst (λ (g : Entry). IsJournal view y.journal (h ++ g ∷ [])) same written;
    house = record { represents = entered; contents = contents };
    limit = limit ∙ st.limit ∙ ap (λ (l : Limits). l.journal) (sym limits);
  };
  number' = counted;
}

-- the windows were asked for the piece of the entry of an authorization
pub asked_for : {b : HouseStateView} {h : History} {t : ℕ} → StateRepresents b h → (q : Asked) (a : Authorization) → Ok a.scrip.now ≡ read_by q.scrip → WasAsked b a.scrip.now.piece.id a.fresh
    → t ≡ b.time → AskedFor h t (accept_entry b.time q.target a) (Some a.fresh)
asked_for {h = h} st q a read asked same = record {
  its = ap (λ (r : Result (Scrip × List ℕ) ℕ). option_map (λ p. p.id) (option_map (λ x. x.0) (result_ok r))) (read_ok q.scrip a.scrip.now (sym read)).1 ∙ ap some (sym asked.its);
  seen = λ id live. asked.seen id ∙ sym (st.spent id (subst (λ (u : ℕ). has_ended h u id ≡ false) same live));
}
  where
    some : ℕ → Option ℕ
    some n = Some n

-- ---- a request that makes no entry

pub as_it_stood : {D T : Type 0} (view : D → DiskView) (trade : T → TradeView) (x : HouseView D T) (h : History) → HouseRepresents view trade x h → IsAsItWas view trade x.journal.disk x h
as_it_stood view trade x h st = record { represents = st; disk' = refl }

pub responds_refused : {D T : Type 0} (view : D → DiskView) (trade : T → TradeView) (x : HouseView D T) (h : History) (a : Answer) (f : Refusal) → answers.Refused f ≡ a
    → HouseRepresents view trade x h → Responds view trade x.journal.disk h a (Refused x f)
responds_refused view trade x h a f e st =
    subst (λ (b : Answer). Responds view trade x.journal.disk h b (Refused x f)) e (refl, as_it_stood view trade x h st)

pub responds_again : {D T : Type 0} (view : D → DiskView) (trade : T → TradeView) (x : HouseView D T) (h : History) (a : Answer) (n : ℕ) → answers.Again n ≡ a
    → HouseRepresents view trade x h → Responds view trade x.journal.disk h a (Done x (Again n))
responds_again view trade x h a n e st =
    subst (λ (b : Answer). Responds view trade x.journal.disk h b (Done x (Again n))) e (refl, as_it_stood view trade x h st)

pub ran_refused : {D T : Type 0} (A : Type 0) (u v : DiskView) (a : Answer) (x : HouseView D T) (f : Refusal) (h : History) (aside : List ℕ) → Ran u v (EncodesNoOutput h aside) → Ran u v (Leaves {D = D} {T = T} {A = A} a (Refused x f) h aside)
ran_refused A u v (answers.Refused g) x f h aside ran = ran
ran_refused A u v (answers.Again n) x f h aside ran = ran
ran_refused A u v (answers.Take e) x f h aside ran = ran

pub ran_again : {D T : Type 0} (A : Type 0) (u v : DiskView) (a : Answer) (x : HouseView D T) (r : A) (n : ℕ) (h : History) (aside : List ℕ) → answers.Again n ≡ a
    → Ran u v (EncodesNoOutput h aside) → Ran u v (Leaves {D = D} {T = T} {A = A} a (Done x r) h aside)
ran_again {D = D} {T = T} A u v a x r n h aside e ran =
    subst (λ (b : Answer). Ran u v (Leaves {D = D} {T = T} {A = A} b (Done x r) h aside)) e ran

-- ---- a call that is not for repeats

-- what it comes to, by what the answer to any request comes to
pub accepted_new : {D T : Type 0} (view : D → DiskView) (trade : T → TradeView) (disk : D) (h : History) (a : Answer) (x : HouseView D T) (s : SettledView)
    → Responds view trade disk h a (Done x (New s)) → Accepted view trade disk h a (Done x s)
accepted_new view trade disk h (answers.Take e) x s is = is
accepted_new view trade disk h (answers.Again m) x s is = absurd is
accepted_new view trade disk h (answers.Refused f) x s is = absurd is

pub accepted_again : {D T : Type 0} (view : D → DiskView) (trade : T → TradeView) (disk : D) (h : History) (a : Answer) (x : HouseView D T) (n : ℕ)
    → Responds view trade disk h a (Done x (Again n)) → Accepted view trade disk h a (Refused x Spent)
accepted_again view trade disk h (answers.Take e) x n is = absurd is
accepted_again view trade disk h (answers.Again m) x n is = (refl, is.1)
accepted_again view trade disk h (answers.Refused f) x n is = absurd is

pub accepted_refused : {D T : Type 0} (view : D → DiskView) (trade : T → TradeView) (disk : D) (h : History) (a : Answer) (x : HouseView D T) (g : Refusal)
    → Responds view trade disk h a (Refused x g) → Accepted view trade disk h a (Refused x g)
accepted_refused view trade disk h (answers.Take e) x g is = absurd is
accepted_refused view trade disk h (answers.Again m) x g is = absurd is
accepted_refused view trade disk h (answers.Refused f) x g is = is

pub accepted_no_memory : {D T : Type 0} (view : D → DiskView) (trade : T → TradeView) (disk : D) (h : History) (a : Answer) (x : HouseView D T)
    → Responds view trade disk h a (NoMemory x) → Accepted view trade disk h a (NoMemory x)
accepted_no_memory view trade disk h (answers.Take e) x is = is
accepted_no_memory view trade disk h (answers.Again m) x is = absurd is
accepted_no_memory view trade disk h (answers.Refused f) x is = absurd is

-- and its crash pairs
pub ran_new : {D T : Type 0} (u v : DiskView) (a : Answer) (x : HouseView D T) (s : SettledView) (h : History) (aside : List ℕ)
    → Ran u v (Leaves {D = D} {T = T} {A = Response} a (Done x (New s)) h aside) → Ran u v (Leaves {D = D} {T = T} {A = SettledView} a (Done x s) h aside)
ran_new u v (answers.Take e) x s h aside ran = ran
ran_new u v (answers.Again m) x s h aside ran = ran
ran_new u v (answers.Refused f) x s h aside ran = ran

pub ran_repeat : {D T : Type 0} (view : D → DiskView) (trade : T → TradeView) (disk : D) (u v : DiskView) (h : History) (a : Answer) (x : HouseView D T) (n : ℕ) (aside : List ℕ) → Responds view trade disk h a (Done x (Again n))
    → Ran u v (Leaves {D = D} {T = T} {A = Response} a (Done x (Again n)) h aside) → Ran u v (Leaves {D = D} {T = T} {A = SettledView} a (Refused x Spent) h aside)
ran_repeat view trade disk u v h (answers.Take e) x n aside is ran = absurd is
ran_repeat view trade disk u v h (answers.Again m) x n aside is ran = ran
ran_repeat view trade disk u v h (answers.Refused f) x n aside is ran = ran

pub ran_same_refused : {D T : Type 0} (u v : DiskView) (a : Answer) (x : HouseView D T) (g : Refusal) (h : History) (aside : List ℕ)
    → Ran u v (Leaves {D = D} {T = T} {A = Response} a (Refused x g) h aside) → Ran u v (Leaves {D = D} {T = T} {A = SettledView} a (Refused x g) h aside)
ran_same_refused u v (answers.Take e) x g h aside ran = ran
ran_same_refused u v (answers.Again m) x g h aside ran = ran
ran_same_refused u v (answers.Refused f) x g h aside ran = ran

pub ran_no_memory : {D T : Type 0} (u v : DiskView) (a : Answer) (x : HouseView D T) (h : History) (aside : List ℕ)
    → Ran u v (Leaves {D = D} {T = T} {A = Response} a (NoMemory x) h aside) → Ran u v (Leaves {D = D} {T = T} {A = SettledView} a (NoMemory x) h aside)
ran_no_memory u v (answers.Take e) x h aside ran = ran
ran_no_memory u v (answers.Again m) x h aside ran = ran
ran_no_memory u v (answers.Refused f) x h aside ran = ran

pub ran_halted : {D : Type 0} (T : Type 0) (u v : DiskView) (a : Answer) (d : D) (h : History) (aside : List ℕ)
    → Ran u v (Leaves {D = D} {T = T} {A = Response} a (Halted d) h aside) → Ran u v (Leaves {D = D} {T = T} {A = SettledView} a (Halted d) h aside)
ran_halted T u v (answers.Take e) d h aside ran = ran
ran_halted T u v (answers.Again m) d h aside ran = ran
ran_halted T u v (answers.Refused f) d h aside ran = ran

-- ---- an entry that accepts nothing

-- an entry with this payload fits the journal
pub not_full_of : (b : HouseStateView) (h : History) (limit bytes : ℕ) (e : Entry) → StateRepresents b h → bytes ≡ length (payload e) → size_with b bytes ≤ b.limits.journal → limit ≡ b.limits.journal
    → limit < size h + entry_size h e → ⊥
not_full_of b h limit bytes e st long fits limits full = omega (arith, length-tail h e, tail_size-by h, ap tail_bytes st.switched, st.sized)

-- a Switch that may follow tells the chain of the entries before it
pub may_tell : (limits : Limits) (h : History) (e : Entry) → MayFollow limits h e → TellsChain h e
may_tell limits h (Switch m c) may = may.allowed.2
may_tell limits h e may = tt

-- where the entry may follow it was applied
pub applied : {E : Type 0} (r : Result ℕ E) (M A B C D : Type 0) (N : ℕ → Type 0) → M → MatchResult r (λ n. M × N n × A) (λ f. (M → ⊥) × B) → MatchResult r (λ n. C) (λ f. D) → A × C
applied (Ok n) M A B C D N may is contents = (is.2, contents)
applied (Err f) M A B C D N may is contents = absurd (is.0 may)

-- an entry of a moment that has come leaves the house time
pub time_stays : {E : Type 0} (r : Result ℕ E) (m n t : ℕ) → m ≤ n → MatchResult r (λ k. t ≡ max n m) (λ f. t ≡ n) → t ≡ n
time_stays (Ok k) m n t come is = omega (arith, is, come)
time_stays (Err f) m n t come is = is

-- ---- while links work

-- what links do leaves the house
pub house_keeps : {O T : Type 0} (disk : O → DiskView) (trade : T → TradeView) (x y : HouseView O T) (h : History) → HouseRepresents disk trade x h
    → LinkKeeps (disk x.journal.disk) (disk y.journal.disk) → HouseRests x y → HouseRepresents disk trade y h
house_keeps {T = T} disk trade x y h st keeps rests = record {
  journal = journal_keeps disk x.journal y.journal h st.journal keeps rests.journal;
  house = subst (λ (b : BenchView T). IsHouse trade b h) (sym rests.bench) st.house;
  limit = rests.journal.limit ∙ st.limit ∙ ap (λ (b : BenchView T). (limits_of b).journal) (sym rests.bench);
}
