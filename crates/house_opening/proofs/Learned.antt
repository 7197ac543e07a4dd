-- What an opener learns of an entry that a house replays.
use Rattle.std.proofs.Common.{◌≡◌, ℕ, [], ◌∷◌, ◌++◌, Result, Ok, Err, refl, sym, subst, arith}
use Rattle.std.specs.Prelude.{IfOk}
use Rattle.mc_requests.specs.declared.limits.Limits.{Limits}
use Rattle.mc_records.specs.Entry.{Entry, Site}
use Rattle.ledger_model.specs.Histories.{History}
use Rattle.ledger_model.specs.Houses.{IsHouseKind}
use Rattle.house_state.specs.Learning.{Test, MayEnter}
use Rattle.scrip_journal.specs.Causes.{Only, FoundsSite}
use Rattle.scrip_journal.specs.declared.fault.LearnFault.{LearnFault}
use Rattle.scrip_journal.specs.declared.fault.LearnFault.TheVariants as faults
use Rattle.book_opening.specs.Opener.{Learns}
use Rattle.house_core.specs.BenchView.{BenchView}
use Rattle.house_core.specs.Bench.{HasContents, Replays}
use Rattle.house_state.specs.Trade.{TradeView}
use Rattle.house_core.proofs.Entered.{time_snoc}
use Rattle.house_opening.specs.Opening.{StandsAt}

-- the Site entry of a house may come first, whatever a trade asks of Notes
pub site_enters : (passes : Test) (limits : Limits) (kind : ℕ) (e : Entry) → FoundsSite (Only kind) e → IsHouseKind kind → MayEnter passes limits [] e
site_enters passes limits kind (Site m k name house) founds is = record {
  follows = record { in_order = omega arith; allowed = (refl, subst IsHouseKind (sym founds) is) };
  passed = tt;
}
site_enters passes limits kind e founds is = absurd founds

-- why it was not learned
pub fault_told : {T A : Type 0} (X : Type 0) (trade : T → TradeView) (passes : Test) (b : BenchView T) (limits : Limits) (holds : A → History → Type 0) (h : History) (e : Entry) (fault : LearnFault)
    → Replays {X = X} trade passes b limits h e (Err fault) → Learns (MayEnter passes limits) holds h e (Err fault)
fault_told X trade passes b limits holds h e faults.Unlawful replays = replays
fault_told X trade passes b limits holds h e faults.NoMemory replays = tt

pub learned : {T X : Type 0} (trade : T → TradeView) (passes : Test) (b : BenchView T) (own limits : Limits) (h : History) (e : Entry) (x : X) → own ≡ limits
    → Replays {X = X} trade passes b own h e (Ok x) → HasContents trade b (h ++ e ∷ []) → Learns (MayEnter passes limits) (λ (u : Unit {0}). StandsAt trade b) h e (Ok tt)
learned trade passes b own limits h e x same replays contents = (
  subst (λ (l : Limits). MayEnter passes l h e) same replays.0,
  record {
    house = record { represents = replays.1; contents = contents };
    time' = omega (arith, replays.2, time_snoc h e, replays.0.follows.in_order);
  },
)
