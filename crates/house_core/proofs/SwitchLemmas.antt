-- What comes of switching a book.
use Rattle.std.proofs.Common.{◌≡◌, ◌∙◌, ℕ, true, false, List, [], ◌∷◌, ◌++◌, length, refl, sym, ap, subst, arith}
use Rattle.std.specs.Prelude.{is_some, if◌then◌else◌}
use Rattle.mc_outside.specs.DiskView.{DiskView}
use Rattle.mc_requests.specs.declared.limits.Limits.{Limits}
use Rattle.mc_records.specs.Chains.{chain, has_switch}
use Rattle.mc_records.specs.Entry.{Switch}
use Rattle.ledger_model.specs.Histories.{History}
use Rattle.ledger_model.specs.Lawful.{MayFollow}
use Rattle.scrip_journal.specs.States.{IsJournal}
use Rattle.house_state.specs.Learning.{Test, MayEnter}
use Rattle.house_state.specs.Trade.{TradeView}
use Rattle.house_core.specs.BenchView.{BenchView}
use Rattle.house_core.specs.HouseView.{HouseView}
use Rattle.house_core.specs.Bench.{Represents, HasContents, house_time, limits_of}
use Rattle.house_core.specs.House.{HouseRepresents, HasEntered}
use Rattle.house_core.specs.Tasks.{Add, Stays, switch_task}
use Rattle.house_core.proofs.HouseDisk.{has_entered}

-- where one stands there is nothing to do
pub asks_none : (h : History) (m : ℕ) → has_switch h ≡ true → Stays ≡ switch_task h m
asks_none h m is = sym (ap (λ b. if b then Stays else Add (Switch m (chain h))) is)

-- a book without a Switch asks for one
pub asks_switch : (h : History) (m n : ℕ) → has_switch h ≡ false → n ≡ m → Add (Switch n (chain h)) ≡ switch_task h m
asks_switch h m n none time = ap (λ (k : ℕ). Add (Switch k (chain h))) time ∙ sym (ap (λ b. if b then Stays else Add (Switch m (chain h))) none)

-- which may follow
pub may_switch : {T : Type 0} (trade : T → TradeView) (b : BenchView T) (limits : Limits) (h : History) (n : ℕ) → Represents trade b h → has_switch h ≡ false → n ≡ house_time b → MayFollow limits h (Switch n (chain h))
may_switch trade b limits h n st none time = record { in_order = omega (arith, st.state.in_time, time); allowed = (ap is_some st.of_kind, none, refl) }

-- where it tells the chain of the entries
pub may_enter : (passes : Test) (limits : Limits) (h : History) (n : ℕ) (c : List ℕ) → c ≡ chain h → MayFollow limits h (Switch n (chain h)) → MayEnter passes limits h (Switch n c)
may_enter passes limits h n c same may = record { follows = subst (λ (d : List ℕ). MayFollow limits h (Switch n d)) (sym same) may; passed = tt }

-- and it was entered
pub has_switched : {D T : Type 0} (view : D → DiskView) (trade : T → TradeView) (x y : HouseView D T) (h : History) (n : ℕ) (c : List ℕ) (number : ℕ) → c ≡ chain h
    → HouseRepresents view trade x h → IsJournal view y.journal (h ++ Switch n (chain h) ∷ []) → y.journal.limit ≡ x.journal.limit → limits_of y.bench ≡ limits_of x.bench
    → number ≡ length h → Represents trade y.bench (h ++ Switch n c ∷ []) → HasContents trade y.bench (h ++ Switch n c ∷ []) → HasEntered view trade y h (Switch n (chain h)) number
has_switched view trade x y h n c number same st written limit limits counted entered contents =
    has_entered view trade x y h (Switch n (chain h)) (Switch n (chain h)) number refl st written limit limits counted
    (subst (λ (d : List ℕ). Represents trade y.bench (h ++ Switch n d ∷ [])) same entered)
    (subst (λ (d : List ℕ). HasContents trade y.bench (h ++ Switch n d ∷ [])) same contents)
