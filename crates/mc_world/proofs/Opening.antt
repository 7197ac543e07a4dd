-- Opening a house by its history, entry by entry.
use Rattle.std.proofs.Common.{◌≡◌, ℕ, zero, suc, ◌+◌, ◌≤◌, [], ◌∷◌, ◌++◌, take, Option, Some, None, refl, sym, ap, subst, ◌∙◌, arith, slice_get, Ok}
use Rattle.std.specs.Prelude.{max}
use Rattle.std.proofs.lemmas.Option.{same_Some}
use Rattle.mc_requests.specs.declared.limits.Limits.{Limits}
use Rattle.mc_requests.specs.declared.limits.TheConstants.Limits.{MOST_JOURNAL}
use Rattle.mc_records.specs.Chains.{TellsChain}
use Rattle.mc_records.specs.Entry.{Entry, Site, Switch, Fits, moment_of}
use Rattle.mc_records.specs.Sizes.{size, entry_size}
use Rattle.ledger_model.specs.Histories.{History, time}
use Rattle.ledger_model.specs.Houses.{site_kind}
use Rattle.ledger_model.specs.Lawful.{MayFollow, IsLawful, IsHouseSite}
use Rattle.ledger_model.proofs.KindLaws.{first_founds}
use Rattle.ledger_model.proofs.FollowLaws.{size_snoc}
use Rattle.house_state.specs.Founding.{FoundsHouse}
use Rattle.house_state.specs.Trade.{TradeView}
use Rattle.house_core.specs.BenchView.{BenchView}
use Rattle.house_state.specs.Learning.{Test}
use Rattle.house_core.specs.Bench.{IsHouse, Represents, HasContents, Replays, house_time, limits_of}
use Rattle.world_model.proofs.Accepted.{may_at}
use Rattle.world_model.proofs.HouseSteps.{time_snoc}
use Rattle.mc_world.proofs.Fronts.{take_snoc, size_front}

pub founds : (limits : Limits) (e : Entry) → MayFollow limits [] e → Fits e → FoundsHouse e
founds limits e may fits = go e (first_founds limits e may) fits
  where
    go : (e : Entry) → IsHouseSite e → Fits e → FoundsHouse e
    go (Site m kind name (Some x)) site fits = fits
    go (Site m zero name None) site fits = absurd fits.house
    go (Site m (suc zero) name None) site fits = absurd fits.house
    go (Site m (suc (suc k)) name None) site fits = absurd (omega (arith, site))
    go e site fits = absurd site

pub first_may : (limits : Limits) (h : History) (e : Entry) → IsLawful limits h → slice_get h 0 ≡ Some e → MayFollow limits [] e
first_may limits h e lawful is = may_at limits h 0 e lawful is

pub first_kind : (h : History) (e : Entry) (o : Option ℕ) → slice_get h 0 ≡ Some e → site_kind h ≡ o → site_kind (e ∷ []) ≡ o
first_kind [] e o is kind = absurd cc
first_kind (x ∷ xs) e o is kind = ap (λ (y : Entry). site_kind (y ∷ [])) (sym (same_Some x e is)) ∙ same x xs ∙ kind
  where
    same : (x : Entry) (xs : History) → site_kind (x ∷ []) ≡ site_kind (x ∷ xs)
    same (Site m k name house) xs = refl
    same x xs = refl

larger : (a b : ℕ) → a ≤ b → max a b ≡ b
larger a b le = omega (arith, le)

time_last : (h : History) (e : Entry) → time h ≤ moment_of e → time (h ++ e ∷ []) ≡ moment_of e
time_last h e le = time_snoc h e ∙ larger (time h) (moment_of e) le

-- a house of the first n entries, at their time
pub record IsOpening {T : Type 0} (trade : T → TradeView) (limits : Limits) (h : History) (n : ℕ) (b : BenchView T) : Type 0 where
  pub house : IsHouse trade b (take n h)
  pub time : house_time b ≡ time (take n h)
  pub bounds : limits_of b ≡ limits

pub opened_first : {T : Type 0} (trade : T → TradeView) (limits : Limits) (h : History) (e : Entry) (b : BenchView T) → slice_get h 0 ≡ Some e → Represents trade b (e ∷ []) → HasContents trade b (e ∷ [])
    → house_time b ≡ moment_of e → limits_of b ≡ limits → IsOpening trade limits h 1 b
opened_first trade limits h e b is represents contents at bounds =
    let one : take 1 h ≡ e ∷ [] = take_snoc h 0 e is in
    record {
      house = subst (IsHouse trade b) (sym one) (record { represents = represents; contents = contents });
      time = at ∙ sym (time_last [] e (omega arith)) ∙ sym (ap time one);
      bounds = bounds;
    }

-- a Switch that may follow tells the chain of the entries before it
pub tells_chain : (limits : Limits) (h : History) (e : Entry) → MayFollow limits h e → TellsChain h e
tells_chain limits h (Switch m c) may = may.allowed.2
tells_chain limits h e may = tt

pub opened_more : {T X : Type 0} (trade : T → TradeView) (passes : Test) (limits : Limits) (h : History) (n : ℕ) (e : Entry) (b c : BenchView T) (x : X) → IsLawful limits h → size h ≤ MOST_JOURNAL → slice_get h n ≡ Some e → IsOpening trade limits h n b
    → ((g : History) → Represents trade b g → house_time b ≡ time g → TellsChain g e → size g + entry_size g e ≤ MOST_JOURNAL → Replays trade passes c (limits_of b) g e (Ok x))
    → ((g : History) → Represents trade b g → HasContents trade b g → HasContents trade c (g ++ e ∷ [])) → limits_of c ≡ limits_of b → IsOpening trade limits h (n + 1) c
opened_more trade passes limits h n e b c x lawful most is so exact contents kept =
    let next = take_snoc h n e is in
    let long = size_snoc (take n h) e in
    let here = ap size next in
    let front = size_front [] h (n + 1) in
    let r = exact (take n h) so.house.represents so.time (tells_chain limits (take n h) e (may_at limits h n e lawful is)) (omega (arith, most, long, here, front)) in
    record {
      house = subst (IsHouse trade c) (sym next) (record { represents = r.1; contents = contents (take n h) so.house.represents so.house.contents });
      time = r.2 ∙ sym (time_last (take n h) e r.0.follows.in_order) ∙ sym (ap time next);
      bounds = kept ∙ so.bounds;
    }
