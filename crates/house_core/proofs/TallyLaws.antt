-- A tally that is counted on.
use Rattle.std.proofs.Common.{◌≡◌, ℕ, ◌+◌, ◌^◌, ◌<◌, Bool, true, false, cond, List, [], ◌∷◌, ◌++◌, Some, None, Option, Result, Ok, Err, refl, sym, ap, ◌∙◌, arith}
use Rattle.std.specs.Prelude.{count_by, sum_by}
use Rattle.std.proofs.lemmas.List.Sums.{sum_by-append}
use Rattle.mc_requests.specs.declared.refusal.Refusal.{Refusal}
use Rattle.mc_requests.specs.declared.refusal.Refusal.TheVariants.{Expired, Spent, TooLittle, NoMemory}
use Rattle.mc_records.specs.Entry.{Entry}
use Rattle.ledger_model.specs.Sums.{price_paid}
use Rattle.std.specs.Prelude.{option_map}
use Rattle.std.specs.Result.{result_ok}
use Rattle.scrip_form.specs.Scrip.{Scrip}
use Rattle.mc_records.specs.Entry.{Accept}
use Rattle.mc_requests.specs.Requests.{Asked}
use Rattle.ledger_model.specs.Pieces.{piece_of}
use Rattle.ledger_model.specs.Stages.{read_by}
use Rattle.ledger_model.proofs.TableLaws.{read_ok}
use Rattle.house_core.specs.declared.tally.Tally.{Tally}
use Rattle.house_state.specs.declared.verdict.Authorization.{Authorization}
use Rattle.house_state.specs.Views.{entry_deed}
use Rattle.house_state.specs.HouseState.{change_worth}
use Rattle.ledger_model.specs.Answer.{answered}
use Rattle.house_state.specs.declared.verdict.NotAuthorized.{NotAuthorized}
use Rattle.house_state.specs.declared.verdict.NotAuthorized.TheVariants as stops
use Rattle.house_state.specs.Verdicts.{accept_entry, stop_of}
use Rattle.house_core.specs.Tallies.{Told, Taken, Repeated, RefusedBy, AreCounts, change_given, counted, is_taken, is_repeated, is_refusal, is_other, price_told, change_told, tallied, told, told_stop}

counted_none : (n : ℕ) → n < 2 ^ 64 → n ≡ counted n 0
counted_none n lt = omega (arith, lt)

same_tally : (a1 a2 b1 b2 c1 c2 d1 d2 e1 e2 f1 f2 g1 g2 h1 h2 i1 i2 : ℕ) → a1 ≡ a2 → b1 ≡ b2 → c1 ≡ c2 → d1 ≡ d2 → e1 ≡ e2 → f1 ≡ f2 → g1 ≡ g2 → h1 ≡ h2 → i1 ≡ i2
    → ◌≡◌ {A = Tally} (record { taken = a1; again = b1; expired = c1; spent = d1; little = e1; other = f1; memory = g1; takings = h1; change = i1 })
    (record { taken = a2; again = b2; expired = c2; spent = d2; little = e2; other = f2; memory = g2; takings = h2; change = i2 })
same_tally a1 a2 b1 b2 c1 c2 d1 d2 e1 e2 f1 f2 g1 g2 h1 h2 i1 i2 a b c d e f g h i = rw (a, b, c, d, e, f, g, h, i) refl

-- ---- one more

-- a request was taken
pub one_taken : (t : Tally) (e : Entry) (taken price change : ℕ) → AreCounts t → taken ≡ counted t.taken 1 → price_paid e ≡ price → change_given e ≡ change
    → record t { taken = taken; takings = t.takings + price; change = t.change + change } ≡ tallied t (Taken e ∷ [])
unfolding tallied
one_taken t e taken price change small is paid given =
    same_tally taken _ t.again _ t.expired _ t.spent _ t.little _ t.other _ t.memory _ (t.takings + price) _ (t.change + change) _
    is (counted_none t.again small.again) (counted_none t.expired small.expired) (counted_none t.spent small.spent) (counted_none t.little small.little)
    (counted_none t.other small.other) (counted_none t.memory small.memory) (omega (arith, paid)) (omega (arith, given))

-- a request came again
pub one_repeated : (t : Tally) (again : ℕ) → AreCounts t → again ≡ counted t.again 1 → record t { again = again } ≡ tallied t (Repeated ∷ [])
unfolding tallied
one_repeated t again small is =
    same_tally t.taken _ again _ t.expired _ t.spent _ t.little _ t.other _ t.memory _ t.takings _ t.change _
    (counted_none t.taken small.taken) is (counted_none t.expired small.expired) (counted_none t.spent small.spent) (counted_none t.little small.little)
    (counted_none t.other small.other) (counted_none t.memory small.memory) (omega arith) (omega arith)

-- something was refused with 26
pub one_expired : (t : Tally) (m n expired : ℕ) → AreCounts t → expired ≡ counted t.expired 1 → record t { expired = expired } ≡ tallied t (RefusedBy (Expired m n) ∷ [])
unfolding tallied
one_expired t m n expired small is =
    same_tally t.taken _ t.again _ expired _ t.spent _ t.little _ t.other _ t.memory _ t.takings _ t.change _
    (counted_none t.taken small.taken) (counted_none t.again small.again) is (counted_none t.spent small.spent) (counted_none t.little small.little)
    (counted_none t.other small.other) (counted_none t.memory small.memory) (omega arith) (omega arith)

-- with 27
pub one_spent : (t : Tally) (spent : ℕ) → AreCounts t → spent ≡ counted t.spent 1 → record t { spent = spent } ≡ tallied t (RefusedBy Spent ∷ [])
unfolding tallied
one_spent t spent small is =
    same_tally t.taken _ t.again _ t.expired _ spent _ t.little _ t.other _ t.memory _ t.takings _ t.change _
    (counted_none t.taken small.taken) (counted_none t.again small.again) (counted_none t.expired small.expired) is (counted_none t.little small.little)
    (counted_none t.other small.other) (counted_none t.memory small.memory) (omega arith) (omega arith)

-- with 31
pub one_little : (t : Tally) (m little : ℕ) → AreCounts t → little ≡ counted t.little 1 → record t { little = little } ≡ tallied t (RefusedBy (TooLittle m) ∷ [])
unfolding tallied
one_little t m little small is =
    same_tally t.taken _ t.again _ t.expired _ t.spent _ little _ t.other _ t.memory _ t.takings _ t.change _
    (counted_none t.taken small.taken) (counted_none t.again small.again) (counted_none t.expired small.expired) (counted_none t.spent small.spent) is
    (counted_none t.other small.other) (counted_none t.memory small.memory) (omega arith) (omega arith)

-- with 90
pub one_memory : (t : Tally) (memory : ℕ) → AreCounts t → memory ≡ counted t.memory 1 → record t { memory = memory } ≡ tallied t (RefusedBy NoMemory ∷ [])
unfolding tallied
one_memory t memory small is =
    same_tally t.taken _ t.again _ t.expired _ t.spent _ t.little _ t.other _ memory _ t.takings _ t.change _
    (counted_none t.taken small.taken) (counted_none t.again small.again) (counted_none t.expired small.expired) (counted_none t.spent small.spent) (counted_none t.little small.little)
    (counted_none t.other small.other) is (omega arith) (omega arith)

-- with another number
record HasOther (f : Refusal) : Type 0 where
  pub expired : is_refusal 26 (RefusedBy f) ≡ false
  pub spent : is_refusal 27 (RefusedBy f) ≡ false
  pub little : is_refusal 31 (RefusedBy f) ≡ false
  pub memory : is_refusal 90 (RefusedBy f) ≡ false
  pub other : is_other (26 ∷ 27 ∷ 31 ∷ 90 ∷ []) (RefusedBy f) ≡ true

has_other : (f : Refusal) → ((m n : ℕ) → f ≡ Expired m n → ⊥) → (f ≡ Spent → ⊥) → ((m : ℕ) → f ≡ TooLittle m → ⊥) → (f ≡ NoMemory → ⊥) → HasOther f
has_other (Expired m n) a b c d = absurd (a m n refl)
has_other Spent a b c d = absurd (b refl)
has_other (TooLittle m) a b c d = absurd (c m refl)
has_other NoMemory a b c d = absurd (d refl)
has_other _ a b c d = record { expired = refl; spent = refl; little = refl; memory = refl; other = refl }

counted_by : (p : Told → Bool) (w : Told) (b : Bool) → p w ≡ b → count_by p (w ∷ []) ≡ cond b 1 0
counted_by p w true is = rw is (omega arith)
counted_by p w false is = rw is (omega arith)

pub one_other : (t : Tally) (f : Refusal) (other : ℕ) → AreCounts t → ((m n : ℕ) → f ≡ Expired m n → ⊥) → (f ≡ Spent → ⊥) → ((m : ℕ) → f ≡ TooLittle m → ⊥) → (f ≡ NoMemory → ⊥)
    → other ≡ counted t.other 1 → record t { other = other } ≡ tallied t (RefusedBy f ∷ [])
unfolding tallied
one_other t f other small a b c d is =
    let has = has_other f a b c d in
    let w : Told = RefusedBy f in
    same_tally t.taken _ t.again _ t.expired _ t.spent _ t.little _ other _ t.memory _ t.takings _ t.change _
    (counted_none t.taken small.taken) (counted_none t.again small.again)
    (counted_none t.expired small.expired ∙ ap (counted t.expired) (sym (counted_by (is_refusal 26) w false has.expired)))
    (counted_none t.spent small.spent ∙ ap (counted t.spent) (sym (counted_by (is_refusal 27) w false has.spent)))
    (counted_none t.little small.little ∙ ap (counted t.little) (sym (counted_by (is_refusal 31) w false has.little)))
    (is ∙ ap (counted t.other) (sym (counted_by (is_other (26 ∷ 27 ∷ 31 ∷ 90 ∷ [])) w true has.other)))
    (counted_none t.memory small.memory ∙ ap (counted t.memory) (sym (counted_by (is_refusal 90) w false has.memory)))
    (omega arith) (omega arith)

-- ---- and so on

-- nothing more was told
pub tallied_none : (t : Tally) → AreCounts t → t ≡ tallied t []
unfolding tallied
tallied_none t small =
    same_tally t.taken _ t.again _ t.expired _ t.spent _ t.little _ t.other _ t.memory _ t.takings _ t.change _
    (counted_none t.taken small.taken) (counted_none t.again small.again) (counted_none t.expired small.expired) (counted_none t.spent small.spent) (counted_none t.little small.little)
    (counted_none t.other small.other) (counted_none t.memory small.memory) (omega arith) (omega arith)

counted_more : (p : Told → Bool) (n : ℕ) (ws us : List Told) → counted (counted n (count_by p ws)) (count_by p us) ≡ counted n (count_by p (ws ++ us))
counted_more p n ws us = omega (arith, sum_by-append (λ (w : Told). cond (p w) 1 0) ws us)

summed_more : (f : Told → ℕ) (n : ℕ) (ws us : List Told) → (n + sum_by f ws) + sum_by f us ≡ n + sum_by f (ws ++ us)
summed_more f n ws us = omega (arith, sum_by-append f ws us)

-- what was told, and more
pub tallied_more : (t : Tally) (ws us : List Told) → tallied (tallied t ws) us ≡ tallied t (ws ++ us)
unfolding tallied
tallied_more t ws us =
    same_tally _ _ _ _ _ _ _ _ _ _ _ _ _ _ _ _ _ _
    (counted_more is_taken t.taken ws us) (counted_more is_repeated t.again ws us)
    (counted_more (is_refusal 26) t.expired ws us) (counted_more (is_refusal 27) t.spent ws us) (counted_more (is_refusal 31) t.little ws us)
    (counted_more (is_other (26 ∷ 27 ∷ 31 ∷ 90 ∷ [])) t.other ws us) (counted_more (is_refusal 90) t.memory ws us)
    (summed_more price_told t.takings ws us) (summed_more change_told t.change ws us)

-- ---- what an authorization pays

-- the change that its entry gives
pub change_is : (t : ℕ) (target : List ℕ) (a : Authorization) (q : Asked) → Ok a.scrip.now ≡ read_by q.scrip → change_given (accept_entry t target a) ≡ change_worth a.price a.scrip.now.piece.value a.change
change_is t target a q read = by_change a.change
  where
    piece : piece_of a.scrip.now.text ≡ Some a.scrip.now.piece
    piece = ap (λ (r : Result (Scrip × List ℕ) ℕ). option_map (λ p. p.0) (result_ok r)) (read_ok q.scrip a.scrip.now (sym read)).1

    by_change : (o : Option ℕ) → change_given (Accept t a.scrip.now.text target a.sign a.price o (entry_deed a.deed)) ≡ change_worth a.price a.scrip.now.piece.value o
    by_change None = refl
    by_change (Some id) = rw piece refl

-- what is told to a request that makes no entry
pub told_stopped : (s : NotAuthorized) (entered : Bool) → told (answered (Err (stop_of s))) entered ≡ told_stop s
told_stopped (stops.Refused f) entered = refl
told_stopped (stops.Again n) entered = refl
