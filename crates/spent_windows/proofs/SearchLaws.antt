-- A search by halving: what is left of the list, and how long it takes.
use Rattle.std.proofs.Common.{◌≡◌, ℕ, ◌+◌, ◌*◌, ◌^◌, ◌<◌, ◌≤◌, List, length, get_or, sym, ap, ◌∙◌, inl, inr, arith}
use Rattle.std.proofs.Math.Nat.{pow-suc}
use Rattle.std.proofs.Math.Numerals.{add-one}
use Rattle.std.proofs.Math.Pow.{pow_mono}
use Rattle.std.proofs.lemmas.List.{get_or_default}
use Rattle.std.proofs.lemmas.Nat.{mul-le}
use Rattle.std.proofs.lemmas.Bool.{cases_lt}
use Rattle.spent_windows.specs.Windows.{WindowView, AreInOrder}
use Rattle.spent_windows.specs.Store.{no_window, number_at}

-- What is left after some halvings: that many times this power of two is at most what there was.
pub record IsLeft (all left steps : ℕ) : Type 0 where
  pub bounded : left * 2 ^ steps ≤ all
  pub few : (digits : ℕ) → all < 2 ^ digits → steps ≤ digits

twice : (half left power all : ℕ) → 2 * half ≤ left → left * power ≤ all → half * (power * 2) ≤ all
twice half left power all le bounded = omega (arith, mul-le (2 * half) power left power le (omega arith))

once : (left power all : ℕ) → 0 < left → left * power ≤ all → power ≤ all
once left power all some bounded = omega (arith, mul-le 1 power left power some (omega arith))

pub halved : (all left steps half more : ℕ) → IsLeft all left steps → 0 < left → 2 * half ≤ left → more ≡ steps + 1 → IsLeft all half more
halved all left steps half more h some le next = record {
  bounded = rw (next, add-one, pow-suc 2 steps) (twice half left (2 ^ steps) all le h.bounded);
  few = λ digits below. elim (cases_lt digits more) [
    | inl fewer ↦
        let reached : 2 ^ steps ≤ all = once left (2 ^ steps) all some h.bounded in
        let power : 2 ^ digits ≤ 2 ^ steps = pow_mono {i = digits} {j = steps} (omega arith) in
        absurd (omega arith)
    | inr enough ↦ enough
  ];
}

-- the number of the window that was read at a place
pub number_read : (ws : List WindowView) (i : ℕ) (w : WindowView) → w ≡ get_or ws i w → i < length ws → number_at ws i ≡ w.number
number_read ws i w read within = ap (λ (x : WindowView). x.number) (get_or_default ws i no_window w within ∙ sym read)

-- before a place with a smaller number all numbers are smaller
pub all_smaller : (ws : List WindowView) (middle number : ℕ) → AreInOrder ws → middle < length ws → number_at ws middle < number
    → (j : ℕ) → j < middle + 1 → number_at ws j < number
all_smaller ws middle number ordered within smaller j before = elim (cases_lt j middle) [
  | inl earlier ↦ omega (arith, ordered j middle no_window earlier within)
  | inr there ↦ let same : j ≡ middle = omega arith in rw same smaller
]

-- from a place with a greater number on all are greater
pub all_greater : (ws : List WindowView) (middle number : ℕ) → AreInOrder ws → number < number_at ws middle
    → (j : ℕ) → middle ≤ j → j < length ws → number < number_at ws j
all_greater ws middle number ordered greater j from within = elim (cases_lt middle j) [
  | inl later ↦ omega (arith, ordered middle j no_window later within)
  | inr there ↦ let same : j ≡ middle = omega arith in rw same greater
]
