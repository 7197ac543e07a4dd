-- Refusals that have one of some numbers.
use Rattle.std.proofs.Common.{◌≡◌, ℕ, ◌+◌, Bool, true, false, List, [], ◌∷◌, length, Result, Ok, Err, refl, sym, subst, ⊎_elim, MatchResult, IfErr}
use Rattle.std.specs.Prelude.{◌==◌, nat_lt, IsTrue}
use Rattle.std.specs.List.{list_any, list_all}
use Rattle.std.proofs.lemmas.Bool.{true≢false, and_parts, or_cases, eqb-true}
use Rattle.mc_requests.specs.declared.refusal.Refusal.{Refusal}
use Rattle.mc_requests.specs.declared.refusal.Refusal.TheVariants.{JournalFull, SeriesFull}
use Rattle.mc_requests.specs.Refusals.{number_of}
use Rattle.mc_records.specs.Entry.{Entry, payload}
use Rattle.mc_records.specs.Sizes.{framed_size}
use Rattle.ledger_model.specs.Lines.{Stop, Refuse, ◌>>=◌, refused_if}
use Rattle.ledger_model.specs.Stages.{fitted_by}
use Rattle.house_core.specs.declared.outcome.Outcome.{Outcome}
use Rattle.house_core.specs.declared.outcome.Outcome.TheVariants as outcomes
use Rattle.house_core.specs.House.{IfRefused}
use Rattle.house_core.specs.Refusing.{IsAmong}

-- of more numbers
pub among_more : (ns ms : List ℕ) (f : Refusal) → IsTrue (list_all (λ n. list_any (λ m. m == n) ms) ns) → IsAmong ns f → IsAmong ms f
among_more [] ms f all is = absurd (true≢false (sym is))
among_more (n ∷ ns) ms f all is =
    let parts = and_parts (list_any (λ m. m == n) ms) (list_all (λ n. list_any (λ m. m == n) ms) ns) all in
    ⊎_elim
    (λ same. subst (λ (k : ℕ). IsTrue (list_any (λ m. m == k) ms)) (eqb-true n (number_of f) same) parts.0)
    (λ other. among_more ns ms f parts.1 other)
    (or_cases (n == number_of f) (list_any (λ m. m == number_of f) ns) is)

pub refused_more : {D T A : Type 0} (ns ms : List ℕ) (out : Outcome D T A) → IsTrue (list_all (λ n. list_any (λ m. m == n) ms) ns) → IfRefused (IsAmong ns) out → IfRefused (IsAmong ms) out
refused_more ns ms (outcomes.Done x a) all is = tt
refused_more ns ms (outcomes.Refused x f) all is = among_more ns ms f all is
refused_more ns ms (outcomes.NoMemory x) all is = tt
refused_more ns ms (outcomes.Halted d) all is = tt

-- ---- where they come from

-- a line tells no refusal but 33
abbrev TellsFull : Result Entry Stop → Type 0
TellsFull (Err (Refuse f)) = IsAmong (33 ∷ []) f
TellsFull _ = Unit {0}

fits_or_full : (limit size tail : ℕ) (e : Entry) → TellsFull (fitted_by limit size tail e)
fits_or_full limit size tail e = go (nat_lt limit (size + framed_size (length (payload e)) tail))
  where
    go : (b : Bool) → TellsFull (do
      _ ← refused_if b (JournalFull size (length (payload e)))
      Ok e)
    go true = refl
    go false = tt

-- an entry that does not fit is refused with 33
pub full_among : (limit size tail : ℕ) (e : Entry) (f : Refusal) → Err (Refuse f) ≡ fitted_by limit size tail e → IsAmong (33 ∷ []) f
full_among limit size tail e f is = subst TellsFull (sym is) (fits_or_full limit size tail e)

-- pieces that a series has no room for are refused with 32
pub series_among : (r : Result ℕ Refusal) (series : ℕ) (Fits : ℕ → Type 0) (Over : Refusal → Type 0) → MatchResult r Fits (λ f. (f ≡ SeriesFull series) × Over f) → IfErr r (IsAmong (32 ∷ []))
series_among (Ok first) series Fits Over is = tt
series_among (Err f) series Fits Over is = subst (λ (g : Refusal). IsAmong (32 ∷ []) g) (sym is.0) refl
