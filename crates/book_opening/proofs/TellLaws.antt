-- What a Switch tells, by the chain of the entries before it, which nobody knows where no Switch comes.
use Rattle.std.proofs.Common.{◌≡◌, ℕ, Bool, true, List, refl, subst, ◌↔◌}
use Rattle.std.specs.Prelude.{IsTrue}
use Rattle.mc_records.specs.Entry.{Entry, Switch}
use Rattle.mc_records.specs.Chains.{Tells, is_switch}

-- of an entry it is told whether it tells this chain
pub tells_same : (told : Bool) (before chain : List ℕ) (e : Entry) → (is_switch e ≡ true → before ≡ chain) → IsTrue told ↔ Tells before e → IsTrue told ↔ Tells chain e
tells_same told before chain (Switch m c) same tells = subst (λ (k : List ℕ). IsTrue told ↔ Tells k (Switch m c)) (same refl) tells
tells_same told before chain e same tells = tells
