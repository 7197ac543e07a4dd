use Rattle.std.proofs.Common.{ℕ, List, ◌||◌, eqb, ap, ◌∙◌, length}
use Rattle.spent_windows.specs.Windows.{has_bit}
use Rattle.spent_windows.proofs.BitLaws.{set_bit}
use Rattle.spent_windows.proofs.bits.Bits.set.Goals as goal

pub returns : goal.returns
returns c = λ k below.
    let is = c.deref_mut.ensures.value ∙ c.self.view_is in
    set_bit c.deref_mut.result.now c.args.bit k (ap length c.deref_mut.ensures.value ∙ c.self.invariant) c.requires below
    ∙ ap (λ (words : List ℕ). has_bit words k || eqb c.args.bit k) is
