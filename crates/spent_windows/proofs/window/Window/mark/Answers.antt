use Rattle.std.proofs.Common.{◌≡◌, sym, ◌∙◌, true, ◌||◌, eqb, rules, of_calls}
use Rattle.spent_windows.specs.Windows.{has_bit, is_full}
use Rattle.spent_windows.proofs.BitLaws.{full_bit}
use Rattle.spent_windows.proofs.window.Window.mark.Goals as goal

-- the bit was set, and then all are
pub returns-then-full-clause-marked : goal.returns-then-full-clause-marked
returns-then-full-clause-marked c = λ k below.
    let full : is_full c.set.new.self ≡ true = sym c.are_full-full.ensures.full ∙ c.if-full.true in
    let set : (has_bit c.in-Some.bits k || eqb c.args.bit k) ≡ true = sym (c.set.ensures k below) ∙ full_bit _ k c.are_full-full.ensures.long below full in
    search (rules, of_calls, set)
