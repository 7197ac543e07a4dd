use Rattle.std.proofs.Common.{ℕ, eqb, get_or, refl, sym, ap, ◌∙◌}
use Rattle.std.proofs.lemmas.Bool.{eqb-true}
use Rattle.std.proofs.lemmas.List.Quantifiers.{position-Some}
use Rattle.kept_replies.proofs.IndexLaws.{any_left, any_there, any_none, taken-set}
use Rattle.kept_replies.proofs.index.replace_in.Goals as goal

pub returns-in-Some-clause-left : goal.returns-in-Some-clause-left
returns-in-Some-clause-left c = λ q fails any.
    let its = position-Some (λ (s : ℕ). eqb s c.args.was) c.args.bucket.now c.in-Some.at 0 (sym c.in-Some.ensures) in
    any_left q c.args.bucket.now c.in-Some.at c.args.slot (ap q (eqb-true (get_or c.args.bucket.now c.in-Some.at 0) c.args.was its.1) ∙ fails) any

pub returns-in-Some-clause-there : goal.returns-in-Some-clause-there
returns-in-Some-clause-there c = λ is q passes.
    let its = position-Some (λ (s : ℕ). eqb s c.args.was) c.args.bucket.now c.in-Some.at 0 (sym c.in-Some.ensures) in
    any_there q c.args.bucket.now c.in-Some.at c.args.slot its.0 passes

pub returns-in-Some-clause-taken : goal.returns-in-Some-clause-taken
returns-in-Some-clause-taken c =
    let its = position-Some (λ (s : ℕ). eqb s c.args.was) c.args.bucket.now c.in-Some.at 0 (sym c.in-Some.ensures) in
    taken-set c.args.bucket.now c.in-Some.at c.args.was c.args.slot its.0 (eqb-true (get_or c.args.bucket.now c.in-Some.at 0) c.args.was its.1)

pub returns-in-None-clause-none : goal.returns-in-None-clause-none
returns-in-None-clause-none c = λ is. (refl, any_none (λ (s : ℕ). eqb s c.args.was) c.args.bucket.now (sym c.in-None.ensures))
