use Rattle.std.proofs.Common.{map, string_bytes, get_or, refl, sym, subst, arith, below_more}
use Rattle.std.proofs.lemmas.List.{get_or_default}
use Rattle.command_table.specs.declared.table.CommandName.{CommandName}
use Rattle.command_table.specs.declared.table.TheConstants.{COMMANDS}
use Rattle.mc_words.proofs.GoLemmas.{stands_at}
use Rattle.command_table.specs.Beginning.{MayBegin}
use Rattle.mc_words.proofs.wrong.go_on.Goals as goal

pub loop-name-preserved : goal.loop-name-preserved
loop-name-preserved c =
    below_more (λ k. (d : CommandName) → MayBegin (get_or COMMANDS k d) (map string_bytes c.args.words.now) → ⊥) c.loop-name.name-index c.loop-name.invariant
    (λ d goes.
    let same = get_or_default COMMANDS c.loop-name.name-index d _ c.loop-name-test.true in
    let is = c.in_ok-may_begin.ensures.1 (subst (λ (n : CommandName). MayBegin n (map string_bytes c.args.words.now)) same goes) in
    absurd (cc (c.if-branch.false, is)))

pub returns : goal.returns
returns c = (
  λ t. absurd (cc t),
  λ goes. absurd (
      let at = stands_at goes.0 in
      c.loop-name.invariant at.0 (omega (arith, at.1, c.loop-name-test.false)) goes.0 (subst (λ (n : CommandName). MayBegin n (map string_bytes c.args.words.now)) (sym at.2) goes.1)),
)

pub returns-then-branch : goal.returns-then-branch
returns-then-branch c = (λ t. (_, c.in_ok-may_begin.ensures.0 c.if-branch.true), λ goes. refl)
