use Rattle.std.proofs.Common.{◌≡◌, ◌∙◌, ◌∷◌, ℕ, sym, ap, length, arith}
use Rattle.command_table.proofs.AddressLemmas.{bracketed_told, no_bracketed, no_colon}
use Rattle.command_table.proofs.address.is_bracketed_rest.Goals as goal

pub returns-in_default : goal.returns-in_default
returns-in_default c = (λ t. absurd (cc t), λ is. absurd (no_bracketed c.args.least c.args.rest.now c.in_default.field-0.left c.in_default.ensures.gives is))

pub returns-in_default-split_first : goal.returns-in_default-split_first
returns-in_default-split_first c = (
  λ t. absurd (cc t),
  λ is. absurd (no_colon c.args.least c.args.rest.now c.in-Ok.found.0.now c.in-Ok.found.1.now c.in-Ok.ensures.gives (λ port e. omega (arith, c.in_default-split_first.ensures.cases, ap length e)) is),
)

pub returns-then-next-ne58 : goal.returns-then-next-ne58
returns-then-next-ne58 c = (
  λ t. absurd (cc t),
  λ is. absurd (no_colon c.args.least c.args.rest.now c.in-Ok.found.0.now c.in-Ok.found.1.now c.in-Ok.ensures.gives
      (λ port e. c.if-next-ne58.true (let both : c.in-Some.next.now ∷ c.in-Some.port.now ≡ 58 ∷ port = sym c.in-Some.ensures.cases.0 ∙ e in cc)) is),
)

pub returns : goal.returns
returns c =
    let begins : c.in-Ok.found.1.now ≡ 58 ∷ c.in-Some.port.now = c.in-Some.ensures.cases.0 ∙ ap (λ (n : ℕ). n ∷ c.in-Some.port.now) c.if-next-ne58.false in
    rw c.is_some.ensures
    (bracketed_told c.args.least c.args.rest.now c.in-Ok.found.0.now c.in-Some.port.now c.number_from.result (rw begins at c.in-Ok.ensures.gives) (c.number_from.ensures.some, c.number_from.ensures.none))
