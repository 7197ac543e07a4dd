use Rattle.std.proofs.Common.{sym, ap, ◌∙◌, refl, arith}
use Rattle.std.proofs.lemmas.Bool.{false≢true}
use Rattle.std.specs.Prelude.{is_some}
use Rattle.mc_records.specs.Entry.{Mint}
use Rattle.vendor_core.proofs.ShelfLaws.{mint_learned}
use Rattle.vendor_core.proofs.TargetLaws.{targets_quiet}
use Rattle.vendor_core.proofs.shelf.Shelf.learn_mint.Goals as goal

pub returns-then-is_some-clause-exact : goal.returns-then-is_some-clause-exact
returns-then-is_some-clause-exact c h stands =
    let stood = stands.0.all_references c.args.reference.now ∙ sym (ap is_some c.get.ensures) ∙ sym c.is_some.ensures ∙ c.if-is_some.true in
    (λ ok. absurd (false≢true ok), λ new. absurd (false≢true (sym new ∙ stood)))

pub returns-clause-exact : goal.returns-clause-exact
returns-clause-exact c h stands =
    (λ ok. stands.0.all_references c.args.reference.now ∙ sym (ap is_some c.get.ensures) ∙ sym c.is_some.ensures ∙ c.if-is_some.false, λ new. refl)

pub returns-clause-learned : goal.returns-clause-learned
returns-clause-learned c h m stands is_number =
    rw c.push_reserved.ensures.items (mint_learned _ _ _ _ _ _ h m c.len.result c.args.reference.now c.args.minting is_number (omega (arith, c.len.ensures)) (c.put.ensures.places c.args.reference.now c.requires.room.name) stands.0, targets_quiet h (Mint m c.args.reference.now c.args.minting.count c.args.minting.value c.args.minting.first) _ refl stands.1)
