use Rattle.std.proofs.Common.{◌≡◌, length, sym, subst, arith}
use Rattle.vendor_core.specs.declared.catalogue.Catalogue.{Catalogue}
use Rattle.vendor_core.specs.Editions.{IsFirstNeeded}
use Rattle.vendor_core.proofs.CatalogueLaws.{none_first, all_needed}
use Rattle.vendor_core.proofs.catalogue.Catalogue.forget.Goals as goal

pub loop-init : goal.loop-init
loop-init c = (λ h stands. stands, λ h n stands kept held. held, omega arith)

pub loop-preserved : goal.loop-preserved
loop-preserved c = (
  λ h stands. c.forget_first.ensures.same h (c.loop.invariant.0 h stands),
  λ h n stands kept held. c.forget_first.ensures.held h n (c.loop.invariant.0 h stands) kept (c.loop.invariant.1 h n stands kept held),
  omega (arith, c.loop.invariant.2, c.forget_first.ensures.one c.if-not-forget_first.false),
)

pub returns-then-not-forget_first-clause-same : goal.returns-then-not-forget_first-clause-same
returns-then-not-forget_first-clause-same c h stands = c.forget_first.ensures.same h (c.loop.invariant.0 h stands)

pub returns-then-not-forget_first-clause-held : goal.returns-then-not-forget_first-clause-held
returns-then-not-forget_first-clause-held c h n stands kept held =
    c.forget_first.ensures.held h n (c.loop.invariant.0 h stands) kept (c.loop.invariant.1 h n stands kept held)

pub returns-then-not-forget_first-clause-freed : goal.returns-then-not-forget_first-clause-freed
returns-then-not-forget_first-clause-freed c h n stands held =
    let last = c.forget_first.ensures.last c.if-not-forget_first.true in
    let needed = subst (λ (x : Catalogue). IsFirstNeeded c.args.kept_from x.replaced.items) (sym last.0) last.1 in
    all_needed _ _ _ h c.args.kept_from n (c.forget_first.ensures.same h (c.loop.invariant.0 h stands)) needed held

pub returns-clause-same : goal.returns-clause-same
returns-clause-same c h stands = c.loop.invariant.0 h stands

pub returns-clause-held : goal.returns-clause-held
returns-clause-held c h n stands kept held = c.loop.invariant.1 h n stands kept held

pub returns-clause-freed : goal.returns-clause-freed
returns-clause-freed c h n stands held =
    let none : length c.loop.self.replaced.items ≡ 0 = omega (arith, c.loop.invariant.2, c.len-end.ensures, c.loop-test.false, c.args.self.now.replaced.ok.0) in
    all_needed _ _ _ h c.args.kept_from n (c.loop.invariant.0 h stands) (none_first c.args.kept_from c.loop.self.replaced.items none) held
