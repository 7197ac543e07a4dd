use Rattle.std.proofs.Common.{◌≡◌, ◌∙◌, ◌++◌, ℕ, List, refl, ap, arith}
use Rattle.held_lines.specs.Lines.{resold, lines}
use Rattle.held_lines.specs.Resold.{resold_for, lines_of}
use Rattle.held_lines.proofs.ResoldLaws.{made_for, many_for, none_of}
use Rattle.held_lines.proofs.lines.append_held.Goals as goal

pub returns-then-count-eq0-clause-exact : goal.returns-then-count-eq0-clause-exact
returns-then-count-eq0-clause-exact c = λ h is.
    let t = c.args.time in
    let vendor = c.args.vendor.now in
    let none : c.in-Ok.count ≡ 0 = omega (arith, c.if-count-eq0.true) in
    (refl, none_of (resold_for h t vendor) c.in-Ok.count (c.in-Ok.ensures.count ∙ many_for h t vendor c.args.holdings.now c.requires is) none, refl)

pub returns-in-Ok-extend_from_slice-clause-exact : goal.returns-in-Ok-extend_from_slice-clause-exact
returns-in-Ok-extend_from_slice-clause-exact c = λ h is.
    let t = c.args.time in
    let vendor = c.args.vendor.now in
    let xs = c.args.holdings.now in
    let text : c.deref.result.now ≡ lines_of (resold_for h t vendor) =
    c.deref.ensures.value ∙ c.in-Ok.ensures.lines ∙ ap (λ (l : List ℕ). l ++ lines (resold t vendor xs)) c.new-text.ensures.items ∙ made_for h t vendor xs c.requires is in
    record {
      counted = c.in-Ok.ensures.count ∙ many_for h t vendor xs c.requires is;
      some = omega (arith, c.if-count-eq0.false);
      appended = c.in-Ok-extend_from_slice.ensures.items ∙ ap (λ (l : List ℕ). c.args.out.now.items ++ l) text;
    }
