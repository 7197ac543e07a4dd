use Rattle.std.proofs.Common.{ℕ, sym, subst}
use Rattle.held_lines.specs.Resold.{Appends, resold_for}
use Rattle.wallet_commands.proofs.listing.held_lines.Goals as goal

pub returns-clause-exact : goal.returns-clause-exact
returns-clause-exact g c = λ h st.
    subst (λ (t : ℕ). Appends (resold_for h t c.args.vendor.now) c.args.out.now.items c.append_held.new.out.items c.append_held.result) c.time.ensures
    (c.append_held.ensures.exact h (sym (c.holdings.ensures.list h st)))
