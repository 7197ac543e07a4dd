use Rattle.std.proofs.Common.{◌∙◌, ℕ, Option, Some, None, option_map, sym, ap, subst}
use Rattle.wallet_model.specs.Requests.{Pending}
use Rattle.wallet_book.specs.Holdings.{texts_of}
use Rattle.wallet_book.specs.Kept.{kept_of}
use Rattle.wallet_core.specs.Gets.{FindsGet}
use Rattle.wallet_core.proofs.GetLaws.{found_get}
use Rattle.wallet_core.proofs.wallet.Wallet.find_get.Goals as goal

pub returns-in_err-place : goal.returns-in_err-place
returns-in_err-place g c = rw (← c.self.view_is) (λ h st.
    let b = c.self.inside.book in
    let is = ap (option_map (kept_of (texts_of b.holdings))) (sym c.in_ok-kept.was) ∙ c.find_get.ensures h st.book in
    absurd (found_get b h c.args.vendor.now c.args.target.now c.in_ok-kept.kept None st.book c.in_err-place.was is))

pub returns : goal.returns
returns g c = rw (← c.self.view_is) (λ h st.
    let b = c.self.inside.book in
    let is = ap (option_map (kept_of (texts_of b.holdings))) (sym c.in_ok-kept.was) ∙ c.find_get.ensures h st.book in
    subst (λ (o : Option (ℕ × Pending)). FindsGet h o (Some (c.in_ok-kept.kept.number, c.in_ok-place.place))) is
    (found_get b h c.args.vendor.now c.args.target.now c.in_ok-kept.kept (Some c.in_ok-place.place) st.book c.in_ok-place.was is))
