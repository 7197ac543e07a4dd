use Rattle.std.proofs.Common.{refl, ap, ◌∙◌, Option, false, option_map, unwrap_or}
use Rattle.wallet_model.specs.Requests as model
use Rattle.wallet_core.specs.Requests.{request_view}
use Rattle.slow_wallet.proofs.requests.slow_pays_with.Goals as goal

pub returns-in-Some : goal.returns-in-Some
returns-in-Some c =
    c.pays.ensures (request_view c.in-Some.p) refl ∙ ap (λ (o : Option model.Pending). unwrap_or (option_map (model.pays c.args.text.now) o) false) c.in-Some.ensures
