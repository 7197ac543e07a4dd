use Rattle.std.proofs.Common.{◌∙◌, ap, sym}
use Rattle.mc_requests.specs.declared.limits.Limits.{Limits}
use Rattle.wallet_core.proofs.opening.open_wallet.Goals as goal

pub returns-in-Ok-clause-exact : goal.returns-in-Ok-clause-exact
returns-in-Ok-clause-exact g c x told =
    let opened = c.in-Ok.ensures.exact x told in
    let stands = opened.learned.holds' in
    let limit = c.in-Ok.ensures.limit ∙ ap (λ (l : Limits). l.journal) (sym c.in-Ok.ensures.belongs) in
    record {
      history = opened.history;
      of_bytes = opened.of_bytes;
      wallet = c.new.ensures.stands opened.history opened.journal stands.book limit;
      time' = c.new.ensures.time ∙ stands.time';
      limits' = c.new.ensures.limits ∙ c.in-Ok.ensures.belongs;
    }
