use Rattle.std.proofs.Common.{◌∙◌, ap, sym}
use Rattle.mc_requests.specs.declared.limits.Limits.{Limits}
use Rattle.house_opening.proofs.Beginnings.{of_kind}
use Rattle.house_opening.proofs.opening.open_house.Goals as goal

pub returns-in-Ok-clause-exact : goal.returns-in-Ok-clause-exact
returns-in-Ok-clause-exact g c x told =
    let opened = c.in-Ok.ensures.exact x told in
    let stands = opened.learned.holds' in
    let limit = c.in-Ok.ensures.limit ∙ ap (λ (l : Limits). l.journal) (sym c.in-Ok.ensures.belongs) in
    record {
      history = opened.history;
      of_bytes = opened.of_bytes;
      of_kind = of_kind (g.T.Trade.trade c.args.trade).site opened.history opened.learned.of_site;
      follow = opened.learned.follow;
      house = c.new.ensures.stands opened.history opened.journal stands.house limit;
      time' = c.new.ensures.time ∙ stands.time';
      limits' = c.new.ensures.limits ∙ c.in-Ok.ensures.belongs;
    }
