use Rattle.std.proofs.Common.{max, ap₂, ◌∙◌, sym}
use Rattle.mc_records.specs.Views.{entry}
use Rattle.audit_sums.proofs.Steps.{after_ok, name_stays, kind_stays, fee_stays, terms_stay, time_more, money_more}
use Rattle.audit_sums.proofs.audit_sums.BookSums.learn.Goals as goal

pub returns : goal.returns
returns c h stands =
    let e = entry c.args.r.now in
    let k = c.args.self.now.kind in
    after_ok c.learn-2.result (λ sold. record {
      name' = name_stays h e k stands.kind' ∙ stands.name';
      kind' = kind_stays h e k stands.kind' ∙ stands.kind';
      fee' = fee_stays h e k stands.kind' ∙ stands.fee';
      terms' = terms_stay h e _ stands.terms';
      time' = time_more h e ∙ ap₂ max stands.time' (sym c.moment.ensures) ∙ sym c.later-self.ensures;
      money = money_more h e k _ _ _ stands.kind' stands.fee' stands.money c.in_ok-count.ensures;
      pieces' = c.in_ok-learn.ensures h stands.terms' stands.pieces';
      market' = sold;
    }) (c.learn-2.ensures h stands.market')
