use Rattle.house_core.proofs.Founded.{founds_fit, none_kept, keeps_founded, some_founded, none_spent, stands_founded, learns_site, founds_by_trade}
use Rattle.house_core.specs.BenchView.{BenchView}
use Rattle.house_core.proofs.Contents.{contents_of_none}
use Rattle.house_state.proofs.WindowCounts.{none_used}
use Rattle.std.proofs.Common.{◌≡◌, [], ◌∷◌, Some}
use Rattle.mc_records.specs.Views.{entry}
use Rattle.ledger_model.specs.Houses.{site_kind}
use Rattle.house_core.proofs.bench.Bench.new.Goals as goal

pub returns-clause-holds : goal.returns-clause-holds
returns-clause-holds g c =
    let e = entry c.args.site.now in
    let kind : site_kind (e ∷ []) ≡ Some (g.T.Trade.trade c.reserve.new.self).site = rw c.in-Ok.ensures.site c.requires.kind in
    record {
      state = stands_founded c.in_ok-state.state c.args.limits e c.in_ok-state.ensures c.requires.site c.requires.limits c.requires.first;
      learned = c.in-Ok-learn.ensures.learned c.args.limits [] (c.in-Ok.ensures.same [] c.requires.trade) (learns_site c.args.limits (g.T.Trade.trade c.reserve.new.self).site e c.requires.site c.requires.first kind);
      of_kind = rw c.in-Ok-learn.ensures.site kind;
    }

pub returns-clause-contents : goal.returns-clause-contents
returns-clause-contents g c =
    let made : BenchView g.row.T.Denot = record { state = c.in_ok-state.state; trade = c.learn.new.self; tally = c.none.result } in
    contents_of_none g.T.Trade.trade made (entry c.args.site.now ∷ []) (keeps_founded c.in_ok-state.state c.args.limits (entry c.args.site.now) c.in_ok-state.ensures) (some_founded c.in_ok-state.state c.args.limits (entry c.args.site.now) c.requires.site c.in_ok-state.ensures) (none_kept c.in_ok-state.state c.args.limits (entry c.args.site.now) c.in_ok-state.ensures)

pub returns-clause-used : goal.returns-clause-used
returns-clause-used g c =
    none_used c.in_ok-state.state.spent (none_spent c.in_ok-state.state c.args.limits (entry c.args.site.now) c.in_ok-state.ensures)

pub learn-requires-clause-fits : goal.learn-requires-clause-fits
learn-requires-clause-fits g c = founds_fit (entry c.args.site.now) c.requires.site

-- the trade learns the Site entry
pub unreachable-requires : goal.unreachable-requires
unreachable-requires g c =
    let e = entry c.args.site.now in
    let kind : site_kind (e ∷ []) ≡ Some (g.T.Trade.trade c.reserve.new.self).site = rw c.in-Ok.ensures.site c.requires.kind in
    let may = learns_site c.args.limits (g.T.Trade.trade c.reserve.new.self).site e c.requires.site c.requires.first kind in
    let learned = (c.in-Err-learn.ensures.exact c.args.limits [] (c.in-Ok.ensures.same [] c.requires.trade) may).1 (founds_by_trade g.T.Trade.passes (g.T.Trade.trade c.reserve.new.self).site e c.requires.site) in
    absurd (cc learned)
