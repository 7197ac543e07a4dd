use Rattle.mc_records.specs.Views.{entry}
use Rattle.audit_sums.specs.Rows.{acceptance_of, run_of}
use Rattle.audit_sums.proofs.Steps.{after_ok, rows_more, own_more}
use Rattle.audit_sums.proofs.pieces.Pieces.learn.Goals as goal

pub returns : goal.returns
returns c h terms shows =
    let e = entry c.args.r.now in
    after_ok c.put-3.result (λ is. record {
      accepted' = rows_more acceptance_of h e _ _ c.acceptance.result shows.accepted' c.acceptance.ensures c.in_ok-put.ensures;
      own_out' = own_more h e _ _ c.handed.result shows.own_out' (c.handed.ensures h terms) c.in_ok-put-2.ensures;
      minted' = rows_more run_of h e _ _ c.run.result shows.minted' c.run.ensures is;
    }) c.put-3.ensures
