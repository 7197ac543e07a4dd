use Rattle.std.proofs.Common.{Option, Err, subst, arith}
use Rattle.mc_requests.specs.declared.limits.Limits.{Limits}
use Rattle.mc_records.specs.Views.{entry}
use Rattle.ledger_model.specs.Lawful.{MayFollow}
use Rattle.mc_requests.specs.declared.limits.TheConstants.Limits.{FULL}
use Rattle.house_core.specs.declared.spent.SpentPiece.{SpentPiece}
use Rattle.house_core.specs.Bench.{Replays}
use Rattle.house_core.proofs.Entered.{time_snoc}
use Rattle.audit_cmd.proofs.ReadLaws.{fault_told}
use Rattle.audit_cmd.proofs.reader.Reader.learn.Goals as goal

pub returns-in-Ok-learn-clause-exact : goal.returns-in-Ok-learn-clause-exact
returns-in-Ok-learn-clause-exact g c h full reads told room =
    let e = entry c.args.r.now in
    let replays = c.in-Ok.ensures.exact h reads.house reads.time' told room in (
      subst (λ (l : Limits). MayFollow l h e) full replays.0.follows,
      record {
        house = replays.1;
        time' = omega (arith, replays.2, time_snoc h e, replays.0.follows.in_order);
        sums' = c.in-Ok-learn.ensures h reads.sums';
      },
    )

pub returns-in-Err-clause-exact : goal.returns-in-Err-clause-exact
returns-in-Err-clause-exact g c h full reads told room =
    let e = entry c.args.r.now in
    let replays = c.in-Err.ensures.exact h reads.house reads.time' told room in
    fault_told {A = Unit {0}} (Option SpentPiece) g.T.Trade.trade g.T.Trade.passes c.replay.new.self FULL (λ u k. Unit {0}) h e (c.requires.passed h) c.in-Err.fault (subst (λ (l : Limits). Replays {X = Option SpentPiece} g.T.Trade.trade g.T.Trade.passes c.replay.new.self l h e (Err c.in-Err.fault)) full replays)
