use Rattle.std.proofs.Common.{inl, inr}
use Rattle.house_core.specs.HouseView.{HouseView}
use Rattle.site_commands.specs.Operator.{OperateEnds}
use Rattle.site_commands.proofs.ServedLemmas.{unopened_causes, not_opened}
use Rattle.site_commands.proofs.OperatorLemmas.{causes_opened}
use Rattle.site_commands.proofs.operator.operate_book.Goals as goal

pub returns-in-Err-clause-operated : goal.returns-in-Err-clause-operated
returns-in-Err-clause-operated g c x told =
    rw (c.not_opened.ensures.disk, c.not_opened.ensures.status)
    (inl (not_opened g.O.Link.link g.O.Disk.disk g.T.Trade.trade g.T.Trade.passes (g.T.Trade.trade c.args.trade).site x c.args.out c.in-Err.fault (c.in-Err.ensures.exact x told) (g.met.O.Outside.disk_keeps _ _ c.in-Err.ensures.moved) c.in-Err.ensures.read))

pub returns-in-Ok-clause-causes : goal.returns-in-Ok-clause-causes
returns-in-Ok-clause-causes g c =
    causes_opened g.O.Link.link g.O.Disk.disk (g.C.OperatorCommand.operation c.args.command.now) c.args.out c.in-Ok.house.journal.disk c.operate_house.result.1 c.operate_house.result.0 c.in-Ok.ensures.fault (g.met.O.Outside.disk_keeps _ _ c.in-Ok.ensures.moved) c.operate_house.ensures.causes

pub returns-in-Ok-clause-operated : goal.returns-in-Ok-clause-operated
returns-in-Ok-clause-operated g c x told =
    inr (c.operate_house.ensures.operated (g.T.Trade.trade c.args.trade).site c.args.out x (record { house = c.in-Ok.ensures.exact x told; read = c.in-Ok.ensures.read; link' = g.met.O.Outside.disk_keeps _ _ c.in-Ok.ensures.moved }))

pub returns-in-Err-clause-causes : goal.returns-in-Err-clause-causes
returns-in-Err-clause-causes g c =
    rw (c.not_opened.ensures.disk, c.not_opened.ensures.status)
    (unopened_causes (HouseView g.row.O.Denot g.row.T.Denot) g.O.Link.link g.O.Disk.disk (OperateEnds g.O.Link.link (g.C.OperatorCommand.operation c.args.command.now)) c.args.out c.in-Err.fault (λ b same. inl same) c.in-Err.ensures.fault (g.met.O.Outside.disk_keeps _ _ c.in-Err.ensures.moved))
