use Rattle.std.proofs.Common.{inl, inr}
use Rattle.house_core.specs.HouseView.{HouseView}
use Rattle.site_commands.specs.Serving.{ServeEnds}
use Rattle.site_commands.proofs.ServedLemmas.{unopened_causes, serve_causes, not_opened, serves_book}
use Rattle.site_commands.proofs.serving.serve_book.Goals as goal

pub returns-in-Ok-clause-causes : goal.returns-in-Ok-clause-causes
returns-in-Ok-clause-causes g c =
    rw (c.ended.ensures.out, c.ended.ensures.status) (serve_causes g.O.Link.link g.O.Disk.disk c.args.links c.args.out c.in-Ok.house.journal.disk c.serve_links.result c.in-Ok.ensures.fault (g.met.O.Outside.disk_keeps _ _ c.in-Ok.ensures.moved) c.serve_links.ensures.causes c.serve_links.ensures.enough)

pub returns-in-Ok-clause-served : goal.returns-in-Ok-clause-served
returns-in-Ok-clause-served g c x told =
    rw (c.ended.ensures.out, c.ended.ensures.status)
    (inr (serves_book g.O.Link.link g.O.Disk.disk g.T.Trade.trade g.T.Trade.passes (g.T.Trade.trade c.args.trade).site c.args.links x c.args.out c.in-Ok.house c.serve_links.result (c.in-Ok.ensures.exact x told) c.in-Ok.ensures.read c.in-Ok.ensures.fault (g.met.O.Outside.disk_keeps _ _ c.in-Ok.ensures.moved) c.serve_links.ensures.served))

pub returns-in-Err-clause-served : goal.returns-in-Err-clause-served
returns-in-Err-clause-served g c x told =
    rw (c.not_opened.ensures.disk, c.not_opened.ensures.status)
    (inl (not_opened g.O.Link.link g.O.Disk.disk g.T.Trade.trade g.T.Trade.passes (g.T.Trade.trade c.args.trade).site x c.args.out c.in-Err.fault (c.in-Err.ensures.exact x told) (g.met.O.Outside.disk_keeps _ _ c.in-Err.ensures.moved) c.in-Err.ensures.read))

pub returns-in-Err-clause-causes : goal.returns-in-Err-clause-causes
returns-in-Err-clause-causes g c =
    rw (c.not_opened.ensures.disk, c.not_opened.ensures.status)
    (unopened_causes (HouseView g.row.O.Denot g.row.T.Denot) g.O.Link.link g.O.Disk.disk (ServeEnds g.O.Link.link g.O.Disk.disk c.args.links) c.args.out c.in-Err.fault (λ b same. same) c.in-Err.ensures.fault (g.met.O.Outside.disk_keeps _ _ c.in-Err.ensures.moved))
