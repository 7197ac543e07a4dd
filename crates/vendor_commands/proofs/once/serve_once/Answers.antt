use Rattle.vendor_commands.proofs.once.serve_once.Goals as goal

pub returns-clause-ended : goal.returns-clause-ended
returns-clause-ended g c = c.serve_link.ensures.ended c.args.shop.now c.in-Ok.ensures

pub serve_link-requires : goal.serve_link-requires
serve_link-requires g c = (c.args.shop.now, c.in-Ok.ensures)
