use Rattle.std.proofs.Common.{◌∙◌, sym, ap, option_map}
use Rattle.house_state.specs.declared.offer.SiteKind.TheVariants.{Broker}
use Rattle.door_commands.specs.Told.{EndsBy, DoubtsBy, BrokerObeys, BrokerDoubts}
use Rattle.mc_top.proofs.DoorLemmas.{opens_at}
use Rattle.mc_top.proofs.serving.serve_desk.Goals as goal

pub returns-in-Some-clause-served : goal.returns-in-Some-clause-served
returns-in-Some-clause-served g c =
    opens_at g.O.Link.link g.O.Disk.disk Broker (EndsBy BrokerObeys) (DoubtsBy BrokerDoubts) c.in-Some.field-0.now c.args.server.now.door c.links.result c.args.server.now.links c.args.out c.serve_open_book.result.0 c.serve_open_book.result.1
    (sym (ap (option_map (λ p. p.now)) c.in-Some.is) ∙ c.door.ensures) c.links.ensures.value (c.serve_open_book.ensures.causes, c.serve_open_book.ensures.served)
