use Rattle.std.proofs.Common.{ap, map, string_bytes}
use Rattle.std.specs.Prelude.{is_some}
use Rattle.mc_top.proofs.ProxyLemmas.{places_beside}
use Rattle.mc_top.proofs.naming.places.Goals as goal

pub returns-in-None : goal.returns-in-None
returns-in-None c = places_beside (map string_bytes c.args.words.now) c.proxied.result (c.in_ok-command.ensures.none (ap is_some c.in-None.is)) c.proxied.ensures
