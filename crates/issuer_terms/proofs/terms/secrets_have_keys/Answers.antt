use Rattle.std.proofs.Common.{[]}
use Rattle.std.proofs.lemmas.List.Elements.{All-from_get_or, recursion_from_All}
use Rattle.mc_records.specs.Entry.{IsKey}
use Rattle.issuer_terms.proofs.terms.secrets_have_keys.Goals as goal

pub returns : goal.returns
returns c = record { some = c.requires.some; few = c.requires.few; keys = recursion_from_All IsKey c.args.list.now (All-from_get_or IsKey c.args.list.now [] c.told-list) }
