use Rattle.std.proofs.Common.{ap, ◌∙◌, arith, length}
use Rattle.mc_fields.specs.Field.{spelled}
use Rattle.mc_records.specs.Views.{entry}
use Rattle.mc_records.proofs.GroupLaws.{groups_spelled}
use Rattle.mc_records.proofs.PayloadSizes.{payload_is_short}
use Rattle.mc_records.proofs.record.Record.payload_len.Goals as goal

pub groups_len-requires : goal.groups_len-requires
groups_len-requires c = omega (arith, ap length (groups_spelled c.table.result ∙ ap spelled c.table.ensures), payload_is_short (entry c.args.self.now) c.requires)

pub returns : goal.returns
returns c = c.groups_len.ensures ∙ ap length (groups_spelled c.table.result ∙ ap spelled c.table.ensures)
