use Rattle.std.proofs.Common.{sym, subst}
use Rattle.std.specs.Str.{IsUtf8}
use Rattle.audit_report.proofs.Ascii.{name_is_text}
use Rattle.audit_report.proofs.json.name_text.Goals as goal

pub unreachable-requires : goal.unreachable-requires
unreachable-requires c = c.in-Err.ensures.cases.0 (subst IsUtf8 (sym c.bytes.ensures.value) (name_is_text c.args.name.now c.bytes.ensures.name))
