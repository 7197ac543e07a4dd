use Rattle.std.proofs.Common.{◌∷◌, [], length, flat_map}
use Rattle.mc_fields.proofs.Puts.{appends_then, appends_along}
use Rattle.mc_records.proofs.GroupLaws.{secrets_text}
use Rattle.mc_records.proofs.appending.append_secrets.Goals as goal

pub returns : goal.returns
returns c =
    appends_along c.args.out.now.items c.append_each.new.out.items _ _ c.append_each.result (secrets_text c.args.secrets.now c.requires)
    (appends_then c.args.out.now.items c.append_both.new.out.items c.append_each.new.out.items (length c.args.secrets.now ∷ []) (flat_map (λ s. s) c.args.secrets.now) c.append_each.result c.in_ok-append_both.ensures c.append_each.ensures)
