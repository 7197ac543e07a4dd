use Rattle.std.proofs.Common.{◌∷◌, [], length, flat_map}
use Rattle.mc_fields.proofs.Puts.{puts_then, puts_along}
use Rattle.mc_records.proofs.GroupLaws.{secrets_text}
use Rattle.mc_records.proofs.writing.put_secrets.Goals as goal

pub returns : goal.returns
returns c =
    puts_along c.args.out.now c.put_each_if_room.new.out c.args.at _ _ c.put_each_if_room.result (secrets_text c.args.secrets.now c.requires.few)
    (puts_then c.args.out.now c.put_if_room.new.out c.put_each_if_room.new.out c.args.at c.in_ok-at.at (length c.args.secrets.now ∷ []) (flat_map (λ s. s) c.args.secrets.now) c.put_each_if_room.result c.requires.at c.put_if_room.auto.out c.in_ok-at.ensures c.put_each_if_room.ensures)
