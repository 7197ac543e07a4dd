use Rattle.std.proofs.Common.{arith, rules, map, length, ◌<◌, ◌^◌}
use Rattle.std.specs.Prelude.{string_bytes}
use Rattle.door_wire.proofs.SpellingLemmas.{spelled_told}
use Rattle.door_wire.proofs.spelling.put_told.Goals as goal

pub returns-clause-told : goal.returns-clause-told
returns-clause-told c =
    let small : length c.args.input.now < 2 ^ 64 = search rules in
    spelled_told (map string_bytes c.args.words.now) c.args.input.now (omega (arith, small)) c.requires.plain
