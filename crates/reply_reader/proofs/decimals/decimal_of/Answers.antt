use Rattle.std.proofs.Common.{◌≡◌, rules, tests, arith, false}
use Rattle.std.specs.Prelude.{codes, bytes_eq}
use Rattle.reply_reader.proofs.DecimalLemmas.{number_read}
use Rattle.reply_reader.proofs.decimals.decimal_of.Goals as goal

pub returns-else-eq-clause-number : goal.returns-else-eq-clause-number
returns-else-eq-clause-number c =
    let e : bytes_eq c.args.bytes.now (codes "0") ≡ false = search (rules, tests) in
    rw e (number_read c.args.most c.args.bytes.now c.number_of.result (omega arith) c.number_of.ensures.number c.number_of.ensures.none)
