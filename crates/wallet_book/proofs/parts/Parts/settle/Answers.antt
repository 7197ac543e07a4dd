use Rattle.std.proofs.Common.{not, eqb, rules}
use Rattle.std.proofs.lemmas.Fn.{filter_same}
use Rattle.wallet_book.proofs.parts.Parts.settle.Goals as goal

pub returns-clause-kept : goal.returns-clause-kept
returns-clause-kept c = filter_same _ (λ k. not (eqb c.args.number k.number)) _ (λ x b f k. search rules) _ _ c.retain.ensures.filtered
