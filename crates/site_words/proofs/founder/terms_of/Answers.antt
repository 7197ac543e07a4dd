use Rattle.std.proofs.Common.{rules}
use Rattle.site_words.proofs.WordLemmas.{are_terms}
use Rattle.site_words.proofs.founder.terms_of.Goals as goal

pub returns-clause-range : goal.returns-clause-range
returns-clause-range c =
    are_terms c.args.issuer c.args.period c.args.life c.args.scrip c.args.customer c.unwrap.result (search rules) c.get-period.ensures.range c.get-life.ensures.range c.get.ensures.range c.get-2.ensures.range
