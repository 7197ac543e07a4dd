use Rattle.wallet_model.proofs.BookLaws.{unlawful, one_number}
use Rattle.wallet_model.proofs.laws.first_against_is_one.Goals as goal

pub returns-clause-unlawful : goal.returns-clause-unlawful
returns-clause-unlawful c = unlawful

pub returns-clause-one : goal.returns-clause-one
returns-clause-one c = one_number
