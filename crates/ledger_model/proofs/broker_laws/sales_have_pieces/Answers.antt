use Rattle.ledger_model.proofs.StockLaws.{all_made, sold_parts}
use Rattle.ledger_model.proofs.broker_laws.sales_have_pieces.Goals as goal

pub returns-clause-made : goal.returns-clause-made
returns-clause-made c = all_made

pub returns-clause-parts : goal.returns-clause-parts
returns-clause-parts c = sold_parts
