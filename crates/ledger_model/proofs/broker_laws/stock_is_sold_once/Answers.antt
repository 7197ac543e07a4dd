use Rattle.ledger_model.proofs.StockLaws.{stock_fits, stock_stands_once, stock_sold_once}
use Rattle.ledger_model.proofs.broker_laws.stock_is_sold_once.Goals as goal

pub returns-clause-fits : goal.returns-clause-fits
returns-clause-fits c = stock_fits

pub returns-clause-stands : goal.returns-clause-stands
returns-clause-stands c = stock_stands_once

pub returns-clause-sold : goal.returns-clause-sold
returns-clause-sold c = stock_sold_once
