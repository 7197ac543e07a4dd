use Rattle.broker_stalls.proofs.EntryLaws.{stall_stays, licence_shown, stock_shown, sale_shown, stock_sale_shown}
use Rattle.broker_stalls.proofs.law.stalls_follow_entries.Goals as goal

pub returns : goal.returns
returns c = record { others = stall_stays; licence = licence_shown; stock = stock_shown; licensed = sale_shown; sale = stock_sale_shown }
