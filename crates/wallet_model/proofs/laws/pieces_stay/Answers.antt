use Rattle.wallet_model.proofs.CameLaws.{pieces_stay, brought_stands, change_stands, came_once}
use Rattle.wallet_model.proofs.laws.pieces_stay.Goals as goal

pub returns-clause-stays : goal.returns-clause-stays
returns-clause-stays c = pieces_stay

pub returns-clause-brought : goal.returns-clause-brought
returns-clause-brought c = brought_stands

pub returns-clause-change : goal.returns-clause-change
returns-clause-change c = change_stands

pub returns-clause-once : goal.returns-clause-once
returns-clause-once c = came_once
