use Rattle.house_state.proofs.house_state.HouseState.make_room.Goals as goal

pub returns-in-Scrip-clause-used : goal.returns-in-Scrip-clause-used
returns-in-Scrip-clause-used c = rw c.in-Scrip.is c.reserve_piece.ensures.used
