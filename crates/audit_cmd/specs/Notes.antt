-- An audit asks nothing of Notes: what may follow by the ledger may be entered where no Note is tested.
use Rattle.std.specs.Prelude.{[]}
use Rattle.mc_records.specs.Entry.{Entry}
use Rattle.mc_records.specs.Chains.{TellsChain}
use Rattle.mc_requests.specs.declared.limits.TheConstants.Limits.{FULL}
use Rattle.ledger_model.specs.Histories.{History}
use Rattle.ledger_model.specs.Lawful.{MayFollow}
use Rattle.book_opening.specs.Opener.{IsSite}
use Rattle.house_state.specs.Learning.{MayEnter, untested}
use Rattle.house_state.proofs.PartLaws.{every_passes}
use Rattle.house_opening.specs.First as first

enters : (h : History) (e : Entry) → MayFollow FULL h e → MayEnter untested FULL h e
enters h e may = record { follows = may; passed = every_passes h e }

-- only a Site entry may come first
pub site_first : (e : Entry) → MayFollow FULL [] e → IsSite e
site_first e may = first.site_first untested FULL e (enters [] e may)

-- a Switch that may follow tells the chain of the entries before it
pub tells_chain : (h : History) (e : Entry) → MayFollow FULL h e → TellsChain h e
tells_chain h e may = first.tells_chain untested FULL h e (enters h e may)
