-- What comes first in the book of a house.
use Rattle.std.specs.Prelude.{[]}
use Rattle.mc_requests.specs.declared.limits.Limits.{Limits}
use Rattle.mc_records.specs.Entry.{Entry, Site, Switch}
use Rattle.mc_records.specs.Chains.{TellsChain}
use Rattle.ledger_model.specs.Histories.{History}
use Rattle.ledger_model.specs.Lawful.{IsAllowed, IsHouseSite}
use Rattle.ledger_model.proofs.KindLaws.{first_founds}
use Rattle.book_opening.specs.Opener.{IsSite}
use Rattle.house_state.specs.Learning.{Test, MayEnter}

is_site : (e : Entry) → IsHouseSite e → IsSite e
is_site (Site m k name house) founds = tt
is_site e founds = absurd founds

-- only a Site entry may
pub site_first : (passes : Test) (limits : Limits) (e : Entry) → MayEnter passes limits [] e → IsSite e
site_first passes limits e may = is_site e (first_founds limits e may.follows)

-- a Switch that may follow tells the chain of the entries before it
pub tells_chain : (passes : Test) (limits : Limits) (h : History) (e : Entry) → MayEnter passes limits h e → TellsChain h e
tells_chain passes limits h e may = tells e may.follows.allowed
  where
    tells : (x : Entry) → IsAllowed limits h x → TellsChain h x
    tells (Switch m c) allowed = allowed.2
    tells x allowed = tt
