-- What is counted of a history for its settlement.
use Rattle.std.specs.Prelude.{◌≡◌, ◌<◌, IfSome, vec_len, vec_capacity}
use Rattle.std.specs.Global.{Vec}
use Rattle.scrip_form.specs.Issuing.{Issuing}
use Rattle.mc_records.specs.Entry.{Entry}
use Rattle.ledger_model.specs.Histories.{History}
use Rattle.ledger_model.specs.Houses.{terms_of, all_terms}
use Rattle.settle_core.specs.Settlement.{AreInOrder}
use Rattle.counted_trade.specs.Series.{CountsSeries, HasRoom}
use Rattle.counted_trade.specs.Licences.{LicencesStand, HasRoomToLicense}
use Rattle.counted_trade.specs.Notes.{StatedStand, PaidStand, HasRoomToState, HasRoomToPay}
use Rattle.counted_trade.specs.declared.counts.Counts.{Counts}

-- the terms of all issuers, the licences, the sums of the series, and what was stated and paid are those of the
-- history, whose notes are in order
pub record CountsRepresent (c : Counts) (h : History) : Type 0 where
  pub terms' : all_terms h ≡ c.terms.items
  pub licences' : LicencesStand c.licences h
  pub sums' : CountsSeries c.sums h
  pub stated' : StatedStand c.stated h
  pub paid' : PaidStand c.paid h
  pub in_order : AreInOrder h

-- there is room for the terms that an entry brings
abbrev pub HasRoomForTerms : Vec Issuing → Entry → Type 0
HasRoomForTerms terms e = IfSome (terms_of e) (λ t. vec_len terms < vec_capacity terms)

-- there is room for all that an entry adds
pub record HasRoomToCount (c : Counts) (e : Entry) : Type 0 where
  pub terms' : HasRoomForTerms c.terms e
  pub licences' : HasRoomToLicense c.licences e
  pub sums' : HasRoom c.sums e
  pub stated' : HasRoomToState c.stated e
  pub paid' : HasRoomToPay c.paid e
