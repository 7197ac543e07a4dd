-- What is kept of a book, by its history.
use Rattle.std.specs.Prelude.{◌≡◌, ℕ, ◌+◌, List, map, filter_map, flat_map, Some}
use Rattle.mc_records.specs.Entry.{Entry}
use Rattle.ledger_model.specs.Histories.{History, time}
use Rattle.ledger_model.specs.Houses.{site_name, site_kind, fee, terms_in}
use Rattle.ledger_model.specs.Pieces.{own_out}
use Rattle.ledger_model.specs.Stock.{sales}
use Rattle.ledger_model.specs.Sums.{amount_in, amount_out, amount_credited, amount_drawn, fee_of, price_paid, paid_in, paid_out, all_credited, all_drawn, fees, takings}
use Rattle.audit_model.specs.Parts.{part_of}
use Rattle.audit_model.specs.declared.part.Part.{Part}
use Rattle.audit_sums.specs.declared.rows.Acceptance.{Acceptance}
use Rattle.audit_sums.specs.declared.rows.Run.{Run}
use Rattle.audit_model.specs.declared.sold.Sold.{Sold}
use Rattle.audit_sums.specs.declared.rows.Licence.{Licence}
use Rattle.audit_sums.specs.declared.rows.Stocked.{Stocked}
use Rattle.audit_sums.specs.declared.till.Till.{Till}
use Rattle.audit_sums.specs.declared.pieces.Pieces.{Pieces}
use Rattle.audit_sums.specs.declared.market.Market.{Market}
use Rattle.audit_sums.specs.declared.audit_sums.BookSums.{BookSums}
use Rattle.audit_sums.specs.Rows.{acceptance_of, run_of, licence_of, stocked_of}
use Rattle.audit_model.specs.Sales.{sale_by}

-- ---- money

-- the money of a till after one more entry, where a sale has this fee
pub record Counts (old new : Till) (fee : ℕ) (e : Entry) : Type 0 where
  pub paid_in : new.paid_in ≡ old.paid_in + amount_in e
  pub paid_out : new.paid_out ≡ old.paid_out + amount_out e
  pub credited : new.credited ≡ old.credited + amount_credited e
  pub drawn : new.drawn ≡ old.drawn + amount_drawn e
  pub fees : new.fees ≡ old.fees + fee_of fee e
  pub takings : new.takings ≡ old.takings + price_paid e

-- a till has the sums of a history
pub record ShowsMoney (t : Till) (h : History) : Type 0 where
  pub paid_in' : paid_in h ≡ t.paid_in
  pub paid_out' : paid_out h ≡ t.paid_out
  pub credited' : all_credited h ≡ t.credited
  pub drawn' : all_drawn h ≡ t.drawn
  pub fees' : fees h ≡ t.fees
  pub takings' : takings h ≡ t.takings

-- ---- pieces

-- the pieces that a history accepted, handed out in the house's own series, and minted
pub record ShowsPieces (p : Pieces) (h : History) : Type 0 where
  pub accepted' : p.accepted.items ≡ filter_map acceptance_of h
  pub own_out' : p.own_out.items ≡ map part_of (own_out h)
  pub minted' : p.minted.items ≡ filter_map run_of h

-- what a history sold, its licences and its stock
pub record ShowsMarket (m : Market) (h : History) : Type 0 where
  pub sales' : map sale_by m.sales.items ≡ sales h
  pub licences' : m.licences.items ≡ filter_map licence_of h
  pub stock' : m.stock.items ≡ flat_map stocked_of h

-- ---- all of it

-- what was learned of a book is what its history says
pub record SumsRepresent (s : BookSums) (h : History) : Type 0 where
  pub name' : site_name h ≡ s.name
  pub kind' : site_kind h ≡ Some s.kind
  pub fee' : fee h ≡ s.fee
  pub terms' : terms_in h 0 ≡ Some s.terms
  pub time' : time h ≡ s.time
  pub money : ShowsMoney s.till h
  pub pieces' : ShowsPieces s.pieces h
  pub market' : ShowsMarket s.market h

-- ---- what callers see

abbrev pub name_of : BookSums → List ℕ
name_of s = s.name

abbrev pub kind_of : BookSums → ℕ
kind_of s = s.kind

abbrev pub time_of : BookSums → ℕ
time_of s = s.time

abbrev pub till_of : BookSums → Till
till_of s = s.till

abbrev pub accepted_of : BookSums → List Acceptance
accepted_of s = s.pieces.accepted.items

abbrev pub own_out_of : BookSums → List Part
own_out_of s = s.pieces.own_out.items

abbrev pub runs_of : BookSums → List Run
runs_of s = s.pieces.minted.items

abbrev pub sales_of : BookSums → List Sold
sales_of s = s.market.sales.items

abbrev pub licences_of : BookSums → List Licence
licences_of s = s.market.licences.items

abbrev pub stock_rows_of : BookSums → List Stocked
stock_rows_of s = s.market.stock.items
