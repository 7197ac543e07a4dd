-- A record of the program as an entry.
use Rattle.std.specs.Prelude.{◌≡◌, ℕ, List, option_map, Result, Ok, Err}
use Rattle.std.specs.Borrow.{Bor}
use Rattle.mc_records.specs.declared.record.Record.{Record}
use Rattle.mc_records.specs.declared.record.Record.TheVariants as records
use Rattle.mc_records.specs.declared.record.RecordDeed.{RecordDeed}
use Rattle.mc_records.specs.declared.record.RecordDeed.TheVariants as deeds
use Rattle.mc_records.specs.declared.record.SiteTerms.{SiteTerms}
use Rattle.mc_records.specs.declared.record.RecordFault.{RecordFault}
use Rattle.mc_records.specs.Entry.{Deed, goods_deed, sale, credit, House, Held, Entry, Site, AddTerms, Goods, Accept, Mint, Account, Deposit, Withdraw, Draw, Licence, Stock, Got, Pend, Done, Refused, Upgrade, Switch, Note}
use Rattle.mc_records.specs.PieceViews.{pieces_of}
use Rattle.mc_records.specs.TermsViews.{issuing_of}
use Rattle.mc_requests.specs.Requests.{seen}

abbrev pub deed_of : RecordDeed → Deed
deed_of deeds.Goods = goods_deed
deed_of (deeds.Sale stock id) = sale stock id
deed_of (deeds.Credit balance) = credit balance

abbrev pub house_of : SiteTerms → House
house_of h = record { keep = h.keep; fee = h.fee; clear = h.clear; terms = issuing_of h.terms }

-- a text and its secret
abbrev pub held_of : Bor (List ℕ) × List ℕ → Held
held_of p = record { text = p.0.now; secret = p.1 }

-- the entry, without where its texts lie in memory
abbrev pub entry : Record → Entry
entry (records.Site m kind name house) = Site m kind name.now (option_map house_of house)
entry (records.Terms m terms) = AddTerms m (issuing_of terms)
entry (records.Goods m target price kind contents) = Goods m target.now price kind contents.now
entry (records.Accept m scrip target sign price change deed) = Accept m scrip.now target.now sign price change (deed_of deed)
entry (records.Mint m reference count value first) = Mint m reference.now count value first
entry (records.Account m name key) = Account m name.now key
entry (records.Deposit m name amount reference) = Deposit m name.now amount reference.now
entry (records.Withdraw m name amount reference) = Withdraw m name.now amount reference.now
entry (records.Draw m target sign drawn) = Draw m target.now sign drawn
entry (records.Licence m vendor terms) = Licence m vendor.now (issuing_of terms)
entry (records.Stock m vendor pieces) = Stock m vendor.now (pieces_of pieces)
entry (records.Got m pieces) = Got m (pieces_of pieces)
entry (records.Pend m ask peer target scrip secret) = Pend m ask peer.now target.now (seen scrip) secret
entry (records.Done m number price change got) = Done m number price (seen change) (option_map held_of got)
entry (records.Refused m number refusal) = Refused m number refusal
entry (records.Upgrade m vendor issuer from) = Upgrade m vendor.now issuer from
entry (records.Switch m chain) = Switch m chain
entry (records.Note m tag bytes) = Note m tag.now bytes.now

-- what reading a payload answers, seen as an entry or as the place of a fault
abbrev pub GivesEntry : Result Record RecordFault → Result Entry ℕ → Type 0
GivesEntry (Ok r) read = read ≡ Ok (entry r)
GivesEntry (Err fault) read = read ≡ Err fault.place
