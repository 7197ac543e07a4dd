-- How a shop opens.
use Rattle.std.specs.Prelude.{◌≡◌, ℕ, true, [], ◌∷◌, Some, Ok}
use Rattle.mc_records.specs.Entry.{Entry, Site, AddTerms, Goods}
use Rattle.ledger_model.specs.Histories.{History}
use Rattle.ledger_model.specs.Answer.{fitted}
use Rattle.house_state.specs.Learning.{MayEnter, untested}
use Rattle.house_core.specs.BenchView.{BenchView}
use Rattle.house_core.specs.Bench.{IsHouse, IsTallied, house_time, limits_of, tally_of, windows_of}
use Rattle.house_state.specs.LiveWindows.{AreUsed}
use Rattle.house_core.specs.Tallies.{no_tally}
use Rattle.house_core.specs.Session.{State}
use Rattle.vendor_core.specs.declared.shelf.Shelf.{Shelf}
use Rattle.vendor_core.specs.Shelf.{shelf_view}
use Rattle.scrip_form.specs.Issuing.{Issuing}
use Rattle.operator_command.specs.Operations.{full}
use Rattle.site_words.specs.Words.{Shop}
use Rattle.vendor_commands.specs.declared.shop.TheConstants.{KEEP, LIFE, PERIOD}

-- the terms of an issuer of the shop, which are those of issuer 0 and of issuer 1 alike
abbrev pub terms_of : Shop → ℕ → Issuing
terms_of shop issuer = record { issuer = issuer; period = PERIOD; life = LIFE; scrip = shop.secret ∷ []; customer = shop.secret ∷ [] }

-- A shop is founded at moment 0 as a vendor's site, with the clear flag and a keeping time of 600
-- seconds.
abbrev pub founding : Shop → Entry
founding shop = Site 0 0 shop.name (Some (record { keep = KEEP; fee = 0; clear = true; terms = terms_of shop 0 }))

-- it takes scrip of issuer 1 beside its own
abbrev pub licence : Shop → Entry
licence shop = AddTerms 0 (terms_of shop 1)

-- and puts its goods on sale
abbrev pub shop_goods : Shop → Entry
shop_goods shop = Goods 0 shop.target shop.price 0 shop.contents

-- the history of a shop that just opened
abbrev pub opening : Shop → History
opening shop = founding shop ∷ licence shop ∷ shop_goods shop ∷ []

-- with the house time 0
abbrev pub opened : Shop → State
opened shop = record { history = opening shop; time = 0 }

-- a house of the trade of a vendor represents a history
abbrev pub IsVendor : BenchView Shelf → History → Type 0
IsVendor b h = IsHouse shelf_view b h

-- a house that just opened, with this history: it has served nothing
pub record IsOpen (b : BenchView Shelf) (h : History) : Type 0 where
  pub house : IsVendor b h
  pub time : house_time b ≡ 0
  pub limits : limits_of b ≡ full
  pub used : AreUsed (windows_of b)
  pub tally : tally_of b ≡ no_tally
  pub within : IsTallied b

-- an entry may be entered behind a history, and fits
pub record ComesNext (h : History) (e : Entry) : Type 0 where
  pub may : MayEnter untested full h e
  pub fits : fitted h full e ≡ Ok e
