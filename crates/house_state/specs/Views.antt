-- What the values of a trade mean in the ledger.
use Rattle.std.specs.Prelude.{ℕ, false}
use Rattle.kept_replies.specs.declared.deed.Deed.{Deed}
use Rattle.kept_replies.specs.declared.deed.Deed.TheVariants as kept
use Rattle.mc_records.specs.Entry as entries
use Rattle.ledger_model.specs.declared.numbers.TheConstants.{VENDOR_KIND, BROKER_KIND}
use Rattle.ledger_model.specs.Stages as ledger
use Rattle.ledger_model.specs.Replies.{Contents}
use Rattle.house_state.specs.declared.offer.SiteKind.{SiteKind}
use Rattle.house_state.specs.declared.offer.SiteKind.TheVariants.{Vendor, Broker, Wallet}
use Rattle.house_state.specs.declared.offer.Offer.{Offer}
use Rattle.house_state.specs.declared.offer.Body.{Body}

-- the number of a kind of site
abbrev pub kind_number : SiteKind → ℕ
kind_number Vendor = VENDOR_KIND
kind_number Broker = BROKER_KIND
kind_number Wallet = 2

-- The deed of an Accept entry that is kept so. It is not asked of a draw, which makes no Accept entry; an offer
-- with such a deed would be a sale that took nothing out of stock.
abbrev pub entry_deed : Deed → entries.Deed
entry_deed (kept.Goods number) = entries.goods_deed
entry_deed (kept.Sale piece cert secret stock) = entries.sale stock piece.id
entry_deed (kept.Credit balance) = entries.credit balance
entry_deed (kept.Draw piece cert secret) = entries.sale false piece.id

-- an offer, as the ledger has it
abbrev pub offer_of : Offer → ledger.Offer
offer_of o = record { price = o.price; deed = entry_deed o.deed }

-- what a reply brings, without where its bytes lie in memory
abbrev pub contents_of : Body → Contents
contents_of b = record { kind = b.kind; bytes = b.bytes.now }
