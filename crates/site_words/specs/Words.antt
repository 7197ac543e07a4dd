-- The values of the commands of a site: those of their parameters, in their order.
use Rattle.std.specs.Prelude.{ℕ, ◌≤◌, Bool, List, Option, length, IfSome}
use Rattle.mc_base.specs.declared.amount.TheConstants.Amount.{MOST}
use Rattle.mc_records.specs.declared.ranges.TheConstants.{MOST_CONTENTS}
use Rattle.scrip_form.specs.Texts.{IsName, IsTarget}
use Rattle.scrip_form.specs.Scrip.{IsCert}
use Rattle.scrip_form.specs.Issuing.{Issuing}
use Rattle.command_table.specs.Ranges.{AreTerms, IsWithin}
use Rattle.command_table.specs.Table.{form_of}
use Rattle.command_table.specs.Values.{ValuesOf}
use Rattle.command_table.specs.declared.table.CommandName.TheVariants as names
use Rattle.site_words.specs.Ranges.{IsKeepingTime}
use Rattle.site_words.specs.declared.operation.Licensing.{Licensing}
use Rattle.site_words.specs.declared.operation.Listing.{Listing}
use Rattle.site_words.specs.declared.operation.Minting.{Minting}
use Rattle.site_words.specs.declared.operation.Pricing.{Pricing}
use Rattle.site_words.specs.declared.operation.Upgrading.{Upgrading}
use Rattle.site_words.specs.declared.broker_operation.Inquiry.{Inquiry}
use Rattle.site_words.specs.declared.broker_operation.LicenceUpgrading.{LicenceUpgrading}
use Rattle.site_words.specs.declared.broker_operation.Opening.{Opening}
use Rattle.site_words.specs.declared.broker_operation.Movement.{Movement}
use Rattle.site_words.specs.declared.broker_operation.Stocking.{Stocking}
use Rattle.site_words.specs.declared.broker_operation.Taking.{Taking}
use Rattle.site_words.specs.declared.looking.Looking.{Looking}
use Rattle.site_words.specs.declared.serving.Playing.{Playing}
use Rattle.site_words.specs.declared.serving.Server.{Server}
use Rattle.site_words.specs.declared.settlement.Settling.{Settling}
use Rattle.site_words.specs.declared.settlement.Stating.{Stating}
use Rattle.site_words.specs.declared.switching.Switching.{Switching}
use Rattle.site_words.specs.declared.founder.BrokerFounder.{BrokerFounder}
use Rattle.site_words.specs.declared.founder.VendorFounder.{VendorFounder}

-- ---- a vendor

unfoldable pub listing_values : Listing → ValuesOf (form_of names.VendorGoods).parameters
unfolding form_of
listing_values l = (l.book, (l.target, (l.price, (l.kind, tt))))

unfoldable pub pricing_values : Pricing → ValuesOf (form_of names.VendorPrice).parameters
unfolding form_of
pricing_values p = (p.book, (p.target, (p.price, tt)))

unfoldable pub licensing_values : Licensing → ValuesOf (form_of names.VendorLicence).parameters
unfolding form_of
licensing_values l = (l.book, (l.issuer, (l.period, (l.life, (l.scrip, (l.customer, tt))))))

-- the terms that a licensing gives
abbrev pub licensed_terms : Licensing → Issuing
licensed_terms l = record { issuer = l.issuer; period = l.period; life = l.life; scrip = l.scrip; customer = l.customer }

unfoldable pub minting_values : Minting → ValuesOf (form_of names.VendorMint).parameters
unfolding form_of
minting_values m = (m.book, (m.count, (m.value, (m.reference, tt))))

unfoldable pub upgrading_values : Upgrading → ValuesOf (form_of names.VendorUpgrade).parameters
unfolding form_of
upgrading_values u = (u.book, (u.issuer, (u.from, tt)))

unfoldable pub stating_values : Stating → ValuesOf (form_of names.VendorStatement).parameters
unfolding form_of
stating_values s = (s.book, (s.issuer, (s.epoch, tt)))

-- ---- a broker

unfoldable pub opening_values : Opening → ValuesOf (form_of names.BrokerAccount).parameters
unfolding form_of
opening_values o = (o.book, (o.account, (o.key, tt)))

-- of `broker withdraw` likewise
unfoldable pub movement_values : Movement → ValuesOf (form_of names.BrokerDeposit).parameters
unfolding form_of
movement_values p = (p.book, (p.account, (p.amount, (p.reference, tt))))

unfoldable pub inquiry_values : Inquiry → ValuesOf (form_of names.BrokerBalance).parameters
unfolding form_of
inquiry_values i = (i.book, (i.account, tt))

unfoldable pub taking_values : Taking → ValuesOf (form_of names.BrokerLicence).parameters
unfolding form_of
taking_values t = (t.book, tt)

unfoldable pub stocking_values : Stocking → ValuesOf (form_of names.BrokerStock).parameters
unfolding form_of
stocking_values s = (s.book, (s.vendor, tt))

unfoldable pub licence_upgrading_values : LicenceUpgrading → ValuesOf (form_of names.BrokerUpgrade).parameters
unfolding form_of
licence_upgrading_values u = (u.book, (u.vendor, (u.from, tt)))

unfoldable pub settling_values : Settling → ValuesOf (form_of names.BrokerSettle).parameters
unfolding form_of
settling_values s = (s.book, tt)

-- ---- a site

-- of `broker chain` likewise
unfoldable pub switching_values : Switching → ValuesOf (form_of names.VendorChain).parameters
unfolding form_of
switching_values s = (s.book, tt)

-- of `vendor status`, `broker list` and `broker status` likewise
unfoldable pub looking_values : Looking → ValuesOf (form_of names.VendorList).parameters
unfolding form_of
looking_values l = (l.book, tt)

-- of `broker serve` likewise
unfoldable pub server_values : Server → ValuesOf (form_of names.VendorServe).parameters
unfolding form_of
server_values s = (s.book, (s.listen, (s.links, (s.door, tt))))

unfoldable pub playing_values : Playing → ValuesOf (form_of names.VendorPlay).parameters
unfolding form_of
playing_values p = (p.count, tt)

unfoldable pub vendor_founder_values : VendorFounder → ValuesOf (form_of names.VendorInit).parameters
unfolding form_of
vendor_founder_values f = (f.book, (f.name, (f.period, (f.life, (f.scrip, (f.customer, (f.keep, (f.clear, tt))))))))

unfoldable pub broker_founder_values : BrokerFounder → ValuesOf (form_of names.BrokerInit).parameters
unfolding form_of
broker_founder_values f = (f.book, (f.name, (f.period, (f.life, (f.scrip, (f.customer, (f.fee, (f.keep, (f.clear, tt)))))))))

-- What a site is founded with: its name, the period and the life of its series, its secrets of scrip and of customers, its
-- fee, its keeping time where the words say one, and whether it takes requests without a signature.
pub record Founder : Type 0 where
  pub name : List ℕ
  pub period : ℕ
  pub life : ℕ
  pub scrip : List (List ℕ)
  pub customer : List (List ℕ)
  pub fee : ℕ
  pub keep : Option ℕ
  pub clear : Bool

-- the terms of its own scrip, which are issuer 0's
abbrev pub own_terms : Founder → Issuing
own_terms founder = record { issuer = 0; period = founder.period; life = founder.life; scrip = founder.scrip; customer = founder.customer }

pub record IsFounder (founder : Founder) : Type 0 where
  pub name : IsName founder.name
  pub terms : AreTerms (own_terms founder)
  pub fee : founder.fee ≤ MOST
  pub keep : IfSome founder.keep IsKeepingTime

-- a vendor has no fee
abbrev pub vendor_founder : VendorFounder → Founder
vendor_founder f = record { name = f.name; period = f.period; life = f.life; scrip = f.scrip; customer = f.customer; fee = 0; keep = f.keep; clear = f.clear }

abbrev pub broker_founder : BrokerFounder → Founder
broker_founder f = record { name = f.name; period = f.period; life = f.life; scrip = f.scrip; customer = f.customer; fee = f.fee; keep = f.keep; clear = f.clear }

-- ---- a shop

-- A shop that sells one thing: its name, the target and the price of the goods, one secret of sixteen bytes, and the contents
-- that are sold.
pub record Shop : Type 0 where
  pub name : List ℕ
  pub target : List ℕ
  pub price : ℕ
  pub secret : List ℕ
  pub contents : List ℕ

pub record IsShop (shop : Shop) : Type 0 where
  pub name : IsName shop.name
  pub target : IsTarget shop.target
  pub price : IsWithin 1 MOST shop.price
  pub secret : IsCert shop.secret
  pub contents : length shop.contents ≤ MOST_CONTENTS

unfoldable pub shop_values : Shop → ValuesOf (form_of names.VendorOnce).parameters
unfolding form_of
shop_values s = (s.name, (s.target, (s.price, (s.secret, (s.contents, tt)))))
