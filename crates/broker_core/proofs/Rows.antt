-- What there is to do for licences, moved issuers and stock, by computation.
use Rattle.std.proofs.Common.{◌≡◌, [], ◌∷◌, ◌++◌, ℕ, List, Some, None, refl}
use Rattle.std.specs.Prelude.{codes}
use Rattle.scrip_form.specs.Issuing.{Issuing}
use Rattle.mc_requests.specs.declared.refusal.Refusal.TheVariants.{BadInput, LicenceTwice, NoTerms, VersionSet, TooEarly}
use Rattle.mc_records.specs.Entry.{Site, Licence, Upgrade}
use Rattle.ledger_model.specs.Histories.{History}
use Rattle.ledger_model.specs.declared.numbers.TheConstants.{BROKER_KIND}
use Rattle.ledger_model.specs.Stock.{upgrade_terms}
use Rattle.house_core.specs.Tasks.{Add, Stays, Refuse}
use Rattle.broker_core.specs.Tasks.{first_twice, licence_task, upgrade_licence_task, stock_task}

-- ---- 57 StockTwice: the lines are tested in their order, each against the stock and all other lines

-- for the lines x, y, x the answer is x, also where y was in stock
twice_before_known : first_twice (2 ∷ []) (1 ∷ 2 ∷ 1 ∷ []) ≡ Some 1
twice_before_known = refl

known_before_twice : first_twice (2 ∷ []) (2 ∷ 1 ∷ 1 ∷ []) ≡ Some 2
known_before_twice = refl

all_new : first_twice (3 ∷ []) (1 ∷ 2 ∷ []) ≡ None
all_new = refl

-- ---- 59 LicenceTwice

abbrev shop : List ℕ
shop = codes "shop.example"

abbrev terms : ℕ → ℕ → Issuing
terms issuer life = record { issuer = issuer; period = 4096; life = life; scrip = codes "s" ∷ []; customer = codes "c" ∷ [] }

abbrev h : History
h = Licence 1000000 shop (terms 7 8192) ∷ []

first_licence : licence_task h 1000001 (codes "news.example") (terms 7 8192) ≡ Add (Licence 1000001 (codes "news.example") (terms 7 8192))
first_licence = refl

same_licence : licence_task h 1000001 shop (terms 7 8192) ≡ Stays
same_licence = refl

other_life : licence_task h 1000001 shop (terms 7 8191) ≡ Refuse (LicenceTwice 7)
other_life = refl

other_issuer : licence_task h 1000001 shop (terms 8 8192) ≡ Refuse (LicenceTwice 7)
other_issuer = refl

-- ---- 71 NoTerms, 72 VersionSet, 73 TooEarly: an issuer is moved once, from an epoch on that is still to come. That of
-- the moment is 244.

abbrev bank : History
bank = Site 1000000 BROKER_KIND (codes "bank.example") None ∷ h

no_licence : upgrade_licence_task bank 1000001 (codes "news.example") 245 ≡ Refuse NoTerms
unfolding upgrade_terms
no_licence = refl

not_to_come : upgrade_licence_task bank 1000001 shop 244 ≡ Refuse (TooEarly 244)
unfolding upgrade_terms
not_to_come = refl

next_epoch : upgrade_licence_task bank 1000001 shop 245 ≡ Add (Upgrade 1000001 shop 7 245)
unfolding upgrade_terms
next_epoch = refl

-- whether it was moved is asked before the epoch
moved_before : upgrade_licence_task (bank ++ Upgrade 1000000 shop 7 245 ∷ []) 1000001 shop 244 ≡ Refuse (VersionSet 245)
unfolding upgrade_terms
moved_before = refl

-- ---- 53 BadInput

no_lines : stock_task h 1000001 shop [] ≡ Refuse (BadInput 0)
no_lines = refl
