-- What there is to do where an issuer of a vendor is to be moved to the second version of scrip.
use Rattle.std.specs.Prelude.{ℕ, ◌==◌, nat_lt, if◌then◌else◌, List, Option, Some, None}
use Rattle.scrip_form.specs.Issuing.{Issuing, epoch}
use Rattle.mc_requests.specs.declared.refusal.Refusal.TheVariants.{NoTerms, VersionSet, TooEarly}
use Rattle.mc_records.specs.Entry.{Upgrade}
use Rattle.ledger_model.specs.Histories.{History}
use Rattle.ledger_model.specs.Houses.{upgrade_in}
use Rattle.ledger_model.specs.Stock.{upgrade_terms}
use Rattle.house_core.specs.Tasks.{Task, Add, Stays, Refuse}

-- It is refused with 71 NoTerms where the house has no terms of the issuer, with 72 VersionSet where the issuer was moved
-- from another epoch on, and with 73 TooEarly where the epoch is not still to come; from the same epoch on it stays.
abbrev pub upgraded : ℕ → List ℕ → ℕ → ℕ → Option Issuing → Option ℕ → Task
upgraded t vendor issuer from None standing = Refuse NoTerms
upgraded t vendor issuer from (Some terms) (Some e) = if e == from then Stays else Refuse (VersionSet e)
upgraded t vendor issuer from (Some terms) None = if nat_lt (epoch terms t) from then Add (Upgrade t vendor issuer from) else Refuse (TooEarly (epoch terms t))

abbrev pub upgrade_task : History → ℕ → List ℕ → ℕ → ℕ → Task
upgrade_task h t vendor issuer from = upgraded t vendor issuer from (upgrade_terms h vendor issuer) (upgrade_in h vendor issuer)
