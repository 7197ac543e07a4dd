-- What encodes a lawful history of a site has no fault of a book.
use Rattle.std.proofs.Common.{◌≡◌, ℕ, List, [], ◌∷◌, Some, subst}
use Rattle.ledger_model.specs.Histories.{History}
use Rattle.ledger_model.specs.Houses.{site_kind}
use Rattle.mc_records.specs.Following.{AllFollowBy}
use Rattle.ledger_model.specs.Lawful.{IsLawful}
use Rattle.house_state.specs.Learning.{Test, AllPass, MayEnter}
use Rattle.house_state.proofs.PartLaws.{all_enter}
use Rattle.scrip_journal.specs.Layout.{Encodes}
use Rattle.scrip_journal.specs.Causes.{Only}
use Rattle.scrip_journal.proofs.Unique.{stands_read}
use Rattle.house_opening.specs.Opening.{IsUnlawfulAt, IsOfOther}
use Rattle.house_opening.proofs.Beginnings.{kind_tells}
use Rattle.command_status.proofs.OpenLaws as laws
use Rattle.operator_command.specs.Operations.{full}

all_of : (passes : Test) (h : History) → IsLawful full h → AllPass passes h → AllFollowBy (MayEnter passes full) [] h
all_of passes [] lawful pass = absurd lawful
all_of passes (e ∷ es) lawful pass = all_enter passes full [] (e ∷ es) lawful pass

-- no entry of it breaks
pub not_unlawful : (passes : Test) (kind : ℕ) (h : History) (bytes : List ℕ) (place : ℕ) → Encodes h bytes → IsLawful full h → AllPass passes h → IsUnlawfulAt passes full kind bytes place → ⊥
not_unlawful passes kind h bytes place st lawful pass unlawful =
    laws.not_unlawful (MayEnter passes full) (Only kind) h bytes place st (λ empty. subst (λ (g : History). IsLawful full g) empty lawful) (all_of passes h lawful pass) unlawful

-- it is of no other kind
pub not_of_other : (kind : ℕ) (h : History) (bytes : List ℕ) → Encodes h bytes → site_kind h ≡ Some kind → IsOfOther kind bytes → ⊥
not_of_other kind h bytes st of_kind other =
    let read = stands_read h bytes st in
    kind_tells kind h bytes of_kind (record { fits = read.fits; most = read.most; begins = (read.rest, read.shape) }) other
