-- A book that is read as that of a house, and else as that of a wallet.
use Rattle.std.proofs.Common.{◌≡◌, inr, ℕ, zero, suc, List, [], Option, Err, refl, arith}
use Rattle.mc_records.specs.Entry.{House, Entry, Site, Fits, SiteFits}
use Rattle.ledger_model.specs.Houses.{IsHouseKind}
use Rattle.scrip_journal.specs.Causes.{Only, IsOfOtherKind, IsOfOther}
use Rattle.scrip_journal.proofs.Beginnings.{first_tells}
use Rattle.scrip_journal.specs.declared.fault.HouseFault.{HouseFault}
use Rattle.scrip_journal.specs.declared.fault.HouseFault.TheVariants.{NotJournal, BadRecord, BadChain, Unlawful, WrongKind, NotEmpty, Disk, NoMemory}
use Rattle.audit_cmd.specs.Reading.{ReadsWallet, ReadsBook}

-- a site is a house or a wallet
kind_is : (kind : ℕ) (house : Option House) → SiteFits kind house → (IsHouseKind kind → ⊥) → (kind ≡ 2 → ⊥) → ⊥
kind_is zero house fits no_house no_wallet = no_house (omega (arith))
kind_is (suc zero) house fits no_house no_wallet = no_house (omega (arith))
kind_is (suc (suc zero)) house fits no_house no_wallet = no_wallet refl
kind_is (suc (suc (suc k))) house fits no_house no_wallet = fits

first_is : (e : Entry) → Fits e → IsOfOtherKind IsHouseKind e → IsOfOtherKind (Only 2) e → ⊥
first_is (Site m kind name house) fits no_house no_wallet = kind_is kind house fits.house no_house no_wallet
first_is e fits no_house no_wallet = absurd no_house

pub of_no_kind : (bytes : List ℕ) → IsOfOther IsHouseKind bytes → IsOfOther (Only 2) bytes → ⊥
of_no_kind bytes a b = first_tells (Only 2) a.first [] bytes a.begins (first_is a.first a.begins.fits.0 a.other) b

-- ---- what is answered

pub wallet_fault : {D : Type 0} (bytes : List ℕ) (f : HouseFault D) → IsOfOther IsHouseKind bytes → ReadsWallet {D = D} bytes (Err f) → ReadsBook {D = D} bytes (Err f)
wallet_fault bytes (NotJournal d) other read = read
wallet_fault bytes (BadRecord d place) other read = inr read
wallet_fault bytes (BadChain d place stood computed) other read = inr read
wallet_fault bytes (Unlawful d place) other read = inr read
wallet_fault bytes (WrongKind d) other read = of_no_kind bytes other read
wallet_fault bytes (NotEmpty d count) other read = read
wallet_fault bytes (Disk d) other read = tt
wallet_fault bytes (NoMemory d) other read = tt
