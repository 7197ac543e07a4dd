-- What the versions of series keep.
use Rattle.std.proofs.Common.{◌≡◌, ℕ, List, [], ◌∷◌, ◌++◌, Option, None, refl, ap, ◌∙◌, append-nil}
use Rattle.std.specs.List.{cons_option}
use Rattle.std.proofs.lemmas.List.Elements.{filter_map-append}
use Rattle.mc_records.specs.Cells.{kind_of}
use Rattle.mc_records.specs.Entry.{Entry, Upgrade}
use Rattle.ledger_model.specs.declared.upgraded.Upgraded.{Upgraded}
use Rattle.ledger_model.specs.Histories.{History}
use Rattle.ledger_model.specs.Houses.{upgrade_of, upgrades_of, version_by, version}

-- an entry brings its Upgrade behind the others
pub upgrades-more : (h : History) (e : Entry) (vendor : List ℕ) → upgrades_of (h ++ e ∷ []) vendor ≡ upgrades_of h vendor ++ cons_option (upgrade_of vendor e) []
upgrades-more h e vendor = filter_map-append (upgrade_of vendor) h (e ∷ [])

-- one that is no Upgrade of the vendor leaves the versions of his series as they were
pub upgrades-same : (h : History) (e : Entry) (vendor : List ℕ) → upgrade_of vendor e ≡ None → upgrades_of (h ++ e ∷ []) vendor ≡ upgrades_of h vendor
upgrades-same h e vendor none =
    upgrades-more h e vendor ∙ ap (λ (o : Option Upgraded). upgrades_of h vendor ++ cons_option o []) none ∙ append-nil (upgrades_of h vendor)

no_upgrade : (e : Entry) (vendor : List ℕ) → (kind_of e ≡ 16 → ⊥) → upgrade_of vendor e ≡ None
no_upgrade (Upgrade m v issuer from) vendor other = absurd (other refl)
no_upgrade e vendor other = refl

-- an entry that is no Upgrade leaves the version of every series as it was
pub version-more : (h : History) (e : Entry) → (kind_of e ≡ 16 → ⊥) → version (h ++ e ∷ []) ≡ version h
version-more h e other = λ i vendor series. version_by (upgrades-same h e vendor (no_upgrade e vendor other) i) series
