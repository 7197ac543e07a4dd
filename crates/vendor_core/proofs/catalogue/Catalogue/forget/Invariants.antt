use Rattle.std.proofs.Common.{◌≡◌, ℕ, ◌+◌, length}
use Rattle.ledger_model.specs.Histories.{History}
use Rattle.house_state.specs.Trade.{IsKeptFrom}
use Rattle.vendor_core.specs.Catalogue.{CatalogueRepresents, HasEdition}
use Rattle.vendor_core.proofs.catalogue.Catalogue.forget.Given as goal

abbrev pub invariant-loop : goal.invariant-loop
invariant-loop l =
    ((h : History) → CatalogueRepresents l.initial.self h → CatalogueRepresents l.self h)
    × ((h : History) (n : ℕ) → CatalogueRepresents l.initial.self h → IsKeptFrom h l.kept_from n → HasEdition l.initial.self n → HasEdition l.self n)
    × (length l.self.replaced.items + l.counter ≡ length l.initial.self.replaced.items)
