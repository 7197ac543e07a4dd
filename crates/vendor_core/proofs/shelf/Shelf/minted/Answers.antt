use Rattle.std.proofs.Common.{List, slice_get, sym, ap, ◌∙◌}
use Rattle.std.specs.Prelude.{is_some}
use Rattle.vendor_core.specs.declared.minted.Minting.{Minting}
use Rattle.vendor_core.proofs.ListLemmas.{item_at}
use Rattle.vendor_core.proofs.ShelfLaws.{reference_is_minted}
use Rattle.vendor_core.proofs.shelf.Shelf.minted.Goals as goal

pub returns-in-Some : goal.returns-in-Some
returns-in-Some c h stands =
    reference_is_minted _ _ _ _ _ h c.args.reference.now c.in-Some.place _ stands.0 (sym c.in-Some.ensures) (c.copied.ensures ∙ item_at _ _ _ c.get-in-Some.ensures.lookup ∙ ap (λ (xs : List Minting). slice_get xs c.in-Some.place) c.deref.ensures.value)

pub returns-in-None : goal.returns-in-None
returns-in-None c h stands = stands.0.all_references c.args.reference.now ∙ ap is_some (sym c.in-None.ensures)
