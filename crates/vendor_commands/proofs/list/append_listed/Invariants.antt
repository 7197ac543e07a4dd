use Rattle.std.proofs.Common.{◌≡◌, ◌++◌, map, drop}
use Rattle.std.specs.Prelude.{flat_map}
use Rattle.ledger_model.specs.Histories.{History}
use Rattle.vendor_core.specs.Shelf.{ShelfRepresents, on_sale_in}
use Rattle.vendor_commands.specs.Operations.{listed_line}
use Rattle.vendor_commands.proofs.list.append_listed.Given as goal

abbrev pub invariant-loop-target : goal.invariant-loop-target
invariant-loop-target l = (h : History) → ShelfRepresents l.shelf h
    → l.lines.items ++ flat_map (λ t. listed_line t (on_sale_in h t)) (map (λ t. t.items) (drop l.target-index l.target-items)) ≡ l.fn.lines.items ++ flat_map (λ t. listed_line t (on_sale_in h t)) (map (λ t. t.items) l.target-items)
