-- Whether an identity is new in stock.
use Rattle.std.specs.Prelude.{ℕ, Bool, true, not, ◌||◌, ◌==◌, List, Option, Some, None, option_map}
use Rattle.std.specs.List.{list_any}
use Rattle.mc_records.specs.Entry.{Held}
use Rattle.ledger_model.specs.Stock.{held_piece}

-- the identity of a held piece
abbrev pub held_id : Held → Option ℕ
held_id held = option_map (λ p. p.id) (held_piece held)

-- whether an identity, where there is one, stands neither among those before it nor among the known ones
abbrev pub is_new : List ℕ → List ℕ → Option ℕ → Bool
is_new before known None = true
is_new before known (Some id) = not (list_any (λ k. k == id) before || list_any (λ k. k == id) known)
