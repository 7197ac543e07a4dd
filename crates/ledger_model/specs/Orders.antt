-- What a draw asks for.
use Rattle.std.specs.Prelude.{ℕ, List, Option, Some, None, option_map, unwrap_or}
use Rattle.mc_requests.specs.Errands.{Errand, draw, errand_of}

-- so much out of an account, under a number that rises from draw to draw of the account
pub record Order : Type 0 where
  pub account : List ℕ
  pub order : ℕ
  pub amount : ℕ

abbrev pub as_order : Option Errand → Option Order
as_order (Some (draw account order amount)) = Some (record { account = account; order = order; amount = amount })
as_order _ = None

-- the draw that a target asks for, where it is the text of one
abbrev pub order_of : List ℕ → Option Order
order_of target = as_order (errand_of target)

-- how much a draw asks for
abbrev pub order_amount : Option Order → ℕ
order_amount order = unwrap_or (option_map (λ o. o.amount) order) 0
