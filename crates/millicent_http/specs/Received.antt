-- A reply as it is received.
use Rattle.std.specs.Prelude.{ℕ, List, Option}

-- a reply: its status, the values of its Millicent fields, and its contents
pub record Received : Type 0 where
  pub status : ℕ
  pub refusal : Option (List ℕ)
  pub price : List ℕ
  pub change : List ℕ
  pub sign : List ℕ
  pub contents : List ℕ
