-- What a request asks, without where its bytes lie in memory.
use Rattle.std.specs.Prelude.{ℕ, List, Option, Some, None}
use Rattle.std.specs.Borrow.{Bor}
use Rattle.mc_requests.specs.declared.request.Request.{Request}

-- a text that may be there
abbrev pub seen : Option (Bor (List ℕ)) → Option (List ℕ)
seen (Some text) = Some text.now
seen None = None

pub record Asked : Type 0 where
  pub target : List ℕ
  pub scrip : Option (List ℕ)
  pub sign : Option (List ℕ)

abbrev pub asked_of : Request → Asked
asked_of q = record { target = q.target.now; scrip = seen q.scrip; sign = seen q.sign }
