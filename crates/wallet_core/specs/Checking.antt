-- What is told of a kept request and of a reply to it.
use Rattle.std.specs.Prelude.{◌≡◌, ℕ, ◌≤◌, List, take, Option, Some, None, Result, Ok, Err}
use Rattle.mc_requests.specs.declared.refusal.Refusal.{Refusal}
use Rattle.wallet_model.specs.Requests.{Pending}
use Rattle.wallet_model.specs.Asks.{request_bytes}
use Rattle.millicent_http.specs.Received.{Received}

-- a reply that settles the request of a number
pub record CheckedView : Type 0 where
  pub number : ℕ
  pub request : Pending
  pub reply : Received

-- nothing is in the way of a reply to the request of a number, or the refusal is told
abbrev pub Checks : Option Refusal → ℕ → Pending → Received → Result CheckedView Refusal → Type 0
Checks None n p r (Ok c) = c ≡ record { number = n; request = p; reply = r }
Checks (Some f) n p r (Err g) = g ≡ f
Checks _ n p r _ = ⊥

-- the bytes of a request stand at the front; there are none exactly where there is no such request
abbrev pub IsWritten : Option Pending → List ℕ → Option ℕ → Type 0
IsWritten None out result = result ≡ None
IsWritten (Some p) out (Some n) = (n ≤ 2048) × (take n out ≡ request_bytes p)
IsWritten (Some p) out None = ⊥
