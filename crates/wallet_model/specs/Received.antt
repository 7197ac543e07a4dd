-- The reply text of a reply as a wallet read it.
use Rattle.std.specs.Prelude.{ℕ, List, ◌++◌, codes, decimal}
use Rattle.mc_requests.specs.Replies.{or_dash}
use Rattle.millicent_http.specs.Received.{Received}

-- up to and with its line feed, of the values as they stand in the reply
abbrev pub line_read : Received → List ℕ
line_read r = decimal r.status ++ codes " " ++ or_dash r.refusal ++ codes " " ++ r.price ++ codes " " ++ r.change ++ codes "\n"
