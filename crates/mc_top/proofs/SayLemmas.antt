-- A line that could not be said.
use Rattle.std.proofs.Common.{◌<◌, List, [], ◌∷◌, ℕ, false, length, arith}
use Rattle.mc_outside.specs.LinkView.{LinkView}
use Rattle.mc_top.specs.Saying.{SaidInPart, Says}

pub said_in_part : (line : List ℕ) (v w : LinkView) → Says line false v w → SaidInPart line v w
said_in_part [] v w never = absurd never
said_in_part (x ∷ line) v w part = part

-- it has bytes
pub not_said : (line : List ℕ) (v w : LinkView) → 0 < length line → SaidInPart line v w → Says line false v w
not_said [] v w some part = absurd (omega (arith, some))
not_said (x ∷ line) v w some part = part
