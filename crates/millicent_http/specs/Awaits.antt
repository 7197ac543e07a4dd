-- What a reader waits for.
use Rattle.std.specs.Prelude.{◌≡◌, ℕ, ◌≤◌, List, ◌++◌, length}
use Rattle.millicent_http.specs.declared.reader.Awaited.{Awaited}
use Rattle.millicent_http.specs.declared.reader.Awaited.TheVariants.{Head, TooLarge, End, Fault}
use Rattle.millicent_http.specs.HeadEnds.{HasNoEnd, IsFirstEnd}
use Rattle.millicent_http.specs.Items.{max_head, EndsNoItem}
use Rattle.mc_outside.specs.LinkView.{LinkView, after_recv, after_eof, Failed}
use Rattle.millicent_http.specs.Takes.{WaitedFor}

-- these bytes came from the link, and are held behind the old ones
pub record Came (old : List ℕ) (before : LinkView) (new : List ℕ) (after : LinkView) : Type 0 where
  pub got : List ℕ
  pub held : new ≡ old ++ got
  pub link : after ≡ after_recv got before
  pub waited : WaitedFor old got

-- from the link before to the link after
abbrev pub Leads : Awaited → LinkView → LinkView → Type 0
Leads (Head end) before after = after ≡ before
Leads TooLarge before after = after ≡ before
Leads End before after = after ≡ after_eof before
Leads Fault before after = Failed before after

-- what the bytes held are then
abbrev pub Stops : Awaited → List ℕ → Type 0
Stops (Head end) bytes = IsFirstEnd bytes end
Stops TooLarge bytes = HasNoEnd bytes max_head × (length bytes ≡ max_head)
Stops End bytes = EndsNoItem bytes
Stops Fault bytes = EndsNoItem bytes

-- some bytes came, and the reader stopped where these bytes were held
pub record Awaits (old : List ℕ) (before : LinkView) (result : Awaited) (new : List ℕ) (after : LinkView) : Type 0 where
  pub got : List ℕ
  pub held : new ≡ old ++ got
  pub leads : Leads result (after_recv got before) after
  pub stops : Stops result new
  pub within : length new ≤ max_head
  pub few : length got ≤ max_head
  pub waited : WaitedFor old got
