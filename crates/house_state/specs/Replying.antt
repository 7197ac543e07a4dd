-- What replies are made of.
use Rattle.std.specs.Prelude.{◌≢◌, ◌<◌, ◌≤◌, IsTrue, length}
use Rattle.mc_records.specs.declared.ranges.TheConstants.{MOST_CONTENTS}
use Rattle.mc_requests.specs.declared.refusal.Refusal.{Refusal}
use Rattle.mc_requests.specs.Refusals.{status_of}
use Rattle.millicent_http.specs.ReplyHeads.{is_status}
use Rattle.house_state.specs.declared.offer.Body.{Body}

-- the refusal is one that a site replies with
abbrev pub IsOfSite : Refusal → Type 0
IsOfSite f = IsTrue (is_status (status_of f)) × (status_of f ≢ 200)

-- what a reply may bring: the kind of its contents is below 3, and they have at most 65,536 bytes
pub record AreContents (b : Body) : Type 0 where
  pub kind : b.kind < 3
  pub short : length b.bytes.now ≤ MOST_CONTENTS
