-- Where the program stores the bytes of a reply. No clause of a public call cites this.
use Rattle.std.specs.Prelude.{ℕ, ◌+◌, ◌≤◌, List, length, slice_range}
use Rattle.mc_requests.specs.Requests.{Asked}
use Rattle.kept_replies.specs.Parts.{asked_in, entry_end, AreWithin}
use Rattle.kept_replies.specs.declared.body.Parts.{Parts}
use Rattle.kept_replies.specs.declared.body.Body.{Body}
use Rattle.kept_replies.specs.declared.body.Body.TheVariants.{Own, Shared}

abbrev pub body_parts : Body → Parts
body_parts (Own parts bytes) = parts
body_parts (Shared parts start block) = parts

abbrev pub body_bytes : Body → List ℕ
body_bytes (Own parts bytes) = bytes.value.items
body_bytes (Shared parts start block) = slice_range block.value.items start (start + parts.asked.sign)

abbrev pub body_asked : Body → Asked
body_asked b = asked_in (body_bytes b) (entry_end (body_parts b).entry) (body_parts b).asked

-- shared bytes lie within their buffer
abbrev pub AreShared : Body → Type 0
AreShared (Own parts bytes) = Unit {0}
AreShared (Shared parts start block) = start + parts.asked.sign ≤ length block.value.items

-- what holds of what is stored of a reply
pub record IsBody (b : Body) : Type 0 where
  pub shared : AreShared b
  pub within : AreWithin (body_bytes b) (body_parts b).asked (body_parts b).entry
