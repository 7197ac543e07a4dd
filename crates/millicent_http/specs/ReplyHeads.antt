-- The values of a reply's head, without where they lie in memory.
use Rattle.std.specs.Prelude.{◌≡◌, ◌≢◌, ℕ, ◌<◌, ◌≤◌, ◌==◌, Bool, List, [], ◌∷◌, length, Option, Some, None, IsNone, IsSome, IfSome, IsSomeAnd, IsTrue}
use Rattle.std.specs.List.{list_any}
use Rattle.std.specs.Borrow.{Bor}
use Rattle.mc_requests.specs.declared.refusal.Refusal.{Refusal}
use Rattle.mc_requests.specs.Requests.{seen}
use Rattle.mc_requests.specs.Replies.{Reply}
use Rattle.millicent_http.specs.declared.reply.ReplyHead.{ReplyHead}

-- a refusal that may be there
abbrev pub refusal_of : Option (Bor Refusal) → Option Refusal
refusal_of (Some refusal) = Some refusal.now
refusal_of None = None

abbrev pub reply_of : ReplyHead → Reply
reply_of r = record {
  status = r.status;
  date = r.date;
  kind = r.kind;
  length = r.length;
  refusal = refusal_of r.refusal;
  price = r.price;
  change = seen r.change;
  sign = r.sign;
}

-- the twelve statuses of a site
abbrev pub statuses : List ℕ
statuses = 200 ∷ 400 ∷ 402 ∷ 403 ∷ 404 ∷ 405 ∷ 409 ∷ 410 ∷ 413 ∷ 431 ∷ 500 ∷ 503 ∷ []

abbrev pub is_status : ℕ → Bool
is_status status = list_any (λ s. s == status) statuses

-- These are the values of a reply of a site: a 200 with a kind of contents, or a refusal; the change
-- is no longer than a scrip text may be.
pub record IsReplyHead (r : ReplyHead) : Type 0 where
  pub status : IsTrue (is_status r.status)
  pub accepted : r.status ≡ 200 → IsSomeAnd r.kind (λ kind. kind < 3) × IsNone r.refusal
  pub refused : r.status ≢ 200 → IsNone r.kind × IsSome r.refusal
  pub scrip : IfSome r.change (λ text. length text.now ≤ 293)
