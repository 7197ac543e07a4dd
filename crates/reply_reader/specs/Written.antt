-- The replies of a site, as they are read back.
use Rattle.std.specs.Prelude.{◌≡◌, ◌≢◌, ℕ, ◌<◌, ◌≤◌, ◌^◌, List, length, decimal, All, IfSome, IsNone, IsSomeAnd, IsTrue, option_map}
use Rattle.std.specs.List.{AllPass}
use Rattle.hex.specs.Hex.{encode_lower}
use Rattle.mc_records.specs.declared.ranges.TheConstants.{MOST_CONTENTS}
use Rattle.mc_requests.specs.Refusals.{kept_of, refusal_text}
use Rattle.mc_requests.specs.Replies.{Reply, reply_head, or_dash}
use Rattle.scrip_form.specs.Scrip.{IsScripText}
use Rattle.scrip_form.specs.Texts.{is_visible}
use Rattle.millicent_http.specs.Items.{max_head}
use Rattle.millicent_http.specs.ReplyHeads.{is_status}
use Rattle.millicent_http.specs.Received.{Received}

-- a word: at least one byte, and each visible
pub record IsWord (text : List ℕ) : Type 0 where
  pub some : 0 < length text
  pub visible : AllPass is_visible text

-- The values of a reply of a site, with its contents: a 200 without a refusal, or another status with one. Its
-- head is no longer than one may be (the writer of heads says that of each that it writes).
pub record IsSiteReply (r : Reply) (contents : List ℕ) : Type 0 where
  pub status : IsTrue (is_status r.status)
  pub accepted : r.status ≡ 200 → IsNone r.refusal
  pub refused : r.status ≢ 200 → IsSomeAnd r.refusal (λ f. All IsWord (kept_of f))
  pub date : r.date < 2 ^ 35
  pub price : IfSome r.price (λ n. n < 2 ^ 64)
  pub change : IfSome r.change IsScripText
  pub sign : IfSome r.sign (All (λ b. b < 256))
  pub size : r.length ≡ length contents
  pub few : length contents ≤ MOST_CONTENTS
  pub short : length (reply_head r) ≤ max_head

-- what is read of it: each value as it stands in its field
abbrev pub received_back : Reply → List ℕ → Received
received_back r contents = record {
  status = r.status;
  refusal = option_map refusal_text r.refusal;
  price = or_dash (option_map decimal r.price);
  change = or_dash r.change;
  sign = or_dash (option_map encode_lower r.sign);
  contents = contents;
}
