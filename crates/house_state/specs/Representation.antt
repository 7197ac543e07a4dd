-- What a house keeps says what its history says, part by part.
use Rattle.std.specs.Prelude.{◌≡◌, ℕ, ◌≤◌, ◌==◌, Bool, false, List, codes, filter, length, Option, Some, option_map, unwrap_or, position, slice_get, ◌<◌, take, All, IfSome}
use Rattle.scrip_form.specs.Identities.{series_of}
use Rattle.scrip_form.specs.Scrip.{Scrip}
use Rattle.mc_requests.specs.Limits.{AreInRange}
use Rattle.mc_requests.specs.Requests.{Asked}
use Rattle.mc_records.specs.Chains.{has_switch}
use Rattle.mc_records.specs.Sizes.{size}
use Rattle.kept_replies.specs.Kept.{KeptReply, found}
use Rattle.change_issue.specs.Registers.{count_in, issued_in, redeemed_in}
use Rattle.ledger_model.specs.Histories.{History, time}
use Rattle.ledger_model.specs.Houses.{site_name, is_clear, all_terms, terms_in, upgrades_of}
use Rattle.ledger_model.specs.Pieces.{accepted, is_spent, own_out, own_count}
use Rattle.ledger_model.specs.Sums.{values, takings}
use Rattle.ledger_model.specs.Stages.{is_repeat}
use Rattle.ledger_model.specs.Replies.{Contents, no_contents, contents_after, own_text, taken_values, taken_reply, reply_of}
use Rattle.ledger_model.specs.Lawful.{IsLawful}
use Rattle.house_state.specs.HouseState.{HouseStateView, ended_by}
use Rattle.spent_windows.specs.Windows.{is_marked}
use Rattle.house_state.specs.Trade.{brought_by}

-- Whether the series of an identity has ended at a time, by the terms of its issuer. Without terms it has
-- not.
abbrev pub has_ended : History → ℕ → ℕ → Bool
has_ended h t id = ended_by (all_terms h) t id

-- the request for a target with a scrip text, and with a signature or none
abbrev pub scrip_request : List ℕ → List ℕ → Option (List ℕ) → Asked
scrip_request text target sign = record { target = target; scrip = Some text; sign = sign }

-- what the entry of a number brought, after the entries before it
abbrev pub brought_then : History → ℕ → Contents
brought_then h n = unwrap_or (option_map (contents_after (take n h)) (slice_get h n)) no_contents

-- The reply that is made of what is kept, and of what it brings: the change is spelled by the house's own terms, and
-- the text that stands for the scrip of a draw is `-`.
abbrev pub kept_reply : History → KeptReply → Contents → List ℕ
kept_reply h r contents =
    taken_reply (Some r.entry.secret) (unwrap_or r.asked.scrip (codes "-")) r.asked.target contents
    (taken_values r.entry.moment contents r.entry.price (option_map (own_text h) r.entry.change))

-- The first reply to the entry is made of what is kept of it, and of what the entry brought, which is
-- what the kept deed brings. The change is scrip of the house.
pub record IsReply (h : History) (r : KeptReply) : Type 0 where
  pub brings : brought_by h r.entry.deed ≡ Some (brought_then h r.entry.number)
  pub within : r.entry.number < length h
  pub own : IfSome r.entry.change (λ p. p.vendor ≡ site_name h)
  pub reply : reply_of h r.entry.number ≡ kept_reply h r (brought_then h r.entry.number)

-- the pieces of a series
abbrev pub of_series : ℕ → List Scrip → List Scrip
of_series series pieces = filter (λ p. series_of p.id == series) pieces

-- Each part of what is kept represents what the history says.
pub record StateRepresents (b : HouseStateView) (h : History) : Type 0 where
  -- what the site was founded with
  pub name : site_name h ≡ b.name
  pub clear : is_clear h ≡ b.clear
  -- the terms of the issuers, and those of the house itself
  pub terms : all_terms h ≡ b.terms
  pub own_terms : terms_in h 0 ≡ Some b.own.terms
  -- the house time is not before any entry
  pub in_time : time h ≤ b.time
  -- of the identities whose series has not ended, those that were accepted
  pub spent : (id : ℕ) → has_ended h b.time id ≡ false → is_spent h id ≡ is_marked b.spent id
  -- the entry that a request repeats within the seconds for which replies are kept, at the house time and later
  pub again : (t : ℕ) (q : Asked) → b.time ≤ t → position (is_repeat b.kept.keep t q) h ≡ option_map (λ e. e.number) (found b.kept t q)
  -- what the replies are made of
  pub replies : All (IsReply h) b.kept.replies
  -- how many pieces of each series were handed out, by which the next one is numbered
  pub issued : (series : ℕ) → own_count h series ≡ count_in b.own series
  pub most : b.own.most ≡ b.limits.series
  -- what the accepted pieces of each series were worth, and the change that was handed out in it
  pub redeemed : (series : ℕ) → values (of_series series (accepted h)) ≡ redeemed_in b.own series
  pub worth : (series : ℕ) → values (of_series series (own_out h)) ≡ issued_in b.own series
  pub takings : takings h ≡ b.takings
  -- the number of entries, the bytes of their journal, and whether the next entry has a tail
  pub counted : length h ≡ b.count
  pub sized : size h ≡ b.size
  pub switched : has_switch h ≡ b.switched
  -- the issuers of the site that were moved to version 2, by which a series has its version
  pub upgrades : upgrades_of h (site_name h) ≡ b.upgrades
  pub limits : AreInRange b.limits
  pub lawful : IsLawful b.limits h
