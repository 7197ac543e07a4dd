-- What a wallet's commands leave of its book is what events leave.
use Rattle.std.proofs.Common.{◌≡◌, ◌⊎◌, inl, inr, ℕ, ◌≤◌, List, [], ◌∷◌, ◌++◌, length, Some, Err, refl, slice_get}
use Rattle.std.specs.List.{AllByRecursion}
use Rattle.mc_outside.specs.DiskView.{DiskView}
use Rattle.mc_outside.specs.LinkView.{LinkView}
use Rattle.mc_requests.specs.declared.limits.TheConstants.Limits.{FULL, MOST_JOURNAL}
use Rattle.mc_records.specs.Entry.{Entry}
use Rattle.mc_records.specs.Sizes.{size}
use Rattle.ledger_model.specs.Histories.{History}
use Rattle.scrip_journal.specs.Layout.{Encodes}
use Rattle.operator_command.specs.Operations.{full}
use Rattle.wallet_model.specs.Asks.{Asking, request_bytes}
use Rattle.wallet_model.specs.Requests.{Pending}
use Rattle.wallet_model.specs.Settling.{settlement}
use Rattle.millicent_http.specs.Received.{Received}
use Rattle.mc_requests.specs.declared.refusal.Refusal.{Refusal}
use Rattle.ledger_model.specs.Lines.{Refuse}
use Rattle.ledger_model.specs.Answer.{fitted}
use Rattle.command_status.specs.declared.status.Status.{Status}
use Rattle.command_status.specs.declared.status.Status.TheVariants as ends
use Rattle.wallet_core.specs.OnDisk.{EncodesWallet}
use Rattle.wallet_commands.specs.Paying.{ended_by}
use Rattle.world_model.specs.Worlds.{World, Event, Ask, Again, Tell, Return, Plays, wallet_time, with_wallet, with_reply}
use Rattle.world_model.proofs.Lists.{set_here}
use Rattle.world_laws.specs.Requests.{EndsSettled, IsSettled, UsedAs, IsAsked, PaidAs, TriedAs, asked_world}
use Rattle.world_laws.specs.Runs.{IsOfWallet, IsOfPayment, LeavesPayment, PayingIsARun, TryingIsARun}
use Rattle.world_laws.proofs.Delivering.{plays_append}
use Rattle.world_laws.proofs.RequestLemmas.{paying_is_played, trying_is_played}

-- the limits that the program runs under, by their two names
full_is : full ≡ FULL
full_is = refl

-- a first event has led from w to x, and so on from there
record Begun (w : World) (j : ℕ) (h : History) (x : World) : Type 0 where
  events : List Event
  plays : Plays FULL w events x
  wallet : slice_get x.wallets j ≡ Some h
  houses : x.houses ≡ w.houses
  paying : AllByRecursion (IsOfWallet j) events

stays : (w : World) (j : ℕ) (h : History) (x : World) (image : List ℕ) → Begun w j h x → Encodes h image → IsOfPayment w j image
stays w j h x image b stands = record { g = h; v = x; events = b.events; plays = b.plays; wallet = b.wallet; houses = b.houses; stands = stands; paying = b.paying }

joined : (j : ℕ) (es fs : List Event) → AllByRecursion (IsOfWallet j) es → AllByRecursion (IsOfWallet j) fs → AllByRecursion (IsOfWallet j) (es ++ fs)
joined j [] fs a b = b
joined j (e ∷ es) fs a b = (a.0, joined j es fs a.1 b)

-- an image that a crash leaves of a settled request has its entry, or not
settled_image : (h : History) (p : Pending) (r : Received) (e : Entry) (status : Status) (d : DiskView) → EndsSettled h p r e status d → (image : List ℕ) → d.leaves image → Encodes h image ⊎ Encodes (h ++ e ∷ []) image
settled_image h p r e status d ends' image leaves = go status ends'
  where
    last : (status : Status) → ((status ≡ ended_by p r) × EncodesWallet d (h ++ e ∷ [])) ⊎ ((f : Refusal) × (status ≡ ends.Refused f) × (fitted h FULL e ≡ Err (Refuse f)) × EncodesWallet d h) → Encodes h image ⊎ Encodes (h ++ e ∷ []) image
    last status (inl done) = inr (done.1.lasts image leaves)
    last status (inr full) = inl (full.3.lasts image leaves)

    go : (status : Status) → EndsSettled h p r e status d → Encodes h image ⊎ Encodes (h ++ e ∷ []) image
    go ends.DiskFault by = by image leaves
    go ends.NoMemory by = inl (by.lasts image leaves)
    go ends.LinkFault by = inl (by.lasts image leaves)
    go ends.Done by = last ends.Done by
    go (ends.Served k) by = last (ends.Served k) by
    go (ends.Founded name) by = last (ends.Founded name) by
    go (ends.Proxied links paid) by = last (ends.Proxied links paid) by
    go (ends.Did line) by = last (ends.Did line) by
    go ends.BadWords by = last ends.BadWords by
    go ends.NotJournal by = last ends.NotJournal by
    go (ends.BadEntry place) by = last (ends.BadEntry place) by
    go (ends.BadChain place) by = last (ends.BadChain place) by
    go (ends.UnlawfulEntry place) by = last (ends.UnlawfulEntry place) by
    go (ends.Refused f) by = last (ends.Refused f) by
    go (ends.Stranger name id) by = last (ends.Stranger name id) by

-- what came was told and returned from there
returned_run : (w : World) (j : ℕ) (h : History) (x : World) (moment n : ℕ) (p : Pending) (got : List ℕ) (status : Status) (d : DiskView) → Begun w j h x → IsSettled j h moment n p got status d → LeavesPayment w j d
returned_run w j h x moment n p got status d b settled image leaves =
    let e : Entry = settlement h (wallet_time h moment) n p settled.r in
    elim (settled_image h p settled.r e status d settled.ends' image leaves) [
      | inl old ↦ stays w j h x image b old
      | inr new ↦
          let g : History = h ++ e ∷ [] in
          let two : List Event = Tell got ∷ Return (length x.replies) j n moment ∷ [] in
          let v : World = with_wallet (with_reply x got) j g in
          record {
            g = g;
            v = v;
            events = b.events ++ two;
            plays = plays_append FULL w b.events two x v b.plays (settled.returns x b.wallet new.most);
            wallet = set_here x.wallets j h g b.wallet;
            houses = b.houses;
            stands = new;
            paying = joined j b.events two b.paying (tt, (refl, tt));
          }
    ]

-- a link was used from there
used_run : (w : World) (j : ℕ) (h : History) (x : World) (moment n : ℕ) (p : Pending) (before after : LinkView) (status : Status) (d : DiskView) → Begun w j h x → UsedAs j h moment n p before after status d → LeavesPayment w j d
used_run w j h x moment n p before after status d b (inl unsent) image leaves = stays w j h x image b (unsent.1.lasts image leaves)
used_run w j h x moment n p before after status d b (inr (got, heard, inl kept)) image leaves = stays w j h x image b (kept.1.lasts image leaves)
used_run w j h x moment n p before after status d b (inr (got, heard, inr settled)) image leaves = returned_run w j h x moment n p got status d b settled image leaves

none_begun : (w : World) (j : ℕ) (h : History) → slice_get w.wallets j ≡ Some h → Begun w j h w
none_begun w j h at = record { events = []; plays = refl; wallet = at; houses = refl; paying = tt }

asked_begun : (w : World) (j : ℕ) (h : History) (asking : Asking) (moment : ℕ) (e : Entry) (p : Pending) → slice_get w.wallets j ≡ Some h → IsAsked w j h asking moment e p → size (h ++ e ∷ []) ≤ MOST_JOURNAL
    → Begun w j (h ++ e ∷ []) (asked_world w j (h ++ e ∷ []) p)
asked_begun w j h asking moment e p at asked most = record {
  events = Ask j asking moment ∷ [];
  plays = (asked_world w j (h ++ e ∷ []) p, inl (asked.asks most), refl);
  wallet = set_here w.wallets j h (h ++ e ∷ []) at;
  houses = refl;
  paying = (refl, tt);
}

pub paying_is_run : {O : Type 0} (link : O → LinkView) (disk : O → DiskView) → PayingIsARun link disk
paying_is_run link disk w j asking bytes a status b c at can lt image leaves = by (paying_is_played link disk w j c.history asking c.moment a c.clocked status b at can lt c.does)
  where
    by : PaidAs w j c.history asking c.moment c.clocked (link b) status (disk b) → IsOfPayment w j image
    by (inl none) = stays w j c.history w image (none_begun w j c.history at) (none.2.lasts image leaves)
    by (inr (e, p, asked, inl doubt)) =
        let h : History = c.history in
        elim (doubt.2 image leaves) [
          | inl old ↦ stays w j h w image (none_begun w j h at) old
          | inr new ↦ stays w j (h ++ e ∷ []) (asked_world w j (h ++ e ∷ []) p) image (asked_begun w j h asking c.moment e p at asked new.most) new
        ]
    by (inr (e, p, asked, inr (most, used))) =
        let h : History = c.history in
        used_run w j (h ++ e ∷ []) (asked_world w j (h ++ e ∷ []) p) c.moment (length h) p c.clocked (link b) status (disk b) (asked_begun w j h asking c.moment e p at asked most) used image leaves

pub trying_is_run : {O : Type 0} (link : O → LinkView) (disk : O → DiskView) → TryingIsARun link disk
trying_is_run link disk w j peer bytes a status b c at lt image leaves = by (trying_is_played link disk w j c.history peer c.moment a c.clocked status b at lt c.does)
  where
    by : TriedAs w j c.history peer c.moment c.clocked (link b) status (disk b) → IsOfPayment w j image
    by (inl none) = stays w j c.history w image (none_begun w j c.history at) (none.3.lasts image leaves)
    by (inr (n, p, oldest, sends, used)) =
        let x : World = record w { messages = w.messages ++ record { bytes = request_bytes p; sender = Some j } ∷ [] } in
        used_run w j c.history x c.moment n p c.clocked (link b) status (disk b) (record { events = Again j peer ∷ []; plays = (x, inl sends, refl); wallet = at; houses = refl; paying = (refl, tt) }) used image leaves
