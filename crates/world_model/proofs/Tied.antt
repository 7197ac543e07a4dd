-- What ties histories and messages to the events of a schedule: each entry that was added came of an event.
use Rattle.std.proofs.Common.{◌≡◌, ℕ, ◌<◌, ◌≤◌, ◌^◌, List, [], ◌∷◌, ◌++◌, Option, Some, None, sym, ap, subst, ◌∙◌, slice_get, inl, inr, true}
use Rattle.std.specs.Prelude.{slice_set, option_and_then}
use Rattle.std.specs.List.{AllByRecursion}
use Rattle.std.proofs.lemmas.Option.{option_and_then_some}
use Rattle.mc_requests.specs.declared.limits.Limits.{Limits}
use Rattle.hex.specs.Hex.{encode_lower}
use Rattle.mc_records.specs.Entry.{Entry, Accept, Draw, Done, Fits}
use Rattle.mc_requests.specs.Requests.{Asked}
use Rattle.mc_records.specs.Sizes.{size}
use Rattle.ledger_model.specs.Histories.{History, time}
use Rattle.ledger_model.specs.Lawful.{MayFollow, request_of}
use Rattle.ledger_model.proofs.ListLaws.{all_weaker, all_append}
use Rattle.house_core.specs.Session.{State}
use Rattle.millicent_http.specs.Received.{Received}
use Rattle.wallet_model.specs.Requests.{Pending, pending_of, pending_in, is_kept}
use Rattle.wallet_model.specs.Follows.{WalletFollows}
use Rattle.wallet_model.specs.Asks.{request_bytes}
use Rattle.wallet_model.specs.Settling.{check_of, settlement}
use Rattle.world_model.specs.Worlds.{HasBytes, World, Message}
use Rattle.world_model.specs.Signings.{IsAskedBy, Signing, signing_asked}
use Rattle.world_model.proofs.Lists.{get_front, AllTwo, all_get, set_stays, GoesOn, goes_weaker}

-- ---- houses

-- a request is an item of one of some messages
pub record IsAskedIn (ms : List Message) (q : Asked) : Type 0 where
  pub n : ℕ
  pub message : Message
  pub sent : slice_get ms n ≡ Some message
  pub asks : IsAskedBy message.bytes q

-- so does one of this target and signature, whatever piece it brings
pub record IsOrderedIn (ms : List Message) (target sign : List ℕ) : Type 0 where
  pub q : Asked
  pub asked : IsAskedIn ms q
  pub target_is : q.target ≡ target
  pub sign_is : q.sign ≡ Some (encode_lower sign)

abbrev pub CameIn : List Message → Entry → Type 0
CameIn ms (Accept m scrip target sign price change deed) = IsAskedIn ms (request_of scrip target sign)
CameIn ms (Draw m target sign drawn) = IsOrderedIn ms target sign
CameIn ms _ = Unit {0}

-- an entry that an event added to a house
pub record HouseEntry (limits : Limits) (ms : List Message) (h : History) (e : Entry) : Type 0 where
  pub follows : MayFollow limits h e
  pub fits : Fits e
  pub secrets : HasBytes e
  pub came : CameIn ms e

pub record HouseTied (limits : Limits) (ms : List Message) (s t : State) : Type 0 where
  pub goes : GoesOn (HouseEntry limits ms) s.history t.history
  pub all : AllByRecursion Fits t.history
  pub secrets : AllByRecursion HasBytes t.history
  pub most : size t.history ≤ 2 ^ 40
  pub in_time : time t.history ≤ t.time
  pub moment : t.time < 2 ^ 35

-- ---- wallets

-- A Done entry is the settlement of a kept request by a reply with a signature that was made; `Made` says by whom.
pub record IsPaidBy (Made : Signing → Type 0) (h : History) (e : Entry) : Type 0 where
  pub n : ℕ
  pub p : Pending
  pub r : Received
  pub t : ℕ
  pub kept : is_kept h n ≡ true
  pub request : pending_in h n ≡ Some p
  pub status : r.status ≡ 200
  pub unrefused : r.refusal ≡ None
  pub checked : check_of p r ≡ None
  pub is : settlement h t n p r ≡ e
  pub made : Made (signing_asked p r)

abbrev pub Settles : (Signing → Type 0) → History → Entry → Type 0
Settles Made h (Done m n price change got) = IsPaidBy Made h (Done m n price change got)
Settles Made h _ = Unit {0}

-- an entry that an event added to a wallet
pub record WalletEntry (Made : Signing → Type 0) (h : History) (e : Entry) : Type 0 where
  pub follows : WalletFollows h e
  pub fits : Fits e
  pub small : size (h ++ e ∷ []) ≤ 2 ^ 40
  pub settles : Settles Made h e

abbrev pub WalletTied : (Signing → Type 0) → History → History → Type 0
WalletTied Made a b = GoesOn (WalletEntry Made) a b

-- ---- messages

-- some bytes are those of a request of this wallet
pub record IsOwn (ws : List History) (j : ℕ) (bytes : List ℕ) : Type 0 where
  pub h : History
  pub n : ℕ
  pub p : Pending
  pub wallet : slice_get ws j ≡ Some h
  pub request : pending_in h n ≡ Some p
  pub is : bytes ≡ request_bytes p

abbrev pub IsOfSender : List History → Option ℕ → List ℕ → Type 0
IsOfSender ws None bytes = Unit {0}
IsOfSender ws (Some j) bytes = IsOwn ws j bytes

pub AreOfSenders : List History → List Message → Type 0
AreOfSenders ws ms = AllByRecursion (λ m. IsOfSender ws m.sender m.bytes) ms

-- ---- all of them

-- From a world w to a world v of a schedule.
pub record Tied (limits : Limits) (w : World) (Made : Signing → Type 0) (v : World) : Type 0 where
  pub houses : AllTwo (HouseTied limits v.messages) w.houses v.houses
  pub wallets : AllTwo (WalletTied Made) w.wallets v.wallets
  pub messages : AreOfSenders v.wallets v.messages

-- ---- what stays

pub pending_stays : (h more : History) (n : ℕ) (p : Pending) → pending_in h n ≡ Some p → pending_in (h ++ more) n ≡ Some p
pending_stays h more n p is =
    option_and_then_some pending_of (slice_get h n) p is (λ e at of. ap (λ (o : Option Entry). option_and_then pending_of o) (get_front h more n e at) ∙ of)

sender_stays : (ws : List History) (j : ℕ) (h more : History) (sender : Option ℕ) (bytes : List ℕ) → slice_get ws j ≡ Some h → IsOfSender ws sender bytes → IsOfSender (slice_set ws j (h ++ more)) sender bytes
sender_stays ws j h more None bytes here own = tt
sender_stays ws j h more (Some k) bytes here own = elim (set_stays ws j h (h ++ more) k own.h here own.wallet) [
  | inl same ↦ record {
    h = h ++ more;
    n = own.n;
    p = own.p;
    wallet = same.1;
    request = pending_stays h more own.n own.p (ap (λ (g : History). pending_in g own.n) (sym same.0) ∙ own.request);
    is = own.is;
  }
  | inr other ↦ record { h = own.h; n = own.n; p = own.p; wallet = other; request = own.request; is = own.is }
]

pub senders_stay : (ws : List History) (j : ℕ) (h more : History) (ms : List Message) → slice_get ws j ≡ Some h → AreOfSenders ws ms → AreOfSenders (slice_set ws j (h ++ more)) ms
unfolding AreOfSenders
senders_stay ws j h more ms here all =
    all_weaker (λ (m : Message). IsOfSender ws m.sender m.bytes) (λ (m : Message). IsOfSender (slice_set ws j (h ++ more)) m.sender m.bytes) (λ m own. sender_stays ws j h more m.sender m.bytes here own) ms all

pub one_more_sender : (ws : List History) (ms : List Message) (m : Message) → AreOfSenders ws ms → IsOfSender ws m.sender m.bytes → AreOfSenders ws (ms ++ m ∷ [])
unfolding AreOfSenders
one_more_sender ws ms m all own = all_append (λ (x : Message). IsOfSender ws x.sender x.bytes) ms (m ∷ []) all (own, tt)

asked_stays : (ms more : List Message) (q : Asked) → IsAskedIn ms q → IsAskedIn (ms ++ more) q
asked_stays ms more q a = record { n = a.n; message = a.message; sent = get_front ms more a.n a.message a.sent; asks = a.asks }

came_stays : (ms more : List Message) (e : Entry) → CameIn ms e → CameIn (ms ++ more) e
came_stays ms more (Accept m scrip target sign price change deed) came = asked_stays ms more (request_of scrip target sign) came
came_stays ms more (Draw m target sign drawn) came = record { q = came.q; asked = asked_stays ms more came.q came.asked; target_is = came.target_is; sign_is = came.sign_is }
came_stays ms more e came = tt

pub house_stays : (limits : Limits) (ms more : List Message) (s t : State) → HouseTied limits ms s t → HouseTied limits (ms ++ more) s t
house_stays limits ms more s t r = record {
  goes = goes_weaker (HouseEntry limits ms) (HouseEntry limits (ms ++ more)) (λ h e x. record { follows = x.follows; fits = x.fits; secrets = x.secrets; came = came_stays ms more e x.came }) s.history t.history r.goes;
  all = r.all;
  secrets = r.secrets;
  most = r.most;
  in_time = r.in_time;
  moment = r.moment;
}

pub none_sent : (ws : List History) (ms : List Message) → ms ≡ [] → AreOfSenders ws ms
unfolding AreOfSenders
none_sent ws ms is = subst (λ (xs : List Message). AllByRecursion (λ m. IsOfSender ws m.sender m.bytes) xs) (sym is) tt

pub sender_at : (ws : List History) (ms : List Message) (n : ℕ) (m : Message) → AreOfSenders ws ms → slice_get ms n ≡ Some m → IsOfSender ws m.sender m.bytes
unfolding AreOfSenders
sender_at ws ms n m all at = all_get (λ (x : Message). IsOfSender ws x.sender x.bytes) ms n m all at
