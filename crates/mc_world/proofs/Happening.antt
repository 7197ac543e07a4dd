-- What houses and wallets do is what happens in their world.
use Rattle.std.proofs.Common.{◌≡◌, inl, inr, ℕ, zero, suc, ◌<◌, ◌≤◌, Bool, true, false, List, [], ◌∷◌, ◌++◌, length, map, Option, Some, None, Result, refl, sym, ap, subst, ◌∙◌, arith, slice_get}
use Rattle.std.specs.Prelude.{slice_set, slice_index_or, option_map, OnOk}
use Rattle.std.proofs.lemmas.Option.{same_Some}
use Rattle.mc_requests.specs.declared.limits.Limits.{Limits}
use Rattle.ledger_model.specs.Histories.{History}
use Rattle.house_core.specs.Session.{State}
use Rattle.millicent_http.specs.Steps.{state_after}
use Rattle.wallet_model.specs.Requests.{oldest_kept}
use Rattle.wallet_model.specs.Asks.{Asking}
use Rattle.world_model.specs.Deliveries.{did_all}
use Rattle.world_model.specs.Worlds.{World, Message, Enter, Ask, Again, Forge, Tell, Deliver, Return, Restart, clamped, with_house, with_wallet, with_message, with_reply, opens, Happens}
use Rattle.world_model.specs.Agreement.{IsBookOfWallet}
use Rattle.world_model.specs.Conservation.{IsLawfulHouse, AreLawful}
use Rattle.world_model.proofs.Lists.{got_is, all_get}
use Rattle.mc_world.specs.declared.event.Event.{Event as Happening}
use Rattle.mc_world.specs.Games.{event_of}
use Rattle.mc_world.specs.Links.{IsDelivered}
use Rattle.mc_world.specs.Houses.{IsHouseAt, MayBeEntered, EntersBy}
use Rattle.mc_world.specs.Wallets.{MayAsk, AsksFor, SendsAgainFor, MaySettle, SettlesBy}

-- ---- lists

pub get_none : {X : Type 0} (xs : List X) (n : ℕ) → length xs ≤ n → slice_get xs n ≡ None
get_none [] n le = refl
get_none (x ∷ xs) zero le = absurd (omega (arith, le))
get_none (x ∷ xs) (suc n) le = get_none xs n (omega (arith, le))

pub get_at : {X : Type 0} (xs : List X) (n : ℕ) (x : X) → n < length xs → x ≡ slice_index_or xs n x → slice_get xs n ≡ Some x
get_at [] n x lt is = absurd (omega (arith, lt))
get_at {X} (y ∷ xs) zero x lt is = ap some (sym is)
  where
    some : X → Option X
    some z = Some z
get_at (y ∷ xs) (suc n) x lt is = get_at xs n x (omega (arith, lt)) is

pub map_get : {A B : Type 0} (f : A → B) (xs : List A) (n : ℕ) → slice_get (map f xs) n ≡ option_map f (slice_get xs n)
map_get f [] n = refl
map_get f (x ∷ xs) zero = refl
map_get f (x ∷ xs) (suc n) = map_get f xs n

set_same : {X : Type 0} (xs : List X) (n : ℕ) (x : X) → slice_get xs n ≡ Some x → slice_set xs n x ≡ xs
set_same [] n x is = refl
set_same {X} (y ∷ xs) zero x is = ap (λ (z : X). z ∷ xs) (sym (same_Some y x is))
set_same {X} (y ∷ xs) (suc n) x is = ap (λ (zs : List X). y ∷ zs) (set_same xs n x is)

pub set_again : {X : Type 0} (xs : List X) (n : ℕ) (x y : X) → slice_set (slice_set xs n x) n y ≡ slice_set xs n y
set_again [] n x y = refl
set_again (z ∷ xs) zero x y = refl
set_again {X} (z ∷ xs) (suc n) x y = ap (λ (zs : List X). z ∷ zs) (set_again xs n x y)

not_both : {X : Type 0} (o : Option X) (x : X) → o ≡ None → o ≡ Some x → ⊥
not_both None x a b = absurd cc
not_both (Some y) x a b = absurd cc

-- ---- what stands at a number

pub house_at : (limits : Limits) (x : World) (i : ℕ) (s : State) → AreLawful limits x → slice_get x.houses i ≡ Some s → IsHouseAt limits s
house_at limits x i s lawful at = let one = all_get (IsLawfulHouse limits) x.houses i s lawful.houses at in record { book = one.book; in_time = one.in_time }

pub wallet_at : (limits : Limits) (x : World) (j : ℕ) (h : History) → AreLawful limits x → slice_get x.wallets j ≡ Some h → IsBookOfWallet h
wallet_at limits x j h lawful at = all_get IsBookOfWallet x.wallets j h lawful.wallets at

-- ---- wallets

pub asked_absent : (limits : Limits) (x : World) (j : ℕ) (asking : Asking) (reading : ℕ) → slice_get x.wallets j ≡ None → Happens limits x (Ask j asking reading) x
asked_absent limits x j asking reading none = inr (record { none = λ z does. not_both (slice_get x.wallets j) does.h none does.wallet; same = refl })

pub asked_none : (limits : Limits) (x y : World) (j : ℕ) (asking : Asking) (reading : ℕ) (h g : History) → slice_get x.wallets j ≡ Some h → AsksFor limits h asking reading g None → y ≡ with_wallet x j g
    → Happens limits x (Ask j asking reading) y
asked_none limits x y j asking reading h g is asks after = inr (record {
  none = λ z does.
      let same : does.h ≡ h = got_is does.h h (slice_get x.wallets j) does.wallet is in
      asks.0 does.e does.p (subst (λ (k : History). MayAsk limits k asking reading does.e does.p) same (record { can = does.can; pends = does.pends; room = does.room; asked = does.asked }));
  same = after ∙ ap (with_wallet x j) asks.1 ∙ ap (λ (ws : List History). record x { wallets = ws }) (set_same x.wallets j h is);
})

pub asked_some : (limits : Limits) (x y : World) (j : ℕ) (asking : Asking) (reading : ℕ) (h g : History) (bytes : List ℕ) → slice_get x.wallets j ≡ Some h → AsksFor limits h asking reading g (Some bytes)
    → y ≡ with_message (with_wallet x j g) bytes (Some j) → Happens limits x (Ask j asking reading) y
asked_some limits x y j asking reading h g bytes is asks after = inl (record {
  h = h;
  e = asks.e;
  p = asks.p;
  wallet = is;
  can = asks.may.can;
  pends = asks.may.pends;
  room = asks.may.room;
  asked = asks.may.asked;
  after = after ∙ ap (λ (k : History). with_message (with_wallet x j k) bytes (Some j)) asks.after ∙ ap (λ (b : List ℕ). with_message (with_wallet x j (h ++ asks.e ∷ [])) b (Some j)) asks.sent;
})

-- what was sent is the last message
pub asked_sent : (limits : Limits) (x : World) (j : ℕ) (asking : Asking) (reading : ℕ) (h g : History) (bytes : List ℕ) (ms : List Message) → slice_get x.wallets j ≡ Some h → AsksFor limits h asking reading g (Some bytes)
    → ms ≡ x.messages ++ record { bytes = bytes; sender = Some j } ∷ [] → Happens limits x (Ask j asking reading) (record x { wallets = slice_set x.wallets j g; messages = ms })
asked_sent limits x j asking reading h g bytes ms is asks sent =
    asked_some limits x (record x { wallets = slice_set x.wallets j g; messages = ms }) j asking reading h g bytes is asks (ap (λ (l : List Message). record x { wallets = slice_set x.wallets j g; messages = l }) sent)

pub asked_nothing : {V : Type 0} (f : V → List ℕ) (limits : Limits) (x : World) (j : ℕ) (asking : Asking) (reading : ℕ) (h g : History) (o : Option V) → slice_get x.wallets j ≡ Some h → o ≡ None
    → AsksFor limits h asking reading g (option_map f o) → Happens limits x (Ask j asking reading) (with_wallet x j g)
asked_nothing {V} f limits x j asking reading h g o is none asks =
    asked_none limits x (with_wallet x j g) j asking reading h g is (subst (λ (p : Option V). AsksFor limits h asking reading g (option_map f p)) none asks) refl

pub asked_something : {V : Type 0} (f : V → List ℕ) (limits : Limits) (x : World) (j : ℕ) (asking : Asking) (reading : ℕ) (h g : History) (o : Option V) (v : V) (ms : List Message) → slice_get x.wallets j ≡ Some h → o ≡ Some v
    → AsksFor limits h asking reading g (option_map f o) → ms ≡ x.messages ++ record { bytes = f v; sender = Some j } ∷ [] → Happens limits x (Ask j asking reading) (record x { wallets = slice_set x.wallets j g; messages = ms })
asked_something {V} f limits x j asking reading h g o v ms is some asks sent =
    asked_sent limits x j asking reading h g (f v) ms is (subst (λ (p : Option V). AsksFor limits h asking reading g (option_map f p)) some asks) sent

pub again_absent : (limits : Limits) (x : World) (j : ℕ) (peer : List ℕ) → slice_get x.wallets j ≡ None → Happens limits x (Again j peer) x
again_absent limits x j peer none = inr (record { none = λ z does. not_both (slice_get x.wallets j) does.h none does.wallet; same = refl })

pub again_none : (limits : Limits) (x : World) (j : ℕ) (peer : List ℕ) (h : History) → slice_get x.wallets j ≡ Some h → SendsAgainFor h peer None → Happens limits x (Again j peer) x
again_none limits x j peer h is none = inr (record {
  none = λ z does. not_both (oldest_kept h peer) (does.number, does.p) none (ap (λ (k : History). oldest_kept k peer) (sym (got_is does.h h (slice_get x.wallets j) does.wallet is)) ∙ does.oldest);
  same = refl;
})

pub again_some : (limits : Limits) (x y : World) (j : ℕ) (peer : List ℕ) (h : History) (bytes : List ℕ) → slice_get x.wallets j ≡ Some h → SendsAgainFor h peer (Some bytes) → y ≡ with_message x bytes (Some j)
    → Happens limits x (Again j peer) y
again_some limits x y j peer h bytes is sends after = inl (record {
  h = h;
  number = sends.n;
  p = sends.p;
  wallet = is;
  oldest = sends.oldest;
  after = after ∙ ap (λ (b : List ℕ). with_message x b (Some j)) sends.sent;
})

pub again_nothing : {V : Type 0} (f : V → List ℕ) (limits : Limits) (x : World) (j : ℕ) (peer : List ℕ) (h : History) (o : Option V) → slice_get x.wallets j ≡ Some h → o ≡ None → SendsAgainFor h peer (option_map f o)
    → Happens limits x (Again j peer) x
again_nothing {V} f limits x j peer h o is none sends = again_none limits x j peer h is (subst (λ (p : Option V). SendsAgainFor h peer (option_map f p)) none sends)

pub again_something : {V : Type 0} (f : V → List ℕ) (limits : Limits) (x : World) (j : ℕ) (peer : List ℕ) (h : History) (o : Option V) (v : V) (ms : List Message) → slice_get x.wallets j ≡ Some h → o ≡ Some v
    → SendsAgainFor h peer (option_map f o) → ms ≡ x.messages ++ record { bytes = f v; sender = Some j } ∷ [] → Happens limits x (Again j peer) (record x { messages = ms })
again_something {V} f limits x j peer h o v ms is some sends sent =
    again_some limits x (record x { messages = ms }) j peer h (f v) is (subst (λ (p : Option V). SendsAgainFor h peer (option_map f p)) some sends) (ap (λ (l : List Message). record x { messages = l }) sent)

pub return_no_reply : (limits : Limits) (x : World) (k j n reading : ℕ) → slice_get x.replies k ≡ None → Happens limits x (Return k j n reading) x
return_no_reply limits x k j n reading none = inr (record { none = λ z does. not_both (slice_get x.replies k) does.meets.bytes none does.meets.reply; same = refl })

pub return_no_wallet : (limits : Limits) (x : World) (k j n reading : ℕ) → slice_get x.wallets j ≡ None → Happens limits x (Return k j n reading) x
return_no_wallet limits x k j n reading none = inr (record { none = λ z does. not_both (slice_get x.wallets j) does.h none does.meets.wallet; same = refl })

pub returned : (limits : Limits) (x y : World) (k j n reading : ℕ) (h g : History) (bytes : List ℕ) (done : Bool) → slice_get x.wallets j ≡ Some h → slice_get x.replies k ≡ Some bytes → SettlesBy limits h bytes n reading g done
    → y ≡ with_wallet x j g → Happens limits x (Return k j n reading) y
returned limits x y k j n reading h g bytes true is at settles after = inl (record {
  h = h;
  p = settles.p;
  r = settles.r;
  meets = record { bytes = bytes; reply = at; reads = settles.may.reads; wallet = is; kept = settles.may.kept; request = settles.may.request };
  checked = settles.may.checked;
  room = settles.may.room;
  after = after ∙ ap (with_wallet x j) settles.after;
})
returned limits x y k j n reading h g bytes false is at settles after = inr (record {
  none = λ z does.
      let same : does.h ≡ h = got_is does.h h (slice_get x.wallets j) does.meets.wallet is in
      let text : does.meets.bytes ≡ bytes = got_is does.meets.bytes bytes (slice_get x.replies k) does.meets.reply at in
      settles.0 does.p does.r (subst (λ (b : List ℕ). MaySettle limits h b n reading does.p does.r) text (subst (λ (g : History). MaySettle limits g does.meets.bytes n reading does.p does.r) same
      (record { reads = does.meets.reads; kept = does.meets.kept; request = does.meets.request; checked = does.checked; room = does.room })));
  same = after ∙ ap (with_wallet x j) settles.1 ∙ ap (λ (ws : List History). record x { wallets = ws }) (set_same x.wallets j h is);
})

-- ---- messages

pub forged : (limits : Limits) (x y : World) (bytes : List ℕ) → y ≡ with_message x bytes None → Happens limits x (Forge bytes) y
forged limits x y bytes after = inl after

pub told : (limits : Limits) (x y : World) (bytes : List ℕ) → y ≡ with_reply x bytes → Happens limits x (Tell bytes) y
told limits x y bytes after = inl after

-- ---- houses

pub deliver_no_message : (limits : Limits) (x : World) (m i reading : ℕ) → slice_get x.messages m ≡ None → Happens limits x (Deliver m i reading) x
deliver_no_message limits x m i reading none = inr (record { none = λ z does. not_both (slice_get x.messages m) does.message none does.sent; same = refl })

pub deliver_no_house : (limits : Limits) (x : World) (m i reading : ℕ) → slice_get x.houses i ≡ None → Happens limits x (Deliver m i reading) x
deliver_no_house limits x m i reading none = inr (record { none = λ z does. not_both (slice_get x.houses i) does.s none does.house; same = refl })

pub delivered : (limits : Limits) (x y : World) (m i reading : ℕ) (message : Message) (s t : State) (out : List ℕ) → slice_get x.messages m ≡ Some message → slice_get x.houses i ≡ Some s
    → IsDelivered limits s (clamped reading) message.bytes [] out t → y ≡ record x { houses = slice_set x.houses i t; replies = x.replies ++ out ∷ [] } → Happens limits x (Deliver m i reading) y
delivered limits x y m i reading message s t out sent house is after = inl (record {
  message = message;
  s = s;
  items = is.items;
  sent = sent;
  house = house;
  heads = is.heads;
  after = after ∙ ap (λ (u : State). then_is u out) is.after ∙ ap (then_is (state_after s (did_all limits s (clamped reading) is.items))) is.wrote;
})
  where
    then_is : State → List ℕ → World
    then_is u bytes = record x { houses = slice_set x.houses i u; replies = x.replies ++ bytes ∷ [] }

-- no house stood there meanwhile
pub delivered_there : (limits : Limits) (x : World) (m i reading : ℕ) (message : Message) (s t none : State) (out : List ℕ) (rs : List (List ℕ)) → slice_get x.messages m ≡ Some message → slice_get x.houses i ≡ Some s
    → IsDelivered limits s (clamped reading) message.bytes [] out t → rs ≡ x.replies ++ out ∷ []
    → Happens limits x (Deliver m i reading) (record x { houses = slice_set (slice_set x.houses i none) i t; replies = rs })
delivered_there limits x m i reading message s t none out rs sent house is last =
    delivered limits x (record x { houses = slice_set (slice_set x.houses i none) i t; replies = rs }) m i reading message s t out sent house is
    (ap (λ (hs : List State). record x { houses = hs; replies = rs }) (set_again x.houses i none t) ∙ ap (λ (l : List (List ℕ)). record x { houses = slice_set x.houses i t; replies = l }) last)

pub restart_absent : (limits : Limits) (x : World) (i : ℕ) → slice_get x.houses i ≡ None → Happens limits x (Restart i) x
restart_absent limits x i none = inr (record { none = λ z does. not_both (slice_get x.houses i) does.s none does.house; same = refl })

pub restarted : (limits : Limits) (x y : World) (i : ℕ) (s : State) → slice_get x.houses i ≡ Some s → y ≡ with_house x i (opens s.history) → Happens limits x (Restart i) y
restarted limits x y i s is after = inl (record { s = s; house = is; after = after })

pub enter_absent : (limits : Limits) (x : World) (i : ℕ) (bytes : List ℕ) → slice_get x.houses i ≡ None → Happens limits x (Enter i bytes) x
enter_absent limits x i bytes none = inr (record { none = λ z does. not_both (slice_get x.houses i) does.s none does.house; same = refl })

pub entered : (limits : Limits) (x y : World) (i : ℕ) (bytes : List ℕ) (s t : State) → slice_get x.houses i ≡ Some s → EntersBy limits s bytes t → y ≡ with_house x i t → Happens limits x (Enter i bytes) y
entered limits x y i bytes s t is enters after = elim enters [
  | inl a ↦ inl (record {
    s = s;
    e = a.e;
    house = is;
    fits = a.may.fits;
    secrets = a.may.secrets;
    spelled = a.may.spelled;
    command = a.may.command;
    follows = a.may.follows;
    room = a.may.room;
    after = after ∙ ap (with_house x i) a.after;
  })
  | inr b ↦ inr (record {
    none = λ z does.
        let same : does.s ≡ s = got_is does.s s (slice_get x.houses i) does.house is in
        b.0 does.e (subst (λ (u : State). MayBeEntered limits u bytes does.e) same (record { fits = does.fits; secrets = does.secrets; spelled = does.spelled; command = does.command; follows = does.follows; room = does.room }));
    same = after ∙ ap (with_house x i) b.1 ∙ ap (λ (hs : List State). record x { houses = hs }) (set_same x.houses i s is);
  })
]

pub entered_there : (limits : Limits) (x : World) (i : ℕ) (bytes : List ℕ) (s t none : State) → slice_get x.houses i ≡ Some s → EntersBy limits s bytes t
    → Happens limits x (Enter i bytes) (record x { houses = slice_set (slice_set x.houses i none) i t })
entered_there limits x i bytes s t none is enters =
    entered limits x (record x { houses = slice_set (slice_set x.houses i none) i t }) i bytes s t is enters (ap (λ (hs : List State). record x { houses = hs }) (set_again x.houses i none t))

-- ---- an event

pub happens_as : {A B : Type 0} (limits : Limits) (x y : World) (event was : Happening) (r : Result A B) → event ≡ was → OnOk r (Happens limits x (event_of was) y) → OnOk r (Happens limits x (event_of event) y)
happens_as limits x y event was r is went = subst (λ (e : Happening). OnOk r (Happens limits x (event_of e) y)) (sym is) went
