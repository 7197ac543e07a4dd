-- Each Accept entry of a wallet's piece is for a request of the wallet.
use Rattle.std.proofs.Common.{◌≡◌, ◌⊎◌, inl, inr, ℕ, zero, suc, Bool, true, false, List, [], ◌∷◌, take, map, Option, Some, None, refl, sym, ap, subst, ◌∙◌, arith, append-nil, slice_get}
use Rattle.std.specs.Prelude.{◌==◌, Contains, option_and_then}
use Rattle.std.proofs.lemmas.Bool.{eqb-true, eq-eqb}
use Rattle.std.proofs.lemmas.Option.{same_Some}
use Rattle.mc_requests.specs.declared.limits.Limits.{Limits}
use Rattle.mc_records.specs.Entry.{Held, Deed, Entry, Accept}
use Rattle.mc_requests.specs.Requests.{Asked}
use Rattle.ledger_model.specs.Histories.{History}
use Rattle.ledger_model.specs.Houses.{is_clear}
use Rattle.ledger_model.specs.Lawful.{request_of}
use Rattle.ledger_model.specs.Replies.{secret_for}
use Rattle.scrip_certs.specs.Digests.{request_signature}
use Rattle.hex.specs.Hex.{encode_lower}
use Rattle.millicent_http.specs.Items.{Item, request, Heads}
use Rattle.millicent_http.specs.declared.reader.TheConstants.{MAX_ITEMS}
use Rattle.millicent_http.proofs.ItemLemmas.{items_unique}
use Rattle.house_core.specs.Session.{State}
use Rattle.wallet_model.specs.Requests.{Pending}
use Rattle.wallet_model.specs.Holdings.{pieces_came}
use Rattle.wallet_model.specs.Asks.{asked_by, request_bytes}
use Rattle.wallet_requests.specs.Sent.{CanBeSent}
use Rattle.wallet_requests.proofs.SentLemmas.{request_is_item, history_asks}
use Rattle.world_model.specs.Worlds.{World}
use Rattle.world_model.specs.Signings.{Signing, IsSignedUnder, HasRequest, asked_in, IsAskedBy, IsSentByOther, SignsAlone}
use Rattle.world_model.specs.Agreement.{IsSetup}
use Rattle.world_model.proofs.Lists.{got_is, two_back, goes_at}
use Rattle.world_model.proofs.Tied.{IsAskedIn, HouseEntry, HouseTied, IsOfSender, Tied, sender_at}
use Rattle.world_model.proofs.Steps.{wallet_now}
use Rattle.world_model.proofs.Accepted.{lawful_accept}
use Rattle.world_model.proofs.DoneLaws.{house_lawful}

-- ---- lists

contains_map : {X Y : Type 0} (f : X → Y) (xs : List X) (x : X) → Contains xs x → Contains (map f xs) (f x)
contains_map f [] x c = absurd (let lt = c.1 in omega (arith, lt))
contains_map {X} {Y} f (y ∷ ys) x (zero, lt, is) = (0, omega arith, ap f is)
contains_map f (y ∷ ys) x (suc k, lt, is) =
    let ih = contains_map f ys x (k, omega (arith, lt), is) in
    (suc ih.0, (let l = ih.1 in omega (arith, l)), ih.2)

only_one : {X : Type 0} (x y : X) → Contains (x ∷ []) y → x ≡ y
only_one x y (zero, lt, is) = is
only_one x y (suc k, lt, is) = absurd (omega (arith, lt))

-- ---- a request in a wallet's own message

asked_of : Item → Option Asked
asked_of (request q c) = Some q
asked_of _ = None

own_request : (p : Pending) (bytes : List ℕ) (q : Asked) → CanBeSent p → bytes ≡ request_bytes p → IsAskedBy bytes q → asked_by p ≡ q
unfolding asked_of
own_request p bytes q can is asks =
    let sent : Heads bytes (request (asked_by p) true ∷ []) = subst (λ (b : List ℕ). Heads b (request (asked_by p) true ∷ [])) (append-nil (request_bytes p) ∙ sym is) (request_is_item p [] can) in
    let same : asks.items ≡ request (asked_by p) true ∷ [] = items_unique MAX_ITEMS bytes asks.items (request (asked_by p) true ∷ []) asks.heads sent in
    let it : request (asked_by p) true ≡ request q asks.closes = only_one (request (asked_by p) true) (request q asks.closes) (subst (λ (xs : List Item). Contains xs (request q asks.closes)) same asks.item) in
    same_Some (asked_by p) q (ap asked_of it)

-- ---- where the request of an Accept entry comes from

pub record IsOurs (v : World) (j : ℕ) (q : Asked) : Type 0 where
  pub h : History
  pub wallet : slice_get v.wallets j ≡ Some h
  pub has : HasRequest h q

sender_cases : (k j : ℕ) → (k ≡ j) ⊎ (k ≡ j → ⊥)
sender_cases k j = go (k == j) refl
  where
    go : (b : Bool) → (k == j) ≡ b → (k ≡ j) ⊎ (k ≡ j → ⊥)
    go true e = inl (eqb-true k j e)
    go false e = inr (λ same. let r : (k == k) ≡ false = ap (λ (n : ℕ). k == n) same ∙ e in let t : (k == k) ≡ true = eq-eqb k k refl in cc)

other_sender : (k j : ℕ) → (k ≡ j → ⊥) → ◌≡◌ {A = Option ℕ} (Some k) (Some j) → ⊥
other_sender k j never e = never (same_Some k j e)

none_sender : (j : ℕ) → ◌≡◌ {A = Option ℕ} None (Some j) → ⊥
none_sender j e = cc

pub asked_where : (limits : Limits) (w : World) (Made : Signing → Type 0) (v : World) (j : ℕ) (q : Asked) → IsSetup limits w → Tied limits w Made v → (a : IsAskedIn v.messages q) → IsSentByOther v j q ⊎ IsOurs v j q
asked_where limits w Made v j q setup tied a = go a.message.sender refl (sender_at v.wallets v.messages a.n a.message tied.messages a.sent)
  where
    go : (o : Option ℕ) → a.message.sender ≡ o → IsOfSender v.wallets a.message.sender a.message.bytes → IsSentByOther v j q ⊎ IsOurs v j q
    go None is own = inl (record { n = a.n; message = a.message; sent = a.sent; other = λ e. none_sender j (sym is ∙ e); asks = a.asks })
    go (Some k) is own =
        let mine = subst (λ (o : Option ℕ). IsOfSender v.wallets o a.message.bytes) is own in
        elim (sender_cases k j) [
          | inr never ↦ inl (record { n = a.n; message = a.message; sent = a.sent; other = λ e. other_sender k j never (sym is ∙ e); asks = a.asks })
          | inl same ↦
              let now = wallet_now limits w Made v k mine.h setup tied mine.wallet in
              let asked = own_request mine.p a.message.bytes q (history_asks mine.h mine.n mine.p now.fits mine.request) mine.is a.asks in
              inr (record { h = mine.h; wallet = ap (λ (n : ℕ). slice_get v.wallets n) (sym same) ∙ mine.wallet; has = (mine.n, mine.p, mine.request, asked) })
        ]

-- ---- the law

pub accepted_is_asked : (limits : Limits) (w : World) (Made : Signing → Type 0) (v : World) (i j n : ℕ) (s : State) (h : History) (secret text target : List ℕ) (m price : ℕ) (sign : Option (List ℕ)) (change : Option ℕ) (deed : Deed)
    → IsSetup limits w → Tied limits w Made v → slice_get v.houses i ≡ Some s → is_clear s.history ≡ false → slice_get v.wallets j ≡ Some h → SignsAlone w v j
    → slice_get s.history n ≡ Some (Accept m text target sign price change deed) → Contains (pieces_came h) (record { text = text; secret = secret }) → secret_for (take n s.history) text ≡ Some secret
    → HasRequest h (request_of text target sign)
accepted_is_asked limits w Made v i j n s h secret text target m price sign change deed setup tied house closed wallet alone at stands known =
    let e : Entry = Accept m text target sign price change deed in
    let q : Asked = request_of text target sign in
    let la = lawful_accept limits s.history n m text target sign price change deed (house_lawful limits w Made v i s setup tied house) at in
    let same : la.secret ≡ secret = got_is la.secret secret (secret_for (take n s.history) text) la.known known in
    let signs : q.sign ≡ Some (encode_lower (request_signature text target secret)) = subst (λ (x : List ℕ). q.sign ≡ Some (encode_lower (request_signature text target x))) same (la.signs closed) in
    let under : IsSignedUnder secret q = (text, refl, signs) in
    let here : Contains (map (λ (p : Held). p.secret) (pieces_came h)) secret = contains_map (λ (p : Held). p.secret) (pieces_came h) (record { text = text; secret = secret }) stands in
    let b = two_back (HouseTied limits v.messages) w.houses v.houses i s tied.houses house in
    elim (goes_at (HouseEntry limits v.messages) b.x.history s.history n e b.related.goes at) [
      | inl there ↦ alone h secret q wallet here (inr (record { i = i; s = b.x; n = n; house = b.is; entry = ap (λ (o : Option Entry). option_and_then asked_in o) there })) under
      | inr later ↦ elim (asked_where limits w Made v j q setup tied later.1.came) [
        | inl other ↦ alone h secret q wallet here (inl other) under
        | inr ours ↦ subst (λ (g : History). HasRequest g q) (got_is ours.h h (slice_get v.wallets j) ours.wallet wallet) ours.has
      ]
    ]
