-- Of one scrip text there is one Accept entry in all houses, and one Done entry that was added in all wallets.
use Rattle.std.proofs.Common.{◌≡◌, inl, inr, ℕ, zero, suc, ◌<◌, true, false, List, [], ◌∷◌, ◌++◌, take, Option, Some, None, refl, sym, ap, subst, ◌∙◌, arith, append_assoc, slice_get, option_map, unwrap_or, bytes_eq}
use Rattle.std.specs.Prelude.{Contains, option_and_then, filter_map}
use Rattle.std.specs.List.{cons_option}
use Rattle.std.proofs.lemmas.Bool.{cases_lt, eq-eqb}
use Rattle.std.proofs.lemmas.Option.{same_Some, option_and_then_some}
use Rattle.std.proofs.lemmas.Slice.Eq.{bytes_eq-Decides}
use Rattle.scrip_form.specs.Scrip.{Scrip}
use Rattle.mc_requests.specs.declared.limits.Limits.{Limits}
use Rattle.mc_records.specs.Entry.{Held, Entry, Accept, Done}
use Rattle.ledger_model.specs.Histories.{History}
use Rattle.ledger_model.specs.Pieces.{piece_of}
use Rattle.ledger_model.specs.Replies.{secret_for}
use Rattle.house_core.specs.Session.{State}
use Rattle.wallet_model.specs.Requests.{Pending, pending_of, pending_in, settles, pays, pays_with}
use Rattle.wallet_model.specs.Follows.{IsWalletBook}
use Rattle.wallet_model.proofs.KeptLaws.{kept_at}
use Rattle.wallet_model.proofs.PaidLaws.{paid_once, settled_is_kept}
use Rattle.world_model.specs.Worlds.{World}
use Rattle.world_model.specs.Signings.{Signing, IsMade, paying_secret, NamesDiffer, PayApart}
use Rattle.world_model.specs.Agreement.{IsSetup, SettledSince, IsAccepted}
use Rattle.world_model.proofs.Lists.{got_is}
use Rattle.world_model.proofs.Tied.{Tied, pending_stays}
use Rattle.world_model.proofs.Steps.{wallet_now}
use Rattle.world_model.proofs.Accepted.{lawful_accept, accepted_once}
use Rattle.world_model.proofs.DoneLaws.{house_lawful}
use Rattle.world_model.proofs.PaidLaws.{paid_accept}

-- ---- one Accept entry

pub accepts_once : (limits : Limits) (w : World) (Made : Signing → Type 0) (v : World) (scrip target other : List ℕ) (price cost i k l m : ℕ) → IsSetup limits w → Tied limits w Made v → NamesDiffer v
    → IsAccepted v scrip target price i k → IsAccepted v scrip other cost l m → (i ≡ l) × (k ≡ m)
accepts_once limits w Made v scrip target other price cost i k l m setup tied names a b =
    let first = house_lawful limits w Made v i a.s setup tied a.house in
    let la = lawful_accept limits a.s.history k a.moment scrip target a.sign price a.change a.deed first a.entry in
    let lb = lawful_accept limits b.s.history m b.moment scrip other b.sign cost b.change b.deed (house_lawful limits w Made v l b.s setup tied b.house) b.entry in
    let piece : la.piece ≡ lb.piece = got_is la.piece lb.piece (piece_of scrip) la.read lb.read in
    let house : i ≡ l = names i l a.s b.s a.house b.house (sym la.vendor ∙ ap (λ (p : Scrip). p.vendor) piece ∙ lb.vendor) in
    let same : b.s ≡ a.s = got_is b.s a.s (slice_get v.houses l) b.house (ap (λ (n : ℕ). slice_get v.houses n) (sym house) ∙ a.house) in
    let entry : slice_get a.s.history m ≡ Some (Accept b.moment scrip other b.sign cost b.change b.deed) = ap (λ (s : State). slice_get s.history m) (sym same) ∙ b.entry in
    (house, accepted_once limits a.s.history k m a.moment b.moment scrip target other a.sign b.sign price cost a.change b.change a.deed b.deed first a.entry entry)

-- ---- a request's secret

contains_filter : {X Y : Type 0} (f : X → Option Y) (xs : List X) (n : ℕ) (x : X) (y : Y) → slice_get xs n ≡ Some x → f x ≡ Some y → Contains (filter_map f xs) y
contains_filter f [] n x y at is = absurd cc
contains_filter {X} {Y} f (z ∷ zs) zero x y at is = subst (λ (o : Option Y). Contains (cons_option o (filter_map f zs)) y) (sym (ap f (same_Some z x at) ∙ is)) (0, omega arith, refl)
contains_filter {X} {Y} f (z ∷ zs) (suc n) x y at is = go (f z) (contains_filter f zs n x y at is)
  where
    go : (o : Option Y) → Contains (filter_map f zs) y → Contains (cons_option o (filter_map f zs)) y
    go None c = c
    go (Some u) c = (suc c.0, (let lt = c.1 in omega (arith, lt)), c.2)

paying_is : (e : Entry) (p : Pending) (scrip : List ℕ) → pending_of e ≡ Some p → p.scrip ≡ Some scrip → paying_secret e ≡ Some p.secret
paying_is e p scrip is paid =
    ap (λ (o : Option Pending). option_and_then (λ q. option_map (λ s. q.secret) q.scrip) o) is ∙ ap (λ (o : Option (List ℕ)). option_map (λ s. p.secret) o) paid

pub pays_under : (h : History) (n : ℕ) (p : Pending) (scrip : List ℕ) → pending_in h n ≡ Some p → p.scrip ≡ Some scrip → Contains (filter_map paying_secret h) p.secret
pays_under h n p scrip is paid =
    option_and_then_some pending_of (slice_get h n) p is (λ e at of. contains_filter paying_secret h n e p.secret at (paying_is e p scrip of paid))

-- ---- two entries of one list

record Parted {X : Type 0} (h : List X) (b : X) : Type 0 where
  front : List X
  after : List X
  is : h ≡ front ++ b ∷ after

parted : {X : Type 0} (h : List X) (m : ℕ) (b : X) → slice_get h m ≡ Some b → Parted h b
parted [] m b at = absurd cc
parted {X} (x ∷ xs) zero b at = record { front = []; after = xs; is = ap (λ (y : X). y ∷ xs) (same_Some x b at) }
parted {X} (x ∷ xs) (suc m) b at =
    let r = parted xs m b at in
    record { front = x ∷ r.front; after = r.after; is = ap (λ (ys : List X). x ∷ ys) r.is }

record PartedTwice {X : Type 0} (h : List X) (a b : X) : Type 0 where
  front : List X
  between : List X
  after : List X
  is : h ≡ front ++ a ∷ (between ++ b ∷ after)

parted_twice : {X : Type 0} (h : List X) (n m : ℕ) (a b : X) → n < m → slice_get h n ≡ Some a → slice_get h m ≡ Some b → PartedTwice h a b
parted_twice [] n m a b lt first second = absurd cc
parted_twice (x ∷ xs) n zero a b lt first second = absurd (omega (arith, lt))
parted_twice {X} (x ∷ xs) zero (suc m) a b lt first second =
    let r = parted xs m b second in
    record { front = []; between = r.front; after = r.after; is = ap (λ (y : X). y ∷ xs) (same_Some x a first) ∙ ap (λ (ys : List X). a ∷ ys) r.is }
parted_twice {X} (x ∷ xs) (suc n) (suc m) a b lt first second =
    let r = parted_twice xs n m a b (omega (arith, lt)) first second in
    record { front = x ∷ r.front; between = r.between; after = r.after; is = ap (λ (ys : List X). x ∷ ys) r.is }

-- ---- one Done entry

pays_at : (h more : History) (e : Entry) (k : ℕ) (p : Pending) (scrip : List ℕ) → IsWalletBook (h ++ e ∷ more) → settles k e ≡ true → pending_in (h ++ e ∷ more) k ≡ Some p → p.scrip ≡ Some scrip → pays_with h k scrip ≡ true
pays_at h more e k p scrip book is request paid =
    let kept = kept_at h k (settled_is_kept h more e k book is) in
    let same : kept.request ≡ p = got_is kept.request p (pending_in (h ++ e ∷ more) k) (pending_stays h (e ∷ more) k kept.request kept.is) request in
    ap (λ (o : Option Pending). unwrap_or (option_map (pays scrip) o) false) kept.is ∙ ap (pays scrip) same
    ∙ ap (λ (o : Option (List ℕ)). unwrap_or (option_map (λ s. bytes_eq s scrip) o) false) paid ∙ (bytes_eq-Decides scrip scrip).1 refl

not_both : (h : History) (n m s t k l price cost : ℕ) (change rest : Option (List ℕ)) (got more : Option Held) (p q : Pending) (scrip : List ℕ) → IsWalletBook h → n < m
    → slice_get h n ≡ Some (Done s k price change got) → slice_get h m ≡ Some (Done t l cost rest more) → pending_in h k ≡ Some p → pending_in h l ≡ Some q → p.scrip ≡ Some scrip → q.scrip ≡ Some scrip → ⊥
not_both h n m s t k l price cost change rest got more p q scrip book lt first second ask other paid again =
    let a : Entry = Done s k price change got in
    let b : Entry = Done t l cost rest more in
    let r = parted_twice h n m a b lt first second in
    let whole : IsWalletBook (r.front ++ a ∷ (r.between ++ b ∷ r.after)) = subst IsWalletBook r.is book in
    let pays_first = pays_at r.front (r.between ++ b ∷ r.after) a k p scrip whole (eq-eqb k k refl) (subst (λ (g : History). pending_in g k ≡ Some p) r.is ask) paid in
    let joined : r.front ++ a ∷ (r.between ++ b ∷ r.after) ≡ (r.front ++ a ∷ r.between) ++ b ∷ r.after = sym (append_assoc r.front (a ∷ r.between) (b ∷ r.after)) in
    let pays_second = pays_at (r.front ++ a ∷ r.between) r.after b l q scrip (subst IsWalletBook joined whole) (eq-eqb l l refl) (subst (λ (g : History). pending_in g l ≡ Some q) (r.is ∙ joined) other) again in
    let never = paid_once r.front r.between r.after s k price change got b l scrip whole pays_first (eq-eqb l l refl) in
    let both : true ≡ false = sym pays_second ∙ never in
    cc

pub done_once : (limits : Limits) (w : World) (v : World) (j l : ℕ) (before now first last : History) (n m : ℕ) (p q : Pending) (scrip : List ℕ) (price cost : ℕ) (change rest : Option (List ℕ)) (got more : Option Held)
    → IsSetup limits w → Tied limits w (IsMade v) v → NamesDiffer v → PayApart v → slice_get w.wallets j ≡ Some before → slice_get v.wallets j ≡ Some now
    → slice_get w.wallets l ≡ Some first → slice_get v.wallets l ≡ Some last
    → SettledSince before now n p price change got → SettledSince first last m q cost rest more → p.scrip ≡ Some scrip → q.scrip ≡ Some scrip → (j ≡ l) × (n ≡ m)
done_once limits w v j l before now first last n m p q scrip price cost change rest got more setup tied names apart was is had has since after paid again =
    let a = paid_accept limits w v j before now n p scrip price change got setup tied was is since paid in
    let b = paid_accept limits w v l first last m q scrip cost rest more setup tied had has after again in
    let one = accepts_once limits w (IsMade v) v scrip p.target q.target price cost a.i a.k b.i b.k setup tied names a.agrees.is b.agrees.is in
    let house : b.agrees.is.s ≡ a.agrees.is.s = got_is b.agrees.is.s a.agrees.is.s (slice_get v.houses b.i) b.agrees.is.house (ap (λ (x : ℕ). slice_get v.houses x) (sym one.0) ∙ a.agrees.is.house) in
    let there : secret_for (take a.k a.agrees.is.s.history) scrip ≡ Some q.secret = ap (λ (x : ℕ). secret_for (take x a.agrees.is.s.history) scrip) one.1 ∙ ap (λ (s : State). secret_for (take b.k s.history) scrip) (sym house) ∙ b.known in
    let secret : p.secret ≡ q.secret = got_is p.secret q.secret (secret_for (take a.k a.agrees.is.s.history) scrip) a.known there in
    let wallet : j ≡ l = apart j l now last p.secret is has (pays_under now since.number p scrip since.request paid) (subst (Contains (filter_map paying_secret last)) (sym secret) (pays_under last after.number q scrip after.request again)) in
    let same : last ≡ now = got_is last now (slice_get v.wallets l) has (ap (λ (x : ℕ). slice_get v.wallets x) (sym wallet) ∙ is) in
    let book = (wallet_now limits w (IsMade v) v j now setup tied is).lawful in
    let done : slice_get now m ≡ Some (Done after.moment after.number cost rest more) = subst (λ (h : History). slice_get h m ≡ Some (Done after.moment after.number cost rest more)) same after.done in
    let asked : pending_in now after.number ≡ Some q = subst (λ (h : History). pending_in h after.number ≡ Some q) same after.request in (
      wallet,
      elim (cases_lt n m) [
        | inl lt ↦ absurd (not_both now n m since.moment after.moment since.number after.number price cost change rest got more p q scrip book lt since.done done since.request asked paid again)
        | inr le ↦ elim (cases_lt m n) [
          | inl lt ↦ absurd (not_both now m n after.moment since.moment after.number since.number cost price rest change more got q p scrip book lt done since.done asked since.request again paid)
          | inr ge ↦ omega (arith, le, ge)
        ]
      ],
    )
