-- Each event keeps histories and messages tied.
use Rattle.std.proofs.Common.{◌≡◌, inl, inr, ℕ, ◌<◌, ◌≤◌, ◌^◌, Bool, true, false, cond, List, [], ◌∷◌, ◌++◌, length, Option, Some, None, Ok, refl, sym, ap, subst, ◌∙◌, arith, slice_get}
use Rattle.std.specs.Prelude.{◌==◌, max, option_and_then, slice_set}
use Rattle.std.specs.List.{AllByRecursion}
use Rattle.std.proofs.lemmas.Bool.{eqb-true}
use Rattle.mc_requests.specs.declared.limits.Limits.{Limits}
use Rattle.mc_requests.specs.declared.limits.TheConstants.Limits.{MOST_JOURNAL}
use Rattle.mc_records.specs.Sizes.{size}
use Rattle.mc_records.specs.Entry.{Entry, Done, Refused, Fits, moment_of}
use Rattle.ledger_model.specs.Histories.{History, time}
use Rattle.ledger_model.specs.Answer.{fitted}
use Rattle.ledger_model.proofs.ListLaws.{all_append}
use Rattle.ledger_model.proofs.TableLaws.{fitted_ok}
use Rattle.ledger_model.proofs.FollowLaws.{size_snoc}
use Rattle.house_core.specs.Session.{State, raised}
use Rattle.millicent_http.specs.Received.{Received}
use Rattle.wallet_model.specs.Requests.{Pending, pending_of, pending_in, is_kept}
use Rattle.wallet_model.specs.Holdings.{texts_came}
use Rattle.wallet_model.specs.Asks.{Asking, request_bytes}
use Rattle.wallet_model.specs.Settling.{change_came, done_entry, is_proved, check_of, refusal_number, settlement}
use Rattle.wallet_model.proofs.BookLaws.{book_grows}
use Rattle.wallet_model.proofs.FitLaws.{settlement_fits, requests_have}
use Rattle.wallet_model.proofs.PaidLaws.{kept_below}
use Rattle.wallet_model.proofs.WrittenLaws.{settlement_follows, pend_follows}
use Rattle.world_model.specs.Worlds.{HasBytes, World, Message, Event, Enter, Ask, Again, Forge, Tell, Deliver, Return, Restart, Read, clamped, wallet_time, with_message, with_reply, Enters, Asks, SendsAgain, Delivers, Meets, Returns, Restarts, Reads, Does, Happens}
use Rattle.world_model.specs.Signings.{Signing, signing_asked}
use Rattle.world_model.specs.Agreement.{IsHouseSetup, IsBookOfWallet, IsSetup}
use Rattle.world_model.proofs.Lists.{get_last, AllTwo, two_of, two_set, two_weaker, two_back, set_here, all_get, goes_none, goes_more, goes_grown}
use Rattle.world_model.proofs.Tied.{HouseEntry, HouseTied, Settles, WalletEntry, WalletTied, Tied, senders_stay, one_more_sender, house_stays, none_sent}
use Rattle.world_model.proofs.HouseSteps.{time_snoc, command_came, items_in, house_items}
use Rattle.world_model.proofs.Targets.{targets_of}
use Rattle.world_model.proofs.WalletFits.{fits_moment, fits_time, number_is_long, pend_fits, can_ask, proved_of}
use Rattle.world_model.proofs.Oldest.{oldest_is}
use Rattle.world_model.proofs.Signed.{no_refusal}

-- ---- wallets at a point

now_step : (Made : Signing → Type 0) (h : History) (e : Entry) → IsBookOfWallet h → WalletEntry Made h e → IsBookOfWallet (h ++ e ∷ [])
now_step Made h e now x = record { lawful = book_grows h e now.lawful x.follows; fits = all_append Fits h (e ∷ []) now.fits (x.fits, tt); most = x.small }

pub now_grown : (Made : Signing → Type 0) (a b : History) → IsBookOfWallet a → WalletTied Made a b → IsBookOfWallet b
now_grown Made a b book tied = goes_grown IsBookOfWallet (WalletEntry Made) (now_step Made) a b book tied

pub wallet_now : (limits : Limits) (w : World) (Made : Signing → Type 0) (v : World) (j : ℕ) (h : History) → IsSetup limits w → Tied limits w Made v → slice_get v.wallets j ≡ Some h → IsBookOfWallet h
wallet_now limits w Made v j h setup tied is =
    let b = two_back (WalletTied Made) w.wallets v.wallets j h tied.wallets is in
    now_grown Made b.x h (all_get IsBookOfWallet w.wallets j b.x setup.wallets b.is) b.related

-- ---- what settles

settles_none : (Made : Signing → Type 0) (h : History) (e : Entry) (p : Pending) → pending_of e ≡ Some p → Settles Made h e
settles_none Made h (Done m n price change got) p is = absurd cc
settles_none Made h e p is = tt

settlement_settles : (Made : Signing → Type 0) (h : History) (t n : ℕ) (p : Pending) (r : Received) → is_kept h n ≡ true → pending_in h n ≡ Some p → check_of p r ≡ None
    → (r.status ≡ 200 → r.refusal ≡ None) → (r.status ≡ 200 → Made (signing_asked p r)) → Settles Made h (settlement h t n p r)
unfolding settlement
settlement_settles Made h t n p r kept request checked none made = go (r.status == 200) refl
  where
    go : (b : Bool) → (r.status == 200) ≡ b → Settles Made h (cond b (done_entry h t n p r (change_came (texts_came h) r.change)) (Refused t n (refusal_number r.refusal)))
    go true e = record {
      n = n;
      p = p;
      r = r;
      t = t;
      kept = kept;
      request = request;
      status = eqb-true r.status 200 e;
      unrefused = none (eqb-true r.status 200 e);
      checked = checked;
      is = ap (λ (c : Bool). cond c (done_entry h t n p r (change_came (texts_came h) r.change)) (Refused t n (refusal_number r.refusal))) e;
      made = made (eqb-true r.status 200 e);
    }
    go false e = tt

-- an entry that fits leaves a history that a journal can hold
fitted_small : (limits : Limits) (h : History) (e : Entry) → limits.journal ≤ MOST_JOURNAL → fitted h limits e ≡ Ok e → size (h ++ e ∷ []) ≤ 2 ^ 40
fitted_small limits h e small room = let is = size_snoc h e in let most = (fitted_ok h limits e e room).1 in omega (arith, is, most, small)

-- ---- events

-- what is known of the signature of a reply that an event returns
abbrev pub MadeAt : (Signing → Type 0) → World → Event → Type 0
MadeAt Made v (Return k j n reading) = (h : History) (p : Pending) (r : Received) → Meets v k j n h p r → r.status ≡ 200 → is_proved p r ≡ true → Made (signing_asked p r)
MadeAt Made v _ = Unit {0}

reading_below : (h : History) (reading : ℕ) → AllByRecursion Fits h → wallet_time h reading < 2 ^ 35
reading_below h reading all = let below = fits_time h all in omega (arith, below)

time_kept : (h : History) (reading : ℕ) → time h ≤ wallet_time h reading
time_kept h reading = omega arith

enter_step : (limits : Limits) (w : World) (Made : Signing → Type 0) (v x : World) (i : ℕ) (bytes : List ℕ) → IsSetup limits w → Tied limits w Made v → Enters limits v i bytes x → Tied limits w Made x
enter_step limits w Made v x i bytes setup tied a =
    let s : State = record { history = a.s.history ++ a.e ∷ []; time = max a.s.time (moment_of a.e) } in
    subst (Tied limits w Made) (sym a.after) (record {
      houses = two_set (HouseTied limits v.messages) w.houses v.houses i a.s s tied.houses a.house (λ b r. record {
        goes = goes_more (HouseEntry limits v.messages) b.history a.s.history a.e r.goes (record { follows = a.follows; fits = a.fits; secrets = a.secrets; came = command_came v.messages a.e a.command });
        all = all_append Fits a.s.history (a.e ∷ []) r.all (a.fits, tt);
        secrets = all_append HasBytes a.s.history (a.e ∷ []) r.secrets (a.secrets, tt);
        most = fitted_small limits a.s.history a.e setup.range.journal_most a.room;
        in_time = (let le = r.in_time in omega (arith, le, time_snoc a.s.history a.e));
        moment = (let lt = r.moment in omega (arith, lt, fits_moment a.e a.fits));
      });
      wallets = tied.wallets;
      messages = tied.messages;
    })

more_houses : (limits : Limits) (ms : List Message) (m : Message) (ss ts : List State) → AllTwo (HouseTied limits ms) ss ts → AllTwo (HouseTied limits (ms ++ m ∷ [])) ss ts
more_houses limits ms m ss ts two = two_weaker (HouseTied limits ms) (HouseTied limits (ms ++ m ∷ [])) ss ts (λ s t r. house_stays limits ms (m ∷ []) s t r) two

ask_step : (limits : Limits) (w : World) (Made : Signing → Type 0) (v x : World) (j : ℕ) (asking : Asking) (reading : ℕ) → IsSetup limits w → Tied limits w Made v → Asks limits v j asking reading x → Tied limits w Made x
ask_step limits w Made v x j asking reading setup tied a =
    let now = wallet_now limits w Made v j a.h setup tied a.wallet in
    let m : Message = record { bytes = request_bytes a.p; sender = Some j } in
    let t : ℕ = wallet_time a.h reading in
    let ws : List History = slice_set v.wallets j (a.h ++ a.e ∷ []) in
    subst (Tied limits w Made) (sym a.after) (record {
      houses = more_houses limits v.messages m w.houses v.houses tied.houses;
      wallets = two_set (WalletTied Made) w.wallets v.wallets j a.h (a.h ++ a.e ∷ []) tied.wallets a.wallet (λ b r. goes_more (WalletEntry Made) b a.h a.e r (record {
        follows = pend_follows a.h t asking a.e now.lawful (time_kept a.h reading) (can_ask asking a.can) a.pends;
        fits = pend_fits a.h t asking a.e now.fits (reading_below a.h reading now.fits) a.can a.pends;
        small = fitted_small limits a.h a.e setup.range.journal_most a.room;
        settles = settles_none Made a.h a.e a.p a.asked;
      }));
      messages = one_more_sender ws v.messages m (senders_stay v.wallets j a.h (a.e ∷ []) v.messages a.wallet tied.messages) (record {
        h = a.h ++ a.e ∷ [];
        n = length a.h;
        p = a.p;
        wallet = set_here v.wallets j a.h (a.h ++ a.e ∷ []) a.wallet;
        request = ap (λ (o : Option Entry). option_and_then pending_of o) (get_last a.h a.e) ∙ a.asked;
        is = refl;
      });
    })

again_step : (limits : Limits) (w : World) (Made : Signing → Type 0) (v x : World) (j : ℕ) (peer : List ℕ) → Tied limits w Made v → SendsAgain v j peer x → Tied limits w Made x
again_step limits w Made v x j peer tied a =
    let m : Message = record { bytes = request_bytes a.p; sender = Some j } in
    subst (Tied limits w Made) (sym a.after) (record {
      houses = more_houses limits v.messages m w.houses v.houses tied.houses;
      wallets = tied.wallets;
      messages = one_more_sender v.wallets v.messages m tied.messages (record {
        h = a.h;
        n = a.number;
        p = a.p;
        wallet = a.wallet;
        request = (oldest_is a.h peer a.number a.p a.oldest).request;
        is = refl;
      });
    })

forge_step : (limits : Limits) (w : World) (Made : Signing → Type 0) (v x : World) (bytes : List ℕ) → Tied limits w Made v → x ≡ with_message v bytes None → Tied limits w Made x
forge_step limits w Made v x bytes tied after =
    let m : Message = record { bytes = bytes; sender = None } in
    subst (Tied limits w Made) (sym after) (record {
      houses = more_houses limits v.messages m w.houses v.houses tied.houses;
      wallets = tied.wallets;
      messages = one_more_sender v.wallets v.messages m tied.messages tt;
    })

tell_step : (limits : Limits) (w : World) (Made : Signing → Type 0) (v x : World) (bytes : List ℕ) → Tied limits w Made v → x ≡ with_reply v bytes → Tied limits w Made x
tell_step limits w Made v x bytes tied after = subst (Tied limits w Made) (sym after) (record { houses = tied.houses; wallets = tied.wallets; messages = tied.messages })

deliver_step : (limits : Limits) (w : World) (Made : Signing → Type 0) (v x : World) (m i reading : ℕ) → IsSetup limits w → Tied limits w Made v → Delivers limits v m i reading x → Tied limits w Made x
deliver_step limits w Made v x m i reading setup tied a =
    subst (Tied limits w Made) (sym a.after) (record {
      houses = two_set (HouseTied limits v.messages) w.houses v.houses i a.s _ tied.houses a.house
          (λ b r. house_items limits v.messages b a.s (clamped reading) a.items setup.range (omega arith) (items_in v.messages m a.message a.items [] a.items a.sent a.heads (targets_of a.message.bytes a.items a.heads) refl) r);
      wallets = tied.wallets;
      messages = tied.messages;
    })

return_step : (limits : Limits) (w : World) (Made : Signing → Type 0) (v x : World) (k j n reading : ℕ) → IsSetup limits w → MadeAt Made v (Return k j n reading) → Tied limits w Made v
    → Returns limits v k j n reading x → Tied limits w Made x
return_step limits w Made v x k j n reading setup made tied a =
    let now = wallet_now limits w Made v j a.h setup tied a.meets.wallet in
    let t : ℕ = wallet_time a.h reading in
    let e : Entry = settlement a.h t n a.p a.r in
    subst (Tied limits w Made) (sym a.after) (record {
      houses = tied.houses;
      wallets = two_set (WalletTied Made) w.wallets v.wallets j a.h (a.h ++ e ∷ []) tied.wallets a.meets.wallet (λ b r. goes_more (WalletEntry Made) b a.h e r (record {
        follows = settlement_follows a.h t n a.p a.r now.lawful (time_kept a.h reading) a.meets.kept;
        fits = settlement_fits a.h t n a.p a.r (reading_below a.h reading now.fits) (number_is_long a.h n limits e (kept_below a.h n a.meets.kept) setup.range.journal_most a.room)
            (requests_have a.h n a.p now.lawful a.meets.request) a.checked;
        small = fitted_small limits a.h e setup.range.journal_most a.room;
        settles = settlement_settles Made a.h t n a.p a.r a.meets.kept a.meets.request a.checked (λ status. no_refusal a.meets.bytes a.r a.meets.reads status) (λ status. made a.h a.p a.r a.meets status (proved_of a.p a.r a.checked));
      }));
      messages = senders_stay v.wallets j a.h (e ∷ []) v.messages a.meets.wallet tied.messages;
    })

restart_step : (limits : Limits) (w : World) (Made : Signing → Type 0) (v x : World) (i : ℕ) → Tied limits w Made v → Restarts v i x → Tied limits w Made x
restart_step limits w Made v x i tied a =
    let s : State = record { history = a.s.history; time = time a.s.history } in
    subst (Tied limits w Made) (sym a.after) (record {
      houses = two_set (HouseTied limits v.messages) w.houses v.houses i a.s s tied.houses a.house (λ b r. record { goes = r.goes; all = r.all; secrets = r.secrets; most = r.most; in_time = omega arith; moment = (let le = r.in_time in let lt = r.moment in omega (arith, le, lt)) });
      wallets = tied.wallets;
      messages = tied.messages;
    })

read_step : (limits : Limits) (w : World) (Made : Signing → Type 0) (v x : World) (i reading : ℕ) → Tied limits w Made v → Reads v i reading x → Tied limits w Made x
read_step limits w Made v x i reading tied a =
    let s : State = raised a.s (clamped reading) in
    subst (Tied limits w Made) (sym a.after) (record {
      houses = two_set (HouseTied limits v.messages) w.houses v.houses i a.s s tied.houses a.house (λ b r. record { goes = r.goes; all = r.all; secrets = r.secrets; most = r.most; in_time = (let le = r.in_time in omega (arith, le)); moment = (let lt = r.moment in omega (arith, lt)) });
      wallets = tied.wallets;
      messages = tied.messages;
    })

does_step : (limits : Limits) (w : World) (Made : Signing → Type 0) (v x : World) (e : Event) → IsSetup limits w → MadeAt Made v e → Tied limits w Made v → Does limits v e x → Tied limits w Made x
does_step limits w Made v x (Enter i bytes) setup made tied does = enter_step limits w Made v x i bytes setup tied does
does_step limits w Made v x (Ask j asking reading) setup made tied does = ask_step limits w Made v x j asking reading setup tied does
does_step limits w Made v x (Again j peer) setup made tied does = again_step limits w Made v x j peer tied does
does_step limits w Made v x (Forge bytes) setup made tied does = forge_step limits w Made v x bytes tied does
does_step limits w Made v x (Tell bytes) setup made tied does = tell_step limits w Made v x bytes tied does
does_step limits w Made v x (Deliver m i reading) setup made tied does = deliver_step limits w Made v x m i reading setup tied does
does_step limits w Made v x (Return k j n reading) setup made tied does = return_step limits w Made v x k j n reading setup made tied does
does_step limits w Made v x (Restart i) setup made tied does = restart_step limits w Made v x i tied does
does_step limits w Made v x (Read i reading) setup made tied does = read_step limits w Made v x i reading tied does

pub happens_step : (limits : Limits) (w : World) (Made : Signing → Type 0) (v x : World) (e : Event) → IsSetup limits w → MadeAt Made v e → Tied limits w Made v → Happens limits v e x → Tied limits w Made x
happens_step limits w Made v x e setup made tied happens = elim happens [
  | inl does ↦ does_step limits w Made v x e setup made tied does
  | inr none ↦ subst (Tied limits w Made) (sym none.same) tied
]

-- ---- the beginning

pub tied_first : (limits : Limits) (w : World) (Made : Signing → Type 0) → IsSetup limits w → Tied limits w Made w
tied_first limits w Made setup = record {
  houses = two_of (HouseTied limits w.messages) (IsHouseSetup limits) w.houses setup.houses (λ s b. record { goes = goes_none (HouseEntry limits w.messages) s.history; all = b.book.fits; secrets = b.book.secrets; most = b.book.most; in_time = (let is = b.opened in omega (arith, is)); moment = (let is = b.opened in omega (arith, is, fits_time s.history b.book.fits)) });
  wallets = two_of (WalletTied Made) IsBookOfWallet w.wallets setup.wallets (λ h b. goes_none (WalletEntry Made) h);
  messages = none_sent w.wallets w.messages setup.no_messages;
}
