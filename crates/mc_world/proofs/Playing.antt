-- A schedule from its setup on, event by event.
use Rattle.std.proofs.Common.{◌≡◌, ℕ, ◌+◌, ◌<◌, ◌≤◌, ◌^◌, List, [], ◌∷◌, ◌++◌, length, map, take, Option, Some, None, Result, Ok, Err, refl, sym, ap, subst, ◌∙◌, slice_get}
use Rattle.std.specs.Prelude.{IfOk, IfSome, option_map, slice_index_or}
use Rattle.std.proofs.lemmas.Option.{same_Some}
use Rattle.std.specs.List.{AllByRecursion}
use Rattle.mc_requests.specs.declared.limits.Limits.{Limits}
use Rattle.mc_records.specs.Entry.{Entry, Fits, payload}
use Rattle.mc_records.specs.Sizes.{size}
use Rattle.ledger_model.specs.Histories.{History}
use Rattle.ledger_model.specs.Lawful.{IsLawful}
use Rattle.wallet_model.specs.Follows.{IsWalletBook}
use Rattle.world_model.specs.Worlds.{World, Event, HasBytes, opens, Happens, Plays}
use Rattle.world_model.specs.Agreement.{IsHouseSetup, IsBookOfWallet, IsSetup}
use Rattle.world_model.proofs.Theorems.{stay_lawful, stay_balanced, done_is_accepted, accepted_text_once, done_stands_once, done_was_drawn, pieces_stand_once, accepted_was_asked, drawn_was_asked, repeats_settle}
use Rattle.world_model.proofs.Walks.{plays_snoc}
use Rattle.mc_world.specs.declared.event.Setup.{Setup}
use Rattle.mc_world.specs.declared.event.Event.{Event as Happening}
use Rattle.mc_world.specs.declared.world.World.{World as Left}
use Rattle.mc_world.specs.Games.{IsReadEntry, IsRead, IsLawfulSetup, first_world, event_of, Shows, IsPlayed}
use Rattle.mc_world.proofs.Fronts.{take_snoc, take_whole, map_snoc, all_more}
use Rattle.mc_world.proofs.Happening.{get_at}

-- ---- what was read

pub read_more : (h : History) (n : ℕ) (bytes : List ℕ) → Some bytes ≡ option_map payload (slice_get h n) → IfSome (slice_get h n) Fits → ((e : Entry) → bytes ≡ payload e → HasBytes e)
    → AllByRecursion IsReadEntry (take n h) → AllByRecursion IsReadEntry (take (n + 1) h)
read_more h n bytes is fits secrets all = by (slice_get h n) refl is fits
  where
    by : (o : Option Entry) → slice_get h n ≡ o → Some bytes ≡ option_map payload o → IfSome o Fits → AllByRecursion IsReadEntry (take (n + 1) h)
    by None at is fits = absurd cc
    by (Some e) at is fits = all_more IsReadEntry h n e at all (record { fits = fits; secrets = secrets e (same_Some bytes (payload e) is) })

fits_of : (h : History) → IsRead h → AllByRecursion Fits h
fits_of [] read = tt
fits_of (e ∷ es) read = (read.0.fits, fits_of es read.1)

bytes_of : (h : History) → IsRead h → AllByRecursion HasBytes h
bytes_of [] read = tt
bytes_of (e ∷ es) read = (read.0.secrets, bytes_of es read.1)

pub all_fit : (hs : List History) → AllByRecursion IsRead hs → AllByRecursion (λ h. AllByRecursion Fits h) hs
all_fit [] read = tt
all_fit (h ∷ hs) read = (fits_of h read.0, all_fit hs read.1)

-- ---- the setup

house_setups : (limits : Limits) (hs : List History) → AllByRecursion (λ h. IsLawful limits h × (size h ≤ 2 ^ 40)) hs → AllByRecursion IsRead hs → AllByRecursion (IsHouseSetup limits) (map opens hs)
house_setups limits [] lawful read = tt
house_setups limits (h ∷ hs) lawful read =
    (record { book = record { fits = fits_of h read.0; secrets = bytes_of h read.0; lawful = lawful.0.0; most = lawful.0.1 }; opened = refl }, house_setups limits hs lawful.1 read.1)

wallet_setups : (hs : List History) → AllByRecursion (λ h. IsWalletBook h × (size h ≤ 2 ^ 40)) hs → AllByRecursion IsRead hs → AllByRecursion IsBookOfWallet hs
wallet_setups [] lawful read = tt
wallet_setups (h ∷ hs) lawful read = (record { fits = fits_of h read.0; lawful = lawful.0.0; most = lawful.0.1 }, wallet_setups hs lawful.1 read.1)

pub is_setup : (setup : Setup) → IsLawfulSetup setup → AllByRecursion IsRead setup.houses.items → AllByRecursion IsRead setup.wallets.items → IsSetup setup.limits (first_world setup)
is_setup setup lawful houses wallets = record {
  range = lawful.range;
  houses = house_setups setup.limits setup.houses.items lawful.houses houses;
  wallets = wallet_setups setup.wallets.items lawful.wallets wallets;
  no_messages = refl;
  no_replies = refl;
}

-- ---- an event

pub played_more : (limits : Limits) (w x y : World) (es : List Happening) (i : ℕ) (e : Happening) → i < length es → e ≡ slice_index_or es i e → Plays limits w (map event_of (take i es)) x → Happens limits x (event_of e) y
    → Plays limits w (map event_of (take (i + 1) es)) y
played_more limits w x y es i e lt is plays happens =
    let here : map event_of (take (i + 1) es) ≡ map event_of (take i es) ++ event_of e ∷ [] = ap (map event_of) (take_snoc es i e (get_at es i e lt is)) ∙ map_snoc event_of (take i es) e in
    subst (λ (l : List Event). Plays limits w l y) (sym here) (plays_snoc limits w (map event_of (take i es)) x (event_of e) y plays happens)

pub played_whole : (limits : Limits) (w x : World) (es : List Happening) (i : ℕ) → length es ≤ i → Plays limits w (map event_of (take i es)) x → Plays limits w (map event_of es) x
played_whole limits w x es i le plays = subst (λ (l : List Happening). Plays limits w (map event_of l) x) (take_whole es i le) plays

-- ---- the end

pub is_played : (limits : Limits) (w v : World) (es : List Event) (left : Left) → IsSetup limits w → Plays limits w es v → Shows left v → IsPlayed limits w es left
is_played limits w v es left setup plays shows = record {
  v = v;
  plays = plays;
  shows = shows;
  lawful = stay_lawful limits w v es setup plays;
  balanced = stay_balanced limits w v es setup plays;
  pieces = pieces_stand_once limits w v es setup plays;
  repeats = repeats_settle limits w v es setup plays;
  agree = λ sound. record {
    done = done_is_accepted limits w v es setup plays sound.made;
    accepted = accepted_text_once limits w v es setup plays sound.names;
    once = done_stands_once limits w v es setup plays sound.made sound.names sound.apart;
    drawn = done_was_drawn limits w v es setup plays sound.made;
    asked = accepted_was_asked limits w v es setup plays;
    ordered = drawn_was_asked limits w v es setup plays;
  };
}

pub if_ok : {A B : Type 0} (P Q : A → Type 0) (r : Result A B) → ((x : A) → P x → Q x) → IfOk r P → IfOk r Q
if_ok P Q (Ok x) f p = f x p
if_ok P Q (Err e) f p = p
