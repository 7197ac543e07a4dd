-- What a house keeps in place of its history, without how it is stored.
use Rattle.std.specs.Prelude.{◌≡◌, ℕ, ◌+◌, ◌-◌, ◌*◌, ◌<◌, ◌≤◌, ◌^◌, ◌==◌, ◌||◌, nat_le, Bool, false, min, List, [], ◌∷◌, ◌++◌, length, is_some, All, IsTrue, IsFalse, IsNone, Option, Some, None, option_map, unwrap_or, MatchOption, IfSome, if◌then◌else◌, bytes_eq}
use Rattle.mc_base.specs.declared.amount.TheConstants.Amount.{MOST}
use Rattle.scrip_form.specs.Identities.{issuer_of, epoch_of, series_of}
use Rattle.scrip_form.specs.Issuing.{Issuing, epoch, series_at, series_end}
use Rattle.scrip_form.specs.Scrip.{Scrip, scrip_body, scrip_text}
use Rattle.scrip_certs.specs.Digests.{certificate, customer_secret}
use Rattle.mc_requests.specs.declared.limits.TheConstants.Limits.{MOST_JOURNAL}
use Rattle.mc_requests.specs.declared.limits.Limits.{Limits}
use Rattle.mc_requests.specs.Limits.{AreInRange}
use Rattle.mc_records.specs.Entry.{Entry, AddTerms, Mint, Upgrade, Switch}
use Rattle.mc_records.specs.Chains.{is_switch}
use Rattle.mc_requests.specs.Requests.{Asked}
use Rattle.mc_records.specs.Sizes.{tail_bytes, framed_size}
use Rattle.ledger_model.specs.Houses.{upgrades_of, version_by, upgrade_by, all_terms, terms_by}
use Rattle.ledger_model.specs.declared.upgraded.Upgraded.{Upgraded}
use Rattle.ledger_model.specs.declared.numbers.TheConstants.{VENDOR_KIND}
use Rattle.kept_replies.specs.declared.deed.Deed.{Deed}
use Rattle.kept_replies.specs.declared.deed.Deed.TheVariants as kept
use Rattle.kept_replies.specs.declared.deed.KeptEntry.{KeptEntry}
use Rattle.kept_replies.specs.Requests.{text_size}
use Rattle.kept_replies.specs.Kept.{KeptReply, KeptView, is_in_time, deed_size}
use Rattle.change_issue.specs.Registers.{Register, has_room, count_in, issued_in, redeemed_in, next_in}
use Rattle.change_issue.specs.IssuedPieces.{issued_piece}
use Rattle.house_state.specs.declared.house_state.TheConstants.{MOST_DEED}
use Rattle.house_state.specs.declared.verdict.Authorization.{Authorization}
use Rattle.house_state.specs.declared.verdict.DrawAuthorization.{DrawAuthorization}
use Rattle.spent_windows.specs.Windows as windows
use Rattle.spent_windows.specs.Windows.{WindowView, is_marked, end_of}

-- The name, whether requests need no signature, the terms of all issuers, and how many more there is room
-- for; its issuers that were moved to version 2, and for how many more there is room; the house time; the windows of
-- the identities that were accepted, the first replies, what was handed out in the house's own series, the takings; the
-- number of entries and the bytes of their journal, and whether a Switch is among them; the limits.
pub record HouseStateView : Type 0 where
  pub name : List ℕ
  pub clear : Bool
  pub terms : List Issuing
  pub terms_room : ℕ
  pub upgrades : List Upgraded
  pub upgrades_room : ℕ
  pub time : ℕ
  pub spent : List WindowView
  pub kept : KeptView
  pub own : Register
  pub takings : ℕ
  pub count : ℕ
  pub size : ℕ
  pub switched : Bool
  pub limits : Limits

-- the end of the series of an identity, by the terms of its issuer
abbrev pub end_by : List Issuing → ℕ → Option ℕ
end_by terms id = option_map (λ x. series_end x (epoch_of id)) (terms_by terms (issuer_of id))

-- whether it has ended at a time. Without terms it has not.
abbrev pub ended_by : List Issuing → ℕ → ℕ → Bool
ended_by terms t id = unwrap_or (option_map (λ end. nat_le end t) (end_by terms id)) false

-- the series that change is handed out in at the house time
abbrev pub series_now : HouseStateView → ℕ
series_now b = series_at b.own.terms b.time

-- the version of each of the house's series
abbrev pub version_of : HouseStateView → ℕ → ℕ
version_of b = version_by b.upgrades

-- a piece in the version of its series, where these issuers were moved
abbrev pub in_version : List Upgraded → Scrip → Scrip
in_version upgrades p = record p { version = version_by upgrades (series_of p.id) }

-- the scrip text of a piece of the house's own
abbrev pub own_scrip : HouseStateView → Scrip → List ℕ
own_scrip b p = scrip_text p (certificate b.own.terms (scrip_body p) p.id)

-- how many bytes the tail of the next entry has
abbrev pub tail_of : HouseStateView → ℕ
tail_of b = tail_bytes b.switched

-- how many bytes the journal has with one entry more, with a payload of so many bytes
abbrev pub size_with : HouseStateView → ℕ → ℕ
size_with b payload_bytes = b.size + framed_size payload_bytes (tail_of b)

-- what is true of every state of a house, whatever its history
pub record IsSound (b : HouseStateView) : Type 0 where
  pub limits : AreInRange b.limits
  pub most : b.own.most ≡ b.limits.series
  pub counted : b.count ≤ b.size
  pub sized : b.size ≤ MOST_JOURNAL
  pub numbers : All (λ r. r.entry.number < b.count) b.kept.replies
  pub in_time : All (λ r. IsTrue (is_in_time b.kept.keep b.time r)) b.kept.replies
  pub redeemed : (series : ℕ) → redeemed_in b.own series ≤ b.count * MOST
  pub takings : b.takings ≤ b.count * MOST
  -- each window ends with its series, which has not ended
  pub ends : (id end : ℕ) → end_of b.spent id ≡ Some end → end_by b.terms id ≡ Some end
  pub alive : (id end : ℕ) → end_of b.spent id ≡ Some end → b.time < end

-- ---- an accepted piece

-- there is room to enter this request with a piece of this identity at the house time, where the texts of the
-- pieces that are kept for its reply have so many bytes
pub record HasRoom (b : HouseStateView) (q : Asked) (pieces id : ℕ) : Type 0 where
  pub spent : IsTrue (windows.has_room b.spent id)
  pub reply : text_size q + pieces < b.kept.room
  pub change : IsTrue (has_room b.own (series_now b))
  pub redeemed : IsTrue (has_room b.own (series_of id))

-- There is change exactly where the value is above the price, with the next identity of a series that is
-- not full.
abbrev pub HasChange : HouseStateView → ℕ → ℕ → Option ℕ → Type 0
HasChange b price value change = MatchOption change (value ≤ price) (λ id. (price < value) × (count_in b.own (series_now b) < b.own.most) × (id ≡ next_in b.own (series_now b)))

-- the change of a piece at a price, under an identity
abbrev pub change_made : HouseStateView → Scrip → ℕ → ℕ → Scrip
change_made b paid price id = in_version b.upgrades (issued_piece b.own.terms b.time b.name (paid.value - price) id (Some paid.cust) paid.props)

-- what is kept of the entry of an authorization
abbrev pub kept_entry : HouseStateView → Scrip → Authorization → KeptEntry
kept_entry b paid a = record {
  number = b.count;
  moment = b.time;
  price = a.price;
  change = option_map (change_made b paid a.price) a.change;
  secret = a.secret;
  deed = a.deed;
}

-- how many bytes the texts of its pieces have, in a house of this name: those of the change are the name of
-- the house and the properties of the piece
abbrev pub pieces_size : List ℕ → Scrip → Authorization → ℕ
pieces_size name paid a = (if is_some a.change then length name + length paid.props else 0) + deed_size a.deed

-- there is room to enter an authorization of this request at the house time
abbrev pub HasRoomToEnter : HouseStateView → Asked → Authorization → Type 0
HasRoomToEnter b q a = HasRoom b q (pieces_size b.name a.scrip.now.piece a) a.scrip.now.piece.id

-- ---- one entry more

-- What an entry brings to the state: the piece that it accepts, the piece that it hands out in the series of the house
-- time, the request with what is kept of the entry for its reply, and what goes to the takings; the terms that it
-- brings, its Upgrade of an issuer, how many pieces of each series it mints, whether it is a Switch, and the bytes of
-- its payload. A draw hands out a piece and accepts none.
pub record Growth : Type 0 where
  pub paid : Option Scrip
  pub handed : Option Scrip
  pub kept : Option KeptReply
  pub takings : ℕ
  pub terms : List Issuing
  pub upgrades : List Upgraded
  pub minted : ℕ → ℕ
  pub switches : Bool
  pub bytes : ℕ

-- a number at one series, 0 at the others
abbrev pub at_series : ℕ → ℕ → ℕ → ℕ
at_series series n s = if series == s then n else 0

-- how many pieces of each series are handed out in this one, and of what worth
abbrev pub count_handed : ℕ → Option Scrip → ℕ → ℕ
count_handed series None s = 0
count_handed series (Some p) s = at_series series 1 s

abbrev pub worth_handed : ℕ → Option Scrip → ℕ → ℕ
worth_handed series None s = 0
worth_handed series (Some p) s = at_series series p.value s

-- what is redeemed of each series with a piece
abbrev pub worth_redeemed : Option Scrip → ℕ → ℕ
worth_redeemed None s = 0
worth_redeemed (Some p) s = at_series (series_of p.id) p.value s

-- the identity of a piece was marked, and the windows end as they did
pub record IsMarkedToo (old new : List WindowView) (p : Scrip) : Type 0 where
  pub marked : (id : ℕ) → is_marked new id ≡ (is_marked old id || (p.id == id))
  pub ends : (id : ℕ) → end_of new id ≡ end_of old id

-- what is kept for repeats, where replies are kept for so many seconds
abbrev pub kept_if : ℕ → KeptReply → Option KeptReply
kept_if keep r = if keep == 0 then None else Some r

-- the same replies are kept
pub record IsKeptAs (old new : KeptView) : Type 0 where
  pub keep : new.keep ≡ old.keep
  pub replies : new.replies ≡ old.replies

-- one reply more is kept
pub record IsKeptToo (old new : KeptView) (r : KeptReply) : Type 0 where
  pub keep : new.keep ≡ old.keep
  pub replies : new.replies ≡ old.replies ++ r ∷ []

-- The state before and after an entry was entered that brings this. What is handed out is of a series with less than
-- 2^24 for its epoch.
pub record IsGrown (old new : HouseStateView) (g : Growth) : Type 0 where
  pub name : new.name ≡ old.name
  pub clear : new.clear ≡ old.clear
  pub terms : new.terms ≡ old.terms ++ g.terms
  pub upgrades : new.upgrades ≡ old.upgrades ++ g.upgrades
  pub time : new.time ≡ old.time
  pub limits : new.limits ≡ old.limits
  pub short : IfSome g.handed (λ p. epoch old.own.terms old.time < 2 ^ 24)
  pub spent : MatchOption g.paid (new.spent ≡ old.spent) (IsMarkedToo old.spent new.spent)
  pub kept : MatchOption g.kept (IsKeptAs old.kept new.kept) (IsKeptToo old.kept new.kept)
  pub issuer : new.own.terms ≡ old.own.terms
  pub most : new.own.most ≡ old.own.most
  pub issued : (s : ℕ) → count_in new.own s ≡ count_in old.own s + count_handed (series_now old) g.handed s + g.minted s
  pub worth : (s : ℕ) → issued_in new.own s ≡ issued_in old.own s + worth_handed (series_now old) g.handed s
  pub redeemed : (s : ℕ) → redeemed_in new.own s ≡ redeemed_in old.own s + worth_redeemed g.paid s
  pub takings : new.takings ≡ old.takings + g.takings
  pub counted : new.count ≡ old.count + 1
  pub sized : new.size ≡ size_with old g.bytes
  pub switched : new.switched ≡ (g.switches || old.switched)

-- how many pieces of change there are, and the worth of it
abbrev pub change_count : Option ℕ → ℕ
change_count None = 0
change_count (Some id) = 1

abbrev pub change_worth : ℕ → ℕ → Option ℕ → ℕ
change_worth price value None = 0
change_worth price value (Some id) = value - price

-- what an authorization of a request with a piece brings
abbrev pub accept_growth : HouseStateView → Asked → Scrip → Authorization → Growth
accept_growth b q paid a = record {
  paid = Some paid;
  handed = option_map (change_made b paid a.price) a.change;
  kept = kept_if b.kept.keep (record { asked = q; entry = kept_entry b paid a });
  takings = min a.price paid.value;
  terms = [];
  upgrades = [];
  minted = λ s. 0;
  switches = false;
  bytes = a.payload;
}

-- the state before and after an authorization of a request with a piece was entered
abbrev pub IsEntered : HouseStateView → HouseStateView → Asked → Scrip → Authorization → Type 0
IsEntered old new q paid a = IsGrown old new (accept_growth old q paid a)

-- ---- a draw

-- there is room to enter a draw by this request at the house time, whatever its piece is
pub record HasRoomToDraw (b : HouseStateView) (q : Asked) : Type 0 where
  pub reply : text_size q + MOST_DEED < b.kept.room
  pub drawn : IsTrue (has_room b.own (series_now b))

-- the piece that is drawn: first-hand, and worth the amount
abbrev pub drawn_made : HouseStateView → DrawAuthorization → Scrip
drawn_made b d = in_version b.upgrades (issued_piece b.own.terms b.time b.name d.amount d.id None [])

-- what is kept of a piece of a house's own that is drawn: the piece, its certificate and the secret of its customer,
-- whose identity is the piece's own
abbrev pub deed_drawn : Issuing → Scrip → Deed
deed_drawn terms p = kept.Draw p (certificate terms (scrip_body p) p.id) (customer_secret terms p.cust p.version)

-- what is kept of the entry of a draw: the amount is its price, and the key of the account signs
abbrev pub kept_draw : HouseStateView → DrawAuthorization → KeptEntry
kept_draw b d = record {
  number = b.count;
  moment = b.time;
  price = d.amount;
  change = None;
  secret = d.key;
  deed = deed_drawn b.own.terms (drawn_made b d);
}

-- what a draw by a request, which has no scrip text, brings
abbrev pub draw_growth : HouseStateView → Asked → DrawAuthorization → Growth
draw_growth b q d = record {
  paid = None;
  handed = Some (drawn_made b d);
  kept = kept_if b.kept.keep (record { asked = q; entry = kept_draw b d });
  takings = 0;
  terms = [];
  upgrades = [];
  minted = λ s. 0;
  switches = false;
  bytes = d.payload;
}

-- the state before and after it was entered
abbrev pub IsDrawn : HouseStateView → HouseStateView → Asked → DrawAuthorization → Type 0
IsDrawn old new q d = IsGrown old new (draw_growth old q d)

-- ---- room

-- the state before and after room was made
pub record IsAsBefore (old new : HouseStateView) : Type 0 where
  pub name : new.name ≡ old.name
  pub clear : new.clear ≡ old.clear
  pub terms : new.terms ≡ old.terms
  pub upgrades : new.upgrades ≡ old.upgrades
  pub time : new.time ≡ old.time
  pub limits : new.limits ≡ old.limits
  pub spent : (id : ℕ) → is_marked new.spent id ≡ is_marked old.spent id
  pub keep : new.kept.keep ≡ old.kept.keep
  pub replies : new.kept.replies ≡ old.kept.replies
  pub issuer : new.own.terms ≡ old.own.terms
  pub most : new.own.most ≡ old.own.most
  pub issued : (s : ℕ) → count_in new.own s ≡ count_in old.own s
  pub worth : (s : ℕ) → issued_in new.own s ≡ issued_in old.own s
  pub redeemed : (s : ℕ) → redeemed_in new.own s ≡ redeemed_in old.own s
  pub takings : new.takings ≡ old.takings
  pub counted : new.count ≡ old.count
  pub sized : new.size ≡ old.size
  pub switched : new.switched ≡ old.switched

-- ---- an entry that accepts nothing

-- how many pieces of a series an entry mints
abbrev pub minted_count : Entry → ℕ → ℕ
minted_count (Mint m reference count value first) s = at_series (series_of first) count s
minted_count _ s = 0

-- there is room to enter such an entry
abbrev pub HasRoomFor : HouseStateView → Entry → Type 0
HasRoomFor b (AddTerms m terms) = 0 < b.terms_room
HasRoomFor b (Upgrade m vendor issuer from) = 0 < b.upgrades_room
HasRoomFor b (Mint m reference count value first) = IsTrue (has_room b.own (series_of first))
HasRoomFor b _ = Unit {0}

-- an issuer of the house that may be moved to version 2 at a moment, from an epoch on
pub record MayMove (b : HouseStateView) (m : ℕ) (vendor : List ℕ) (issuer from : ℕ) : Type 0 where
  pub own : IsTrue (bytes_eq vendor b.name)
  pub new : IsNone (upgrade_by b.upgrades issuer)
  pub coming : MatchOption (terms_by b.terms issuer) ⊥ (λ terms. epoch terms m < from)

-- Minted pieces go on with the serials of the series of their moment, and fit the limit of it. An Upgrade at a vendor,
-- and at a broker one of issuer 0, is of an own issuer that may be moved. A Switch is the first.
abbrev pub GoesOn : HouseStateView → ℕ → Entry → Type 0
GoesOn b kind (Mint m reference count value first) = (first ≡ next_in b.own (series_at b.own.terms m)) × (count_in b.own (series_at b.own.terms m) + count ≤ b.own.most)
GoesOn b kind (Upgrade m vendor issuer from) = IsTrue (kind == VENDOR_KIND || issuer == 0) → MayMove b m vendor issuer from
GoesOn b kind (Switch m c) = IsFalse b.switched
GoesOn b kind _ = Unit {0}

-- what an entry that accepts nothing brings, with a payload of so many bytes
abbrev pub command_growth : List ℕ → Entry → ℕ → Growth
command_growth name e bytes = record {
  paid = None;
  handed = None;
  kept = None;
  takings = 0;
  terms = all_terms (e ∷ []);
  upgrades = upgrades_of (e ∷ []) name;
  minted = minted_count e;
  switches = is_switch e;
  bytes = bytes;
}

-- the state before and after such an entry was entered
abbrev pub IsApplied : HouseStateView → HouseStateView → Entry → ℕ → Type 0
IsApplied old new e bytes = IsGrown old new (command_growth old.name e bytes)
