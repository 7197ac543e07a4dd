-- The first reply of an entry that holds a request settles the request.
use Rattle.std.proofs.Common.{◌≡◌, ℕ, zero, suc, ◌-◌, ◌<◌, ◌≤◌, ◌^◌, Bool, true, false, cond, List, [], ◌∷◌, ◌++◌, length, take, Option, Some, None, Result, Ok, Err, refl, sym, ap, subst, ◌∙◌, arith, append_assoc, slice_get, option_map, unwrap_or, ltb, filter}
use Rattle.std.specs.Prelude.{◌==◌, codes, decimal, bytes_eq, option_and_then, IfSome, All, slice_index_or}
use Rattle.std.specs.List.{AllByRecursion, last_or}
use Rattle.std.proofs.lemmas.Bool.{ltb-true, ltb-false, eq-eqb}
use Rattle.std.proofs.lemmas.Slice.Eq.{bytes_eq-Decides}
use Rattle.std.proofs.lemmas.Fmt.{length-decimal-le}
use Rattle.std.proofs.lemmas.List.{length-append}
use Rattle.std.proofs.lemmas.Option.{same_Some}
use Rattle.httpdate.specs.declared.parts.Parts.{Parts}
use Rattle.httpdate.specs.Text.{day_name, month_name, imf_fixdate}
use Rattle.scrip_form.specs.Identities.{series_of}
use Rattle.scrip_form.specs.Scrip.{Scrip, IsPiece, IsTextOf, IsScripText, text_version}
use Rattle.scrip_form.proofs.TextTests.{scrip_is_short}
use Rattle.scrip_certs.specs.Digests.{line, request_text, reply_signature}
use Rattle.scrip_certs.proofs.DigestLaws.{length-digest, digest_below}
use Rattle.mc_requests.specs.declared.limits.Limits.{Limits}
use Rattle.mc_records.specs.declared.ranges.TheConstants.{MOST_CONTENTS}
use Rattle.mc_requests.specs.Dates.{parts_of, date_of}
use Rattle.mc_requests.specs.Errands as errands
use Rattle.mc_requests.specs.Errands.{Errand, errand_of}
use Rattle.mc_requests.specs.Requests.{Asked}
use Rattle.mc_records.specs.Entry.{Held, Deed, goods_deed, sale, credit, Entry, Goods, Accept, Draw, Fits}
use Rattle.mc_requests.specs.Replies.{Reply, or_dash, media_type, reply_head, reply_text}
use Rattle.ledger_model.specs.Histories.{History}
use Rattle.ledger_model.specs.Houses.{site_name, upgrades_of}
use Rattle.ledger_model.specs.Goods.{is_goods_of, goods_in, goods_contents}
use Rattle.ledger_model.specs.Lines.{Stop}
use Rattle.ledger_model.specs.Stages.{needed}
use Rattle.ledger_model.specs.Lawful.{unbounded, request_of, IsAllowed, IsLawful}
use Rattle.ledger_model.specs.Orders.{Order, order_of, as_order, order_amount}
use Rattle.ledger_model.specs.Accounts.{order_key}
use Rattle.ledger_model.specs.Pieces.{piece_of, change_from, change_piece, first_hand, drawn_piece}
use Rattle.ledger_model.specs.Answer.{next_own, answer}
use Rattle.ledger_model.specs.Replies.{Contents, no_contents, goods_brought, sale_brought, held_contents, contents_if, own_held, brought, contents_after, taken_values, own_text, own_certificate, secret_for, taken_reply, reply_of}
use Rattle.ledger_model.proofs.AcceptLaws.{accept_through, offer_below}
use Rattle.ledger_model.proofs.ReplyLaws.{own_reply}
use Rattle.millicent_http.specs.Items.{max_head}
use Rattle.millicent_http.specs.Received.{Received}
use Rattle.reply_reader.specs.Replies.{IsReply}
use Rattle.reply_reader.specs.Written.{IsSiteReply}
use Rattle.reply_reader.proofs.BackLemmas.{reads_back}
use Rattle.wallet_model.specs.Requests.{Pending}
use Rattle.wallet_model.specs.Asks.{asked_by}
use Rattle.wallet_model.specs.Settling.{is_paid_by, is_piece_of, brings_bought, brings_drawn, brings_asked}
use Rattle.wallet_model.proofs.WrittenLaws.{filtered_all}
use Rattle.world_model.specs.Worlds.{HasBytes, World}
use Rattle.world_model.specs.Signings.{Signing, change_of}
use Rattle.world_model.specs.Agreement.{IsSetup, IsSale, IsHeldBy, IsSettling, RepliesSettle}
use Rattle.world_model.proofs.Lists.{all_get, two_back}
use Rattle.world_model.proofs.Tied.{HouseTied, Tied}
use Rattle.world_model.proofs.Oldest.{oldest_is}
use Rattle.world_model.proofs.Steps.{wallet_now}
use Rattle.world_model.proofs.DoneLaws.{house_lawful}
use Rattle.world_model.proofs.SoldLaws.{IsLineOf, line_brings, hex_length, line_few, sold_of}
use Rattle.world_model.proofs.Accepted.{may_at, name_at, genuine_ok, piece_is, piece_ranges}
use Rattle.world_model.proofs.Repeats.{nothing_taken, parted_at, NoneWhereDraw, draws_pay_none}
use Rattle.world_model.proofs.OwnPieces.{OwnTerms, own_terms, in_a_version, own_text_of, read_back}
use Rattle.world_model.proofs.DrawLaws.{front_lawful, all_front, drawn_of}
use Rattle.world_model.proofs.Checks.{told, told_proved, told_fits, passes, whole_paid, part_paid}

-- ---- the length of a head

name_short : (names : List (List ℕ)) (k : ℕ) → AllByRecursion (λ n. length n ≤ 3) names → length (slice_index_or names k []) ≤ 3
name_short [] k all = omega arith
name_short (n ∷ ns) zero all = all.0
name_short (n ∷ ns) (suc k) all = name_short ns k all.1

date_short : (m : ℕ) → length (date_of m) ≤ 40
unfolding date_of
date_short m = go (parts_of m)
  where
    go : (p : Parts) → length (imf_fixdate p) ≤ 40
    go p =
        let day : length (day_name p.wday) ≤ 3 = name_short (codes "Mon" ∷ codes "Tue" ∷ codes "Wed" ∷ codes "Thu" ∷ codes "Fri" ∷ codes "Sat" ∷ codes "Sun" ∷ []) (p.wday - 1) (omega arith, (omega arith, (omega arith, (omega arith, (omega arith, (omega arith, (omega arith, tt))))))) in
        let month : length (month_name p.mon) ≤ 3 = name_short (codes "Jan" ∷ codes "Feb" ∷ codes "Mar" ∷ codes "Apr" ∷ codes "May" ∷ codes "Jun" ∷ codes "Jul" ∷ codes "Aug" ∷ codes "Sep" ∷ codes "Oct" ∷ codes "Nov" ∷ codes "Dec" ∷ []) (p.mon - 1) (omega arith, (omega arith, (omega arith, (omega arith, (omega arith, (omega arith, (omega arith, (omega arith, (omega arith, (omega arith, (omega arith, (omega arith, tt)))))))))))) in
        simp length-append (omega (arith, day, month))

media_short : (kind : ℕ) → length (media_type kind) ≤ 30
media_short kind = go (kind == 0) (kind == 1)
  where
    go : (a b : Bool) → length (cond a (codes "application/octet-stream") (cond b (codes "text/plain; charset=utf-8") (codes "text/html; charset=utf-8"))) ≤ 30
    go true b = omega arith
    go false true = omega arith
    go false false = omega arith

change_short : (change : Option (List ℕ)) → IfSome change IsScripText → length (or_dash change) ≤ 293
change_short None text = omega arith
change_short (Some t) text = scrip_is_short t text

abbrev signed_with : ℕ → Contents → ℕ → Option (List ℕ) → List ℕ → Reply
signed_with m contents price change sign = record (taken_values m contents price change) { sign = Some sign }

head_short : (m : ℕ) (contents : Contents) (price : ℕ) (change : Option (List ℕ)) (sign : List ℕ) → price < 2 ^ 64 → IfSome change IsScripText → length sign ≡ 16 → length contents.bytes ≤ MOST_CONTENTS
    → length (reply_head (signed_with m contents price change sign)) ≤ 8192
unfolding reply_head
head_short m contents price change sign small text key few =
    let status = length-decimal-le 3 200 (omega arith) (omega arith) (omega arith) in
    let date = date_short m in
    let media = media_short contents.kind in
    let size = length-decimal-le 20 (length contents.bytes) (omega arith) (omega (arith, few)) (omega (arith, few)) in
    let cost = length-decimal-le 20 price (omega arith) (omega (arith, small)) small in
    let rest = change_short change text in
    let hex = hex_length sign in
    simp length-append (omega (arith, status, date, media, size, cost, rest, hex, key))

-- ---- a reply of a site

reply_key : (scrip target text contents secret : List ℕ) → length (reply_signature scrip target text contents secret) ≡ 16
unfolding reply_signature
reply_key scrip target text contents secret = length-digest (text_version scrip) (line scrip ++ line (request_text target) ++ line (text ++ contents) ++ secret)

reply_below : (scrip target text contents secret : List ℕ) → All (λ b. b < 256) (reply_signature scrip target text contents secret)
unfolding reply_signature
reply_below scrip target text contents secret = digest_below (text_version scrip) (line scrip ++ line (request_text target) ++ line (text ++ contents) ++ secret)

site_reply : (m : ℕ) (contents : Contents) (price : ℕ) (change : Option (List ℕ)) (sign : List ℕ) → m < 2 ^ 35 → price < 2 ^ 64 → IfSome change IsScripText → length sign ≡ 16 → All (λ b. b < 256) sign → length contents.bytes ≤ MOST_CONTENTS
    → IsSiteReply (signed_with m contents price change sign) contents.bytes
unfolding max_head
site_reply m contents price change sign moment small text key below few = record {
  status = refl;
  accepted = λ is. refl;
  refused = λ never. absurd (never refl);
  date = moment;
  price = small;
  change = text;
  sign = below;
  size = refl;
  few = few;
  short = head_short m contents price change sign small text key few;
}

-- ---- what an accepted piece pays

needed_none : (b : Bool) (next : Result ℕ Stop) → needed b next ≡ Ok None → b ≡ false
needed_none true (Ok id) is = absurd cc
needed_none true (Err stop) is = absurd cc
needed_none false next is = refl

needed_some : (b : Bool) (next : Result ℕ Stop) (id : ℕ) → needed b next ≡ Ok (Some id) → b ≡ true
needed_some true next id is = refl
needed_some false next id is = absurd cc

record PaysFor (h : History) (text : List ℕ) (price : ℕ) (change : Option (List ℕ)) : Type 0 where
  paid : is_paid_by (piece_of text) price (or_dash change) ≡ true
  most : price ≤ 2 ^ 40
  rest : IfSome change IsScripText

pays_for : (limits : Limits) (h : History) (m : ℕ) (text target : List ℕ) (sign : Option (List ℕ)) (price : ℕ) (change : Option ℕ) (deed : Deed) → OwnTerms h → IfSome change (λ id. id < 2 ^ 64)
    → IsAllowed limits h (Accept m text target sign price change deed)
    → PaysFor h text price (option_map (own_text h) (change_piece h (Accept m text target sign price change deed)))
pays_for limits h m text target sign price change deed own long allowed =
    let x = accept_through limits h m text target sign price change deed allowed in
    let same : x.scrip.text ≡ text = ap text_in x.is in
    let cost : x.offered.price ≡ price = ap price_in x.is in
    let change_is : x.change ≡ change = ap change_in x.is in
    let read : piece_of text ≡ Some x.scrip.piece = ap piece_of (sym same) ∙ piece_is x.scrip.text x.scrip.piece x.scrip.cert x.is_scrip in
    let range = piece_ranges x.scrip.text x.scrip.piece x.scrip.cert x.is_scrip in
    let most = range.most in
    let below = offer_below h m (unbounded limits) target x.scrip.piece.value x.offered x.is_offered in
    let needs : needed (ltb price x.scrip.piece.value) (next_own h m (unbounded limits)) ≡ Ok change =
    subst (λ (n : ℕ). needed (ltb n x.scrip.piece.value) (next_own h m (unbounded limits)) ≡ Ok change) cost (x.is_change ∙ ap ok_option change_is) in
    let vendor = (genuine_ok h x.scrip x.secret x.is_genuine).vendor in
    go change long x.scrip.piece read range vendor (omega (arith, cost, below)) needs
  where
    text_in : Entry → List ℕ
    text_in (Accept m scrip target sign price change deed) = scrip
    text_in _ = []

    price_in : Entry → ℕ
    price_in (Accept m scrip target sign price change deed) = price
    price_in _ = 0

    change_in : Entry → Option ℕ
    change_in (Accept m scrip target sign price change deed) = change
    change_in _ = None

    ok_option : Option ℕ → Result (Option ℕ) Stop
    ok_option o = Ok o

    go : (change : Option ℕ) → IfSome change (λ id. id < 2 ^ 64) → (piece : Scrip) → piece_of text ≡ Some piece → IsPiece piece → piece.vendor ≡ site_name h → price ≤ piece.value
        → needed (ltb price piece.value) (next_own h m (unbounded limits)) ≡ Ok change → PaysFor h text price (option_map (own_text h) (change_piece h (Accept m text target sign price change deed)))
    go None long piece read range vendor le needs =
        let ge : piece.value ≤ price = ltb-false price piece.value (needed_none (ltb price piece.value) (next_own h m (unbounded limits)) needs) in
        let high = range.most in
        record { paid = ap (λ (o : Option Scrip). is_paid_by o price (codes "-")) read ∙ whole_paid piece.value price piece refl (omega (arith, le, ge)); most = omega (arith, le, high); rest = tt }
    go (Some id) long piece read range vendor le needs =
        let less : price < piece.value = ltb-true price piece.value (needed_some (ltb price piece.value) (next_own h m (unbounded limits)) id needs) in
        let high = range.most in
        let q : Scrip = change_from h piece price id in
        let text_is : IsTextOf (own_text h q) q (own_certificate h q) = own_text_of h q own (in_a_version (upgrades_of h (site_name h)) (series_of id)) refl (omega (arith, less)) (omega (arith, high)) long range.cust refl range.props in
        let given : option_map (own_text h) (change_piece h (Accept m text target sign price (Some id) deed)) ≡ Some (own_text h q) = ap (λ (o : Option Scrip). option_map (own_text h) (option_map (λ p. change_from h p price id) o)) read in
        subst (PaysFor h text price) (sym given) (record {
          paid = ap (λ (o : Option Scrip). is_paid_by o price (own_text h q)) read ∙ part_paid price piece q (own_text h q) less (read_back (own_text h q) q (own_certificate h q) text_is) (sym vendor) refl refl refl;
          most = omega (arith, less, high);
          rest = (q, own_certificate h q, text_is);
        })

-- the change of an Accept entry is a piece's text
pub accept_change : (limits : Limits) (h : History) (at m : ℕ) (text target : List ℕ) (sign : Option (List ℕ)) (price : ℕ) (change : Option ℕ) (deed : Deed) → IsLawful limits h → AllByRecursion Fits h
    → slice_get h at ≡ Some (Accept m text target sign price change deed) → IfSome (change_of (take at h) (Accept m text target sign price change deed)) IsScripText
accept_change limits h at m text target sign price change deed lawful fits is =
    let e : Entry = Accept m text target sign price change deed in
    let before : History = take at h in
    let may = may_at limits h at e lawful is in
    let some : before ≡ [] → ⊥ = λ empty. nothing_taken m (unbounded limits) (request_of text target sign) e (ap (λ (g : History). answer g m (unbounded limits) (request_of text target sign)) (sym empty) ∙ may.allowed) in
    let own = own_terms limits before (front_lawful limits h at some lawful) (all_front h at fits) in
    let entry = all_get Fits h at e fits is in
    (pays_for limits before m text target sign price change deed own entry.change may.allowed).rest

-- ---- an Accept entry that holds a request

pub accept_settles : (limits : Limits) (h : History) (at m : ℕ) (text target : List ℕ) (sign : Option (List ℕ)) (price : ℕ) (change : Option ℕ) (deed : Deed) (p : Pending) → IsLawful limits h → AllByRecursion Fits h
    → slice_get h at ≡ Some (Accept m text target sign price change deed) → asked_by p ≡ request_of text target sign → secret_for (take at h) text ≡ Some p.secret
    → length (contents_after (take at h) (Accept m text target sign price change deed)).bytes ≤ MOST_CONTENTS
    → ((r : Received) → r.contents ≡ (contents_after (take at h) (Accept m text target sign price change deed)).bytes → brings_asked p p.ask price r ≡ true)
    → IsSettling h at p
accept_settles limits h at m text target sign price change deed p lawful fits is asked known few brings =
    let e : Entry = Accept m text target sign price change deed in
    let before : History = take at h in
    let may = may_at limits h at e lawful is in
    let some : before ≡ [] → ⊥ = λ empty. nothing_taken m (unbounded limits) (request_of text target sign) e (ap (λ (g : History). answer g m (unbounded limits) (request_of text target sign)) (sym empty) ∙ may.allowed) in
    let own = own_terms limits before (front_lawful limits h at some lawful) (all_front h at fits) in
    let entry = all_get Fits h at e fits is in
    let pays = pays_for limits before m text target sign price change deed own entry.change may.allowed in
    let ch : Option (List ℕ) = option_map (own_text before) (change_piece before e) in
    let contents : Contents = contents_after before e in
    let scrip_is : p.scrip ≡ Some text = ap (λ (q : Asked). q.scrip) asked in
    let target_is : p.target ≡ target = ap (λ (q : Asked). q.target) asked in
    let signature : List ℕ = reply_signature text p.target (reply_text (taken_values m contents price ch)) contents.bytes p.secret in
    let r : Received = told m contents price ch signature in
    let site = site_reply m contents price ch signature entry.moment entry.price pays.rest (reply_key text p.target (reply_text (taken_values m contents price ch)) contents.bytes p.secret)
    (reply_below text p.target (reply_text (taken_values m contents price ch)) contents.bytes p.secret) few in
    let parts = parted_at h at e is in
    let reply : reply_of h at ≡ reply_head (signed_with m contents price ch signature) ++ contents.bytes =
    ap (λ (g : History). reply_of g at) parts.is ∙ ap (λ (n : ℕ). reply_of (before ++ e ∷ parts.more) n) (sym parts.long) ∙ own_reply before parts.more e
    ∙ ap (λ (o : Option (List ℕ)). taken_reply o text target contents (taken_values m contents price ch)) known
    ∙ ap (λ (t : List ℕ). reply_head (signed_with m contents price ch (reply_signature text t (reply_text (taken_values m contents price ch)) contents.bytes p.secret)) ++ contents.bytes) (sym target_is) in
    let reads : IsReply (reply_of h at ++ []) r =
    subst (λ (b : List ℕ). IsReply b r) (sym (ap (λ (b : List ℕ). b ++ []) reply ∙ append_assoc (reply_head (signed_with m contents price ch signature)) contents.bytes [])) (reads_back (signed_with m contents price ch signature) contents.bytes [] site) in
    let paid : is_paid_by (option_and_then piece_of p.scrip) price (or_dash ch) ≡ true = ap (λ (o : Option (List ℕ)). is_paid_by (option_and_then piece_of o) price (or_dash ch)) scrip_is ∙ pays.paid in
    record {
      r = r;
      reads = reads;
      status = refl;
      checked = passes p r (told_fits m contents price ch signature p pays.most paid (brings r refl)) (told_proved m contents price ch text p (ap or_dash scrip_is));
    }

-- ---- contents of goods and credits

abbrev IsFew : Entry → Type 0
IsFew e = length (goods_contents e) ≤ MOST_CONTENTS

goods_few : (e : Entry) → Fits e → length (goods_contents e) ≤ MOST_CONTENTS
goods_few (Goods m target price kind contents) fits = fits.contents
goods_few e fits = omega arith

all_few : (h : History) → AllByRecursion Fits h → AllByRecursion IsFew h
all_few [] all = tt
all_few (e ∷ es) all = (goods_few e all.0, all_few es all.1)

last_few : (o : Option Entry) (es : History) → IfSome o IsFew → AllByRecursion IsFew es → IfSome (last_or o es) IsFew
last_few o [] first all = first
last_few o (e ∷ es) first all = last_few (Some e) es all.0 all.1

goods_short : (h : History) (target : List ℕ) → AllByRecursion Fits h → length (brought h target goods_deed).bytes ≤ MOST_CONTENTS
goods_short h target fits = go (goods_in h target) (last_few None (filter (is_goods_of target) h) tt (filtered_all IsFew (is_goods_of target) h (all_few h fits)))
  where
    go : (o : Option Entry) → IfSome o IsFew → length (unwrap_or (option_map goods_brought o) no_contents).bytes ≤ MOST_CONTENTS
    go None few = omega arith
    go (Some e) few = few

sold_short : (limits : Limits) (h : History) (at m : ℕ) (text target : List ℕ) (sign : Option (List ℕ)) (price : ℕ) (change : Option ℕ) (deed : Deed) → IsLawful limits h → AllByRecursion Fits h → AllByRecursion HasBytes h
    → slice_get h at ≡ Some (Accept m text target sign price change deed) → length (brought (take at h) target deed).bytes ≤ MOST_CONTENTS
sold_short limits h at m text target sign price change goods_deed lawful fits bytes is = goods_short (take at h) target (all_front h at fits)
sold_short limits h at m text target sign price change (sale stock id) lawful fits bytes is =
    let x = sold_of limits h at m text target sign price change stock id lawful fits bytes is in
    line_few (sale_brought (take at h) target stock id) x.vendor x.value x.line
sold_short limits h at m text target sign price change (credit after) lawful fits bytes is =
    let entry = all_get Fits h at (Accept m text target sign price change (credit after)) fits is in
    let below = entry.deed in
    let digits = length-decimal-le 20 after (omega arith) (omega (arith, below)) below in
    omega (arith, length-append (decimal after) (codes "\n"), digits)

-- ---- what a request brings

bought_rightly : (limits : Limits) (h : History) (at m : ℕ) (text target : List ℕ) (sign : Option (List ℕ)) (price : ℕ) (change : Option ℕ) (deed : Deed) (p : Pending) → IsLawful limits h → AllByRecursion Fits h → AllByRecursion HasBytes h
    → slice_get h at ≡ Some (Accept m text target sign price change deed) → p.target ≡ target → IsSale deed
    → (r : Received) → r.contents ≡ (brought (take at h) target deed).bytes → brings_asked p 1 price r ≡ true
bought_rightly limits h at m text target sign price change (sale stock id) p lawful fits bytes is aims sold r contents =
    let x = sold_of limits h at m text target sign price change stock id lawful fits bytes is in
    let brings = line_brings (sale_brought (take at h) target stock id) x.vendor x.value x.line in
    ap (λ (t : List ℕ). brings_bought (errand_of t) r.contents) aims ∙ ap (λ (o : Option Errand). brings_bought o r.contents) x.asks
    ∙ ap (is_piece_of x.vendor x.value) contents ∙ brings
bought_rightly limits h at m text target sign price change goods_deed p lawful fits bytes is aims sold r contents = absurd sold
bought_rightly limits h at m text target sign price change (credit after) p lawful fits bytes is aims sold r contents = absurd sold

-- ---- a draw

order_is : (target : List ℕ) (o : Option Errand) (order : Order) → as_order o ≡ Some order → o ≡ Some (errands.draw order.account order.order order.amount)
order_is target (Some (errands.draw account number amount)) order is =
    let made : Order = record { account = account; order = number; amount = amount } in
    let same : made ≡ order = same_Some made order is in
    ap (λ (x : Order). some (errands.draw x.account x.order x.amount)) same
  where
    some : Errand → Option Errand
    some e = Some e
order_is target (Some (errands.buy vendor amount)) order is = absurd cc
order_is target (Some (errands.pay_in account)) order is = absurd cc
order_is target None order is = absurd cc

drawn_rightly : (p : Pending) (ask price : ℕ) (order : Order) (r : Received) (contents : Contents) → errand_of p.target ≡ Some (errands.draw order.account order.order order.amount) → price ≡ order.amount → r.change ≡ codes "-" → r.contents ≡ contents.bytes
    → IsLineOf contents p.peer order.amount → brings_asked p (suc (suc ask)) price r ≡ true
drawn_rightly p ask price order r contents asks cost none brought_is line =
    let brings = line_brings contents p.peer order.amount line in
    let whole : is_piece_of p.peer order.amount r.contents ≡ true = ap (is_piece_of p.peer order.amount) brought_is ∙ brings in
    let dash : bytes_eq r.change (codes "-") ≡ true = (bytes_eq-Decides r.change (codes "-")).1 none in
    let exact : (price == order.amount) ≡ true = eq-eqb price order.amount cost in
    ap (λ (o : Option Errand). brings_drawn p.peer o price r.change r.contents) asks ∙ (rw (dash, exact, whole) refl)

pub draw_settles : (limits : Limits) (h : History) (at m ask : ℕ) (target sign : List ℕ) (id : ℕ) (p : Pending) → limits.series ≤ 2 ^ 32 → IsLawful limits h → AllByRecursion Fits h
    → slice_get h at ≡ Some (Draw m target sign id) → p.target ≡ target → order_key (take at h) (order_of target) ≡ Some p.secret → p.scrip ≡ None → p.ask ≡ suc (suc ask) → site_name h ≡ p.peer → IsSettling h at p
draw_settles limits h at m ask target sign id p small lawful fits is aims known none draws named =
    let e : Entry = Draw m target sign id in
    let before : History = take at h in
    let d = drawn_of limits h at m target sign id small lawful fits is in
    let high = d.amount.within in
    let piece : Scrip = first_hand before d.order.amount id in
    let held : Held = own_held before piece in
    let contents : Contents = contents_after before e in
    let price : ℕ = order_amount (order_of target) in
    let cost : price ≡ d.order.amount = ap order_amount d.asks in
    let brought_is : contents ≡ held_contents held = ap (λ (o : Option Order). contents_if (option_map (own_held before) (drawn_piece before id o))) d.asks in
    let line : IsLineOf contents p.peer d.order.amount = record {
      held = held;
      piece = piece;
      cert = own_certificate before piece;
      is = brought_is;
      text = d.text;
      secret = d.secret;
      vendor' = name_at h at [] d.some ∙ named;
      value' = refl;
    } in
    let entry = all_get Fits h at e fits is in
    let dash : or_dash p.scrip ≡ codes "-" = ap or_dash none in
    let text : List ℕ = reply_text (taken_values m contents price None) in
    let signature : List ℕ = reply_signature (codes "-") p.target text contents.bytes p.secret in
    let r : Received = told m contents price None signature in
    let site = site_reply m contents price None signature entry.moment (omega (arith, cost, high)) tt (reply_key (codes "-") p.target text contents.bytes p.secret) (reply_below (codes "-") p.target text contents.bytes p.secret)
    (line_few contents p.peer d.order.amount line) in
    let parts = parted_at h at e is in
    let reply : reply_of h at ≡ reply_head (signed_with m contents price None signature) ++ contents.bytes =
    ap (λ (g : History). reply_of g at) parts.is ∙ ap (λ (n : ℕ). reply_of (before ++ e ∷ parts.more) n) (sym parts.long) ∙ own_reply before parts.more e
    ∙ ap (λ (o : Option (List ℕ)). taken_reply o (codes "-") target contents (taken_values m contents price None)) known
    ∙ ap (λ (t : List ℕ). reply_head (signed_with m contents price None (reply_signature (codes "-") t text contents.bytes p.secret)) ++ contents.bytes) (sym aims) in
    let reads : IsReply (reply_of h at ++ []) r =
    subst (λ (b : List ℕ). IsReply b r) (sym (ap (λ (b : List ℕ). b ++ []) reply ∙ append_assoc (reply_head (signed_with m contents price None signature)) contents.bytes [])) (reads_back (signed_with m contents price None signature) contents.bytes [] site) in
    let paid : is_paid_by (option_and_then piece_of p.scrip) price (or_dash None) ≡ true = ap (λ (o : Option (List ℕ)). is_paid_by (option_and_then piece_of o) price (codes "-")) none in
    let asks : errand_of p.target ≡ Some (errands.draw d.order.account d.order.order d.order.amount) = ap errand_of aims ∙ order_is target (errand_of target) d.order d.asks in
    let brings : brings_asked p p.ask price r ≡ true = ap (λ (n : ℕ). brings_asked p n price r) draws ∙ drawn_rightly p ask price d.order r contents asks cost refl refl line in
    record {
      r = r;
      reads = reads;
      status = refl;
      checked = passes p r (told_fits m contents price None signature p (omega (arith, cost, high)) paid brings) (told_proved m contents price None (codes "-") p dash);
    }

-- ---- every request

pub held_settles : (limits : Limits) (h : History) (at ask : ℕ) (p : Pending) (e : Entry) → limits.series ≤ 2 ^ 32 → IsLawful limits h → AllByRecursion Fits h → AllByRecursion HasBytes h → slice_get h at ≡ Some e → p.ask ≡ ask → IsHeldBy (take at h) ask p e
    → NoneWhereDraw ask p.scrip → site_name h ≡ p.peer → IsSettling h at p
held_settles limits h at zero p (Accept m text target sign price change deed) small lawful fits bytes is ask holds none named =
    accept_settles limits h at m text target sign price change deed p lawful fits is holds.0 holds.1 (sold_short limits h at m text target sign price change deed lawful fits bytes is)
    (λ r contents. ap (λ (n : ℕ). brings_asked p n price r) ask)
held_settles limits h at (suc zero) p (Accept m text target sign price change deed) small lawful fits bytes is ask holds none named =
    accept_settles limits h at m text target sign price change deed p lawful fits is holds.0 holds.1 (sold_short limits h at m text target sign price change deed lawful fits bytes is)
    (λ r contents. ap (λ (n : ℕ). brings_asked p n price r) ask ∙ bought_rightly limits h at m text target sign price change deed p lawful fits bytes is (ap (λ (q : Asked). q.target) holds.0) holds.2 r contents)
held_settles limits h at (suc (suc more)) p (Draw m target sign drawn) small lawful fits bytes is ask holds none named =
    draw_settles limits h at m more target sign drawn p small lawful fits is holds.0 holds.2 none ask named
held_settles limits h at zero p e small lawful fits bytes is ask holds none named = absurd holds
held_settles limits h at (suc zero) p e small lawful fits bytes is ask holds none named = absurd holds
held_settles limits h at (suc (suc more)) p e small lawful fits bytes is ask holds none named = absurd holds

pub replies_settle : (limits : Limits) (w : World) (Made : Signing → Type 0) (v : World) → IsSetup limits w → Tied limits w Made v → RepliesSettle v
replies_settle limits w Made v setup tied j i n at h s p e may =
    let now = wallet_now limits w Made v j h setup tied may.wallet in
    let old = oldest_is h p.peer n p may.oldest in
    let lawful = house_lawful limits w Made v i s setup tied may.house in
    let tie = (two_back (HouseTied limits v.messages) w.houses v.houses i s tied.houses may.house).related in
    held_settles limits s.history at p.ask p e setup.range.series_most lawful tie.all tie.secrets may.entry refl may.holds (draws_pay_none h n p now.lawful old.request) may.named
