-- A wallet's request is one item: it asks what the wallet asks.
use Rattle.std.proofs.Common.{◌≡◌, ℕ, zero, suc, ◌+◌, ◌<◌, ◌≤◌, true, false, List, [], ◌∷◌, ◌++◌, inl, length, take, drop, map, refl, sym, ◌∙◌, ap, subst, arith, append-nil, Option, Some, None}
use Rattle.std.specs.Prelude.{codes, All, IfSome}
use Rattle.std.specs.List.{AllByRecursion}
use Rattle.std.proofs.lemmas.List.{length-append, take-append-drop, length-take}
use Rattle.hex.specs.Hex.{encode_with, encode_lower}
use Rattle.scrip_certs.proofs.DigestLaws.{length-digest, digest_below}
use Rattle.httparse.specs.Grammar.{is_token_byte, trim_ows}
use Rattle.scrip_form.specs.Scrip.{IsScripText, text_version}
use Rattle.scrip_form.specs.Texts.{is_target}
use Rattle.scrip_form.proofs.TextTests.{target_decides, scrip_is_short}
use Rattle.scrip_certs.specs.Digests.{line, request_text, request_signature}
use Rattle.mc_requests.specs.Replies.{or_dash}
use Rattle.mc_records.specs.Entry.{Entry, Pend, Fits}
use Rattle.ledger_model.specs.Histories.{History}
use Rattle.millicent_http.specs.Fields.{is_host, values, same_name, says_body, says_close, has_close}
use Rattle.millicent_http.specs.HeadEnds.{ends_at, IsFirstEnd}
use Rattle.millicent_http.specs.Items.{Item, request, judged, judged_head, max_head, IsWhole, EndsNoItem, Heads}
use Rattle.millicent_http.proofs.EndLemmas.{ends_stays, not_true}
use Rattle.wallet_model.specs.Requests.{Pending, pending_of, pending_in}
use Rattle.wallet_model.specs.Asks.{request_bytes, asked_by, signature_of}
use Rattle.reply_reader.proofs.HeadLines.{print_lines, clean_field, field_line, with_field}
use Rattle.reply_reader.proofs.QuietLemmas.{first_end_of_lines}
use Rattle.reply_reader.proofs.FieldLineLemmas.{names_and_values}
use Rattle.reply_reader.proofs.CleanLemmas.{IsClean, clean_visible, hex_visible}
use Rattle.reply_reader.proofs.ScripLemmas.{scrip_visible}
use Rattle.wallet_requests.specs.Sent.{CanBeSent}
use Rattle.wallet_requests.proofs.RequestLines.{start_line, request_tree, request_lines, last_asked, fields_asked, fields_of, bytes_are_lines}
use Rattle.wallet_requests.proofs.ItemLemmas.{one_item}
use Rattle.wallet_requests.proofs.FieldLemmas.{AreGood, fields_are_lines, fields_are_trimmed, head_is_valid, start_is_line, name_is_host, name_is_visible}

-- ---- its fields

sign_below : (p : Pending) → All (λ b. b < 256) (signature_of p)
unfolding request_signature
sign_below p = digest_below _ _

hex_length : (bytes : List ℕ) → length (encode_lower bytes) ≡ length bytes + length bytes
unfolding encode_with
hex_length [] = omega arith
hex_length (b ∷ bytes) = omega (arith, hex_length bytes)

sign_length : (p : Pending) → length (encode_lower (signature_of p)) ≡ 32
unfolding request_signature
sign_length p = omega (arith, hex_length (signature_of p), length-digest (text_version (or_dash p.scrip)) (line (or_dash p.scrip) ++ line (request_text p.target) ++ p.secret))

sign_clean : (p : Pending) → IsClean (encode_lower (signature_of p))
sign_clean p = clean_visible (encode_lower (signature_of p)) (hex_visible (signature_of p) (sign_below p))

scrip_good : (scrip : Option (List ℕ)) (rest : List (List ℕ × List ℕ)) → IfSome scrip IsScripText → AreGood rest → AreGood (with_field (codes "Millicent-Scrip") scrip rest)
unfolding is_token_byte
scrip_good None rest h good = good
scrip_good (Some text) rest h good = (record { token = refl; line = refl; value = clean_visible text (scrip_visible text h) }, good)

fields_good : (p : Pending) → CanBeSent p → AreGood (fields_of p)
unfolding is_token_byte
fields_good p can = (
  record { token = refl; line = refl; value = clean_visible p.peer (name_is_visible p.peer can.peer) },
  scrip_good p.scrip (last_asked (encode_lower (signature_of p))) can.scrip
      (record { token = refl; line = refl; value = sign_clean p }, (record { token = refl; line = refl; value = record { bytes = refl; trimmed = refl } }, tt)),
)

few_fields : (p : Pending) → length (map clean_field (fields_of p)) ≤ 64
few_fields p = go p.scrip
  where
    go : (scrip : Option (List ℕ)) → length (map clean_field (fields_asked p.peer scrip (encode_lower (signature_of p)))) ≤ 64
    go None = omega arith
    go (Some text) = omega arith

-- ---- its length

lines_length : (l : List ℕ) (ls : List (List ℕ)) → length (print_lines (l ∷ ls)) ≡ length l + (2 + length (print_lines ls))
lines_length l ls = omega (arith, length-append l (13 ∷ 10 ∷ print_lines ls))

field_length : (name value : List ℕ) → length (field_line (name, value)) ≡ length name + (2 + length value)
field_length name value = omega (arith, length-append name (58 ∷ 32 ∷ value))

last_length : (sign : List ℕ) → length sign ≡ 32 → length (print_lines (map field_line (last_asked sign))) ≤ 100
last_length sign len = omega (arith, lines_length (field_line (codes "Millicent-Sign", sign)) (field_line (codes "Connection", codes "close") ∷ []), len)

scrip_length : (scrip : Option (List ℕ)) (sign : List ℕ) → IfSome scrip IsScripText → length sign ≡ 32
    → length (print_lines (map field_line (with_field (codes "Millicent-Scrip") scrip (last_asked sign)))) ≤ 500
scrip_length None sign h len = omega (arith, last_length sign len)
scrip_length (Some text) sign h len =
    omega (arith, lines_length (field_line (codes "Millicent-Scrip", text)) (map field_line (last_asked sign)), field_length (codes "Millicent-Scrip") text, scrip_is_short text h, last_length sign len)

start_length : (target : List ℕ) → length (start_line target) ≡ 13 + length target
start_length target = omega (arith, length-append target (codes " HTTP/1.1"))

lines_short : (p : Pending) → CanBeSent p → length (request_lines p.target (fields_of p)) ≤ 8192
lines_short p can =
    let sign : List ℕ = encode_lower (signature_of p) in
    let rest : List (List ℕ) = map field_line (with_field (codes "Millicent-Scrip") p.scrip (last_asked (encode_lower (signature_of p)))) in
    omega (
      arith,
      lines_length (start_line p.target) (map field_line (fields_of p)),
      start_length p.target,
      can.target.short,
      lines_length (field_line (codes "Host", p.peer)) (map field_line (with_field (codes "Millicent-Scrip") p.scrip (last_asked (encode_lower (signature_of p))))),
      field_length (codes "Host") p.peer,
      can.peer.short,
      scrip_length p.scrip (encode_lower (signature_of p)) can.scrip (sign_length p),
    )

-- ---- what it asks

judged_asked : (target peer : List ℕ) (scrip : Option (List ℕ)) (sign : List ℕ) → is_host peer ≡ true → is_target target ≡ true
    → judged (codes "GET") target 1 (fields_asked peer scrip sign) ≡ request (record { target = target; scrip = scrip; sign = Some sign }) true
unfolding judged values same_name says_body says_close has_close trim_ows
judged_asked target peer None sign host ok = rw (host, ok) refl
judged_asked target peer (Some text) sign host ok = rw (host, ok) refl

head_asked : (p : Pending) → CanBeSent p → judged_head (request_tree p.target (fields_of p)) ≡ request (asked_by p) true
head_asked p can =
    ap (λ (xs : List (List ℕ × List ℕ)). judged (codes "GET") p.target 1 xs) (names_and_values (fields_of p) (fields_are_trimmed (fields_of p) (fields_good p can)))
    ∙ judged_asked p.target p.peer p.scrip (encode_lower (signature_of p)) (name_is_host p.peer can.peer) ((target_decides p.target).1 can.target)

-- ---- the item

pub request_is_whole : (p : Pending) (more : List ℕ) → CanBeSent p → IsWhole (request_bytes p ++ more) (length (request_bytes p)) (request (asked_by p) true) more
request_is_whole p more can =
    subst (λ (z : List ℕ). IsWhole (z ++ more) (length z) (request (asked_by p) true) more) (sym (bytes_are_lines p))
    (subst (λ (i : Item). IsWhole (request_lines p.target (fields_of p) ++ more) (length (request_lines p.target (fields_of p))) i more) (head_asked p can)
    (one_item p.target (fields_of p) more (head_is_valid p.target (fields_of p) can.target (fields_good p can)) (few_fields p)
    (start_is_line p.target can.target) (fields_are_lines (fields_of p) (fields_good p can)) (lines_short p can)))

pub request_is_item : (p : Pending) (more : List ℕ) → CanBeSent p → Heads (request_bytes p ++ more) (request (asked_by p) true ∷ [])
request_is_item p more can =
    (omega arith, (more, inl (length (request_bytes p), request_is_whole p more can), λ c. refl, λ c. absurd (let f = c in cc f)))

-- ---- its parts

part_ends_none : (bytes : List ℕ) (n : ℕ) → IsFirstEnd bytes (length bytes) → length bytes ≤ 8192 → n < length bytes → EndsNoItem (take n bytes)
unfolding max_head
part_ends_none bytes n end short lt = record {
  short = omega (arith, length-take n bytes);
  none = λ m le. not_true (ends_at (take n bytes) m) (λ t.
      let there : ends_at bytes m ≡ true = subst (λ (z : List ℕ). ends_at z m ≡ true) (take-append-drop n bytes) (ends_stays (take n bytes) (drop n bytes) m le t) in
      let none : ends_at bytes m ≡ false = end.first m (omega (arith, le, length-take n bytes)) in
      absurd (cc (there, none)));
}

pub part_is_none : (p : Pending) (n : ℕ) → CanBeSent p → n < length (request_bytes p) → EndsNoItem (take n (request_bytes p))
part_is_none p n can lt =
    let end : IsFirstEnd (request_lines p.target (fields_of p)) (length (request_lines p.target (fields_of p))) =
    subst (λ (z : List ℕ). IsFirstEnd z (length (request_lines p.target (fields_of p)))) (append-nil (request_lines p.target (fields_of p)))
    (first_end_of_lines (start_line p.target) (map field_line (fields_of p)) [] (start_is_line p.target can.target) (fields_are_lines (fields_of p) (fields_good p can))) in
    subst (λ (z : List ℕ). EndsNoItem (take n z)) (sym (bytes_are_lines p))
    (part_ends_none (request_lines p.target (fields_of p)) n end (lines_short p can) (subst (λ (z : List ℕ). n < length z) (bytes_are_lines p) lt))

-- ---- the requests of a history

entry_asks : (e : Entry) (p : Pending) → Fits e → pending_of e ≡ Some p → CanBeSent p
entry_asks (Pend m ask peer target scrip secret) p fits is =
    let asked : Pending = record { ask = ask; peer = peer; target = target; scrip = scrip; secret = secret } in
    let same : asked ≡ p = cc in
    let can : CanBeSent asked = record { peer = fits.peer; target = fits.target; scrip = fits.scrip } in
    subst CanBeSent same can
entry_asks _ p fits is = absurd cc

pub history_asks : (h : History) (n : ℕ) (p : Pending) → AllByRecursion Fits h → pending_in h n ≡ Some p → CanBeSent p
history_asks [] n p fits is = absurd cc
history_asks (e ∷ h) zero p fits is = entry_asks e p fits.0 is
history_asks (e ∷ h) (suc n) p fits is = history_asks h n p fits.1 is
