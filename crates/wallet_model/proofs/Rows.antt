-- The worked rows of a wallet with a piece of `news.example`, and of draws and sales of the broker `bank`, by
-- computation, with values of another program.
use Rattle.std.proofs.Common.{◌≡◌, ℕ, false, List, [], ◌∷◌, ◌++◌, Some, None, refl, arith, replicate}
use Rattle.std.specs.Prelude.{codes, Ok, Err}
use Rattle.std.specs.Fmt.{digits}
use Rattle.hex.specs.Hex.{encode_with}
use Rattle.md5.specs.Md5.{md5, block_words, rounds, compress, hash_after, digest_bytes}
use Rattle.mc_fields.specs.Reading.{literal_at, field_at, field_of, digit_of, digit_at, hex_at}
use Rattle.mc_fields.specs.Texts.{is_text}
use Rattle.scrip_form.specs.Scrip.{scrip_body, scrip_text, text_version}
use Rattle.scrip_form.specs.Reading.{scrip_of, scrip_at, id_at}
use Rattle.scrip_certs.specs.Digests.{digest, request_signature, reply_signature}
use Rattle.mc_requests.specs.declared.refusal.Refusal.TheVariants as refusals
use Rattle.mc_requests.specs.Errands.{errand_of}
use Rattle.mc_records.specs.Entry.{Held, Entry, Site, Got, Pend, Done, Refused}
use Rattle.piece_lines.specs.PieceLines.{line_at, secret_at}
use Rattle.ledger_model.specs.Histories.{History}
use Rattle.wallet_model.specs.Requests.{Pending, kept_requests, oldest_kept, kept_get}
use Rattle.wallet_model.specs.Holdings.{holdings, held, pending, disputed, used, dead}
use Rattle.wallet_model.specs.Follows.{wallet_allows, IsWalletBook}
use Rattle.wallet_model.specs.Asks.{get, buy, draw, pend_entry, request_bytes}
use Rattle.millicent_http.specs.Received.{Received}
use Rattle.wallet_model.specs.Settling.{check_of, settlement}

abbrev news : List ℕ
news = codes "news.example"

abbrev bank : List ℕ
bank = codes "bank"

abbrev page : List ℕ
page = codes "/news/1"

-- a piece of 100, with the secret of its customer
abbrev p1 : List ℕ
p1 = codes "MS1|news.example|100|010000f400000000|010000f400000000|1011712||4e3f1e4725094e8e0ed2c25ebc26515d"

abbrev k1 : List ℕ
k1 = 10 ∷ 58 ∷ 221 ∷ 91 ∷ 35 ∷ 5 ∷ 111 ∷ 46 ∷ 249 ∷ 16 ∷ 219 ∷ 213 ∷ 29 ∷ 106 ∷ 105 ∷ 255 ∷ []

-- its change of 75
abbrev h1 : List ℕ
h1 = codes "MS1|news.example|75|000000f400000000|010000f400000000|1011712||7c084bf00357976f20f2b924dfe6766a"

-- a piece of 300 of the bank, with the secret of its customer, and its change of 199
abbrev b1 : List ℕ
b1 = codes "MS1|bank|300|000000f400000000|000000f400000000|1011712||b5b8eb4132d9235f38f1906bf389dec2"

abbrev s1 : List ℕ
s1 = 207 ∷ 69 ∷ 239 ∷ 112 ∷ 11 ∷ 3 ∷ 16 ∷ 224 ∷ 145 ∷ 47 ∷ 253 ∷ 169 ∷ 147 ∷ 212 ∷ 184 ∷ 181 ∷ []

abbrev c1 : List ℕ
c1 = codes "MS1|bank|199|000000f400000001|000000f400000000|1011712||43d1d734233585f691c369b489c5f36b"

abbrev held_of : List ℕ → List ℕ → Held
held_of text secret = record { text = text; secret = secret }

-- ---- a piece comes, and pays for a page

abbrev founded : History
founded = Site 1000000 2 (codes "w") None ∷ []

abbrev got : Entry
got = Got 1000000 (held_of p1 k1 ∷ [])

abbrev filled : History
filled = founded ++ got ∷ []

abbrev pend : Entry
pend = Pend 1000000 0 news page (Some p1) k1

abbrev asked : History
asked = filled ++ pend ∷ []

abbrev request : Pending
request = record { ask = 0; peer = news; target = page; scrip = Some p1; secret = k1 }

-- the reply with the page
abbrev reply : Received
reply = record { status = 200; refusal = None; price = codes "25"; change = h1; sign = codes "6d04ea69e9d75ecd8309b26b44acffc7"; contents = codes "Good morning.\n" }

abbrev done : Entry
done = Done 1000000 2 25 (Some h1) None

abbrev paid : History
paid = asked ++ done ∷ []

-- the same piece may not come again
row_twice : wallet_allows filled got ≡ false
unfolding scrip_of scrip_at id_at literal_at field_at digit_of digit_at hex_at scrip_body encode_with
row_twice = refl

row_pend : pend_entry filled 1000000 (get news page 25) ≡ Ok pend
unfolding scrip_of scrip_at id_at literal_at field_at digit_of digit_at hex_at scrip_body encode_with
row_pend = refl

row_no_funds : pend_entry filled 1000000 (get news page 101) ≡ Err (refusals.NoFunds 100)
unfolding scrip_of scrip_at id_at literal_at field_at digit_of digit_at hex_at scrip_body encode_with
row_no_funds = refl

row_expired : pend_entry filled 1011712 (get news page 25) ≡ Err (refusals.NoFunds 0)
unfolding scrip_of scrip_at id_at literal_at field_at digit_of digit_at hex_at scrip_body encode_with
row_expired = refl

-- a piece that is pending can't pay again
row_pend_twice : wallet_allows asked pend ≡ false
unfolding scrip_of scrip_at id_at literal_at field_at digit_of digit_at hex_at scrip_body encode_with
row_pend_twice = refl

row_bytes : request_bytes request ≡ codes "GET /news/1 HTTP/1.1\r\nHost: news.example\r\nMillicent-Scrip: MS1|news.example|100|010000f400000000|010000f400000000|1011712||4e3f1e4725094e8e0ed2c25ebc26515d\r\nMillicent-Sign: e596c3d1b8ccf61661706f656dc46967\r\nConnection: close\r\n\r\n"
unfolding request_bytes request_signature text_version digest encode_with md5 block_words rounds compress hash_after digest_bytes
row_bytes = refl

row_kept : (kept_requests asked ≡ (2, request) ∷ []) × (oldest_kept asked news ≡ Some (2, request)) × (oldest_kept asked bank ≡ None) × (kept_get asked news page ≡ Some (2, request)) × (kept_get asked news (codes "/news/2") ≡ None)
row_kept = (refl, refl, refl, refl, refl)

row_pending : holdings asked ≡ (record { text = p1; secret = k1; state = pending }) ∷ []
row_pending = refl

row_checked : check_of request reply ≡ None
unfolding check_of scrip_of scrip_at id_at literal_at field_at field_of digit_of digit_at hex_at scrip_body encode_with digits reply_signature text_version digest md5 block_words rounds compress hash_after digest_bytes
row_checked = refl

row_settled : settlement asked 1000000 2 request reply ≡ done
unfolding settlement scrip_of scrip_at id_at literal_at field_at field_of digit_of digit_at hex_at scrip_body encode_with digits
row_settled = refl

row_paid : (holdings paid ≡ (record { text = p1; secret = k1; state = used }) ∷ (record { text = h1; secret = k1; state = held }) ∷ []) × (kept_requests paid ≡ [])
row_paid = (refl, refl)

row_lawful : IsWalletBook paid
unfolding scrip_of scrip_at id_at literal_at field_at digit_of digit_at hex_at scrip_body encode_with
row_lawful = (record { in_order = omega arith; allowed = refl }, (record { in_order = omega arith; allowed = refl }, (record { in_order = omega arith; allowed = refl }, (record { in_order = omega arith; allowed = refl }, tt))))

-- a request is settled once
row_settled_twice : wallet_allows paid done ≡ false
unfolding scrip_of scrip_at id_at literal_at field_at digit_of digit_at hex_at scrip_body encode_with
row_settled_twice = refl

-- ---- replies that don't settle

-- one digit of the signature is another
row_unproved : check_of request (record reply { sign = codes "6d04ea69e9d75ecd8309b26b44acffc8" }) ≡ Some refusals.Unproved
unfolding check_of scrip_of scrip_at id_at literal_at field_at field_of digit_of digit_at hex_at scrip_body encode_with digits reply_signature text_version digest md5 block_words rounds compress hash_after digest_bytes
row_unproved = refl

-- change of another value is no reply to this request, though it is rightly signed
row_wrong_change : check_of request (record reply { price = codes "26"; sign = codes "515fbeace818cb3495ce9513419547dc" }) ≡ Some refusals.BadReply
unfolding check_of scrip_of scrip_at id_at literal_at field_at field_of digit_of digit_at hex_at scrip_body encode_with digits reply_signature text_version digest md5 block_words rounds compress hash_after digest_bytes
row_wrong_change = refl

-- nor is a price above the value of the piece
row_above : check_of request (record reply { price = codes "101"; change = codes "-"; sign = codes "439cda3be801be9de1dc56397ee37589" }) ≡ Some refusals.BadReply
unfolding check_of scrip_of scrip_at id_at literal_at field_at field_of digit_of digit_at hex_at scrip_body encode_with digits reply_signature text_version digest md5 block_words rounds compress hash_after digest_bytes
row_above = refl

-- the whole value, without change
row_whole : check_of request (record reply { price = codes "100"; change = codes "-"; sign = codes "be4240ec277ecc57af56ab77ab89db16" }) ≡ None
unfolding check_of scrip_of scrip_at id_at literal_at field_at field_of digit_of digit_at hex_at scrip_body encode_with digits reply_signature text_version digest md5 block_words rounds compress hash_after digest_bytes
row_whole = refl

-- ---- signed refusals

abbrev refused_with : ℕ → List ℕ → List ℕ → List ℕ → Received
refused_with status refusal price sign = record { status = status; refusal = Some refusal; price = price; change = codes "-"; sign = sign; contents = [] }

abbrev spent : Received
spent = refused_with 409 (codes "27 Spent") (codes "-") (codes "9c62643d6767f66a55dd60d0d8595fe3")

abbrev late : Received
late = refused_with 410 (codes "26 Expired 1011712 1011712") (codes "-") (codes "f58543f3a6501678a8ceb6cddc66fee6")

abbrev dear : Received
dear = refused_with 402 (codes "31 TooLittle 101") (codes "101") (codes "ee555ee4564a80140b9738c0d8f9d2c0")

row_signed_refusals : (check_of request spent ≡ None) × (check_of request late ≡ None) × (check_of request dear ≡ None)
unfolding check_of scrip_of scrip_at id_at literal_at field_at field_of digit_of digit_at hex_at scrip_body encode_with digits reply_signature text_version digest md5 block_words rounds compress hash_after digest_bytes
row_signed_refusals = (refl, refl, refl)

row_refused : (settlement asked 1000000 2 request spent ≡ Refused 1000000 2 27) × (settlement asked 1011712 2 request late ≡ Refused 1011712 2 26) × (settlement asked 1000000 2 request dear ≡ Refused 1000000 2 31)
unfolding settlement literal_at field_at
row_refused = (refl, refl, refl)

row_disputed : holdings (asked ++ Refused 1000000 2 27 ∷ []) ≡ (record { text = p1; secret = k1; state = disputed }) ∷ []
row_disputed = refl

row_dead : holdings (asked ++ Refused 1011712 2 26 ∷ []) ≡ (record { text = p1; secret = k1; state = dead }) ∷ []
row_dead = refl

row_held_again : holdings (asked ++ Refused 1000000 2 31 ∷ []) ≡ (record { text = p1; secret = k1; state = held }) ∷ []
row_held_again = refl

-- ---- choosing: the least value that covers the limit, the first among equals

abbrev least : List ℕ
least = codes "MS1|news.example|30|010000f400000001|010000f400000001|1011712||00000000000000000000000000000000"

abbrev three : History
three = founded ++ Got 1000000 (held_of p1 k1 ∷ held_of least s1 ∷ held_of (codes "MS1|news.example|30|010000f400000002|010000f400000002|1011712||00000000000000000000000000000000") k1 ∷ []) ∷ []

row_least : pend_entry three 1000000 (get news page 25) ≡ Ok (Pend 1000000 0 news page (Some least) s1)
unfolding scrip_of scrip_at id_at literal_at field_at digit_of digit_at hex_at scrip_body encode_with
row_least = refl

row_least_covers : pend_entry three 1000000 (get news page 31) ≡ Ok (Pend 1000000 0 news page (Some p1) k1)
unfolding scrip_of scrip_at id_at literal_at field_at digit_of digit_at hex_at scrip_body encode_with
row_least_covers = refl

-- ---- a draw

abbrev key : List ℕ
key = replicate 16 0x88

abbrev drawing : Entry
drawing = Pend 1000000 2 bank (codes "/draw/ann/5/300") None key

abbrev draw_request : Pending
draw_request = record { ask = 2; peer = bank; target = codes "/draw/ann/5/300"; scrip = None; secret = key }

abbrev draw_reply : Received
draw_reply = record { status = 200; refusal = None; price = codes "300"; change = codes "-"; sign = codes "8b840c3becd01ebf812f7e25eac3e7b1"; contents = b1 ++ codes " cf45ef700b0310e0912ffda993d4b8b5\n" }

abbrev drawn : Entry
drawn = Done 1000000 1 300 None (Some (held_of b1 s1))

row_draw : pend_entry founded 1000000 (draw bank (codes "ann") key 5 300) ≡ Ok drawing
unfolding digits
row_draw = refl

row_draw_bytes : request_bytes draw_request ≡ codes "GET /draw/ann/5/300 HTTP/1.1\r\nHost: bank\r\nMillicent-Sign: d501c39a0ee04b11224c7d75a7684ba3\r\nConnection: close\r\n\r\n"
unfolding request_bytes request_signature text_version digest encode_with md5 block_words rounds compress hash_after digest_bytes
row_draw_bytes = refl

row_draw_checked : check_of draw_request draw_reply ≡ None
unfolding check_of errand_of line_at secret_at scrip_of scrip_at id_at literal_at field_at field_of is_text digit_of digit_at hex_at scrip_text scrip_body encode_with digits reply_signature text_version digest md5 block_words rounds compress hash_after digest_bytes
row_draw_checked = refl

-- a draw of another peer is not settled by this reply, though its signature is right
row_other_peer : check_of (record draw_request { peer = codes "kiosk" }) draw_reply ≡ Some refusals.BadReply
unfolding check_of errand_of line_at secret_at scrip_of scrip_at id_at literal_at field_at field_of is_text digit_of digit_at hex_at scrip_text scrip_body encode_with digits reply_signature text_version digest md5 block_words rounds compress hash_after digest_bytes
row_other_peer = refl

row_drawn : settlement (founded ++ drawing ∷ []) 1000000 1 draw_request draw_reply ≡ drawn
unfolding settlement line_at secret_at scrip_of scrip_at id_at literal_at field_at field_of digit_of digit_at hex_at scrip_text scrip_body encode_with digits
row_drawn = refl

-- the same draw once more brings no second piece
row_drawn_twice : settlement (founded ++ drawing ∷ drawing ∷ drawn ∷ []) 1000000 2 draw_request draw_reply ≡ Done 1000000 2 300 None None
unfolding settlement line_at secret_at scrip_of scrip_at id_at literal_at field_at field_of digit_of digit_at hex_at scrip_text scrip_body encode_with digits
row_drawn_twice = refl

-- ---- a sale for what was drawn: the change, and then the piece

abbrev buying : Entry
buying = Pend 1000000 1 bank (codes "/buy/news.example/100") (Some b1) s1

abbrev buy_request : Pending
buy_request = record { ask = 1; peer = bank; target = codes "/buy/news.example/100"; scrip = Some b1; secret = s1 }

abbrev buy_reply : Received
buy_reply = record { status = 200; refusal = None; price = codes "101"; change = c1; sign = codes "1e713cee9064978b644511c77c0db07d"; contents = p1 ++ codes " 0a3add5b23056f2ef910dbd51d6a69ff\n" }

abbrev bought : Entry
bought = Done 1000000 3 101 (Some c1) (Some (held_of p1 k1))

abbrev market : History
market = founded ++ drawing ∷ drawn ∷ buying ∷ []

row_buy : pend_entry (founded ++ drawing ∷ drawn ∷ []) 1000000 (buy bank news 100 101) ≡ Ok buying
unfolding scrip_of scrip_at id_at literal_at field_at digit_of digit_at hex_at scrip_body encode_with digits
row_buy = refl

row_buy_checked : check_of buy_request buy_reply ≡ None
unfolding check_of errand_of line_at secret_at scrip_of scrip_at id_at literal_at field_at field_of is_text digit_of digit_at hex_at scrip_text scrip_body encode_with digits reply_signature text_version digest md5 block_words rounds compress hash_after digest_bytes
row_buy_checked = refl

row_bought : settlement market 1000000 3 buy_request buy_reply ≡ bought
unfolding settlement line_at secret_at scrip_of scrip_at id_at literal_at field_at field_of digit_of digit_at hex_at scrip_text scrip_body encode_with digits
row_bought = refl

row_market : holdings (market ++ bought ∷ []) ≡ (record { text = b1; secret = s1; state = used }) ∷ (record { text = c1; secret = s1; state = held }) ∷ (record { text = p1; secret = k1; state = held }) ∷ []
row_market = refl

row_market_lawful : IsWalletBook (market ++ bought ∷ [])
unfolding errand_of scrip_of scrip_at id_at literal_at field_at field_of is_text digit_of digit_at hex_at scrip_body encode_with
row_market_lawful = (record { in_order = omega arith; allowed = refl }, (record { in_order = omega arith; allowed = refl }, (record { in_order = omega arith; allowed = refl }, (record { in_order = omega arith; allowed = refl }, (record { in_order = omega arith; allowed = refl }, tt)))))

-- ---- books that are not lawful

-- a second Site entry, and one of a vendor; what is settled is kept; what pays is held and its peer's; the target of
-- a buy is that of a sale, and a draw pays with no piece
row_unlawful : (wallet_allows founded (Site 1000000 2 (codes "w") None) ≡ false) × (wallet_allows [] (Site 1000000 0 (codes "w") None) ≡ false) × (wallet_allows filled (Refused 1000000 1 27) ≡ false) × (wallet_allows filled (Pend 1000000 0 bank page (Some p1) k1) ≡ false) × (wallet_allows filled (Pend 1000000 1 news page (Some p1) k1) ≡ false) × (wallet_allows filled (Pend 1000000 2 news (codes "/draw/ann/5/300") (Some p1) k1) ≡ false) × (wallet_allows filled (Pend 1000000 0 news page (Some h1) k1) ≡ false) × (wallet_allows [] got ≡ false)
unfolding errand_of scrip_of scrip_at id_at literal_at field_at field_of is_text digit_of digit_at hex_at scrip_body encode_with
row_unlawful = (refl, refl, refl, refl, refl, refl, refl, refl)
