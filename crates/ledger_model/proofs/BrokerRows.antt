-- The worked rows of the broker `bank` by computation, with values of another program.
use Rattle.std.proofs.Common.{◌≡◌, ℕ, ◌^◌, true, false, List, [], ◌∷◌, ◌++◌, Some, None, refl, arith, replicate}
use Rattle.std.specs.Prelude.{codes}
use Rattle.std.specs.Fmt.{digits}
use Rattle.hex.specs.Hex.{encode_with}
use Rattle.md5.specs.Md5.{md5, block_words, rounds, compress, hash_after, digest_bytes}
use Rattle.mc_fields.specs.Reading.{literal_at, field_at, field_of, digit_of, digit_at, hex_at}
use Rattle.mc_fields.specs.Texts.{is_text}
use Rattle.scrip_form.specs.Issuing.{Issuing}
use Rattle.scrip_form.specs.Scrip.{scrip_body, scrip_text, text_version}
use Rattle.scrip_form.specs.Reading.{scrip_of, scrip_at, id_at}
use Rattle.scrip_certs.specs.Digests.{digest, certificate, customer_secret, request_signature, reply_signature}
use Rattle.mc_requests.specs.declared.limits.Limits.{Limits}
use Rattle.mc_requests.specs.declared.refusal.Refusal.TheVariants as refusals
use Rattle.mc_requests.specs.Refusals.{refusal_text}
use Rattle.mc_requests.specs.Dates.{date_of, parts_of, years_off, months_off}
use Rattle.mc_requests.specs.Replies.{reply_head, reply_text}
use Rattle.mc_requests.specs.Requests.{Asked}
use Rattle.mc_requests.specs.Errands.{errand_of, buy, pay_in, draw}
use Rattle.mc_records.specs.Entry.{sale, credit, Held, Entry, Site, Accept, Account, Deposit, Withdraw, Draw, Licence, Stock}
use Rattle.mc_records.specs.Sizes.{tail, tail_size}
use Rattle.ledger_model.specs.Histories.{History}
use Rattle.ledger_model.specs.Houses.{version_by}
use Rattle.ledger_model.specs.Pieces.{own_out, has_reference}
use Rattle.ledger_model.specs.Accounts.{balance, last_order, all_balances}
use Rattle.ledger_model.specs.Stock.{licence_in, sold, stock_sold, licensed_sold, stock_ids, are_stock}
use Rattle.ledger_model.specs.Sums.{paid_in, fees, values, all_drawn, outstanding}
use Rattle.ledger_model.specs.Answer.{broker_offer, answer, Take, Again, Refused}
use Rattle.ledger_model.specs.Lawful.{IsLawful}
use Rattle.ledger_model.specs.Replies.{sale_brought, sale_price, reply_of, refusal_of}

abbrev terms : ℕ → ℕ → ℕ → Issuing
terms issuer scrip customer = record { issuer = issuer; period = 4096; life = 8192; scrip = replicate 16 scrip ∷ []; customer = replicate 16 customer ∷ [] }

abbrev full : Limits
full = record { journal = 2 ^ 40; series = 2 ^ 32 }

abbrev ann : List ℕ
ann = codes "ann"

-- the bank, with a fee of 1, the account ann, and 1000 in it
abbrev site : Entry
site = Site 1000000 1 (codes "bank") (Some (record { keep = 600; fee = 1; clear = true; terms = terms 0 0x66 0x77 }))

abbrev opened : History
opened = Account 1000000 ann (replicate 16 0x88) ∷ Deposit 1000000 ann 1000 (codes "r1") ∷ []

abbrev bank : History
bank = site ∷ opened

abbrev draws : List ℕ → List ℕ → Asked
draws target sign = record { target = target; scrip = None; sign = Some sign }

abbrev asks : List ℕ → List ℕ → Asked
asks target scrip = record { target = target; scrip = Some scrip; sign = None }

target_draw : errand_of (codes "/draw/ann/5/300") ≡ Some (draw ann 5 300)
unfolding errand_of literal_at field_at field_of is_text
target_draw = refl

target_buy : errand_of (codes "/buy/shop.example/50") ≡ Some (buy (codes "shop.example") 50)
unfolding errand_of literal_at field_at field_of is_text
target_buy = refl

target_credit : errand_of (codes "/credit/ann") ≡ Some (pay_in ann)
unfolding errand_of literal_at field_at field_of is_text
target_credit = refl

target_none : errand_of (codes "/draw/ann/05/300") ≡ None
unfolding errand_of literal_at field_at field_of is_text
target_none = refl

target_slash : errand_of (codes "/credit/ann/") ≡ None
unfolding errand_of literal_at field_at field_of is_text
target_slash = refl

-- ---- draws

abbrev draw_300 : Asked
draw_300 = draws (codes "/draw/ann/5/300") (codes "d501c39a0ee04b11224c7d75a7684ba3")

abbrev drawn_300 : Entry
drawn_300 = Draw 1000000 (codes "/draw/ann/5/300") (0xd5 ∷ 0x01 ∷ 0xc3 ∷ 0x9a ∷ 0x0e ∷ 0xe0 ∷ 0x4b ∷ 0x11 ∷ 0x22 ∷ 0x4c ∷ 0x7d ∷ 0x75 ∷ 0xa7 ∷ 0x68 ∷ 0x4b ∷ 0xa3 ∷ []) 0x000000f400000000

abbrev drawn_once : History
drawn_once = bank ++ drawn_300 ∷ []

pub row_draw : answer bank 1000000 full draw_300 ≡ Take drawn_300
unfolding tail tail_size answer broker_offer sale_brought sale_price version_by text_version digest errand_of digits scrip_of scrip_at id_at literal_at field_at field_of is_text digit_of digit_at hex_at scrip_body certificate customer_secret encode_with request_signature md5 block_words rounds compress hash_after digest_bytes
row_draw = refl

row_draw_again : answer drawn_once 1000599 full draw_300 ≡ Again 3
unfolding tail tail_size answer broker_offer sale_brought sale_price version_by text_version digest errand_of digits scrip_of scrip_at id_at literal_at field_at field_of is_text digit_of digit_at hex_at scrip_body certificate customer_secret encode_with request_signature md5 block_words rounds compress hash_after digest_bytes
row_draw_again = refl

-- a scrip field beside a draw does not count
row_draw_beside : answer drawn_once 1000599 full (record draw_300 { scrip = Some (codes "MS1") }) ≡ Again 3
unfolding tail tail_size answer broker_offer sale_brought sale_price version_by text_version digest errand_of digits scrip_of scrip_at id_at literal_at field_at field_of is_text digit_of digit_at hex_at scrip_body certificate customer_secret encode_with request_signature md5 block_words rounds compress hash_after digest_bytes
row_draw_beside = refl

row_draw_late : answer drawn_once 1000600 full draw_300 ≡ Refused (refusals.StaleOrder 5)
unfolding tail tail_size answer broker_offer sale_brought sale_price version_by text_version digest errand_of digits scrip_of scrip_at id_at literal_at field_at field_of is_text digit_of digit_at hex_at scrip_body certificate customer_secret encode_with request_signature md5 block_words rounds compress hash_after digest_bytes
row_draw_late = refl

row_stale : answer drawn_once 1000000 full (draws (codes "/draw/ann/4/10") (codes "f5b24c7ffd15c766edf2f133be0c7123")) ≡ Refused (refusals.StaleOrder 5)
unfolding tail tail_size answer broker_offer sale_brought sale_price version_by text_version digest errand_of digits scrip_of scrip_at id_at literal_at field_at field_of is_text digit_of digit_at hex_at scrip_body certificate customer_secret encode_with request_signature md5 block_words rounds compress hash_after digest_bytes
row_stale = refl

row_poor : answer drawn_once 1000000 full (draws (codes "/draw/ann/6/701") (codes "869669dcc45eae26d8f9560f82bac298")) ≡ Refused (refusals.PoorAccount 700)
unfolding tail tail_size answer broker_offer sale_brought sale_price version_by text_version digest errand_of digits scrip_of scrip_at id_at literal_at field_at field_of is_text digit_of digit_at hex_at scrip_body certificate customer_secret encode_with request_signature md5 block_words rounds compress hash_after digest_bytes
row_poor = refl

row_no_account : answer drawn_once 1000000 full (draws (codes "/draw/bob/1/1") (codes "82a3510de90833803a4cc9790cc536b2")) ≡ Refused refusals.NoAccount
unfolding tail tail_size answer broker_offer sale_brought sale_price version_by text_version digest errand_of digits scrip_of scrip_at id_at literal_at field_at field_of is_text digit_of digit_at hex_at scrip_body certificate customer_secret encode_with request_signature md5 block_words rounds compress hash_after digest_bytes
row_no_account = refl

row_unsigned : answer bank 1000000 full (record { target = codes "/draw/ann/5/300"; scrip = None; sign = None }) ≡ Refused refusals.NeedSignature
unfolding tail tail_size answer broker_offer sale_brought sale_price version_by text_version digest errand_of digits scrip_of scrip_at id_at literal_at field_at field_of is_text digit_of digit_at hex_at scrip_body certificate customer_secret encode_with request_signature md5 block_words rounds compress hash_after digest_bytes
row_unsigned = refl

row_badly_signed : answer bank 1000000 full (draws (codes "/draw/ann/5/301") (codes "d501c39a0ee04b11224c7d75a7684ba3")) ≡ Refused refusals.BadSignature
unfolding tail tail_size answer broker_offer sale_brought sale_price version_by text_version digest errand_of digits scrip_of scrip_at id_at literal_at field_at field_of is_text digit_of digit_at hex_at scrip_body certificate customer_secret encode_with request_signature md5 block_words rounds compress hash_after digest_bytes
row_badly_signed = refl

row_series : answer bank 1000000 (record { journal = 2 ^ 40; series = 0 }) draw_300 ≡ Refused (refusals.SeriesFull 244)
unfolding tail tail_size answer broker_offer sale_brought sale_price version_by text_version digest errand_of digits scrip_of scrip_at id_at literal_at field_at field_of is_text digit_of digit_at hex_at scrip_body certificate customer_secret encode_with request_signature md5 block_words rounds compress hash_after digest_bytes
row_series = refl

row_draw_reply : reply_of drawn_once 3 ≡ codes "HTTP/1.1 200 OK\r\nDate: Mon, 12 Jan 1970 13:46:40 GMT\r\nCache-Control: no-store\r\nContent-Type: text/plain; charset=utf-8\r\nContent-Length: 122\r\nMillicent-Price: 300\r\nMillicent-Change: -\r\nMillicent-Sign: 8b840c3becd01ebf812f7e25eac3e7b1\r\n\r\nMS1|bank|300|000000f400000000|000000f400000000|1011712||b5b8eb4132d9235f38f1906bf389dec2 cf45ef700b0310e0912ffda993d4b8b5\n"
unfolding digits sale_brought sale_price version_by text_version digest errand_of reply_of refusal_of reply_head reply_text refusal_text reply_signature date_of parts_of years_off months_off scrip_text scrip_of scrip_at id_at literal_at field_at field_of is_text digit_of digit_at hex_at scrip_body certificate customer_secret encode_with md5 block_words rounds compress hash_after digest_bytes
row_draw_reply = refl

row_stale_reply : refusal_of drawn_once 1000000 (draws (codes "/draw/ann/4/10") (codes "f5b24c7ffd15c766edf2f133be0c7123")) (refusals.StaleOrder 5) ≡ codes "HTTP/1.1 409 Conflict\r\nDate: Mon, 12 Jan 1970 13:46:40 GMT\r\nCache-Control: no-store\r\nContent-Length: 0\r\nMillicent-Refusal: 41 StaleOrder 5\r\nMillicent-Price: -\r\nMillicent-Change: -\r\nMillicent-Sign: b8e3e3d7d3e1bdc8cdb0643ba3bcfd41\r\n\r\n"
unfolding digits sale_brought sale_price version_by text_version digest errand_of reply_of refusal_of reply_head reply_text refusal_text reply_signature date_of parts_of years_off months_off scrip_text scrip_of scrip_at id_at literal_at field_at field_of is_text digit_of digit_at hex_at scrip_body certificate customer_secret encode_with md5 block_words rounds compress hash_after digest_bytes
row_stale_reply = refl

row_no_account_reply : refusal_of drawn_once 1000000 (draws (codes "/draw/bob/1/1") (codes "82a3510de90833803a4cc9790cc536b2")) refusals.NoAccount ≡ codes "HTTP/1.1 404 Not Found\r\nDate: Mon, 12 Jan 1970 13:46:40 GMT\r\nCache-Control: no-store\r\nContent-Length: 0\r\nMillicent-Refusal: 40 NoAccount\r\nMillicent-Price: -\r\nMillicent-Change: -\r\nMillicent-Sign: -\r\n\r\n"
unfolding digits sale_brought sale_price version_by text_version digest errand_of reply_of refusal_of reply_head reply_text refusal_text reply_signature date_of parts_of years_off months_off scrip_text scrip_of scrip_at id_at literal_at field_at field_of is_text digit_of digit_at hex_at scrip_body certificate customer_secret encode_with md5 block_words rounds compress hash_after digest_bytes
row_no_account_reply = refl

row_balance : (balance drawn_once ann ≡ 700) × (last_order drawn_once ann ≡ 5) × (balance (drawn_once ++ Withdraw 1000000 ann 1 (codes "r2") ∷ []) ann ≡ 699)
unfolding errand_of literal_at field_at field_of is_text
row_balance = (refl, refl, refl)

-- the book of a draw is lawful
row_lawful : IsLawful full (site ∷ opened ++ drawn_300 ∷ [])
unfolding tail tail_size answer broker_offer sale_brought sale_price version_by text_version digest errand_of digits scrip_of scrip_at id_at literal_at field_at field_of is_text digit_of digit_at hex_at scrip_body certificate customer_secret encode_with request_signature md5 block_words rounds compress hash_after digest_bytes
row_lawful = (record { in_order = omega arith; allowed = (refl, omega arith) }, (record { in_order = omega arith; allowed = (refl, refl) }, (record { in_order = omega arith; allowed = (refl, refl, refl, omega arith) }, (record { in_order = omega arith; allowed = refl }, tt))))

row_reference : (has_reference bank (codes "r1") ≡ true) × (has_reference bank (codes "r2") ≡ false)
row_reference = (refl, refl)

-- ---- sales

abbrev shop_piece : List ℕ
shop_piece = codes "MS1|shop.example|50|000000f400000000|000000f400000000|1011712||c49cab61d06a8d2b83e5e77a5717a467"

abbrev shop : List ℕ
shop = codes "shop.example"

abbrev draw_199 : Entry
draw_199 = Draw 1000000 (codes "/draw/ann/5/199") (0x8b ∷ 0x23 ∷ 0x62 ∷ 0xf5 ∷ 0xb4 ∷ 0x2d ∷ 0x0d ∷ 0x67 ∷ 0x13 ∷ 0xd5 ∷ 0xaf ∷ 0xce ∷ 0xd0 ∷ 0x0a ∷ 0x88 ∷ 0xb2 ∷ []) 0x000000f400000000

abbrev held : Held
held = record { text = shop_piece; secret = (0xab ∷ 0xb8 ∷ 0x36 ∷ 0xb0 ∷ 0x8f ∷ 0x32 ∷ 0x21 ∷ 0x02 ∷ 0x2c ∷ 0xa1 ∷ 0x1f ∷ 0xbd ∷ 0x9b ∷ 0x17 ∷ 0xe8 ∷ 0x79 ∷ []) }

abbrev stocked_once : History
stocked_once = bank ++ draw_199 ∷ Stock 1000000 shop (held ∷ []) ∷ []

abbrev p199 : List ℕ
p199 = codes "MS1|bank|199|000000f400000000|000000f400000000|1011712||e3f4b0ad2df7e0aa561f8d018c3fea1d"

abbrev bought : Entry
bought = Accept 1000000 p199 (codes "/buy/shop.example/50") None 51 (Some 0x000000f400000001) (sale true 0x000000f400000000)

abbrev bought_once : History
bought_once = stocked_once ++ bought ∷ []

row_buy : answer stocked_once 1000000 full (asks (codes "/buy/shop.example/50") p199) ≡ Take bought
unfolding tail tail_size answer broker_offer sale_brought sale_price version_by text_version digest errand_of digits scrip_of scrip_at id_at literal_at field_at field_of is_text digit_of digit_at hex_at scrip_body certificate customer_secret encode_with request_signature md5 block_words rounds compress hash_after digest_bytes
row_buy = refl

-- the same line again, the line twice, and the line of another vendor
row_stock_twice : (are_stock shop (stock_ids stocked_once shop) (held ∷ []) ≡ false) × (are_stock shop [] (held ∷ held ∷ []) ≡ false) × (are_stock (codes "news.example") [] (held ∷ []) ≡ false)
unfolding tail tail_size answer broker_offer sale_brought sale_price version_by text_version digest errand_of digits scrip_of scrip_at id_at literal_at field_at field_of is_text digit_of digit_at hex_at scrip_body certificate customer_secret encode_with request_signature md5 block_words rounds compress hash_after digest_bytes
row_stock_twice = (refl, refl, refl)

abbrev c148 : List ℕ
c148 = codes "MS1|bank|148|000000f400000001|000000f400000000|1011712||44ba695b375a21bfd36bf49f9c40b1db"

row_no_stock : answer bought_once 1000000 full (asks (codes "/buy/shop.example/50") c148) ≡ Refused (refusals.NoStock 50)
unfolding tail tail_size answer broker_offer sale_brought sale_price version_by text_version digest errand_of digits scrip_of scrip_at id_at literal_at field_at field_of is_text digit_of digit_at hex_at scrip_body certificate customer_secret encode_with request_signature md5 block_words rounds compress hash_after digest_bytes
row_no_stock = refl

row_no_vendor : answer bought_once 1000000 full (asks (codes "/buy/none.example/1") c148) ≡ Refused refusals.NoVendor
unfolding tail tail_size answer broker_offer sale_brought sale_price version_by text_version digest errand_of digits scrip_of scrip_at id_at literal_at field_at field_of is_text digit_of digit_at hex_at scrip_body certificate customer_secret encode_with request_signature md5 block_words rounds compress hash_after digest_bytes
row_no_vendor = refl

row_little : answer stocked_once 1000000 full (asks (codes "/buy/shop.example/199") p199) ≡ Refused (refusals.TooLittle 200)
unfolding tail tail_size answer broker_offer sale_brought sale_price version_by text_version digest errand_of digits scrip_of scrip_at id_at literal_at field_at field_of is_text digit_of digit_at hex_at scrip_body certificate customer_secret encode_with request_signature md5 block_words rounds compress hash_after digest_bytes
row_little = refl

row_credit : answer bought_once 1000000 full (asks (codes "/credit/ann") c148) ≡ Take (Accept 1000000 c148 (codes "/credit/ann") None 148 None (credit 949))
unfolding tail tail_size answer broker_offer sale_brought sale_price version_by text_version digest errand_of digits scrip_of scrip_at id_at literal_at field_at field_of is_text digit_of digit_at hex_at scrip_body certificate customer_secret encode_with request_signature md5 block_words rounds compress hash_after digest_bytes
row_credit = refl

-- a lawful history with each kind of entry that a broker has
abbrev whole_book : History
whole_book =
    site ∷ opened ++ draw_199 ∷ Stock 1000000 shop (held ∷ []) ∷ bought ∷ Accept 1000000 c148 (codes "/credit/ann") None 148 None (credit 949)
    ∷ Withdraw 1000000 ann 949 (codes "r2") ∷ Licence 1000000 (codes "news.example") (terms 1 0x33 0x44) ∷ []

row_lawful_sales : IsLawful full whole_book
unfolding tail tail_size answer broker_offer sale_brought sale_price version_by text_version digest errand_of digits scrip_of scrip_at id_at literal_at field_at field_of is_text digit_of digit_at hex_at scrip_body certificate customer_secret encode_with request_signature md5 block_words rounds compress hash_after digest_bytes
row_lawful_sales = (record { in_order = omega arith; allowed = (refl, omega arith) }, (record { in_order = omega arith; allowed = (refl, refl) }, (record { in_order = omega arith; allowed = (refl, refl, refl, omega arith) }, (record { in_order = omega arith; allowed = refl }, (record { in_order = omega arith; allowed = (refl, refl) }, (record { in_order = omega arith; allowed = refl }, (record { in_order = omega arith; allowed = refl }, (record { in_order = omega arith; allowed = (refl, refl, refl, omega arith) }, (record { in_order = omega arith; allowed = (refl, refl) }, tt)))))))))

row_credit_nowhere : answer bought_once 1000000 full (asks (codes "/credit/bob") c148) ≡ Refused refusals.NoAccount
unfolding tail tail_size answer broker_offer sale_brought sale_price version_by text_version digest errand_of digits scrip_of scrip_at id_at literal_at field_at field_of is_text digit_of digit_at hex_at scrip_body certificate customer_secret encode_with request_signature md5 block_words rounds compress hash_after digest_bytes
row_credit_nowhere = refl

-- after its piece was found genuine a refused credit is signed for the piece's customer
row_credit_nowhere_reply : refusal_of bought_once 1000000 (asks (codes "/credit/bob") c148) refusals.NoAccount ≡ codes "HTTP/1.1 404 Not Found\r\nDate: Mon, 12 Jan 1970 13:46:40 GMT\r\nCache-Control: no-store\r\nContent-Length: 0\r\nMillicent-Refusal: 40 NoAccount\r\nMillicent-Price: -\r\nMillicent-Change: -\r\nMillicent-Sign: 362c8ef4b04333bd74c865ad4fec2cb5\r\n\r\n"
unfolding digits sale_brought sale_price version_by text_version digest errand_of reply_of refusal_of reply_head reply_text refusal_text reply_signature date_of parts_of years_off months_off scrip_text scrip_of scrip_at id_at literal_at field_at field_of is_text digit_of digit_at hex_at scrip_body certificate customer_secret encode_with md5 block_words rounds compress hash_after digest_bytes
row_credit_nowhere_reply = refl

row_no_goods : answer bought_once 1000000 full (asks (codes "/news/1") c148) ≡ Refused refusals.NoSuchGoods
unfolding tail tail_size answer broker_offer sale_brought sale_price version_by text_version digest errand_of digits scrip_of scrip_at id_at literal_at field_at field_of is_text digit_of digit_at hex_at scrip_body certificate customer_secret encode_with request_signature md5 block_words rounds compress hash_after digest_bytes
row_no_goods = refl

row_credit_reply : reply_of (bought_once ++ Accept 1000000 c148 (codes "/credit/ann") None 148 None (credit 949) ∷ []) 6 ≡ codes "HTTP/1.1 200 OK\r\nDate: Mon, 12 Jan 1970 13:46:40 GMT\r\nCache-Control: no-store\r\nContent-Type: text/plain; charset=utf-8\r\nContent-Length: 4\r\nMillicent-Price: 148\r\nMillicent-Change: -\r\nMillicent-Sign: 09fafdffc63775dbac4d660d724a98e9\r\n\r\n949\n"
unfolding digits sale_brought sale_price version_by text_version digest errand_of reply_of refusal_of reply_head reply_text refusal_text reply_signature date_of parts_of years_off months_off scrip_text scrip_of scrip_at id_at literal_at field_at field_of is_text digit_of digit_at hex_at scrip_body certificate customer_secret encode_with md5 block_words rounds compress hash_after digest_bytes
row_credit_reply = refl

row_buy_reply : reply_of bought_once 5 ≡ codes "HTTP/1.1 200 OK\r\nDate: Mon, 12 Jan 1970 13:46:40 GMT\r\nCache-Control: no-store\r\nContent-Type: text/plain; charset=utf-8\r\nContent-Length: 129\r\nMillicent-Price: 51\r\nMillicent-Change: MS1|bank|148|000000f400000001|000000f400000000|1011712||44ba695b375a21bfd36bf49f9c40b1db\r\nMillicent-Sign: d28b008820c07d84978c74bb404b6871\r\n\r\nMS1|shop.example|50|000000f400000000|000000f400000000|1011712||c49cab61d06a8d2b83e5e77a5717a467 abb836b08f3221022ca11fbd9b17e879\n"
unfolding digits sale_brought sale_price version_by text_version digest errand_of reply_of refusal_of reply_head reply_text refusal_text reply_signature date_of parts_of years_off months_off scrip_text scrip_of scrip_at id_at literal_at field_at field_of is_text digit_of digit_at hex_at scrip_body certificate customer_secret encode_with md5 block_words rounds compress hash_after digest_bytes
row_buy_reply = refl

row_no_scrip_reply : refusal_of stocked_once 1000000 (record { target = codes "/buy/shop.example/50"; scrip = None; sign = None }) refusals.NoScrip ≡ codes "HTTP/1.1 402 Payment Required\r\nDate: Mon, 12 Jan 1970 13:46:40 GMT\r\nCache-Control: no-store\r\nContent-Length: 0\r\nMillicent-Refusal: 20 NoScrip\r\nMillicent-Price: 51\r\nMillicent-Change: -\r\nMillicent-Sign: -\r\n\r\n"
unfolding digits sale_brought sale_price version_by text_version digest errand_of reply_of refusal_of reply_head reply_text refusal_text reply_signature date_of parts_of years_off months_off scrip_text scrip_of scrip_at id_at literal_at field_at field_of is_text digit_of digit_at hex_at scrip_body certificate customer_secret encode_with md5 block_words rounds compress hash_after digest_bytes
row_no_scrip_reply = refl

abbrev licensed_bank : History
licensed_bank = stocked_once ++ Licence 1000000 (codes "news.example") (terms 1 0x33 0x44) ∷ []

abbrev licensed_sale : Entry
licensed_sale = Accept 1000000 p199 (codes "/buy/news.example/100") None 101 (Some 0x000000f400000001) (sale false 0x010000f400000000)

row_licensed : answer licensed_bank 1000000 full (asks (codes "/buy/news.example/100") p199) ≡ Take licensed_sale
unfolding tail tail_size answer broker_offer sale_brought sale_price version_by text_version digest errand_of digits scrip_of scrip_at id_at literal_at field_at field_of is_text digit_of digit_at hex_at scrip_body certificate customer_secret encode_with request_signature md5 block_words rounds compress hash_after digest_bytes
row_licensed = refl

row_licensed_reply : reply_of (licensed_bank ++ licensed_sale ∷ []) 6 ≡ codes "HTTP/1.1 200 OK\r\nDate: Mon, 12 Jan 1970 13:46:40 GMT\r\nCache-Control: no-store\r\nContent-Type: text/plain; charset=utf-8\r\nContent-Length: 130\r\nMillicent-Price: 101\r\nMillicent-Change: MS1|bank|98|000000f400000001|000000f400000000|1011712||98ac79ccf1120ca626dca945c0382a3a\r\nMillicent-Sign: 971b566cc9bb52e038ba24667863dfdd\r\n\r\nMS1|news.example|100|010000f400000000|010000f400000000|1011712||4e3f1e4725094e8e0ed2c25ebc26515d 0a3add5b23056f2ef910dbd51d6a69ff\n"
unfolding digits sale_brought sale_price version_by text_version digest errand_of reply_of refusal_of reply_head reply_text refusal_text reply_signature date_of parts_of years_off months_off scrip_text scrip_of scrip_at id_at literal_at field_at field_of is_text digit_of digit_at hex_at scrip_body certificate customer_secret encode_with md5 block_words rounds compress hash_after digest_bytes
row_licensed_reply = refl

-- the book of a sale under a licence is lawful
row_lawful_licensed : IsLawful full (licensed_bank ++ licensed_sale ∷ [])
unfolding tail tail_size answer broker_offer sale_brought sale_price version_by text_version digest errand_of digits scrip_of scrip_at id_at literal_at field_at field_of is_text digit_of digit_at hex_at scrip_body certificate customer_secret encode_with request_signature md5 block_words rounds compress hash_after digest_bytes
row_lawful_licensed = (record { in_order = omega arith; allowed = (refl, omega arith) }, (record { in_order = omega arith; allowed = (refl, refl) }, (record { in_order = omega arith; allowed = (refl, refl, refl, omega arith) }, (record { in_order = omega arith; allowed = refl }, (record { in_order = omega arith; allowed = (refl, refl) }, (record { in_order = omega arith; allowed = (refl, refl) }, (record { in_order = omega arith; allowed = refl }, tt)))))))

row_licensed_full : answer licensed_bank 1000000 (record { journal = 2 ^ 40; series = 0 }) (asks (codes "/buy/news.example/100") p199) ≡ Refused (refusals.SeriesFull 0x010000f4)
unfolding tail tail_size answer broker_offer sale_brought sale_price version_by text_version digest errand_of digits scrip_of scrip_at id_at literal_at field_at field_of is_text digit_of digit_at hex_at scrip_body certificate customer_secret encode_with request_signature md5 block_words rounds compress hash_after digest_bytes
row_licensed_full = refl

row_licence : licence_in licensed_bank (codes "news.example") ≡ Some (terms 1 0x33 0x44)
row_licence = refl

row_sums : (fees bought_once ≡ 1) × (paid_in bought_once ≡ 1000) × (all_balances bought_once ≡ 801) × (all_drawn bought_once ≡ 199) × (outstanding (own_out bought_once) bought_once ≡ 148)
unfolding tail tail_size broker_offer sale_brought sale_price version_by text_version digest errand_of digits scrip_of scrip_at id_at literal_at field_at field_of is_text digit_of digit_at hex_at scrip_body certificate customer_secret encode_with request_signature md5 block_words rounds compress hash_after digest_bytes
row_sums = (refl, refl, refl, refl, refl)

row_sold : (values (sold bought_once shop) ≡ 50) × (values (stock_sold bought_once shop) ≡ 50) × (values (licensed_sold bought_once shop) ≡ 0) × (values (licensed_sold (licensed_bank ++ licensed_sale ∷ []) (codes "news.example")) ≡ 100)
unfolding tail tail_size broker_offer sale_brought sale_price version_by text_version digest errand_of digits scrip_of scrip_at id_at literal_at field_at field_of is_text digit_of digit_at hex_at scrip_body certificate customer_secret encode_with request_signature md5 block_words rounds compress hash_after digest_bytes
row_sold = (refl, refl, refl, refl)
