-- The worked row of an audit by computation, with values of another program: the books of a broker and two vendors.
use Rattle.std.proofs.Common.{◌≡◌, ℕ, ◌+◌, ◌^◌, ◌≤◌, Bool, Result, Ok, List, [], ◌∷◌, ◌++◌, Some, None, refl, arith, true, false, replicate}
use Rattle.std.specs.Prelude.{codes, sum_by}
use Rattle.std.specs.List.{AllByRecursion}
use Rattle.std.specs.Fmt.{digits}
use Rattle.hex.specs.Hex.{encode_with}
use Rattle.md5.specs.Md5.{md5, block_words, rounds, compress, hash_after, digest_bytes}
use Rattle.mc_fields.specs.Reading.{literal_at, field_at, field_of, digit_of, digit_at, hex_at}
use Rattle.mc_fields.specs.Texts.{is_text}
use Rattle.mc_fields.proofs.TextTest.{text_decides}
use Rattle.scrip_form.specs.Texts.{is_letter_or_digit, is_name_byte, is_slash, is_visible, IsName, IsTarget, is_name, is_target}
use Rattle.scrip_form.specs.Issuing.{Issuing}
use Rattle.scrip_form.specs.Scrip.{Scrip, scrip_body, text_version, IsScripText}
use Rattle.scrip_form.specs.Reading.{scrip_of, scrip_at, id_at}
use Rattle.scrip_form.proofs.Laws.{is_text_of}
use Rattle.scrip_certs.specs.Digests.{digest, certificate, customer_secret, request_signature}
use Rattle.mc_requests.specs.declared.limits.Limits.{Limits}
use Rattle.mc_requests.specs.Errands.{errand_of}
use Rattle.mc_records.specs.Entry.{goods_deed, sale, Held, Entry, Site, AddTerms, Goods, Accept, Mint, Account, Deposit, Draw, Licence, Stock, AreSecrets, AreTerms, Fits}
use Rattle.mc_records.specs.Sizes.{tail, tail_size}
use Rattle.ledger_model.specs.Histories.{History}
use Rattle.ledger_model.specs.Houses.{version_by}
use Rattle.ledger_model.specs.Pieces.{own_out}
use Rattle.ledger_model.specs.Accounts.{all_balances}
use Rattle.ledger_model.specs.Sums.{paid_in, paid_out, fees, takings, handed_out, outstanding, lapsed}
use Rattle.ledger_model.specs.Answer.{broker_offer, answer}
use Rattle.ledger_model.specs.Lawful.{IsLawful}
use Rattle.ledger_model.specs.Replies.{sale_brought, sale_price}
use Rattle.audit_model.specs.Books.{vendor_sum, broker_sum, AreBooks, IsHandedOut, IsBalanced}
use Rattle.audit_model.specs.Brokers.{relayed, AreBalanced}
use Rattle.audit_model.specs.Strangers.{first_stranger, AreOfMarket}

abbrev full : Limits
full = record { journal = 2 ^ 40; series = 2 ^ 32 }

abbrev terms : ℕ → ℕ → ℕ → Issuing
terms issuer scrip customer = record { issuer = issuer; period = 4096; life = 8192; scrip = replicate 16 scrip ∷ []; customer = replicate 16 customer ∷ [] }

abbrev site : ℕ → List ℕ → ℕ → Issuing → Entry
site kind name fee own = Site 1000000 kind name (Some (record { keep = 600; fee = fee; clear = true; terms = own }))

-- ---- the books

-- a piece of 50 of shop.example, with its secret
abbrev shop_line : Held
shop_line = record { text = codes "MS1|shop.example|50|000000f400000000|000000f400000000|1011712||a754fe1cdbc2ff6fb21dd5b376058151"; secret = 0xc9 ∷ 0xbf ∷ 0xcf ∷ 0x98 ∷ 0xf6 ∷ 0x1f ∷ 0xc7 ∷ 0x30 ∷ 0x8f ∷ 0xa0 ∷ 0xb4 ∷ 0x0d ∷ 0x31 ∷ 0x65 ∷ 0x1f ∷ 0x23 ∷ [] }

-- 1000 are paid in for ann, who draws 300 and 200, and buys a piece of 100 of news.example under its licence and, with
-- the change, one of 50 of shop.example out of stock
abbrev bank : History
bank =
    site 1 (codes "bank") 1 (terms 0 0x66 0x77)
    ∷ Account 1000000 (codes "ann") (replicate 16 0x88)
    ∷ Deposit 1000000 (codes "ann") 1000 (codes "r1")
    ∷ Licence 1000000 (codes "news.example") (terms 1 0x33 0x44)
    ∷ Stock 1000000 (codes "shop.example") (shop_line ∷ [])
    ∷ Draw 1000000 (codes "/draw/ann/1/300") (0xf4 ∷ 0x70 ∷ 0x34 ∷ 0x1b ∷ 0xf5 ∷ 0xbd ∷ 0xbf ∷ 0xa9 ∷ 0xbd ∷ 0x09 ∷ 0xe2 ∷ 0x5a ∷ 0xa0 ∷ 0x67 ∷ 0x57 ∷ 0x79 ∷ []) 0x000000f400000000
    ∷ Draw 1000000 (codes "/draw/ann/2/200") (0x25 ∷ 0x4e ∷ 0xfd ∷ 0xd6 ∷ 0xf3 ∷ 0x4d ∷ 0xc9 ∷ 0x46 ∷ 0x7b ∷ 0xd9 ∷ 0xe5 ∷ 0x00 ∷ 0x9b ∷ 0x00 ∷ 0xb0 ∷ 0x9b ∷ []) 0x000000f400000001
    ∷ Accept 1000000 (codes "MS1|bank|300|000000f400000000|000000f400000000|1011712||b5b8eb4132d9235f38f1906bf389dec2") (codes "/buy/news.example/100") None 101 (Some 0x000000f400000002) (sale false 0x010000f400000000)
    ∷ Accept 1000000 (codes "MS1|bank|199|000000f400000002|000000f400000000|1011712||52c97d59579cbbd038c7fe280338a2f7") (codes "/buy/shop.example/50") None 51 (Some 0x000000f400000003) (sale true 0x000000f400000000)
    ∷ []

-- the piece of 100 pays for a page of 25
abbrev news : History
news =
    site 0 (codes "news.example") 0 (terms 0 0x11 0x22)
    ∷ AddTerms 1000000 (terms 1 0x33 0x44)
    ∷ Goods 1000000 (codes "/news/1") 25 1 (codes "Good morning.\n")
    ∷ Accept 1000000 (codes "MS1|news.example|100|010000f400000000|010000f400000000|1011712||4e3f1e4725094e8e0ed2c25ebc26515d") (codes "/news/1") None 25 (Some 0x000000f400000000) goods_deed
    ∷ []

-- one more piece is accepted, which the bank never sold
abbrev forged : History
forged = news ++ Accept 1000000 (codes "MS1|news.example|100|010000f400000009|010000f400000009|1011712||9728a08e45912e1b05f7124df9011689") (codes "/news/1") None 25 (Some 0x000000f400000001) goods_deed ∷ []

-- the stock is minted, and has ended at the shop's last entry
abbrev shop : History
shop =
    site 0 (codes "shop.example") 0 (terms 0 0x55 0x65)
    ∷ Mint 1000000 (codes "m1") 1 50 0x000000f400000000
    ∷ Goods 1011712 (codes "/x") 1 0 (codes "x")
    ∷ []

abbrev vendors : List History
vendors = news ∷ shop ∷ []

-- ---- they are lawful

row_bank : IsLawful full bank
unfolding tail tail_size answer broker_offer sale_brought sale_price version_by text_version digest errand_of digits scrip_of scrip_at id_at literal_at field_at field_of is_text digit_of digit_at hex_at scrip_body certificate customer_secret encode_with request_signature md5 block_words rounds compress hash_after digest_bytes
row_bank = (record { in_order = omega arith; allowed = (refl, omega arith) }, (record { in_order = omega arith; allowed = (refl, refl) }, (record { in_order = omega arith; allowed = (refl, refl, refl, omega arith) }, (record { in_order = omega arith; allowed = (refl, refl) }, (record { in_order = omega arith; allowed = (refl, refl) }, (record { in_order = omega arith; allowed = refl }, (record { in_order = omega arith; allowed = refl }, (record { in_order = omega arith; allowed = refl }, (record { in_order = omega arith; allowed = refl }, tt)))))))))

row_news : IsLawful full news
unfolding tail tail_size answer broker_offer sale_brought sale_price version_by text_version digest errand_of digits scrip_of scrip_at id_at literal_at field_at field_of is_text digit_of digit_at hex_at scrip_body certificate customer_secret encode_with request_signature md5 block_words rounds compress hash_after digest_bytes
row_news = (record { in_order = omega arith; allowed = (refl, omega arith) }, (record { in_order = omega arith; allowed = (refl, refl) }, (record { in_order = omega arith; allowed = (refl, omega arith) }, (record { in_order = omega arith; allowed = refl }, tt))))

row_forged : IsLawful full forged
unfolding tail tail_size answer broker_offer sale_brought sale_price version_by text_version digest errand_of digits scrip_of scrip_at id_at literal_at field_at field_of is_text digit_of digit_at hex_at scrip_body certificate customer_secret encode_with request_signature md5 block_words rounds compress hash_after digest_bytes
row_forged = (record { in_order = omega arith; allowed = (refl, omega arith) }, (record { in_order = omega arith; allowed = (refl, refl) }, (record { in_order = omega arith; allowed = (refl, omega arith) }, (record { in_order = omega arith; allowed = refl }, (record { in_order = omega arith; allowed = refl }, tt)))))

row_shop : IsLawful full shop
unfolding tail tail_size answer broker_offer sale_brought sale_price version_by text_version digest errand_of digits scrip_of scrip_at id_at literal_at field_at field_of is_text digit_of digit_at hex_at scrip_body certificate customer_secret encode_with request_signature md5 block_words rounds compress hash_after digest_bytes
row_shop = (record { in_order = omega arith; allowed = (refl, omega arith) }, (record { in_order = omega arith; allowed = (refl, refl, refl, omega arith) }, (record { in_order = omega arith; allowed = (refl, omega arith) }, tt)))

-- ---- the sums

row_broker : (paid_in bank ≡ 1000) × (paid_out bank ≡ 0) × (all_balances bank ≡ 500) × (fees bank ≡ 2) × (outstanding (own_out bank) bank ≡ 348) × (lapsed (own_out bank) bank ≡ 0)
unfolding errand_of digits scrip_of scrip_at id_at literal_at field_at field_of is_text digit_of digit_at hex_at scrip_body encode_with
row_broker = (refl, refl, refl, refl, refl, refl)

row_vendors : (takings news ≡ 25) × (outstanding (handed_out bank news) news ≡ 75) × (lapsed (handed_out bank news) news ≡ 0)
    × (takings shop ≡ 0) × (outstanding (handed_out bank shop) shop ≡ 0) × (lapsed (handed_out bank shop) shop ≡ 50)
unfolding errand_of digits scrip_of scrip_at id_at literal_at field_at field_of is_text digit_of digit_at hex_at scrip_body encode_with
row_vendors = (refl, refl, refl, refl, refl, refl)

row_balanced : IsBalanced bank vendors
unfolding errand_of digits scrip_of scrip_at id_at literal_at field_at field_of is_text digit_of digit_at hex_at scrip_body encode_with
row_balanced = refl

-- ---- strangers

abbrev books : List History
books = news ∷ bank ∷ shop ∷ []

row_market : AreOfMarket bank vendors books
row_market = record { one_broker = refl; vendors_are = refl }

row_none : first_stranger bank vendors books ≡ None
unfolding errand_of digits scrip_of scrip_at id_at literal_at field_at field_of is_text digit_of digit_at hex_at scrip_body encode_with
row_none = refl

row_stranger : first_stranger bank (forged ∷ shop ∷ []) (bank ∷ forged ∷ shop ∷ []) ≡ Some (1, 0x010000f400000009)
unfolding errand_of digits scrip_of scrip_at id_at literal_at field_at field_of is_text digit_of digit_at hex_at scrip_body encode_with
row_stranger = refl

-- with the forged piece the sum is too high by its value
row_too_much : broker_sum bank + sum_by (vendor_sum bank) (forged ∷ shop ∷ []) ≡ 1100
unfolding errand_of digits scrip_of scrip_at id_at literal_at field_at field_of is_text digit_of digit_at hex_at scrip_body encode_with
row_too_much = refl

-- a shop of that name which minted nothing
abbrev other : History
other = site 0 (codes "shop.example") 0 (terms 0 0x55 0x65) ∷ []

row_not_minted : first_stranger bank (news ∷ other ∷ []) (news ∷ bank ∷ other ∷ []) ≡ Some (1, 0x000000f400000000)
unfolding errand_of digits scrip_of scrip_at id_at literal_at field_at field_of is_text digit_of digit_at hex_at scrip_body encode_with
row_not_minted = refl

-- ---- a second broker sells on the piece of the shop that the bank sold

abbrev kiosk : History
kiosk =
    site 1 (codes "kiosk") 1 (terms 0 0x99 0x9a)
    ∷ Account 1000000 (codes "bob") (replicate 16 0xbb)
    ∷ Deposit 1000000 (codes "bob") 100 (codes "r1")
    ∷ Stock 1000000 (codes "shop.example") (shop_line ∷ [])
    ∷ Draw 1000000 (codes "/draw/bob/1/60") (0x7d ∷ 0x54 ∷ 0x02 ∷ 0x46 ∷ 0x5c ∷ 0x9a ∷ 0xe6 ∷ 0xcf ∷ 0x15 ∷ 0xf7 ∷ 0x37 ∷ 0xf3 ∷ 0xe9 ∷ 0x7a ∷ 0x66 ∷ 0xe4 ∷ []) 0x000000f400000000
    ∷ Accept 1000000 (codes "MS1|kiosk|60|000000f400000000|000000f400000000|1011712||e149aa588ca1fc48717b0dc958aebc4f") (codes "/buy/shop.example/50") None 51 (Some 0x000000f400000001) (sale true 0x000000f400000000)
    ∷ []

row_kiosk : IsLawful full kiosk
unfolding tail tail_size answer broker_offer sale_brought sale_price version_by text_version digest errand_of digits scrip_of scrip_at id_at literal_at field_at field_of is_text digit_of digit_at hex_at scrip_body certificate customer_secret encode_with request_signature md5 block_words rounds compress hash_after digest_bytes
row_kiosk = (record { in_order = omega arith; allowed = (refl, omega arith) }, (record { in_order = omega arith; allowed = (refl, refl) }, (record { in_order = omega arith; allowed = (refl, refl, refl, omega arith) }, (record { in_order = omega arith; allowed = (refl, refl) }, (record { in_order = omega arith; allowed = refl }, (record { in_order = omega arith; allowed = refl }, tt))))))

row_brokers : (sum_by paid_in (bank ∷ kiosk ∷ []) ≡ 1100) × (broker_sum kiosk ≡ 50) × (relayed (bank ∷ kiosk ∷ []) vendors ≡ 50) × AreBalanced (bank ∷ kiosk ∷ []) vendors
unfolding errand_of digits scrip_of scrip_at id_at literal_at field_at field_of is_text digit_of digit_at hex_at scrip_body encode_with
row_brokers = (refl, refl, refl, refl)

-- ---- they are books, so that the laws speak of some

name : (bytes : List ℕ) → is_name bytes ≡ true → IsName bytes
name bytes is = (text_decides is_letter_or_digit is_name_byte 1 63 bytes).0 is

target : (bytes : List ℕ) → is_target bytes ≡ true → IsTarget bytes
target bytes is = (text_decides is_slash is_visible 1 512 bytes).0 is

-- what a scrip text reads as
abbrev is_read : Result ((Scrip × List ℕ) × List ℕ) ℕ → Bool
is_read (Ok (x, [])) = true
is_read _ = false

scrip : (bytes : List ℕ) → is_read (scrip_at bytes) ≡ true → IsScripText bytes
scrip bytes is = go (scrip_at bytes) refl is
  where
    go : (r : Result ((Scrip × List ℕ) × List ℕ) ℕ) → scrip_at bytes ≡ r → is_read r ≡ true → IsScripText bytes
    go (Ok (x, [])) e read = (x.0, x.1, is_text_of bytes x e)
    go r e read = absurd cc

secrets : (b : ℕ) → AreSecrets (replicate 16 b ∷ [])
secrets b = record { some = omega arith; few = omega arith; keys = (refl, tt) }

terms_fit : (least most issuer a b : ℕ) → least ≤ issuer → issuer ≤ most → AreTerms least most (terms issuer a b)
terms_fit least most issuer a b low high = record { issuer = (low, high); period = record { least = omega arith; most = omega arith; short = omega arith }; scrip = secrets a; customer = secrets b }

bank_fits : AllByRecursion Fits bank
unfolding errand_of digits scrip_of scrip_at id_at literal_at field_at field_of is_text digit_of digit_at hex_at scrip_body encode_with
bank_fits = (
  record { moment = omega arith; name = name (codes "bank") refl; house = record { keep = (omega arith, omega arith); fee = omega arith; terms = terms_fit 0 0 0 0x66 0x77 (omega arith) (omega arith) } },
  (
    record { moment = omega arith; name = name (codes "ann") refl; key = refl },
    (
      record { moment = omega arith; name = name (codes "ann") refl; amount = (omega arith, omega arith); reference = name (codes "r1") refl },
      (
        record { moment = omega arith; vendor = name (codes "news.example") refl; terms = terms_fit 1 255 1 0x33 0x44 (omega arith) (omega arith) },
        (
          record { moment = omega arith; vendor = name (codes "shop.example") refl; pieces = record { some = omega arith; few = omega arith; held = (record { text = scrip _ refl; secret = refl }, tt) } },
          (
            record { moment = omega arith; target = target (codes "/draw/ann/1/300") refl; sign = refl; drawn = omega arith },
            (
              record { moment = omega arith; target = target (codes "/draw/ann/2/200") refl; sign = refl; drawn = omega arith },
              (
                record { moment = omega arith; scrip = scrip _ refl; target = target (codes "/buy/news.example/100") refl; sign = tt; price = omega arith; change = omega arith; deed = omega arith },
                (
                  record { moment = omega arith; scrip = scrip _ refl; target = target (codes "/buy/shop.example/50") refl; sign = tt; price = omega arith; change = omega arith; deed = omega arith },
                  tt,
                ),
              ),
            ),
          ),
        ),
      ),
    ),
  ),
)

news_fits : AllByRecursion Fits news
unfolding errand_of digits scrip_of scrip_at id_at literal_at field_at field_of is_text digit_of digit_at hex_at scrip_body encode_with
news_fits = (
  record { moment = omega arith; name = name (codes "news.example") refl; house = record { keep = (omega arith, omega arith); fee = omega arith; terms = terms_fit 0 0 0 0x11 0x22 (omega arith) (omega arith) } },
  (
    record { moment = omega arith; terms = terms_fit 1 255 1 0x33 0x44 (omega arith) (omega arith) },
    (
      record { moment = omega arith; target = target (codes "/news/1") refl; price = (omega arith, omega arith); kind = omega arith; contents = omega arith },
      (
        record { moment = omega arith; scrip = scrip _ refl; target = target (codes "/news/1") refl; sign = tt; price = omega arith; change = omega arith; deed = tt },
        tt,
      ),
    ),
  ),
)

shop_fits : AllByRecursion Fits shop
unfolding errand_of digits scrip_of scrip_at id_at literal_at field_at field_of is_text digit_of digit_at hex_at scrip_body encode_with
shop_fits = (
  record { moment = omega arith; name = name (codes "shop.example") refl; house = record { keep = (omega arith, omega arith); fee = omega arith; terms = terms_fit 0 0 0 0x55 0x65 (omega arith) (omega arith) } },
  (
    record { moment = omega arith; reference = name (codes "m1") refl; count = (omega arith, omega arith); value = (omega arith, omega arith); first = omega arith },
    (
      record { moment = omega arith; target = target (codes "/x") refl; price = (omega arith, omega arith); kind = omega arith; contents = omega arith },
      tt,
    ),
  ),
)

row_books : AreBooks full bank vendors
unfolding errand_of digits scrip_of scrip_at id_at literal_at field_at field_of is_text digit_of digit_at hex_at scrip_body encode_with
row_books = record {
  broker = record { lawful = row_bank; site = refl; fits = bank_fits };
  vendors = (record { lawful = row_news; site = refl; fits = news_fits }, (record { lawful = row_shop; site = refl; fits = shop_fits }, tt));
  names = (refl, (refl, tt));
  sold_for = (refl, (refl, tt));
}

row_handed_out : IsHandedOut bank vendors
unfolding errand_of digits scrip_of scrip_at id_at literal_at field_at field_of is_text digit_of digit_at hex_at scrip_body encode_with
row_handed_out = record { own = (refl, (refl, tt)); accepted_pieces = ((refl, tt), (tt, tt)); stock = (tt, ((refl, tt), tt)) }
