-- The worked row of a settlement by computation, with values of another program.
use Rattle.std.proofs.Common.{◌≡◌, ℕ, List, [], ◌∷◌, ◌++◌, Some, None, Ok, Err, refl, true, false, replicate}
use Rattle.std.specs.Prelude.{codes}
use Rattle.std.specs.Fmt.{digits}
use Rattle.hex.specs.Hex.{encode_with}
use Rattle.md5.specs.Md5.{md5, block_words, rounds, compress, hash_after, digest_bytes}
use Rattle.mc_fields.specs.Reading.{literal_at, field_at, field_of, digit_of, digit_at, hex_at}
use Rattle.mc_fields.specs.Texts.{is_text}
use Rattle.scrip_form.specs.Issuing.{Issuing}
use Rattle.scrip_form.specs.Scrip.{scrip_body, text_version}
use Rattle.scrip_form.specs.Reading.{scrip_of, scrip_at, id_at}
use Rattle.scrip_certs.specs.Digests.{digest, certificate}
use Rattle.mc_requests.specs.declared.refusal.Refusal.TheVariants.{BadStatement, PaidTwice, SeriesOpen, OverSold, NoTerms}
use Rattle.mc_requests.specs.Errands.{errand_of}
use Rattle.mc_records.specs.Entry.{goods_deed, sale, Entry, Site, AddTerms, Goods, Accept, Account, Deposit, Draw, Licence, Stock, Upgrade, Note}
use Rattle.ledger_model.specs.Histories.{History}
use Rattle.ledger_model.specs.Lines.{Refuse, Repeat}
use Rattle.settle_core.specs.declared.claim.Payment.{Payment}
use Rattle.settle_core.specs.declared.claim.Statement.{Statement}
use Rattle.mc_fields.specs.Cuts.{cut}
use Rattle.settle_core.specs.Claims.{claim_text, payment_text, statement_line, number_in}
use Rattle.settle_core.specs.Statements.{cert_at, statement_input}
use Rattle.settle_core.specs.Settlement.{redeemed, sold_under, settled, IsInOrder}
use Rattle.settle_core.specs.Tasks.{pay_lines, state_lines}

abbrev terms : ℕ → ℕ → ℕ → Issuing
terms issuer scrip customer = record { issuer = issuer; period = 4096; life = 8192; scrip = replicate 16 scrip ∷ []; customer = replicate 16 customer ∷ [] }

abbrev site : ℕ → List ℕ → ℕ → Issuing → Entry
site kind name fee own = Site 1000000 kind name (Some (record { keep = 600; fee = fee; clear = true; terms = own }))

abbrev bank : History
bank =
    site 1 (codes "bank") 1 (terms 0 0x76 0x77)
    ∷ Account 1000000 (codes "ann") (replicate 16 0x99)
    ∷ Deposit 1000000 (codes "ann") 1000 (codes "r1")
    ∷ Licence 1000000 (codes "news.example") (terms 1 0x33 0x44)
    ∷ Stock 1000000 (codes "shop.example") (record { text = codes "MS1|shop.example|50|000000f400000000|000000f400000000|1011712||d1b7c94fcddbd4ad94c9e88098d391f2"; secret = (0x34 ∷ 0x75 ∷ 0x5a ∷ 0xca ∷ 0x28 ∷ 0x2a ∷ 0x8c ∷ 0x0c ∷ 0xfc ∷ 0x10 ∷ 0x5a ∷ 0xbf ∷ 0x2c ∷ 0xd5 ∷ 0x07 ∷ 0x72 ∷ []) } ∷ [])
    ∷ Draw 1000000 (codes "/draw/ann/1/300") (0x0c ∷ 0x64 ∷ 0x5b ∷ 0x30 ∷ 0x84 ∷ 0x9b ∷ 0x86 ∷ 0x0a ∷ 0x0d ∷ 0xc9 ∷ 0xf4 ∷ 0xb9 ∷ 0x81 ∷ 0xe0 ∷ 0xf3 ∷ 0x87 ∷ []) 0x000000f400000000
    ∷ Draw 1000000 (codes "/draw/ann/2/200") (0x2d ∷ 0x7d ∷ 0xf5 ∷ 0x2d ∷ 0x56 ∷ 0xd7 ∷ 0xfb ∷ 0xc8 ∷ 0x11 ∷ 0xcf ∷ 0xc7 ∷ 0xa8 ∷ 0xc4 ∷ 0x36 ∷ 0x85 ∷ 0x81 ∷ []) 0x000000f400000001
    ∷ Accept 1000000 (codes "MS1|bank|300|000000f400000000|000000f400000000|1011712||d0021cbf6150bd3c5afc035f11aecb91") (codes "/buy/news.example/100") None 101 (Some 0x000000f400000002) (sale false 0x010000f400000000)
    ∷ Accept 1000000 (codes "MS1|bank|199|000000f400000002|000000f400000000|1011712||01cbfd586d6e1255fe8a43caa91bcb63") (codes "/buy/shop.example/50") None 51 (Some 0x000000f400000003) (sale true 0x000000f400000000)
    ∷ []

abbrev news : History
news =
    site 0 (codes "news.example") 0 (terms 0 0x11 0x22)
    ∷ AddTerms 1000000 (terms 1 0x33 0x44)
    ∷ Goods 1000000 (codes "/news/1") 25 1 (codes "Good morning.\n")
    ∷ Accept 1000000 (codes "MS1|news.example|100|010000f400000000|010000f400000000|1011712||4e3f1e4725094e8e0ed2c25ebc26515d") (codes "/news/1") None 25 (Some 0x000000f400000000) goods_deed
    ∷ []

abbrev of_news : ℕ → Payment
of_news amount = record { vendor = codes "news.example"; claim = record { issuer = 1; epoch = 244; amount = amount } }

row_sums : (redeemed news 1 244 ≡ 100) × (sold_under bank (codes "news.example") 1 244 ≡ 100) × (sold_under bank (codes "news.example") 1 245 ≡ 0)
unfolding errand_of digits scrip_of scrip_at id_at literal_at field_at field_of is_text digit_of digit_at hex_at scrip_body encode_with cut number_in cert_at certificate text_version digest md5 block_words rounds compress hash_after digest_bytes
row_sums = (refl, refl, refl)

-- the vendor states it at the end of the series
row_open : state_lines news 1011711 1 244 ≡ Err (Refuse (SeriesOpen 1011712 1011711))
unfolding errand_of digits scrip_of scrip_at id_at literal_at field_at field_of is_text digit_of digit_at hex_at scrip_body encode_with cut number_in cert_at certificate text_version digest md5 block_words rounds compress hash_after digest_bytes
row_open = refl

row_stated : state_lines news 1011712 1 244 ≡ Ok (record { issuer = 1; epoch = 244; amount = 100 })
unfolding errand_of digits scrip_of scrip_at id_at literal_at field_at field_of is_text digit_of digit_at hex_at scrip_body encode_with cut number_in cert_at certificate text_version digest md5 block_words rounds compress hash_after digest_bytes
row_stated = refl

row_no_terms : state_lines news 1011712 9 244 ≡ Err (Refuse NoTerms)
unfolding errand_of digits scrip_of scrip_at id_at literal_at field_at field_of is_text digit_of digit_at hex_at scrip_body encode_with cut number_in cert_at certificate text_version digest md5 block_words rounds compress hash_after digest_bytes
row_no_terms = refl

row_line : statement_line (terms 1 0x33 0x44) (of_news 100) ≡ codes "statement news.example 1 244 100 b617a7543938a1c0427b5220ad5c7fd4\n"
unfolding errand_of digits scrip_of scrip_at id_at literal_at field_at field_of is_text digit_of digit_at hex_at scrip_body encode_with cut number_in cert_at certificate text_version digest md5 block_words rounds compress hash_after digest_bytes
row_line = refl

-- the broker reads it
abbrev statement : Statement
statement = record { payment = of_news 100; cert = (0xb6 ∷ 0x17 ∷ 0xa7 ∷ 0x54 ∷ 0x39 ∷ 0x38 ∷ 0xa1 ∷ 0xc0 ∷ 0x42 ∷ 0x7b ∷ 0x52 ∷ 0x20 ∷ 0xad ∷ 0x5c ∷ 0x7f ∷ 0xd4 ∷ []) }

row_read : statement_input (codes "statement news.example 1 244 100 b617a7543938a1c0427b5220ad5c7fd4\n") ≡ Ok statement
unfolding errand_of digits scrip_of scrip_at id_at literal_at field_at field_of is_text digit_of digit_at hex_at scrip_body encode_with cut number_in cert_at certificate text_version digest md5 block_words rounds compress hash_after digest_bytes
row_read = refl

row_cut_off : statement_input (codes "statement news.example 1 244 100 b617a7543938a1c0427b5220ad5c7fd4") ≡ Err 1
unfolding errand_of digits scrip_of scrip_at id_at literal_at field_at field_of is_text digit_of digit_at hex_at scrip_body encode_with cut number_in cert_at certificate text_version digest md5 block_words rounds compress hash_after digest_bytes
row_cut_off = refl

row_more : statement_input (codes "statement news.example 1 244 100 b617a7543938a1c0427b5220ad5c7fd4\nx") ≡ Err 2
unfolding errand_of digits scrip_of scrip_at id_at literal_at field_at field_of is_text digit_of digit_at hex_at scrip_body encode_with cut number_in cert_at certificate text_version digest md5 block_words rounds compress hash_after digest_bytes
row_more = refl

-- and pays it
row_paid : pay_lines bank 1011712 (Ok statement) ≡ Ok (of_news 100)
unfolding errand_of digits scrip_of scrip_at id_at literal_at field_at field_of is_text digit_of digit_at hex_at scrip_body encode_with cut number_in cert_at certificate text_version digest md5 block_words rounds compress hash_after digest_bytes
row_paid = refl

row_early : pay_lines bank 1011711 (Ok statement) ≡ Err (Refuse (SeriesOpen 1011712 1011711))
unfolding errand_of digits scrip_of scrip_at id_at literal_at field_at field_of is_text digit_of digit_at hex_at scrip_body encode_with cut number_in cert_at certificate text_version digest md5 block_words rounds compress hash_after digest_bytes
row_early = refl

row_bad : pay_lines bank 1011712 (Ok (record { payment = of_news 99; cert = statement.cert })) ≡ Err (Refuse BadStatement)
unfolding errand_of digits scrip_of scrip_at id_at literal_at field_at field_of is_text digit_of digit_at hex_at scrip_body encode_with cut number_in cert_at certificate text_version digest md5 block_words rounds compress hash_after digest_bytes
row_bad = refl

row_too_much : pay_lines bank 1011712 (Ok (record { payment = of_news 101; cert = (0xa8 ∷ 0xc7 ∷ 0x3f ∷ 0x03 ∷ 0x64 ∷ 0x64 ∷ 0xf0 ∷ 0xf0 ∷ 0x9d ∷ 0x20 ∷ 0xb4 ∷ 0x09 ∷ 0x93 ∷ 0x60 ∷ 0x8b ∷ 0xdc ∷ []) })) ≡ Err (Refuse (OverSold 100))
unfolding errand_of digits scrip_of scrip_at id_at literal_at field_at field_of is_text digit_of digit_at hex_at scrip_body encode_with cut number_in cert_at certificate text_version digest md5 block_words rounds compress hash_after digest_bytes
row_too_much = refl

-- once it was paid
abbrev paid : History
paid = bank ++ Note 1011712 (codes "pay") (payment_text (of_news 100)) ∷ []

row_again : pay_lines paid 1011712 (Ok statement) ≡ Err (Repeat 100)
unfolding errand_of digits scrip_of scrip_at id_at literal_at field_at field_of is_text digit_of digit_at hex_at scrip_body encode_with cut number_in cert_at certificate text_version digest md5 block_words rounds compress hash_after digest_bytes
row_again = refl

row_twice : pay_lines paid 1011712 (Ok (record { payment = of_news 99; cert = (0x38 ∷ 0x6b ∷ 0x87 ∷ 0x9f ∷ 0xf1 ∷ 0x74 ∷ 0x28 ∷ 0xb2 ∷ 0x56 ∷ 0x5e ∷ 0xf0 ∷ 0x01 ∷ 0x8d ∷ 0x94 ∷ 0x1e ∷ 0x94 ∷ []) })) ≡ Err (Refuse (PaidTwice 100))
unfolding errand_of digits scrip_of scrip_at id_at literal_at field_at field_of is_text digit_of digit_at hex_at scrip_body encode_with cut number_in cert_at certificate text_version digest md5 block_words rounds compress hash_after digest_bytes
row_twice = refl

row_settled : settled paid (codes "news.example") 1 244 ≡ 100
unfolding errand_of digits scrip_of scrip_at id_at literal_at field_at field_of is_text digit_of digit_at hex_at scrip_body encode_with cut number_in cert_at certificate text_version digest md5 block_words rounds compress hash_after digest_bytes
row_settled = refl

-- a piece of the second version counts for its series as one of the first does
abbrev newer : History
newer =
    news
    ++ Upgrade 1000000 (codes "news.example") 1 245
    ∷ Accept 1003520 (codes "MS2|news.example|100|010000f500000000|010000f500000000|1015808||1dc42d8f857955d0b9a0004e773c07a3") (codes "/news/1") None 25 (Some 0x000000f500000000) goods_deed
    ∷ []

row_newer : (redeemed newer 1 245 ≡ 100) × (redeemed newer 1 244 ≡ 100)
unfolding errand_of digits scrip_of scrip_at id_at literal_at field_at field_of is_text digit_of digit_at hex_at scrip_body encode_with cut number_in cert_at certificate text_version digest md5 block_words rounds compress hash_after digest_bytes
row_newer = (refl, refl)

-- what was sold out of stock was not sold under the licence, of whatever issuer it is
abbrev relayed : History
relayed = bank ++ Accept 1000000 (codes "MS1|bank|148|000000f400000003|000000f400000000|1011712||00000000000000000000000000000000") (codes "/buy/news.example/60") None 61 (Some 0x000000f400000004) (sale true 0x010000f400000009) ∷ []

row_stock : sold_under relayed (codes "news.example") 1 244 ≡ 100
unfolding errand_of digits scrip_of scrip_at id_at literal_at field_at field_of is_text digit_of digit_at hex_at scrip_body encode_with cut number_in cert_at certificate text_version digest md5 block_words rounds compress hash_after digest_bytes
row_stock = refl

-- what was stated comes again
row_stated_again : state_lines (news ++ Note 1011712 (codes "stated") (claim_text (of_news 100).claim) ∷ []) 1011712 1 244 ≡ Err (Repeat 100)
unfolding errand_of digits scrip_of scrip_at id_at literal_at field_at field_of is_text digit_of digit_at hex_at scrip_body encode_with cut number_in cert_at certificate text_version digest md5 block_words rounds compress hash_after digest_bytes
row_stated_again = refl

-- a note that pays and is not spelled as it has to be is not in order; one with another tag is
row_misspelled : IsInOrder bank (Note 1011712 (codes "pay") (codes "news.example 01 244 100")) → ⊥
unfolding errand_of digits scrip_of scrip_at id_at literal_at field_at field_of is_text digit_of digit_at hex_at scrip_body encode_with cut number_in cert_at certificate text_version digest md5 block_words rounds compress hash_after digest_bytes
row_misspelled order = order.paid

row_other_tag : IsInOrder bank (Note 1011712 (codes "paid") (codes "news.example 01 244 100"))
row_other_tag = record { stated = tt; paid = tt }
