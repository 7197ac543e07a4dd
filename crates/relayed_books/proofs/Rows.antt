-- The worked row of several brokers by computation, with values of another program.
use Rattle.std.proofs.Common.{◌≡◌, ℕ, List, [], ◌∷◌, ◌++◌, Some, None, refl, true, false, replicate}
use Rattle.std.specs.Prelude.{codes}
use Rattle.std.specs.Fmt.{digits}
use Rattle.hex.specs.Hex.{encode_with}
use Rattle.mc_fields.specs.Reading.{literal_at, field_at, field_of, digit_of, digit_at, hex_at}
use Rattle.mc_fields.specs.Texts.{is_text}
use Rattle.scrip_form.specs.Issuing.{Issuing}
use Rattle.scrip_form.specs.Scrip.{scrip_body}
use Rattle.scrip_form.specs.Reading.{scrip_of, scrip_at, id_at}
use Rattle.mc_requests.specs.Errands.{errand_of}
use Rattle.mc_records.specs.Entry.{goods_deed, sale, Entry, Site, AddTerms, Goods, Accept, Account, Deposit, Draw, Licence, Stock}
use Rattle.ledger_model.specs.Histories.{History}
use Rattle.ledger_model.specs.Pieces.{own_out}
use Rattle.ledger_model.specs.Accounts.{all_balances}
use Rattle.ledger_model.specs.Sums.{paid_in, fees, takings, outstanding, lapsed}
use Rattle.audit_model.specs.Brokers.{handed_by, relayed, AreBalanced}
use Rattle.relayed_books.specs.Tree.{first_stranger, AreOfTree}

abbrev terms : ℕ → ℕ → ℕ → Issuing
terms issuer scrip customer = record { issuer = issuer; period = 4096; life = 8192; scrip = replicate 16 scrip ∷ []; customer = replicate 16 customer ∷ [] }

abbrev site : ℕ → List ℕ → ℕ → Issuing → Entry
site kind name fee own = Site 1000000 kind name (Some (record { keep = 600; fee = fee; clear = true; terms = own }))

abbrev bank : History
bank =
    site 1 (codes "bank") 1 (terms 0 0x76 0x77)
    ∷ Licence 1000000 (codes "news.example") (terms 1 0x33 0x44)
    ∷ Account 1000000 (codes "kiosk") (replicate 16 0x99)
    ∷ Deposit 1000000 (codes "kiosk") 500 (codes "r1")
    ∷ Draw 1000000 (codes "/draw/kiosk/1/201") (0x00 ∷ 0x81 ∷ 0x6f ∷ 0xe8 ∷ 0x57 ∷ 0x93 ∷ 0x6d ∷ 0xf2 ∷ 0x80 ∷ 0xc0 ∷ 0x84 ∷ 0x69 ∷ 0xa0 ∷ 0xef ∷ 0xf2 ∷ 0x97 ∷ []) 0x000000f400000000
    ∷ Accept 1000000 (codes "MS1|bank|201|000000f400000000|000000f400000000|1011712||2c9f117a1aba2e08b369b79fbcc41047") (codes "/buy/news.example/100") (Some (0x96 ∷ 0xb6 ∷ 0xb4 ∷ 0x5a ∷ 0xf2 ∷ 0x6a ∷ 0x8d ∷ 0x07 ∷ 0x97 ∷ 0x38 ∷ 0x93 ∷ 0xa1 ∷ 0xe7 ∷ 0x1c ∷ 0xe3 ∷ 0xb9 ∷ [])) 101 (Some 0x000000f400000001) (sale false 0x010000f400000000)
    ∷ []

abbrev kiosk : History
kiosk =
    site 1 (codes "kiosk") 2 (terms 0 0x86 0x87)
    ∷ Account 1000000 (codes "eve") (replicate 16 0x99)
    ∷ Deposit 1000000 (codes "eve") 300 (codes "r1")
    ∷ Stock 1000000 (codes "news.example") (record { text = codes "MS1|news.example|100|010000f400000000|010000f400000000|1011712||4e3f1e4725094e8e0ed2c25ebc26515d"; secret = (0x0a ∷ 0x3a ∷ 0xdd ∷ 0x5b ∷ 0x23 ∷ 0x05 ∷ 0x6f ∷ 0x2e ∷ 0xf9 ∷ 0x10 ∷ 0xdb ∷ 0xd5 ∷ 0x1d ∷ 0x6a ∷ 0x69 ∷ 0xff ∷ []) } ∷ [])
    ∷ Draw 1000000 (codes "/draw/eve/1/150") (0x54 ∷ 0xda ∷ 0xe3 ∷ 0x10 ∷ 0x09 ∷ 0x16 ∷ 0xbc ∷ 0xb8 ∷ 0x36 ∷ 0xe7 ∷ 0x7a ∷ 0x9e ∷ 0x4a ∷ 0x58 ∷ 0x4c ∷ 0x57 ∷ []) 0x000000f400000000
    ∷ Accept 1000000 (codes "MS1|kiosk|150|000000f400000000|000000f400000000|1011712||2048078eff42544cb8b9c2a96f4f6bba") (codes "/buy/news.example/100") (Some (0xff ∷ 0xfe ∷ 0x6f ∷ 0xda ∷ 0x9f ∷ 0x92 ∷ 0x35 ∷ 0x42 ∷ 0x7e ∷ 0xf0 ∷ 0xf7 ∷ 0x6c ∷ 0x31 ∷ 0x20 ∷ 0x0e ∷ 0x5f ∷ [])) 102 (Some 0x000000f400000001) (sale true 0x010000f400000000)
    ∷ []

abbrev news : History
news =
    site 0 (codes "news.example") 0 (terms 0 0x11 0x22)
    ∷ AddTerms 1000000 (terms 1 0x33 0x44)
    ∷ Goods 1000000 (codes "/news/1") 25 1 (codes "Good morning.\n")
    ∷ Accept 1000000 (codes "MS1|news.example|100|010000f400000000|010000f400000000|1011712||4e3f1e4725094e8e0ed2c25ebc26515d") (codes "/news/1") (Some (0xe5 ∷ 0x96 ∷ 0xc3 ∷ 0xd1 ∷ 0xb8 ∷ 0xcc ∷ 0xf6 ∷ 0x16 ∷ 0x61 ∷ 0x70 ∷ 0x6f ∷ 0x65 ∷ 0x6d ∷ 0xc4 ∷ 0x69 ∷ 0x67 ∷ [])) 25 (Some 0x000000f400000000) goods_deed
    ∷ []

-- the kiosk, which also sold a piece out of stock that the bank never sold
abbrev kiosk_more : History
kiosk_more =
    kiosk ++ Stock 1000000 (codes "news.example") (record { text = codes "MS1|news.example|10|010000f400000009|010000f400000009|1011712||401e39dd5e9a2943fb2c3bee1a2b1145"; secret = (0x91 ∷ 0xd8 ∷ 0xfb ∷ 0xea ∷ 0x9f ∷ 0xb9 ∷ 0x49 ∷ 0xd6 ∷ 0x1f ∷ 0xb0 ∷ 0x35 ∷ 0x8c ∷ 0x8f ∷ 0x91 ∷ 0x24 ∷ 0x97 ∷ []) } ∷ [])
    ∷ Accept 1000000 (codes "MS1|kiosk|48|000000f400000001|000000f400000000|1011712||a2465b13d35334ead8f272730063324f") (codes "/buy/news.example/10") (Some (0x7a ∷ 0xd1 ∷ 0x5f ∷ 0x0e ∷ 0x6d ∷ 0x58 ∷ 0x00 ∷ 0x32 ∷ 0xf0 ∷ 0xf4 ∷ 0x39 ∷ 0x32 ∷ 0x1a ∷ 0x69 ∷ 0x1a ∷ 0xcc ∷ [])) 12 (Some 0x000000f400000002) (sale true 0x010000f400000009)
    ∷ []

abbrev brokers : List History
brokers = bank ∷ kiosk ∷ []

abbrev vendors : List History
vendors = news ∷ []

row_tree : AreOfTree brokers vendors (news ∷ bank ∷ kiosk ∷ [])
row_tree = record { brokers_are = refl; vendors_are = refl; names = (refl, (refl, (refl, tt))) }

row_sums : (paid_in bank ≡ 500) × (all_balances bank ≡ 299) × (fees bank ≡ 1) × (outstanding (own_out bank) bank ≡ 100)
    × (paid_in kiosk ≡ 300) × (all_balances kiosk ≡ 150) × (fees kiosk ≡ 2) × (outstanding (own_out kiosk) kiosk ≡ 48)
    × (takings news ≡ 25) × (outstanding (handed_by brokers news) news ≡ 75) × (lapsed (handed_by brokers news) news ≡ 0) × (relayed brokers vendors ≡ 100)
unfolding errand_of digits scrip_of scrip_at id_at literal_at field_at field_of is_text digit_of digit_at hex_at scrip_body encode_with
row_sums = (refl, refl, refl, refl, refl, refl, refl, refl, refl, refl, refl, refl)

row_balanced : AreBalanced brokers vendors
unfolding errand_of digits scrip_of scrip_at id_at literal_at field_at field_of is_text digit_of digit_at hex_at scrip_body encode_with
row_balanced = refl

row_none : first_stranger brokers vendors (news ∷ bank ∷ kiosk ∷ []) ≡ None
unfolding errand_of digits scrip_of scrip_at id_at literal_at field_at field_of is_text digit_of digit_at hex_at scrip_body encode_with
row_none = refl

row_stranger : first_stranger (bank ∷ kiosk_more ∷ []) vendors (bank ∷ kiosk_more ∷ news ∷ []) ≡ Some (1, 0x010000f400000009)
unfolding errand_of digits scrip_of scrip_at id_at literal_at field_at field_of is_text digit_of digit_at hex_at scrip_body encode_with
row_stranger = refl

-- a second bank that sells the first serial under the same licence: the later sale, by the order of the books
abbrev bank_again : History
bank_again =
    site 1 (codes "bank2") 1 (terms 0 0x76 0x77)
    ∷ Licence 1000000 (codes "news.example") (terms 1 0x33 0x44)
    ∷ Account 1000000 (codes "kiosk") (replicate 16 0x99)
    ∷ Deposit 1000000 (codes "kiosk") 500 (codes "r1")
    ∷ Draw 1000000 (codes "/draw/kiosk/1/201") (0x00 ∷ 0x81 ∷ 0x6f ∷ 0xe8 ∷ 0x57 ∷ 0x93 ∷ 0x6d ∷ 0xf2 ∷ 0x80 ∷ 0xc0 ∷ 0x84 ∷ 0x69 ∷ 0xa0 ∷ 0xef ∷ 0xf2 ∷ 0x97 ∷ []) 0x000000f400000000
    ∷ Accept 1000000 (codes "MS1|bank|201|000000f400000000|000000f400000000|1011712||2c9f117a1aba2e08b369b79fbcc41047") (codes "/buy/news.example/100") (Some (0x96 ∷ 0xb6 ∷ 0xb4 ∷ 0x5a ∷ 0xf2 ∷ 0x6a ∷ 0x8d ∷ 0x07 ∷ 0x97 ∷ 0x38 ∷ 0x93 ∷ 0xa1 ∷ 0xe7 ∷ 0x1c ∷ 0xe3 ∷ 0xb9 ∷ [])) 101 (Some 0x000000f400000001) (sale false 0x010000f400000000)
    ∷ []

row_twice : first_stranger (bank ∷ bank_again ∷ []) vendors (bank ∷ bank_again ∷ news ∷ []) ≡ Some (1, 0x010000f400000000)
unfolding errand_of digits scrip_of scrip_at id_at literal_at field_at field_of is_text digit_of digit_at hex_at scrip_body encode_with
row_twice = refl

row_turned : first_stranger (bank_again ∷ bank ∷ []) vendors (bank_again ∷ news ∷ bank ∷ []) ≡ Some (2, 0x010000f400000000)
unfolding errand_of digits scrip_of scrip_at id_at literal_at field_at field_of is_text digit_of digit_at hex_at scrip_body encode_with
row_turned = refl
