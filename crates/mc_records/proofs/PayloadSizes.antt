-- How long a payload may be.
use Rattle.std.proofs.Common.{ℕ, zero, suc, ◌+◌, ◌*◌, ◌<◌, ◌≤◌, Bool, true, List, [], ◌∷◌, ◌++◌, length, flat_map, Option, Some, None, ap, arith}
use Rattle.std.specs.Prelude.{IfSome}
use Rattle.std.specs.List.{AllByRecursion}
use Rattle.std.proofs.lemmas.List.{length-append}
use Rattle.std.proofs.lemmas.Grind.{flat_map-append}
use Rattle.mc_fields.specs.Field.{Size, one, two, four, eight, Field, number, flag, str, plain, field_bytes, spelled, number_bytes}
use Rattle.mc_fields.proofs.FieldBytes.{length-number_bytes}
use Rattle.scrip_form.specs.Scrip.{IsScripText}
use Rattle.scrip_form.specs.Issuing.{Issuing}
use Rattle.scrip_form.proofs.TextTests.{scrip_is_short}
use Rattle.mc_records.specs.declared.sizes.TheConstants.{PAYLOAD_BOUND}
use Rattle.mc_records.specs.Entry.{Deed, goods_deed, sale, credit, House, Held, Entry, Site, AddTerms, Goods, Accept, Mint, Account, Deposit, Withdraw, Draw, Licence, Stock, Got, Pend, Done, Refused, Upgrade, Switch, Note, payload, sign_fields, change_fields, deed_fields, secrets_fields, terms_fields, house_fields, held_fields, pieces_fields, text_fields, got_fields, Fits, IsKey, AreSecrets, AreTerms, SiteFits, HeldFits, ArePieces}

-- the fields have at most so many bytes
record Within (n : ℕ) (fs : List Field) : Type 0 where
  most : length (spelled fs) ≤ n

none : Within 0 []
none = record { most = omega arith }

size_of_field : (n k : ℕ) (f : Field) (fs : List Field) → length (field_bytes f) ≤ k → Within n fs → Within (k + n) (f ∷ fs)
size_of_field n k f fs here more = record { most = omega (arith, length-append (field_bytes f) (spelled fs), here, more.most) }

numbered : (n : ℕ) (z : Size) (k : ℕ) (fs : List Field) → Within n fs → Within (8 + n) (number z k ∷ fs)
numbered n z k fs more = size_of_field n 8 (number z k) fs (small z) more where
  small : (z : Size) → length (number_bytes z k) ≤ 8
  small one = omega (arith, length-number_bytes one k)
  small two = omega (arith, length-number_bytes two k)
  small four = omega (arith, length-number_bytes four k)
  small eight = omega (arith, length-number_bytes eight k)

flagged : (n : ℕ) (b : Bool) (fs : List Field) → Within n fs → Within (1 + n) (flag b ∷ fs)
flagged n b fs more = size_of_field n 1 (flag b) fs (omega arith) more

named : (n k : ℕ) (text : List ℕ) (fs : List Field) → length text ≤ k → Within n fs → Within (2 + k + n) (str text ∷ fs)
named n k text fs here more =
    size_of_field n (2 + k) (str text) fs (omega (arith, length-append (number_bytes two (length text)) text, length-number_bytes two (length text), here)) more

plainly : (n k : ℕ) (bytes : List ℕ) (fs : List Field) → length bytes ≤ k → Within n fs → Within (k + n) (plain bytes ∷ fs)
plainly n k bytes fs here more = size_of_field n k (plain bytes) fs here more

joined : (m n : ℕ) (fs gs : List Field) → Within m fs → Within n gs → Within (m + n) (fs ++ gs)
joined m n fs gs a b =
    record { most = omega (arith, ap (λ (l : List ℕ). length l) (flat_map-append field_bytes fs gs), length-append (spelled fs) (spelled gs), a.most, b.most) }

-- ---- the parts

signs : (sign : Option (List ℕ)) → IfSome sign IsKey → Within 17 (sign_fields sign)
signs None _ = record { most = omega arith }
signs (Some s) key = flagged 16 true _ (plainly 0 16 s [] (omega (arith, key)) none)

changes : (change : Option ℕ) → Within 9 (change_fields change)
changes None = record { most = omega arith }
changes (Some id) = flagged 8 true _ (numbered 0 eight id [] none)

deeds : (d : Deed) → Within 17 (deed_fields d)
deeds goods_deed = record { most = omega (arith, (numbered 0 one 0 [] none).most) }
deeds (sale stock id) = numbered 9 one 1 _ (flagged 8 stock _ (numbered 0 eight id [] none))
deeds (credit balance) = record { most = omega (arith, (numbered 8 one 2 (number eight balance ∷ []) (numbered 0 eight balance [] none)).most) }

each_secret : (ss : List (List ℕ)) → AllByRecursion IsKey ss → Within (16 * length ss) (flat_map (λ s. plain s ∷ []) ss)
each_secret [] _ = none
each_secret (s ∷ ss) keys = record { most = omega (arith, (plainly (16 * length ss) 16 s (flat_map (λ t. plain t ∷ []) ss) (omega (arith, keys.0)) (each_secret ss keys.1)).most) }

secrets : (ss : List (List ℕ)) → AreSecrets ss → Within 264 (secrets_fields ss)
secrets ss are = record { most = omega (arith, (numbered (16 * length ss) one (length ss) (flat_map (λ t. plain t ∷ []) ss) (each_secret ss are.keys)).most, are.few) }

terms : (low high : ℕ) (t : Issuing) → AreTerms low high t → Within 560 (terms_fields t)
terms low high t are =
    numbered 552 one 1 _ (numbered 544 one t.issuer _ (numbered 536 four t.period _ (numbered 528 four t.life _ (joined 264 264 _ _ (secrets t.scrip are.scrip) (secrets t.customer are.customer)))))

house : (kind : ℕ) (h : Option House) → SiteFits kind h → Within 577 (house_fields h)
house kind None _ = record { most = omega arith }
house zero (Some h) fits = numbered 569 four h.keep _ (numbered 561 eight h.fee _ (flagged 560 h.clear _ (terms 0 0 h.terms fits.terms)))
house (suc zero) (Some h) fits = numbered 569 four h.keep _ (numbered 561 eight h.fee _ (flagged 560 h.clear _ (terms 0 0 h.terms fits.terms)))
house (suc (suc kind)) (Some h) fits = absurd (apart kind fits) where
  apart : (k : ℕ) → SiteFits (suc (suc k)) (Some h) → ⊥
  apart zero x = x
  apart (suc k) x = x

held : (p : Held) → HeldFits p → Within 311 (held_fields p)
held p fits = named 16 293 p.text _ (scrip_is_short p.text fits.text) (plainly 0 16 p.secret [] (omega (arith, fits.secret)) none)

each_held : (ps : List Held) → AllByRecursion HeldFits ps → Within (311 * length ps) (flat_map held_fields ps)
each_held [] _ = none
each_held (p ∷ ps) fits = record { most = omega (arith, (joined 311 (311 * length ps) (held_fields p) (flat_map held_fields ps) (held p fits.0) (each_held ps fits.1)).most) }

pieces : (ps : List Held) → ArePieces ps → Within 79624 (pieces_fields ps)
pieces ps are = record { most = omega (arith, (numbered (311 * length ps) two (length ps) (flat_map held_fields ps) (each_held ps are.held)).most, are.few) }

texts : (text : Option (List ℕ)) → IfSome text IsScripText → Within 296 (text_fields text)
texts None _ = record { most = omega arith }
texts (Some t) fits = flagged 295 true _ (named 0 293 t [] (scrip_is_short t fits) none)

gots : (got : Option Held) → IfSome got HeldFits → Within 312 (got_fields got)
gots None _ = record { most = omega arith }
gots (Some p) fits = flagged 311 true _ (held p fits)

-- ---- the kinds

-- behind the kind and the moment
behind : (n kind m : ℕ) (fs : List Field) → Within n fs → Within (8 + (8 + n)) (number one kind ∷ number eight m ∷ fs)
behind n kind m fs more = numbered (8 + n) one kind _ (numbered n eight m fs more)

-- every payload is shorter than the bound
pub payload_is_short : (e : Entry) → Fits e → length (payload e) < PAYLOAD_BOUND
payload_is_short (Site m kind name h) fits = omega (arith, (behind 650 1 m _ (numbered 642 one kind _ (named 577 63 name _ fits.name.short (house kind h fits.house)))).most)
payload_is_short (AddTerms m t) fits = omega (arith, (behind 560 2 m _ (terms 1 255 t fits.terms)).most)
payload_is_short (Goods m target price kind contents) fits =
    omega (arith, (behind 66074 3 m _ (named 65560 512 target _ fits.target.short (numbered 65552 eight price _ (numbered 65544 one kind _ (numbered 65536 four (length contents) _ (plainly 0 65536 contents [] fits.contents none)))))).most)
payload_is_short (Accept m scrip target sign price change deed) fits =
    omega (arith, (behind 860 4 m _ (named 565 293 scrip _ (scrip_is_short scrip fits.scrip) (named 51 512 target _ fits.target.short (joined 17 34 _ _ (signs sign fits.sign) (numbered 26 eight price _ (joined 9 17 _ _ (changes change) (deeds deed))))))).most)
payload_is_short (Mint m reference count value first) fits =
    omega (arith, (behind 89 5 m _ (named 24 63 reference _ fits.reference.short (numbered 16 two count _ (numbered 8 eight value _ (numbered 0 eight first [] none))))).most)
payload_is_short (Account m name key) fits = omega (arith, (behind 81 6 m _ (named 16 63 name _ fits.name.short (plainly 0 16 key [] (omega (arith, fits.key)) none))).most)
payload_is_short (Deposit m name amount reference) fits =
    omega (arith, (behind 138 7 m _ (named 73 63 name _ fits.name.short (numbered 65 eight amount _ (named 0 63 reference [] fits.reference.short none)))).most)
payload_is_short (Withdraw m name amount reference) fits =
    omega (arith, (behind 138 8 m _ (named 73 63 name _ fits.name.short (numbered 65 eight amount _ (named 0 63 reference [] fits.reference.short none)))).most)
payload_is_short (Draw m target sign drawn) fits =
    omega (arith, (behind 538 9 m _ (named 24 512 target _ fits.target.short (plainly 8 16 sign _ (omega (arith, fits.sign)) (numbered 0 eight drawn [] none)))).most)
payload_is_short (Licence m vendor t) fits = omega (arith, (behind 625 10 m _ (named 560 63 vendor _ fits.vendor.short (terms 1 255 t fits.terms))).most)
payload_is_short (Stock m vendor ps) fits = omega (arith, (behind 79689 11 m _ (named 79624 63 vendor _ fits.vendor.short (pieces ps fits.pieces))).most)
payload_is_short (Got m ps) fits = omega (arith, (behind 79624 12 m _ (pieces ps fits.pieces)).most)
payload_is_short (Pend m ask peer target scrip secret) fits =
    omega (arith, (behind 899 13 m _ (numbered 891 one ask _ (named 826 63 peer _ fits.peer.short (named 312 512 target _ fits.target.short (joined 296 16 _ _ (texts scrip fits.scrip) (plainly 0 16 secret [] (omega (arith, fits.secret)) none)))))).most)
payload_is_short (Done m n price change got) fits =
    omega (arith, (behind 624 14 m _ (numbered 616 eight n _ (numbered 608 eight price _ (joined 296 312 _ _ (texts change fits.change) (gots got fits.got))))).most)
payload_is_short (Refused m n refusal) fits = omega (arith, (behind 16 15 m _ (numbered 8 eight n _ (numbered 0 two refusal [] none))).most)
payload_is_short (Upgrade m vendor issuer from) fits =
    omega (arith, (behind 81 16 m _ (named 16 63 vendor _ fits.vendor.short (numbered 8 one issuer _ (numbered 0 four from [] none)))).most)
payload_is_short (Switch m chain) fits = omega (arith, (behind 32 17 m _ (plainly 0 32 chain [] (omega (arith, fits.chain)) none)).most)
payload_is_short (Note m tag bytes) fits =
    omega (arith, (behind 65609 18 m _ (named 65544 63 tag _ fits.tag.short (numbered 65536 four (length bytes) _ (plainly 0 65536 bytes [] fits.bytes none)))).most)
