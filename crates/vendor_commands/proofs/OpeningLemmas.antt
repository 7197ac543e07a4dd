-- The entries of an opening have payloads, and each may follow those before it.
use Rattle.std.proofs.Common.{◌≡◌, ℕ, ◌+◌, ◌≤◌, ◌^◌, false, List, [], ◌∷◌, ◌++◌, Result, Ok, Err, IfOk, refl, sym, subst, arith}
use Rattle.std.specs.Prelude.{nat_lt}
use Rattle.std.proofs.lemmas.Bool.{le-ltb}
use Rattle.scrip_form.specs.Issuing.{Issuing}
use Rattle.mc_records.specs.Entry.{Entry, AddTerms, Goods, AreSecrets, AreTerms, Fits}
use Rattle.mc_records.specs.Sizes.{size, entry_size}
use Rattle.mc_records.proofs.SizeLaws.{tail_is_short}
use Rattle.mc_records.proofs.PayloadSizes.{payload_is_short}
use Rattle.ledger_model.specs.Histories.{History}
use Rattle.ledger_model.specs.Answer.{fitted}
use Rattle.house_core.specs.BenchView.{BenchView}
use Rattle.vendor_core.specs.declared.shelf.Shelf.{Shelf}
use Rattle.site_words.specs.Words.{Shop, IsShop}
use Rattle.vendor_commands.specs.Opening.{terms_of, founding, licence, shop_goods, IsOpen, ComesNext}
use Rattle.operator_command.specs.Operations.{full}

-- ---- payloads

secrets_are : (shop : Shop) → IsShop shop → AreSecrets (shop.secret ∷ [])
secrets_are shop is = record { some = omega arith; few = omega arith; keys = (is.secret.0, tt) }

terms_are : (shop : Shop) → IsShop shop → (issuer low high : ℕ) → low ≤ issuer → issuer ≤ high → AreTerms low high (terms_of shop issuer)
terms_are shop is issuer low high least most = record {
  issuer = (least, most);
  period = record { least = omega arith; most = omega arith; short = omega arith };
  scrip = secrets_are shop is;
  customer = secrets_are shop is;
}

founding_fits : (shop : Shop) → IsShop shop → Fits (founding shop)
founding_fits shop is = record {
  moment = omega arith;
  name = is.name;
  house = record { keep = (omega arith, omega arith); fee = omega arith; terms = terms_are shop is 0 0 0 (omega arith) (omega arith) };
}

licence_fits : (shop : Shop) → IsShop shop → Fits (licence shop)
licence_fits shop is = record { moment = omega arith; terms = terms_are shop is 1 1 255 (omega arith) (omega arith) }

shop_goods_fit : (shop : Shop) → IsShop shop → Fits (shop_goods shop)
shop_goods_fit shop is = record {
  moment = omega arith;
  target = is.target;
  price = (omega (arith, is.price.least'), is.price.most');
  kind = omega arith;
  contents = is.contents;
}

-- ---- the greatest limits

-- an entry fits behind a short history
pub fits_behind : (h : History) (e : Entry) → size h ≤ 300000 → Fits e → fitted h full e ≡ Ok e
fits_behind h e small fits =
    let short = payload_is_short e fits in
    let fits_still : size h + entry_size h e ≤ 2 ^ 40 = omega (arith, small, short, tail_is_short h e) in
    let below : nat_lt (2 ^ 40) (size h + entry_size h e) ≡ false = le-ltb (2 ^ 40) (size h + entry_size h e) fits_still in
    rw below refl

pub size_of_one : (a : Entry) → Fits a → size (a ∷ []) ≤ 300000
size_of_one a fits = omega (arith, payload_is_short a fits, tail_is_short [] a)

pub size_of_two : (a b : Entry) → Fits a → Fits b → size (a ∷ b ∷ []) ≤ 300000
size_of_two a b fits_a fits_b = omega (arith, payload_is_short a fits_a, payload_is_short b fits_b, tail_is_short [] a, tail_is_short (a ∷ []) b)

-- ---- one after another

pub licence_may_enter : (shop : Shop) → IsShop shop → ComesNext (founding shop ∷ []) (licence shop)
licence_may_enter shop is = record {
  may = record { follows = record { in_order = omega arith; allowed = (refl, refl) }; passed = tt };
  fits = fits_behind (founding shop ∷ []) (licence shop) (size_of_one (founding shop) (founding_fits shop is)) (licence_fits shop is);
}

pub shop_goods_may_enter : (shop : Shop) → IsShop shop → ComesNext (founding shop ∷ licence shop ∷ []) (shop_goods shop)
shop_goods_may_enter shop is = record {
  may = record { follows = record { in_order = omega arith; allowed = (refl, omega (arith, is.contents)) }; passed = tt };
  fits = fits_behind (founding shop ∷ licence shop ∷ []) (shop_goods shop) (size_of_two (founding shop) (licence shop) (founding_fits shop is) (licence_fits shop is)) (shop_goods_fit shop is);
}

-- ---- entries of equal parts

pub licence_is : {m : ℕ} {t : Issuing} (shop : Shop) → m ≡ 0 → t ≡ terms_of shop 1 → AddTerms m t ≡ licence shop
licence_is shop m t = λ i. AddTerms (m i) (t i)

pub shop_goods_is : {m price : ℕ} {target contents : List ℕ} (shop : Shop) → m ≡ 0 → target ≡ shop.target → price ≡ shop.price → contents ≡ shop.contents
    → Goods m target price 0 contents ≡ shop_goods shop
shop_goods_is shop m target price contents = λ i. Goods (m i) (target i) (price i) 0 (contents i)

pub may_enter : {h : History} {e f : Entry} → e ≡ f → ComesNext h f → ComesNext h e
may_enter {h = h} same may = subst (λ (e : Entry). ComesNext h e) (sym same) may

pub open_with : {b : BenchView Shelf} (h : History) {e f : Entry} → e ≡ f → IsOpen b (h ++ e ∷ []) → IsOpen b (h ++ f ∷ [])
open_with {b = b} h same is = subst (λ (e : Entry). IsOpen b (h ++ e ∷ [])) same is

-- where there was memory for it
pub open_last : {E : Type 0} (h : History) {e e' : Entry} → e ≡ e' → (before : BenchView Shelf) → IsOpen before h → (r : Result (BenchView Shelf) E) → IfOk r (λ b. (h : History) → IsOpen before h → IsOpen b (h ++ e ∷ [])) → IfOk r (λ b. IsOpen b (h ++ e' ∷ []))
open_last h is before open' (Ok b) more = open_with h is (more h open')
open_last h is before open' (Err x) more = more
