-- What a reply says, by what it is signed over.
use Rattle.std.proofs.Common.{◌≡◌, ℕ, ◌<◌, ◌^◌, Bool, true, false, cond, List, [], ◌∷◌, ◌++◌, Option, Some, None, refl, sym, ap, subst, ◌∙◌, arith, append_assoc}
use Rattle.std.specs.Prelude.{◌==◌, ◌&&◌, not, codes, decimal, bytes_eq, map, IfSome, option_and_then}
use Rattle.std.specs.List.{list_all}
use Rattle.std.proofs.lemmas.Option.{same_Some}
use Rattle.std.proofs.lemmas.Slice.Eq.{bytes_eq-Decides}
use Rattle.std.proofs.lemmas.List.{append_cancel_left}
use Rattle.std.proofs.lemmas.Fmt.{decimal_digit}
use Rattle.httparse.specs.Grammar.{ResponseHead, status_code}
use Rattle.httparse.specs.Spans.{name_and_value}
use Rattle.mc_base.specs.declared.amount.TheConstants.Amount.{MOST}
use Rattle.mc_fields.specs.Reading.{field_of, number_machine}
use Rattle.mc_fields.proofs.NumberField.{number_whole}
use Rattle.scrip_form.specs.Texts.{is_visible}
use Rattle.scrip_form.specs.Scrip.{IsScripText}
use Rattle.ledger_model.specs.Pieces.{piece_of}
use Rattle.wallet_model.specs.Laws.{HasItsPiece}
use Rattle.reply_reader.proofs.ScripLemmas.{scrip_visible}
use Rattle.mc_requests.specs.declared.refusal.Refusal.TheVariants.{BadReply, Unproved}
use Rattle.mc_requests.specs.Replies.{or_dash, reply_text}
use Rattle.ledger_model.specs.Replies.{Contents, taken_values}
use Rattle.millicent_http.specs.Fields.{values}
use Rattle.millicent_http.specs.Decimals.{decimal_of}
use Rattle.millicent_http.specs.Received.{Received}
use Rattle.reply_reader.specs.Replies.{IsReply}
use Rattle.reply_reader.specs.Said.{HeadSaid, the_one, given, length_said, refusal_said, said_by}
use Rattle.reply_reader.proofs.DecimalLemmas.{decimal_one}
use Rattle.reply_reader.proofs.CleanLemmas.{decimal_visible}
use Rattle.wallet_model.specs.Requests.{Pending}
use Rattle.wallet_model.specs.Received.{line_read}
use Rattle.wallet_model.specs.Settling.{price_of, is_paid_by, brings_asked, fits_at, fits_request, is_proved, check_of}
use Rattle.wallet_model.proofs.KeptLaws.{both_left, both_right}
use Rattle.wallet_model.proofs.FitLaws.{settles_text}

-- ---- a 200 has no refusal

given_some : {A B : Type 0} (o : Option A) (next : A → Option B) (y : B) → given o next ≡ Some y → (a : A) × (o ≡ Some a) × (next a ≡ Some y)
given_some None next y e = absurd cc
given_some (Some a) next y e = (a, refl, e)

refusal_200 : (vs : List (List ℕ)) (o : Option (List ℕ)) → refusal_said 200 vs ≡ Some o → o ≡ None
refusal_200 [] o e = sym (same_Some None o e)
refusal_200 (t ∷ []) o e = absurd cc
refusal_200 (t ∷ u ∷ m) o e = absurd cc

said_parts : (status : ℕ) (fields : List (List ℕ × List ℕ)) (x : HeadSaid) → said_by status fields ≡ Some x → (x.status ≡ status) × (refusal_said status (values (codes "millicent-refusal") fields) ≡ Some x.refusal)
said_parts status fields x e =
    let a = given_some (length_said (values (codes "content-length") fields)) _ x e in
    let b = given_some (the_one (values (codes "millicent-price") fields)) _ x a.2 in
    let c = given_some (the_one (values (codes "millicent-change") fields)) _ x b.2 in
    let d = given_some (the_one (values (codes "millicent-sign") fields)) _ x c.2 in
    let f = given_some (refusal_said status (values (codes "millicent-refusal") fields)) _ x d.2 in
    let made : HeadSaid = record { status = status; refusal = f.0; price = b.0; change = c.0; sign = d.0; length = a.0 } in
    let same : made ≡ x = same_Some made x f.2 in
    (sym (ap (λ (y : HeadSaid). y.status) same), f.1 ∙ ap (λ (y : HeadSaid). some y.refusal) same)
  where
    some : Option (List ℕ) → Option (Option (List ℕ))
    some o = Some o

pub no_refusal : (bytes : List ℕ) (r : Received) → IsReply bytes r → r.status ≡ 200 → r.refusal ≡ None
no_refusal bytes r reads status =
    let head : ResponseHead = reads.says.says.head in
    let vs : List (List ℕ) = values (codes "millicent-refusal") (map name_and_value head.fields) in
    let parts = said_parts (status_code head) (map name_and_value head.fields) reads.x reads.says.says.said in
    let at : status_code head ≡ 200 = sym parts.0 ∙ sym (ap (λ (y : Received). y.status) reads.is) ∙ status in
    let here : refusal_said 200 vs ≡ Some reads.x.refusal = subst (λ (n : ℕ). refusal_said n vs ≡ Some reads.x.refusal) at parts.1 in
    ap (λ (y : Received). y.refusal) reads.is ∙ refusal_200 vs reads.x.refusal here

-- ---- the price of a reply that passes the check

pub checked_fits : (p : Pending) (r : Received) → check_of p r ≡ None → r.status ≡ 200 → fits_request p r ≡ true
unfolding check_of
checked_fits p r checked status = go (fits_request p r) (is_proved p r) (subst (λ (n : ℕ). cond ((n == 200) && not (fits_request p r)) (Some BadReply) (cond (not (is_proved p r)) (Some Unproved) None) ≡ None) status checked)
  where
    go : (f b : Bool) → cond (true && not f) (Some BadReply) (cond (not b) (Some Unproved) None) ≡ None → f ≡ true
    go true b e = refl
    go false b e = absurd cc

pub record IsPriced (r : Received) : Type 0 where
  pub price : ℕ
  pub is : price_of r ≡ Some price
  pub spelled : r.price ≡ decimal price
  pub small : price < 2 ^ 64

text_of : (text : List ℕ) (n : ℕ) → decimal_of MOST text ≡ Some n → (text ≡ decimal n) × (n < 2 ^ 64)
text_of text n is = go (bytes_eq text (codes "0")) refl is
  where
    go : (b : Bool) → bytes_eq text (codes "0") ≡ b → cond b (Some 0) (field_of (number_machine MOST 0) 0 text) ≡ Some n → (text ≡ decimal n) × (n < 2 ^ 64)
    go true nil e =
        let z : 0 ≡ n = same_Some 0 n e in
        ((bytes_eq-Decides text (codes "0")).0 nil ∙ sym (decimal_digit 0 (omega arith)) ∙ ap decimal z, omega (arith, z))
    go false other e = let w = number_whole MOST n text (omega arith) e in (w.1, omega (arith, w.0.within))

pub priced : (p : Pending) (r : Received) → fits_request p r ≡ true → IsPriced r
priced p r fits = go (price_of r) refl fits
  where
    go : (o : Option ℕ) → price_of r ≡ o → fits_at p r o ≡ true → IsPriced r
    go None is e = absurd cc
    go (Some n) is e = let t = text_of r.price n is in record { price = n; is = is; spelled = t.0; small = t.1 }

-- ---- change that passes the check

change_visible : (p : Pending) (r : Received) (price : ℕ) → HasItsPiece p.ask p.scrip → is_paid_by (option_and_then piece_of p.scrip) price r.change ≡ true → brings_asked p p.ask price r ≡ true → list_all is_visible r.change ≡ true
change_visible p r price has paid brings = go (bytes_eq r.change (codes "-")) refl
  where
    go : (b : Bool) → bytes_eq r.change (codes "-") ≡ b → list_all is_visible r.change ≡ true
    go true is = subst (λ (t : List ℕ). list_all is_visible t ≡ true) (sym ((bytes_eq-Decides r.change (codes "-")).0 is)) refl
    go false is = scrip_visible r.change (settles_text p r p.ask price p.scrip has paid brings is)

read_visible : (p : Pending) (r : Received) (price : ℕ) → HasItsPiece p.ask p.scrip → fits_request p r ≡ true → price_of r ≡ Some price → list_all is_visible r.change ≡ true
read_visible p r price has fits is =
    let here : fits_at p r (Some price) ≡ true = ap (fits_at p r) (sym is) ∙ fits in
    change_visible p r price has (both_left (is_paid_by (option_and_then piece_of p.scrip) price r.change) (brings_asked p p.ask price r) here)
    (both_right (is_paid_by (option_and_then piece_of p.scrip) price r.change) (brings_asked p p.ask price r) here)

own_visible : (o : Option (List ℕ)) → IfSome o IsScripText → list_all is_visible (or_dash o) ≡ true
own_visible None is = refl
own_visible (Some text) is = scrip_visible text is

-- ---- two texts before a byte that stands in neither

split : (k : ℕ) → is_visible k ≡ false → (a b x y : List ℕ) → list_all is_visible a ≡ true → list_all is_visible b ≡ true → a ++ k ∷ x ≡ b ++ k ∷ y → (a ≡ b) × (x ≡ y)
split k none [] [] x y va vb e = (refl, cc)
split k none [] (c ∷ b) x y va vb e =
    absurd (let at : k ≡ c = cc in let v : is_visible c ≡ true = both_left (is_visible c) _ vb in let w : true ≡ false = sym (ap is_visible at ∙ v) ∙ none in cc)
split k none (c ∷ a) [] x y va vb e =
    absurd (let at : c ≡ k = cc in let v : is_visible c ≡ true = both_left (is_visible c) _ va in let w : true ≡ false = sym (ap is_visible (sym at) ∙ v) ∙ none in cc)
split k none (c ∷ a) (d ∷ b) x y va vb e =
    let head : c ≡ d = cc in
    let tail : a ++ k ∷ x ≡ b ++ k ∷ y = cc in
    let rest = split k none a b x y (both_right (is_visible c) _ va) (both_right (is_visible d) _ vb) tail in
    (ap (λ (n : ℕ). n ∷ a) head ∙ ap (λ (s : List ℕ). d ∷ s) rest.0, rest.1)

-- ---- the text that is signed

pub record SaysSame (price : ℕ) (change : Option (List ℕ)) (contents : List ℕ) (r : Received) : Type 0 where
  pub price_is : price_of r ≡ Some price
  pub change_is : r.change ≡ or_dash change
  pub contents_is : contents ≡ r.contents

regrouped : (a b price change contents : List ℕ) → (a ++ codes " " ++ b ++ codes " " ++ price ++ codes " " ++ change ++ codes "\n") ++ contents
    ≡ a ++ (codes " " ++ (b ++ (codes " " ++ (price ++ (codes " " ++ (change ++ (codes "\n" ++ contents)))))))
regrouped a b price change contents = simp append_assoc

-- A reply whose text is that of an entry's first reply has the entry's price, change and contents.
pub same_line : (m : ℕ) (contents : Contents) (price : ℕ) (change : Option (List ℕ)) (p : Pending) (r : Received) → price < 2 ^ 64 → r.status ≡ 200 → r.refusal ≡ None → check_of p r ≡ None
    → IfSome change IsScripText → HasItsPiece p.ask p.scrip
    → reply_text (taken_values m contents price change) ++ contents.bytes ≡ line_read r ++ r.contents → SaysSame price change contents.bytes r
unfolding reply_text
same_line m contents price change p r small status none checked own has same =
    let fits = checked_fits p r checked status in
    let x = priced p r fits in
    let line : List ℕ → List ℕ = λ (refusal : List ℕ). codes " " ++ (refusal ++ (codes " " ++ (r.price ++ (codes " " ++ (r.change ++ (codes "\n" ++ r.contents)))))) in
    let read : line_read r ++ r.contents ≡ decimal 200 ++ line (codes "-") =
    regrouped (decimal r.status) (or_dash r.refusal) r.price r.change r.contents ∙ ap (λ (n : ℕ). decimal n ++ line (or_dash r.refusal)) status ∙ ap (λ (o : Option (List ℕ)). decimal 200 ++ line (or_dash o)) none in
    let told : reply_text (taken_values m contents price change) ++ contents.bytes
    ≡ decimal 200 ++ (codes " " ++ (codes "-" ++ (codes " " ++ (decimal price ++ (codes " " ++ (or_dash change ++ (codes "\n" ++ contents.bytes))))))) =
    regrouped (decimal 200) (codes "-") (decimal price) (or_dash change) contents.bytes in
    let first = append_cancel_left (decimal 200) (codes " " ++ (codes "-" ++ (codes " " ++ (decimal price ++ (codes " " ++ (or_dash change ++ (codes "\n" ++ contents.bytes))))))) (line (codes "-")) (sym told ∙ same ∙ read) in
    let second = append_cancel_left (codes " - ") (decimal price ++ (codes " " ++ (or_dash change ++ (codes "\n" ++ contents.bytes)))) (r.price ++ (codes " " ++ (r.change ++ (codes "\n" ++ r.contents)))) first in
    let spelled : decimal price ++ 32 ∷ (or_dash change ++ 10 ∷ contents.bytes) ≡ decimal x.price ++ 32 ∷ (r.change ++ 10 ∷ r.contents) = second ∙ ap (λ (s : List ℕ). s ++ 32 ∷ (r.change ++ 10 ∷ r.contents)) x.spelled in
    let parts = split 32 refl (decimal price) (decimal x.price) (or_dash change ++ 10 ∷ contents.bytes) (r.change ++ 10 ∷ r.contents) (decimal_visible price small).0 (decimal_visible x.price x.small).0 spelled in
    let ends = split 10 refl (or_dash change) r.change contents.bytes r.contents (own_visible change own) (read_visible p r x.price has fits x.is) parts.1 in
    record {
      price_is = x.is ∙ ap (λ (n : ℕ). some n) (sym (decimal_one price x.price small x.small parts.0));
      change_is = sym ends.0;
      contents_is = ends.1;
    }
  where
    some : ℕ → Option ℕ
    some n = Some n
