-- An errand is read from its text, and from nothing else.
use Rattle.std.proofs.Common.{◌≡◌, ℕ, Bool, true, false, cond, List, ◌++◌, Option, Some, None, Ok, Err, refl, sym, ap, ◌∙◌, subst, append_assoc, arith, inl, inr}
use Rattle.std.specs.Prelude.{codes, decimal, option_map, ◌⊎◌, IfSome, IsNone}
use Rattle.std.specs.Option.{option_or}
use Rattle.std.proofs.lemmas.Fmt.{decimal_injective}
use Rattle.mc_base.specs.declared.amount.TheConstants.Amount.{MOST}
use Rattle.mc_fields.specs.Reading.{Read, literal_at, number_at}
use Rattle.mc_fields.specs.Texts.{IsNumber}
use Rattle.mc_fields.proofs.FieldLaws.{literal_reads}
use Rattle.mc_fields.proofs.NumberField.{number_reads, number_whole, no_number}
use Rattle.scrip_form.specs.Texts.{IsName, is_name}
use Rattle.scrip_form.specs.Reading.{name_until}
use Rattle.scrip_form.proofs.FieldReads.{name_until_reads}
use Rattle.scrip_form.proofs.TextTests.{name_decides}
use Rattle.mc_requests.specs.Errands.{Errand, buy, pay_in, draw, IsErrand, errand_text, errand_of, then_read, behind, last_number, last_name, read_buy, read_pay_in, read_draw}

no_errand : Option Errand
no_errand = None

-- ---- a name and a number to the end of some bytes

pub name_last : (bytes : List ℕ) → IsName bytes → Some bytes ≡ last_name bytes
name_last bytes is = sym (ap (λ (b : Bool). cond b (Some bytes) None) ((name_decides bytes).1 is))

pub no_name_last : (bytes : List ℕ) → (IsName bytes → ⊥) → None ≡ last_name bytes
no_name_last bytes never = go (is_name bytes) (λ e. never ((name_decides bytes).0 e))
  where
    some : List ℕ → Option (List ℕ)
    some s = Some s

    go : (b : Bool) → (b ≡ true → ⊥) → None ≡ cond b (some bytes) None
    go true no' = absurd (no' refl)
    go false no' = refl

last_read : (n : ℕ) → IsNumber MOST n → last_number (decimal n) ≡ Some n
last_read n is = go (last_number (decimal n)) refl
  where
    some : ℕ → Option ℕ
    some k = Some k

    go : (o : Option ℕ) → last_number (decimal n) ≡ o → o ≡ some n
    go (Some k) e =
        let w = number_whole MOST k (decimal n) (omega arith) e in
        ap some (decimal_injective k n (omega (arith, w.0.within)) (omega (arith, is.within)) (sym w.1))
    go None e = absurd (no_number MOST n (decimal n) (omega arith) e is refl)

pub last_told : (bytes : List ℕ) (o : Option ℕ) → IfSome o (λ n. IsNumber MOST n × (bytes ≡ decimal n))
    → (IsNone o → (n : ℕ) → IsNumber MOST n → bytes ≡ decimal n → ⊥) → o ≡ last_number bytes
last_told bytes (Some n) number none = sym (ap last_number number.1 ∙ last_read n number.0)
last_told bytes None number none = go (last_number bytes) refl
  where
    nothing : Option ℕ
    nothing = None

    go : (o : Option ℕ) → last_number bytes ≡ o → nothing ≡ o
    go None e = refl
    go (Some k) e = let w = number_whole MOST k bytes (omega arith) e in absurd (none refl k w.0 w.1)

-- ---- what a step tells

then_is : {A B : Type 0} (r : Read A) (f : A → List ℕ → Option B) (y : B) → then_read r f ≡ Some y → (x : A × List ℕ) × (r ≡ Ok x) × (f x.0 x.1 ≡ Some y)
then_is (Ok x) f y e = (x, refl, e)
then_is (Err d) f y e = absurd cc

map_is : {A B : Type 0} (f : A → B) (o : Option A) (y : B) → option_map f o ≡ Some y → (x : A) × (o ≡ Some x) × (f x ≡ y)
map_is f (Some x) y e = (x, refl, cc)
map_is f None y e = absurd cc

or_is : {A : Type 0} (a b : Option A) (y : A) → option_or a b ≡ Some y → (a ≡ Some y) ⊎ (b ≡ Some y)
or_is (Some x) b y e = inl e
or_is None b y e = inr e

behind_is : {B : Type 0} (front : List ℕ) (next : List ℕ → Option B) (bytes : List ℕ) (y : B) → behind front next bytes ≡ Some y → (rest : List ℕ) × (bytes ≡ front ++ rest) × (next rest ≡ Some y)
behind_is front next bytes y e =
    let t = then_is (literal_at front bytes) (λ u rest. next rest) y e in
    (t.0.1, ((literal_reads front).sound bytes t.0.0 t.0.1 t.1).0, t.2)

-- ---- the three forms

name_slash : (bytes name rest : List ℕ) → name_until 47 bytes ≡ Ok (name, rest) → (bytes ≡ name ++ (codes "/" ++ rest)) × IsName name
name_slash bytes name rest e =
    let s = (name_until_reads 47 refl).sound bytes name rest e in
    (s.0 ∙ append_assoc name (codes "/") rest, s.1)

buy_told : (bytes : List ℕ) (e : Errand) → read_buy bytes ≡ Some e → IsErrand e × (codes "/buy/" ++ bytes ≡ errand_text e)
buy_told bytes e is =
    let t = then_is (name_until 47 bytes) (λ vendor rest. option_map (buy vendor) (last_number rest)) e is in
    let m = map_is (buy t.0.0) (last_number t.0.1) e t.2 in
    let s = name_slash bytes t.0.0 t.0.1 t.1 in
    let n = number_whole MOST m.0 t.0.1 (omega arith) m.1 in
    let P : Errand → Type 0 = λ x. IsErrand x × (codes "/buy/" ++ bytes ≡ errand_text x) in
    subst P m.2 ((s.1, n.0), ap (λ (xs : List ℕ). codes "/buy/" ++ xs) (s.0 ∙ ap (λ (xs : List ℕ). t.0.0 ++ (codes "/" ++ xs)) n.1))

pay_in_told : (bytes : List ℕ) (e : Errand) → read_pay_in bytes ≡ Some e → IsErrand e × (codes "/credit/" ++ bytes ≡ errand_text e)
pay_in_told bytes e is = go (is_name bytes) refl is
  where
    nothing : Option (List ℕ)
    nothing = None

    go : (b : Bool) → is_name bytes ≡ b → option_map pay_in (cond b (Some bytes) nothing) ≡ Some e → IsErrand e × (codes "/credit/" ++ bytes ≡ errand_text e)
    go true named r =
        let P : Errand → Type 0 = λ x. IsErrand x × (codes "/credit/" ++ bytes ≡ errand_text x) in
        let k : pay_in bytes ≡ e = cc in
        subst P k ((name_decides bytes).0 named, refl)
    go false named r = absurd cc

draw_told : (bytes : List ℕ) (e : Errand) → read_draw bytes ≡ Some e → IsErrand e × (codes "/draw/" ++ bytes ≡ errand_text e)
draw_told bytes e is =
    let t = then_is (name_until 47 bytes) (λ account rest. then_read (number_at MOST 47 rest) λ order more. option_map (draw account order) (last_number more)) e is in
    let u = then_is (number_at MOST 47 t.0.1) (λ order more. option_map (draw t.0.0 order) (last_number more)) e t.2 in
    let m = map_is (draw t.0.0 u.0.0) (last_number u.0.1) e u.2 in
    let s = name_slash bytes t.0.0 t.0.1 t.1 in
    let o = (number_reads MOST 47 refl (omega arith) (omega arith)).sound t.0.1 u.0.0 u.0.1 u.1 in
    let n = number_whole MOST m.0 u.0.1 (omega arith) m.1 in
    let P : Errand → Type 0 = λ x. IsErrand x × (codes "/draw/" ++ bytes ≡ errand_text x) in
    let more : t.0.1 ≡ decimal u.0.0 ++ (codes "/" ++ decimal m.0) = o.0 ∙ append_assoc (decimal u.0.0) (codes "/") u.0.1 ∙ ap (λ (xs : List ℕ). decimal u.0.0 ++ (codes "/" ++ xs)) n.1 in
    subst P m.2 ((s.1, o.1, n.0), ap (λ (xs : List ℕ). codes "/draw/" ++ xs) (s.0 ∙ ap (λ (xs : List ℕ). t.0.0 ++ (codes "/" ++ xs)) more))

pub errand_told : (target : List ℕ) (e : Errand) → errand_of target ≡ Some e → IsErrand e × (target ≡ errand_text e)
unfolding errand_of
errand_told target e is = elim (or_is (behind (codes "/buy/") read_buy target) (option_or (behind (codes "/credit/") read_pay_in target) (behind (codes "/draw/") read_draw target)) e is) [
  | inl b ↦
      let r = behind_is (codes "/buy/") read_buy target e b in
      let t = buy_told r.0 e r.2 in (t.0, r.1 ∙ t.1)
  | inr more ↦ elim (or_is (behind (codes "/credit/") read_pay_in target) (behind (codes "/draw/") read_draw target) e more) [
    | inl c ↦
        let r = behind_is (codes "/credit/") read_pay_in target e c in
        let t = pay_in_told r.0 e r.2 in (t.0, r.1 ∙ t.1)
    | inr d ↦
        let r = behind_is (codes "/draw/") read_draw target e d in
        let t = draw_told r.0 e r.2 in (t.0, r.1 ∙ t.1)
  ]
]

-- ---- the text of an errand is read as that errand

name_read : (name rest : List ℕ) → IsName name → name_until 47 (name ++ (codes "/" ++ rest)) ≡ Ok (name, rest)
name_read name rest is = ap (name_until 47) (sym (append_assoc name (codes "/") rest)) ∙ (name_until_reads 47 refl).again name rest is

number_read : (n : ℕ) (rest : List ℕ) → IsNumber MOST n → number_at MOST 47 (decimal n ++ (codes "/" ++ rest)) ≡ Ok (n, rest)
number_read n rest is =
    ap (number_at MOST 47) (sym (append_assoc (decimal n) (codes "/") rest)) ∙ (number_reads MOST 47 refl (omega arith) (omega arith)).again n rest is

buy_read : (vendor : List ℕ) (n : ℕ) → IsName vendor → IsNumber MOST n → read_buy (vendor ++ (codes "/" ++ decimal n)) ≡ Some (buy vendor n)
buy_read vendor n named is =
    ap (λ (r : Read (List ℕ)). then_read r λ v rest. option_map (buy v) (last_number rest)) (name_read vendor (decimal n) named)
    ∙ ap (option_map (buy vendor)) (last_read n is)

pay_in_read : (account : List ℕ) → IsName account → read_pay_in account ≡ Some (pay_in account)
pay_in_read account named = ap (option_map pay_in) (sym (name_last account named))

draw_read : (account : List ℕ) (order n : ℕ) → IsName account → IsNumber MOST order → IsNumber MOST n
    → read_draw (account ++ (codes "/" ++ (decimal order ++ (codes "/" ++ decimal n)))) ≡ Some (draw account order n)
draw_read account order n named ordered is =
    ap (λ (r : Read (List ℕ)). then_read r λ a rest. then_read (number_at MOST 47 rest) λ o more. option_map (draw a o) (last_number more)) (name_read account (decimal order ++ (codes "/" ++ decimal n)) named)
    ∙ ap (λ (r : Read ℕ). then_read r λ o more. option_map (draw account o) (last_number more)) (number_read order (decimal n) ordered)
    ∙ ap (option_map (draw account order)) (last_read n is)

pub errand_read : (e : Errand) → IsErrand e → errand_of (errand_text e) ≡ Some e
unfolding errand_of literal_at no_errand
errand_read (buy vendor n) is = ap (λ (o : Option Errand). option_or o no_errand) (buy_read vendor n is.0 is.1)
errand_read (pay_in account) is = ap (λ (o : Option Errand). option_or o no_errand) (pay_in_read account is)
errand_read (draw account order n) is = draw_read account order n is.0 is.1 is.2
