-- The text of an errand is a target.
use Rattle.std.proofs.Common.{◌≡◌, ℕ, ◌<◌, ◌≤◌, Bool, true, ◌&&◌, List, [], ◌∷◌, ◌++◌, length, codes, decimal, refl, ◌∙◌, arith, get_or}
use Rattle.std.specs.List.{list_all}
use Rattle.std.specs.Char.{digit_value}
use Rattle.std.specs.Str.Parse.{AllDigits}
use Rattle.std.proofs.lemmas.Bool.Decides.{nat_tests}
use Rattle.std.proofs.lemmas.List.{length-append}
use Rattle.std.proofs.lemmas.List.Folds.{list_all-append}
use Rattle.std.proofs.lemmas.List.Sums.{AllPass-from_list_all, list_all-from_AllPass}
use Rattle.std.proofs.lemmas.Fmt.{decimal_is_IsNumeral, length-decimal-le}
use Rattle.mc_base.specs.declared.amount.TheConstants.Amount.{MOST}
use Rattle.mc_fields.specs.Texts.{IsNumber}
use Rattle.scrip_form.specs.Texts.{IsName, IsTarget, is_name_byte, is_visible}
use Rattle.mc_requests.specs.Errands.{Errand, buy, pay_in, draw, IsErrand, errand_text}

both : (a b : Bool) → a ≡ true → b ≡ true → (a && b) ≡ true
both a b p q = rw (p, q) refl

seen_digit : (c : ℕ) → digit_value c < 10 → is_visible c ≡ true
seen_digit c lt = grind (arith, nat_tests, lt)

seen_digits : (ds : List ℕ) → AllDigits 10 ds → list_all is_visible ds ≡ true
seen_digits [] all = refl
seen_digits (c ∷ cs) all = both (is_visible c) (list_all is_visible cs) (seen_digit c all.0) (seen_digits cs all.1)

seen_number : (n : ℕ) → IsNumber MOST n → list_all is_visible (decimal n) ≡ true
seen_number n is = seen_digits (decimal n) (decimal_is_IsNumeral n (omega (arith, is.within))).0.1

short_number : (n : ℕ) → IsNumber MOST n → length (decimal n) ≤ 13
short_number n is = length-decimal-le 13 n (omega arith) (omega (arith, is.within)) (omega (arith, is.within))

seen_byte : (c : ℕ) → is_name_byte c ≡ true → is_visible c ≡ true
seen_byte c is = grind (arith, nat_tests, is)

seen_name : (name : List ℕ) → IsName name → list_all is_visible name ≡ true
seen_name name is = list_all-from_AllPass is_visible name (λ k d lt. seen_byte (get_or name k d) (is.all k d lt))

join : (xs ys : List ℕ) → list_all is_visible xs ≡ true → list_all is_visible ys ≡ true → list_all is_visible (xs ++ ys) ≡ true
join xs ys p q = list_all-append is_visible xs ys ∙ both (list_all is_visible xs) (list_all is_visible ys) p q

pub errand_is_target : (e : Errand) → IsErrand e → IsTarget (errand_text e)
errand_is_target (buy vendor n) is =
    let tail : List ℕ = codes "/" ++ decimal n in
    record {
      some = omega arith;
      short = omega (arith, length-append vendor tail, is.0.short, short_number n is.1);
      begins = λ _. refl;
      all = AllPass-from_list_all is_visible (errand_text (buy vendor n)) (join (codes "/buy/") (vendor ++ tail) refl (join vendor tail (seen_name vendor is.0) (join (codes "/") (decimal n) refl (seen_number n is.1))));
    }
errand_is_target (pay_in account) is = record {
  some = omega arith;
  short = omega (arith, is.short);
  begins = λ _. refl;
  all = AllPass-from_list_all is_visible (errand_text (pay_in account)) (join (codes "/credit/") account refl (seen_name account is));
}
errand_is_target (draw account k n) is =
    let last : List ℕ = codes "/" ++ decimal n in
    let tail : List ℕ = codes "/" ++ (decimal k ++ last) in
    record {
      some = omega arith;
      short = omega (arith, length-append account tail, length-append (decimal k) last, is.0.short, short_number k is.1, short_number n is.2);
      begins = λ _. refl;
      all = AllPass-from_list_all is_visible (errand_text (draw account k n))
          (join (codes "/draw/") (account ++ tail) refl (join account tail (seen_name account is.0) (join (codes "/") (decimal k ++ last) refl (join (decimal k) last (seen_number k is.1) (join (codes "/") (decimal n) refl (seen_number n is.2))))));
    }
