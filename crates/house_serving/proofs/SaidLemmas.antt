-- What is said to a request.
use Rattle.std.proofs.Common.{◌≡◌, inl, inr, ℕ, ◌<◌, ◌≤◌, [], ◌∷◌, length, refl, sym, ap, ap₂, Result, Ok, Err, arith, length-append}
use Rattle.std.specs.Prelude.{OnOk, is_ok, nat_lt}
use Rattle.std.proofs.lemmas.Bool.{lt-ltb, le-ltb}
use Rattle.mc_requests.specs.declared.refusal.Refusal.{Refusal}
use Rattle.mc_requests.specs.Requests.{Asked}
use Rattle.ledger_model.specs.Answer as answers
use Rattle.ledger_model.specs.Answer.{Answer}
use Rattle.ledger_model.specs.Replies.{reply_of, refusal_of}
use Rattle.house_core.specs.Session.{State, Gives, Says, said_reply}
use Rattle.house_core.specs.Tallies.{told}

-- what is said to a request is its reply
pub says_gives : (s t : State) (q : Asked) (a : Answer) (said : Result ℕ Refusal) → Says a said s t → Gives s q a (said_reply t q said) t
says_gives s t q (answers.Take e) (Ok number) is = inl (ap₂ (λ (u : State) (n : ℕ). reply_of u.history n) is.1 is.0, is.1)
says_gives s t q (answers.Take e) (Err f) is = inr (ap₂ (λ (u : State) (g : Refusal). refusal_of u.history u.time q g) is.1 is.0, is.1)
says_gives s t q (answers.Again m) (Ok number) is = (ap₂ (λ (u : State) (n : ℕ). reply_of u.history n) is.1 is.0, is.1)
says_gives s t q (answers.Again m) (Err f) is = absurd is
says_gives s t q (answers.Refused g) (Ok number) is = absurd is
says_gives s t q (answers.Refused g) (Err f) is = (ap₂ (λ (u : State) (x : Refusal). refusal_of u.history u.time q x) is.1 is.0, is.1)

-- what is told is by the history after it
pub says_told : (s t : State) (a : Answer) (said : Result ℕ Refusal) → Says a said s t → told a (is_ok said) ≡ told a (nat_lt (length s.history) (length t.history))
says_told s t (answers.Take e) (Ok number) is =
    let longer : length s.history < length t.history = omega (arith, ap (λ (u : State). length u.history) is.1, length-append s.history (e ∷ [])) in
    ap (told (answers.Take e)) (sym (lt-ltb (length s.history) (length t.history) longer))
says_told s t (answers.Take e) (Err f) is =
    let same : length t.history ≤ length s.history = omega (arith, ap (λ (u : State). length u.history) is.1) in
    ap (told (answers.Take e)) (sym (le-ltb (length s.history) (length t.history) same))
says_told s t (answers.Again m) said is = refl
says_told s t (answers.Refused g) said is = refl

-- what follows of a success
pub on_ok : {T E : Type 0} (r : Result T E) (A B : Type 0) → (A → B) → OnOk r A → OnOk r B
on_ok (Ok x) A B so a = so a
on_ok (Err e) A B so a = a
