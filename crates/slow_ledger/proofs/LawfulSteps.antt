-- Whether an answer is the very entry of a payload.
use Rattle.std.proofs.Common.{◌≡◌, ℕ, Bool, false, IsTrue, List, [], ◌++◌, Ok, Err, bytes_eq, refl, sym, ap, ◌∙◌, subst, take, slice_get, Option, Some, Result, IfSome}
use Rattle.std.specs.Prelude.{◌↔◌, IfOk}
use Rattle.std.specs.Global.{Vec}
use Rattle.std.proofs.lemmas.Slice.Eq.{bytes_eq-Decides}
use Rattle.mc_requests.specs.declared.limits.Limits.{Limits}
use Rattle.mc_requests.specs.Requests.{Asked}
use Rattle.mc_records.specs.Entry.{Entry, Fits, payload}
use Rattle.ledger_model.specs.Histories.{History}
use Rattle.ledger_model.specs.Lines.{Stop, Refuse, Repeat}
use Rattle.ledger_model.specs.Answer.{Take, Refused, Again, answered, answer, draw_in, column}
use Rattle.slow_ledger.specs.Slow.{Evaluates, IsOperators}
use Rattle.ledger_model.specs.Lawful.{IsAllowed}

-- no payload begins another
abbrev pub NoPrefix : Type 0
NoPrefix = (e f : Entry) (x y : List ℕ) → Fits e → Fits f → payload e ++ x ≡ payload f ++ y → (e ≡ f) × (x ≡ y)

answer_is : (h : History) (t : ℕ) (limits : Limits) (q : Asked) → answer h t limits q ≡ answered (column h t limits q (draw_in h q.target))
unfolding answer
answer_is h t limits q = refl

take_of : (e f : Entry) → Take e ≡ Take f → e ≡ f
take_of e f eq = cc

pub same_payload : NoPrefix → (e f : Entry) → Fits e → Fits f → payload e ≡ payload f → e ≡ f
same_payload law e f fits_e fits_f eq = (law e f [] [] fits_e fits_f (ap (λ (x : List ℕ). x ++ []) eq)).0

pub allowed_taken : NoPrefix → (h : History) (t : ℕ) (limits : Limits) (q : Asked) (found : Vec ℕ) (bytes : List ℕ) (same : Bool)
    → Evaluates (Ok found) (column h t limits q (draw_in h q.target)) → same ≡ bytes_eq found.items bytes → (e : Entry) → Fits e → bytes ≡ payload e
    → (IsTrue same → answer h t limits q ≡ Take e) × (answer h t limits q ≡ Take e → IsTrue same)
allowed_taken law h t limits q found bytes same (f, gives, fits_f, spelled) same_is e fits_e bytes_is =
    let is : answer h t limits q ≡ Take f = answer_is h t limits q ∙ ap answered gives in
    let decides = bytes_eq-Decides found.items bytes in (
      λ yes'.
          let eq : found.items ≡ bytes = decides.0 (sym same_is ∙ yes') in
          is ∙ ap Take (same_payload law f e fits_f fits_e (sym spelled ∙ eq ∙ bytes_is)),
      λ taken.
          let f_is : f ≡ e = take_of f e (sym is ∙ taken) in
          same_is ∙ decides.1 (spelled ∙ ap payload f_is ∙ sym bytes_is),
    )

pub allowed_stopped : (h : History) (t : ℕ) (limits : Limits) (q : Asked) (stop : Stop) → column h t limits q (draw_in h q.target) ≡ Err stop → (e : Entry)
    → (IsTrue false → answer h t limits q ≡ Take e) × (answer h t limits q ≡ Take e → IsTrue false)
allowed_stopped h t limits q (Refuse refusal) gives e =
    let is : answer h t limits q ≡ Refused refusal = answer_is h t limits q ∙ ap answered gives in
    (λ f. absurd (cc), λ taken. let both : Refused refusal ≡ Take e = sym is ∙ taken in absurd (cc))
allowed_stopped h t limits q (Repeat number) gives e =
    let is : answer h t limits q ≡ Again number = answer_is h t limits q ∙ ap answered gives in
    (λ f. absurd (cc), λ taken. let both : Again number ≡ Take e = sym is ∙ taken in absurd (cc))

-- whether an entry of the operator is allowed is said of the entries before it
pub operators_allowed : {E : Type 0} (h before : History) (n : ℕ) (limits : Limits) (r : Result Bool E) (e : Entry) → slice_get h n ≡ Some e → IsOperators e → before ≡ take n h
    → IfOk r (λ b. IfSome (slice_get h n) (λ x. (l : Limits) → IsOperators x → (IsTrue b ↔ IsAllowed l before x)))
    → IfOk r (λ b. IfSome (slice_get h n) (λ x. IsTrue b ↔ IsAllowed limits (take n h) x))
operators_allowed h before n limits (Ok b) e found is_one is said =
    let here : (l : Limits) → IsOperators e → (IsTrue b ↔ IsAllowed l before e) =
    subst (λ (o : Option Entry). IfSome o (λ x. (l : Limits) → IsOperators x → (IsTrue b ↔ IsAllowed l before x))) found said in
    subst (λ (o : Option Entry). IfSome o (λ x. IsTrue b ↔ IsAllowed limits (take n h) x)) (sym found)
    (subst (λ (k : History). IsTrue b ↔ IsAllowed limits k e) is (here limits is_one))
operators_allowed h before n limits (Err x) e found is_one is said = tt
