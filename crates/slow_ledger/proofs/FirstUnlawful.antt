-- Entries that follow those before them, one after the other.
use Rattle.std.proofs.Common.{◌≡◌, ℕ, zero, suc, ◌<◌, ◌+◌, Bool, true, false, IsTrue, [], ◌∷◌, ◌++◌, length, take, Option, Some, slice_get, IfSome, MatchOption, sym, subst, append_assoc, append-nil}
use Rattle.mc_requests.specs.declared.limits.Limits.{Limits}
use Rattle.mc_records.specs.Entry.{Entry}
use Rattle.ledger_model.specs.Histories.{History}
use Rattle.ledger_model.specs.Lawful.{MayFollow, AllFollow, IsLawful, IsFirstUnlawful}
use Rattle.slow_ledger.proofs.SlowLaws.{Next, next, of_next}

follow_snoc : (limits : Limits) (before xs : History) (e : Entry) → AllFollow limits before xs → MayFollow limits (before ++ xs) e → AllFollow limits before (xs ++ e ∷ [])
follow_snoc limits before [] e all may = (subst (λ (k : History). MayFollow limits k e) (append-nil before) may, tt)
follow_snoc limits before (y ∷ ys) e all may =
    (all.0, follow_snoc limits (before ++ y ∷ []) ys e all.1 (subst (λ (k : History). MayFollow limits k e) (sym (append_assoc before (y ∷ []) ys)) may))

follow_at : (limits : Limits) (before h : History) (n : ℕ) (e : Entry) → AllFollow limits before h → slice_get h n ≡ Some e → MayFollow limits (before ++ take n h) e
follow_at limits before [] n e all got = absurd (cc)
follow_at limits before (x ∷ xs) zero e all got =
    let is : x ≡ e = cc in
    subst (λ (y : Entry). MayFollow limits (before ++ []) y) is (subst (λ (k : History). MayFollow limits k x) (sym (append-nil before)) all.0)
follow_at limits before (x ∷ xs) (suc n) e all got =
    subst (λ (k : History). MayFollow limits k e) (append_assoc before (x ∷ []) (take n xs)) (follow_at limits (before ++ x ∷ []) xs n e all.1 got)

all_of_lawful : (limits : Limits) (h : History) → IsLawful limits h → AllFollow limits [] h
all_of_lawful limits [] lawful = tt
all_of_lawful limits (e ∷ es) lawful = lawful

-- whether the entry of a number may follow
abbrev Said : Limits → History → ℕ → Bool → Type 0
Said limits h n b = IfSome (slice_get h n) (λ e. (IsTrue b → MayFollow limits (take n h) e) × (MayFollow limits (take n h) e → IsTrue b))

pub follows_more : (limits : Limits) (h : History) (n : ℕ) (b : Bool) → n < length h → AllFollow limits [] (take n h) → Said limits h n b → b ≡ true → AllFollow limits [] (take (n + 1) h)
follows_more limits h n b lt all said yes' =
    let x = next h n lt in
    let may = of_next (λ e. (IsTrue b → MayFollow limits (take n h) e) × (MayFollow limits (take n h) e → IsTrue b)) h n x said in
    subst (AllFollow limits []) (sym x.front) (follow_snoc limits [] (take n h) x.entry all (may.0 yes'))

no_next : (limits : Limits) (h : History) (n : ℕ) (b : Bool) → (x : Next h n) → Said limits h n b → b ≡ false → MayFollow limits (take n h) x.entry → ⊥
no_next limits h n b x said no' may =
    let says = of_next (λ e. (IsTrue b → MayFollow limits (take n h) e) × (MayFollow limits (take n h) e → IsTrue b)) h n x said in
    let yes' : b ≡ true = says.1 may in
    cc

pub unlawful_there : (limits : Limits) (h : History) (n : ℕ) (b : Bool) → n < length h → Said limits h n b → b ≡ false → IsLawful limits h → ⊥
unlawful_there limits h n b lt said no' lawful =
    let x = next h n lt in
    no_next limits h n b x said no' (follow_at limits [] h n x.entry (all_of_lawful limits h lawful) x.stands)

pub first_there : (limits : Limits) (h : History) (n : ℕ) (b : Bool) → n < length h → AllFollow limits [] (take n h) → Said limits h n b → b ≡ false → IsFirstUnlawful limits h n
first_there limits h n b lt all said no' =
    let x = next h n lt in
    record {
      before = all;
      breaks = subst (λ (o : Option Entry). MatchOption o ((h ≡ []) × (n ≡ 0)) (λ e. MayFollow limits (take n h) e → ⊥)) (sym x.stands) (no_next limits h n b x said no');
    }
