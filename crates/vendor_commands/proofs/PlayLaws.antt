-- A play has one run in which memory is refused for no request.
use Rattle.std.proofs.Common.{◌≡◌, ◌∙◌, ℕ, zero, suc, ◌+◌, Bool, cond, true, false, List, [], ◌∷◌, ◌++◌, length, refl, sym, ap, ap₂, subst, count_by, min, inl, inr, arith}
use Rattle.std.specs.List.{AllByRecursion}
use Rattle.std.specs.Prelude.{◌-◌, ◌^◌, nat_lt}
use Rattle.std.proofs.lemmas.List.{length-append}
use Rattle.std.proofs.lemmas.List.Sums.{sum_by-cons}
use Rattle.std.proofs.lemmas.Bool.Decides.{nat_tests}
use Rattle.mc_requests.specs.declared.limits.Limits.{Limits}
use Rattle.mc_records.specs.Entry.{Entry}
use Rattle.mc_requests.specs.Requests.{Asked}
use Rattle.ledger_model.specs.Answer as answers
use Rattle.ledger_model.specs.Answer.{Answer, answer}
use Rattle.millicent_http.specs.Items.{Heads, Item, request, refused}
use Rattle.millicent_http.specs.Steps.{Did, Run, state_after}
use Rattle.millicent_http.specs.Runs.{AreItemsOf}
use Rattle.house_core.specs.Session.{Gives, GivesItem, State, raised}
use Rattle.house_core.specs.Tallies.{Told, ToldState, ToldStep, is_refusal, no_tally, tallied, told, told_by, told_item}
use Rattle.play_heads.specs.PlayHeads.{play_links}
use Rattle.play_heads.specs.Receiving.{readings_of}
use Rattle.operator_command.specs.Operations.{full}
use Rattle.vendor_commands.specs.Play.{ArePlayLines, play_lines, play_opened, windows_in}

-- ---- the items and the readings

abbrev pub OneReading : Type 0
OneReading = (bytes : List ℕ) (xs ys : List Item) → Heads bytes xs → Heads bytes ys → xs ≡ ys

one_items : OneReading → (links : List (List ℕ)) (xs ys : List Item) → AreItemsOf links xs → AreItemsOf links ys → xs ≡ ys
one_items one [] xs ys x y = x ∙ sym y
one_items one (link ∷ links) xs ys x y =
    let front = one link x.0 y.0 x.3 y.3 in
    let rest = one_items one links x.1 y.1 x.4 y.4 in
    x.2 ∙ ap₂ (λ (a b : List Item). a ++ b) front rest ∙ sym y.2

length-readings_of : (n : ℕ) → length (readings_of n) ≡ n
length-readings_of zero = refl
length-readings_of (suc n) = omega (arith, length-append (readings_of n) (min n (2 ^ 35 - 1) ∷ []), length-readings_of n)

-- ---- one step

-- an item that is not refused for want of memory
abbrev Lasts : Told → Type 0
Lasts t = is_refusal 90 t ≡ false

not_grown : (n : ℕ) → nat_lt n n ≡ false
not_grown n = grind (arith, nat_tests)

-- an entry was entered, where memory was not refused
entered_by : (s t : State) (e : Entry) → t ≡ s → Lasts (told (answers.Take e) (nat_lt (length s.history) (length t.history))) → ⊥
entered_by s t e same lasts =
    let stays : nat_lt (length s.history) (length t.history) ≡ false = ap (λ (x : State). nat_lt (length s.history) (length x.history)) same ∙ not_grown (length s.history) in
    let no : Lasts (told (answers.Take e) false) = subst (λ (b : Bool). Lasts (told (answers.Take e) b)) stays lasts in
    absurd (cc no)

gives_once : (a : Answer) (s : State) (q : Asked) (reply other : List ℕ) (t u : State) → Gives s q a reply t → Gives s q a other u
    → Lasts (told a (nat_lt (length s.history) (length t.history))) → Lasts (told a (nat_lt (length s.history) (length u.history))) → (reply ≡ other) × (t ≡ u)
gives_once (answers.Take e) s q reply other t u (inl x) (inl y) lasts last = (x.0 ∙ sym y.0, x.1 ∙ sym y.1)
gives_once (answers.Take e) s q reply other t u (inr x) y lasts last = absurd (entered_by s t e x.1 lasts)
gives_once (answers.Take e) s q reply other t u (inl x) (inr y) lasts last = absurd (entered_by s u e y.1 last)
gives_once (answers.Again number) s q reply other t u x y lasts last = (x.0 ∙ sym y.0, x.1 ∙ sym y.1)
gives_once (answers.Refused f) s q reply other t u x y lasts last = (x.0 ∙ sym y.0, x.1 ∙ sym y.1)

item_once : (limits : Limits) (s : State) (item : Item) (reply other : List ℕ) (t u : State) → GivesItem limits s item reply t → GivesItem limits s item other u
    → Lasts (told_item limits s item t) → Lasts (told_item limits s item u) → (reply ≡ other) × (t ≡ u)
item_once limits s (request q closes) reply other t u x y lasts last = gives_once (answer s.history s.time limits q) s q reply other t u x y lasts last
item_once limits s (refused f closes) reply other t u x y lasts last = (x.0 ∙ sym y.0, x.1 ∙ sym y.1)

step_once : (limits : Limits) (s : ToldState) (reading : ℕ) (item : Item) (reply other : List ℕ) (t u : ToldState) → ToldStep limits s reading item reply t → ToldStep limits s reading item other u
    → Lasts t.told_last → Lasts u.told_last → (reply ≡ other) × (t ≡ u)
step_once limits s reading item reply other t u x y lasts last =
    let r = raised s.state reading in
    let same = item_once limits r item reply other t.state u.state x.step y.step (subst Lasts x.told' lasts) (subst Lasts y.told' last) in
    let told = x.told' ∙ ap (λ (v : State). told_item limits r item v) same.1 ∙ sym y.told' in
    (same.0, λ i. record { state = same.1 i; told_last = told i })

-- ---- a run

abbrev AllLast : List Told → Type 0
AllLast all = AllByRecursion Lasts all

run_once : (limits : Limits) (items : List Item) (s : ToldState) (readings : List ℕ) (xs ys : List (Did ToldState)) → Run (ToldStep limits) s items readings xs → Run (ToldStep limits) s items readings ys
    → AllLast (told_by xs) → AllLast (told_by ys) → xs ≡ ys
run_once limits [] s [] [] [] x y lasts last = refl
run_once limits [] s [] [] (e ∷ es) x y lasts last = absurd y
run_once limits [] s [] (d ∷ ds) ys x y lasts last = absurd x
run_once limits [] s (r ∷ rs) xs ys x y lasts last = absurd x
run_once limits (item ∷ items) s [] xs ys x y lasts last = absurd x
run_once limits (item ∷ items) s (r ∷ rs) [] ys x y lasts last = absurd x
run_once limits (item ∷ items) s (r ∷ rs) (d ∷ ds) [] x y lasts last = absurd y
run_once limits (item ∷ items) s (r ∷ rs) (d ∷ ds) (e ∷ es) x y lasts last =
    let step = step_once limits s r item d.sent e.sent d.after e.after x.0 y.0 lasts.0 last.0 in
    let again = subst (λ (t : ToldState). Run (ToldStep limits) t items rs es) (sym step.1) y.1 in
    let rest = run_once limits items d.after rs ds es x.1 again lasts.1 last.1 in
    λ i. record { sent = step.0 i; after = step.1 i } ∷ rest i

-- one reading for each item
run_long : (limits : Limits) (items : List Item) (s : ToldState) (readings : List ℕ) (xs : List (Did ToldState)) → Run (ToldStep limits) s items readings xs → length readings ≡ length items
run_long limits [] s [] xs x = refl
run_long limits [] s (r ∷ rs) xs x = absurd x
run_long limits (item ∷ items) s [] xs x = absurd x
run_long limits (item ∷ items) s (r ∷ rs) [] x = absurd x
run_long limits (item ∷ items) s (r ∷ rs) (d ∷ ds) x = ap suc (run_long limits items d.after rs ds x.1)

-- ---- no refusal for want of memory

all_last : (all : List Told) → count_by (is_refusal 90) all ≡ 0 → AllLast all
all_last [] e = tt
all_last (t ∷ ts) e = go (is_refusal 90 t) refl (sym (sum_by-cons (λ (x : Told). cond (is_refusal 90 x) 1 0) t ts) ∙ e) (λ none. all_last ts none)
  where
    go : (b : Bool) → is_refusal 90 t ≡ b → cond b 1 0 + count_by (is_refusal 90) ts ≡ 0 → (count_by (is_refusal 90) ts ≡ 0 → AllLast ts) → AllLast (t ∷ ts)
    go true is sum rest = absurd (omega (arith, sum))
    go false is sum rest = (is, rest (omega (arith, sum)))

none_counted : (n : ℕ) → min (0 + n) (2 ^ 64 - 1) ≡ 0 → n ≡ 0
none_counted n e = grind arith

no_memory : (all : List Told) → (tallied no_tally all).memory ≡ 0 → AllLast all
unfolding tallied
no_memory all e = all_last all (none_counted (count_by (is_refusal 90) all) e)

-- ---- the lines

pub one_text : OneReading → (count : ℕ) (a b : List ℕ) → ArePlayLines count a → ArePlayLines count b → a ≡ b
one_text one count a b x y =
    let items = one_items one (play_links count) x.run.items y.run.items x.run.heads y.run.heads in
    let long = run_long full x.run.items play_opened (readings_of x.reads) x.steps x.run.ran in
    let other = run_long full y.run.items play_opened (readings_of y.reads) y.steps y.run.ran in
    let reads : y.reads ≡ x.reads = sym (length-readings_of y.reads) ∙ other ∙ ap (λ (l : List Item). length l) (sym items) ∙ sym long ∙ length-readings_of x.reads in
    let ran = subst (λ (l : List Item). Run (ToldStep full) play_opened l (readings_of x.reads) y.steps) (sym items)
    (subst (λ (n : ℕ). Run (ToldStep full) play_opened y.run.items (readings_of n) y.steps) reads y.run.ran) in
    let same = run_once full x.run.items play_opened (readings_of x.reads) x.steps y.steps x.run.ran ran (no_memory (told_by x.steps) x.memory) (no_memory (told_by y.steps) y.memory) in
    x.said ∙ ap (λ (steps : List (Did ToldState)). play_lines count (tallied no_tally (told_by steps)) (windows_in (state_after play_opened steps).state)) same ∙ sym y.said
