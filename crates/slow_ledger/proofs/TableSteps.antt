-- The table of answers, a stage after the other.
use Rattle.std.proofs.Common.{◌≡◌, ℕ, nat_lt, List, Option, Some, Result, Ok, Err, sym, ap, ◌∙◌, subst}
use Rattle.std.specs.Global.{Vec}
use Rattle.scrip_form.specs.Scrip.{Scrip, Certified}
use Rattle.scrip_form.specs.Reading.{scrip_of}
use Rattle.mc_requests.specs.declared.limits.Limits.{Limits}
use Rattle.mc_requests.specs.Requests.{Asked}
use Rattle.mc_records.specs.Entry.{Entry, Accept, Fits, payload}
use Rattle.slow_ledger.specs.declared.stages.Stopped.{Stopped}
use Rattle.slow_ledger.specs.declared.stages.Stopped.TheVariants as stops
use Rattle.ledger_model.specs.Histories.{History}
use Rattle.mc_requests.specs.declared.refusal.Refusal.TheVariants.{NoAccount}
use Rattle.ledger_model.specs.Orders.{Order}
use Rattle.ledger_model.specs.Accounts.{key_in}
use Rattle.ledger_model.specs.Lines.{Stop, ◌>>=◌, given, again_if}
use Rattle.ledger_model.specs.Stages.{read_by, certified, Offer, needed, drawable_by, payable_by}
use Rattle.ledger_model.specs.Houses.{keeping}
use Rattle.ledger_model.specs.Answer.{repeated, offer, next_own, fitted, taken, after_read, after_repeat, lines, known_in, drawn}
use Rattle.slow_ledger.specs.Slow.{Tells, Evaluates, after_again}

pub evaluates_along : (result : Result (Vec ℕ) Stopped) (a b : Result Entry Stop) → a ≡ b → Evaluates result b → Evaluates result a
evaluates_along result a b e w = subst (λ (line : Result Entry Stop). Evaluates result line) (sym e) w

-- a stop goes through
pub stopped_evaluates : {X Y : Type 0} (stopped : Stopped) (view : X → Y) (r : Result Y Stop) (f : Y → Result Entry Stop) → Tells view (Err stopped) r → Evaluates (Err stopped) (r >>= f)
stopped_evaluates (stops.Refused refusal) view r f told = ap (λ (x : Result _ Stop). x >>= f) told
stopped_evaluates (stops.Again number) view r f told = ap (λ (x : Result _ Stop). x >>= f) told
stopped_evaluates stops.NoMemory view r f told = tt

-- ---- 30 to 33, and the 40, 43, 44 and 45 of a broker

abbrev pub after_change : History → ℕ → Limits → Asked → Certified → Option (List ℕ) → Offer → Option ℕ → Result Entry Stop
after_change h t limits q s sign o change = fitted h limits (Accept t s.text q.target sign o.price change o.deed)

abbrev pub after_offer : History → ℕ → Limits → Asked → Certified → Option (List ℕ) → Offer → Result Entry Stop
after_offer h t limits q s sign o = needed (nat_lt o.price s.piece.value) (next_own h t limits) >>= after_change h t limits q s sign o

pub to_offer : (h : History) (t : ℕ) (limits : Limits) (q : Asked) (s : Certified) (sign : Option (List ℕ)) (value : ℕ)
    → value ≡ s.piece.value → taken h t limits q s sign ≡ (offer h t limits q.target value >>= after_offer h t limits q s sign)
to_offer h t limits q s sign value is =
    ap (λ (v : ℕ). offer h t limits q.target v >>= after_offer h t limits q s sign) (sym is)

pub to_change : (h : History) (t : ℕ) (limits : Limits) (q : Asked) (s : Certified) (sign : Option (List ℕ)) (value : ℕ) (o : Offer)
    → value ≡ s.piece.value → offer h t limits q.target value ≡ Ok o
    → taken h t limits q s sign ≡ (needed (nat_lt o.price value) (next_own h t limits) >>= after_change h t limits q s sign o)
to_change h t limits q s sign value o is e =
    to_offer h t limits q s sign value is ∙ ap (λ (r : Result Offer Stop). r >>= after_offer h t limits q s sign) e
    ∙ ap (λ (v : ℕ). needed (nat_lt o.price v) (next_own h t limits) >>= after_change h t limits q s sign o) (sym is)

-- the text of the entry may be any that is the piece's
to_entry : (h : History) (t : ℕ) (limits : Limits) (q : Asked) (s : Certified) (sign : Option (List ℕ)) (value : ℕ) (o : Offer) (change : Option ℕ) (text : List ℕ)
    → value ≡ s.piece.value → offer h t limits q.target value ≡ Ok o → needed (nat_lt o.price value) (next_own h t limits) ≡ Ok change → text ≡ s.text
    → taken h t limits q s sign ≡ fitted h limits (Accept t text q.target sign o.price change o.deed)
to_entry h t limits q s sign value o change text is e c text_is =
    to_change h t limits q s sign value o is e ∙ ap (λ (r : Result (Option ℕ) Stop). r >>= after_change h t limits q s sign o) c
    ∙ ap (λ (x : List ℕ). fitted h limits (Accept t x q.target sign o.price change o.deed)) (sym text_is)

pub taken_ok : (h : History) (t : ℕ) (limits : Limits) (q : Asked) (s : Certified) (sign : Option (List ℕ)) (value : ℕ) (o : Offer) (change : Option ℕ) (text bytes : List ℕ)
    → value ≡ s.piece.value → offer h t limits q.target value ≡ Ok o → needed (nat_lt o.price value) (next_own h t limits) ≡ Ok change → text ≡ s.text
    → Fits (Accept t text q.target sign o.price change o.deed) → bytes ≡ payload (Accept t text q.target sign o.price change o.deed)
    → fitted h limits (Accept t text q.target sign o.price change o.deed) ≡ Ok (Accept t text q.target sign o.price change o.deed)
    → (x : Entry) × (taken h t limits q s sign ≡ Ok x) × Fits x × (bytes ≡ payload x)
taken_ok h t limits q s sign value o change text bytes is e c text_is fits spelled fitted_is =
    (Accept t text q.target sign o.price change o.deed, to_entry h t limits q s sign value o change text is e c text_is ∙ fitted_is, fits, spelled)

pub taken_full : (h : History) (t : ℕ) (limits : Limits) (q : Asked) (s : Certified) (sign : Option (List ℕ)) (value : ℕ) (o : Offer) (change : Option ℕ) (text : List ℕ) (stopped : Stopped)
    → value ≡ s.piece.value → offer h t limits q.target value ≡ Ok o → needed (nat_lt o.price value) (next_own h t limits) ≡ Ok change → text ≡ s.text
    → Tells {X = Unit {0}} (λ _. Accept t text q.target sign o.price change o.deed) (Err stopped) (fitted h limits (Accept t text q.target sign o.price change o.deed))
    → Evaluates (Err stopped) (taken h t limits q s sign)
taken_full h t limits q s sign value o change text (stops.Refused refusal) is e c text_is told = to_entry h t limits q s sign value o change text is e c text_is ∙ told
taken_full h t limits q s sign value o change text (stops.Again number) is e c text_is told = to_entry h t limits q s sign value o change text is e c text_is ∙ told
taken_full h t limits q s sign value o change text stops.NoMemory is e c text_is told = tt

-- ---- repeats

pub to_repeat : (h : History) (t : ℕ) (limits : Limits) (q : Asked) (s : Certified) (found : Option ℕ)
    → found ≡ repeated h t s q → after_read (keeping h) h t limits q s ≡ (again_if found >>= λ _. after_repeat h t limits q s)
to_repeat h t limits q s found e = ap (λ (o : Option ℕ). again_if o >>= λ _. after_repeat h t limits q s) (sym e)

-- ---- 20, 21

pub to_read : (h : History) (t : ℕ) (limits : Limits) (q : Asked) (s : Certified) (text : List ℕ)
    → q.scrip ≡ Some text → s.text ≡ text → scrip_of text ≡ Ok (s.piece, s.cert) → lines h t limits q ≡ after_read (keeping h) h t limits q s
to_read h t limits q s text given_is text_is read =
    let is : read_by q.scrip ≡ Ok s =
    ap read_by given_is ∙ ap (λ (r : Result (Scrip × List ℕ) ℕ). certified text r) read
    ∙ ap (λ (x : List ℕ). certified x (Ok (s.piece, s.cert))) (sym text_is) in
    ap (λ (r : Result Certified Stop). r >>= after_read (keeping h) h t limits q) is

-- ---- draws

pub to_drawn : (h : History) (t : ℕ) (limits : Limits) (q : Asked) (o : Order) (key sign : List ℕ)
    → key_in h o.account ≡ Some key → drawable_by key q.target q.sign ≡ Ok sign → payable_by o (known_in h o.account) ≡ Ok tt
    → after_again h t limits q o ≡ drawn h t limits q sign
to_drawn h t limits q o key sign has right pays =
    ap (λ (k : Option (List ℕ)). given k NoAccount >>= λ x. drawable_by x q.target q.sign >>= λ s. payable_by o (known_in h o.account) >>= λ _. drawn h t limits q s) has
    ∙ ap (λ (r : Result (List ℕ) Stop). r >>= λ s. payable_by o (known_in h o.account) >>= λ _. drawn h t limits q s) right
    ∙ ap (λ (r : Result (Unit {0}) Stop). r >>= λ _. drawn h t limits q sign) pays
