-- What an answer takes does not depend on how long replies are kept: a request that comes again brings a piece that is spent, or
-- an order that is stale.
use Rattle.std.proofs.Common.{◌≡◌, ℕ, ◌+◌, ◌<◌, Bool, true, false, cond, ◌&&◌, ◌||◌, List, [], ◌∷◌, Option, Some, None, Result, Ok, refl, sym, ap, subst, ◌∙◌, arith, option_map, bytes_eq, eqb, leb, ltb}
use Rattle.std.specs.Prelude.{◌==◌}
use Rattle.std.specs.List.{list_any, cons_option, position_from, AllByRecursion}
use Rattle.std.specs.Result.{result_ok}
use Rattle.std.proofs.lemmas.Bool.{eq-eqb, leb-false}
use Rattle.std.proofs.lemmas.Iterator.Adapters.{position_from-zero}
use Rattle.std.proofs.lemmas.Slice.Eq.{bytes_eq-Decides}
use Rattle.scrip_form.specs.Scrip.{Scrip, Certified}
use Rattle.mc_requests.specs.declared.limits.Limits.{Limits}
use Rattle.mc_requests.specs.declared.refusal.Refusal.TheVariants.{NoAccount, StaleOrder, PoorAccount}
use Rattle.mc_requests.specs.Requests.{Asked}
use Rattle.mc_records.specs.Entry.{Entry, Accept, Draw}
use Rattle.ledger_model.specs.Histories.{History}
use Rattle.ledger_model.specs.Houses.{keeping, is_broker}
use Rattle.ledger_model.specs.Orders.{Order, order_of}
use Rattle.ledger_model.specs.Pieces.{piece_of, accepted, is_spent}
use Rattle.ledger_model.specs.Accounts.{key_in, balance, last_order, order_at, orders_of}
use Rattle.ledger_model.specs.Lines.{Stop, ◌>>=◌, given, refused_if, again_if}
use Rattle.ledger_model.specs.Stages.{read_by, is_repeat, is_same_sign, drawable_by, payable_by}
use Rattle.ledger_model.specs.Answer.{repeated_within, genuine, spendable, taken, after_repeat, after_read, lines_within, draw_in, without_scrip, drawn_within, known_in, drawn, draw_lines_within, column_within, Take, answered, answer, answer_within}
use Rattle.ledger_model.specs.Lawful.{IsLawful}
use Rattle.ledger_model.proofs.AccountLaws.{all_below, orders_rise}
use Rattle.ledger_model.proofs.TableLaws.{line_ok, refused_ok, answered_take, read_ok, spendable_ok}

-- ---- a piece that is new

abbrev has_id : ℕ → Scrip → Bool
has_id id x = x.id == id

others_new : (id : ℕ) (o : Option Scrip) (ps : List Scrip) → list_any (has_id id) (cons_option o ps) ≡ false → list_any (has_id id) ps ≡ false
others_new id None ps new = new
others_new id (Some p) ps new = go (eqb p.id id) new
  where
    go : (b : Bool) → (b || list_any (has_id id) ps) ≡ false → list_any (has_id id) ps ≡ false
    go true is = absurd cc
    go false is = is

is_among : (p : Scrip) (ps : List Scrip) → list_any (has_id p.id) (cons_option (Some p) ps) ≡ false → ⊥
is_among p ps new = go (eqb p.id p.id) (eq-eqb p.id p.id refl) new
  where
    go : (b : Bool) → b ≡ true → (b || list_any (has_id p.id) ps) ≡ false → ⊥
    go true is none = cc
    go false is none = cc

-- no entry is of the same request
none_again : (keep t i : ℕ) (q : Asked) (text : List ℕ) (p : Scrip) (h : History) → piece_of text ≡ Some p → is_spent h p.id ≡ false → position_from (is_repeat keep t (record q { scrip = Some text })) i h ≡ None
none_again keep t i q text p [] is new = refl
none_again keep t i q text p (Accept m other at g price change deed ∷ xs) is new = go (bytes_eq other text) refl (none_again keep t (i + 1) q text p xs is)
  where
    rest : Option ℕ
    rest = position_from (is_repeat keep t (record q { scrip = Some text })) (i + 1) xs

    go : (b : Bool) → bytes_eq other text ≡ b → (is_spent xs p.id ≡ false → rest ≡ None)
        → cond (b && bytes_eq at q.target && is_same_sign g q.sign && ltb t (m + keep)) (Some i) rest ≡ None
    go true same ih =
        let piece : piece_of other ≡ Some p = ap piece_of ((bytes_eq-Decides other text).0 same) ∙ is in
        absurd (is_among p (accepted xs) (subst (λ (o : Option Scrip). list_any (has_id p.id) (cons_option o (accepted xs)) ≡ false) piece new))
    go false differs ih = ih (others_new p.id (piece_of other) (accepted xs) new)
none_again keep t i q text p (x ∷ xs) is new = none_again keep t (i + 1) q text p xs is new

lines_alike : (keep other : ℕ) (h : History) (t : ℕ) (limits : Limits) (q : Asked) (e : Entry) → lines_within keep h t limits q ≡ Ok e → lines_within other h t limits q ≡ Ok e
lines_alike keep other h t limits q e r =
    let a = line_ok (read_by q.scrip) _ e r in
    let c = a.0 in
    let b = line_ok (again_if (repeated_within keep h t c q)) (λ _. after_repeat h t limits q c) e a.2 in
    let s = line_ok (genuine h c) (λ secret. spendable h t secret q c >>= λ sign. taken h t limits q c sign) e b.2 in
    let d = line_ok (spendable h t s.0 q c) (λ sign. taken h t limits q c sign) e s.2 in
    let piece : piece_of c.text ≡ Some c.piece = ap (λ (x : Result (Scrip × List ℕ) ℕ). option_map (λ p. p.0) (result_ok x)) (read_ok q.scrip c a.1).1 in
    let none : repeated_within other h t c q ≡ None =
    position_from-zero (is_repeat other t (record q { scrip = Some c.text })) h ∙ none_again other t 0 q c.text c.piece h piece (spendable_ok h t s.0 q c d.0 d.1).is_new in
    ap (λ (x : Result Certified Stop). x >>= λ c. after_read other h t limits q c) a.1 ∙ ap (λ (o : Option ℕ). again_if o >>= λ _. after_repeat h t limits q c) none ∙ b.2

-- ---- an order that rises

others_below : (k : ℕ) (o : Option ℕ) (ns : List ℕ) → AllByRecursion (λ n. n < k) (cons_option o ns) → AllByRecursion (λ n. n < k) ns
others_below k None ns all = all
others_below k (Some n) ns all = all.1

same_account : (name : List ℕ) (o : Order) → name ≡ o.account → order_at name (Some o) ≡ Some o.order
same_account name o is = go (bytes_eq o.account name) ((bytes_eq-Decides o.account name).1 (sym is))
  where
    go : (b : Bool) → b ≡ true → cond b (Some o.order) None ≡ Some o.order
    go true same = refl
    go false same = absurd cc

-- no entry is of the same draw
none_drawn : (keep t i : ℕ) (q : Asked) (o : Order) (h : History) → order_of q.target ≡ Some o → AllByRecursion (λ n. n < o.order) (orders_of h o.account) → position_from (is_repeat keep t (without_scrip q)) i h ≡ None
none_drawn keep t i q o [] is below = refl
none_drawn keep t i q o (Draw m at g drawn ∷ xs) is below = go (bytes_eq at q.target) refl (none_drawn keep t (i + 1) q o xs is)
  where
    rest : Option ℕ
    rest = position_from (is_repeat keep t (without_scrip q)) (i + 1) xs

    go : (b : Bool) → bytes_eq at q.target ≡ b → (AllByRecursion (λ n. n < o.order) (orders_of xs o.account) → rest ≡ None)
        → cond (b && is_same_sign (Some g) q.sign && ltb t (m + keep)) (Some i) rest ≡ None
    go true same ih =
        let order : order_at o.account (order_of at) ≡ Some o.order =
        ap (λ (target : List ℕ). order_at o.account (order_of target)) ((bytes_eq-Decides at q.target).0 same) ∙ ap (order_at o.account) is ∙ same_account o.account o refl in
        let first : o.order < o.order = (subst (λ (n : Option ℕ). AllByRecursion (λ k. k < o.order) (cons_option n (orders_of xs o.account))) order below).0 in
        absurd (omega (arith, first))
    go false differs ih = ih (others_below o.order (order_at o.account (order_of at)) (orders_of xs o.account) below)
none_drawn keep t i q o (x ∷ xs) is below = none_drawn keep t (i + 1) q o xs is below

asked_order : (h : History) (target : List ℕ) (o : Order) → draw_in h target ≡ Some o → order_of target ≡ Some o
asked_order h target o is = go (is_broker h) is
  where
    go : (b : Bool) → cond b (order_of target) None ≡ Some o → order_of target ≡ Some o
    go true same = same
    go false same = absurd cc

draw_lines_alike : (bounds : Limits) (keep other : ℕ) (h : History) (t : ℕ) (limits : Limits) (q : Asked) (o : Order) (e : Entry) → IsLawful bounds h → order_of q.target ≡ Some o
    → draw_lines_within keep h t limits q o ≡ Ok e → draw_lines_within other h t limits q o ≡ Ok e
draw_lines_alike bounds keep other h t limits q o e lawful asks r =
    let after : Unit {0} → Result Entry Stop = λ _. given (key_in h o.account) NoAccount >>= λ key. drawable_by key q.target q.sign >>= λ sign. payable_by o (known_in h o.account) >>= λ _. drawn h t limits q sign in
    let a = line_ok (again_if (drawn_within keep h t q)) after e r in
    let k = line_ok (given (key_in h o.account) NoAccount) (λ key. drawable_by key q.target q.sign >>= λ sign. payable_by o (known_in h o.account) >>= λ _. drawn h t limits q sign) e a.2 in
    let s = line_ok (drawable_by k.0 q.target q.sign) (λ sign. payable_by o (known_in h o.account) >>= λ _. drawn h t limits q sign) e k.2 in
    let p = line_ok (payable_by o (known_in h o.account)) (λ _. drawn h t limits q s.0) e s.2 in
    let i = line_ok (refused_if (leb o.order (last_order h o.account)) (StaleOrder (last_order h o.account))) (λ _. refused_if (ltb (balance h o.account) o.amount) (PoorAccount (balance h o.account))) p.0 p.1 in
    let rises : last_order h o.account < o.order = leb-false o.order (last_order h o.account) (refused_ok (leb o.order (last_order h o.account)) (StaleOrder (last_order h o.account)) i.0 i.1) in
    let below = all_below (orders_of h o.account) o.order (orders_rise bounds h o.account lawful) rises in
    let none : drawn_within other h t q ≡ None = position_from-zero (is_repeat other t (without_scrip q)) h ∙ none_drawn other t 0 q o h asks below in
    ap (λ (n : Option ℕ). again_if n >>= after) none ∙ a.2

-- ---- the answer

alike : (bounds : Limits) (keep other : ℕ) (h : History) (t : ℕ) (limits : Limits) (q : Asked) (e : Entry) → IsLawful bounds h
    → answered (column_within keep h t limits q (draw_in h q.target)) ≡ Take e → answered (column_within other h t limits q (draw_in h q.target)) ≡ Take e
alike bounds keep other h t limits q e lawful takes = go (draw_in h q.target) refl takes
  where
    go : (d : Option Order) → draw_in h q.target ≡ d → answered (column_within keep h t limits q d) ≡ Take e → answered (column_within other h t limits q d) ≡ Take e
    go None is r = ap answered (lines_alike keep other h t limits q e (answered_take (lines_within keep h t limits q) e r))
    go (Some o) is r = ap answered (draw_lines_alike bounds keep other h t limits q o e lawful (asked_order h q.target o is) (answered_take (draw_lines_within keep h t limits q o) e r))

pub takes_as : (bounds : Limits) (keep : ℕ) (h : History) (t : ℕ) (limits : Limits) (q : Asked) (e : Entry) → IsLawful bounds h
    → (answer_within keep h t limits q ≡ Take e → answer h t limits q ≡ Take e) × (answer h t limits q ≡ Take e → answer_within keep h t limits q ≡ Take e)
unfolding answer answer_within
takes_as bounds keep h t limits q e lawful = (alike bounds keep (keeping h) h t limits q e lawful, alike bounds (keeping h) keep h t limits q e lawful)

-- with the keeping time itself
pub within_keeping : (keep : ℕ) (h : History) (t : ℕ) (limits : Limits) (q : Asked) → keeping h ≡ keep → answer_within keep h t limits q ≡ answer h t limits q
unfolding answer answer_within
within_keeping keep h t limits q is = ap (λ (k : ℕ). answered (column_within k h t limits q (draw_in h q.target))) (sym is)

-- ---- by its column

pub within_by_lines : (keep : ℕ) (h : History) (t : ℕ) (limits : Limits) (q : Asked) → draw_in h q.target ≡ None → answer_within keep h t limits q ≡ answered (lines_within keep h t limits q)
unfolding answer_within
within_by_lines keep h t limits q none = ap (λ (d : Option Order). answered (column_within keep h t limits q d)) none

pub within_by_draw : (keep : ℕ) (h : History) (t : ℕ) (limits : Limits) (q : Asked) (o : Order) → draw_in h q.target ≡ Some o → answer_within keep h t limits q ≡ answered (draw_lines_within keep h t limits q o)
unfolding answer_within
within_by_draw keep h t limits q o some = ap (λ (d : Option Order). answered (column_within keep h t limits q d)) some
