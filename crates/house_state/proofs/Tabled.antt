-- The stages of the table over a history are those over what a house keeps of it.
use Rattle.std.proofs.Common.{◌≡◌, ℕ, Bool, true, false, not, cond, List, [], ◌∷◌, Option, Some, None, Result, Ok, Err, refl, sym, ap, ap₂, ◌∙◌, arith, leb, eqb, bytes_eq}
use Rattle.std.specs.Prelude.{◌&&◌, is_none, nat_lt, option_map, unwrap_or}
use Rattle.std.proofs.lemmas.Bool.{eqb-true}
use Rattle.scrip_form.specs.Identities.{issuer_of, epoch_of}
use Rattle.scrip_form.specs.Issuing.{Issuing, epoch, series_at, series_end}
use Rattle.scrip_form.specs.Scrip.{Certified}
use Rattle.scrip_certs.specs.Digests.{request_signature}
use Rattle.mc_requests.specs.declared.limits.Limits.{Limits}
use Rattle.mc_requests.specs.declared.refusal.Refusal.TheVariants.{WrongVendor, UnknownIssuer, ExpiryMismatch, Expired, Spent, NeedSignature, BadSignature, NoAccount}
use Rattle.mc_records.specs.Entry.{Entry, Accept, Draw}
use Rattle.mc_requests.specs.Requests.{Asked}
use Rattle.mc_records.specs.Sizes.{tail_bytes}
use Rattle.mc_records.proofs.SizeLaws.{length-tail, tail_size-by}
use Rattle.kept_replies.specs.Kept.{found}
use Rattle.change_issue.specs.Registers.{count_in}
use Rattle.ledger_model.specs.Histories.{History}
use Rattle.ledger_model.specs.declared.upgraded.Upgraded.{Upgraded}
use Rattle.ledger_model.specs.Houses.{site_name, all_terms, terms_by, terms_in, version_by, version, own_series}
use Rattle.ledger_model.specs.Pieces.{is_spent}
use Rattle.ledger_model.specs.Lines.{Stop, Refuse, Repeat, ◌>>=◌, given, refused_if, again_if}
use Rattle.ledger_model.specs.Stages.{read_by, is_right, genuine_by, spendable_by, Offer, next_by, needed, drawable_by, payable_by, fitted_by}
use Rattle.ledger_model.specs.Answer.{repeated_within, after_read, after_repeat, genuine, spendable, offer, next_own, fitted, taken, lines_within, without_scrip, drawn_within, known_in, drawn, draw_lines_within}
use Rattle.ledger_model.specs.Orders.{Order}
use Rattle.ledger_model.specs.Accounts.{key_in}
use Rattle.ledger_model.proofs.TableLaws.{line_ok, refused_ok, given_ok, read_ok}
use Rattle.house_state.specs.declared.offer.DrawAsk.{DrawAsk}
use Rattle.house_state.specs.Trade.{asked_of_account}
use Rattle.house_state.specs.Verdicts.{order_in, known_by}
use Rattle.house_state.specs.HouseState.{HouseStateView, end_by, version_of, tail_of, series_now}
use Rattle.spent_windows.specs.Windows.{is_marked}
use Rattle.house_state.specs.Representation.{StateRepresents, has_ended, scrip_request}

-- ---- 22 to 25 and 34

abbrev pub genuine_in : HouseStateView → Certified → Result (List ℕ) Stop
genuine_in b c = genuine_by b.name (version_of b) b.terms c

pub genuine_stands : {b : HouseStateView} {h : History} → StateRepresents b h → (c : Certified) → genuine h c ≡ genuine_in b c
genuine_stands {b = b} {h = h} st c =
    ap₂ (λ (n : List ℕ) (ts : List Issuing). genuine_by n (version h (site_name h)) ts c) st.name st.terms ∙ ap (λ (us : List Upgraded). genuine_by b.name (version_by us) b.terms c) st.upgrades

not_false : (b : Bool) → not b ≡ false → b ≡ true
not_false true e = refl
not_false false e = absurd cc

-- a genuine piece expires with its series
pub genuine_end : (name : List ℕ) (version : ℕ → ℕ) (terms : List Issuing) (c : Certified) (secret : List ℕ) → genuine_by name version terms c ≡ Ok secret → end_by terms c.piece.id ≡ Some c.piece.expires
genuine_end name version terms c secret e =
    let v = line_ok (refused_if (not (bytes_eq c.piece.vendor name)) WrongVendor) _ secret e in
    let own = line_ok (given (terms_by terms (issuer_of c.piece.id)) UnknownIssuer) _ secret v.2 in
    let customers = line_ok (given (terms_by terms (issuer_of c.piece.cust)) UnknownIssuer) _ secret own.2 in
    let end = series_end own.0 (epoch_of c.piece.id) in
    let ends = line_ok (refused_if (not (eqb c.piece.expires end)) (ExpiryMismatch c.piece.expires end)) _ secret customers.2 in
    let is : c.piece.expires ≡ end = eqb-true _ _ (not_false _ (refused_ok _ _ ends.0 ends.1)) in
    ap (option_map (λ x. series_end x (epoch_of c.piece.id))) (given_ok (terms_by terms (issuer_of c.piece.id)) UnknownIssuer own.0 own.1) ∙ ap some (sym is)
  where
    some : ℕ → Option ℕ
    some n = Some n

-- the series of a genuine piece has ended where the piece has
genuine_ends : (h : History) (t : ℕ) (c : Certified) (secret : List ℕ) → genuine h c ≡ Ok secret → has_ended h t c.piece.id ≡ leb c.piece.expires t
genuine_ends h t c secret e = ap (λ (o : Option ℕ). unwrap_or (option_map (λ n. leb n t) o) false) (genuine_end (site_name h) (version h (site_name h)) (all_terms h) c secret e)

-- ---- 26 to 29

abbrev rest_spendable : Bool → Bool → List ℕ → List ℕ → Option (List ℕ) → Certified → Result (Option (List ℕ)) Stop
rest_spendable clear spent secret target sign c =
    refused_if spent Spent >>= λ _. refused_if (is_none sign && not clear) NeedSignature
    >>= λ _. refused_if (not (is_right sign (request_signature c.text target secret))) BadSignature
    >>= λ _. Ok (option_map (λ _. request_signature c.text target secret) sign)

-- that a piece was accepted counts only where it has not ended
spent_counts : (clear x y : Bool) (t : ℕ) (secret target : List ℕ) (sign : Option (List ℕ)) (c : Certified) → (leb c.piece.expires t ≡ false → x ≡ y)
    → spendable_by clear x t secret target sign c ≡ spendable_by clear y t secret target sign c
spent_counts clear x y t secret target sign c same = go (leb c.piece.expires t) same
  where
    go : (b : Bool) → (b ≡ false → x ≡ y)
        → (refused_if b (Expired c.piece.expires t) >>= λ _. rest_spendable clear x secret target sign c)
        ≡ (refused_if b (Expired c.piece.expires t) >>= λ _. rest_spendable clear y secret target sign c)
    go true same = refl
    go false same = ap (λ (s : Bool). rest_spendable clear s secret target sign c) (same refl)

abbrev pub spendable_in : HouseStateView → List ℕ → Asked → Certified → Result (Option (List ℕ)) Stop
spendable_in b secret q c = spendable_by b.clear (is_marked b.spent c.piece.id) b.time secret q.target q.sign c

spendable_stands : {b : HouseStateView} {h : History} → StateRepresents b h → (secret : List ℕ) (q : Asked) (c : Certified) → genuine h c ≡ Ok secret
    → spendable h b.time secret q c ≡ spendable_in b secret q c
spendable_stands {b = b} {h = h} st secret q c is =
    ap (λ (clear : Bool). spendable_by clear (is_spent h c.piece.id) b.time secret q.target q.sign c) st.clear
    ∙ spent_counts b.clear (is_spent h c.piece.id) (is_marked b.spent c.piece.id) b.time secret q.target q.sign c
    (λ live. st.spent c.piece.id (genuine_ends h b.time c secret is ∙ live))

-- ---- 32, 33

abbrev pub change_in : HouseStateView → ℕ → ℕ → Result (Option ℕ) Stop
change_in b price value = needed (nat_lt price value) (next_by b.own.most (series_at b.own.terms b.time) (count_in b.own (series_at b.own.terms b.time)))

-- the terms of an issuer are of it
pub terms_are_of : (terms : List Issuing) (issuer : ℕ) (t : Issuing) → terms_by terms issuer ≡ Some t → t.issuer ≡ issuer
terms_are_of [] issuer t e = absurd cc
terms_are_of (x ∷ xs) issuer t e = go (eqb x.issuer issuer) refl (terms_are_of xs issuer t) e
  where
    go : (b : Bool) → eqb x.issuer issuer ≡ b → (terms_by xs issuer ≡ Some t → t.issuer ≡ issuer) → cond b (Some x) (terms_by xs issuer) ≡ Some t → t.issuer ≡ issuer
    go true is more f = let same : x ≡ t = cc in ap (λ (y : Issuing). y.issuer) (sym same) ∙ eqb-true x.issuer issuer is
    go false is more f = more f

-- the terms that the history has for issuer 0 are those that the books have for the house itself
pub own_terms_are : {b : HouseStateView} {h : History} → StateRepresents b h → (terms : Issuing) → terms_in h 0 ≡ Some terms → b.own.terms ≡ terms
own_terms_are {b = b} st terms own = let both : Some b.own.terms ≡ Some terms = sym st.own_terms ∙ own in cc

pub series_stands : {b : HouseStateView} {h : History} → StateRepresents b h → (t : ℕ) → own_series h t ≡ series_at b.own.terms t
series_stands {b = b} {h = h} st t =
    let zero : b.own.terms.issuer ≡ 0 = terms_are_of (all_terms h) 0 b.own.terms st.own_terms in
    ap (λ (o : Option Issuing). unwrap_or (option_map (λ x. epoch x t) o) 0) st.own_terms ∙ omega (arith, zero)

next_stands : {b : HouseStateView} {h : History} → StateRepresents b h → (limits : Limits) → limits.series ≡ b.limits.series → next_own h b.time limits ≡ next_by b.own.most (series_now b) (count_in b.own (series_now b))
next_stands {b = b} st limits same = rw (series_stands st b.time, st.issued (series_now b), st.most, same) refl

change_stands : {b : HouseStateView} {h : History} → StateRepresents b h → (limits : Limits) → limits.series ≡ b.limits.series → (price value : ℕ) → needed (nat_lt price value) (next_own h b.time limits) ≡ change_in b price value
change_stands {b = b} st limits same price value = ap (needed (nat_lt price value)) (next_stands st limits same)

pub fitted_stands : {b : HouseStateView} {h : History} → StateRepresents b h → (limits : Limits) (e : Entry) → fitted h limits e ≡ fitted_by limits.journal b.size (tail_of b) e
fitted_stands {b = b} {h = h} st limits e = ap₂ (λ (n t : ℕ). fitted_by limits.journal n t e) st.sized (length-tail h e ∙ tail_size-by h ∙ ap tail_bytes st.switched)

-- ---- 30 to 33

-- an offer at the same time, limits and value
pub offered_at : (h : History) (t u : ℕ) (limits others : Limits) (target : List ℕ) (value worth : ℕ) (o : Offer) → u ≡ t → others ≡ limits → worth ≡ value
    → Ok o ≡ offer h u others target worth → Ok o ≡ offer h t limits target value
offered_at h t u limits others target value worth o time limit same e =
    e ∙ ap (λ (x : ℕ). offer h x others target worth) time ∙ ap (λ (l : Limits). offer h t l target worth) limit ∙ ap (λ (n : ℕ). offer h t limits target n) same

pub no_change : {b : HouseStateView} {h : History} → StateRepresents b h → (limits : Limits) → limits.series ≡ b.limits.series → (q : Asked) (c : Certified) (sign : Option (List ℕ)) (o : Offer) (s : Stop)
    → Ok o ≡ offer h b.time limits q.target c.piece.value → Err s ≡ change_in b o.price c.piece.value → Err s ≡ taken h b.time limits q c sign
no_change st limits same q c sign o s offered full = rw (← offered, change_stands st limits same o.price c.piece.value, ← full) refl

pub fits : {b : HouseStateView} {h : History} → StateRepresents b h → (limits : Limits) → limits.series ≡ b.limits.series → (q : Asked) (c : Certified) (sign : Option (List ℕ)) (o : Offer) (change : Option ℕ) (r : Result Entry Stop)
    → Ok o ≡ offer h b.time limits q.target c.piece.value → Ok change ≡ change_in b o.price c.piece.value
    → r ≡ fitted_by limits.journal b.size (tail_of b) (Accept b.time c.text q.target sign o.price change o.deed) → r ≡ taken h b.time limits q c sign
fits st limits same q c sign o change r offered changed is =
    rw (← offered, change_stands st limits same o.price c.piece.value, ← changed, fitted_stands st limits (Accept _ c.text q.target sign o.price change o.deed)) is

-- ---- from 22 on

pub not_genuine : {b : HouseStateView} {h : History} → StateRepresents b h → (limits : Limits) (q : Asked) (c : Certified) (s : Stop) → Err s ≡ genuine_in b c → Err s ≡ after_repeat h b.time limits q c
not_genuine {h = h} st limits q c s is =
    let genuine_is : genuine h c ≡ Err s = genuine_stands st c ∙ sym is in
    rw genuine_is refl

pub not_spendable : {b : HouseStateView} {h : History} → StateRepresents b h → (limits : Limits) (q : Asked) (c : Certified) (secret : List ℕ) (s : Stop)
    → Ok secret ≡ genuine_in b c → Err s ≡ spendable_in b secret q c → Err s ≡ after_repeat h b.time limits q c
not_spendable {h = h} st limits q c secret s is refused =
    let genuine_is : genuine h c ≡ Ok secret = genuine_stands st c ∙ sym is in
    rw (genuine_is, spendable_stands st secret q c genuine_is, ← refused) refl

pub takes : {b : HouseStateView} {h : History} → StateRepresents b h → (limits : Limits) (q : Asked) (c : Certified) (secret : List ℕ) (sign : Option (List ℕ)) (r : Result Entry Stop)
    → Ok secret ≡ genuine_in b c → Ok sign ≡ spendable_in b secret q c → r ≡ taken h b.time limits q c sign → r ≡ after_repeat h b.time limits q c
takes {h = h} st limits q c secret sign r is may e =
    let genuine_is : genuine h c ≡ Ok secret = genuine_stands st c ∙ sym is in
    rw (genuine_is, spendable_stands st secret q c genuine_is, ← may) e

-- ---- the whole table

-- a request whose scrip text was read is one with this text
pub scrip_asked : (q : Asked) (c : Certified) → Ok c ≡ read_by q.scrip → q ≡ scrip_request c.text q.target q.sign
scrip_asked q c read =
    let text : q.scrip ≡ Some c.text = (read_ok q.scrip c (sym read)).0 in
    λ i. record { target = q.target; scrip = text i; sign = q.sign }

-- the number of the entry of the same request, by what is kept
abbrev pub kept_number : HouseStateView → Asked → Option ℕ
kept_number b q = option_map (λ e. e.number) (found b.kept b.time q)

again_is : {b : HouseStateView} {h : History} → StateRepresents b h → (q : Asked) (c : Certified) → Ok c ≡ read_by q.scrip → repeated_within b.kept.keep h b.time c q ≡ kept_number b q
again_is {b = b} st q c read = st.again b.time (scrip_request c.text q.target q.sign) (omega arith) ∙ ap (kept_number b) (sym (scrip_asked q c read))

-- there is no scrip text that can be read
pub unread : (keep : ℕ) (h : History) (t : ℕ) (limits : Limits) (q : Asked) (s : Stop) → Err s ≡ read_by q.scrip → Err s ≡ lines_within keep h t limits q
unread keep h t limits q s none = ap (λ (r : Result Certified Stop). r >>= λ c. after_read keep h t limits q c) none

-- the same request was accepted within the keeping time
pub comes_again : {b : HouseStateView} {h : History} → StateRepresents b h → (limits : Limits) (q : Asked) (c : Certified) (n : ℕ) → Ok c ≡ read_by q.scrip → Some n ≡ kept_number b q
    → Err (Repeat n) ≡ lines_within b.kept.keep h b.time limits q
comes_again {b = b} {h = h} st limits q c n read is =
    ap (λ (o : Option ℕ). again_if o >>= λ _. after_repeat h b.time limits q c) (is ∙ sym (again_is st q c read))
    ∙ ap (λ (r : Result Certified Stop). r >>= λ c. after_read b.kept.keep h b.time limits q c) read

-- it was not
pub is_new : {b : HouseStateView} {h : History} → StateRepresents b h → (limits : Limits) (q : Asked) (c : Certified) (r : Result Entry Stop) → Ok c ≡ read_by q.scrip → None ≡ kept_number b q
    → r ≡ after_repeat h b.time limits q c → r ≡ lines_within b.kept.keep h b.time limits q
is_new {b = b} {h = h} st limits q c r read none e =
    e
    ∙ ap (λ (o : Option ℕ). again_if o >>= λ _. after_repeat h b.time limits q c) (none ∙ sym (again_is st q c read))
    ∙ ap (λ (r : Result Certified Stop). r >>= λ c. after_read b.kept.keep h b.time limits q c) read

-- ---- the table of draws

again_drawn : {b : HouseStateView} {h : History} → StateRepresents b h → (q : Asked) → drawn_within b.kept.keep h b.time q ≡ kept_number b (without_scrip q)
again_drawn {b = b} st q = st.again b.time (without_scrip q) (omega arith)

-- the same draw was made within the keeping time
pub draw_comes_again : {b : HouseStateView} {h : History} → StateRepresents b h → (limits : Limits) (q : Asked) (o : Order) (n : ℕ) → Some n ≡ kept_number b (without_scrip q)
    → Err (Repeat n) ≡ draw_lines_within b.kept.keep h b.time limits q o
draw_comes_again st limits q o n is = rw (again_drawn st q, ← is) refl

-- there is no such account
pub draws_on_none : {b : HouseStateView} {h : History} → StateRepresents b h → (limits : Limits) (q : Asked) (o : Order) → None ≡ kept_number b (without_scrip q) → None ≡ key_in h o.account
    → Err (Refuse NoAccount) ≡ draw_lines_within b.kept.keep h b.time limits q o
draws_on_none st limits q o new none = rw (again_drawn st q, ← new, ← none) refl

-- what is asked of an account, in the words of the ledger
pub payable_is : (h : History) (o : Order) (ask : DrawAsk) → ask ≡ asked_of_account h o → payable_by (order_in ask) (known_by ask) ≡ payable_by o (known_in h o.account)
payable_is h o ask is = ap (λ (a : DrawAsk). payable_by (order_in a) (known_by a)) is

-- it is not signed under the key
pub not_drawable : {b : HouseStateView} {h : History} → StateRepresents b h → (limits : Limits) (q : Asked) (o : Order) (key : List ℕ) (s : Stop) → None ≡ kept_number b (without_scrip q) → Some key ≡ key_in h o.account
    → Err s ≡ drawable_by key q.target q.sign → Err s ≡ draw_lines_within b.kept.keep h b.time limits q o
not_drawable st limits q o key s new known refused = rw (again_drawn st q, ← new, ← known, ← refused) refl

-- what is left of the table for a draw that is signed and was not made before
pub draw_goes_on : {b : HouseStateView} {h : History} → StateRepresents b h → (limits : Limits) (q : Asked) (o : Order) (key sign : List ℕ) (r : Result Entry Stop) → None ≡ kept_number b (without_scrip q) → Some key ≡ key_in h o.account
    → Ok sign ≡ drawable_by key q.target q.sign → r ≡ (payable_by o (known_in h o.account) >>= λ _. drawn h b.time limits q sign) → r ≡ draw_lines_within b.kept.keep h b.time limits q o
draw_goes_on st limits q o key sign r new known may is = rw (again_drawn st q, ← new, ← known, ← may) is

-- the series is full
pub draw_series_full : {b : HouseStateView} {h : History} → StateRepresents b h → (limits : Limits) → limits.series ≡ b.limits.series → (q : Asked) (sign : List ℕ) (s : Stop)
    → Err s ≡ next_by b.own.most (series_now b) (count_in b.own (series_now b)) → Err s ≡ drawn h b.time limits q sign
draw_series_full st limits same q sign s full = rw (next_stands st limits same, ← full) refl

-- the entry fits, or does not
pub draw_fitted : {b : HouseStateView} {h : History} → StateRepresents b h → (limits : Limits) → limits.series ≡ b.limits.series → (q : Asked) (sign : List ℕ) (id : ℕ) (r : Result Entry Stop)
    → Ok id ≡ next_by b.own.most (series_now b) (count_in b.own (series_now b)) → r ≡ fitted_by limits.journal b.size (tail_of b) (Draw b.time q.target sign id) → r ≡ drawn h b.time limits q sign
draw_fitted {b = b} {h = h} st limits same q sign id r next is =
    rw (next_stands st limits same, ← next, fitted_stands st limits (Draw b.time q.target sign id)) is
