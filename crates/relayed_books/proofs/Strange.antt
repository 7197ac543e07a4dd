-- No stranger stands in lawful books exactly where all was handed out.
use Rattle.std.proofs.Common.{◌≡◌, ℕ, ◌+◌, Bool, true, false, cond, not, ◌&&◌, List, [], ◌∷◌, ◌++◌, Option, Some, None, refl, sym, ap, subst, ◌∙◌, IsTrue, IsFalse}
use Rattle.std.specs.Prelude.{filter, option_to_list}
use Rattle.std.specs.List.{list_any, cons_option, AllByRecursion}
use Rattle.scrip_form.specs.Scrip.{Scrip}
use Rattle.mc_requests.specs.declared.limits.Limits.{Limits}
use Rattle.ledger_model.specs.declared.numbers.TheConstants.{VENDOR_KIND}
use Rattle.ledger_model.specs.Histories.{History}
use Rattle.ledger_model.specs.Houses.{is_broker}
use Rattle.ledger_model.specs.Pieces.{accepted, accepted_piece, own_out}
use Rattle.ledger_model.specs.Stock.{sales}
use Rattle.ledger_model.proofs.ListLaws.{all_append}
use Rattle.audit_model.specs.Meets.{is_among, AreAmong}
use Rattle.audit_model.specs.Books.{IsBook}
use Rattle.audit_model.specs.Brokers.{handed_by}
use Rattle.audit_model.specs.Strangers.{stranger, first_by}
use Rattle.audit_model.proofs.Strange.{all_merge, sells_nothing}
use Rattle.relayed_books.specs.Tree.{Sold, sold_by_entry, all_sold, sold_over, clash, StandTogether, is_genuine, AreHandedOut, handed_at, sold_stranger, strangers_from, first_over, first_stranger, AreOfTree}
use Rattle.relayed_books.proofs.Sales.{sold_in, sold_cons, together_cons, together_uncons, together_append, together_parts, only_brokers}

-- ---- tests

nothing_in_front : {X : Type 0} (xs ys : List X) → xs ++ ys ≡ [] → (xs ≡ []) × (ys ≡ [])
nothing_in_front [] ys e = (refl, e)
nothing_in_front (x ∷ xs) ys e = absurd cc

both_true : (a b : Bool) → (a && b) ≡ true → (a ≡ true) × (b ≡ true)
both_true true b e = (refl, e)
both_true false b e = absurd cc

not_true : (c : Bool) → not c ≡ true → c ≡ false
not_true true e = absurd cc
not_true false e = refl

-- ---- one entry

accepted_passed : (handed : List Scrip) (o : Option Scrip) (ps : List Scrip) → stranger (is_among handed) o ≡ [] → AreAmong handed ps → AreAmong handed (cons_option o ps)
accepted_passed handed None ps e rest = rest
accepted_passed handed (Some p) ps e rest = (go (is_among handed p) e, rest)
  where
    go : (b : Bool) → cond b [] (p.id ∷ []) ≡ [] → b ≡ true
    go true f = refl
    go false f = absurd cc

accepted_one : (handed : List Scrip) (o : Option Scrip) (ps : List Scrip) → AreAmong handed (cons_option o ps) → (stranger (is_among handed) o ≡ []) × AreAmong handed ps
accepted_one handed None ps among = (refl, among)
accepted_one handed (Some p) ps among = (ap (λ (b : Bool). cond b [] (p.id ∷ [])) among.0, among.1)

-- a sale that is there is genuine, and stands with those before it
abbrev Stands : (Sold → Bool) → List Sold → Sold → Type 0
Stands genuine earlier s = IsTrue (genuine s) × IsFalse (list_any (clash s) earlier)

sold_passed : (genuine : Sold → Bool) (earlier : List Sold) (o : Option Sold) → sold_stranger genuine earlier o ≡ [] → (s : Sold) → o ≡ Some s → Stands genuine earlier s
sold_passed genuine earlier None e s is = absurd cc
sold_passed genuine earlier (Some x) e s is =
    let same : x ≡ s = cc in
    let both = both_true (genuine x) (not (list_any (clash x) earlier)) (go (genuine x && not (list_any (clash x) earlier)) e) in
    subst (Stands genuine earlier) same (both.0, not_true (list_any (clash x) earlier) both.1)
  where
    go : (b : Bool) → cond b [] (x.piece.id ∷ []) ≡ [] → b ≡ true
    go true f = refl
    go false f = absurd cc

sold_none : (genuine : Sold → Bool) (earlier : List Sold) (o : Option Sold) → ((s : Sold) → o ≡ Some s → Stands genuine earlier s) → sold_stranger genuine earlier o ≡ []
sold_none genuine earlier None stands = refl
sold_none genuine earlier (Some s) stands =
    let x = stands s refl in
    ap (λ (b : Bool). cond (b && not (list_any (clash s) earlier)) [] (s.piece.id ∷ [])) x.0
    ∙ ap (λ (b : Bool). cond (true && not b) [] (s.piece.id ∷ [])) x.1

genuine_cons : (genuine : Sold → Bool) (o : Option Sold) (ss : List Sold) → ((s : Sold) → o ≡ Some s → IsTrue (genuine s)) → AllByRecursion (λ s. IsTrue (genuine s)) ss → AllByRecursion (λ s. IsTrue (genuine s)) (cons_option o ss)
genuine_cons genuine None ss one rest = rest
genuine_cons genuine (Some s) ss one rest = (one s refl, rest)

genuine_uncons : (genuine : Sold → Bool) (o : Option Sold) (ss : List Sold) → AllByRecursion (λ s. IsTrue (genuine s)) (cons_option o ss) → ((s : Sold) → o ≡ Some s → IsTrue (genuine s)) × AllByRecursion (λ s. IsTrue (genuine s)) ss
genuine_uncons genuine None ss all = ((λ s e. absurd cc), all)
genuine_uncons genuine (Some s) ss all = ((λ t e. let same : s ≡ t = cc in subst (λ (x : Sold). IsTrue (genuine x)) same all.0), all.1)

-- ---- one book

record Met (genuine : Sold → Bool) (handed : List Scrip) (earlier : List Sold) (h es : History) : Type 0 where
  accepted_ones : AreAmong handed (accepted es)
  genuine_ones : AllByRecursion (λ s. IsTrue (genuine s)) (sold_in h es)
  together : StandTogether earlier (sold_in h es)

met_by : (genuine : Sold → Bool) (handed : History → List Scrip) (earlier : List Sold) (h es : History) → strangers_from genuine handed earlier h es ≡ [] → Met genuine (handed h) earlier h es
met_by genuine handed earlier h [] none = record { accepted_ones = tt; genuine_ones = tt; together = tt }
met_by genuine handed earlier h (e ∷ es) none =
    let front = stranger (is_among (handed h)) (accepted_piece e) in
    let sold_ones = sold_stranger genuine earlier (sold_by_entry h e) in
    let here = nothing_in_front (front ++ sold_ones) (strangers_from genuine handed (earlier ++ option_to_list (sold_by_entry h e)) h es) none in
    let one = nothing_in_front front sold_ones here.0 in
    let more = met_by genuine handed (earlier ++ option_to_list (sold_by_entry h e)) h es here.1 in
    let stands = sold_passed genuine earlier (sold_by_entry h e) one.1 in
    record {
      accepted_ones = accepted_passed (handed h) (accepted_piece e) (accepted es) one.0 more.accepted_ones;
      genuine_ones = subst (AllByRecursion (λ s. IsTrue (genuine s))) (sym (sold_cons h e es)) (genuine_cons genuine (sold_by_entry h e) (sold_in h es) (λ s is. (stands s is).0) more.genuine_ones);
      together = subst (StandTogether earlier) (sym (sold_cons h e es)) (together_cons earlier (sold_by_entry h e) (sold_in h es) (λ s is. (stands s is).1) more.together);
    }

none_by : (genuine : Sold → Bool) (handed : History → List Scrip) (earlier : List Sold) (h es : History) → Met genuine (handed h) earlier h es → strangers_from genuine handed earlier h es ≡ []
none_by genuine handed earlier h [] met = refl
none_by genuine handed earlier h (e ∷ es) met =
    let one = accepted_one (handed h) (accepted_piece e) (accepted es) met.accepted_ones in
    let two = genuine_uncons genuine (sold_by_entry h e) (sold_in h es) (subst (AllByRecursion (λ s. IsTrue (genuine s))) (sold_cons h e es) met.genuine_ones) in
    let three = together_uncons earlier (sold_by_entry h e) (sold_in h es) (subst (StandTogether earlier) (sold_cons h e es) met.together) in
    let rest = strangers_from genuine handed (earlier ++ option_to_list (sold_by_entry h e)) h es in
    let sold_ones = sold_none genuine earlier (sold_by_entry h e) (λ s is. (two.0 s is, three.0 s is)) in
    ap (λ (ids : List ℕ). (ids ++ sold_stranger genuine earlier (sold_by_entry h e)) ++ rest) one.0
    ∙ ap (λ (ids : List ℕ). ids ++ rest) sold_ones
    ∙ none_by genuine handed (earlier ++ option_to_list (sold_by_entry h e)) h es (record { accepted_ones = one.1; genuine_ones = two.1; together = three.1 })

-- ---- all books

record AllMet (genuine : Sold → Bool) (handed : History → List Scrip) (earlier : List Sold) (books : List History) : Type 0 where
  accepted_ones : AllByRecursion (λ h. AreAmong (handed h) (accepted h)) books
  genuine_ones : AllByRecursion (λ s. IsTrue (genuine s)) (sold_over books)
  together : StandTogether earlier (sold_over books)

first_none : (book : ℕ) (ids : List ℕ) (later : Option (ℕ × ℕ)) → first_by book ids later ≡ None → (ids ≡ []) × (later ≡ None)
first_none book [] later e = (refl, e)
first_none book (id ∷ ids) later e = absurd cc

all_met : (genuine : Sold → Bool) (handed : History → List Scrip) (book : ℕ) (earlier : List Sold) (books : List History) → first_over genuine handed book earlier books ≡ None → AllMet genuine handed earlier books
all_met genuine handed book earlier [] none = record { accepted_ones = tt; genuine_ones = tt; together = tt }
all_met genuine handed book earlier (h ∷ hs) none =
    let one = first_none book (strangers_from genuine handed earlier h h) (first_over genuine handed (book + 1) (earlier ++ all_sold h) hs) none in
    let here = met_by genuine handed earlier h h one.0 in
    let more = all_met genuine handed (book + 1) (earlier ++ all_sold h) hs one.1 in
    record {
      accepted_ones = (here.accepted_ones, more.accepted_ones);
      genuine_ones = all_append (λ s. IsTrue (genuine s)) (all_sold h) (sold_over hs) here.genuine_ones more.genuine_ones;
      together = together_append earlier (all_sold h) (sold_over hs) here.together more.together;
    }

all_parts : {X : Type 0} (P : X → Type 0) (xs ys : List X) → AllByRecursion P (xs ++ ys) → AllByRecursion P xs × AllByRecursion P ys
all_parts P [] ys all = (tt, all)
all_parts P (x ∷ xs) ys all = let more = all_parts P xs ys all.1 in ((all.0, more.0), more.1)

none_over : (genuine : Sold → Bool) (handed : History → List Scrip) (book : ℕ) (earlier : List Sold) (books : List History) → AllMet genuine handed earlier books → first_over genuine handed book earlier books ≡ None
none_over genuine handed book earlier [] met = refl
none_over genuine handed book earlier (h ∷ hs) met =
    let both = all_parts (λ s. IsTrue (genuine s)) (all_sold h) (sold_over hs) met.genuine_ones in
    let parts = together_parts earlier (all_sold h) (sold_over hs) met.together in
    ap (λ (ids : List ℕ). first_by book ids (first_over genuine handed (book + 1) (earlier ++ all_sold h) hs))
    (none_by genuine handed earlier h h (record { accepted_ones = met.accepted_ones.0; genuine_ones = both.0; together = parts.0 }))
    ∙ none_over genuine handed (book + 1) (earlier ++ all_sold h) hs (record { accepted_ones = met.accepted_ones.1; genuine_ones = both.1; together = parts.1 })

-- ---- brokers and vendors apart

pub all_kept : {X : Type 0} (P : X → Type 0) (test : X → Bool) (xs : List X) → AllByRecursion P xs → AllByRecursion (λ x. (test x ≡ true) × P x) (filter test xs)
all_kept P test [] all = tt
all_kept P test (x ∷ xs) all = go (test x) refl (all_kept P test xs all.1)
  where
    go : (b : Bool) → test x ≡ b → AllByRecursion (λ y. (test y ≡ true) × P y) (filter test xs) → AllByRecursion (λ y. (test y ≡ true) × P y) (cond b (x ∷ filter test xs) (filter test xs))
    go true is ih = ((is, all.0), ih)
    go false is ih = ih

all_map : {X : Type 0} (P Q : X → Type 0) (xs : List X) → ((x : X) → P x → Q x) → AllByRecursion P xs → AllByRecursion Q xs
all_map P Q [] f all = tt
all_map P Q (x ∷ xs) f all = (f x all.0, all_map P Q xs f all.1)

-- only brokers sell among lawful books
pub sales_are : (limits : Limits) (bs vs books : List History) → AllByRecursion (IsBook limits VENDOR_KIND) vs → AreOfTree bs vs books → sold_over books ≡ sold_over bs
sales_are limits bs vs books vendors tree =
    let quiet : AllByRecursion (λ h. is_broker h ≡ false → is_broker h ≡ false → sales h ≡ []) (filter (λ h. not (is_broker h)) books) =
    subst (AllByRecursion (λ h. is_broker h ≡ false → is_broker h ≡ false → sales h ≡ [])) (sym tree.vendors_are)
    (all_map (IsBook limits VENDOR_KIND) (λ h. is_broker h ≡ false → is_broker h ≡ false → sales h ≡ []) vs (λ v book no again. sells_nothing limits v book) vendors) in
    only_brokers books (all_merge (λ h. is_broker h ≡ false → sales h ≡ []) is_broker books (brokers_vacuous (filter is_broker books)) quiet)
    ∙ ap sold_over tree.brokers_are
  where
    never : (b : Bool) → b ≡ true → b ≡ false → ⊥
    never true e f = absurd cc
    never false e f = absurd cc

    brokers_vacuous : (hs : List History) → AllByRecursion (λ h. is_broker h ≡ true → is_broker h ≡ false → sales h ≡ []) hs
    brokers_vacuous [] = tt
    brokers_vacuous (h ∷ hs) = ((λ yes no. absurd (never (is_broker h) yes no)), brokers_vacuous hs)

-- what a broker may have accepted, and a vendor
as_broker : (bs : List History) (h : History) (c : Bool) → c ≡ true → AreAmong (cond c (own_out h) (handed_by bs h)) (accepted h) → AreAmong (own_out h) (accepted h)
as_broker bs h true e among = among
as_broker bs h false e among = absurd cc

as_vendor : (bs : List History) (h : History) (c : Bool) → not c ≡ true → AreAmong (cond c (own_out h) (handed_by bs h)) (accepted h) → AreAmong (handed_by bs h) (accepted h)
as_vendor bs h true e among = absurd cc
as_vendor bs h false e among = among

of_broker : (bs : List History) (h : History) (c : Bool) → c ≡ true → AreAmong (own_out h) (accepted h) → AreAmong (cond c (own_out h) (handed_by bs h)) (accepted h)
of_broker bs h true e among = among
of_broker bs h false e among = absurd cc

of_vendor : (bs : List History) (h : History) (c : Bool) → c ≡ false → AreAmong (handed_by bs h) (accepted h) → AreAmong (cond c (own_out h) (handed_by bs h)) (accepted h)
of_vendor bs h true e among = absurd cc
of_vendor bs h false e among = among

-- where no stranger stands, all was handed out
pub no_stranger : (limits : Limits) (bs vs books : List History) → AllByRecursion (IsBook limits VENDOR_KIND) vs → AreOfTree bs vs books → first_stranger bs vs books ≡ None → AreHandedOut bs vs
no_stranger limits bs vs books vendors tree none =
    let genuine = is_genuine bs vs in
    let met = all_met genuine (handed_at bs) 0 [] books none in
    let same = sales_are limits bs vs books vendors tree in
    let desks = subst (AllByRecursion (λ h. (is_broker h ≡ true) × AreAmong (handed_at bs h) (accepted h))) tree.brokers_are (all_kept (λ h. AreAmong (handed_at bs h) (accepted h)) is_broker books met.accepted_ones) in
    let shops = subst (AllByRecursion (λ h. (not (is_broker h) ≡ true) × AreAmong (handed_at bs h) (accepted h))) tree.vendors_are (all_kept (λ h. AreAmong (handed_at bs h) (accepted h)) (λ h. not (is_broker h)) books met.accepted_ones) in
    record {
      own = all_map (λ h. (is_broker h ≡ true) × AreAmong (handed_at bs h) (accepted h)) (λ h. AreAmong (own_out h) (accepted h)) bs (λ h x. as_broker bs h (is_broker h) x.0 x.1) desks;
      accepted_pieces = all_map (λ h. (not (is_broker h) ≡ true) × AreAmong (handed_at bs h) (accepted h)) (λ h. AreAmong (handed_by bs h) (accepted h)) vs (λ h x. as_vendor bs h (is_broker h) x.0 x.1) shops;
      genuine = subst (AllByRecursion (λ s. IsTrue (genuine s))) same met.genuine_ones;
      together = subst (StandTogether []) same met.together;
    }

-- where all was handed out, no stranger stands
pub none_strange : (limits : Limits) (bs vs books : List History) → AllByRecursion (IsBook limits VENDOR_KIND) vs → AreOfTree bs vs books → AreHandedOut bs vs → first_stranger bs vs books ≡ None
none_strange limits bs vs books vendors tree handed =
    let genuine = is_genuine bs vs in
    let same = sym (sales_are limits bs vs books vendors tree) in
    let desks : AllByRecursion (λ h. is_broker h ≡ true → AreAmong (handed_at bs h) (accepted h)) bs =
    all_map (λ h. AreAmong (own_out h) (accepted h)) (λ h. is_broker h ≡ true → AreAmong (handed_at bs h) (accepted h)) bs (λ h among is. of_broker bs h (is_broker h) is among) handed.own in
    let shops : AllByRecursion (λ h. is_broker h ≡ false → AreAmong (handed_at bs h) (accepted h)) vs =
    all_map (λ h. AreAmong (handed_by bs h) (accepted h)) (λ h. is_broker h ≡ false → AreAmong (handed_at bs h) (accepted h)) vs (λ h among is. of_vendor bs h (is_broker h) is among) handed.accepted_pieces in
    none_over genuine (handed_at bs) 0 [] books
    (record {
      accepted_ones = all_merge (λ h. AreAmong (handed_at bs h) (accepted h)) is_broker books
          (subst (AllByRecursion (λ h. is_broker h ≡ true → AreAmong (handed_at bs h) (accepted h))) (sym tree.brokers_are) desks)
          (subst (AllByRecursion (λ h. is_broker h ≡ false → AreAmong (handed_at bs h) (accepted h))) (sym tree.vendors_are) shops);
      genuine_ones = subst (AllByRecursion (λ s. IsTrue (genuine s))) same handed.genuine;
      together = subst (StandTogether []) same handed.together;
    })
