-- The pieces that came: none goes, none comes twice, and what a reply brings stands in the holdings.
use Rattle.std.proofs.Common.{◌≡◌, ℕ, Bool, true, false, ◌||◌, ◌&&◌, cond, List, [], ◌∷◌, ◌++◌, map, Option, Some, None, refl, ap, sym, subst, ◌∙◌, append_assoc, append-nil, unwrap_or, option_map, bytes_eq}
use Rattle.std.proofs.lemmas.Bool.{eq-eqb}
use Rattle.std.proofs.lemmas.List.Folds.{list_any-append}
use Rattle.std.proofs.lemmas.Slice.Eq.{bytes_eq-Decides}
use Rattle.std.specs.Prelude.{◌==◌, not, codes, option_to_list}
use Rattle.std.specs.List.{list_any}
use Rattle.mc_fields.specs.Reading.{literal_at}
use Rattle.scrip_form.specs.Scrip.{Scrip}
use Rattle.scrip_form.specs.Reading.{scrip_of, scrip_at}
use Rattle.mc_records.specs.Entry.{Held, Entry, Got, Done}
use Rattle.ledger_model.specs.Histories.{History}
use Rattle.ledger_model.specs.Pieces.{piece_of}
use Rattle.wallet_model.specs.Requests.{Pending, is_kept}
use Rattle.wallet_model.specs.Holdings.{brings, change_held, pieces_from, pieces_came, texts_came, holding}
use Rattle.wallet_model.specs.Newness.{are_one_piece, is_new, are_new}
use Rattle.wallet_model.specs.Follows.{is_wallet, settled_texts, wallet_allows, WalletFollows, IsWalletBook}
use Rattle.millicent_http.specs.Received.{Received}
use Rattle.wallet_model.specs.Settling.{price_of, change_came, if_new, contents_came, got_came, settlement}
use Rattle.wallet_model.specs.Laws.{has_piece}
use Rattle.wallet_model.proofs.BookLaws.{walked, all_of_book}
use Rattle.wallet_model.proofs.PieceLaws.{pieces_more}
use Rattle.wallet_model.proofs.KeptLaws.{both_right}

-- ---- no piece goes

pub pieces_both : (before xs ys : History) → pieces_from before (xs ++ ys) ≡ pieces_from before xs ++ pieces_from (before ++ xs) ys
pieces_both before [] ys = ap (λ (h : History). pieces_from h ys) (sym (append-nil before))
pieces_both before (x ∷ xs) ys =
    ap (λ (ps : List Held). brings before x ++ ps) (pieces_both (before ++ x ∷ []) xs ys ∙ ap (λ (h : History). pieces_from (before ++ x ∷ []) xs ++ pieces_from h ys) (append_assoc before (x ∷ []) xs))
    ∙ sym (append_assoc (brings before x) (pieces_from (before ++ x ∷ []) xs) (pieces_from (before ++ x ∷ xs) ys))

pub has_among : (h : History) (text : List ℕ) (ps : List Held) → list_any (λ x. bytes_eq x.text text) (map (holding h) ps) ≡ list_any (λ p. bytes_eq p.text text) ps
has_among h text [] = refl
has_among h text (p ∷ ps) = ap (λ (b : Bool). bytes_eq p.text text || b) (has_among h text ps)

or_left : (a b : Bool) → a ≡ true → (a || b) ≡ true
or_left true b is = refl
or_left false b is = absurd cc

pub or_right : (a b : Bool) → b ≡ true → (a || b) ≡ true
or_right true b is = refl
or_right false b is = is

pub pieces_stay : (h more : History) (text : List ℕ) → has_piece h text ≡ true → has_piece (h ++ more) text ≡ true
pieces_stay h more text has =
    has_among (h ++ more) text (pieces_came (h ++ more))
    ∙ ap (list_any (λ p. bytes_eq p.text text)) (pieces_both [] h more)
    ∙ list_any-append (λ p. bytes_eq p.text text) (pieces_came h) (pieces_from h more)
    ∙ or_left _ _ (sym (has_among h text (pieces_came h)) ∙ has)

has_brought : (h : History) (e : Entry) (text : List ℕ) → list_any (λ p. bytes_eq p.text text) (brings h e) ≡ true → has_piece (h ++ e ∷ []) text ≡ true
has_brought h e text brought =
    has_among (h ++ e ∷ []) text (pieces_came (h ++ e ∷ []))
    ∙ ap (list_any (λ p. bytes_eq p.text text)) (pieces_more h e)
    ∙ list_any-append (λ p. bytes_eq p.text text) (pieces_came h) (brings h e)
    ∙ or_right (list_any (λ p. bytes_eq p.text text) (pieces_came h)) _ brought

-- what an entry brings stands in the holdings from then on
pub brought_stands : (before more : History) (e : Entry) (text : List ℕ) → list_any (λ p. bytes_eq p.text text) (brings before e) ≡ true → has_piece (before ++ e ∷ more) text ≡ true
brought_stands before more e text brought =
    subst (λ (h : History). has_piece h text ≡ true) (append_assoc before (e ∷ []) more) (pieces_stay (before ++ e ∷ []) more text (has_brought before e text brought))

pub change_stands : (before more : History) (m n price : ℕ) (change : List ℕ) (got : Option Held) → has_piece (before ++ Done m n price (Some change) got ∷ more) change ≡ true
change_stands before more m n price change got =
    brought_stands before more (Done m n price (Some change) got) change (let one : bytes_eq change change ≡ true = (bytes_eq-Decides change change).1 refl in rw one refl)

-- ---- no piece comes twice

abbrev pub knows : List (List ℕ) → List ℕ → Bool
knows texts text = list_any (λ t. are_one_piece t text) texts

pub new_alike : (a b ts : List (List ℕ)) → ((t : List ℕ) → knows a t ≡ knows b t) → are_new a ts ≡ are_new b ts
new_alike a b [] alike = refl
new_alike a b (t ∷ ts) alike =
    let first : is_new a t ≡ is_new b t = ap not (alike t) in
    let rest : are_new (t ∷ a) ts ≡ are_new (t ∷ b) ts = new_alike (t ∷ a) (t ∷ b) ts (λ s. ap (λ (c : Bool). are_one_piece t s || c) (alike s)) in
    rw (first, rest) refl

or_swap : (a b c : Bool) → (a || (b || c)) ≡ (b || (a || c))
or_swap true true c = refl
or_swap true false c = refl
or_swap false b c = refl

knows_moved : (x : List ℕ) (xs acc : List (List ℕ)) (t : List ℕ) → knows (xs ++ x ∷ acc) t ≡ knows (x ∷ (xs ++ acc)) t
knows_moved x [] acc t = refl
knows_moved x (y ∷ xs) acc t =
    ap (λ (b : Bool). are_one_piece y t || b) (knows_moved x xs acc t)
    ∙ or_swap (are_one_piece y t) (are_one_piece x t) (knows (xs ++ acc) t)

and_joined : (a b c : Bool) → (a && (b && c)) ≡ ((a && b) && c)
and_joined true b c = refl
and_joined false b c = refl

pub new_both : (acc xs ys : List (List ℕ)) → are_new acc (xs ++ ys) ≡ (are_new acc xs && are_new (xs ++ acc) ys)
new_both acc [] ys = refl
new_both acc (x ∷ xs) ys =
    ap (λ (b : Bool). is_new acc x && b) (new_both (x ∷ acc) xs ys ∙ ap (λ (b : Bool). are_new (x ∷ acc) xs && b) (new_alike (xs ++ x ∷ acc) (x ∷ (xs ++ acc)) ys (knows_moved x xs acc)))
    ∙ and_joined (is_new acc x) (are_new (x ∷ acc) xs) (are_new (x ∷ (xs ++ acc)) ys)

pub map_both : {A B : Type 0} (f : A → B) (xs ys : List A) → map f (xs ++ ys) ≡ map f xs ++ map f ys
map_both f [] ys = refl
map_both f (x ∷ xs) ys = ap (λ zs. f x ∷ zs) (map_both f xs ys)

abbrev pub texts_of : List Held → List (List ℕ)
texts_of ps = map (λ p. p.text) ps

pub texts_more : (h : History) (e : Entry) → texts_came (h ++ e ∷ []) ≡ texts_came h ++ texts_of (brings h e)
texts_more h e = ap texts_of (pieces_more h e) ∙ map_both (λ p. p.text) (pieces_came h) (brings h e)

settled_brings : (h : History) (n : ℕ) (change : Option (List ℕ)) (got : Option Held) → texts_of (option_to_list (option_map (change_held h n) change) ++ option_to_list got) ≡ settled_texts change got
settled_brings h n None None = refl
settled_brings h n None (Some p) = refl
settled_brings h n (Some text) None = refl
settled_brings h n (Some text) (Some p) = refl

-- what an entry brings is new
brings_new : (h : History) (e : Entry) → wallet_allows h e ≡ true → are_new (texts_came h) (texts_of (brings h e)) ≡ true
brings_new h (Got m pieces) allowed = both_right (is_wallet h) _ allowed
brings_new h (Done m n price change got) allowed =
    ap (are_new (texts_came h)) (settled_brings h n change got) ∙ both_right (is_kept h n) _ (both_right (is_wallet h) _ allowed)
brings_new h e allowed = refl

CameNew : History → Type 0
CameNew h = are_new [] (texts_came h) ≡ true

new_step : (h : History) (e : Entry) → CameNew h → WalletFollows h e → CameNew (h ++ e ∷ [])
unfolding CameNew
new_step h e before follows =
    ap (are_new []) (texts_more h e) ∙ new_both [] (texts_came h) (texts_of (brings h e))
    ∙ (rw (before, append-nil (texts_came h), brings_new h e follows.allowed) refl)

new_none : CameNew []
unfolding CameNew
new_none = refl

-- no piece came twice, by vendor and identity
pub came_once : (h : History) → IsWalletBook h → are_new [] (texts_came h) ≡ true
unfolding CameNew
came_once h book = walked CameNew new_step [] h new_none (all_of_book h book)

-- ---- what a settlement brings

pub one_piece_itself : (text : List ℕ) (p : Scrip) → piece_of text ≡ Some p → are_one_piece text text ≡ true
one_piece_itself text p is =
    let vendor : bytes_eq p.vendor p.vendor ≡ true = (bytes_eq-Decides p.vendor p.vendor).1 refl in
    let id : (p.id == p.id) ≡ true = eq-eqb p.id p.id refl in
    rw (is, vendor, id) refl

no_piece : (p : Scrip) → piece_of (codes "-") ≡ Some p → ⊥
unfolding scrip_of scrip_at literal_at
no_piece p is = cc

knows_change : (texts : List (List ℕ)) (text : List ℕ) (p : Scrip) → piece_of text ≡ Some p → (knows texts text || knows (option_to_list (change_came texts text)) text) ≡ true
knows_change texts text p is = go (bytes_eq text (codes "-")) (knows texts text) refl
  where
    go : (a b : Bool) → bytes_eq text (codes "-") ≡ a → (b || knows (option_to_list (cond a None (cond (not b) (Some text) None))) text) ≡ true
    go true b dash = absurd (no_piece p (sym (ap piece_of ((bytes_eq-Decides text (codes "-")).0 dash)) ∙ is))
    go false true dash = refl
    go false false dash = ap (λ (c : Bool). c || false) (one_piece_itself text p is)

knows_got : (texts : List (List ℕ)) (x : Held) (p : Scrip) → piece_of x.text ≡ Some p → (knows texts x.text || knows (option_to_list (option_map (λ h. h.text) (if_new texts (Some x)))) x.text) ≡ true
knows_got texts x p is = go (knows texts x.text)
  where
    go : (b : Bool) → (b || knows (option_to_list (option_map (λ h. h.text) (cond (not b) (Some x) None))) x.text) ≡ true
    go true = refl
    go false = ap (λ (c : Bool). c || false) (one_piece_itself x.text p is)

old_after : (h : History) (m n price : ℕ) (change : Option (List ℕ)) (got : Option Held) (text : List ℕ)
    → knows (texts_came h) text || knows (settled_texts change got) text ≡ true → is_new (texts_came (h ++ Done m n price change got ∷ [])) text ≡ false
old_after h m n price change got text known =
    ap not (
    ap (λ (ts : List (List ℕ)). knows ts text) (texts_more h (Done m n price change got))
    ∙ list_any-append (λ t. are_one_piece t text) (texts_came h) (texts_of (brings h (Done m n price change got)))
    ∙ ap (λ (ts : List (List ℕ)). knows (texts_came h) text || knows ts text) (settled_brings h n change got)
    ∙ known)

settled_knows : (change : Option (List ℕ)) (got : Option Held) (text : List ℕ) → knows (settled_texts change got) text ≡ (knows (option_to_list change) text || knows (option_to_list (option_map (λ p. p.text) got)) text)
settled_knows change got text = list_any-append (λ t. are_one_piece t text) (option_to_list change) (option_to_list (option_map (λ p. p.text) got))

or_assoc : (a b c : Bool) → (a || b) ≡ true → (a || (b || c)) ≡ true
or_assoc true b c is = refl
or_assoc false true c is = refl
or_assoc false false c is = absurd cc

-- the change of a reply stands in the holdings after its settlement: it came then, or before
pub change_is_old : (h : History) (t n : ℕ) (p : Pending) (r : Received) (q : Scrip) → r.status ≡ 200 → piece_of r.change ≡ Some q → is_new (texts_came (h ++ settlement h t n p r ∷ [])) r.change ≡ false
unfolding settlement
change_is_old h t n p r q ok is =
    let change = change_came (texts_came h) r.change in
    let got = got_came (texts_came h) change p.ask r.contents in
    let good : (r.status == 200) ≡ true = eq-eqb r.status 200 ok in
    let known : (knows (texts_came h) r.change || knows (settled_texts change got) r.change) ≡ true =
    ap (λ (b : Bool). knows (texts_came h) r.change || b) (settled_knows change got r.change)
    ∙ or_assoc (knows (texts_came h) r.change) (knows (option_to_list change) r.change) (knows (option_to_list (option_map (λ x. x.text) got)) r.change) (knows_change (texts_came h) r.change q is) in
    rw good (old_after h t n (unwrap_or (price_of r) 0) change got r.change known)

or_last_two : (a b c : Bool) → ((b || a) || c) ≡ true → (a || (b || c)) ≡ true
or_last_two true b c is = refl
or_last_two false true c is = refl
or_last_two false false true is = refl
or_last_two false false false is = absurd cc

-- and so does the piece in the contents of a buy or a draw
pub got_is_old : (h : History) (t n : ℕ) (p : Pending) (r : Received) (x : Held) (q : Scrip) → r.status ≡ 200 → contents_came p.ask r.contents ≡ Some x → piece_of x.text ≡ Some q
    → is_new (texts_came (h ++ settlement h t n p r ∷ [])) x.text ≡ false
unfolding settlement
got_is_old h t n p r x q ok came is =
    let change = change_came (texts_came h) r.change in
    let got = got_came (texts_came h) change p.ask r.contents in
    let good : (r.status == 200) ≡ true = eq-eqb r.status 200 ok in
    let both : knows (option_to_list change ++ texts_came h) x.text ≡ (knows (option_to_list change) x.text || knows (texts_came h) x.text) = list_any-append (λ t. are_one_piece t x.text) (option_to_list change) (texts_came h) in
    let it : got ≡ if_new (option_to_list change ++ texts_came h) (Some x) = ap (if_new (option_to_list change ++ texts_came h)) came in
    let known : (knows (texts_came h) x.text || knows (settled_texts change got) x.text) ≡ true =
    ap (λ (b : Bool). knows (texts_came h) x.text || b) (settled_knows change got x.text)
    ∙ or_last_two (knows (texts_came h) x.text) (knows (option_to_list change) x.text) (knows (option_to_list (option_map (λ y. y.text) got)) x.text) (
    ap (λ (b : Bool). b || knows (option_to_list (option_map (λ y. y.text) got)) x.text) (sym both)
    ∙ ap (λ (g : Option Held). knows (option_to_list change ++ texts_came h) x.text || knows (option_to_list (option_map (λ y. y.text) g)) x.text) it
    ∙ knows_got (option_to_list change ++ texts_came h) x q is) in
    rw good (old_after h t n (unwrap_or (price_of r) 0) change got x.text known)
