-- What was stated for a series stays what was redeemed of it.
use Rattle.std.proofs.Common.{◌≡◌, ℕ, ◌≤◌, ◌<◌, Bool, true, false, cond, not, List, [], ◌∷◌, ◌++◌, Option, Some, None, Ok, refl, sym, ap, subst, ◌∙◌, append-nil, append_assoc, arith, bytes_eq, eqb, find}
use Rattle.std.specs.Prelude.{filter, filter_map}
use Rattle.std.specs.List.{cons_option, AllByRecursion}
use Rattle.std.proofs.lemmas.Bool.{eqb-true, leb-false, and_parts}
use Rattle.std.proofs.lemmas.Option.{same_Some}
use Rattle.std.proofs.lemmas.List.Elements.{filter-append, filter_map-append}
use Rattle.scrip_form.specs.Identities.{issuer_of, epoch_of}
use Rattle.scrip_form.specs.Issuing.{Issuing, series_end}
use Rattle.scrip_form.specs.Scrip.{Scrip, Certified}
use Rattle.mc_requests.specs.declared.limits.Limits.{Limits}
use Rattle.mc_requests.specs.declared.refusal.Refusal.TheVariants.{WrongVendor, UnknownIssuer, ExpiryMismatch}
use Rattle.mc_records.specs.Entry.{Entry, Accept, moment_of}
use Rattle.ledger_model.specs.Histories.{History, time}
use Rattle.ledger_model.specs.Houses.{site_name, version, terms_of, all_terms, terms_by, terms_in}
use Rattle.ledger_model.specs.Pieces.{accepted, accepted_piece}
use Rattle.ledger_model.specs.Sums.{values}
use Rattle.ledger_model.specs.Lines.{given, refused_if}
use Rattle.ledger_model.specs.Stages.{genuine_by}
use Rattle.ledger_model.specs.Lawful.{MayFollow, AllFollow, IsLawful}
use Rattle.ledger_model.proofs.ListLaws.{all_append, all_weaker, all_option, found_stays}
use Rattle.ledger_model.proofs.AcceptLaws.{accept_through, read_piece, accepted_snoc}
use Rattle.ledger_model.proofs.TableLaws.{line_ok, refused_ok, given_ok}
use Rattle.settle_core.specs.declared.claim.Claim.{Claim}
use Rattle.settle_core.specs.Settlement.{stated_by, statements, is_of_series, redeemed, StatedInOrder, IsInOrder, IsSettled}
use Rattle.settle_core.specs.Orders.{StillStands, StatementsKeep}
use Rattle.settle_core.proofs.Walks.{walk_both, time_more, states_alone, stated_in_order}

not_false : (b : Bool) → not b ≡ false → b ≡ true
not_false true e = refl
not_false false e = absurd cc

-- ---- a piece that is accepted has not ended

-- the terms of a genuine piece's issuer, with whose series it ends
record HasSeries (terms : List Issuing) (p : Scrip) : Type 0 where
  own : Issuing
  there : terms_by terms (issuer_of p.id) ≡ Some own
  ends : p.expires ≡ series_end own (epoch_of p.id)

genuine_series : (name : List ℕ) (versions : ℕ → ℕ) (terms : List Issuing) (c : Certified) (secret : List ℕ) → genuine_by name versions terms c ≡ Ok secret → HasSeries terms c.piece
genuine_series name versions terms c secret e =
    let v = line_ok (refused_if (not (bytes_eq c.piece.vendor name)) WrongVendor) _ secret e in
    let own = line_ok (given (terms_by terms (issuer_of c.piece.id)) UnknownIssuer) _ secret v.2 in
    let customers = line_ok (given (terms_by terms (issuer_of c.piece.cust)) UnknownIssuer) _ secret own.2 in
    let end = series_end own.0 (epoch_of c.piece.id) in
    let ends = line_ok (refused_if (not (eqb c.piece.expires end)) (ExpiryMismatch c.piece.expires end)) _ secret customers.2 in
    record {
      own = own.0;
      there = given_ok (terms_by terms (issuer_of c.piece.id)) UnknownIssuer own.0 own.1;
      ends = eqb-true c.piece.expires end (not_false (eqb c.piece.expires end) (refused_ok (not (eqb c.piece.expires end)) (ExpiryMismatch c.piece.expires end) ends.0 ends.1));
    }

-- a piece whose series has ended is not accepted
not_ended : (h : History) (m issuer epoch : ℕ) (terms : Issuing) (p : Scrip) → terms_in h issuer ≡ Some terms → series_end terms epoch ≤ m → HasSeries (all_terms h) p → m < p.expires → is_of_series issuer epoch p.id ≡ false
not_ended h m issuer epoch terms p stand ended has live = go (is_of_series issuer epoch p.id) refl
  where
    go : (b : Bool) → is_of_series issuer epoch p.id ≡ b → b ≡ false
    go false is = refl
    go true is =
        let parts = and_parts (eqb (issuer_of p.id) issuer) (eqb (epoch_of p.id) epoch) is in
        let issuer' = eqb-true (issuer_of p.id) issuer parts.0 in
        let epoch' = eqb-true (epoch_of p.id) epoch parts.1 in
        let same = same_Some has.own terms (sym has.there ∙ ap (terms_by (all_terms h)) issuer' ∙ stand) in
        let ends : p.expires ≡ series_end terms epoch = has.ends ∙ ap (λ (t : Issuing). series_end t (epoch_of p.id)) same ∙ ap (series_end terms) epoch' in
        absurd (omega (arith, ends, ended, live))

abbrev redeemed_of : ℕ → ℕ → List Scrip → ℕ
redeemed_of issuer epoch ps = values (filter (λ p. is_of_series issuer epoch p.id) ps)

-- what an entry accepts of a series that has ended is nothing
adds_nothing : (limits : Limits) (h : History) (e : Entry) (issuer epoch : ℕ) (terms : Issuing) → MayFollow limits h e → terms_in h issuer ≡ Some terms → series_end terms epoch ≤ time h
    → filter (λ p. is_of_series issuer epoch p.id) (accepted (e ∷ [])) ≡ []
adds_nothing limits h (Accept m scrip target sign price change deed) issuer epoch terms may stand ended =
    let x = accept_through limits h m scrip target sign price change deed may.allowed in
    let e = Accept m scrip target sign price change deed in
    let one : accepted (e ∷ []) ≡ x.scrip.piece ∷ [] = ap (λ (o : Option Scrip). cons_option o []) (read_piece limits h m scrip target sign e x) in
    let live = leb-false x.scrip.piece.expires m x.is_spendable.is_live in
    let has = genuine_series (site_name h) (version h (site_name h)) (all_terms h) x.scrip x.secret x.is_genuine in
    let other = not_ended h m issuer epoch terms x.scrip.piece stand (omega (arith, ended, may.in_order)) has (omega (arith, live)) in
    ap (filter (λ p. is_of_series issuer epoch p.id)) one ∙ ap (λ (b : Bool). cond b (x.scrip.piece ∷ []) []) other
adds_nothing limits h e issuer epoch terms may stand ended = refl

redeemed_stays : (limits : Limits) (h : History) (e : Entry) (issuer epoch : ℕ) (terms : Issuing) → MayFollow limits h e → terms_in h issuer ≡ Some terms → series_end terms epoch ≤ time h
    → redeemed (h ++ e ∷ []) issuer epoch ≡ redeemed h issuer epoch
redeemed_stays limits h e issuer epoch terms may stand ended =
    let test : Scrip → Bool = λ p. is_of_series issuer epoch p.id in
    ap (redeemed_of issuer epoch) (accepted_snoc h e)
    ∙ ap values (filter-append test (accepted h) (accepted (e ∷ [])))
    ∙ ap (λ (ps : List Scrip). values (filter test (accepted h) ++ ps)) (adds_nothing limits h e issuer epoch terms may stand ended)
    ∙ ap values (append-nil (filter test (accepted h)))

terms_stay : (h : History) (e : Entry) (issuer : ℕ) (t : Issuing) → terms_in h issuer ≡ Some t → terms_in (h ++ e ∷ []) issuer ≡ Some t
terms_stay h e issuer t is =
    ap (λ (ts : List Issuing). find (λ x. eqb x.issuer issuer) ts) (filter_map-append terms_of h (e ∷ []))
    ∙ found_stays (λ x. eqb x.issuer issuer) (all_terms h) (filter_map terms_of (e ∷ [])) t is

-- ---- statements

stands_on : (limits : Limits) (h : History) (e : Entry) (c : Claim) → MayFollow limits h e → StillStands h c → StillStands (h ++ e ∷ []) c
stands_on limits h e c may s = record {
  terms = s.terms;
  stand = terms_stay h e c.issuer s.terms s.stand;
  ended = let later = time_more h e in let ended = s.ended in omega (arith, later, ended);
  is = s.is ∙ sym (redeemed_stays limits h e c.issuer c.epoch s.terms may s.stand s.ended);
}

-- an entry that accepts nothing leaves what was redeemed
pub accepts_nothing : (h : History) (e : Entry) (issuer epoch : ℕ) → accepted_piece e ≡ None → redeemed (h ++ e ∷ []) issuer epoch ≡ redeemed h issuer epoch
accepts_nothing h e issuer epoch none =
    ap (redeemed_of issuer epoch) (accepted_snoc h e ∙ ap (λ (o : Option Scrip). accepted h ++ cons_option o []) none ∙ append-nil (accepted h))

new_stands : (h : History) (e : Entry) (c : Claim) → accepted_piece e ≡ None → StatedInOrder h (moment_of e) c → StillStands (h ++ e ∷ []) c
new_stands h e c none order = record {
  terms = order.terms;
  stand = terms_stay h e c.issuer order.terms order.stand;
  ended = let later = time_more h e in let ended = order.ended in omega (arith, later, ended);
  is = order.is ∙ sym (accepts_nothing h e c.issuer c.epoch none);
}

step : (limits : Limits) (h : History) (e : Entry) → MayFollow limits h e → IsInOrder h e → StatementsKeep h → StatementsKeep (h ++ e ∷ [])
step limits h e may order kept =
    let more : statements (h ++ e ∷ []) ≡ statements h ++ cons_option (stated_by e) [] = filter_map-append stated_by h (e ∷ []) in
    subst (AllByRecursion (StillStands (h ++ e ∷ []))) (sym more)
    (all_append (StillStands (h ++ e ∷ [])) (statements h) (cons_option (stated_by e) [])
    (all_weaker (StillStands h) (StillStands (h ++ e ∷ [])) (λ c. stands_on limits h e c may) (statements h) kept)
    (all_option (StillStands (h ++ e ∷ [])) (stated_by e) (λ c is. new_stands h e c (states_alone e c is) (stated_in_order h e c order is))))

-- each entry of a lawful book may follow those before it
all_follow : (limits : Limits) (h : History) → IsLawful limits h → AllFollow limits [] h
all_follow limits [] lawful = absurd lawful
all_follow limits (e ∷ es) lawful = lawful

pub statements_keep : (limits : Limits) (h : History) → IsSettled limits h → StatementsKeep h
statements_keep limits h book = walk_both StatementsKeep (MayFollow limits) IsInOrder (step limits) [] h (all_follow limits h book.lawful) book.in_order tt

-- ---- whatever comes behind

behind : (limits : Limits) (before h more : History) → AllFollow limits before (h ++ more) → AllFollow limits (before ++ h) more
behind limits before [] more follow = subst (λ (l : History). AllFollow limits l more) (sym (append-nil before)) follow
behind limits before (e ∷ es) more follow = subst (λ (l : History). AllFollow limits l more) (append_assoc before (e ∷ []) es) (behind limits (before ++ e ∷ []) es more follow.1)

stand_on : (limits : Limits) (cs : List Claim) (h more : History) → AllFollow limits h more → AllByRecursion (StillStands h) cs → AllByRecursion (StillStands (h ++ more)) cs
stand_on limits cs h [] follow kept = subst (λ (l : History). AllByRecursion (StillStands l) cs) (sym (append-nil h)) kept
stand_on limits cs h (e ∷ es) follow kept =
    subst (λ (l : History). AllByRecursion (StillStands l) cs) (append_assoc h (e ∷ []) es)
    (stand_on limits cs (h ++ e ∷ []) es follow.1 (all_weaker (StillStands h) (StillStands (h ++ e ∷ [])) (λ c. stands_on limits h e c follow.0) cs kept))

pub statements_stay_behind : (limits : Limits) (h more : History) → IsSettled limits h → IsLawful limits (h ++ more) → AllByRecursion (StillStands (h ++ more)) (statements h)
statements_stay_behind limits h more book lawful =
    stand_on limits (statements h) h more (behind limits [] h more (all_follow limits (h ++ more) lawful)) (statements_keep limits h book)
