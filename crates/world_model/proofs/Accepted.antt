-- What a lawful history says of an Accept entry.
use Rattle.std.proofs.Common.{◌≡◌, inl, inr, ℕ, zero, suc, ◌<◌, ◌^◌, Bool, true, false, not, ◌&&◌, ◌||◌, List, [], ◌∷◌, length, take, Option, Some, None, Result, Ok, refl, sym, ap, subst, ◌∙◌, arith, append-nil, slice_get, option_map, bytes_eq, leb}
use Rattle.std.specs.Prelude.{◌==◌, is_none, option_and_then}
use Rattle.std.specs.List.{list_any, cons_option}
use Rattle.std.specs.Result.{result_ok, is_ok}
use Rattle.std.proofs.lemmas.Bool.{cases_lt, eq-eqb}
use Rattle.std.proofs.lemmas.Option.{same_Some}
use Rattle.std.proofs.lemmas.Slice.Eq.{bytes_eq-Decides}
use Rattle.hex.specs.Hex.{encode_lower}
use Rattle.scrip_form.specs.Identities.{issuer_of, series_of}
use Rattle.scrip_form.specs.Issuing.{Issuing}
use Rattle.scrip_form.specs.Scrip.{Scrip, Certified, IsPiece, IsTextOf, IsScripText, scrip_text}
use Rattle.mc_fields.specs.Reading.{whole}
use Rattle.scrip_form.specs.Reading.{scrip_of, is_scrip, scrip_at}
use Rattle.scrip_form.proofs.TextTests.{scrip_decides}
use Rattle.scrip_form.proofs.Laws.{scrip_reads}
use Rattle.scrip_certs.specs.Digests.{customer_secret, request_signature}
use Rattle.mc_requests.specs.declared.limits.Limits.{Limits}
use Rattle.mc_requests.specs.declared.refusal.Refusal.TheVariants.{WrongVendor, UnknownIssuer, BadCertificate}
use Rattle.mc_records.specs.Entry.{Deed, Entry, Site, Accept, Draw}
use Rattle.mc_requests.specs.Requests.{Asked}
use Rattle.ledger_model.specs.Histories.{History}
use Rattle.ledger_model.specs.Houses.{site_name, is_clear, all_terms, terms_by, version, secret_of}
use Rattle.ledger_model.specs.Pieces.{piece_of, accepted_piece, accepted, is_spent}
use Rattle.ledger_model.specs.Lines.{◌>>=◌, given, refused_if, again_if}
use Rattle.ledger_model.specs.Stages.{read_by, is_right}
use Rattle.ledger_model.specs.Answer.{repeated, genuine, spendable, taken, lines, Take, answer}
use Rattle.ledger_model.specs.Lawful.{unbounded, request_of, MayFollow, AllFollow, IsLawful}
use Rattle.ledger_model.specs.Replies.{secret_for}
use Rattle.ledger_model.proofs.TableLaws.{line_ok, refused_ok, given_ok, ok_is, TakenBy, by_scrip, by_draw, taken_by, draw_through}
use Rattle.ledger_model.proofs.AcceptLaws.{accept_through, offer_below}
use Rattle.ledger_model.proofs.LawfulLaws.{follows_at, get_take}

-- ---- scrip texts

pub piece_is : (text : List ℕ) (p : Scrip) (cert : List ℕ) → scrip_of text ≡ Ok (p, cert) → piece_of text ≡ Some p
piece_is text p cert is = ap (λ (r : Result (Scrip × List ℕ) ℕ). option_map (λ x. x.0) (result_ok r)) is

pub text_of : (text : List ℕ) (p : Scrip) (cert : List ℕ) → scrip_of text ≡ Ok (p, cert) → IsScripText text
unfolding is_scrip
text_of text p cert is = (scrip_decides text).0 (ap (λ (r : Result (Scrip × List ℕ) ℕ). is_ok r) is)

pub read_whole : (text : List ℕ) (p : Scrip) (cert : List ℕ) → IsTextOf text p cert → scrip_of text ≡ Ok (p, cert)
unfolding scrip_of
read_whole text p cert is =
    ap (whole (length text)) (ap scrip_at (is.spelled ∙ sym (append-nil (scrip_text p cert))) ∙ scrip_reads.again (p, cert) [] (is.is_piece, is.is_cert))

pub piece_ranges : (text : List ℕ) (p : Scrip) (cert : List ℕ) → scrip_of text ≡ Ok (p, cert) → IsPiece p
piece_ranges text p cert is =
    let t = text_of text p cert is in
    let same : t.0 ≡ p = same_Some t.0 p (sym (piece_is text t.0 t.1 (read_whole text t.0 t.1 t.2)) ∙ piece_is text p cert is) in
    subst IsPiece same t.2.is_piece

-- ---- what may follow

all_of : (limits : Limits) (h : History) → IsLawful limits h → AllFollow limits [] h
all_of limits [] lawful = absurd lawful
all_of limits (e ∷ es) lawful = lawful

pub may_at : (limits : Limits) (h : History) (n : ℕ) (e : Entry) → IsLawful limits h → slice_get h n ≡ Some e → MayFollow limits (take n h) e
may_at limits h n e lawful at = follows_at limits [] h n e (all_of limits h lawful) at

-- a front that is not empty has the history's first entry
pub name_at : (h : History) (n : ℕ) (text : List ℕ) → (take n h ≡ [] → ⊥) → site_name (take n h) ≡ site_name h
name_at [] zero text some = refl
name_at [] (suc n) text some = refl
name_at (x ∷ xs) zero text some = absurd (some refl)
name_at (Site m kind name house ∷ xs) (suc n) text some = refl
name_at (x ∷ xs) (suc n) text some = refl

pub clear_at : (h : History) (n : ℕ) → (take n h ≡ [] → ⊥) → is_clear (take n h) ≡ is_clear h
clear_at [] zero some = refl
clear_at [] (suc n) some = refl
clear_at (x ∷ xs) zero some = absurd (some refl)
clear_at (Site m kind name house ∷ xs) (suc n) some = refl
clear_at (x ∷ xs) (suc n) some = refl

-- ---- a genuine piece

pub record IsGenuine (h : History) (c : Certified) (secret : List ℕ) : Type 0 where
  pub vendor : c.piece.vendor ≡ site_name h
  pub known : secret_of h c.piece.cust ≡ Some secret
  pub some : h ≡ [] → ⊥

no_terms : (issuer : ℕ) (t : Issuing) → given (terms_by [] issuer) UnknownIssuer ≡ Ok t → ⊥
no_terms issuer t e = cc

pub genuine_ok : (h : History) (c : Certified) (secret : List ℕ) → genuine h c ≡ Ok secret → IsGenuine h c secret
genuine_ok h c secret e =
    let a = line_ok (refused_if (not (bytes_eq c.piece.vendor (site_name h))) WrongVendor) _ secret e in
    let b = line_ok (given (terms_by (all_terms h) (issuer_of c.piece.id)) UnknownIssuer) _ secret a.2 in
    let d = line_ok (given (terms_by (all_terms h) (issuer_of c.piece.cust)) UnknownIssuer) _ secret b.2 in
    let f = line_ok (refused_if (not (c.piece.expires == _)) _) _ secret d.2 in
    let v = line_ok (refused_if (not (c.piece.version == _)) _) _ secret f.2 in
    let g = line_ok (refused_if (not (bytes_eq c.cert _)) BadCertificate) _ secret v.2 in
    record {
      vendor = (bytes_eq-Decides c.piece.vendor (site_name h)).0 (not_false (bytes_eq c.piece.vendor (site_name h)) (refused_ok (not (bytes_eq c.piece.vendor (site_name h))) WrongVendor a.0 a.1));
      known = ap (λ (o : Option Issuing). option_map (λ t. customer_secret t c.piece.cust (version h (site_name h) (series_of c.piece.cust))) o) (given_ok (terms_by (all_terms h) (issuer_of c.piece.cust)) UnknownIssuer d.0 d.1) ∙ ap some (ok_is _ secret g.2);
      some = λ is. no_terms (issuer_of c.piece.cust) d.0 (ap (λ (k : History). given (terms_by (all_terms k) (issuer_of c.piece.cust)) UnknownIssuer) (sym is) ∙ d.1);
    }
  where
    some : List ℕ → Option (List ℕ)
    some s = Some s

    not_false : (b : Bool) → not b ≡ false → b ≡ true
    not_false true h = refl
    not_false false h = absurd cc

-- ---- a signature

needs_sign : (h : History) (t : ℕ) (secret : List ℕ) (q : Asked) (c : Certified) (sign : Option (List ℕ)) → spendable h t secret q c ≡ Ok sign → (is_none q.sign && not (is_clear h)) ≡ false
needs_sign h t secret q c sign e =
    let live = line_ok (refused_if (leb c.piece.expires t) _) _ sign e in
    let new = line_ok (refused_if (is_spent h c.piece.id) _) _ sign live.2 in
    let needs = line_ok (refused_if (is_none q.sign && not (is_clear h)) _) _ sign new.2 in
    refused_ok _ _ needs.0 needs.1

needs_of : (h : History) (t : ℕ) (limits : Limits) (q : Asked) (e : Entry) → lines h t limits q ≡ Ok e → (is_none q.sign && not (is_clear h)) ≡ false
needs_of h t limits q e r =
    let a = line_ok (read_by q.scrip) _ e r in
    let b = line_ok (again_if (repeated h t a.0 q)) (λ _. genuine h a.0 >>= λ secret. spendable h t secret q a.0 >>= λ sign. taken h t limits q a.0 sign) e a.2 in
    let c = line_ok (genuine h a.0) (λ secret. spendable h t secret q a.0 >>= λ sign. taken h t limits q a.0 sign) e b.2 in
    let d = line_ok (spendable h t c.0 q a.0) (λ sign. taken h t limits q a.0 sign) e c.2 in
    needs_sign h t c.0 q a.0 d.0 d.1

accept_lines : (h : History) (t : ℕ) (limits : Limits) (q : Asked) (m : ℕ) (scrip target : List ℕ) (sign : Option (List ℕ)) (price : ℕ) (change : Option ℕ) (deed : Deed)
    → answer h t limits q ≡ Take (Accept m scrip target sign price change deed) → lines h t limits q ≡ Ok (Accept m scrip target sign price change deed)
accept_lines h t limits q m scrip target sign price change deed r = go (taken_by h t limits q (Accept m scrip target sign price change deed) r)
  where
    no_draw : (a : ℕ) (b c : List ℕ) (d : ℕ) → Draw a b c d ≡ Accept m scrip target sign price change deed → ⊥
    no_draw a b c d e = cc

    go : TakenBy h t limits q (Accept m scrip target sign price change deed) → lines h t limits q ≡ Ok (Accept m scrip target sign price change deed)
    go (by_scrip none ran) = ran
    go (by_draw o asks ran) = absurd (let x = draw_through h t limits q o (Accept m scrip target sign price change deed) ran in no_draw _ _ _ _ x.is)

-- ---- an Accept entry of a lawful history

pub record IsLawfulAccept (h : History) (n : ℕ) (text target : List ℕ) (sign : Option (List ℕ)) (price : ℕ) : Type 0 where
  pub piece : Scrip
  pub secret : List ℕ
  pub read : piece_of text ≡ Some piece
  pub vendor : piece.vendor ≡ site_name h
  pub known : secret_for (take n h) text ≡ Some secret
  pub new : is_spent (take n h) piece.id ≡ false
  pub small : price < 2 ^ 64
  pub signs : is_clear h ≡ false → (request_of text target sign).sign ≡ Some (encode_lower (request_signature text target secret))

signed_by : (q : Option (List ℕ)) (clear : Bool) (right : List ℕ) → clear ≡ false → (is_none q && not clear) ≡ false → is_right q right ≡ true → q ≡ Some (encode_lower right)
signed_by None true right off needs is = absurd cc
signed_by None false right off needs is = absurd cc
signed_by (Some text) clear right off needs is = ap some ((bytes_eq-Decides text (encode_lower right)).0 is)
  where
    some : List ℕ → Option (List ℕ)
    some s = Some s

abbrev text_in : Entry → List ℕ
text_in (Accept m scrip target sign price change deed) = scrip
text_in _ = []

abbrev price_in : Entry → ℕ
price_in (Accept m scrip target sign price change deed) = price
price_in _ = 0

pub lawful_accept : (limits : Limits) (h : History) (n m : ℕ) (text target : List ℕ) (sign : Option (List ℕ)) (price : ℕ) (change : Option ℕ) (deed : Deed) → IsLawful limits h
    → slice_get h n ≡ Some (Accept m text target sign price change deed) → IsLawfulAccept h n text target sign price
lawful_accept limits h n m text target sign price change deed lawful at =
    let e : Entry = Accept m text target sign price change deed in
    let may = may_at limits h n e lawful at in
    let x = accept_through limits (take n h) m text target sign price change deed may.allowed in
    let same : x.scrip.text ≡ text = ap text_in x.is in
    let g = genuine_ok (take n h) x.scrip x.secret x.is_genuine in
    let cost : x.offered.price ≡ price = ap price_in x.is in
    let below = offer_below (take n h) m (unbounded limits) target x.scrip.piece.value x.offered x.is_offered in
    let range = piece_ranges x.scrip.text x.scrip.piece x.scrip.cert x.is_scrip in
    let most = range.most in
    let read : piece_of text ≡ Some x.scrip.piece = ap piece_of (sym same) ∙ piece_is x.scrip.text x.scrip.piece x.scrip.cert x.is_scrip in
    record {
      piece = x.scrip.piece;
      secret = x.secret;
      read = read;
      vendor = g.vendor ∙ name_at h n text g.some;
      known = ap (λ (o : Option Scrip). option_and_then (λ p. secret_of (take n h) p.cust) o) read ∙ g.known;
      new = x.is_spendable.is_new;
      small = omega (arith, cost, below, most);
      signs = λ off. signed_by (request_of text target sign).sign (is_clear (take n h)) (request_signature text target x.secret) (clear_at h n g.some ∙ off)
          (needs_of (take n h) m (unbounded limits) (request_of text target sign) e (accept_lines (take n h) m (unbounded limits) (request_of text target sign) m text target sign price change deed may.allowed))
          (subst (λ (s : List ℕ). is_right (request_of text target sign).sign (request_signature s target x.secret) ≡ true) same x.is_spendable.is_right);
    }

-- ---- one text is accepted once

spent_by : (h : History) (n : ℕ) (e : Entry) (p : Scrip) → slice_get h n ≡ Some e → accepted_piece e ≡ Some p → is_spent h p.id ≡ true
spent_by [] n e p at is = absurd cc
spent_by (x ∷ xs) zero e p at is =
    let here : accepted_piece x ≡ Some p = ap accepted_piece (same_Some x e at) ∙ is in
    ap (λ (o : Option Scrip). list_any (λ q. q.id == p.id) (cons_option o (accepted xs))) here ∙ (rw (eq-eqb p.id p.id refl) refl)
spent_by (x ∷ xs) (suc n) e p at is = go (accepted_piece x) (spent_by xs n e p at is)
  where
    either : (b : Bool) → list_any (λ q. q.id == p.id) (accepted xs) ≡ true → (b || list_any (λ q. q.id == p.id) (accepted xs)) ≡ true
    either true h = refl
    either false h = h

    go : (o : Option Scrip) → list_any (λ q. q.id == p.id) (accepted xs) ≡ true → list_any (λ q. q.id == p.id) (cons_option o (accepted xs)) ≡ true
    go None h = h
    go (Some y) h = either (y.id == p.id) h

not_twice : (limits : Limits) (h : History) (n k m l : ℕ) (text target other : List ℕ) (sign o : Option (List ℕ)) (price cost : ℕ) (change rest : Option ℕ) (deed d : Deed) → IsLawful limits h → n < k
    → slice_get h n ≡ Some (Accept m text target sign price change deed) → slice_get h k ≡ Some (Accept l text other o cost rest d) → ⊥
not_twice limits h n k m l text target other sign o price cost change rest deed d lawful lt first second =
    let x = lawful_accept limits h k l text other o cost rest d lawful second in
    let there = spent_by (take k h) n (Accept m text target sign price change deed) x.piece (get_take h n k lt ∙ first) x.read in
    let both : true ≡ false = sym there ∙ x.new in
    cc

pub accepted_once : (limits : Limits) (h : History) (n k m l : ℕ) (text target other : List ℕ) (sign o : Option (List ℕ)) (price cost : ℕ) (change rest : Option ℕ) (deed d : Deed) → IsLawful limits h
    → slice_get h n ≡ Some (Accept m text target sign price change deed) → slice_get h k ≡ Some (Accept l text other o cost rest d) → n ≡ k
accepted_once limits h n k m l text target other sign o price cost change rest deed d lawful first second = elim (cases_lt n k) [
  | inl lt ↦ absurd (not_twice limits h n k m l text target other sign o price cost change rest deed d lawful lt first second)
  | inr le ↦ elim (cases_lt k n) [
    | inl lt ↦ absurd (not_twice limits h k n l m text other target o sign cost price rest change d deed lawful lt second first)
    | inr ge ↦ omega (arith, le, ge)
  ]
]
