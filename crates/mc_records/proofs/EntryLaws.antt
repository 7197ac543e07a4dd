-- Payloads: what is read is an entry's payload, each entry's payload is read, and none begins another.
use Rattle.std.proofs.Common.{◌≡◌, ◌≢◌, ℕ, ◌≤◌, Bool, true, false, cond, eqb, List, ◌∷◌, ◌++◌, length, Result, Ok, Err, refl, sym, ap, subst, ◌∙◌, arith}
use Rattle.std.specs.List.{AllByRecursion}
use Rattle.std.proofs.lemmas.Bool.{eqb-true}
use Rattle.std.proofs.lemmas.Bool.Decides.{nat_tests}
use Rattle.std.proofs.lemmas.List.{length-append}
use Rattle.mc_fields.specs.Reading.{Read, whole}
use Rattle.mc_fields.specs.Field.{Field, FieldFits, spelled}
use Rattle.mc_fields.specs.Form.{Form, run}
use Rattle.mc_fields.proofs.FieldBytes.{IsBytes, ok_is}
use Rattle.mc_fields.proofs.FormLaws.{Path, answer, path_fields, path_fits, whole_takes, whole_reads, whole_more, run_reads}
use Rattle.mc_records.specs.Entry.{Entry, fields, payload, Fits, IsMoment}
use Rattle.mc_records.specs.Forms.{kind_form, entry_form, entry_of}
use Rattle.mc_records.proofs.KindLaws.{KindTells, leads, site_tells, add_terms_tells, goods_tells, accept_tells, mint_tells, account_tells, deposit_tells, withdraw_tells, draw_tells, licence_tells, stock_tells, got_pieces_tells, pend_tells, done_tells, refused_tells, upgrade_tells, switch_tells, note_tells}

-- ---- any kind

either : (b : Bool) (f g : Form Entry) (P : (h : Form Entry) → Path h → Type 0) → (b ≡ true → (p : Path f) → P f p) → (b ≡ false → (p : Path g) → P g p) → (p : Path (cond b f g)) → P (cond b f g) p
either true f g P here other p = here refl p
either false f g P here other p = other refl p

if_kind : (kind k m : ℕ) (f g : Form Entry) → ((p : Path f) → KindTells k m f p) → (kind ≢ k → (p : Path g) → KindTells kind m g p) → (p : Path (cond (eqb kind k) f g)) → KindTells kind m (cond (eqb kind k) f g) p
if_kind kind k m f g here other =
    either (eqb kind k) f g (λ h p. KindTells kind m h p)
    (λ e p. subst (λ (n : ℕ). KindTells n m f p) (sym (eqb-true kind k e)) (here p))
    (λ e p. other (eqb-ne kind k e) p)
  where
    eqb-ne : (a b : ℕ) → eqb a b ≡ false → a ≢ b
    eqb-ne a b e h = absurd (grind (arith, nat_tests, e, h))

kind_tells : (kind m : ℕ) → 1 ≤ kind → kind ≤ 18 → IsMoment m → (p : Path (kind_form kind m)) → KindTells kind m (kind_form kind m) p
unfolding kind_form
kind_tells kind m low high moment =
    if_kind kind 1 m _ _ (site_tells m moment) λ not1.
    if_kind kind 2 m _ _ (add_terms_tells m moment) λ not2.
    if_kind kind 3 m _ _ (goods_tells m moment) λ not3.
    if_kind kind 4 m _ _ (accept_tells m moment) λ not4.
    if_kind kind 5 m _ _ (mint_tells m moment) λ not5.
    if_kind kind 6 m _ _ (account_tells m moment) λ not6.
    if_kind kind 7 m _ _ (deposit_tells m moment) λ not7.
    if_kind kind 8 m _ _ (withdraw_tells m moment) λ not8.
    if_kind kind 9 m _ _ (draw_tells m moment) λ not9.
    if_kind kind 10 m _ _ (licence_tells m moment) λ not10.
    if_kind kind 11 m _ _ (stock_tells m moment) λ not11.
    if_kind kind 12 m _ _ (got_pieces_tells m moment) λ not12.
    if_kind kind 13 m _ _ (pend_tells m moment) λ not13.
    if_kind kind 14 m _ _ (done_tells m moment) λ not14.
    if_kind kind 15 m _ _ (refused_tells m moment) λ not15.
    if_kind kind 16 m _ _ (upgrade_tells m moment) λ not16.
    if_kind kind 17 m _ _ (switch_tells m moment) λ not17.
    λ p. let last : 18 ≡ kind = omega arith in subst (λ (n : ℕ). KindTells n m _ p) last (note_tells m moment p)

entry_tells : (p : Path entry_form) → (fields (answer entry_form p) ≡ path_fields entry_form p) × Fits (answer entry_form p)
unfolding entry_form
entry_tells (kind, low, high, _, (m, _, moment, _, p)) = kind_tells kind m low high (omega (arith, moment)) p

-- ---- the two directions

pub payload_found : (bytes : List ℕ) (e : Entry) → IsBytes bytes → entry_of bytes ≡ Ok e → Fits e × (bytes ≡ payload e)
payload_found bytes e fits h =
    let w = whole_takes entry_form bytes e fits h in
    let t = entry_tells w.0 in
    subst (λ (x : Entry). Fits x × (bytes ≡ payload x)) w.1 (t.1, w.2 ∙ ap spelled (sym t.0))

pub payload_only : (e : Entry) → Fits e → entry_of (payload e) ≡ Ok e
payload_only e fits =
    let l = leads e fits in
    ap (λ (x : List Field). entry_of (spelled x)) (sym l.is_spelled) ∙ whole_reads entry_form l.path ∙ ap is_whole l.is_answer
  where
    is_whole : Entry → Result Entry ℕ
    is_whole x = Ok x

pub payload_then : (e : Entry) (rest : List ℕ) → Fits e → run entry_form (payload e ++ rest) ≡ Ok (e, rest)
payload_then e rest fits =
    let l = leads e fits in
    ap (λ (x : List Field). run entry_form (spelled x ++ rest)) (sym l.is_spelled) ∙ run_reads entry_form l.path rest ∙ ap (λ (x : Entry). found x rest) l.is_answer
  where
    found : Entry → List ℕ → Read Entry
    found x rest = Ok (x, rest)

-- ---- no payload begins another

pub no_prefix : (e f : Entry) (x y : List ℕ) → Fits e → Fits f → payload e ++ x ≡ payload f ++ y → (e ≡ f) × (x ≡ y)
no_prefix e f x y fits fits' same =
    let one : _ = ok_is (e, x) (f, y) (sym (payload_then e x fits) ∙ ap (run entry_form) same ∙ payload_then f y fits') in
    (ap (λ (p : Entry × List ℕ). p.0) one, ap (λ (p : Entry × List ℕ). p.1) one)

-- each field of an entry that fits can be spelled
pub fields_fit : (e : Entry) → Fits e → AllByRecursion FieldFits (fields e)
fields_fit e fits = let l = leads e fits in subst (λ (x : List Field). AllByRecursion FieldFits x) l.is_spelled (path_fits entry_form l.path)

-- where more bytes follow a whole payload, the place is its length
pub more_follows : (e : Entry) (b : ℕ) (bs : List ℕ) → Fits e → entry_of (payload e ++ b ∷ bs) ≡ Err (length (payload e))
more_follows e b bs fits =
    let n = length (payload e ++ b ∷ bs) in
    ap (whole n) (payload_then e (b ∷ bs) fits) ∙ whole_more n e b bs ∙ ap is_err (omega (arith, length-append (payload e) (b ∷ bs)))
  where
    is_err : ℕ → Result Entry ℕ
    is_err place = Err place
