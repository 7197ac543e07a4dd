-- What there is to do by the calls of a vendor's operator.
use Rattle.std.proofs.Common.{◌≡◌, ℕ, ◌<◌, ◌≤◌, Bool, true, false, cond, ◌||◌, [], ◌∷◌, ◌++◌, length, List, Option, Some, None, refl, sym, ap, ap₂, ◌∙◌, take, slice_get, eqb, subst, arith, length-append}
use Rattle.std.specs.Prelude.{◌==◌, option_map, option_and_then, unwrap_or, IsFalse, Ok}
use Rattle.std.proofs.lemmas.Slice.Eq.{bytes_eq-Decides}
use Rattle.std.proofs.lemmas.Option.{slice_get-get_or}
use Rattle.std.proofs.Math.Seq.{get_or-append_seam, take-append_seam}
use Rattle.std.proofs.lemmas.Bool.{lt-ltb, le-ltb}
use Rattle.mc_outside.specs.DiskView.{DiskView, Ran}
use Rattle.scrip_form.specs.Issuing.{Issuing}
use Rattle.issuer_terms.specs.Terms.{are_same_terms}
use Rattle.mc_requests.specs.declared.limits.Limits.{Limits}
use Rattle.mc_requests.specs.declared.refusal.Refusal.TheVariants.{ContentsFull, IssuerTaken}
use Rattle.mc_records.specs.Cells.{kind_of}
use Rattle.mc_records.specs.Entry.{Entry, AddTerms, Goods, Mint}
use Rattle.ledger_model.specs.declared.numbers.TheConstants.{VENDOR_KIND, MOST_IN_FORCE}
use Rattle.ledger_model.specs.Histories.{History, time}
use Rattle.ledger_model.specs.Houses.{site_name, site_kind, is_broker, terms_in, version}
use Rattle.ledger_model.specs.Stock.{licence_in, of_issuer, upgrade_terms}
use Rattle.ledger_model.specs.Lawful.{MayFollow}
use Rattle.ledger_model.proofs.VersionLaws.{version-more}
use Rattle.ledger_model.specs.Pieces.{has_reference, run_from}
use Rattle.ledger_model.specs.Goods.{goods_in, goods_kind, goods_contents, in_force}
use Rattle.ledger_model.specs.Answer as answers
use Rattle.house_core.specs.declared.outcome.Outcome.{Outcome}
use Rattle.house_core.specs.House.{HasRun, Entered, Leaves, outcome_disk}
use Rattle.house_core.specs.Tasks.{Add, Stays, Refuse, Performs}
use Rattle.house_state.specs.Trade.{TradeView}
use Rattle.house_core.proofs.TaskLemmas.{IsDone, answered_as, enters}
use Rattle.vendor_core.specs.Tasks.{goods_entered, repriced, price_task, licensed, IsMintTask, TellsMint}
use Rattle.vendor_core.specs.Lines.{piece_lines}
use Rattle.vendor_core.proofs.GoodsLaws.{bytes_of, in_force_goods}
use Rattle.vendor_core.proofs.LineLemmas.{lines_of_mint, terms_under_mint}

-- ---- goods

pub goods_refused : (e : Entry) (bytes n : ℕ) → bytes ≡ n → MOST_IN_FORCE < bytes → Refuse (ContentsFull bytes) ≡ goods_entered e n
goods_refused e bytes n is more = ap (λ (k : ℕ). Refuse (ContentsFull k)) is ∙ sym (rw (lt-ltb MOST_IN_FORCE n (omega (arith, is, more))) refl)

pub goods_added : (e : Entry) (bytes n : ℕ) → bytes ≡ n → bytes ≤ MOST_IN_FORCE → Add e ≡ goods_entered e n
goods_added e bytes n is most = sym (rw (le-ltb MOST_IN_FORCE n (omega (arith, is, most))) refl)

-- at another price the goods of a target have the contents in force, which stay within the bound
pub repriced_within : (h : History) (t price kind : ℕ) (target contents : List ℕ) (e : Entry) → in_force h ≤ MOST_IN_FORCE
    → goods_in h target ≡ Some e → goods_contents e ≡ contents → in_force (h ++ Goods t target price kind contents ∷ []) ≤ MOST_IN_FORCE
repriced_within h t price kind target contents e most is has =
    let old : bytes_of (goods_in h target) ≡ length contents = ap bytes_of is ∙ ap (λ (c : List ℕ). length c) has in
    omega (arith, most, old, in_force_goods h t price kind target contents)

pub repriced_adds : (h : History) (t price kind : ℕ) (target contents : List ℕ) (e : Entry)
    → goods_in h target ≡ Some e → goods_kind e ≡ kind → goods_contents e ≡ contents → Add (Goods t target price kind contents) ≡ price_task h t target price
repriced_adds h t price kind target contents e is of_kind has =
    ap₂ (λ (k : ℕ) (c : List ℕ). Add (Goods t target price k c)) (sym of_kind) (sym has)
    ∙ ap (λ (o : Option Entry). repriced t target price o) (sym is)

-- ---- terms

pub same_licensed : (t : ℕ) (terms standing : Issuing) (o : Option Issuing) → o ≡ Some standing → are_same_terms standing terms ≡ true → Stays ≡ licensed t terms o
same_licensed t terms standing o is same = sym (ap (λ (x : Option Issuing). licensed t terms x) is ∙ rw same refl)

pub other_licensed : (t : ℕ) (terms standing : Issuing) (o : Option Issuing) (issuer : ℕ) → o ≡ Some standing → are_same_terms standing terms ≡ false → issuer ≡ terms.issuer
    → Refuse (IssuerTaken issuer) ≡ licensed t terms o
other_licensed t terms standing o issuer is other number =
    ap (λ (n : ℕ). Refuse (IssuerTaken n)) number ∙ sym (ap (λ (x : Option Issuing). licensed t terms x) is ∙ rw other refl)

pub new_licensed : (t : ℕ) (terms : Issuing) (o : Option Issuing) → o ≡ None → Add (AddTerms t terms) ≡ licensed t terms o
new_licensed t terms o is = sym (ap (λ (x : Option Issuing). licensed t terms x) is)

-- ---- issuers that are moved

-- a vendor may move each of its issuers, by the terms of it
pub own_terms_by : (h : History) (issuer : ℕ) → site_kind h ≡ Some VENDOR_KIND → upgrade_terms h (site_name h) issuer ≡ terms_in h issuer
unfolding upgrade_terms
own_terms_by h issuer kind =
    ap₂ (λ (p q : Bool). cond p (cond q (terms_in h issuer) None) (cond (is_broker h) (option_and_then (of_issuer issuer) (licence_in h (site_name h))) None))
    (ap (λ (o : Option ℕ). unwrap_or (option_map (λ k. eqb k 0) o) false || issuer == 0) kind) ((bytes_eq-Decides (site_name h) (site_name h)).1 refl)

-- ---- mints

-- the last entry has the number that was the length
last_there : (h : History) (e : Entry) (n : ℕ) → n ≡ length h → slice_get (h ++ e ∷ []) n ≡ Some e
last_there h e n is =
    let within : length h < length (h ++ e ∷ []) = omega (arith, length-append h (e ∷ [])) in
    ap (λ (k : ℕ). slice_get (h ++ e ∷ []) k) is ∙ slice_get-get_or (h ++ e ∷ []) (length h) e within ∙ ap (λ (x : Entry). Some x) (get_or-append_seam h e [] e)

module _ (limits : Limits) (h : History) (t : ℕ) (reference : List ℕ) (count value first : ℕ) (e : Entry) (same : e ≡ Mint t reference count value first) (new : IsFalse (has_reference h reference)) (run : HasRun h t limits count (Ok first)) where
  pub mint_may_follow : time h ≤ t → site_kind h ≡ Some VENDOR_KIND → MayFollow limits h e
  mint_may_follow order kind = subst (λ (x : Entry). MayFollow limits h x) (sym same) (record {
    in_order = order;
    allowed = (ap (λ (o : Option ℕ). unwrap_or (option_map (λ k. eqb k 0) o) false) kind, new, run.0, run.1);
  })

  -- the lines in the list are those of the entry
  pub mint_tells : (terms : Issuing) (out : List ℕ) (n : ℕ) → site_name (h ++ e ∷ []) ≡ site_name h → terms_in h 0 ≡ Some terms → out ≡ piece_lines (version h (site_name h)) terms (run_from h value first count) → n ≡ length h
      → TellsMint reference count value out (Add e) (h ++ e ∷ []) n
  mint_tells terms out n named own lines is =
      let there : slice_get (h ++ e ∷ []) n ≡ Some (Mint t reference count value first) = last_there h e n is ∙ ap (λ (x : Entry). Some x) same in
      let still : terms_in (h ++ e ∷ []) 0 ≡ Some terms = ap (λ (x : Entry). terms_in (h ++ x ∷ []) 0) same ∙ terms_under_mint h t reference count value first 0 ∙ own in
      let versions : version (h ++ e ∷ []) (site_name (h ++ e ∷ [])) ≡ version h (site_name h) = ap₂ (λ (v : List ℕ → ℕ → ℕ) (name : List ℕ). v name) (version-more h e (λ k. absurd (omega (arith, ap kind_of (sym same), k)))) named in
      let before : take n (h ++ e ∷ []) ≡ h = ap (λ (k : ℕ). take k (h ++ e ∷ [])) is ∙ take-append_seam h (e ∷ []) in (
        record { moment = t; first = first; entry = there },
        lines ∙ sym (lines_of_mint (h ++ e ∷ []) terms n t reference count value first still there
            ∙ ap₂ (λ (v : ℕ → ℕ) (g : History). piece_lines v terms (run_from g value first count)) versions before),
      )

  pub mint_enters : {D T : Type 0} (view : D → DiskView) (trade : T → TradeView) (disk : D) (terms : Issuing) (out : List ℕ) (r : Outcome D T ℕ)
      → site_name (h ++ e ∷ []) ≡ site_name h → terms_in h 0 ≡ Some terms → (IsDone r → out ≡ piece_lines (version h (site_name h)) terms (run_from h value first count))
      → Entered view trade limits disk h e r → Ran (view disk) (view (outcome_disk r)) (Leaves (answers.Take e) r h (view disk).aside)
      → Performs view trade (IsMintTask h t limits reference count value) (TellsMint reference count value out) limits disk h (answered_as (λ n. n) r)
  mint_enters view trade disk terms out r named own lines is ran =
      enters view trade (IsMintTask h t limits reference count value) (TellsMint reference count value out) limits (λ n. n) disk h e r
      (new, run.1, same ∙ ap (λ (id : ℕ). Mint t reference count value id) run.0) (λ done n number. mint_tells terms out n named own (lines done) number) is ran
