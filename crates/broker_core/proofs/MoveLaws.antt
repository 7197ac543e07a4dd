-- What is kept of moved issuers, by what a history says; and by which terms a broker may move one.
use Rattle.std.proofs.Common.{◌≡◌, ℕ, ◌<◌, Bool, true, false, cond, eqb, ltb, ◌&&◌, ◌||◌, List, [], ◌∷◌, ◌++◌, Option, Some, None, option_map, option_and_then, unwrap_or, refl, sym, ap, ap₂, subst, ◌∙◌, find, bytes_eq, arith}
use Rattle.std.specs.Borrow.{Bor}
use Rattle.std.specs.Prelude.{◌==◌, ◌↔◌, IsTrue, IsNone, MatchOption}
use Rattle.std.specs.List.{list_any, cons_option, AllByRecursion}
use Rattle.std.proofs.lemmas.Bool.{eqb-true, eq-eqb, false_from_ne_true, ltb-true, lt-ltb, and_parts}
use Rattle.std.proofs.lemmas.List.Elements.{filter_map-append}
use Rattle.std.proofs.lemmas.Option.{same_Some}
use Rattle.std.proofs.lemmas.Slice.Eq.{bytes_eq-Decides}
use Rattle.scrip_form.specs.Issuing.{Issuing, epoch}
use Rattle.mc_records.specs.Views.{entry}
use Rattle.mc_records.specs.declared.record.Record.{Record}
use Rattle.mc_records.specs.declared.record.Record.TheVariants as records
use Rattle.mc_records.specs.Entry.{Entry, Licence, Upgrade, Fits}
use Rattle.ledger_model.specs.declared.numbers.TheConstants.{BROKER_KIND}
use Rattle.ledger_model.specs.declared.upgraded.Upgraded.{Upgraded}
use Rattle.ledger_model.specs.Histories.{History}
use Rattle.ledger_model.specs.Houses.{site_name, site_kind, is_vendor, is_broker, terms_in, upgrade_of, upgrades_of, upgrade_in, raises, version_by, upgrade_by}
use Rattle.ledger_model.specs.Stock.{is_licence_of, licence_terms, licence_in, of_issuer, upgrade_terms}
use Rattle.ledger_model.proofs.UpgradeLaws.{own_upgrade_terms}
use Rattle.ledger_model.proofs.VersionLaws.{upgrades-more, upgrades-same}
use Rattle.house_state.specs.Learning.{MayRaise}
use Rattle.broker_core.specs.declared.moves.Moved.{Moved}
use Rattle.broker_core.specs.Moves.{moved_of, move_of, moves_of, is_move_of, raises_of, MovesAllow, moved_issuer}

-- ---- what is asked of what is kept

-- one of a vendor raises a series
any_of : (vendor : List ℕ) (series : ℕ) (ms : List Moved) → list_any (raises_of vendor series) ms ≡ list_any (raises series) (moves_of ms vendor)
any_of vendor series [] = refl
any_of vendor series (m ∷ ms) = go (bytes_eq m.vendor vendor) (any_of vendor series ms)
  where
    go : (b : Bool) → list_any (raises_of vendor series) ms ≡ list_any (raises series) (moves_of ms vendor)
        → ((b && raises series m.upgraded) || list_any (raises_of vendor series) ms) ≡ list_any (raises series) (cons_option (cond b (Some m.upgraded) None) (moves_of ms vendor))
    go true more = ap (λ (c : Bool). raises series m.upgraded || c) more
    go false more = more

pub version_is : (vendor : List ℕ) (series : ℕ) (ms : List Moved) (b : Bool) → b ≡ list_any (raises_of vendor series) ms → cond {A = ℕ} b 2 1 ≡ version_by (moves_of ms vendor) series
unfolding version_by
version_is vendor series ms b is = ap (λ (c : Bool). cond {A = ℕ} c 2 1) (is ∙ any_of vendor series ms)

-- the first of a vendor that is of an issuer
first_is : (vendor : List ℕ) (issuer : ℕ) (ms : List Moved)
    → option_map (λ (m : Moved). m.upgraded) (find (is_move_of vendor issuer) ms) ≡ find (λ u. u.issuer == issuer) (moves_of ms vendor)
first_is vendor issuer [] = refl
first_is vendor issuer (m ∷ ms) = go (bytes_eq m.vendor vendor) (eqb m.upgraded.issuer issuer) refl (first_is vendor issuer ms)
  where
    rest : Option Moved
    rest = find (is_move_of vendor issuer) ms

    others : Option Upgraded
    others = find (λ u. u.issuer == issuer) (moves_of ms vendor)

    go : (b t : Bool) → eqb m.upgraded.issuer issuer ≡ t → option_map (λ (n : Moved). n.upgraded) rest ≡ others
        → option_map (λ (n : Moved). n.upgraded) (cond (b && t) (Some m) rest) ≡ find (λ u. u.issuer == issuer) (cons_option (cond b (Some m.upgraded) None) (moves_of ms vendor))
    go true true is more = sym (ap (λ (c : Bool). cond c (Some m.upgraded) others) is)
    go true false is more = more ∙ sym (ap (λ (c : Bool). cond c (Some m.upgraded) others) is)
    go false t is more = more

pub upgraded_is : (vendor : List ℕ) (issuer : ℕ) (ms ns : List Moved) (o : Option Moved) → o ≡ find (is_move_of vendor issuer) ms → ms ≡ ns
    → option_map (λ (m : Moved). m.upgraded.from) o ≡ upgrade_by (moves_of ns vendor) issuer
upgraded_is vendor issuer ms ns o is same =
    twice o ∙ ap (λ (x : Option Moved). option_map (λ (u : Upgraded). u.from) (option_map (λ (m : Moved). m.upgraded) x)) (is ∙ ap (find (is_move_of vendor issuer)) same)
    ∙ ap (option_map (λ (u : Upgraded). u.from)) (first_is vendor issuer ns)
  where
    twice : (x : Option Moved) → option_map (λ (m : Moved). m.upgraded.from) x ≡ option_map (λ (u : Upgraded). u.from) (option_map (λ (m : Moved). m.upgraded) x)
    twice None = refl
    twice (Some m) = refl

-- ---- one more entry

one_more : (vendor : List ℕ) (e : Entry) → moves_of (cons_option (moved_of e) []) vendor ≡ cons_option (upgrade_of vendor e) []
one_more vendor (Upgrade m v issuer from) = refl
one_more vendor e = refl

pub moves_more : (ms : List Moved) (h : History) (e : Entry) → ((vendor : List ℕ) → moves_of ms vendor ≡ upgrades_of h vendor)
    → (vendor : List ℕ) → moves_of (ms ++ cons_option (moved_of e) []) vendor ≡ upgrades_of (h ++ e ∷ []) vendor
moves_more ms h e stands vendor =
    filter_map-append (move_of vendor) ms (cons_option (moved_of e) []) ∙ ap₂ (λ (us vs : List Upgraded). us ++ vs) (stands vendor) (one_more vendor e) ∙ sym (upgrades-more h e vendor)

-- an entry that is no Upgrade
abbrev IsOther : Record → Type 0
IsOther r = (m : ℕ) (vendor : Bor (List ℕ)) (issuer from : ℕ) → r ≡ records.Upgrade m vendor issuer from → ⊥

pub moves_same : (ms : List Moved) (h : History) (r : Record) → IsOther r → ((vendor : List ℕ) → moves_of ms vendor ≡ upgrades_of h vendor)
    → (vendor : List ℕ) → moves_of ms vendor ≡ upgrades_of (h ++ entry r ∷ []) vendor
moves_same ms h r other stands vendor = stands vendor ∙ sym (upgrades-same h (entry r) vendor (none r other))
  where
    none : (x : Record) → IsOther x → upgrade_of vendor (entry x) ≡ None
    none (records.Upgrade m v issuer from) is = absurd (is m v issuer from refl)
    none x is = refl

pub moves_free : (r : Record) → IsOther r → (h : History) → MovesAllow h (entry r)
moves_free (records.Upgrade m v issuer from) other h = absurd (other m v issuer from refl)
moves_free r other h = tt

-- ---- which issuer of a licence may be moved

module _ (h : History) (m : ℕ) (vendor : List ℕ) (issuer from : ℕ) where
  abbrev Comes : Option Issuing → Type 0
  Comes o = MatchOption o ⊥ (λ terms. epoch terms m < from)

  pub none_raised : None ≡ licence_in h vendor → MayRaise h m vendor issuer from → ⊥
  none_raised none may = subst (λ (o : Option Issuing). Comes (option_and_then (of_issuer issuer) o)) (sym none) may.coming

  pub raised_by : (terms : Issuing) (b : Bool) → IsNone (upgrade_in h vendor issuer) → Some terms ≡ licence_in h vendor → b ≡ (terms.issuer == issuer && ltb (epoch terms m) from)
      → IsTrue b ↔ MayRaise h m vendor issuer from
  raised_by terms b new stands is = (λ ok. record { new = new; coming = comes ok }, λ may. is ∙ test (eqb terms.issuer issuer) (there may))
    where
      comes : b ≡ true → Comes (option_and_then (of_issuer issuer) (licence_in h vendor))
      comes ok =
          let parts = and_parts (eqb terms.issuer issuer) (ltb (epoch terms m) from) (sym is ∙ ok) in
          let of : Comes (of_issuer issuer terms) = subst (λ (x : Bool). Comes (cond x (Some terms) None)) (sym parts.0) (ltb-true (epoch terms m) from parts.1) in
          subst (λ (o : Option Issuing). Comes (option_and_then (of_issuer issuer) o)) stands of

      there : MayRaise h m vendor issuer from → Comes (of_issuer issuer terms)
      there may = subst (λ (o : Option Issuing). Comes (option_and_then (of_issuer issuer) o)) (sym stands) may.coming

      test : (x : Bool) → Comes (cond x (Some terms) None) → (x && ltb (epoch terms m) from) ≡ true
      test true coming = lt-ltb (epoch terms m) from coming
      test false coming = absurd coming

-- ---- by which terms a broker may move an issuer

-- a licence in its ranges is of an issuer above 0
pub licence_above : (h : History) → AllByRecursion Fits h → (vendor : List ℕ) (t : Issuing) → Some t ≡ licence_in h vendor → 0 < t.issuer
licence_above [] fits vendor t is = absurd cc
licence_above (Licence m v terms ∷ es) fits vendor t is = go (bytes_eq v vendor) is (λ later. licence_above es fits.1 vendor t later)
  where
    go : (b : Bool) → Some t ≡ option_and_then licence_terms (cond b (Some (Licence m v terms)) (find (is_licence_of vendor) es)) → (Some t ≡ licence_in es vendor → 0 < t.issuer) → 0 < t.issuer
    go true same more = let low = fits.0.terms.issuer.0 in omega (arith, low, ap (λ (x : Issuing). x.issuer) (same_Some t terms same))
    go false same more = more same
licence_above (e ∷ es) fits vendor t is = licence_above es fits.1 vendor t is

abbrev picked : Bool → Bool → Bool → Option Issuing → Option Issuing → Option Issuing
picked house own broker terms licensed = cond house (cond own terms None) (cond broker licensed None)

module _ (h : History) (vendor : List ℕ) where
  pub own_issuer : bytes_eq vendor (site_name h) ≡ true → 0 ≡ moved_issuer h vendor
  own_issuer own = sym (ap (λ (b : Bool). cond b 0 (unwrap_or (option_map (λ t. t.issuer) (licence_in h vendor)) 1)) own)

  pub licensed_issuer : bytes_eq vendor (site_name h) ≡ false → (o : Option Issuing) → o ≡ licence_in h vendor → unwrap_or (option_map (λ t. t.issuer) o) 1 ≡ moved_issuer h vendor
  licensed_issuer other o is =
      ap (λ (x : Option Issuing). unwrap_or (option_map (λ t. t.issuer) x) 1) is ∙ sym (ap (λ (b : Bool). cond b 0 (unwrap_or (option_map (λ t. t.issuer) (licence_in h vendor)) 1)) other)

  pub own_terms : bytes_eq vendor (site_name h) ≡ true → upgrade_terms h vendor 0 ≡ terms_in h 0
  own_terms own = ap (λ (n : List ℕ). upgrade_terms h n 0) ((bytes_eq-Decides vendor (site_name h)).0 own) ∙ own_upgrade_terms h 0 refl

  module _ (kind : site_kind h ≡ Some BROKER_KIND) where
    vendor_not : is_vendor h ≡ false
    vendor_not = ap (λ (o : Option ℕ). unwrap_or (option_map (λ k. eqb k 0) o) false) kind

    broker_is : is_broker h ≡ true
    broker_is = ap (λ (o : Option ℕ). unwrap_or (option_map (λ k. eqb k 1) o) false) kind

    -- by the licence, where the issuer is above 0
    licensed_by : (issuer : ℕ) → 0 < issuer → upgrade_terms h vendor issuer ≡ option_and_then (of_issuer issuer) (licence_in h vendor)
    unfolding upgrade_terms
    licensed_by issuer above =
        let not_own : eqb issuer 0 ≡ false = false_from_ne_true (eqb issuer 0) (λ is. absurd (omega (arith, above, eqb-true issuer 0 is))) in
        ap₂ (λ (a b : Bool). picked (a || b) (bytes_eq vendor (site_name h)) (is_broker h) (terms_in h issuer) (option_and_then (of_issuer issuer) (licence_in h vendor))) vendor_not not_own
        ∙ ap (λ (c : Bool). picked false (bytes_eq vendor (site_name h)) c (terms_in h issuer) (option_and_then (of_issuer issuer) (licence_in h vendor))) broker_is

    pub licensed_terms : (t : Issuing) → 0 < t.issuer → Some t ≡ licence_in h vendor → Some t ≡ upgrade_terms h vendor t.issuer
    licensed_terms t above stands =
        let of : of_issuer t.issuer t ≡ Some t = ap (λ (b : Bool). cond b (Some t) None) (eq-eqb t.issuer t.issuer refl) in
        sym (licensed_by t.issuer above ∙ ap (option_and_then (of_issuer t.issuer)) (sym stands) ∙ of)

    pub no_terms : None ≡ licence_in h vendor → None ≡ upgrade_terms h vendor 1
    no_terms none = sym (licensed_by 1 (omega arith) ∙ ap (option_and_then (of_issuer 1)) (sym none))
