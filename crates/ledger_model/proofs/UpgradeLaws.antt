-- The version of a series whose epoch has come stays as it is.
use Rattle.std.proofs.Common.{◌≡◌, ℕ, ◌/◌, ◌<◌, ◌≤◌, Bool, true, false, cond, ◌&&◌, ◌||◌, List, [], ◌∷◌, ◌++◌, Option, Some, None, refl, sym, ap, ap₂, subst, ◌∙◌, append-nil, append_assoc, arith, eqb, leb, bytes_eq, option_and_then}
use Rattle.std.specs.Prelude.{◌==◌, MatchOption}
use Rattle.std.specs.List.{list_any, cons_option}
use Rattle.std.specs.Option.{option_or}
use Rattle.std.proofs.lemmas.Bool.{eqb-true, eq-eqb, lt-leb}
use Rattle.std.proofs.lemmas.List.Elements.{filter_map-append}
use Rattle.std.proofs.lemmas.List.Folds.{list_any-append, find-append}
use Rattle.std.proofs.lemmas.Option.{same_Some}
use Rattle.std.proofs.lemmas.Slice.Eq.{bytes_eq-Decides}
use Rattle.std.proofs.Math.Nat.{le-div_iff_mul-le, div-mul-le_self}
use Rattle.scrip_form.specs.Issuing.{Issuing, epoch}
use Rattle.mc_requests.specs.declared.limits.Limits.{Limits}
use Rattle.mc_records.specs.Entry.{Entry, Site, Upgrade}
use Rattle.ledger_model.specs.declared.upgraded.Upgraded.{Upgraded}
use Rattle.ledger_model.specs.Histories.{History, time}
use Rattle.ledger_model.specs.Houses.{site_name, is_vendor, is_broker, terms_of, all_terms, terms_by, terms_in, issuer_in, epoch_in, upgrade_of, upgrades_of, raises, version_by, version}
use Rattle.ledger_model.specs.Stock.{licence_in, of_issuer, upgrade_terms}
use Rattle.ledger_model.specs.Lawful.{MayUpgrade, MayFollow, AllFollow}
use Rattle.ledger_model.proofs.StockLaws.{licence_stays}
use Rattle.ledger_model.proofs.VersionLaws.{upgrades-more, upgrades-same}

-- a later moment is of no earlier epoch
pub later_epoch : (period m n : ℕ) → 0 < period → m ≤ n → m / period ≤ n / period
later_epoch period m n some le = (le-div_iff_mul-le some).1 (omega (arith, div-mul-le_self m period, le))

-- one more Upgrade that does not raise a series
none_raised : (us : List Upgraded) (o : Option Upgraded) (series : ℕ) → ((u : Upgraded) → o ≡ Some u → raises series u ≡ false) → version_by (us ++ cons_option o []) series ≡ version_by us series
unfolding version_by
none_raised us None series none = ap (λ (xs : List Upgraded). cond {A = ℕ} (list_any (raises series) xs) 2 1) (append-nil us)
none_raised us (Some u) series none =
    ap (λ (b : Bool). cond {A = ℕ} b 2 1) (list_any-append (raises series) us (u ∷ []) ∙ ap (λ (b : Bool). list_any (raises series) us || (b || false)) (none u refl) ∙ or_none (list_any (raises series) us))
  where
    or_none : (b : Bool) → (b || (false || false)) ≡ b
    or_none true = refl
    or_none false = refl

-- an Upgrade that may follow raises no series of an epoch that has come, by the terms that it is made under
not_raised : (h : History) (m : ℕ) (vendor : List ℕ) (issuer from series : ℕ) (t : Issuing) → MayUpgrade h m vendor issuer from → upgrade_terms h vendor (issuer_in series) ≡ Some t → 0 < t.period
    → time h ≤ m → epoch_in series ≤ epoch t (time h) → raises series (record { issuer = issuer; from = from }) ≡ false
not_raised h m vendor issuer from series t may terms some le come = go (eqb issuer (issuer_in series)) refl
  where
    go : (b : Bool) → eqb issuer (issuer_in series) ≡ b → (b && leb from (epoch_in series)) ≡ false
    go false other = refl
    go true same =
        let is : upgrade_terms h vendor issuer ≡ Some t = ap (upgrade_terms h vendor) (eqb-true issuer (issuer_in series) same) ∙ terms in
        let coming : epoch t m < from = subst (λ (o : Option Issuing). MatchOption o ⊥ (λ x. epoch x m < from)) is may.coming in
        lt-leb from (epoch_in series) (omega (arith, later_epoch t.period (time h) m some le, coming, come))

pub keeps_version : (limits : Limits) (h : History) (e : Entry) (vendor : List ℕ) (series : ℕ) (t : Issuing) → MayFollow limits h e → upgrade_terms h vendor (issuer_in series) ≡ Some t → 0 < t.period
    → epoch_in series ≤ epoch t (time h) → version (h ++ e ∷ []) vendor series ≡ version h vendor series
keeps_version limits h (Upgrade m v issuer from) vendor series t may terms some come =
    ap (λ (us : List Upgraded). version_by us series) (upgrades-more h (Upgrade m v issuer from) vendor) ∙ none_raised (upgrades_of h vendor) (upgrade_of vendor (Upgrade m v issuer from)) series one
  where
    one : (u : Upgraded) → upgrade_of vendor (Upgrade m v issuer from) ≡ Some u → raises series u ≡ false
    one u is = go (bytes_eq v vendor) refl is
      where
        go : (b : Bool) → bytes_eq v vendor ≡ b → cond b (Some (record { issuer = issuer; from = from })) None ≡ Some u → raises series u ≡ false
        go false other e = absurd cc
        go true same e =
            let name : v ≡ vendor = (bytes_eq-Decides v vendor).0 same in
            subst (λ (x : Upgraded). raises series x ≡ false) (same_Some (record { issuer = issuer; from = from }) u e)
            (not_raised h m vendor issuer from series t (subst (λ (n : List ℕ). MayUpgrade h m n issuer from) name may.allowed) terms some may.in_order come)
keeps_version limits h e vendor series t may terms some come = ap (λ (us : List Upgraded). version_by us series) (upgrades-same h e vendor refl)

-- ---- and the terms that it is made under stay

picked_own : (a b c : Bool) (terms licensed : Option Issuing) → a ≡ true → b ≡ true → cond a (cond b terms None) (cond c licensed None) ≡ terms
picked_own a b c terms licensed own named = ap₂ (λ (p q : Bool). cond p (cond q terms None) (cond c licensed None)) own named

last_true : (a b : Bool) → b ≡ true → (a || b) ≡ true
last_true true b is = refl
last_true false b is = is

-- a house may move its own issuer 0 by its own terms
pub own_upgrade_terms : (h : History) (issuer : ℕ) → issuer ≡ 0 → upgrade_terms h (site_name h) issuer ≡ terms_in h issuer
unfolding upgrade_terms
own_upgrade_terms h issuer is =
    picked_own (is_vendor h || issuer == 0) (bytes_eq (site_name h) (site_name h)) (is_broker h) (terms_in h issuer) (option_and_then (of_issuer issuer) (licence_in h (site_name h)))
    (last_true (is_vendor h) (issuer == 0) (eq-eqb issuer 0 is)) ((bytes_eq-Decides (site_name h) (site_name h)).1 refl)

-- what the first entry tells
record SameSite (h k : History) : Type 0 where
  name : site_name k ≡ site_name h
  vendor : is_vendor k ≡ is_vendor h
  broker : is_broker k ≡ is_broker h

same_site : (x : Entry) (xs ys : History) → SameSite (x ∷ xs) (x ∷ ys)
same_site (Site m kind name house) xs ys = record { name = refl; vendor = refl; broker = refl }
same_site x xs ys = record { name = refl; vendor = refl; broker = refl }

own_terms_stay : (h : History) (e : Entry) (issuer : ℕ) (t : Issuing) → terms_in h issuer ≡ Some t → terms_in (h ++ e ∷ []) issuer ≡ Some t
own_terms_stay h e issuer t is =
    ap (λ (ts : List Issuing). terms_by ts issuer) (filter_map-append terms_of h (e ∷ [])) ∙ find-append (λ x. x.issuer == issuer) (all_terms h) (all_terms (e ∷ []))
    ∙ ap (λ (o : Option Issuing). option_or o (terms_by (all_terms (e ∷ [])) issuer)) is

licensed_stay : (h : History) (e : Entry) (vendor : List ℕ) (issuer : ℕ) (t : Issuing) → option_and_then (of_issuer issuer) (licence_in h vendor) ≡ Some t
    → option_and_then (of_issuer issuer) (licence_in (h ++ e ∷ []) vendor) ≡ Some t
licensed_stay h e vendor issuer t is = go (licence_in h vendor) refl is
  where
    go : (o : Option Issuing) → licence_in h vendor ≡ o → option_and_then (of_issuer issuer) o ≡ Some t → option_and_then (of_issuer issuer) (licence_in (h ++ e ∷ []) vendor) ≡ Some t
    go None f some = absurd cc
    go (Some x) f some = ap (option_and_then (of_issuer issuer)) (licence_stays h e vendor x f) ∙ some

abbrev picked : Bool → Bool → Bool → Option Issuing → Option Issuing → Option Issuing
picked house own broker terms licensed = cond house (cond own terms None) (cond broker licensed None)

abbrev by_house : History → ℕ → Bool
by_house h issuer = is_vendor h || issuer == 0

abbrev licensed : History → List ℕ → ℕ → Option Issuing
licensed h vendor issuer = option_and_then (of_issuer issuer) (licence_in h vendor)

pub upgrade_terms_stay : (h : History) (e : Entry) (vendor : List ℕ) (issuer : ℕ) (t : Issuing) → upgrade_terms h vendor issuer ≡ Some t → upgrade_terms (h ++ e ∷ []) vendor issuer ≡ Some t
unfolding upgrade_terms
upgrade_terms_stay [] e vendor issuer t is = absurd (none (issuer == 0) (bytes_eq vendor []) is)
  where
    none : (a b : Bool) → picked a b false None None ≡ Some t → ⊥
    none true true x = cc
    none true false x = cc
    none false b x = cc
upgrade_terms_stay (x ∷ xs) e vendor issuer t is = go (by_house h issuer) (bytes_eq vendor (site_name h)) (is_broker h) refl refl refl is
  where
    h : History
    h = x ∷ xs

    k : History
    k = x ∷ (xs ++ e ∷ [])

    same : SameSite h k
    same = same_site x xs (xs ++ e ∷ [])

    here : (a b c : Bool) → by_house h issuer ≡ a → bytes_eq vendor (site_name h) ≡ b → is_broker h ≡ c → upgrade_terms k vendor issuer ≡ picked a b c (terms_in k issuer) (licensed k vendor issuer)
    here a b c house own broker =
        ap₂ (λ (p q : Bool). picked p q (is_broker k) (terms_in k issuer) (licensed k vendor issuer)) (ap (λ (v : Bool). v || issuer == 0) same.vendor ∙ house) (ap (bytes_eq vendor) same.name ∙ own)
        ∙ ap (λ (q : Bool). picked a b q (terms_in k issuer) (licensed k vendor issuer)) (same.broker ∙ broker)

    go : (a b c : Bool) → by_house h issuer ≡ a → bytes_eq vendor (site_name h) ≡ b → is_broker h ≡ c → picked a b c (terms_in h issuer) (licensed h vendor issuer) ≡ Some t → upgrade_terms k vendor issuer ≡ Some t
    go true true c house own broker f = here true true c house own broker ∙ own_terms_stay h e issuer t f
    go true false c house own broker f = absurd cc
    go false b true house own broker f = here false b true house own broker ∙ licensed_stay h e vendor issuer t f
    go false b false house own broker f = absurd cc

time_later : (h : History) (e : Entry) → time h ≤ time (h ++ e ∷ [])
time_later [] e = omega arith
time_later (x ∷ xs) e = omega (arith, time_later xs e)

-- the version of a series whose epoch has come stays as it is, whatever entries may follow
pub version_stays : (limits : Limits) (h es : History) (vendor : List ℕ) (series : ℕ) (t : Issuing) → AllFollow limits h es → upgrade_terms h vendor (issuer_in series) ≡ Some t → 0 < t.period
    → epoch_in series ≤ epoch t (time h) → version (h ++ es) vendor series ≡ version h vendor series
version_stays limits h [] vendor series t follow terms some come = ap (λ (g : History). version g vendor series) (append-nil h)
version_stays limits h (e ∷ es) vendor series t follow terms some come =
    ap (λ (g : History). version g vendor series) (sym (append_assoc h (e ∷ []) es))
    ∙ version_stays limits (h ++ e ∷ []) es vendor series t follow.1 (upgrade_terms_stay h e vendor (issuer_in series) t terms) some (omega (arith, come, later_epoch t.period (time h) (time (h ++ e ∷ [])) some (time_later h e)))
    ∙ keeps_version limits h e vendor series t follow.0 terms some come
