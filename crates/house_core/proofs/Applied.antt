-- What the ledger says of an entry that accepts nothing, and the house's half of what makes it lawful.
use Rattle.std.proofs.Common.{◌≡◌, ℕ, zero, suc, ◌+◌, ◌<◌, ◌≤◌, ◌^◌, Bool, true, false, cond, ◌||◌, List, [], length, Option, Some, None, refl, sym, ap, ap₂, subst, ◌∙◌, arith, eqb, bytes_eq}
use Rattle.std.specs.Prelude.{◌==◌, count_by, ◌↔◌, IsTrue, IsNone, MatchOption, option_map, unwrap_or}
use Rattle.std.proofs.lemmas.Bool.{true≢false}
use Rattle.std.proofs.lemmas.Slice.Eq.{bytes_eq-Decides}
use Rattle.scrip_form.specs.Identities.{series_of, numbered}
use Rattle.scrip_form.specs.Issuing.{Issuing, epoch, series_at}
use Rattle.scrip_form.specs.Scrip.{Scrip}
use Rattle.mc_records.specs.Entry.{Entry, Site, Accept, Mint, Draw, Upgrade, Switch, Fits, moment_of, payload}
use Rattle.mc_records.specs.Chains.{TellsChain}
use Rattle.change_issue.specs.Registers.{count_in, next_in}
use Rattle.ledger_model.specs.Histories.{History}
use Rattle.ledger_model.specs.Houses.{site_name, site_kind, is_vendor, terms_by, terms_in, upgrade_by, upgrade_in, own_series}
use Rattle.ledger_model.specs.declared.upgraded.Upgraded.{Upgraded}
use Rattle.ledger_model.specs.declared.numbers.TheConstants.{VENDOR_KIND}
use Rattle.ledger_model.specs.Stock.{upgrade_terms}
use Rattle.ledger_model.specs.Lawful.{MayUpgrade}
use Rattle.ledger_model.specs.Pieces.{first_hand, run_from, minted_pieces, own_count, next_identity}
use Rattle.ledger_model.specs.Quiet.{AcceptsNothing}
use Rattle.ledger_model.proofs.SerialLaws.{count-cons}
use Rattle.house_state.specs.Learning.{is_by_house, ByHouse, CommandFits}
use Rattle.house_state.specs.CommandEntries.{IsCommand}
use Rattle.house_state.specs.HouseState.{HouseStateView, MayMove, GoesOn, at_series, minted_count, command_growth}
use Rattle.house_state.specs.Representation.{StateRepresents}
use Rattle.house_state.proofs.Tabled.{series_stands}
use Rattle.house_state.proofs.Entering.{at_most}
use Rattle.house_core.proofs.Entered.{Says}

-- ---- entries by a command

accepts_nothing : (e : Entry) → IsCommand e → AcceptsNothing e
accepts_nothing (Site m kind name house) is = absurd is
accepts_nothing (Accept m scrip target sign price change deed) is = absurd is
accepts_nothing (Draw m target sign drawn) is = absurd is
accepts_nothing e is = record { piece = refl; handed = λ before. refl; repeats = λ keep t q. refl; price = refl; reply = λ before. refl }

-- ---- minted pieces

run_counted : (h : History) (value series c n first s : ℕ) → first ≡ numbered series c → c + n ≤ 2 ^ 32 → count_by (λ p. series_of p.id == s) (run_from h value first n) ≡ at_series series n s
run_counted h value series c zero first s is fits = go (eqb series s)
  where
    go : (b : Bool) → count_by (λ (p : Scrip). b) [] ≡ cond b 0 0
    go true = refl
    go false = refl
run_counted h value series c (suc n) first s is fits =
    let more = run_counted h value series (c + 1) n (first + 1) s (omega (arith, is)) (omega (arith, fits)) in
    let of : series_of first ≡ series = omega (arith, is, fits) in
    let one = count-cons (λ p. series_of p.id == s) (first_hand h value first) (run_from h value (first + 1) n) in
    one ∙ ap₂ (λ (a b : ℕ). a + b) (ap (λ (k : ℕ). at_series k 1 s) of) more ∙ go (eqb series s)
  where
    go : (b : Bool) → cond b 1 0 + cond b n 0 ≡ cond b (suc n) 0
    go true = omega arith
    go false = omega arith

minted_by : (h : History) (value series c n first s : ℕ) → first ≡ numbered series c → c + n ≤ 2 ^ 32 → count_by (λ p. series_of p.id == s) (run_from h value first n) ≡ at_series (series_of first) n s
minted_by h value series c zero first s is fits = run_counted h value series c zero first s is fits ∙ omega (arith, at_most series 0 s, at_most (series_of first) 0 s)
minted_by h value series c (suc n) first s is fits =
    let of : series_of first ≡ series = omega (arith, is, fits) in
    run_counted h value series c (suc n) first s is fits ∙ ap (λ (k : ℕ). at_series k (suc n) s) (sym of)

minted_counted : (h : History) (b : HouseStateView) (kind : ℕ) (e : Entry) (s : ℕ) → IsCommand e → GoesOn b kind e → b.own.most ≤ 2 ^ 32 → count_by (λ p. series_of p.id == s) (minted_pieces h e) ≡ minted_count e s
minted_counted h b k (Site m kind name house) s is on most = absurd is
minted_counted h b k (Accept m scrip target sign price change deed) s is on most = absurd is
minted_counted h b k (Mint m reference count value first) s is on most = minted_by h value (series_at b.own.terms m) (count_in b.own (series_at b.own.terms m)) count first s on.0 (omega (arith, on.1, most))
minted_counted h b k e s is on most = refl

-- ---- the house's half of what makes it lawful

abbrev Moves : HouseStateView → History → ℕ → List ℕ → ℕ → ℕ → Type 0
Moves b h m vendor issuer from = MayMove b m vendor issuer from ↔ MayUpgrade h m vendor issuer from

-- the terms by which the house moves an issuer are its own, under its own name
house_terms : (h : History) (vendor : List ℕ) (issuer : ℕ) (own : Bool) → (is_vendor h || issuer == 0) ≡ true → bytes_eq vendor (site_name h) ≡ own → upgrade_terms h vendor issuer ≡ cond own (terms_in h issuer) None
unfolding upgrade_terms
house_terms h vendor issuer own is named = rw (is, named) refl

may_move : {b : HouseStateView} {h : History} → StateRepresents b h → (kind : ℕ) → site_kind h ≡ Some kind → (m : ℕ) (vendor : List ℕ) (issuer from : ℕ) → IsTrue (is_by_house kind issuer) → Moves b h m vendor issuer from
may_move {b = b} {h = h} st kind same m vendor issuer from house = go (bytes_eq vendor (site_name h)) refl
  where
    by_vendor : (is_vendor h || issuer == 0) ≡ true
    by_vendor = ap (λ (o : Option ℕ). unwrap_or (option_map (λ k. k == VENDOR_KIND) o) false || issuer == 0) same ∙ house

    terms_are : terms_in h issuer ≡ terms_by b.terms issuer
    terms_are = ap (λ (ts : List Issuing). terms_by ts issuer) st.terms

    go : (own : Bool) → bytes_eq vendor (site_name h) ≡ own → Moves b h m vendor issuer from
    go true named =
        let name : vendor ≡ site_name h = (bytes_eq-Decides vendor (site_name h)).0 named in
        let new : upgrade_in h vendor issuer ≡ upgrade_by b.upgrades issuer = ap (λ (n : List ℕ). upgrade_in h n issuer) name ∙ ap (λ (us : List Upgraded). upgrade_by us issuer) st.upgrades in
        let terms : upgrade_terms h vendor issuer ≡ terms_by b.terms issuer = house_terms h vendor issuer true by_vendor named ∙ terms_are in (
          (λ x. record { new = subst IsNone (sym new) x.new; coming = subst (λ (o : Option Issuing). MatchOption o ⊥ (λ t. epoch t m < from)) (sym terms) x.coming }),
          (λ x. record { own = ap (bytes_eq vendor) (sym st.name) ∙ named; new = subst IsNone new x.new; coming = subst (λ (o : Option Issuing). MatchOption o ⊥ (λ t. epoch t m < from)) terms x.coming }),
        )
    go false named =
        let none : upgrade_terms h vendor issuer ≡ None = house_terms h vendor issuer false by_vendor named in (
          (λ x. absurd (true≢false (sym (ap (bytes_eq vendor) st.name ∙ x.own) ∙ named))),
          (λ x. absurd (subst (λ (o : Option Issuing). MatchOption o ⊥ (λ t. epoch t m < from)) none x.coming)),
        )

pub house_half : {b : HouseStateView} {h : History} → StateRepresents b h → (kind : ℕ) → site_kind h ≡ Some kind → (e : Entry) → IsCommand e → TellsChain h e
    → GoesOn b kind e ↔ ByHouse b.limits kind h e
house_half st kind same (Site m k name house) is tells = absurd is
house_half st kind same (Accept m scrip target sign price change deed) is tells = absurd is
house_half {b = b} {h = h} st kind same (Mint m reference count value first) is tells =
    let series : own_series h m ≡ series_at b.own.terms m = series_stands st m in
    let stand : own_count h (own_series h m) ≡ count_in b.own (series_at b.own.terms m) = ap (own_count h) series ∙ st.issued (series_at b.own.terms m) in
    let next : next_identity h (own_series h m) ≡ next_in b.own (series_at b.own.terms m) = ap₂ numbered series stand in
    (λ g. (g.0 ∙ sym next, omega (arith, g.1, stand, st.most)), λ f. (f.0 ∙ next, omega (arith, f.1, stand, st.most)))
house_half st kind same (Upgrade m vendor issuer from) is tells =
    ((λ moves house. (may_move st kind same m vendor issuer from house).0 (moves house)), (λ may house. (may_move st kind same m vendor issuer from house).1 (may house)))
house_half st kind same (Draw m target sign drawn) is tells = absurd is
house_half st kind same (Switch m c) is tells = (λ g. (st.switched ∙ g, tells), λ f. sym st.switched ∙ f.0)
house_half st kind same e is tells = (λ g. g, λ g. g)

-- ---- its ranges

pub command_fits : (e : Entry) → Fits e → CommandFits e
command_fits (Accept m scrip target sign price change deed) fits = tt
command_fits (Draw m target sign drawn) fits = tt
command_fits e fits = fits

-- ---- what it brings

-- what the ledger says of an entry by a command
pub says_command : {b : HouseStateView} {h : History} → StateRepresents b h → (e : Entry) (bytes : ℕ) → IsCommand e → moment_of e ≤ b.time → (kind : ℕ) → GoesOn b kind e → bytes ≡ length (payload e) → Says b h e (command_growth b.name e bytes)
says_command {b = b} {h = h} st e bytes command at kind goes len =
    let still = accepts_nothing e command in
    record {
      moment = at;
      paid = still.piece;
      handed = still.handed h;
      series = tt;
      repeats = λ t q later. still.repeats b.kept.keep t q;
      number = tt;
      reply = tt;
      takings = still.price;
      terms = refl;
      upgrades = refl;
      minted = λ s. minted_counted h b kind e s command goes (omega (arith, st.most, st.limits.series_most));
      payload = sym len;
      switches = refl;
    }
