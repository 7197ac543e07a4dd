-- A vendor's book: what was sold for it is its takings, and what is outstanding or lapsed beside its own change.
use Rattle.std.proofs.Common.{◌≡◌, ℕ, ◌+◌, ◌<◌, ◌≤◌, ◌^◌, Bool, true, false, cond, ◌&&◌, ◌||◌, List, [], ◌∷◌, ◌++◌, refl, sym, ap, ◌∙◌, arith, eqb, IsTrue, inl, inr}
use Rattle.std.specs.List.{list_any, AllByRecursion}
use Rattle.std.proofs.lemmas.Bool.{eqb-true, cases_lt}
use Rattle.std.proofs.lemmas.List.Sums.{sum_by-append}
use Rattle.scrip_form.specs.Scrip.{Scrip}
use Rattle.mc_requests.specs.declared.limits.Limits.{Limits}
use Rattle.ledger_model.specs.declared.numbers.TheConstants.{VENDOR_KIND}
use Rattle.ledger_model.specs.Histories.{History}
use Rattle.ledger_model.specs.Pieces.{accepted, own_out, minted}
use Rattle.ledger_model.specs.Sums.{values, takings, outstanding, lapsed}
use Rattle.ledger_model.specs.Laws.{with_id}
use Rattle.ledger_model.proofs.ListLaws.{counts_cons, counts_append}
use Rattle.ledger_model.proofs.AcceptLaws.{accepted_once, values_are_kept}
use Rattle.ledger_model.proofs.SerialLaws.{made_once}
use Rattle.ledger_model.proofs.DrawnLaws.{none_drawn}
use Rattle.audit_model.specs.Meets.{is_among, AreAmong}
use Rattle.audit_model.specs.Books.{IsBook}
use Rattle.audit_model.proofs.Meeting.{StandOnce, split, distinct_once}
use Rattle.audit_model.proofs.OwnIssuer.{own_below}

pub vendor_balances : (limits : Limits) (v : History) (sales : List Scrip) → IsBook limits VENDOR_KIND v → StandOnce (sales ++ own_out v) → AreAmong (sales ++ own_out v) (accepted v)
    → values sales ≡ takings v + outstanding (sales ++ own_out v) v + lapsed (sales ++ own_out v) v
vendor_balances limits v sales book once among =
    let handed = split v (sales ++ own_out v) once (distinct_once (accepted v) (accepted_once limits v book.lawful)) among in
    let both = sum_by-append (λ (p : Scrip). p.value) sales (own_out v) in
    omega (arith, handed, both, values_are_kept limits v book.lawful, none_drawn limits v book.lawful book.site)

-- ---- sales stand apart from change

-- an identity of which no piece can be stands nowhere
pub never : (P : Scrip → Type 0) (id : ℕ) (ps : List Scrip) → ((p : Scrip) → P p → p.id ≡ id → ⊥) → AllByRecursion P ps → with_id ps id ≡ 0
never P id [] barred all = refl
never P id (p ∷ ps) barred all = go (eqb p.id id) refl (counts_cons (λ q. eqb q.id id) p ps) (never P id ps barred all.1)
  where
    go : (b : Bool) → eqb p.id id ≡ b → with_id (p ∷ ps) id ≡ cond b 1 0 + with_id ps id → with_id ps id ≡ 0 → with_id (p ∷ ps) id ≡ 0
    go true same is ih = absurd (barred p all.0 (eqb-true p.id id same))
    go false same is ih = omega (arith, is, ih)

-- a piece that stands among others, by identity and value, is counted there
pub not_among : (ps : List Scrip) (p : Scrip) → with_id ps p.id ≡ 0 → IsTrue (is_among ps p) → ⊥
not_among [] p none among = absurd cc
not_among (q ∷ qs) p none among = go (eqb q.id p.id) (sym (counts_cons (λ x. eqb x.id p.id) q qs) ∙ none) among (not_among qs p)
  where
    go : (b : Bool) → cond b 1 0 + with_id qs p.id ≡ 0 → ((b && eqb q.value p.value) || list_any (λ x. eqb x.id p.id && eqb x.value p.value) qs) ≡ true
        → (with_id qs p.id ≡ 0 → IsTrue (is_among qs p) → ⊥) → ⊥
    go true zero any ih = absurd (omega (arith, zero))
    go false zero any ih = ih (omega (arith, zero)) any

-- The pieces that a broker sold of a vendor: licensed ones, of issuers above 0, and stock, which the vendor minted.
-- No identity stands twice among them and the vendor's own change.
pub sales_apart : (limits : Limits) (v : History) (sales licensed stock : List Scrip) → limits.series ≤ 2 ^ 32 → IsBook limits VENDOR_KIND v
    → ((id : ℕ) → with_id sales id ≡ with_id licensed id + with_id stock id)
    → StandOnce licensed → AllByRecursion (λ p. 2 ^ 56 ≤ p.id) licensed → StandOnce stock → AreAmong (minted v) stock
    → StandOnce (sales ++ own_out v)
sales_apart limits v sales licensed stock le book parts licensed_once issued stock_once minted_all id =
    let all = counts_append (λ p. eqb p.id id) sales (own_out v) in
    let made = counts_append (λ p. eqb p.id id) (own_out v) (minted v) in
    let made_at_most = made_once limits v id le book.lawful in
    let l = licensed_once id in
    let s = stock_once id in
    let low = own_below limits v le book.lawful book.fits in
    elim (cases_lt id (2 ^ 56)) [
      | inl lt ↦
          let no_licensed = never (λ p. 2 ^ 56 ≤ p.id) id licensed (λ p big is. omega (arith, lt, big, is)) issued in
          elim (cases_lt 0 (with_id (minted v) id)) [
            | inl some ↦ omega (arith, all, made, made_at_most, parts id, no_licensed, s, some)
            | inr none ↦
                let no_stock = stock_none none in
                omega (arith, all, made, made_at_most, parts id, no_licensed, no_stock)
          ]
      | inr ge ↦
          let no_own = never (λ p. p.id < 2 ^ 56) id (own_out v) (λ p small is. omega (arith, ge, small, is)) low.0 in
          let no_minted = never (λ p. p.id < 2 ^ 56) id (minted v) (λ p small is. omega (arith, ge, small, is)) low.1 in
          let no_stock = stock_none (omega (arith, no_minted)) in
          omega (arith, all, parts id, no_own, no_stock, l)
    ]
  where
    stock_none : with_id (minted v) id ≤ 0 → with_id stock id ≡ 0
    stock_none none = never (λ p. IsTrue (is_among (minted v) p)) id stock (λ p among is. not_among (minted v) p (ap (with_id (minted v)) is ∙ omega (arith, none)) among) minted_all
