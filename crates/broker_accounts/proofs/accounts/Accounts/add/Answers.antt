use Rattle.std.proofs.Common.{◌≡◌, List, ℕ, Some, cond, bytes_eq, length, arith, sym, ap, refl, ◌∙◌}
use Rattle.std.specs.Prelude.{is_some}
use Rattle.std.proofs.lemmas.Bool.{false≢true}
use Rattle.name_places.specs.NamePlaces.{place_of}
use Rattle.broker_accounts.specs.Accounts.{AccountView, AccountsView}
use Rattle.broker_accounts.proofs.AccountLaws.{some_named, none_in, none_from, no_place, stored_same, stored_push}
use Rattle.broker_accounts.proofs.accounts.Accounts.add.Goals as goal

pub returns-then-is_some-clause-taken : goal.returns-then-is_some-clause-taken
returns-then-is_some-clause-taken c =
    (λ e. some_named c.args.self.now.accounts c.place.result c.bytes.ensures.value c.place.ensures (sym c.is_some.ensures ∙ c.if-is_some.true), λ s. refl)

pub invariant_of-self : goal.invariant_of-self
invariant_of-self c =
    let items = c.self.inside.accounts.items in
    let same = ap (λ (v : AccountsView). v.accounts) c.self.view_is in
    let room = ap (λ (v : AccountsView). v.room) c.self.view_is ∙ c.requires.room in
    let none = none_from c.place.result (sym c.is_some.ensures ∙ c.if-is_some.false) in
    let number : c.len.result ≡ length items = omega (arith, c.len.ensures, c.self.inside.accounts.ok) in
    let put : (q : List ℕ) → place_of c.put.new.self q ≡ cond (bytes_eq q c.args.name.now) (Some (length items)) (place_of c.self.inside.places q) =
    λ q. c.put.ensures.places c.args.name.now room q ∙ ap (λ (n : ℕ). cond (bytes_eq q c.args.name.now) (Some n) (place_of c.self.inside.places q)) number in
    stored_same c.push_reserved.ensures.items
    (stored_push c.self.invariant c.put.ensures.room c.open.result (ap (λ (a : AccountView). a.name) c.open.ensures) (no_place same c.bytes.ensures.value c.place.ensures none) put)

pub returns-clause-taken : goal.returns-clause-taken
returns-clause-taken c =
    let none = none_in c.args.self.now.accounts c.bytes.ensures.value c.place.ensures (none_from c.place.result (sym c.is_some.ensures ∙ c.if-is_some.false)) in
    (λ e. absurd (false≢true e), λ s. absurd (false≢true (sym (ap is_some none) ∙ s)))

pub returns-clause-apart : goal.returns-clause-apart
returns-clause-apart c = (invariant_of-self c).apart
