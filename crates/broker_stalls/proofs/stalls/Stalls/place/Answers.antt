use Rattle.std.proofs.Common.{◌≡◌, ℕ, ◌++◌, ◌∷◌, [], List, Option, Some, None, cond, bytes_eq, length, ap, sym, subst, ◌∙◌, arith}
use Rattle.std.specs.Prelude.{is_some}
use Rattle.name_places.specs.NamePlaces.{place_of}
use Rattle.broker_stalls.specs.Stalls.{StallView}
use Rattle.broker_stalls.specs.Vendors.{AreFiled, AreAlike}
use Rattle.broker_stalls.proofs.VendorLaws.{none_from, filed_push, put_here, alike_push}
use Rattle.broker_stalls.proofs.stalls.Stalls.place.Goals as goal
use Rattle.broker_stalls.proofs.stalls.Stalls.place.Goals.{After-push_reserved}

free : (c : After-push_reserved) → place_of c.self.inside.places c.args.vendor.now ≡ None
free c = sym c.get.ensures ∙ none_from c.get.result (sym c.is_some.ensures ∙ c.if-is_some.false)

put : (c : After-push_reserved) (q : List ℕ) → place_of c.put.new.self q ≡ cond (bytes_eq q c.args.vendor.now) (Some (length c.self.inside.stalls.items)) (place_of c.self.inside.places q)
put c q =
    let number : c.len.result ≡ length c.self.inside.stalls.items = omega (arith, c.len.ensures, c.reserve.ensures.len, c.self.inside.stalls.ok) in
    c.put.ensures.places c.args.vendor.now c.in_ok-reserve-2.ensures.room q
    ∙ ap (λ (o : Option ℕ). cond (bytes_eq q c.args.vendor.now) (Some c.len.result) o) (c.reserve-2.ensures.places q)
    ∙ ap (λ (n : ℕ). cond (bytes_eq q c.args.vendor.now) (Some n) (place_of c.self.inside.places q)) number

items : (c : After-push_reserved) → c.push_reserved.new.self.items ≡ c.self.inside.stalls.items ++ c.new.result ∷ []
items c = c.push_reserved.ensures.items ∙ ap (λ (xs : List StallView). xs ++ c.new.result ∷ []) c.reserve.ensures.items

pub invariant_of-self-2 : goal.invariant_of-self-2
invariant_of-self-2 c = subst (AreFiled c.put.new.self) (sym (items c)) (filed_push c.self.inside.places c.put.new.self c.self.invariant (free c) (put c) c.new.result)

pub returns-clause-placed : goal.returns-clause-placed
returns-clause-placed c = ap is_some (put_here c.self.inside.places c.put.new.self c.self.invariant (free c) (put c))

pub returns-clause-same : goal.returns-clause-same
returns-clause-same c =
    subst (λ (xs : List StallView). AreAlike c.args.self.now (record { places = c.put.new.self; stalls = xs })) (sym (items c))
    (alike_push c.self.inside.places c.put.new.self c.self.invariant (free c) (put c) c.self.view_is c.new.result c.new.ensures)
