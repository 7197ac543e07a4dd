-- The order of a tree's brokers.
use Rattle.std.proofs.Common.{◌≡◌, Bool, List, ap}
use Rattle.std.specs.Borrow.{Bor}
use denote.Param.Members.{Mut}
use Rattle.std.specs.Fn.{Called, ComparesAs}
use Rattle.std.specs.Cmp.{IsStrictWeakOrder}
use Rattle.std.specs.Cmp.Lexicographic.{slice_cmp, nat_list_cmp_total}
use Rattle.std.specs.Ordering.{nat_cmp, is_lt}
use Rattle.std.specs.declared.cmp.Ordering.{Ordering}
use Rattle.std.specs.List.Sorted.{IsSortedBy}
use Rattle.std.proofs.lemmas.Fn.{always_returns_same}
use Rattle.std.proofs.lemmas.List.MinMax.{ranks_by}
use Rattle.relay_core.specs.declared.tree.BrokerSums.{BrokerSums}

-- what a sort ensures where each call compares the names
pub sorted_by_name : {F : Type 0} {g : Mut F (Bor BrokerSums × (Bor BrokerSums × Unit {0})) Ordering} {f : F} (xs : List BrokerSums)
    → ((lt : BrokerSums → BrokerSums → Bool) → IsStrictWeakOrder lt → ComparesAs g lt f → IsSortedBy lt xs)
    → ((a : Bor BrokerSums × (Bor BrokerSums × Unit {0})) (r : Ordering) (f' : F) → Called g f a r f' → (r ≡ slice_cmp nat_cmp a.0.now.name a.1.0.now.name) × (f' ≡ f))
    → IsSortedBy (λ a b. is_lt (slice_cmp nat_cmp a.name b.name)) xs
sorted_by_name {g = g} {f = f} xs up h =
    up (λ a b. is_lt (slice_cmp nat_cmp a.name b.name)) (ranks_by nat_list_cmp_total (λ (b : BrokerSums). b.name))
    (always_returns_same g (λ a r. is_lt r ≡ is_lt (slice_cmp nat_cmp a.0.now.name a.1.0.now.name)) f (λ a r f' k. (ap is_lt (h a r f' k).0, (h a r f' k).1)))
