-- The numbers of replies that are kept.
use Rattle.std.proofs.Common.{◌≡◌, ℕ, Bool, true, false, cond, List, [], ◌∷◌, Option, Some, refl, find}
use Rattle.std.specs.Prelude.{◌&&◌, ◌||◌, ◌==◌, option_map, IsTrue}
use Rattle.std.specs.List.{list_any}
use Rattle.std.proofs.lemmas.Bool.{eq-eqb}
use Rattle.mc_requests.specs.Requests.{Asked}
use Rattle.kept_replies.specs.declared.deed.KeptEntry.{KeptEntry}
use Rattle.kept_replies.specs.Requests.{is_same_request}
use Rattle.kept_replies.specs.Kept.{KeptReply, KeptView, found, has_number, is_in_time}

or_last : (a b : Bool) → b ≡ true → (a || b) ≡ true
or_last true b is = refl
or_last false b is = is

-- the number of a reply that was found is kept
pub found_number : (kept : KeptView) (t : ℕ) (q : Asked) (n : ℕ) → Some n ≡ option_map (λ (e : KeptEntry). e.number) (found kept t q) → IsTrue (has_number kept.replies n)
found_number kept t q n e = among kept.replies e
  where
    number : Option KeptReply → Option ℕ
    number o = option_map (λ (x : KeptEntry). x.number) (option_map (λ (r : KeptReply). r.entry) o)

    asks : KeptReply → Bool
    asks r = is_same_request r.asked q && is_in_time kept.keep t r

    among : (rs : List KeptReply) → Some n ≡ number (find asks rs) → list_any (λ r. r.entry.number == n) rs ≡ true
    among [] f = absurd cc
    among (r ∷ rs) f = go (asks r) (among rs) f
      where
        go : (b : Bool) → (Some n ≡ number (find asks rs) → list_any (λ x. x.entry.number == n) rs ≡ true) → Some n ≡ number (cond b (Some r) (find asks rs))
            → ((r.entry.number == n) || list_any (λ x. x.entry.number == n) rs) ≡ true
        go true more g = let is : r.entry.number ≡ n = cc in rw (eq-eqb r.entry.number n is) refl
        go false more g = or_last (r.entry.number == n) (list_any (λ x. x.entry.number == n) rs) (more g)
