-- Contents that are brought, and goods that are kept, whatever entries follow.
use Rattle.std.proofs.Common.{◌≡◌, ℕ, zero, suc, ◌<◌, ◌≤◌, Bool, true, List, [], ◌∷◌, ◌++◌, length, Option, Some, None, option_map, refl, sym, ap, ◌∙◌, slice_get, arith, ⊎_elim}
use Rattle.std.specs.Prelude.{option_and_then}
use Rattle.std.proofs.lemmas.Bool.{cases_lt, cases_eq, false≢true}
use Rattle.std.proofs.lemmas.Option.{slice_get_within}
use Rattle.kept_replies.specs.declared.deed.Deed.{Deed}
use Rattle.kept_replies.specs.declared.deed.Deed.TheVariants as kept
use Rattle.mc_records.specs.Entry.{Entry, Goods}
use Rattle.ledger_model.specs.Histories.{History}
use Rattle.ledger_model.specs.Goods.{is_goods_of}
use Rattle.ledger_model.specs.Replies.{Contents}
use Rattle.house_state.specs.Trade.{contents_in, brought_by, Replaces, IsInForce, IsKeptFrom}
use Rattle.house_state.specs.Learning.{IsGoods}

-- an element stays in its place where more follow
pub get_stays : (xs ys : History) (n : ℕ) → n < length xs → slice_get (xs ++ ys) n ≡ slice_get xs n
get_stays [] ys n lt = absurd (omega arith)
get_stays (x ∷ xs) ys zero lt = refl
get_stays (x ∷ xs) ys (suc n) lt = get_stays xs ys n (omega arith)

pub get_next : (xs ys : History) (y : Entry) → slice_get (xs ++ y ∷ ys) (length xs) ≡ Some y
get_next [] ys y = refl
get_next (x ∷ xs) ys y = get_next xs ys y

some_within : (h : History) (n : ℕ) (c : Contents) → option_and_then contents_in (slice_get h n) ≡ Some c → n < length h
some_within h n c e = go (slice_get h n) refl e
  where
    go : (o : Option Entry) → slice_get h n ≡ o → option_and_then contents_in o ≡ Some c → n < length h
    go None is f = absurd cc
    go (Some x) is f = slice_get_within h n x is

pub contents_stay : (h more : History) (deed : Deed) (c : Contents) → brought_by h deed ≡ Some c → brought_by (h ++ more) deed ≡ Some c
contents_stay h more (kept.Goods n) c e = ap (option_and_then contents_in) (get_stays h more n (some_within h n c e)) ∙ e
contents_stay h more (kept.Sale piece cert secret stock) c e = e
contents_stay h more (kept.Credit balance) c e = e
contents_stay h more (kept.Draw piece cert secret) c e = e

is_goods : (target : List ℕ) (e : Entry) → is_goods_of target e ≡ true → IsGoods e
is_goods target (Goods m at price kind contents) is = tt
is_goods target _ is = absurd (false≢true is)

pub replaces_shorter : (h more : History) (n m : ℕ) → m < length h → Replaces (h ++ more) n m → Replaces h n m
replaces_shorter h more n m within r =
    let later : n < m = r.later in
    record {
      later = later;
      target = r.target;
      replaced = ap (option_map (is_goods_of r.target)) (sym (get_stays h more n (omega arith))) ∙ r.replaced;
      replacing = ap (option_map (is_goods_of r.target)) (sym (get_stays h more m within)) ∙ r.replacing;
    }

some_is : (b : Bool) → option_map (λ (c : Bool). c) (Some b) ≡ Some true → b ≡ true
some_is b e = cc

next_is_goods : (h more : History) (e : Entry) (n m : ℕ) → m ≡ length h → Replaces (h ++ e ∷ more) n m → IsGoods e
next_is_goods h more e n m at r =
    is_goods r.target e (some_is (is_goods_of r.target e) (ap (option_map (is_goods_of r.target)) (sym (ap (slice_get (h ++ e ∷ more)) at ∙ get_next h more e)) ∙ r.replacing))

pub goods_kept : (h more : History) (e : Entry) (from n : ℕ) → IsInForce h n → (IsGoods e → ⊥) → from ≤ length h → IsKeptFrom (h ++ e ∷ more) (Some from) n
goods_kept h more e from n force other le = λ m rep.
    ⊎_elim (λ lt. absurd (force m (replaces_shorter h (e ∷ more) n m lt rep)))
    (λ past. ⊎_elim (λ at. absurd (other (next_is_goods h more e n m at rep))) (λ apart. omega (arith, le, past, apart)) (cases_eq m (length h)))
    (cases_lt m (length h))
