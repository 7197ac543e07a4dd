-- The goods of a catalogue at one more entry, and once some are let go.
use Rattle.std.proofs.Common.{◌≡◌, ℕ, ◌<◌, ◌≤◌, Bool, true, false, cond, eqb, List, [], ◌∷◌, ◌++◌, length, Option, Some, None, option_map, is_some, IsTrue, refl, sym, ap, subst, ◌∙◌, inl, inr, All, slice_get, get_or, arith, append-nil, length-append, ⊎_elim, zero, suc, ap₂, drop}
use Rattle.std.specs.Prelude.{bytes_eq, option_and_then, IfSome}
use Rattle.std.specs.List.{AllPairs, Contains}
use Rattle.std.proofs.lemmas.Option.{slice_get_within, IfSome_then, same_Some}
use Rattle.std.proofs.lemmas.Bool.{cases_lt, false≢true, ltb-true, lt-ltb, eqb-true, eq-eqb}
use Rattle.std.proofs.lemmas.Slice.Eq.{bytes_eq-Decides}
use Rattle.std.proofs.lemmas.List.Elements.{All-weaker, All-push, All-tail, All-get_or, All-contains, Contains-append_left, Contains-push}
use Rattle.std.proofs.lemmas.List.Quantifiers.{all_pairs_push}
use Rattle.std.proofs.lemmas.Map.Made.{Contains-tail}
use Rattle.mc_records.specs.Entry.{Entry, Goods}
use Rattle.ledger_model.specs.Histories.{History}
use Rattle.ledger_model.specs.Goods.{is_goods_of, goods_in}
use Rattle.ledger_model.proofs.ListLaws.{get_stays, get_end}
use Rattle.house_state.specs.Trade.{Replaces, IsInForce, LiesBehind, IsKeptFrom}
use Rattle.name_places.specs.NamePlaces.{NamePlacesView, place_of}
use Rattle.vendor_core.specs.declared.edition.Article.{Article}
use Rattle.vendor_core.specs.declared.catalogue.Replaced.{Replaced}
use Rattle.vendor_core.specs.Editions.{edition_of, sold_at, goods_entry, sold_by_entry, sold_by, IsEditionOf, IsSoldAt, IsReplacement, replaced_by, may_be_brought, IsFirstNeeded, IsListed, ShowsGoods}
use Rattle.vendor_core.proofs.GoodsLaws.{BringsNoGoods, bytes_same, bytes_eq_turned, goods_snoc}
use Rattle.house_state.proofs.KeptLaws.{replaces_shorter}

-- ---- options

abbrev some_number : ℕ → Option ℕ
some_number n = Some n

abbrev some_bool : Bool → Option Bool
some_bool b = Some b

-- functions that agree where a value is, agree at it
then_same : {X Y : Type 0} (f g : X → Option Y) (P : X → Type 0) (o : Option X) → IfSome o P → ((x : X) → P x → f x ≡ g x) → option_and_then f o ≡ option_and_then g o
then_same f g P None p same = refl
then_same f g P (Some x) p same = same x p

-- ---- what replaces goods

mapped_within : {X Y : Type 0} (f : X → Y) (y : Y) (xs : List X) (n : ℕ) → option_map f (slice_get xs n) ≡ Some y → n < length xs
mapped_within {X = X} f y xs n e = go (slice_get xs n) refl e
  where
    go : (o : Option X) → slice_get xs n ≡ o → option_map f o ≡ Some y → n < length xs
    go None is e = absurd cc
    go (Some x) is e = slice_get_within xs n x is

replaced_within : (h : History) (n m : ℕ) → Replaces h n m → m < length h
replaced_within h n m r = mapped_within (is_goods_of r.target) true h m r.replacing

replaces_longer : (h more : History) (n m : ℕ) → Replaces h n m → Replaces (h ++ more) n m
replaces_longer h more n m r =
    let within : m < length h = replaced_within h n m r in
    let later : n < m = r.later in
    record {
      later = later;
      target = r.target;
      replaced = ap (option_map (is_goods_of r.target)) (get_stays h more n (omega arith)) ∙ r.replaced;
      replacing = ap (option_map (is_goods_of r.target)) (get_stays h more m within) ∙ r.replacing;
    }

-- what replaces goods in a history with one more entry stood before, or is that entry
replacing_last : (h : History) (e : Entry) (n m : ℕ) → length h ≤ m → Replaces (h ++ e ∷ []) n m → m ≡ length h
replacing_last h e n m le r = let within : m < length (h ++ e ∷ []) = replaced_within (h ++ e ∷ []) n m r in omega (arith, length-append h (e ∷ []))

-- an entry puts goods at one target
same_target : (x : Entry) (a b : List ℕ) → is_goods_of a x ≡ true → is_goods_of b x ≡ true → a ≡ b
same_target (Goods m at price kind contents) a b p q = sym ((bytes_eq-Decides at a).0 p) ∙ (bytes_eq-Decides at b).0 q
same_target _ a b p q = absurd cc

same_target_at : (o : Option Entry) (a b : List ℕ) → option_map (is_goods_of a) o ≡ Some true → option_map (is_goods_of b) o ≡ Some true → a ≡ b
same_target_at None a b p q = absurd cc
same_target_at (Some x) a b p q = same_target x a b (same_Some (is_goods_of a x) true p) (same_Some (is_goods_of b x) true q)

-- goods of a target are replaced by the last entry only where it puts goods at that target
replacing_is_goods : (h : History) (e : Entry) (target : List ℕ) (n m : ℕ) → option_map (is_goods_of target) (slice_get h n) ≡ Some true → length h ≤ m → Replaces (h ++ e ∷ []) n m
    → is_goods_of target e ≡ true
replacing_is_goods h e target n m at le r =
    let last : m ≡ length h = replacing_last h e n m le r in
    let within : n < length h = mapped_within (is_goods_of target) true h n at in
    let old : option_map (is_goods_of r.target) (slice_get h n) ≡ Some true = ap (option_map (is_goods_of r.target)) (sym (get_stays h (e ∷ []) n within)) ∙ r.replaced in
    let new : slice_get (h ++ e ∷ []) m ≡ Some e = ap (slice_get (h ++ e ∷ [])) last ∙ get_end h e in
    let put : some_bool (is_goods_of r.target e) ≡ Some true = ap (option_map (is_goods_of r.target)) (sym new) ∙ r.replacing in
    ap (λ (t : List ℕ). is_goods_of t e) (same_target_at (slice_get h n) target r.target at old) ∙ same_Some (is_goods_of r.target e) true put

-- goods in force stay so where the entry puts none at their target
in_force_stays : (h : History) (e : Entry) (target : List ℕ) (n : ℕ) → option_map (is_goods_of target) (slice_get h n) ≡ Some true → is_goods_of target e ≡ false
    → IsInForce h n → IsInForce (h ++ e ∷ []) n
in_force_stays h e target n at quiet none = λ m rep.
    ⊎_elim (λ lt. none m (replaces_shorter h (e ∷ []) n m lt rep))
    (λ le. false≢true (sym quiet ∙ replacing_is_goods h e target n m at le rep)) (cases_lt m (length h))

-- goods that were replaced stay replaced by the same entry
replacement_stays : (h : History) (e : Entry) (r : Replaced) → IsReplacement h r → IsReplacement (h ++ e ∷ []) r
replacement_stays h e r first = (
  replaces_longer h (e ∷ []) r.number r.by first.0,
  λ k rep. let before : r.by < length h = replaced_within h r.number r.by first.0 in
      ⊎_elim (λ lt. first.1 k (replaces_shorter h (e ∷ []) r.number k lt rep)) (λ le. let over : length h ≤ k = le in omega arith) (cases_lt k (length h)),
)

-- goods in force are replaced by an entry that puts goods at their target
replacement_comes : (h : History) (e : Entry) (target : List ℕ) (n : ℕ) → option_map (is_goods_of target) (slice_get h n) ≡ Some true → is_goods_of target e ≡ true
    → IsInForce h n → IsReplacement (h ++ e ∷ []) (record { number = n; by = length h })
replacement_comes h e target n at put none =
    let within : n < length h = mapped_within (is_goods_of target) true h n at in (
      record {
        later = within;
        target = target;
        replaced = ap (option_map (is_goods_of target)) (get_stays h (e ∷ []) n within) ∙ at;
        replacing = ap (option_map (is_goods_of target)) (get_end h e) ∙ ap some_bool put;
      },
      λ k rep. ⊎_elim (λ lt. absurd (none k (replaces_shorter h (e ∷ []) n k lt rep))) (λ le. le) (cases_lt k (length h)),
    )

-- the goods of the last entry are in force
last_in_force : (h : History) (e : Entry) → IsInForce (h ++ e ∷ []) (length h)
last_in_force h e = λ m rep.
    let within : m < length (h ++ e ∷ []) = replaced_within (h ++ e ∷ []) (length h) m rep in
    let later : length h < m = rep.later in
    absurd (omega (arith, length-append h (e ∷ [])))

-- ---- no goods

pub goods_none : (editions : List (ℕ × Article)) (on_sale : NamePlacesView) (replaced : List Replaced) → editions ≡ [] → ((t : List ℕ) → place_of on_sale t ≡ None) → replaced ≡ []
    → ShowsGoods editions on_sale replaced []
goods_none editions on_sale replaced none nowhere empty = record {
  of_entries = λ n. subst (λ (es : List (ℕ × Article)). IfSome (edition_of es n) (IsEditionOf [] n)) (sym none) tt;
  of_targets = λ t. subst (λ (o : Option ℕ). IfSome o (IsSoldAt [] editions t)) (sym (nowhere t)) tt;
  sells = λ t. sym (ap (λ (o : Option ℕ). option_map sold_by (option_and_then (edition_of editions) o)) (nowhere t));
  of_replaced = subst (All (IsReplacement [])) (sym empty) (λ k d within. absurd (omega (arith, within)));
  in_order = subst (AllPairs (λ (r q : Replaced). r.by < q.by)) (sym empty) (λ i j d before within. absurd (omega (arith, within)));
  listed = λ n there. absurd (false≢true (sym (ap (λ (es : List (ℕ × Article)). is_some (edition_of es n)) none) ∙ there));
}

-- ---- an entry that brings no goods

edition_stays : (h : History) (e : Entry) (n : ℕ) (w : Article) → IsEditionOf h n w → IsEditionOf (h ++ e ∷ []) n w
edition_stays h e n w of = record {
  moment = of.moment;
  target = of.target;
  entry = get_stays h (e ∷ []) n (slice_get_within h n (goods_entry of.moment of.target w) of.entry) ∙ of.entry;
}

-- what is sold at a target stays so where the entry puts no goods there, and its edition stays
sold_stays : (h : History) (e : Entry) (editions new : List (ℕ × Article)) (target : List ℕ) (n : ℕ) → is_goods_of target e ≡ false
    → (IsTrue (is_some (edition_of editions n)) → IsTrue (is_some (edition_of new n))) → IsSoldAt h editions target n → IsSoldAt (h ++ e ∷ []) new target n
sold_stays h e editions new target n quiet stays at = record {
  entry = ap (option_map (is_goods_of target)) (get_stays h (e ∷ []) n (mapped_within (is_goods_of target) true h n at.entry)) ∙ at.entry;
  in_force = in_force_stays h e target n at.entry quiet at.in_force;
  there = stays at.there;
}

pub goods_quiet : (editions : List (ℕ × Article)) (on_sale : NamePlacesView) (replaced : List Replaced) (h : History) (e : Entry) → BringsNoGoods e
    → ShowsGoods editions on_sale replaced h → ShowsGoods editions on_sale replaced (h ++ e ∷ [])
goods_quiet editions on_sale replaced h e quiet s = record {
  of_entries = λ n. IfSome_then (edition_of editions n) (s.of_entries n) (edition_stays h e n);
  of_targets = λ t. IfSome_then (place_of on_sale t) (s.of_targets t) (λ n at. sold_stays h e editions editions t n (quiet t) (λ there. there) at);
  sells = λ t. ap (option_map sold_by_entry) (goods_snoc h e t ∙ ap (λ (b : Bool). cond b (Some e) (goods_in h t)) (quiet t)) ∙ s.sells t;
  of_replaced = All-weaker (IsReplacement h) (IsReplacement (h ++ e ∷ [])) (replacement_stays h e) replaced s.of_replaced;
  in_order = s.in_order;
  listed = s.listed;
}

-- ---- the same goods, found in other places

pub goods_same : (editions new : List (ℕ × Article)) (on_sale now : NamePlacesView) (replaced : List Replaced) (h : History)
    → ((n : ℕ) → edition_of new n ≡ edition_of editions n) → ((t : List ℕ) → place_of now t ≡ place_of on_sale t)
    → ShowsGoods editions on_sale replaced h → ShowsGoods new now replaced h
goods_same editions new on_sale now replaced h same placed s = record {
  of_entries = λ n. subst (λ (o : Option Article). IfSome o (IsEditionOf h n)) (sym (same n)) (s.of_entries n);
  of_targets = λ t. subst (λ (o : Option ℕ). IfSome o (IsSoldAt h new t)) (sym (placed t)) (IfSome_then (place_of on_sale t) (s.of_targets t)
      (λ n at. record { entry = at.entry; in_force = at.in_force; there = ap is_some (same n) ∙ at.there }));
  sells = λ t. s.sells t ∙ ap (option_map sold_by) (then_same (edition_of editions) (edition_of new) (IsSoldAt h editions t) (place_of on_sale t) (s.of_targets t) (λ n at. sym (same n))
      ∙ ap (option_and_then (edition_of new)) (sym (placed t)));
  of_replaced = s.of_replaced;
  in_order = s.in_order;
  listed = λ n there. ⊎_elim (λ sold. inl (sold.0, placed sold.0 ∙ sold.1)) (λ gone. inr gone) (s.listed n (ap is_some (sym (same n)) ∙ there));
}

-- ---- a Goods entry

-- an edition that was there still is once one is put in
pub edition_still : (number : ℕ) (a : Article) (editions new : List (ℕ × Article)) → ((n : ℕ) → edition_of new n ≡ cond (eqb number n) (Some a) (edition_of editions n))
    → (n : ℕ) → IsTrue (is_some (edition_of editions n)) → IsTrue (is_some (edition_of new n))
edition_still number a editions new puts n there = ap is_some (puts n) ∙ go (eqb number n)
  where
    go : (b : Bool) → is_some (cond b (Some a) (edition_of editions n)) ≡ true
    go true = refl
    go false = there

-- and the one that is put in is there
pub edition_new : (number : ℕ) (a : Article) (editions new : List (ℕ × Article)) → ((n : ℕ) → edition_of new n ≡ cond (eqb number n) (Some a) (edition_of editions n))
    → edition_of new number ≡ Some a
edition_new number a editions new puts = puts number ∙ ap (λ (b : Bool). cond b (Some a) (edition_of editions number)) (eq-eqb number number refl)

module _ (h : History) (m number : ℕ) (target : List ℕ) (a : Article) (editions new : List (ℕ × Article)) (on_sale now : NamePlacesView) (replaced : List Replaced)
    (is_number : number ≡ length h) (puts : (n : ℕ) → edition_of new n ≡ cond (eqb number n) (Some a) (edition_of editions n))
    (names : (t : List ℕ) → place_of now t ≡ cond (bytes_eq t target) (Some number) (place_of on_sale t)) (s : ShowsGoods editions on_sale replaced h) where
  abbrev e : Entry
  e = goods_entry m target a

  still : (n : ℕ) → IsTrue (is_some (edition_of editions n)) → IsTrue (is_some (edition_of new n))
  still = edition_still number a editions new puts

  new_there : edition_of new number ≡ Some a
  new_there = edition_new number a editions new puts

  new_entry : slice_get (h ++ e ∷ []) number ≡ Some e
  new_entry = ap (slice_get (h ++ e ∷ [])) is_number ∙ get_end h e

  put_of_entries : (n : ℕ) → IfSome (edition_of new n) (IsEditionOf (h ++ e ∷ []) n)
  put_of_entries n = subst (λ (o : Option Article). IfSome o (IsEditionOf (h ++ e ∷ []) n)) (sym (puts n)) (go (eqb number n) refl)
    where
      go : (b : Bool) → eqb number n ≡ b → IfSome (cond b (Some a) (edition_of editions n)) (IsEditionOf (h ++ e ∷ []) n)
      go true is = record { moment = m; target = target; entry = ap (slice_get (h ++ e ∷ [])) (sym (eqb-true number n is)) ∙ new_entry }
      go false is = IfSome_then (edition_of editions n) (s.of_entries n) (edition_stays h e n)

  put_of_targets : (t : List ℕ) → IfSome (place_of now t) (IsSoldAt (h ++ e ∷ []) new t)
  put_of_targets t = subst (λ (o : Option ℕ). IfSome o (IsSoldAt (h ++ e ∷ []) new t)) (sym (names t)) (go (bytes_eq t target) refl)
    where
      turned : bytes_eq target t ≡ bytes_eq t target
      turned = bytes_eq_turned target t

      go : (b : Bool) → bytes_eq t target ≡ b → IfSome (cond b (Some number) (place_of on_sale t)) (IsSoldAt (h ++ e ∷ []) new t)
      go true is = record {
        entry = ap (option_map (is_goods_of t)) new_entry ∙ ap some_bool (turned ∙ is);
        in_force = subst (IsInForce (h ++ e ∷ [])) (sym is_number) (last_in_force h e);
        there = ap is_some new_there;
      }
      go false is = IfSome_then (place_of on_sale t) (s.of_targets t) (λ n at. sold_stays h e editions new t n (turned ∙ is) (still n) at)

  put_sells : (t : List ℕ) → option_map sold_by_entry (goods_in (h ++ e ∷ []) t) ≡ option_map sold_by (sold_at new now t)
  put_sells t = ap (option_map sold_by_entry) (goods_snoc h e t) ∙ go (bytes_eq t target) refl ∙ ap (λ (o : Option ℕ). option_map sold_by (option_and_then (edition_of new) o)) (sym (names t))
    where
      apart : (n : ℕ) → IsSoldAt h editions t n → edition_of editions n ≡ edition_of new n
      apart n at = sym (puts n ∙ ap (λ (b : Bool). cond b (Some a) (edition_of editions n)) (other (eqb number n) refl))
        where
          other : (b : Bool) → eqb number n ≡ b → b ≡ false
          other true is =
              let same : number ≡ n = eqb-true number n is in
              let within : n < length h = mapped_within (is_goods_of t) true h n at.entry in
              absurd (omega (arith, is_number))
          other false is = refl

      go : (b : Bool) → bytes_eq t target ≡ b
          → option_map sold_by_entry (cond (bytes_eq target t) (Some e) (goods_in h t)) ≡ option_map sold_by (option_and_then (edition_of new) (cond b (Some number) (place_of on_sale t)))
      go true is = ap (λ (c : Bool). option_map sold_by_entry (cond c (Some e) (goods_in h t))) (bytes_eq_turned target t ∙ is) ∙ sym (ap (option_map sold_by) new_there)
      go false is =
          ap (λ (c : Bool). option_map sold_by_entry (cond c (Some e) (goods_in h t))) (bytes_eq_turned target t ∙ is) ∙ s.sells t
          ∙ ap (option_map sold_by) (then_same (edition_of editions) (edition_of new) (IsSoldAt h editions t) (place_of on_sale t) (s.of_targets t) apart)

  put_of_replaced : All (IsReplacement (h ++ e ∷ [])) (replaced ++ replaced_by number (place_of on_sale target))
  put_of_replaced = go (place_of on_sale target) (s.of_targets target)
    where
      before : All (IsReplacement (h ++ e ∷ [])) replaced
      before = All-weaker (IsReplacement h) (IsReplacement (h ++ e ∷ [])) (replacement_stays h e) replaced s.of_replaced

      go : (o : Option ℕ) → IfSome o (IsSoldAt h editions target) → All (IsReplacement (h ++ e ∷ [])) (replaced ++ replaced_by number o)
      go None at = subst (All (IsReplacement (h ++ e ∷ []))) (sym (append-nil replaced)) before
      go (Some n) at =
          All-push (IsReplacement (h ++ e ∷ [])) replaced (record { number = n; by = number }) before
          (subst (λ (k : ℕ). IsReplacement (h ++ e ∷ []) (record { number = n; by = k })) (sym is_number) (replacement_comes h e target n at.entry (bytes_same target) at.in_force))

  put_in_order : AllPairs (λ r q. r.by < q.by) (replaced ++ replaced_by number (place_of on_sale target))
  put_in_order = go (place_of on_sale target)
    where
      below : (n k : ℕ) (d : Replaced) → k < length replaced → (get_or replaced k d).by < number
      below n k d lt =
          let of : IsReplacement h (get_or replaced k d) = All-get_or (IsReplacement h) replaced k d lt s.of_replaced in
          let within : (get_or replaced k d).by < length h = replaced_within h (get_or replaced k d).number (get_or replaced k d).by of.0 in
          omega (arith, within, is_number)

      go : (o : Option ℕ) → AllPairs (λ r q. r.by < q.by) (replaced ++ replaced_by number o)
      go None = subst (AllPairs (λ r q. r.by < q.by)) (sym (append-nil replaced)) s.in_order
      go (Some n) = all_pairs_push (λ (r q : Replaced). r.by < q.by) replaced (record { number = n; by = number }) s.in_order (below n)

  put_listed : (n : ℕ) → IsTrue (is_some (edition_of new n)) → IsListed now (replaced ++ replaced_by number (place_of on_sale target)) n
  put_listed n there = go (eqb number n) refl (sym (ap is_some (puts n)) ∙ there)
    where
      gone : (t : List ℕ) → bytes_eq t target ≡ true → place_of on_sale t ≡ Some n → Contains (replaced ++ replaced_by number (place_of on_sale target)) (record { number = n; by = number })
      gone t is sold =
          let same : t ≡ target = (bytes_eq-Decides t target).0 is in
          let place : place_of on_sale target ≡ Some n = ap (place_of on_sale) (sym same) ∙ sold in
          subst (λ (o : Option ℕ). Contains (replaced ++ replaced_by number o) (record { number = n; by = number })) (sym place) (Contains-push replaced (record { number = n; by = number }))

      at : (t : List ℕ) → place_of on_sale t ≡ Some n → (b : Bool) → bytes_eq t target ≡ b → IsListed now (replaced ++ replaced_by number (place_of on_sale target)) n
      at t sold true is = inr (number, gone t is sold)
      at t sold false is = inl (t, names t ∙ ap (λ (b : Bool). cond b (Some number) (place_of on_sale t)) is ∙ sold)

      go : (b : Bool) → eqb number n ≡ b → is_some (cond b (Some a) (edition_of editions n)) ≡ true → IsListed now (replaced ++ replaced_by number (place_of on_sale target)) n
      go true is some =
          let same : number ≡ n = eqb-true number n is in
          inl (target, names target ∙ ap (λ (b : Bool). cond b (Some number) (place_of on_sale target)) (bytes_same target) ∙ ap some_number same)
      go false is some = ⊎_elim (λ sold. at sold.0 sold.1 (bytes_eq sold.0 target) refl)
          (λ old. inr (old.0, Contains-append_left replaced (replaced_by number (place_of on_sale target)) (record { number = n; by = old.0 }) old.1)) (s.listed n some)

  pub goods_put : ShowsGoods new now (replaced ++ replaced_by number (place_of on_sale target)) (h ++ e ∷ [])
  goods_put = record {
    of_entries = put_of_entries;
    of_targets = put_of_targets;
    sells = put_sells;
    of_replaced = put_of_replaced;
    in_order = put_in_order;
    listed = put_listed;
  }

-- ---- what is let go

-- the first of a queue, and the rest
pub front_split : (rs rest : List Replaced) (r : Replaced) → 0 < length rs → r ≡ get_or rs 0 r → rest ≡ drop 1 rs → rs ≡ r ∷ rest
front_split [] rest r some is tail = absurd (omega (arith, some))
front_split (x ∷ xs) rest r some is tail = ap₂ (λ (y : Replaced) (ys : List Replaced). y ∷ ys) (sym is) (sym tail)

-- where nothing was replaced, nothing first is unneeded
pub none_first : (from : Option ℕ) (rs : List Replaced) → length rs ≡ 0 → IsFirstNeeded from rs
none_first from [] none = tt
none_first from (r ∷ rs) none = absurd (omega (arith, none))

behind_is : (from : Option ℕ) (m : ℕ) → LiesBehind from m → may_be_brought from m ≡ true
behind_is None m lies = absurd lies
behind_is (Some k) m lies = lt-ltb k m lies

is_behind : (from : Option ℕ) (m n : ℕ) → may_be_brought from m ≡ true → m ≤ n → LiesBehind from n
is_behind None m n e le = false≢true e
is_behind (Some k) m n e le = let lies : k < m = ltb-true k m e in omega arith

module _ (editions new : List (ℕ × Article)) (on_sale : NamePlacesView) (r : Replaced) (rest : List Replaced) (h : History)
    (takes : (n : ℕ) → edition_of new n ≡ cond (eqb r.number n) None (edition_of editions n)) (s : ShowsGoods editions on_sale (r ∷ rest) h) where
  first : IsReplacement h r
  first = s.of_replaced 0 r (omega arith)

  -- the edition of another number stays
  other_stays : (n : ℕ) → eqb r.number n ≡ false → edition_of new n ≡ edition_of editions n
  other_stays n is = takes n ∙ ap (λ (b : Bool). cond b None (edition_of editions n)) is

  -- what a target sells was not replaced
  sold_is_other : (t : List ℕ) (n : ℕ) → IsSoldAt h editions t n → eqb r.number n ≡ false
  sold_is_other t n at = go (eqb r.number n) refl
    where
      go : (b : Bool) → eqb r.number n ≡ b → b ≡ false
      go true is = absurd (at.in_force r.by (subst (λ (k : ℕ). Replaces h k r.by) (eqb-true r.number n is) first.0))
      go false is = refl

  taken_of_entries : (n : ℕ) → IfSome (edition_of new n) (IsEditionOf h n)
  taken_of_entries n = subst (λ (o : Option Article). IfSome o (IsEditionOf h n)) (sym (takes n)) (go (eqb r.number n))
    where
      go : (b : Bool) → IfSome (cond b None (edition_of editions n)) (IsEditionOf h n)
      go true = tt
      go false = s.of_entries n

  taken_listed : (n : ℕ) → IsTrue (is_some (edition_of new n)) → IsListed on_sale rest n
  taken_listed n there = go (eqb r.number n) refl (sym (ap is_some (takes n)) ∙ there)
    where
      go : (b : Bool) → eqb r.number n ≡ b → is_some (cond b None (edition_of editions n)) ≡ true → IsListed on_sale rest n
      go true is none = absurd (false≢true none)
      go false is some = ⊎_elim (λ sold. inl sold)
          (λ old. inr (old.0, Contains-tail r rest (record { number = n; by = old.0 }) (λ same. false≢true (sym is ∙ eq-eqb r.number n (ap (λ (x : Replaced). x.number) same))) old.1)) (s.listed n some)

  pub goods_taken : ShowsGoods new on_sale rest h
  goods_taken = record {
    of_entries = taken_of_entries;
    of_targets = λ t. IfSome_then (place_of on_sale t) (s.of_targets t)
        (λ n at. record { entry = at.entry; in_force = at.in_force; there = ap is_some (other_stays n (sold_is_other t n at)) ∙ at.there });
    sells = λ t. s.sells t ∙ ap (option_map sold_by) (then_same (edition_of editions) (edition_of new) (IsSoldAt h editions t) (place_of on_sale t) (s.of_targets t) (λ n at. sym (other_stays n (sold_is_other t n at))));
    of_replaced = All-tail (IsReplacement h) r rest s.of_replaced;
    in_order = λ i j d before within. s.in_order (suc i) (suc j) d (omega arith) (omega arith);
    listed = taken_listed;
  }

  -- what some reply may bring stays, where the goods that are let go are not needed
  pub kept_stays : (from : Option ℕ) (n : ℕ) → may_be_brought from r.by ≡ false → IsKeptFrom h from n → IsTrue (is_some (edition_of editions n)) → IsTrue (is_some (edition_of new n))
  kept_stays from n unneeded kept there = go (eqb r.number n) refl
    where
      go : (b : Bool) → eqb r.number n ≡ b → IsTrue (is_some (edition_of new n))
      go true is = absurd (false≢true (sym unneeded ∙ behind_is from r.by (kept r.by (subst (λ (k : ℕ). Replaces h k r.by) (eqb-true r.number n is) first.0))))
      go false is = ap is_some (other_stays n is) ∙ there

-- where the goods that were replaced first are needed, all that are there are
pub all_needed : (editions : List (ℕ × Article)) (on_sale : NamePlacesView) (replaced : List Replaced) (h : History) (from : Option ℕ) (n : ℕ) → ShowsGoods editions on_sale replaced h
    → IsFirstNeeded from replaced → IsTrue (is_some (edition_of editions n)) → IsKeptFrom h from n
all_needed editions on_sale replaced h from n s needed there = ⊎_elim (λ sold. at sold.0 sold.1) (λ old. gone old.0 old.1) (s.listed n there)
  where
    at : (t : List ℕ) → place_of on_sale t ≡ Some n → IsKeptFrom h from n
    at t sold = λ m rep. absurd ((subst (λ (o : Option ℕ). IfSome o (IsSoldAt h editions t)) sold (s.of_targets t)).in_force m rep)

    -- the first was replaced by no later entry than any other
    first_least : (rs : List Replaced) (by k : ℕ) → AllPairs (λ r q. r.by < q.by) rs → IsFirstNeeded from rs → k < length rs → (get_or rs k (record { number = n; by = by })).by ≡ by
        → (r : Replaced) × (may_be_brought from r.by ≡ true) × (r.by ≤ by)
    first_least [] by k order need within is = absurd (omega arith)
    first_least (r ∷ rs) by zero order need within is = (r, need, omega (arith, is))
    first_least (r ∷ rs) by (suc k) order need within is =
        let less : r.by < (get_or rs k (record { number = n; by = by })).by = order 0 (suc k) (record { number = n; by = by }) (omega arith) within in
        (r, need, omega (arith, less, is))

    gone : (by : ℕ) → Contains replaced (record { number = n; by = by }) → IsKeptFrom h from n
    gone by is = λ m rep.
        let of : IsReplacement h (record { number = n; by = by }) = All-contains (IsReplacement h) replaced (record { number = n; by = by }) s.of_replaced is in
        let least : by ≤ m = of.1 m rep in
        let f = first_least replaced by is.0 s.in_order needed is.1 (ap (λ (x : Replaced). x.by) is.2) in
        let le : f.0.by ≤ by = f.2 in
        is_behind from f.0.by m f.1 (omega (arith, least, le))
