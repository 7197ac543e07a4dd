-- The contents that kept replies bring, after one more entry.
use Rattle.std.proofs.Common.{◌≡◌, ℕ, zero, suc, ◌<◌, ◌≤◌, true, false, List, [], ◌∷◌, ◌++◌, length, All, Some, None, refl, sym, ap, subst, ◌∙◌, arith, inl, inr, Ok, Err, get_or}
use Rattle.std.specs.Prelude.{option_map, slice_get}
use Rattle.std.proofs.lemmas.Bool.{cases_lt}
use Rattle.std.proofs.lemmas.List.Elements.{All-nil, All-push, All-weaker}
use Rattle.mc_records.specs.Entry.{Entry}
use Rattle.kept_replies.specs.declared.deed.Deed.{Deed}
use Rattle.kept_replies.specs.declared.deed.Deed.TheVariants as kept
use Rattle.kept_replies.specs.Kept.{KeptReply}
use Rattle.ledger_model.specs.Histories.{History}
use Rattle.ledger_model.specs.Goods.{is_goods_of}
use Rattle.ledger_model.specs.Houses.{keeping}
use Rattle.house_core.specs.BenchView.{BenchView}
use Rattle.house_state.specs.Trade.{Replaces, OfGoods, NamesInForce, TradeView}
use Rattle.house_state.specs.declared.verdict.NotAuthorized.{NotAuthorized}
use Rattle.house_state.specs.declared.verdict.NotAuthorized.TheVariants as stops
use Rattle.house_core.specs.declared.fault.BenchFault.TheVariants as faults
use Rattle.house_state.specs.Representation.{IsReply}
use Rattle.mc_requests.specs.Requests.{Asked}
use Rattle.ledger_model.specs.Answer.{Answer, answer, answered}
use Rattle.house_state.specs.Verdicts.{stop_of}
use Rattle.house_core.specs.Bench.{IsInForceFor, IsRoomed, HasContents, KeepsContents, house_time, limits_of, stopped_with}

get_before : (h : History) (e : Entry) (n : ℕ) → n < length h → slice_get (h ++ e ∷ []) n ≡ slice_get h n
get_before [] e n lt = absurd (omega arith)
get_before (x ∷ xs) e zero lt = refl
get_before (x ∷ xs) e (suc n) lt = get_before xs e n (omega (arith, lt))

get_at : (h : History) (e : Entry) → slice_get (h ++ e ∷ []) (length h) ≡ Some e
get_at [] e = refl
get_at (x ∷ xs) e = get_at xs e

get_after : (h : History) (e : Entry) (n : ℕ) → length h < n → slice_get (h ++ e ∷ []) n ≡ None
get_after [] e zero lt = absurd (omega arith)
get_after [] e (suc n) lt = refl
get_after (x ∷ xs) e zero lt = absurd (omega arith)
get_after (x ∷ xs) e (suc n) lt = get_after xs e n (omega (arith, lt))

-- an entry that puts no goods leaves what replaces what
goods_before : (h : History) (e : Entry) (target : List ℕ) (n : ℕ) → is_goods_of target e ≡ false → option_map (is_goods_of target) (slice_get (h ++ e ∷ []) n) ≡ Some true → n < length h
goods_before h e target n quiet is = elim (cases_lt n (length h)) [
  | inl lt ↦ lt
  | inr ge ↦ elim (cases_lt (length h) n) [
    | inl above ↦ absurd (let none = ap (option_map (is_goods_of target)) (get_after h e n above) in cc)
    | inr le ↦ absurd (let at : slice_get (h ++ e ∷ []) n ≡ Some e = ap (slice_get (h ++ e ∷ [])) (omega (arith, ge, le)) ∙ get_at h e in
        let now : option_map (is_goods_of target) (slice_get (h ++ e ∷ []) n) ≡ Some (is_goods_of target e) = ap (option_map (is_goods_of target)) at in cc)
  ]
]

replaces_before : (h : History) (e : Entry) (n m : ℕ) → ((target : List ℕ) → is_goods_of target e ≡ false) → Replaces (h ++ e ∷ []) n m → Replaces h n m
replaces_before h e n m quiet r =
    let n_in = goods_before h e r.target n (quiet r.target) r.replaced in
    let m_in = goods_before h e r.target m (quiet r.target) r.replacing in
    record {
      later = r.later;
      target = r.target;
      replaced = ap (option_map (is_goods_of r.target)) (sym (get_before h e n n_in)) ∙ r.replaced;
      replacing = ap (option_map (is_goods_of r.target)) (sym (get_before h e m m_in)) ∙ r.replacing;
    }

still_in_force : (h : History) (e : Entry) (number : ℕ) → ((target : List ℕ) → is_goods_of target e ≡ false) → (d : Deed) → OfGoods (λ n. (m : ℕ) → Replaces h n m → number < m) d
    → OfGoods (λ n. (m : ℕ) → Replaces (h ++ e ∷ []) n m → number < m) d
still_in_force h e number quiet (kept.Goods n) later = λ m r. later m (replaces_before h e n m quiet r)
still_in_force h e number quiet (kept.Sale piece cert secret stock) later = tt
still_in_force h e number quiet (kept.Credit balance) later = tt
still_in_force h e number quiet (kept.Draw piece cert secret) later = tt

new_in_force : (h : History) (e : Entry) (number : ℕ) → ((target : List ℕ) → is_goods_of target e ≡ false) → (d : Deed) → NamesInForce h d → OfGoods (λ n. (m : ℕ) → Replaces (h ++ e ∷ []) n m → number < m) d
new_in_force h e number quiet (kept.Goods n) in_force = λ m r. absurd (in_force.1 m (replaces_before h e n m quiet r))
new_in_force h e number quiet (kept.Sale piece cert secret stock) in_force = tt
new_in_force h e number quiet (kept.Credit balance) in_force = tt
new_in_force h e number quiet (kept.Draw piece cert secret) in_force = tt

pub held_by : (old new : ℕ → Type 0) → ((n : ℕ) → old n → new n) → (d : Deed) → OfGoods old d → OfGoods new d
held_by old new keeps (kept.Goods n) held = keeps n held
held_by old new keeps (kept.Sale piece cert secret stock) held = tt
held_by old new keeps (kept.Credit balance) held = tt
held_by old new keeps (kept.Draw piece cert secret) held = tt

-- the kept replies are the same, and the trade holds what it held
pub contents_as_before : {T : Type 0} (trade : T → TradeView) (b c : BenchView T) (h : History) → HasContents trade b h → c.state.kept.keep ≡ b.state.kept.keep → c.state.kept.replies ≡ b.state.kept.replies
    → ((n : ℕ) → (trade b.trade).holds n → (trade c.trade).holds n) → HasContents trade c h
contents_as_before trade b c h has keep same keeps = record {
  keep = has.keep ∙ sym keep;
  some = subst (λ (n : ℕ). 0 < n) (sym keep) has.some;
  in_force = subst (All (IsInForceFor h)) (sym same) has.in_force;
  held = subst (All (λ r. OfGoods (trade c.trade).holds r.entry.deed)) (sym same)
      (All-weaker (λ r. OfGoods (trade b.trade).holds r.entry.deed) (λ r. OfGoods (trade c.trade).holds r.entry.deed) (λ r. held_by (trade b.trade).holds (trade c.trade).holds keeps r.entry.deed) b.state.kept.replies has.held);
}

-- there is one reply more, of an entry that puts no goods
pub contents_taken : {T : Type 0} (trade : T → TradeView) (b c : BenchView T) (h : History) (e : Entry) (r : KeptReply) → HasContents trade b h → ((target : List ℕ) → is_goods_of target e ≡ false)
    → keeping (h ++ e ∷ []) ≡ keeping h → c.state.kept.keep ≡ b.state.kept.keep → c.state.kept.replies ≡ b.state.kept.replies ++ r ∷ [] → ((n : ℕ) → (trade b.trade).holds n → (trade c.trade).holds n) → OfGoods (trade b.trade).holds r.entry.deed → NamesInForce h r.entry.deed
    → HasContents trade c (h ++ e ∷ [])
contents_taken trade b c h e r has quiet stays keep more keeps held in_force =
    let later = All-weaker (IsInForceFor h) (IsInForceFor (h ++ e ∷ [])) (λ x. still_in_force h e x.entry.number quiet x.entry.deed) b.state.kept.replies has.in_force in
    let still = All-weaker (λ x. OfGoods (trade b.trade).holds x.entry.deed) (λ x. OfGoods (trade c.trade).holds x.entry.deed) (λ x. held_by (trade b.trade).holds (trade c.trade).holds keeps x.entry.deed) b.state.kept.replies has.held in
    record {
      keep = stays ∙ has.keep ∙ sym keep;
      some = subst (λ (n : ℕ). 0 < n) (sym keep) has.some;
      in_force = subst (All (IsInForceFor (h ++ e ∷ []))) (sym more) (All-push (IsInForceFor (h ++ e ∷ [])) b.state.kept.replies r later (new_in_force h e r.entry.number quiet r.entry.deed in_force));
      held = subst (All (λ x. OfGoods (trade c.trade).holds x.entry.deed)) (sym more) (All-push (λ x. OfGoods (trade c.trade).holds x.entry.deed) b.state.kept.replies r still (held_by (trade b.trade).holds (trade c.trade).holds keeps r.entry.deed held));
    }

-- a request that makes no entry
pub keeps_all : {T : Type 0} (trade : T → TradeView) (b : BenchView T) (h : History) (q : Asked) (s : NotAuthorized) → HasContents trade b h
    → answered (Err (stop_of s)) ≡ answer h (house_time b) (limits_of b) q → KeepsContents trade b h (answer h (house_time b) (limits_of b) q) (stopped_with s)
keeps_all trade b h q (stops.Refused f) has e = subst (λ (a : Answer). KeepsContents trade b h a (Err (faults.Refused f))) e has
keeps_all trade b h q (stops.Again n) has e = subst (λ (a : Answer). KeepsContents trade b h a (Ok n)) e has

-- ---- an entry that accepts nothing

place_before : (h : History) (e : Entry) (target : List ℕ) (n : ℕ) → option_map (is_goods_of target) (slice_get (h ++ e ∷ []) n) ≡ Some true → n ≤ length h
place_before h e target n is = elim (cases_lt (length h) n) [
  | inl above ↦ absurd (let none = ap (option_map (is_goods_of target)) (get_after h e n above) in cc)
  | inr le ↦ le
]

-- an entry may put other goods, but not before the entry of a reply that is kept
later_by : (h : History) (e : Entry) (number n m : ℕ) → number < length h → ((k : ℕ) → Replaces h n k → number < k) → Replaces (h ++ e ∷ []) n m → number < m
later_by h e number n m within later r =
    let m_in = place_before h e r.target m r.replacing in
    elim (cases_lt m (length h)) [
      | inl lt ↦ later m (record {
        later = r.later;
        target = r.target;
        replaced = ap (option_map (is_goods_of r.target)) (sym (get_before h e n (omega (arith, lt, r.later)))) ∙ r.replaced;
        replacing = ap (option_map (is_goods_of r.target)) (sym (get_before h e m lt)) ∙ r.replacing;
      })
      | inr ge ↦ omega (arith, ge, within)
    ]

in_force_by : (h : History) (e : Entry) (number : ℕ) → number < length h → (d : Deed) → OfGoods (λ n. (m : ℕ) → Replaces h n m → number < m) d → OfGoods (λ n. (m : ℕ) → Replaces (h ++ e ∷ []) n m → number < m) d
in_force_by h e number within (kept.Goods n) later = λ m r. later_by h e number n m within later r
in_force_by h e number within (kept.Sale piece cert secret stock) later = tt
in_force_by h e number within (kept.Credit balance) later = tt
in_force_by h e number within (kept.Draw piece cert secret) later = tt

pub contents_applied : {T : Type 0} (trade : T → TradeView) (b c : BenchView T) (h : History) (e : Entry) → HasContents trade b h → All (IsReply h) b.state.kept.replies → keeping (h ++ e ∷ []) ≡ keeping h → c.state.kept.keep ≡ b.state.kept.keep → c.state.kept.replies ≡ b.state.kept.replies
    → ((n : ℕ) → (trade b.trade).holds n → (trade c.trade).holds n) → HasContents trade c (h ++ e ∷ [])
contents_applied trade b c h e has replies stays keep same keeps =
    let still = contents_as_before trade b c h has keep same keeps in
    record {
      keep = stays ∙ still.keep;
      some = still.some;
      in_force = subst (All (IsInForceFor (h ++ e ∷ []))) (sym same)
          (λ k d lt. in_force_by h e (get_or b.state.kept.replies k d).entry.number (replies k d lt).within (get_or b.state.kept.replies k d).entry.deed (has.in_force k d lt));
      held = still.held;
    }

pub contents_of_none : {T : Type 0} (trade : T → TradeView) (b : BenchView T) (h : History) → keeping h ≡ b.state.kept.keep → 0 < b.state.kept.keep → b.state.kept.replies ≡ [] → HasContents trade b h
contents_of_none trade b h keep some none = record {
  keep = keep;
  some = some;
  in_force = subst (All (IsInForceFor h)) (sym none) (All-nil (IsInForceFor h));
  held = subst (All (λ r. OfGoods (trade b.trade).holds r.entry.deed)) (sym none) (All-nil (λ r. OfGoods (trade b.trade).holds r.entry.deed));
}

-- and so is a house where room was made
pub contents_roomed : {T : Type 0} (trade : T → TradeView) (b c : BenchView T) (h : History) → IsRoomed trade b c → HasContents trade b h → HasContents trade c h
contents_roomed trade b c h is has = contents_as_before trade b c h has is.state.keep is.state.replies is.held
