-- What was sent over all links, by what becomes of the links.
use Rattle.std.proofs.Common.{◌≡◌, inl, inr, ℕ, ◌+◌, List, [], ◌∷◌, ◌++◌, length, refl, sym, ap, subst, ◌∙◌, append-nil, length-append, Option, Some, None, arith}
use Rattle.std.specs.Prelude.{IsSome, IsTrue, option_map}
use Rattle.mc_outside.specs.Bytes.{BeginsWith}
use Rattle.mc_outside.specs.DiskView.{DiskView, LinkKeeps, Ran}
use Rattle.mc_outside.specs.LinkView.{Session, LinkView, IsLink, on_last, hear, ended, fresh, all_sent, after_recv, after_send, after_eof, next_taken}
use Rattle.mc_outside.proofs.Runs.{ran_link}
use Rattle.mc_outside.proofs.Sessions.{aside_grows}
use Rattle.millicent_http.specs.Inputs.{IsInput, LostInput, TakesInput, LosesInput}

pub some_of : {A : Type 0} (o : Option A) → IsSome o → (x : A) × (o ≡ Some x)
some_of None is = absurd (cc is)
some_of (Some x) is = (x, refl)

pub is_there : {A : Type 0} (o : Option A) (x : A) → o ≡ Some x → IsSome o
is_there None x is = absurd (cc is)
is_there (Some y) x is = refl

-- where the links tell what was sent, they tell it after, and no more was sent
abbrev pub SentNoMore : LinkView → LinkView → Type 0
SentNoMore v w = (ss : List Session) → v.sessions ≡ Some ss → (ts : List Session) × (w.sessions ≡ Some ts) × (all_sent ts ≡ all_sent ss)

pub no_more_then : (u v w : LinkView) → SentNoMore u v → SentNoMore v w → SentNoMore u w
no_more_then u v w first second = λ ss e. let one = first ss e in let two = second one.0 one.1 in (two.0, two.1, two.2 ∙ one.2)

-- the links taken stay as they were
pub no_more_still : (v w : LinkView) → w.sessions ≡ v.sessions → SentNoMore v w
no_more_still v w same = λ ss e. (ss, same ∙ e, refl)

maps_no_more : (f : Session → Session) → ((s : Session) → (f s).sent ≡ s.sent) → (ss : List Session) → all_sent (on_last f ss) ≡ all_sent ss
maps_no_more f same [] = refl
maps_no_more f same (s ∷ []) = ap (λ (l : List ℕ). l ++ []) (same s)
maps_no_more f same (s ∷ t ∷ ss) = ap (λ (l : List ℕ). s.sent ++ l) (maps_no_more f same (t ∷ ss))

on_last_no_more : (f : Session → Session) (v w : LinkView) → ((s : Session) → (f s).sent ≡ s.sent) → w.sessions ≡ option_map (on_last f) v.sessions → SentNoMore v w
on_last_no_more f v w same is = λ ss e. (on_last f ss, is ∙ ap (λ (o : Option (List Session)). option_map (on_last f) o) e, maps_no_more f same ss)

-- more was received
pub no_more_heard : (v w : LinkView) (x : List ℕ) → w.sessions ≡ (after_recv x v).sessions → SentNoMore v w
no_more_heard v w x is = on_last_no_more (hear x) v w (λ s. refl) is

-- the link was read to its end
pub no_more_finished : (v w : LinkView) → w.sessions ≡ (after_eof v).sessions → SentNoMore v w
no_more_finished v w is = on_last_no_more ended v w (λ s. refl) is

fresh_no_more : (ss : List Session) → all_sent (ss ++ fresh ∷ []) ≡ all_sent ss
fresh_no_more [] = refl
fresh_no_more (s ∷ ss) = ap (λ (l : List ℕ). s.sent ++ l) (fresh_no_more ss)

-- the next link was taken
pub no_more_taken : (v w : LinkView) → w ≡ next_taken v → SentNoMore v w
no_more_taken v w is = λ ss e.
    (ss ++ fresh ∷ [], ap (λ (u : LinkView). u.sessions) is ∙ ap (λ (o : Option (List Session)). option_map (λ l. l ++ fresh ∷ []) o) e, fresh_no_more ss)

-- so it is still told
pub still_told : (v w : LinkView) → SentNoMore v w → IsSome v.sessions → IsSome w.sessions
still_told v w same told' =
    let some = some_of v.sessions told' in
    let after = same some.0 some.1 in
    is_there w.sessions after.0 after.1

-- ---- an input

-- reading one sends nothing
pub input_quiet : (most : ℕ) (u v : LinkView) (input : List ℕ) → IsInput most u input v → SentNoMore u v
input_quiet most u v input (inl none) = no_more_still u v (ap (λ (x : LinkView). x.sessions) none.1)
input_quiet most u v input (inr (inl whole)) =
    no_more_then u (next_taken u) v (no_more_taken u (next_taken u) refl)
    (no_more_then (next_taken u) (after_recv input (next_taken u)) v (no_more_heard (next_taken u) (after_recv input (next_taken u)) input refl)
    (no_more_finished (after_recv input (next_taken u)) v (ap (λ (x : LinkView). x.sessions) whole.1)))
input_quiet most u v input (inr (inr long)) =
    no_more_then u (next_taken u) v (no_more_taken u (next_taken u) refl) (no_more_heard (next_taken u) v input (ap (λ (x : LinkView). x.sessions) long.1))

-- and losing it neither
pub lost_quiet : (u v : LinkView) → LostInput u v → SentNoMore u v
lost_quiet u v (inl none) = no_more_still u v (ap (λ (x : LinkView). x.sessions) none.same)
lost_quiet u v (inr (got, failed)) =
    no_more_then u (next_taken u) v (no_more_taken u (next_taken u) refl) (no_more_heard (next_taken u) v got (ap (λ (x : LinkView). x.sessions) failed.same))

pub taken_quiet : (most : Option ℕ) (u v : LinkView) (input : List ℕ) → TakesInput most u input v → SentNoMore u v
taken_quiet (Some most) u v input is = input_quiet most u v input is
taken_quiet None u v input is = no_more_still u v (ap (λ (x : LinkView). x.sessions) is.1)

pub not_taken_quiet : (most : Option ℕ) (u v : LinkView) → LosesInput most u v → SentNoMore u v
not_taken_quiet (Some most) u v lost = lost_quiet u v lost
not_taken_quiet None u v lost = absurd lost

-- ---- the bytes sent so far

-- they are those of all links
abbrev pub TellsAside : {O : Type 0} → (O → LinkView) → (O → List ℕ) → Type 0
TellsAside {O} link aside = (o : O) (ss : List Session) → (link o).sessions ≡ Some ss → aside o ≡ all_sent ss

pub aside_still : {O : Type 0} (link : O → LinkView) (aside : O → List ℕ) (a b : O) → TellsAside link aside → IsSome (link a).sessions → SentNoMore (link a) (link b) → aside b ≡ aside a
aside_still link aside a b tells told' same =
    let some = some_of (link a).sessions told' in
    let after = same some.0 some.1 in
    tells b after.0 after.1 ∙ after.2 ∙ sym (tells a some.0 some.1)

pub aside_sent : {O : Type 0} (link : O → LinkView) (aside : O → List ℕ) (a b : O) (x : List ℕ) → TellsAside link aside → IsSome (link a).sessions → IsLink (link a) → IsTrue (link a).stands
    → (link b).sessions ≡ (after_send x (link a)).sessions → aside b ≡ aside a ++ x
aside_sent link aside a b x tells told' is stands sent =
    let some = some_of (link a).sessions told' in
    aside_grows (link a) (link b) (aside a) (aside b) some.0 x is stands some.1 sent (tells a) (tells b)

-- ---- crash pairs

-- nothing before and nothing after
pub none_between : (x y : List ℕ) → BeginsWith x y → BeginsWith y x → y ≡ x
none_between x y p q =
    let longer : length y ≡ length x + length p.0 = ap length p.1 ∙ length-append x p.0 in
    let shorter : length x ≡ length y + length q.0 = ap length q.1 ∙ length-append y q.0 in
    p.1 ∙ nothing_more x p.0 (omega (arith, longer, shorter))
  where
    nothing_more : (x r : List ℕ) → length r ≡ 0 → x ++ r ≡ x
    nothing_more x [] is = append-nil x
    nothing_more x (n ∷ r) is = absurd (cc is)

-- while links work and nothing is sent
pub quiet_link : {O : Type 0} (link : O → LinkView) (disk : O → DiskView) (tells : Type 0) (Q : List ℕ → Type 0) (s0 : List ℕ) (a b : O) → TellsAside link (λ o. (disk o).aside) → LinkKeeps (disk a) (disk b)
    → (tells → IsSome (link a).sessions) → SentNoMore (link a) (link b) → (tells → (disk a).aside ≡ s0) → ((c : List ℕ) → (disk a).leaves c → Q c) → Ran (disk a) (disk b) (λ c s. Q c × (tells → s ≡ s0))
quiet_link link disk tells Q s0 a b all keeps told' none at q =
    ran_link (disk a) (disk b) _ keeps (λ c s l from upto. (
      q c l,
      λ t. none_between (disk a).aside s from (subst (λ (z : List ℕ). BeginsWith s z) (aside_still link (λ o. (disk o).aside) a b all (told' t) none) upto) ∙ at t,
    ))
