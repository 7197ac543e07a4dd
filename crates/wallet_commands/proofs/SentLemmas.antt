-- What was sent over all links, while a link is used for a request.
use Rattle.std.proofs.Common.{◌≡◌, ℕ, List, [], ◌∷◌, ◌++◌, take, drop, sym, ap, subst, ◌∙◌, append-nil, append_assoc, Option, Some}
use Rattle.std.specs.Prelude.{IsSome, option_map}
use Rattle.std.proofs.lemmas.List.{take-append-drop}
use Rattle.mc_outside.specs.Bytes.{BeginsWith}
use Rattle.mc_outside.specs.DiskView.{DiskView, LinkKeeps, Ran}
use Rattle.mc_outside.specs.LinkView.{Session, LinkView, on_last, send, fresh, all_sent, after_send, next_taken}
use Rattle.mc_outside.proofs.Runs.{ran_link}
use Rattle.millicent_http.proofs.AsideLemmas.{TellsAside, SentNoMore, some_of, is_there}

-- the next link was taken, and these bytes were sent on it
sent_next : (ss : List Session) (x : List ℕ) → all_sent (on_last (send x) (ss ++ fresh ∷ [])) ≡ all_sent ss ++ x
sent_next [] x = append-nil x
sent_next (s ∷ []) x = ap (λ (l : List ℕ). s.sent ++ l) (append-nil x) ∙ ap (λ (l : List ℕ). l ++ x) (sym (append-nil s.sent))
sent_next (s ∷ t ∷ ss) x = ap (λ (l : List ℕ). s.sent ++ l) (sent_next (t ∷ ss) x) ∙ sym (append_assoc s.sent (all_sent (t ∷ ss)) x)

-- ---- where what was sent is told

-- from one view to another these bytes more were sent
abbrev pub SentMore : List ℕ → LinkView → LinkView → Type 0
SentMore x v w = (ss : List Session) → v.sessions ≡ Some ss → (ts : List Session) × (w.sessions ≡ Some ts) × (all_sent ts ≡ all_sent ss ++ x)

-- none
pub more_none : (v w : LinkView) → SentNoMore v w → SentMore [] v w
more_none v w same = λ ss e. let after = same ss e in (after.0, after.1, after.2 ∙ sym (append-nil (all_sent ss)))

-- these bytes were sent on the next link
pub more_on_next : (v w : LinkView) (x : List ℕ) → w.sessions ≡ (after_send x (next_taken v)).sessions → SentMore x v w
more_on_next v w x is = λ ss e.
    (on_last (send x) (ss ++ fresh ∷ []), is ∙ ap (λ (o : Option (List Session)). option_map (on_last (send x)) (option_map (λ l. l ++ fresh ∷ []) o)) e, sent_next ss x)

-- ---- the bytes sent so far

pub still_tells : (x : List ℕ) (v w : LinkView) → SentMore x v w → IsSome v.sessions → IsSome w.sessions
still_tells x v w more told =
    let some = some_of v.sessions told in
    let after = more some.0 some.1 in
    is_there w.sessions after.0 after.1

pub aside_more : {O : Type 0} (link : O → LinkView) (disk : O → DiskView) (a b : O) (x : List ℕ) → TellsAside link (λ o. (disk o).aside) → IsSome (link a).sessions → SentMore x (link a) (link b) → (disk b).aside ≡ (disk a).aside ++ x
aside_more link disk a b x tells told more =
    let some = some_of (link a).sessions told in
    let after = more some.0 some.1 in
    tells b after.0 after.1 ∙ after.2 ∙ ap (λ (l : List ℕ). l ++ x) (sym (tells a some.0 some.1))

-- ---- first parts

pub begins_itself : (x : List ℕ) → BeginsWith x x
begins_itself x = ([], sym (append-nil x))

pub begins_then : (x y z : List ℕ) → BeginsWith x y → BeginsWith y z → BeginsWith x z
begins_then x y z p q = (p.0 ++ q.0, q.1 ∙ ap (λ (l : List ℕ). l ++ q.0) p.1 ∙ append_assoc x p.0 q.0)

pub begins_behind : (front x y : List ℕ) → BeginsWith x y → BeginsWith (front ++ x) (front ++ y)
begins_behind front x y p = (p.0, ap (λ (l : List ℕ). front ++ l) p.1 ∙ sym (append_assoc front x p.0))

pub begins_take : (n : ℕ) (x : List ℕ) → BeginsWith (take n x) x
begins_take n x = (drop n x, sym (take-append-drop n x))

-- ---- crash pairs

-- while links work and a first part of some bytes is sent
pub begun_link : {O : Type 0} (link : O → LinkView) (disk : O → DiskView) (tells : Type 0) (Q : List ℕ → Type 0) (part bytes : List ℕ) (a b : O) → TellsAside link (λ o. (disk o).aside) → LinkKeeps (disk a) (disk b)
    → (tells → IsSome (link a).sessions) → SentMore part (link a) (link b) → BeginsWith part bytes → ((c : List ℕ) → (disk a).leaves c → Q c)
    → Ran (disk a) (disk b) (λ c s. Q c × (tells → BeginsWith (disk a).aside s × BeginsWith s ((disk a).aside ++ bytes)))
begun_link link disk tells Q part bytes a b all keeps told more first q =
    ran_link (disk a) (disk b) _ keeps (λ c s l from upto. (
      q c l,
      λ t. (from, begins_then s ((disk a).aside ++ part) ((disk a).aside ++ bytes) (subst (λ (z : List ℕ). BeginsWith s z) (aside_more link disk a b part all (told t) more) upto) (begins_behind (disk a).aside part bytes first)),
    ))
