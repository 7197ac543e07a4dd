-- Crash pairs stay in order as rounds go by.
use Rattle.std.proofs.Common.{◌≡◌, inl, ⊎_elim, ℕ, List, [], ◌∷◌, ◌++◌, refl, sym, ap, ◌∙◌, append_assoc, subst, append-nil, length, length-append, arith}
use Rattle.mc_outside.specs.Bytes.{BeginsWith}
use Rattle.mc_outside.specs.DiskView.{DiskView, IsDisk, LinkKeeps, Ran}
use Rattle.mc_outside.proofs.Runs.{ran_none, ran_then, ran_weaker, ran_link}
use Rattle.mc_records.specs.Entry.{Entry}
use Rattle.ledger_model.specs.Histories.{History}
use Rattle.scrip_journal.specs.Layout.{Encodes}
use Rattle.scrip_journal.specs.Batches.{AllOrNone}
use Rattle.millicent_http.specs.Steps.{Did, sent_of, state_after}
use Rattle.millicent_http.proofs.StepLemmas.{sent_of-append, state_after-append}
use Rattle.link_turns.specs.Orders.{InOrder, MovedBy}
use Rattle.link_rounds.specs.Rounds.{steps_of, InRounds, MovedByRounds}

pub steps_of-append : {S : Type 0} (xs ys : List (List (Did S))) → steps_of (xs ++ ys) ≡ steps_of xs ++ steps_of ys
steps_of-append [] ys = refl
steps_of-append (ds ∷ xs) ys = ap (λ (l : List (Did _)). ds ++ l) (steps_of-append xs ys) ∙ sym (append_assoc ds (steps_of xs) (steps_of ys))

begins_same : (x y : List ℕ) → x ≡ y → BeginsWith x y
begins_same x y same = ([], sym same ∙ sym (append-nil x))

begins_then : (x y z : List ℕ) → BeginsWith x y → BeginsWith y z → BeginsWith x z
begins_then x y z p q = (p.0 ++ q.0, q.1 ∙ ap (λ (l : List ℕ). l ++ q.0) p.1 ∙ append_assoc x p.0 q.0)

module _ {S : Type 0} (history : S → History) where
  -- what is in order by rounds is in order by their steps
  pub rounds_in_order : (tells : Type 0) (s : S) (before : List ℕ) (rounds : List (List (Did S))) (image sent : List ℕ) → InRounds history tells s before rounds image sent → InOrder history tells s before (steps_of rounds) image sent
  rounds_in_order tells s before rounds image sent o = record {
    done = steps_of o.done;
    rest = steps_of o.rest;
    split = ap steps_of o.split ∙ steps_of-append o.done o.rest;
    more = [];
    next = inl refl;
    stands = subst (λ (h : History). Encodes h image) (sym (append-nil (history (state_after s (steps_of o.done))))) o.stands;
    began = o.began;
    part = o.part;
  }

  pub rounds_moved : (tells : Type 0) (a b : DiskView) (s : S) (rounds : List (List (Did S))) → MovedByRounds history tells a b s rounds → MovedBy history tells a b s (steps_of rounds)
  rounds_moved tells a b s rounds moved = record { aside = moved.aside; ran = ran_weaker a b _ _ moved.ran (rounds_in_order tells s a.aside rounds) }

  -- ---- one round after others

  order_earlier : (tells : Type 0) (s : S) (before : List ℕ) (xs ys : List (List (Did S))) (image sent : List ℕ) → InRounds history tells s before xs image sent → InRounds history tells s before (xs ++ ys) image sent
  order_earlier tells s before xs ys image sent o = record {
    done = o.done;
    rest = o.rest ++ ys;
    split = ap (λ (l : List (List (Did S))). l ++ ys) o.split ∙ append_assoc o.done o.rest ys;
    stands = o.stands;
    began = o.began;
    part = o.part;
  }

  sent_further : (before : List ℕ) (xs ys : List (List (Did S))) → (before ++ sent_of (steps_of xs)) ++ sent_of (steps_of ys) ≡ before ++ sent_of (steps_of (xs ++ ys))
  sent_further before xs ys =
      append_assoc before (sent_of (steps_of xs)) (sent_of (steps_of ys))
      ∙ ap (λ (l : List ℕ). before ++ l) (sym (sent_of-append (steps_of xs) (steps_of ys)))
      ∙ ap (λ (l : List (Did S)). before ++ sent_of l) (sym (steps_of-append xs ys))

  state_further : (s : S) (xs ys : List (List (Did S))) → state_after (state_after s (steps_of xs)) (steps_of ys) ≡ state_after s (steps_of (xs ++ ys))
  state_further s xs ys = sym (state_after-append s (steps_of xs) (steps_of ys)) ∙ ap (λ (l : List (Did S)). state_after s l) (sym (steps_of-append xs ys))

  order_later : (tells : Type 0) (s : S) (before between : List ℕ) (xs ys : List (List (Did S))) (image sent : List ℕ) → (tells → between ≡ before ++ sent_of (steps_of xs))
      → InRounds history tells (state_after s (steps_of xs)) between ys image sent → InRounds history tells s before (xs ++ ys) image sent
  order_later tells s before between xs ys image sent is o = record {
    done = xs ++ o.done;
    rest = o.rest;
    split = ap (λ (l : List (List (Did S))). xs ++ l) o.split ∙ sym (append_assoc xs o.done o.rest);
    stands = subst (λ (t : S). Encodes (history t) image) (state_further s xs o.done) o.stands;
    began = λ t. begins_then before between sent (sent_of (steps_of xs), is t) (o.began t);
    part = λ t. subst (λ (l : List ℕ). BeginsWith sent l) (ap (λ (l : List ℕ). l ++ sent_of (steps_of o.done)) (is t) ∙ sent_further before xs o.done) (o.part t);
  }

  pub rounds_then : (tells : Type 0) (a b c : DiskView) (s : S) (xs ys : List (List (Did S))) → MovedByRounds history tells a b s xs → MovedByRounds history tells b c (state_after s (steps_of xs)) ys → MovedByRounds history tells a c s (xs ++ ys)
  rounds_then tells a b c s xs ys first second = record {
    aside = λ t. second.aside t ∙ ap (λ (l : List ℕ). l ++ sent_of (steps_of ys)) (first.aside t) ∙ sent_further a.aside xs ys;
    ran = ran_then a b c (InRounds history tells s a.aside (xs ++ ys))
        (ran_weaker a b _ _ first.ran (order_earlier tells s a.aside xs ys))
        (ran_weaker b c _ _ second.ran (λ image sent. order_later tells s a.aside b.aside xs ys image sent first.aside));
  }

  -- nothing was done yet
  pub rounds_start : (tells : Type 0) (a : DiskView) (s : S) → IsDisk a → ((c : List ℕ) → a.leaves c → Encodes (history s) c) → MovedByRounds history tells a a s []
  rounds_start tells a s is stands = record {
    aside = λ t. sym (append-nil a.aside);
    ran = ran_none a (InRounds history tells s a.aside []) is (λ c leaves. record { done = []; rest = []; split = refl; stands = stands c leaves; began = λ t. begins_same a.aside a.aside refl; part = λ t. begins_same a.aside (a.aside ++ []) (sym (append-nil a.aside)) });
  }

  -- links worked, and sent nothing
  pub rounds_quiet : (tells : Type 0) (a b : DiskView) (s : S) → LinkKeeps a b → (tells → b.aside ≡ a.aside) → ((c : List ℕ) → a.leaves c → Encodes (history s) c) → MovedByRounds history tells a b s []
  rounds_quiet tells a b s keeps quiet stands = record {
    aside = λ t. quiet t ∙ sym (append-nil a.aside);
    ran = ran_link a b _ keeps (λ c x leaves from upto. record { done = []; rest = []; split = refl; stands = stands c leaves; began = λ t. from; part = λ t. subst (λ (l : List ℕ). BeginsWith x l) (quiet t ∙ sym (append-nil a.aside)) upto });
  }

  -- ---- one round

  -- nothing of a round is there yet: its items are received
  none_yet : (tells : Type 0) (s : S) (before : List ℕ) (ds : List (Did S)) (image sent : List ℕ) → Encodes (history s) image → (tells → sent ≡ before) → InRounds history tells s before (ds ∷ []) image sent
  none_yet tells s before ds image sent stands same = record {
    done = [];
    rest = ds ∷ [];
    split = refl;
    stands = stands;
    began = λ t. begins_same before sent (sym (same t));
    part = λ t. begins_same sent (before ++ []) (same t ∙ sym (append-nil before));
  }

  -- the round is there whole, and some of its replies were sent
  all_there : (tells : Type 0) (s : S) (before : List ℕ) (ds : List (Did S)) (image sent : List ℕ) → Encodes (history (state_after s ds)) image → (tells → BeginsWith before sent) → (tells → BeginsWith sent (before ++ sent_of ds))
      → InRounds history tells s before (ds ∷ []) image sent
  all_there tells s before ds image sent stands began part =
      let one : steps_of (ds ∷ []) ≡ ds = append-nil ds in
      record {
        done = ds ∷ [];
        rest = [];
        split = refl;
        stands = subst (λ (l : List (Did S)). Encodes (history (state_after s l)) image) (sym one) stands;
        began = began;
        part = λ t. subst (λ (l : List (Did S)). BeginsWith sent (before ++ sent_of l)) (sym one) (part t);
      }

  -- The items of a round were received, its entries were committed, all or none, and then its replies were sent, in order.
  pub round_moved : (tells : Type 0) (a b c d : DiskView) (s : S) (ds : List (Did S)) (es : List Entry) → history (state_after s ds) ≡ history s ++ es
      → LinkKeeps a b → (tells → b.aside ≡ a.aside) → Ran b c (AllOrNone (history s) es b.aside) → c.aside ≡ b.aside → LinkKeeps c d → (tells → d.aside ≡ c.aside ++ sent_of ds)
      → ((i : List ℕ) → a.leaves i → Encodes (history s) i) → ((i : List ℕ) → c.leaves i → Encodes (history s ++ es) i) → MovedByRounds history tells a d s (ds ∷ [])
  round_moved tells a b c d s ds es has keeps quiet commits still sends told before after =
      let from : tells → c.aside ≡ a.aside = λ t. still ∙ quiet t in
      let all : tells → d.aside ≡ a.aside ++ sent_of ds = λ t. told t ∙ ap (λ (l : List ℕ). l ++ sent_of ds) (from t) in
      let whole : (i : List ℕ) → Encodes (history s ++ es) i → Encodes (history (state_after s ds)) i = λ i. subst (λ (h : History). Encodes h i) (sym has) in
      record {
        aside = λ t. all t ∙ ap (λ (l : List (Did S)). a.aside ++ sent_of l) (sym (append-nil ds));
        ran = ran_then a b d (InRounds history tells s a.aside (ds ∷ []))
            (ran_link a b _ keeps (λ i x leaves began part. none_yet tells s a.aside ds i x (before i leaves) (λ t. between a.aside b.aside x began part (quiet t))))
            (ran_then b c d (InRounds history tells s a.aside (ds ∷ []))
            (ran_weaker b c _ _ commits (λ i x either. ⊎_elim
            (λ (none : Encodes (history s) i). none_yet tells s a.aside ds i x none (λ t. either.1 ∙ quiet t))
            (λ (every : Encodes (history s ++ es) i). all_there tells s a.aside ds i x (whole i every) (λ t. begins_same a.aside x (sym (either.1 ∙ quiet t))) (λ t. begins_then x a.aside (a.aside ++ sent_of ds) (begins_same x a.aside (either.1 ∙ quiet t)) (sent_of ds, refl))) either.0))
            (ran_link c d _ sends (λ i x leaves began part. all_there tells s a.aside ds i x (whole i (after i leaves))
            (λ t. subst (λ (l : List ℕ). BeginsWith l x) (from t) began) (λ t. subst (λ (l : List ℕ). BeginsWith x l) (all t) part))));
      }
    where
      empty : (r : List ℕ) → length r ≡ 0 → r ≡ []
      empty [] none = refl
      empty (y ∷ r) none = absurd (omega (arith, none))

      between : (p q x : List ℕ) → BeginsWith p x → BeginsWith x q → q ≡ p → x ≡ p
      between p q x began part same =
          let none : began.0 ≡ [] = empty began.0 (omega (arith, ap (λ (l : List ℕ). length l) began.1, ap (λ (l : List ℕ). length l) part.1, ap (λ (l : List ℕ). length l) same, length-append p began.0, length-append x part.0)) in
          began.1 ∙ ap (λ (l : List ℕ). p ++ l) none ∙ append-nil p
