-- Crash pairs stay in order as whoever answers goes on.
use Rattle.std.proofs.Common.{◌≡◌, ◌⊎◌, inl, inr, ⊎_elim, ℕ, List, [], ◌∷◌, ◌++◌, refl, sym, ap, ◌∙◌, append_assoc, subst, append-nil}
use Rattle.std.specs.Prelude.{IsSome, IsTrue, Bool, is_some}
use Rattle.mc_outside.specs.Bytes.{BeginsWith, Rose}
use Rattle.mc_outside.specs.DiskView.{DiskView, IsDisk, LinkKeeps, Ran}
use Rattle.mc_outside.specs.LinkView.{LinkView, IsLink, LinkGoes, after_send}
use Rattle.mc_outside.proofs.Runs.{ran_none, ran_then, ran_weaker, ran_link, ran_now}
use Rattle.mc_records.specs.Entry.{Entry}
use Rattle.ledger_model.specs.Histories.{History}
use Rattle.scrip_journal.specs.Layout.{Encodes}
use Rattle.scrip_journal.specs.Exits.{EitherNoOutput}
use Rattle.millicent_http.specs.Steps.{Did, sent_of, state_after}
use Rattle.millicent_http.proofs.StepLemmas.{sent_of-append, state_after-append}
use Rattle.millicent_http.proofs.AsideLemmas.{TellsAside, SentNoMore, aside_still, aside_sent}
use Rattle.link_turns.specs.Orders.{IsNext, InOrder, MovedBy, WentBy, IsEither, IsPart, InDoubt, HaltsAt, HaltedBy}

-- ---- bytes

begins_all : (x : List ℕ) → BeginsWith x x
begins_all x = ([], sym (append-nil x))

begins_then : (x y z : List ℕ) → BeginsWith x y → BeginsWith y z → BeginsWith x z
begins_then x y z p q = (p.0 ++ q.0, q.1 ∙ ap (λ (l : List ℕ). l ++ q.0) p.1 ∙ append_assoc x p.0 q.0)

begins_longer : (x y z : List ℕ) → BeginsWith x y → BeginsWith x (y ++ z)
begins_longer x y z p = (p.0 ++ z, ap (λ (l : List ℕ). l ++ z) p.1 ∙ append_assoc x p.0 z)

begins_same : (x y : List ℕ) → x ≡ y → BeginsWith x y
begins_same x y same = ([], sym same ∙ sym (append-nil x))

-- ---- entries

encodes_none : (h : History) (image : List ℕ) → Encodes h image → Encodes (h ++ []) image
encodes_none h image is = subst (λ (g : History). Encodes g image) (sym (append-nil h)) is

module _ {S : Type 0} (history : S → History) where
  -- ---- crash pairs

  next_earlier : (s : S) (rest ys : List (Did S)) (more : List Entry) → IsNext history s rest more → IsNext history s (rest ++ ys) more
  next_earlier s rest ys more (inl none) = inl none
  next_earlier s rest ys more (inr n) = inr (n.0, n.1 ++ ys, n.2, ap (λ (l : List (Did S)). l ++ ys) n.3, n.4)

  -- what is in order stays in order as steps are added
  order_earlier : (tells : Type 0) (s : S) (before : List ℕ) (xs ys : List (Did S)) (image sent : List ℕ) → InOrder history tells s before xs image sent → InOrder history tells s before (xs ++ ys) image sent
  order_earlier tells s before xs ys image sent o = record {
    done = o.done;
    rest = o.rest ++ ys;
    split = ap (λ (l : List (Did S)). l ++ ys) o.split ∙ append_assoc o.done o.rest ys;
    more = o.more;
    next = next_earlier (state_after s o.done) o.rest ys o.more o.next;
    stands = o.stands;
    began = o.began;
    part = o.part;
  }

  -- the bytes sent by the first steps and by the others
  sent_further : (before : List ℕ) (xs ys : List (Did S)) → (before ++ sent_of xs) ++ sent_of ys ≡ before ++ sent_of (xs ++ ys)
  sent_further before xs ys = append_assoc before (sent_of xs) (sent_of ys) ∙ ap (λ (l : List ℕ). before ++ l) (sym (sent_of-append xs ys))

  -- what is in order of later steps is in order of all
  order_later : (tells : Type 0) (s : S) (before between : List ℕ) (xs ys : List (Did S)) (image sent : List ℕ) → (tells → between ≡ before ++ sent_of xs) → InOrder history tells (state_after s xs) between ys image sent → InOrder history tells s before (xs ++ ys) image sent
  order_later tells s before between xs ys image sent is o = record {
    done = xs ++ o.done;
    rest = o.rest;
    split = ap (λ (l : List (Did S)). xs ++ l) o.split ∙ sym (append_assoc xs o.done o.rest);
    more = o.more;
    next = subst (λ (t : S). IsNext history t o.rest o.more) (sym (state_after-append s xs o.done)) o.next;
    stands = subst (λ (t : S). Encodes (history t ++ o.more) image) (sym (state_after-append s xs o.done)) o.stands;
    began = λ t. begins_then before between sent (sent_of xs, is t) (o.began t);
    part = λ t. subst (λ (l : List ℕ). BeginsWith sent l) (ap (λ (l : List ℕ). l ++ sent_of o.done) (is t) ∙ sent_further before xs o.done) (o.part t);
  }

  -- where more is told, no less is in order
  order_told : (tells told' : Type 0) (s : S) (before : List ℕ) (ds : List (Did S)) (image sent : List ℕ) → (tells → told') → InOrder history told' s before ds image sent → InOrder history tells s before ds image sent
  order_told tells told' s before ds image sent so o = record {
    done = o.done;
    rest = o.rest;
    split = o.split;
    more = o.more;
    next = o.next;
    stands = o.stands;
    began = λ t. o.began (so t);
    part = λ t. o.part (so t);
  }

  -- ---- moments of the outside

  moved_then : (tells : Type 0) (a b c : DiskView) (s : S) (xs ys : List (Did S)) → MovedBy history tells a b s xs → MovedBy history tells b c (state_after s xs) ys → MovedBy history tells a c s (xs ++ ys)
  moved_then tells a b c s xs ys first second = record {
    aside = λ t. second.aside t ∙ ap (λ (l : List ℕ). l ++ sent_of ys) (first.aside t) ∙ sent_further a.aside xs ys;
    ran = ran_then a b c (InOrder history tells s a.aside (xs ++ ys))
        (ran_weaker a b _ _ first.ran (order_earlier tells s a.aside xs ys))
        (ran_weaker b c _ _ second.ran (λ image sent. order_later tells s a.aside b.aside xs ys image sent first.aside));
  }

  moved_told : (tells told' : Type 0) (a b : DiskView) (s : S) (ds : List (Did S)) → (tells → told') → MovedBy history told' a b s ds → MovedBy history tells a b s ds
  moved_told tells told' a b s ds so moved = record {
    aside = λ t. moved.aside (so t);
    ran = ran_weaker a b _ _ moved.ran (λ image sent. order_told tells told' s a.aside ds image sent so);
  }

  -- an image of the history, when no step was taken
  order_none : (tells : Type 0) (s : S) (before : List ℕ) (image sent : List ℕ) → Encodes (history s) image → (tells → BeginsWith before sent) → (tells → BeginsWith sent (before ++ [])) → InOrder history tells s before [] image sent
  order_none tells s before image sent is began part = record {
    done = [];
    rest = [];
    split = refl;
    more = [];
    next = inl refl;
    stands = encodes_none (history s) image is;
    began = began;
    part = part;
  }

  -- nothing happened
  moved_nowhere : (tells : Type 0) (a : DiskView) (s : S) → IsDisk a → ((c : List ℕ) → a.leaves c → Encodes (history s) c) → MovedBy history tells a a s []
  moved_nowhere tells a s is stands = record {
    aside = λ t. sym (append-nil a.aside);
    ran = ran_none a (InOrder history tells s a.aside []) is (λ c leaves. order_none tells s a.aside c a.aside (stands c leaves) (λ t. begins_all a.aside) (λ t. begins_longer a.aside a.aside [] (begins_all a.aside)));
  }

  -- calls of Link that sent nothing
  moved_quiet : (tells : Type 0) (a b : DiskView) (s : S) → LinkKeeps a b → (tells → b.aside ≡ a.aside) → ((c : List ℕ) → a.leaves c → Encodes (history s) c) → MovedBy history tells a b s []
  moved_quiet tells a b s keeps same stands = record {
    aside = λ t. same t ∙ sym (append-nil a.aside);
    ran = ran_link a b (InOrder history tells s a.aside []) keeps (λ c sent leaves from upto. order_none tells s a.aside c sent (stands c leaves) (λ t. from)
        (λ t. subst (λ (l : List ℕ). BeginsWith sent l) (same t ∙ sym (append-nil a.aside)) upto));
  }

  -- calls of Link that sent a reply, or a prefix of it, when its entries were there
  moved_sent : (tells : Type 0) (a b : DiskView) (s : S) (d : Did S) → LinkKeeps a b → (tells → b.aside ≡ a.aside ++ d.sent) → ((c : List ℕ) → a.leaves c → Encodes (history d.after) c) → MovedBy history tells a b s (d ∷ [])
  moved_sent tells a b s d keeps more stands =
      let all : tells → b.aside ≡ a.aside ++ sent_of (d ∷ []) = λ t. more t ∙ ap (λ (l : List ℕ). a.aside ++ l) (sym (append-nil d.sent)) in
      record {
        aside = all;
        ran = ran_link a b (InOrder history tells s a.aside (d ∷ [])) keeps (λ c sent leaves from upto. record {
          done = d ∷ [];
          rest = [];
          split = refl;
          more = [];
          next = inl refl;
          stands = encodes_none (history d.after) c (stands c leaves);
          began = λ t. from;
          part = λ t. subst (λ (l : List ℕ). BeginsWith sent l) (all t) upto;
        });
      }

  -- an entry was written first, and then the step went on from the state that has it
  order_written : (tells : Type 0) (s u : S) (before : List ℕ) (e : Entry) (d : Did S) (others : List Entry) (image sent : List ℕ) → history u ≡ history s ++ e ∷ [] → history d.after ≡ history u ++ others
      → InOrder history tells u before (d ∷ []) image sent → InOrder history tells s before (d ∷ []) image sent
  order_written tells s u before e d others image sent has grows o = go o.done o.rest o.more o.split o.next o.stands o.began o.part
    where
      here : (more left : List Entry) → history d.after ≡ history u ++ (more ++ left) → IsNext history s (d ∷ []) (e ∷ more)
      here more left is = inr (d, [], left, refl, is ∙ ap (λ (h : History). h ++ (more ++ left)) has ∙ append_assoc (history s) (e ∷ []) (more ++ left))

      stood : (more : List Entry) → Encodes (history u ++ more) image → Encodes (history s ++ (e ∷ more)) image
      stood more is = subst (λ (h : History). Encodes h image) (ap (λ (h : History). h ++ more) has ∙ append_assoc (history s) (e ∷ []) more) is

      with_more : (more left : List Entry) → history d.after ≡ history u ++ (more ++ left) → Encodes (history u ++ more) image → (tells → BeginsWith before sent) → (tells → BeginsWith sent (before ++ []))
          → InOrder history tells s before (d ∷ []) image sent
      with_more more left is stands began part = record { done = []; rest = d ∷ []; split = refl; more = e ∷ more; next = here more left is; stands = stood more stands; began = began; part = part }

      none_more : (more : List Entry) → more ≡ [] → history d.after ≡ history u ++ (more ++ others)
      none_more more none = grows ∙ ap (λ (l : List Entry). history u ++ (l ++ others)) (sym none)

      first_is : (x : Did S) (xs : List (Did S)) → d ∷ [] ≡ x ∷ xs → d ≡ x
      first_is x xs is = cc is

      go : (done rest : List (Did S)) (more : List Entry) → d ∷ [] ≡ done ++ rest → IsNext history (state_after u done) rest more → Encodes (history (state_after u done) ++ more) image → (tells → BeginsWith before sent)
          → (tells → BeginsWith sent (before ++ sent_of done)) → InOrder history tells s before (d ∷ []) image sent
      go [] rest more split (inl none) stands began part = with_more more others (none_more more none) stands began part
      go [] rest more split (inr n) stands began part =
          let same : d ≡ n.0 = first_is n.0 n.1 (split ∙ n.3) in
          with_more more n.2 (ap (λ (x : Did S). history x.after) same ∙ n.4) stands began part
      go (x ∷ xs) rest more split next stands began part = record { done = x ∷ xs; rest = rest; split = split; more = more; next = next; stands = stands; began = began; part = part }

  -- while it was written, nothing was sent
  order_either : (tells : Type 0) (s u : S) (before : List ℕ) (e : Entry) (d : Did S) (others : List Entry) (image sent : List ℕ) → history u ≡ history s ++ e ∷ [] → history d.after ≡ history u ++ others
      → EitherNoOutput (history s) e before image sent → InOrder history tells s before (d ∷ []) image sent
  order_either tells s u before e d others image sent has grows quiet =
      let from : tells → BeginsWith before sent = λ t. ([], quiet.1 ∙ sym (append-nil before)) in
      let upto : tells → BeginsWith sent (before ++ []) = λ t. begins_longer sent before [] (begins_same sent before quiet.1) in
      ⊎_elim
      (λ (without : Encodes (history s) image). record { done = []; rest = d ∷ []; split = refl; more = []; next = inl refl; stands = encodes_none (history s) image without; began = from; part = upto })
      (λ (with' : Encodes (history s ++ e ∷ []) image). record {
        done = [];
        rest = d ∷ [];
        split = refl;
        more = e ∷ [];
        next = inr (d, [], others, refl, grows ∙ ap (λ (h : History). h ++ others) has ∙ append_assoc (history s) (e ∷ []) others);
        stands = with';
        began = from;
        part = upto;
      }) quiet.0

  moved_written : (tells : Type 0) (a b c : DiskView) (s u : S) (e : Entry) (d : Did S) (others : List Entry) → history u ≡ history s ++ e ∷ [] → history d.after ≡ history u ++ others
      → Ran a b (EitherNoOutput (history s) e a.aside) → b.aside ≡ a.aside → MovedBy history tells b c u (d ∷ []) → MovedBy history tells a c s (d ∷ [])
  moved_written tells a b c s u e d others has grows written same moved = record {
    aside = λ t. moved.aside t ∙ ap (λ (l : List ℕ). l ++ sent_of (d ∷ [])) same;
    ran = ran_then a b c (InOrder history tells s a.aside (d ∷ []))
        (ran_weaker a b _ _ written (λ i x quiet. order_either tells s u a.aside e d others i x has grows quiet))
        (ran_weaker b c _ _ moved.ran (λ i x o. order_written tells s u a.aside e d others i x has grows (subst (λ (l : List ℕ). InOrder history tells u l (d ∷ []) i x) same o)));
  }

  -- ---- from another state with the same history

  order_from : (tells : Type 0) (s t : S) → history s ≡ history t → (before : List ℕ) (d : Did S) (ds : List (Did S)) (image sent : List ℕ) → InOrder history tells t before (d ∷ ds) image sent → InOrder history tells s before (d ∷ ds) image sent
  order_from tells s t same before d ds image sent o = go o.done o.split o.next o.stands o.part
    where
      go : (done : List (Did S)) → d ∷ ds ≡ done ++ o.rest → IsNext history (state_after t done) o.rest o.more → Encodes (history (state_after t done) ++ o.more) image → (tells → BeginsWith sent (before ++ sent_of done))
          → InOrder history tells s before (d ∷ ds) image sent
      go [] split next stands part = record {
        done = [];
        rest = o.rest;
        split = split;
        more = o.more;
        next = next_from next;
        stands = subst (λ (h : History). Encodes (h ++ o.more) image) (sym same) stands;
        began = o.began;
        part = part;
      }
        where
          next_from : IsNext history t o.rest o.more → IsNext history s o.rest o.more
          next_from (inl none) = inl none
          next_from (inr n) = inr (n.0, n.1, n.2, n.3, n.4 ∙ ap (λ (h : History). h ++ (o.more ++ n.2)) (sym same))
      go (x ∷ xs) split next stands part = record { done = x ∷ xs; rest = o.rest; split = split; more = o.more; next = next; stands = stands; began = o.began; part = part }

  moved_from : (tells : Type 0) (a b : DiskView) (s t : S) (d : Did S) (ds : List (Did S)) → history s ≡ history t → MovedBy history tells a b t (d ∷ ds) → MovedBy history tells a b s (d ∷ ds)
  moved_from tells a b s t d ds same moved = record {
    aside = moved.aside;
    ran = ran_weaker a b _ _ moved.ran (order_from tells s t same a.aside d ds);
  }

-- ---- who answers

module _ {O X S : Type 0} (link : O → LinkView) (disk : O → DiskView) (out : X → O) (Stands : X → S → Type 0) (history : S → History) (leaves : (x : X) (s : S) → Stands x s → (c : List ℕ) → (disk (out x)).leaves c → Encodes (history s) c) (all : TellsAside link (λ o. (disk o).aside)) where
  -- where the links told what was sent, they still tell it
  pub told_on : (a : O) (s : S) (xs : List (Did S)) (x : X) → WentBy link disk out Stands history a s xs x → IsSome (link a).sessions → IsSome (link (out x)).sessions
  told_on a s xs x went told' = subst (λ (b : Bool). IsTrue b) (sym went.tells) told'

  -- no step was taken
  pub went_nowhere : (x : X) (s : S) → IsDisk (disk (out x)) → Stands x s → WentBy link disk out Stands history (out x) s [] x
  went_nowhere x s is st = record {
    stands = st;
    tells = refl;
    faults = refl;
    moved = moved_nowhere history _ (disk (out x)) s is (leaves x s st);
  }

  -- steps, and others after them
  pub went_on : (a : O) (s : S) (xs ys : List (Did S)) (x y : X) → WentBy link disk out Stands history a s xs x → WentBy link disk out Stands history (out x) (state_after s xs) ys y → WentBy link disk out Stands history a s (xs ++ ys) y
  went_on a s xs ys x y first second = record {
    stands = subst (λ (t : S). Stands y t) (sym (state_after-append s xs ys)) second.stands;
    tells = second.tells ∙ first.tells;
    faults = second.faults ∙ first.faults;
    moved = moved_then history _ (disk a) (disk (out x)) (disk (out y)) s xs ys first.moved
        (moved_told history (IsSome (link a).sessions) (IsSome (link (out x)).sessions) (disk (out x)) (disk (out y)) (state_after s xs) ys (told_on a s xs x first) second.moved);
  }

  -- links did what sends nothing
  pub went_quiet : (x y : X) (s t : S) → history t ≡ history s → Stands x s → LinkKeeps (disk (out x)) (disk (out y)) → LinkGoes (link (out x)) (link (out y)) → Stands y t → SentNoMore (link (out x)) (link (out y)) → WentBy link disk out Stands history (out x) t [] y
  went_quiet x y s t same st keeps goes after quiet = record {
    stands = after;
    tells = goes.tells;
    faults = keeps.faults;
    moved = moved_quiet history _ (disk (out x)) (disk (out y)) t keeps (λ told'. aside_still link (λ o. (disk o).aside) (out x) (out y) all told' quiet)
        (λ c l. subst (λ (h : History). Encodes h c) (sym same) (leaves x s st c l));
  }

  -- a reply was sent, or a prefix of it, when what it speaks of was there
  pub went_sent : (x y : X) (s : S) (d : Did S) → IsLink (link (out x)) → IsTrue (link (out x)).stands → Stands x d.after → Stands y d.after → LinkKeeps (disk (out x)) (disk (out y)) → LinkGoes (link (out x)) (link (out y))
      → (link (out y)).sessions ≡ (after_send d.sent (link (out x))).sessions → WentBy link disk out Stands history (out x) s (d ∷ []) y
  went_sent x y s d is on st after keeps goes sent = record {
    stands = after;
    tells = goes.tells;
    faults = keeps.faults;
    moved = moved_sent history _ (disk (out x)) (disk (out y)) s d keeps
        (λ told'. aside_sent link (λ o. (disk o).aside) (out x) (out y) d.sent all told' is on sent) (leaves x d.after st);
  }

  -- an entry was written, and then the item was answered from the state that has it
  pub went_written : (a b : O) (s u : S) (e : Entry) (d : Did S) (others : List Entry) (z : X) → history u ≡ history s ++ e ∷ [] → history d.after ≡ history u ++ others → Ran (disk a) (disk b) (EitherNoOutput (history s) e (disk a).aside)
      → (disk b).aside ≡ (disk a).aside → (disk b).faults ≡ (disk a).faults → link b ≡ link a → WentBy link disk out Stands history b u (d ∷ []) z → WentBy link disk out Stands history a s (d ∷ []) z
  went_written a b s u e d others z has grows written quiet calm same went =
      let tells_same : is_some (link b).sessions ≡ is_some (link a).sessions = ap (λ (v : LinkView). is_some v.sessions) same in
      record {
        stands = went.stands;
        tells = went.tells ∙ tells_same;
        faults = went.faults ∙ calm;
        moved = moved_written history _ (disk a) (disk b) (disk (out z)) s u e d others has grows written quiet
            (moved_told history (IsSome (link a).sessions) (IsSome (link b).sessions) (disk b) (disk (out z)) u (d ∷ []) (λ told'. subst (λ (o : Bool). IsTrue o) (sym tells_same) told') went.moved);
      }

  -- from another state with the same history
  pub went_from : (a : O) (s t : S) (d : Did S) (ds : List (Did S)) (x : X) → history s ≡ history t → WentBy link disk out Stands history a t (d ∷ ds) x → WentBy link disk out Stands history a s (d ∷ ds) x
  went_from a s t d ds x same went = record {
    stands = went.stands;
    tells = went.tells;
    faults = went.faults;
    moved = moved_from history _ (disk a) (disk (out x)) s t d ds same went.moved;
  }

  -- ---- where the disk fails

  -- the disk failed after steps
  pub halted_later : (a : O) (s : S) (xs : List (Did S)) (x : X) (added : List Entry) (e : Entry) (said : List ℕ) (d : O) → WentBy link disk out Stands history a s xs x
      → HaltsAt link disk (out x) (history (state_after s xs)) added e said d → HaltedBy link disk history a s xs added e said d
  halted_later a s xs x added e said d went halts = record {
    taken = out x;
    tells = went.tells;
    quiet = went.faults;
    until = went.moved;
    halts = halts;
  }

-- ---- entries in doubt

-- some first of the entries, where one more stands before them
part_written : (h g : History) (e : Entry) (added : List Entry) (image : List ℕ) → g ≡ h ++ e ∷ [] → IsPart g added image → IsPart h (e ∷ added) image
part_written h g e added image has p = (
  e ∷ p.0,
  p.1,
  ap (λ (l : List Entry). e ∷ l) p.2,
  subst (λ (k : History). Encodes k image) (ap (λ (k : History). k ++ p.0) has ∙ append_assoc h (e ∷ []) p.0) p.3,
)

part_either : (h : History) (e : Entry) (added : List Entry) (image : List ℕ) → Encodes h image ⊎ Encodes (h ++ e ∷ []) image → IsPart h (e ∷ added) image
part_either h e added image (inl without) = ([], e ∷ added, refl, encodes_none h image without)
part_either h e added image (inr with') = (e ∷ [], added, refl, with')

pub doubt_told : (tells told' : Type 0) (h : History) (before : List ℕ) (added : List Entry) (said image sent : List ℕ) → (tells → told') → InDoubt told' h before added said image sent → InDoubt tells h before added said image sent
doubt_told tells told' h before added said image sent so pair = record {
  stands = pair.stands;
  began = λ t. pair.began (so t);
  part = λ t. pair.part (so t);
}

module _ {O : Type 0} (link : O → LinkView) (disk : O → DiskView) (all : TellsAside link (λ o. (disk o).aside)) where
  -- the disk failed while an entry was written, and then so much of the refusal was sent
  pub halts_told : (a b c : O) (h : History) (e : Entry) (said : List ℕ) → IsDisk (disk b) → Ran (disk a) (disk b) (EitherNoOutput h e (disk a).aside) → (disk b).aside ≡ (disk a).aside → Rose (disk a).faults (disk b).faults
      → link b ≡ link a → IsLink (link b) → IsTrue (link b).stands → LinkKeeps (disk b) (disk c) → LinkGoes (link b) (link c) → (link c).sessions ≡ (after_send said (link b)).sessions → HaltsAt link disk a h [] e said c
  halts_told a b c h e said is_b written quiet rose same is_link on keeps goes sent =
      let leaves : (i : List ℕ) → (disk b).leaves i → IsEither h e i = λ i l. (ran_now (disk a) (disk b) (EitherNoOutput h e (disk a).aside) is_b written i l).0 in
      let more : IsSome (link a).sessions → (disk c).aside ≡ (disk a).aside ++ said = λ told'.
      aside_sent link (λ o. (disk o).aside) b c said all (subst (λ (v : LinkView). IsSome v.sessions) (sym same) told') is_link on sent ∙ ap (λ (l : List ℕ). l ++ said) quiet in
      record {
        tells = goes.tells ∙ ap (λ (v : LinkView). is_some v.sessions) same;
        rose = subst (λ (n : ℕ). Rose (disk a).faults n) (sym keeps.faults) rose;
        since = ran_then (disk a) (disk b) (disk c) (InDoubt (IsSome (link a).sessions) h (disk a).aside (e ∷ []) said)
            (ran_weaker (disk a) (disk b) _ _ written (λ i x q. record {
              stands = part_either h e [] i q.0;
              began = λ t. ([], q.1 ∙ sym (append-nil (disk a).aside));
              part = λ t. begins_longer x (disk a).aside said (begins_same x (disk a).aside q.1);
            }))
            (ran_link (disk b) (disk c) (InDoubt (IsSome (link a).sessions) h (disk a).aside (e ∷ []) said) keeps (λ i x l from upto. record {
              stands = part_either h e [] i (leaves i l);
              began = λ t. subst (λ (z : List ℕ). BeginsWith z x) quiet from;
              part = λ t. subst (λ (z : List ℕ). BeginsWith x z) (more t) upto;
            }));
        leaves = λ i l. subst (λ (g : History). IsEither g e i) (sym (append-nil h)) (leaves i ((keeps.leaves i).0 l));
        aside = more;
      }

  -- an entry was written before
  pub halts_written : (a b : O) (h g : History) (e : Entry) (added : List Entry) (f : Entry) (said : List ℕ) (d : O) → g ≡ h ++ e ∷ [] → Ran (disk a) (disk b) (EitherNoOutput h e (disk a).aside) → (disk b).aside ≡ (disk a).aside
      → (disk b).faults ≡ (disk a).faults → link b ≡ link a → HaltsAt link disk b g added f said d → HaltsAt link disk a h (e ∷ added) f said d
  halts_written a b h g e added f said d has written quiet calm same halts =
      let tells_same : is_some (link b).sessions ≡ is_some (link a).sessions = ap (λ (v : LinkView). is_some v.sessions) same in
      let on : IsSome (link a).sessions → IsSome (link b).sessions = λ told'. subst (λ (o : Bool). IsTrue o) (sym tells_same) told' in
      record {
        tells = halts.tells ∙ tells_same;
        rose = subst (λ (n : ℕ). Rose n (disk d).faults) calm halts.rose;
        since = ran_then (disk a) (disk b) (disk d) (InDoubt (IsSome (link a).sessions) h (disk a).aside (e ∷ (added ++ f ∷ [])) said)
            (ran_weaker (disk a) (disk b) _ _ written (λ i x q. record {
              stands = part_either h e (added ++ f ∷ []) i q.0;
              began = λ t. ([], q.1 ∙ sym (append-nil (disk a).aside));
              part = λ t. begins_longer x (disk a).aside said (begins_same x (disk a).aside q.1);
            }))
            (ran_weaker (disk b) (disk d) _ _ halts.since (λ i x pair. record {
              stands = part_written h g e (added ++ f ∷ []) i has pair.stands;
              began = λ t. subst (λ (z : List ℕ). BeginsWith z x) quiet (pair.began (on t));
              part = λ t. subst (λ (z : List ℕ). BeginsWith x (z ++ said)) quiet (pair.part (on t));
            }));
        leaves = λ i l. subst (λ (k : History). IsEither k f i) (ap (λ (k : History). k ++ added) has ∙ append_assoc h (e ∷ []) added) (halts.leaves i l);
        aside = λ t. halts.aside (on t) ∙ ap (λ (l : List ℕ). l ++ said) quiet;
      }

  -- links did what sends nothing before
  pub halts_quiet : (a b : O) (h : History) (added : List Entry) (e : Entry) (said : List ℕ) (d : O) → LinkKeeps (disk a) (disk b) → LinkGoes (link a) (link b) → SentNoMore (link a) (link b) → ((c : List ℕ) → (disk a).leaves c → Encodes h c)
      → HaltsAt link disk b h added e said d → HaltsAt link disk a h added e said d
  halts_quiet a b h added e said d keeps goes quiet stands halts =
      let still : IsSome (link a).sessions → (disk b).aside ≡ (disk a).aside = λ told'. aside_still link (λ o. (disk o).aside) a b all told' quiet in
      let on : IsSome (link a).sessions → IsSome (link b).sessions = λ told'. subst (λ (o : Bool). IsTrue o) (sym goes.tells) told' in
      record {
        tells = halts.tells ∙ goes.tells;
        rose = subst (λ (n : ℕ). Rose n (disk d).faults) keeps.faults halts.rose;
        since = ran_then (disk a) (disk b) (disk d) (InDoubt (IsSome (link a).sessions) h (disk a).aside (added ++ e ∷ []) said)
            (ran_link (disk a) (disk b) _ keeps (λ c x l from upto. record {
              stands = ([], added ++ e ∷ [], refl, encodes_none h c (stands c l));
              began = λ t. from;
              part = λ t. begins_longer x (disk a).aside said (subst (λ (z : List ℕ). BeginsWith x z) (still t) upto);
            }))
            (ran_weaker (disk b) (disk d) _ _ halts.since (λ i x pair. record {
              stands = pair.stands;
              began = λ t. subst (λ (z : List ℕ). BeginsWith z x) (still t) (pair.began (on t));
              part = λ t. subst (λ (z : List ℕ). BeginsWith x (z ++ said)) (still t) (pair.part (on t));
            }));
        leaves = halts.leaves;
        aside = λ t. halts.aside (on t) ∙ ap (λ (l : List ℕ). l ++ said) (still t);
      }

  -- and after
  pub halts_still : (a c d : O) (h : History) (added : List Entry) (e : Entry) (said : List ℕ) → LinkKeeps (disk c) (disk d) → LinkGoes (link c) (link d) → SentNoMore (link c) (link d) → HaltsAt link disk a h added e said c → HaltsAt link disk a h added e said d
  halts_still a c d h added e said keeps goes quiet halts =
      let still : IsSome (link a).sessions → (disk d).aside ≡ (disk c).aside = λ told'. aside_still link (λ o. (disk o).aside) c d all (subst (λ (b : Bool). IsTrue b) (sym halts.tells) told') quiet in
      let more : IsSome (link a).sessions → (disk d).aside ≡ (disk a).aside ++ said = λ told'. still told' ∙ halts.aside told' in
      record {
        tells = goes.tells ∙ halts.tells;
        rose = subst (λ (n : ℕ). Rose (disk a).faults n) (sym keeps.faults) halts.rose;
        since = ran_then (disk a) (disk c) (disk d) (InDoubt (IsSome (link a).sessions) h (disk a).aside (added ++ e ∷ []) said) halts.since
            (ran_link (disk c) (disk d) _ keeps (λ i x l from upto. record {
              stands = ended i (halts.leaves i l);
              began = λ t. begins_then (disk a).aside ((disk a).aside ++ said) x (said, refl) (subst (λ (z : List ℕ). BeginsWith z x) (halts.aside t) from);
              part = λ t. subst (λ (z : List ℕ). BeginsWith x z) (more t) upto;
            }));
        leaves = λ i l. halts.leaves i ((keeps.leaves i).0 l);
        aside = more;
      }
    where
      ended : (i : List ℕ) → IsEither (h ++ added) e i → IsPart h (added ++ e ∷ []) i
      ended i (inl without) = (added, e ∷ [], refl, without)
      ended i (inr with') = (added ++ e ∷ [], [], sym (append-nil (added ++ e ∷ [])), subst (λ (g : History). Encodes g i) (append_assoc h added (e ∷ [])) with')

  pub halted_still : {S : Type 0} (history : S → History) (a c d : O) (s : S) (xs : List (Did S)) (added : List Entry) (e : Entry) (said : List ℕ) → LinkKeeps (disk c) (disk d) → LinkGoes (link c) (link d) → SentNoMore (link c) (link d)
      → HaltedBy link disk history a s xs added e said c → HaltedBy link disk history a s xs added e said d
  halted_still history a c d s xs added e said keeps goes quiet halted = record {
    taken = halted.taken;
    tells = halted.tells;
    quiet = halted.quiet;
    until = halted.until;
    halts = halts_still halted.taken c d (history (state_after s xs)) added e said keeps goes quiet halted.halts;
  }

-- steps came before
pub halted_on : {O X S : Type 0} (link : O → LinkView) (disk : O → DiskView) (out : X → O) (Stands : X → S → Type 0) (history : S → History) (a : O) (s : S) (xs ys : List (Did S)) (x : X) (added : List Entry) (e : Entry) (said : List ℕ) (d : O)
    → WentBy link disk out Stands history a s xs x → HaltedBy link disk history (out x) (state_after s xs) ys added e said d → HaltedBy link disk history a s (xs ++ ys) added e said d
halted_on link disk out Stands history a s xs ys x added e said d went halted = record {
  taken = halted.taken;
  tells = halted.tells ∙ went.tells;
  quiet = halted.quiet ∙ went.faults;
  until = moved_then history _ (disk a) (disk (out x)) (disk halted.taken) s xs ys went.moved
      (moved_told history (IsSome (link a).sessions) (IsSome (link (out x)).sessions) (disk (out x)) (disk halted.taken) (state_after s xs) ys (λ told'. subst (λ (b : Bool). IsTrue b) (sym went.tells) told') halted.until);
  halts = subst (λ (h : History). HaltsAt link disk halted.taken h added e said d) (ap history (sym (state_after-append s xs ys))) halted.halts;
}
