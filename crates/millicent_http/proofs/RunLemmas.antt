-- Links that were served while no call of them failed: what was done is the run over their bytes.
use Rattle.std.proofs.Common.{◌≡◌, inl, inr, ℕ, zero, suc, ◌+◌, List, [], ◌∷◌, ◌++◌, Option, Some, None, refl, sym, ap, ◌∙◌, subst, arith, append-nil, append_assoc}
use Rattle.std.specs.Prelude.{map, option_map}
use Rattle.std.proofs.lemmas.List.{map-append}
use Rattle.mc_outside.specs.LinkView.{LinkView, Session, next_taken, none_left, after_send, on_last, hear, send, ended, fresh}
use Rattle.millicent_http.specs.Items.{Item, Heads}
use Rattle.millicent_http.specs.declared.clock.Clock.TheVariants.{OfLinks}
use Rattle.millicent_http.specs.Steps.{StepRelation, Did, sent_of, state_after, Run}
use Rattle.millicent_http.specs.Courses.{AreRead, IsServed, HadLink, HadLinks, ServedAll}
use Rattle.millicent_http.specs.Runs.{AreItemsOf, IsRunOver}
use Rattle.millicent_http.proofs.StepLemmas.{run_more}

-- ---- the items of one link more

items_more : (links : List (List ℕ)) (link : List ℕ) (items more : List Item) → AreItemsOf links items → Heads link more → AreItemsOf (links ++ link ∷ []) (items ++ more)
items_more [] link items more none heads = (more, [], ap (λ (l : List Item). l ++ more) none ∙ sym (append-nil more), heads, refl)
items_more (l ∷ ls) link items more of heads =
    (of.0, of.1 ++ more, ap (λ (x : List Item). x ++ more) of.2 ∙ append_assoc of.0 of.1 more, of.3, items_more ls link of.1 more of.4 heads)

-- ---- the last link

on_last-push : (f : Session → Session) (ss : List Session) (s : Session) → on_last f (ss ++ s ∷ []) ≡ ss ++ f s ∷ []
on_last-push f [] s = refl
on_last-push f (x ∷ []) s = refl
on_last-push f (x ∷ y ∷ ss) s = ap (λ (l : List Session). x ∷ l) (on_last-push f (y ∷ ss) s)

same_some : (x y : List Session) → ◌≡◌ {A = Option (List Session)} (Some x) (Some y) → x ≡ y
same_some x y is = cc is

received_last : (bs : List Session) (s : Session) → map (λ x. x.received) (bs ++ s ∷ []) ≡ map (λ x. x.received) bs ++ s.received ∷ []
received_last bs s = map-append (λ (x : Session). x.received) bs (s ∷ [])

-- links were told, of which the last one was taken and received this
abbrev TookLast : Option (List Session) → List ℕ → List Session → Type 0
TookLast o got ss = (bs : List Session) × (o ≡ Some bs) × (map (λ s. s.received) ss ≡ map (λ s. s.received) bs ++ got ∷ [])

took_to_end : (o : Option (List Session)) (got x : List ℕ) (ss : List Session)
    → option_map (on_last (send x)) (option_map (on_last ended) (option_map (on_last (hear got)) (option_map (λ bs. bs ++ fresh ∷ []) o))) ≡ Some ss → TookLast o got ss
took_to_end None got x ss is = absurd (cc is)
took_to_end (Some bs) got x ss is =
    let heard : Session = hear got fresh in
    let all : on_last (send x) (on_last ended (on_last (hear got) (bs ++ fresh ∷ []))) ≡ bs ++ send x (ended heard) ∷ [] =
    rw (on_last-push (hear got) bs fresh, on_last-push ended bs heard, on_last-push (send x) bs (ended heard)) refl in
    (bs, refl, ap (map (λ s. s.received)) (sym (same_some _ ss is) ∙ all) ∙ received_last bs (send x (ended heard)))

took_open : (o : Option (List Session)) (got x : List ℕ) (ss : List Session)
    → option_map (on_last (send x)) (option_map (on_last (hear got)) (option_map (λ bs. bs ++ fresh ∷ []) o)) ≡ Some ss → TookLast o got ss
took_open None got x ss is = absurd (cc is)
took_open (Some bs) got x ss is =
    let heard : Session = hear got fresh in
    let all : on_last (send x) (on_last (hear got) (bs ++ fresh ∷ [])) ≡ bs ++ send x heard ∷ [] =
    rw (on_last-push (hear got) bs fresh, on_last-push (send x) bs heard) refl in
    (bs, refl, ap (map (λ s. s.received)) (sym (same_some _ ss is) ∙ all) ∙ received_last bs (send x heard))

-- ---- one link that was served

-- what was done on it, and what the links tell of it
record DidLink {S : Type 0} (Step : StepRelation S) (steps : List (Did S)) (s : S) (before after : LinkView) : Type 0 where
  pub got : List ℕ
  pub items : List Item
  pub heads : Heads got items
  pub readings : List ℕ
  pub ran : Run Step s items readings steps
  pub read : AreRead OfLinks readings before.readings after.readings
  pub took : (ss : List Session) → after.sessions ≡ Some ss → TookLast before.sessions got ss
  pub faults : after.faults ≡ before.faults

served_did : {S : Type 0} (Step : StepRelation S) (steps : List (Did S)) (s : S) (between served : LinkView) → IsServed Step OfLinks steps s (next_taken between) served → DidLink Step steps s between served
served_did Step steps s between served is = record {
  got = is.got;
  items = is.items;
  heads = is.heads;
  readings = is.replied.readings;
  ran = is.replied.ran;
  read = is.replied.read;
  took = λ ss told. elim is.to_end [
    | inl end ↦ took_to_end between.sessions is.got (sent_of steps) ss
        (sym (ap (λ (v : LinkView). v.sessions) is.sent ∙ ap (λ (v : LinkView). (after_send (sent_of steps) v).sessions) end) ∙ told)
    | inr open' ↦ took_open between.sessions is.got (sent_of steps) ss
        (sym (ap (λ (v : LinkView). v.sessions) is.sent ∙ ap (λ (v : LinkView). (after_send (sent_of steps) v).sessions) open'.0) ∙ told)
  ];
  faults = ap (λ (v : LinkView). v.faults) is.sent ∙ elim is.to_end [
    | inl end ↦ ap (λ (v : LinkView). v.faults) end
    | inr open' ↦ ap (λ (v : LinkView). v.faults) open'.0
  ];
}

link_did : {S : Type 0} (Step : StepRelation S) (steps : List (Did S)) (s : S) (between after : LinkView) → HadLink Step OfLinks steps s (next_taken between) after → after.faults ≡ 0 → DidLink Step steps s between after
link_did Step steps s between after had none =
    let same : after.faults ≡ had.served.faults = ap (λ (v : LinkView). v.faults) had.ended in
    let sessions : after.sessions ≡ had.served.sessions = ap (λ (v : LinkView). v.sessions) had.ended in
    let readings : after.readings ≡ had.served.readings = ap (λ (v : LinkView). v.readings) had.ended in
    elim had.course [
      | inl one ↦
          let did = served_did Step steps s between had.served one in
          record {
            got = did.got;
            items = did.items;
            heads = did.heads;
            readings = did.readings;
            ran = did.ran;
            read = subst (λ (r : Option (List ℕ)). AreRead OfLinks did.readings between.readings r) (sym readings) did.read;
            took = λ ss told. did.took ss (sym sessions ∙ told);
            faults = same ∙ did.faults;
          }
      | inr other ↦ elim other [
        | inl broke ↦ absurd (omega (arith, same, none, broke.fault.rose))
        | inr broke ↦ absurd (omega (arith, same, none, broke.fault.rose))
      ]
    ]

-- ---- links one after another

-- what was done on all links that are told
abbrev DidLinks : {S : Type 0} → StepRelation S → List (Did S) → S → LinkView → Type 0
DidLinks Step steps s after = (ss : List Session) (rs : List ℕ) → after.sessions ≡ Some ss → after.readings ≡ Some rs → IsRunOver Step (map (λ x. x.received) ss) rs s steps

links_did : {S : Type 0} (Step : StepRelation S) (n : ℕ) (steps : List (Did S)) (s : S) (before after : LinkView) → before.sessions ≡ Some [] → before.readings ≡ Some [] → HadLinks Step OfLinks n steps s before after → after.faults ≡ 0
    → DidLinks Step steps s after
links_did {S = S} Step zero steps s before after no_links no_readings had none ss rs told read =
    let links : [] ≡ ss = same_some [] ss (sym no_links ∙ ap (λ (v : LinkView). v.sessions) (sym had.1) ∙ told) in
    let readings : [] ≡ rs = same_readings [] rs (sym no_readings ∙ ap (λ (v : LinkView). v.readings) (sym had.1) ∙ read) in
    subst (λ (l : List Session). IsRunOver Step (map (λ x. x.received) l) rs s steps) links
    (subst (λ (r : List ℕ). IsRunOver Step [] r s steps) readings
    (subst (λ (ds : List (Did S)). IsRunOver Step [] [] s ds) (sym had.0) (record { items = []; heads = refl; ran = tt })))
  where
    same_readings : (x y : List ℕ) → ◌≡◌ {A = Option (List ℕ)} (Some x) (Some y) → x ≡ y
    same_readings x y is = cc is
links_did {S = S} Step (suc n) steps s before after no_links no_readings had none ss rs told read =
    let front : List (Did S) = had.0 in
    let last : List (Did S) = had.1 in
    let between : LinkView = had.2 in
    let did = link_did Step last (state_after s front) between after had.5 none in
    let took = did.took ss told in
    let reads = did.read rs read in
    let earlier = links_did Step n front s before between no_links no_readings had.4 (sym did.faults ∙ none) took.0 reads.0 took.1 reads.1 in
    let all : IsRunOver Step (map (λ (x : Session). x.received) took.0 ++ did.got ∷ []) (reads.0 ++ did.readings) s (front ++ last) = record {
      items = earlier.items ++ did.items;
      heads = items_more (map (λ (x : Session). x.received) took.0) did.got earlier.items did.items earlier.heads did.heads;
      ran = run_more Step s earlier.items did.items reads.0 did.readings front last earlier.ran did.ran;
    } in
    subst (λ (l : List (List ℕ)). IsRunOver Step l rs s steps) (sym took.2)
    (subst (λ (r : List ℕ). IsRunOver Step (map (λ (x : Session). x.received) took.0 ++ did.got ∷ []) r s steps) (sym reads.2)
    (subst (λ (ds : List (Did S)). IsRunOver Step (map (λ (x : Session). x.received) took.0 ++ did.got ∷ []) (reads.0 ++ did.readings) s ds) (sym had.3) all))

-- All links were served, and no call failed: what was done is the run over what they received.
pub served_all : {S : Type 0} (Step : StepRelation S) (links n : ℕ) (steps : List (Did S)) (s : S) (before after : LinkView) → before.sessions ≡ Some [] → before.readings ≡ Some [] → ServedAll Step OfLinks links n steps s before after → after.faults ≡ 0
    → (ss : List Session) (rs : List ℕ) → after.sessions ≡ Some ss → after.readings ≡ Some rs → IsRunOver Step (map (λ x. x.received) ss) rs s steps
served_all Step links n steps s before after no_links no_readings served none ss rs told read = elim served [
  | inl all ↦ links_did Step n steps s before after no_links no_readings all.1 none ss rs told read
  | inr few ↦
      let between : LinkView = few.1.0 in
      let over : after ≡ none_left between = few.1.2 in
      links_did Step n steps s before between no_links no_readings few.1.1 (ap (λ (v : LinkView). v.faults) (sym over) ∙ none) ss rs
      (ap (λ (v : LinkView). v.sessions) (sym over) ∙ told) (ap (λ (v : LinkView). v.readings) (sym over) ∙ read)
]
