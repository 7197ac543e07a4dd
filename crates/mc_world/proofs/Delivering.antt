-- Delivering a link, item by item.
use Rattle.std.proofs.Common.{◌≡◌, ◌⊎◌, inl, inr, ℕ, ◌+◌, ◌≤◌, ◌<◌, true, false, List, [], ◌∷◌, ◌++◌, length, refl, sym, ap, ◌∙◌, arith, length-append, append_assoc, append-nil}
use Rattle.mc_requests.specs.declared.limits.Limits.{Limits}
use Rattle.millicent_http.specs.Items.{Item, closes, NextItem, EndsNoItem}
use Rattle.millicent_http.specs.Reads.{HaveRead, NoneCloses}
use Rattle.millicent_http.proofs.ReadLemmas.{read_item, read_all, read_closed}
use Rattle.millicent_http.specs.Steps.{Did, sent_of, state_after}
use Rattle.millicent_http.proofs.StepLemmas.{sent_one}
use Rattle.millicent_http.proofs.CourseLemmas.{none_more}
use Rattle.house_core.specs.Session.{State}
use Rattle.world_model.specs.Deliveries.{did, did_all}
use Rattle.mc_world.specs.Links.{IsDid, IsDelivered}

-- so far i items were delivered, none of which ends the link, and this is left of it
pub record IsDelivering (limits : Limits) (s : State) (reading : ℕ) (link : List ℕ) (i : ℕ) (rest written more : List ℕ) (t : State) : Type 0 where
  pub items : List Item
  pub read : HaveRead link items rest
  pub opens : NoneCloses items
  pub len : length items ≡ i
  pub wrote : more ≡ written ++ sent_of (did_all limits s reading items)
  pub after : t ≡ state_after s (did_all limits s reading items)

did_more : (limits : Limits) (s : State) (reading : ℕ) (items : List Item) (item : Item)
    → did_all limits s reading (items ++ item ∷ []) ≡ did_all limits s reading items ++ did limits (state_after s (did_all limits s reading items)) reading item ∷ []
did_more limits s reading [] item = refl
did_more limits s reading (x ∷ items) item = ap (λ (ds : List (Did State)). did limits s reading x ∷ ds) (did_more limits (did limits s reading x).after reading items item)

after_more : (s : State) (ds : List (Did State)) (d : Did State) → state_after s (ds ++ d ∷ []) ≡ d.after
after_more s [] d = refl
after_more s (x ∷ ds) d = after_more x.after ds d

record IsMore (limits : Limits) (s : State) (reading : ℕ) (items : List Item) (item : Item) (written more : List ℕ) (t : State) : Type 0 where
  wrote : more ≡ written ++ sent_of (did_all limits s reading (items ++ item ∷ []))
  after : t ≡ state_after s (did_all limits s reading (items ++ item ∷ []))

one_more : (limits now_limits : Limits) (s : State) (reading : ℕ) (items : List Item) (item : Item) (written more next : List ℕ) (t u : State) → now_limits ≡ limits
    → more ≡ written ++ sent_of (did_all limits s reading items) → t ≡ state_after s (did_all limits s reading items) → IsDid now_limits t reading item more next u
    → IsMore limits s reading items item written next u
one_more limits now_limits s reading items item written more next t u same wrote after is =
    let ds : List (Did State) = did_all limits s reading items in
    let d : Did State = did limits (state_after s ds) reading item in
    let here : did now_limits t reading item ≡ d = ap (λ (l : Limits). did l t reading item) same ∙ ap (λ (x : State). did limits x reading item) after in
    record {
      wrote = is.wrote ∙ ap (λ (x : Did State). more ++ x.sent) here ∙ ap (λ (l : List ℕ). l ++ d.sent) wrote ∙ append_assoc written (sent_of ds) d.sent
          ∙ ap (λ (l : List ℕ). written ++ l) (sym (sent_one ds (d ∷ []) d refl)) ∙ ap (λ (l : List (Did State)). written ++ sent_of l) (sym (did_more limits s reading items item));
      after = is.after ∙ ap (λ (x : Did State). x.after) here ∙ sym (after_more s ds d) ∙ ap (λ (l : List (Did State)). state_after s l) (sym (did_more limits s reading items item));
    }

pub starts : (limits : Limits) (s : State) (reading : ℕ) (link written : List ℕ) → IsDelivering limits s reading link 0 link written written s
starts limits s reading link written = record { items = []; read = refl; opens = tt; len = refl; wrote = sym (append-nil written); after = refl }

pub goes_on : (limits now_limits : Limits) (s : State) (reading : ℕ) (link : List ℕ) (i : ℕ) (rest tail written more next : List ℕ) (item : Item) (t u : State) → now_limits ≡ limits
    → NextItem rest item tail → closes item ≡ false → IsDelivering limits s reading link i rest written more t → IsDid now_limits t reading item more next u
    → IsDelivering limits s reading link (i + 1) tail written next u
goes_on limits now_limits s reading link i rest tail written more next item t u same comes open' so is =
    let m = one_more limits now_limits s reading so.items item written more next t u same so.wrote so.after is in
    record {
      items = so.items ++ item ∷ [];
      read = read_item link rest tail so.items item so.read comes;
      opens = none_more so.items item so.opens open';
      len = length-append so.items (item ∷ []) ∙ ap (λ (n : ℕ). n + 1) so.len;
      wrote = m.wrote;
      after = m.after;
    }

pub closed : (limits now_limits : Limits) (s : State) (reading : ℕ) (link : List ℕ) (i : ℕ) (rest tail written more next : List ℕ) (item : Item) (t u : State) → now_limits ≡ limits → i < 1000
    → NextItem rest item tail → closes item ≡ true → IsDelivering limits s reading link i rest written more t → IsDid now_limits t reading item more next u
    → IsDelivered limits s reading link written next u
closed limits now_limits s reading link i rest tail written more next item t u same few comes close so is =
    let m = one_more limits now_limits s reading so.items item written more next t u same so.wrote so.after is in
    record {
      items = so.items ++ item ∷ [];
      heads = read_closed 1000 link tail so.items item (read_item link rest tail so.items item so.read comes) so.opens close (omega (arith, so.len, few));
      wrote = m.wrote;
      after = m.after;
    }

pub ended : (limits : Limits) (s : State) (reading : ℕ) (link : List ℕ) (i : ℕ) (rest written more : List ℕ) (t : State) → i ≤ 1000 → (i ≡ 1000) ⊎ EndsNoItem rest
    → IsDelivering limits s reading link i rest written more t → IsDelivered limits s reading link written more t
ended limits s reading link i rest written more t few ends so = record {
  items = so.items;
  heads = read_all 1000 link rest so.items so.read so.opens (omega (arith, so.len, few)) (at_end ends);
  wrote = so.wrote;
  after = so.after;
}
  where
    at_end : (i ≡ 1000) ⊎ EndsNoItem rest → (length so.items ≡ 1000) ⊎ EndsNoItem rest
    at_end (inl full) = inl (so.len ∙ full)
    at_end (inr none) = inr none
