-- What is delivered to a house, and what its operator enters, keeps it tied.
use Rattle.std.proofs.Common.{◌≡◌, ℕ, ◌<◌, ◌^◌, List, [], ◌∷◌, ◌++◌, Option, Some, refl, sym, ap, subst, ◌∙◌, arith, append_assoc, slice_get}
use Rattle.std.specs.Prelude.{max, Contains}
use Rattle.std.specs.List.{AllByRecursion}
use Rattle.std.proofs.lemmas.List.Elements.{Contains-append_right}
use Rattle.mc_requests.specs.declared.limits.Limits.{Limits}
use Rattle.mc_requests.specs.Limits.{AreInRange}
use Rattle.mc_records.specs.Entry.{Entry, Accept, Draw, Fits, moment_of}
use Rattle.mc_requests.specs.Requests.{Asked}
use Rattle.ledger_model.specs.Histories.{History, time}
use Rattle.ledger_model.specs.Answer as answers
use Rattle.ledger_model.specs.Answer.{Answer, answer}
use Rattle.ledger_model.proofs.TableLaws.{TakenBy, by_scrip, by_draw, taken_by, through, draw_through, taken_moment}
use Rattle.ledger_model.proofs.FollowLaws.{same_request, may_follow, taken_fits}
use Rattle.ledger_model.proofs.ListLaws.{all_append}
use Rattle.scrip_form.specs.Texts.{IsTarget}
use Rattle.millicent_http.specs.Items.{Item, request, refused, Heads}
use Rattle.millicent_http.specs.Steps.{state_after}
use Rattle.house_state.specs.CommandEntries.{IsCommand}
use Rattle.house_core.specs.Session.{State, raised}
use Rattle.world_model.specs.Worlds.{HasBytes, Message}
use Rattle.world_model.specs.Deliveries.{after_answer, did, did_all}
use Rattle.world_model.proofs.Lists.{goes_more}
use Rattle.world_model.proofs.Targets.{HasTarget}
use Rattle.world_model.proofs.Payloads.{taken_has_payload}
use Rattle.world_model.proofs.Tied.{IsAskedIn, CameIn, HouseEntry, HouseTied}

pub time_snoc : (h : History) (e : Entry) → time (h ++ e ∷ []) ≡ max (time h) (moment_of e)
time_snoc [] e = omega arith
time_snoc (x ∷ xs) e = omega (arith, time_snoc xs e)

pub command_came : (ms : List Message) (e : Entry) → IsCommand e → CameIn ms e
command_came ms (Accept m scrip target sign price change deed) c = absurd c
command_came ms (Draw m target sign drawn) c = absurd c
command_came ms e c = tt

-- ---- items

-- an item that is a request is one of these messages, and asks for a target
abbrev pub ItemIn : List Message → Item → Type 0
ItemIn ms (request q closes) = IsAskedIn ms q × IsTarget q.target
ItemIn ms (refused f closes) = Unit {0}

item_in : (ms : List Message) (n : ℕ) (m : Message) (items front rest : List Item) (item : Item) → slice_get ms n ≡ Some m → Heads m.bytes items → HasTarget item → items ≡ front ++ item ∷ rest → ItemIn ms item
item_in ms n m items front rest (refused f closes) sent heads target is = tt
item_in ms n m items front rest (request q closes) sent heads target is =
    let here : Contains (request q closes ∷ rest) (request q closes) = (0, omega arith, refl) in (
      record {
        n = n;
        message = m;
        sent = sent;
        asks = record {
          items = items;
          closes = closes;
          heads = heads;
          item = subst (λ (xs : List Item). Contains xs (request q closes)) (sym is) (Contains-append_right front (request q closes ∷ rest) (request q closes) here);
        };
      },
      target,
    )

pub items_in : (ms : List Message) (n : ℕ) (m : Message) (items front rest : List Item) → slice_get ms n ≡ Some m → Heads m.bytes items → AllByRecursion HasTarget rest → items ≡ front ++ rest → AllByRecursion (ItemIn ms) rest
items_in ms n m items front [] sent heads targets is = tt
items_in ms n m items front (item ∷ rest) sent heads targets is =
    (item_in ms n m items front rest item sent heads targets.0 is, items_in ms n m items (front ++ item ∷ []) rest sent heads targets.1 (is ∙ sym (append_assoc front (item ∷ []) rest)))

-- ---- one item

taken_came : (ms : List Message) (h : History) (t : ℕ) (limits : Limits) (q : Asked) (e : Entry) → answer h t limits q ≡ answers.Take e → IsAskedIn ms q → CameIn ms e
taken_came ms h t limits q e takes asked = go (taken_by h t limits q e takes)
  where
    go : TakenBy h t limits q e → CameIn ms e
    go (by_scrip none ran) =
        let x = through h t limits q e ran in
        subst (CameIn ms) x.is (subst (IsAskedIn ms) (sym (same_request h t limits q e x)) asked)
    go (by_draw o asks ran) =
        let x = draw_through h t limits q o e ran in
        subst (CameIn ms) x.is (record { q = q; asked = asked; target_is = refl; sign_is = x.given_sign ∙ ap some x.is_right })
      where
        some : List ℕ → Option (List ℕ)
        some s = Some s

taken_bytes : (h : History) (t : ℕ) (limits : Limits) (q : Asked) (e : Entry) → answer h t limits q ≡ answers.Take e → HasBytes e
taken_bytes h t limits q e takes = go (taken_by h t limits q e takes)
  where
    go : TakenBy h t limits q e → HasBytes e
    go (by_scrip none ran) = subst HasBytes (through h t limits q e ran).is tt
    go (by_draw o asks ran) = subst HasBytes (draw_through h t limits q o e ran).is tt

house_raised : (limits : Limits) (ms : List Message) (s t : State) (reading : ℕ) → reading < 2 ^ 35 → HouseTied limits ms s t → HouseTied limits ms s (raised t reading)
house_raised limits ms s t reading below r = record { goes = r.goes; all = r.all; secrets = r.secrets; most = r.most; in_time = (let le = r.in_time in omega (arith, le)); moment = (let lt = r.moment in omega (arith, lt, below)) }

after_request : (limits : Limits) (ms : List Message) (s t : State) (q : Asked) (a : Answer) → AreInRange limits → IsAskedIn ms q → IsTarget q.target → HouseTied limits ms s t
    → answer t.history t.time limits q ≡ a → HouseTied limits ms s (after_answer t a)
after_request limits ms s t q (answers.Again n) range asked target r is = r
after_request limits ms s t q (answers.Refused f) range asked target r is = r
after_request limits ms s t q (answers.Take e) range asked target r is =
    let fits = taken_has_payload t.history t.time limits q e r.all range.series_most r.moment target is in
    let bytes = taken_bytes t.history t.time limits q e is in
    record {
      goes = goes_more (HouseEntry limits ms) s.history t.history e r.goes (record { follows = may_follow t.history t.time limits q e r.in_time range.journal_most is; fits = fits; secrets = bytes; came = taken_came ms t.history t.time limits q e is asked });
      all = all_append Fits t.history (e ∷ []) r.all (fits, tt);
      secrets = all_append HasBytes t.history (e ∷ []) r.secrets (bytes, tt);
      most = (let small = taken_fits t.history t.time limits q e is in let most = range.journal_most in omega (arith, small, most));
      moment = r.moment;
      in_time = (let le = r.in_time in omega (arith, le, time_snoc t.history e, taken_moment t.history t.time limits q e is));
    }

house_item : (limits : Limits) (ms : List Message) (s t : State) (reading : ℕ) (item : Item) → AreInRange limits → reading < 2 ^ 35 → ItemIn ms item → HouseTied limits ms s t → HouseTied limits ms s (did limits t reading item).after
house_item limits ms s t reading (refused f closes) range below there r = house_raised limits ms s t reading below r
house_item limits ms s t reading (request q closes) range below there r =
    after_request limits ms s (raised t reading) q (answer (raised t reading).history (raised t reading).time limits q) range there.0 there.1 (house_raised limits ms s t reading below r) refl

-- all items of a message
pub house_items : (limits : Limits) (ms : List Message) (s t : State) (reading : ℕ) (items : List Item) → AreInRange limits → reading < 2 ^ 35 → AllByRecursion (ItemIn ms) items → HouseTied limits ms s t
    → HouseTied limits ms s (state_after t (did_all limits t reading items))
house_items limits ms s t reading [] range below all r = r
house_items limits ms s t reading (item ∷ items) range below all r =
    house_items limits ms s (did limits t reading item).after reading items range below all.1 (house_item limits ms s t reading item range below all.0 r)
