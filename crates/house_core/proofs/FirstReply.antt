-- The first reply, from what is kept of its entry.
use Rattle.std.proofs.Common.{◌≡◌, ℕ, Bool, true, false, cond, List, [], ◌∷◌, All, find, Option, Some, refl, sym, ap, ◌∙◌}
use Rattle.std.specs.Prelude.{codes, option_map, unwrap_or}
use Rattle.std.proofs.lemmas.List.Elements.{All-head, All-tail}
use Rattle.kept_replies.specs.Kept.{KeptReply}
use Rattle.ledger_model.specs.Histories.{History}
use Rattle.ledger_model.specs.Replies.{Contents, taken_values, taken_reply, reply_of}
use Rattle.house_state.specs.HouseState.{HouseStateView, own_scrip}
use Rattle.house_state.specs.Trade.{brought_by}
use Rattle.house_state.specs.Representation.{StateRepresents, IsReply, brought_then, kept_reply}
use Rattle.house_core.proofs.Replied.{change_text_is}

-- what holds of each element, and the test, hold of the one that is found
pub of_found : {X : Type 0} (P : X → Type 0) (test : X → Bool) (xs : List X) (x : X) → All P xs → find test xs ≡ Some x → P x × (test x ≡ true)
of_found P test [] x all is = absurd cc
of_found {X = X} P test (y ∷ ys) x all is = go (test y) refl is (of_found P test ys x (All-tail P y ys all))
  where
    go : (b : Bool) → test y ≡ b → cond b (Some y) (find test ys) ≡ Some x → (find test ys ≡ Some x → P x × (test x ≡ true)) → P x × (test x ≡ true)
    go true passes here later =
        let same : y ≡ x = cc in
        (rw (← same) (All-head P y ys all), rw (← same) passes)
    go false fails there later = later there

-- the reply to what is kept, with the change as the state spells it
abbrev pub spelled_reply : HouseStateView → KeptReply → Contents → List ℕ
spelled_reply b r contents =
    taken_reply (Some r.entry.secret) (unwrap_or r.asked.scrip (codes "-")) r.asked.target contents (taken_values r.entry.moment contents r.entry.price (option_map (own_scrip b) r.entry.change))

-- the contents are those that the entry brought
pub first_reply_is : {b : HouseStateView} {h : History} → StateRepresents b h → (number : ℕ) (r : KeptReply) (body : Contents) → IsReply h r → r.entry.number ≡ number → brought_by h r.entry.deed ≡ Some body
    → spelled_reply b r body ≡ reply_of h number
first_reply_is {b = b} {h = h} st number r body is of_number brings =
    let same : body ≡ brought_then h r.entry.number = cc (is.brings, brings) in
    let said : Option (List ℕ) → List ℕ = λ change. taken_reply (Some r.entry.secret) (unwrap_or r.asked.scrip (codes "-")) r.asked.target body (taken_values r.entry.moment body r.entry.price change) in
    ap said (sym (change_text_is st r.entry.change is.own)) ∙ ap (kept_reply h r) same ∙ sym is.reply ∙ ap (reply_of h) of_number
