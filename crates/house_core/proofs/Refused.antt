-- The reply to a request that is refused.
use Rattle.std.proofs.Common.{◌≡◌, ℕ, Bool, true, false, cond, List, [], ◌++◌, refl, sym, ap, ap₂, ◌∙◌, Option, Some, None, unwrap_or}
use Rattle.std.specs.Prelude.{codes}
use Rattle.std.proofs.lemmas.List.{append-nil}
use Rattle.mc_requests.specs.declared.refusal.Refusal.{Refusal}
use Rattle.mc_requests.specs.Requests.{Asked}
use Rattle.mc_requests.specs.declared.refusal.Refusal.TheVariants.{DiskFault}
use Rattle.mc_requests.specs.Refusals.{is_signed}
use Rattle.mc_requests.specs.Replies.{Reply, reply_head}
use Rattle.ledger_model.specs.Histories.{History}
use Rattle.ledger_model.specs.Orders.{Order}
use Rattle.ledger_model.specs.Answer.{draw_in, without_scrip, as_counted}
use Rattle.house_state.specs.declared.offer.DrawAsk.{DrawAsk}
use Rattle.house_state.specs.Trade.{draw_asked}
use Rattle.house_state.proofs.Ordered.{none_asked, some_asked}
use Rattle.ledger_model.specs.Replies.{asker_secret, signed_text, secret_of_refusal, price_told, signed, refused_values, refusal_of}

-- where the reply is signed, the text that stands for the scrip is that of the request as its column sees it
signed_alike : (h : History) (q : Asked) (f : Refusal) (d : Option Order) (r : Reply)
    → signed (cond (is_signed f) (asker_secret h d q.scrip) None) (unwrap_or (as_counted d q).scrip (codes "-")) q.target [] r
    ≡ signed (cond (is_signed f) (asker_secret h d q.scrip) None) (signed_text d q.scrip) q.target [] r
signed_alike h q f d r = go d q.scrip (is_signed f)
  where
    go : (o : Option Order) (scrip : Option (List ℕ)) (b : Bool)
        → signed (cond b (asker_secret h o scrip) None) (unwrap_or (as_counted o (record q { scrip = scrip })).scrip (codes "-")) q.target [] r
        ≡ signed (cond b (asker_secret h o scrip) None) (signed_text o scrip) q.target [] r
    go (Some o) scrip b = refl
    go None (Some text) b = refl
    go None None true = refl
    go None None false = refl

-- the reply is made of the price that it tells and of the secret that signs it
pub refusal_is : (h : History) (t : ℕ) (q : Asked) (f : Refusal) (secret : Option (List ℕ)) (price : Option ℕ) → secret ≡ secret_of_refusal h q f → price ≡ price_told h q.target f
    → reply_head (signed secret (unwrap_or (as_counted (draw_in h q.target) q).scrip (codes "-")) q.target [] (refused_values t f price)) ≡ refusal_of h t q f
unfolding refusal_of
refusal_is h t q f secret price s p =
    ap₂ (λ (o : Option (List ℕ)) (n : Option ℕ). reply_head (signed o (unwrap_or (as_counted (draw_in h q.target) q).scrip (codes "-")) q.target [] (refused_values t f n))) s p
    ∙ ap reply_head (signed_alike h q f (draw_in h q.target) (refused_values t f (price_told h q.target f)))

-- the key of the account signs for a draw
pub key_signs : (h : History) (q : Asked) (ask : DrawAsk) → Some ask ≡ draw_asked h q.target → ask.key ≡ asker_secret h (draw_in h q.target) q.scrip
key_signs h q ask is =
    let asked = some_asked h q.target ask is in
    ap (λ (a : DrawAsk). a.key) asked.is ∙ ap (λ (d : Option Order). asker_secret h d q.scrip) (sym asked.asks)

-- the request as its column sees it
pub counted_draw : (h : History) (q : Asked) (ask : DrawAsk) → Some ask ≡ draw_asked h q.target → without_scrip q ≡ as_counted (draw_in h q.target) q
counted_draw h q ask is = ap (λ (d : Option Order). as_counted d q) (sym (some_asked h q.target ask is).asks)

pub counted_scrip : (h : History) (q : Asked) → None ≡ draw_asked h q.target → q ≡ as_counted (draw_in h q.target) q
counted_scrip h q none = ap (λ (d : Option Order). as_counted d q) (sym (none_asked h q.target none))

pub counted_target : (d : Option Order) (q : Asked) → (as_counted d q).target ≡ q.target
counted_target (Some o) q = refl
counted_target None q = refl

-- That the disk failed is told without a signature, and by no history.
pub disk_fault_is : (t : ℕ) (values : Reply) (reply : List ℕ) → values ≡ refused_values t DiskFault None → reply ≡ reply_head values ++ [] → (a : History × Asked) → reply ≡ refusal_of a.0 t a.1 DiskFault
unfolding refusal_of
disk_fault_is t values reply same is a = is ∙ append-nil (reply_head values) ∙ ap (λ (v : Reply). reply_head v) same
