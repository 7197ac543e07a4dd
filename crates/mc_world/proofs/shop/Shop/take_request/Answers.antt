use Rattle.std.proofs.Common.{◌≡◌, ℕ, Bool, true, false, sym, ap, subst, ◌∙◌}
use Rattle.std.specs.Prelude.{max}
use Rattle.mc_requests.specs.Requests.{Asked, asked_of}
use Rattle.ledger_model.specs.Answer.{answer}
use Rattle.house_core.specs.Bench.{house_time}
use Rattle.mc_world.specs.Shops.{IsTold, shop_state, history_after}
use Rattle.mc_world.proofs.Told.{after_told}
use Rattle.mc_world.proofs.shop.Shop.take_request.Goals as goal

never : false ≡ true → ⊥
never e = cc

pub returns-clause-shop : goal.returns-clause-shop
returns-clause-shop g c =
    let h = c.args.self.now.history in
    let limits = c.args.self.now.limits in
    let asked = asked_of c.args.request.now in
    let given = c.in_ok-push_taken.ensures (answer h c.raise-time.result limits asked) c.in_ok-model.ensures
    ∙ ap (λ (t : ℕ). history_after h (answer h t limits asked)) c.raise-time.ensures.time
    ∙ ap (λ (q : Asked). history_after h (answer h (max (house_time c.args.self.now.bench) c.args.reading) limits q)) (sym c.of.ensures) in
    let both = after_told g.T.Trade.trade c.args.self.now.bench c.raise-time.new.self c.answer-told.new.self h c.push_taken.new.history limits c.args.reading c.of.result c.answer-told.result
    c.requires.shop.house c.requires.shop.limits c.raise-time.ensures.raised c.raise-time.ensures.limits c.raise-time.ensures.same c.raise-time.ensures.contents c.answer-told.ensures.went
    (λ starved. never (c.if-is_starved.ensures.1 starved)) given in
    record { house = both.0; limits = c.answer-told.ensures.limits ∙ (c.raise-time.ensures.limits ∙ c.requires.shop.limits); range = c.requires.shop.range }

pub returns-clause-said : goal.returns-clause-said
returns-clause-said g c =
    let h = c.args.self.now.history in
    let limits = c.args.self.now.limits in
    let asked = asked_of c.args.request.now in
    let given = c.in_ok-push_taken.ensures (answer h c.raise-time.result limits asked) c.in_ok-model.ensures
    ∙ ap (λ (t : ℕ). history_after h (answer h t limits asked)) c.raise-time.ensures.time
    ∙ ap (λ (q : Asked). history_after h (answer h (max (house_time c.args.self.now.bench) c.args.reading) limits q)) (sym c.of.ensures) in
    let both = after_told g.T.Trade.trade c.args.self.now.bench c.raise-time.new.self c.answer-told.new.self h c.push_taken.new.history limits c.args.reading c.of.result c.answer-told.result
    c.requires.shop.house c.requires.shop.limits c.raise-time.ensures.raised c.raise-time.ensures.limits c.raise-time.ensures.same c.raise-time.ensures.contents c.answer-told.ensures.went
    (λ starved. never (c.if-is_starved.ensures.1 starved)) given in
    subst (λ (q : Asked). IsTold limits (shop_state c.args.self.now) c.args.reading q c.answer-told.result (record { history = c.push_taken.new.history; time = house_time c.answer-told.new.self })) c.of.ensures both.1
