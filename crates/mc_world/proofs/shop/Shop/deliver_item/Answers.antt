use Rattle.std.proofs.Common.{◌≡◌, ℕ, List, ◌++◌, sym, ap, ◌∙◌, subst}
use Rattle.mc_requests.specs.Requests.{Asked, asked_of}
use Rattle.millicent_http.specs.Takes.{item_of}
use Rattle.millicent_http.specs.declared.item.ItemRef.{ItemRef}
use Rattle.house_core.specs.Session.{said_reply}
use Rattle.mc_world.specs.Links.{IsDid}
use Rattle.mc_world.specs.Shops.{shop_state}
use Rattle.mc_world.proofs.Did.{told_did, on_ok}
use Rattle.mc_world.proofs.shop.Shop.deliver_item.Goals as goal

pub returns-in_ok-told-in-Request-clause-did : goal.returns-in_ok-told-in-Request-clause-did
returns-in_ok-told-in-Request-clause-did g c =
    let limits = c.args.self.now.limits in
    let s = shop_state c.args.self.now in
    let t = shop_state c.take_request.new.self in
    let old : List ℕ = c.args.out.now.items in
    let new : List ℕ = c.append_to.new.out.items in
    let told = c.in_ok-told-in-Request.told in
    let is = told_did limits s t c.args.reading (asked_of c.in-Request.request) told c.in_ok-told-in-Request.ensures.said in
    let reply : c.reply.result ≡ said_reply t (asked_of c.in-Request.request) told =
    c.reply.ensures c.take_request.new.self.history c.in_ok-told-in-Request.ensures.shop.house ∙ ap (λ (q : Asked). said_reply t q told) c.of.ensures in
    on_ok c.append_to.result (new ≡ old ++ c.reply.result) (IsDid limits s c.args.reading (item_of c.args.item.now) old new t)
    (λ (e : new ≡ old ++ c.reply.result). subst (λ (i : ItemRef). IsDid limits s c.args.reading (item_of i) old new t) (sym c.in-Request.is)
    (record { wrote = e ∙ ap (λ (l : List ℕ). old ++ l) (reply ∙ is.0); after = is.1 }))
    c.append_to.ensures.ok
