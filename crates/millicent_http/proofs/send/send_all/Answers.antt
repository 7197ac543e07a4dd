use Rattle.std.proofs.Common.{◌≡◌, ◌+◌, ◌-◌, ◌++◌, ◌∙◌, ap, sym, List, ℕ, length, take, drop, arith, length-drop}
use Rattle.std.proofs.lemmas.List.{take_all}
use Rattle.std.proofs.Math.Seq.{take-add}
use Rattle.mc_outside.proofs.Sessions.{sent_none, sent_step}
use Rattle.millicent_http.proofs.send.send_all.Goals as goal

pub loop-sent-init : goal.loop-sent-init
loop-sent-init g c = record {
  within = omega arith;
  moved = g.met.K.Link.link_stays c.args.k.now;
  link = sent_none (g.K.Link.link c.args.k.now);
}

pub loop-sent-preserved : goal.loop-sent-preserved
loop-sent-preserved g c =
    let bytes : List ℕ = c.args.bytes.now in
    let done : ℕ = c.loop-sent.sent in
    let more : ℕ = c.in_ok-sent.field-0 in
    let tail : take (length bytes - done) (drop done bytes) ≡ drop done bytes = take_all (length bytes - done) (drop done bytes) (omega (arith, length-drop done bytes)) in
    let joined : take done bytes ++ take more (take (length bytes - done) (drop done bytes)) ≡ take (done + more) bytes =
    ap (λ (z : List ℕ). take done bytes ++ take more z) tail ∙ sym (take-add done more bytes) in
    record {
      within = omega (arith, c.in_ok-sent.ensures.room, ap length tail, length-drop done bytes);
      moved = g.met.K.Link.link_goes_on c.args.k.now c.loop-sent.k c.send.new.self c.loop-sent.invariant.moved c.send.ensures.moved;
      link = sent_step (g.K.Link.link c.args.k.now) (g.K.Link.link c.loop-sent.k) (g.K.Link.link c.send.new.self) (take done bytes)
          (take more (take (length bytes - done) (drop done bytes))) (take (done + more) bytes)
          c.loop-sent.invariant.link c.in_ok-sent.ensures.sent joined;
    }
