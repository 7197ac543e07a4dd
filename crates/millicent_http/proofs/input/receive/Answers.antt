use Rattle.std.proofs.Common.{◌≡◌, ◌-◌, ◌<◌, ◌≤◌, List, ℕ, length, take, inl, refl, sym, ◌∙◌, subst, arith, drop, length-drop}
use Rattle.std.proofs.lemmas.List.{length-take-le}
use Rattle.std.specs.Prelude.{IsTrue}
use Rattle.mc_outside.specs.LinkView.{LinkView}
use Rattle.mc_outside.proofs.Sessions.{heard_none}
use Rattle.millicent_http.proofs.InputLemmas.{size_with, heard_then, lost}
use Rattle.millicent_http.proofs.input.receive.Goals as goal

pub loop-len-init : goal.loop-len-init
loop-len-init g c = record {
  within = omega arith;
  size = refl;
  moved = g.met.K.Link.link_stays c.args.k.now;
  link = heard_none (g.K.Link.link c.args.k.now);
  stands = c.requires.stands;
}

pub loop-len-preserved : goal.loop-len-preserved
loop-len-preserved g c =
    let l = c.loop-len in
    let more : List ℕ = c.recv.new.buf in
    let len : length more ≡ length l.buf - l.len = omega (arith, c.recv.auto.buf, length-take-le (length l.buf - l.len) (drop l.len l.buf) (omega (arith, length-drop l.len l.buf)), length-drop l.len l.buf) in
    let some : 0 < c.in-Ok.n = omega (arith, c.in-Ok.n-test) in
    let heard_more = c.in-Ok.ensures.heard (inl some) in
    let few : c.in-Ok.n ≤ length more = omega (arith, c.in-Ok.ensures.room, c.recv.auto.buf) in
    record {
      within = omega (arith, size_with l.len l.buf more l.invariant.within len, few, len, l.invariant.within);
      size = size_with l.len l.buf more l.invariant.within len ∙ l.invariant.size;
      moved = g.met.K.Link.link_goes_on c.args.k.now l.k c.recv.new.self l.invariant.moved c.recv.ensures.moved;
      link = heard_then (g.K.Link.link c.args.k.now) (g.K.Link.link l.k) (g.K.Link.link c.recv.new.self) l.len c.in-Ok.n l.buf more l.invariant.within few l.invariant.link heard_more;
      stands = subst (λ (v : LinkView). IsTrue v.stands) (sym heard_more) l.invariant.stands;
    }

pub returns-in-Err-clause-failed : goal.returns-in-Err-clause-failed
returns-in-Err-clause-failed g c =
    (take c.loop-len.len c.loop-len.buf, lost (g.K.Link.link c.args.k.now) (g.K.Link.link c.loop-len.k) (g.K.Link.link c.recv.new.self) (take c.loop-len.len c.loop-len.buf) c.loop-len.invariant.link c.in-Err.ensures.failed)
