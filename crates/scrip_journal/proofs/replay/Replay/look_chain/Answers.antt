use Rattle.std.proofs.Common.{◌≡◌, ◌+◌, ◌≤◌, true, Option, List, ℕ, length, take, drop, sym, ◌∙◌, ap, subst, arith}
use Rattle.mc_records.specs.Sizes.{tail_bytes}
use Rattle.scrip_journal.specs.States.{Reading, known_chain, chain_with}
use Rattle.scrip_journal.specs.Replays.{IsCut, EndsHere}
use Rattle.scrip_journal.specs.declared.ending.Ending.TheVariants.{Unchained}
use Rattle.scrip_journal.proofs.Looking.{ends_in_chain, ends_unchained, ends_so}
use Rattle.scrip_journal.proofs.replay.Replay.look_chain.Goals as goal

pub hold-requires : goal.hold-requires
hold-requires g c = let p = c.requires.payload in omega (arith, p.short, c.tail_len.ensures.short)

pub returns-in-Err-clause-ends : goal.returns-in-Err-clause-ends
returns-in-Err-clause-ends g c =
    let size : c.tail_len.result ≡ tail_bytes c.args.self.now.switched = c.tail_len.ensures.value ∙ ap (λ (v : Reading g.row.D.Denot). tail_bytes v.switched) c.self.view_is in
    ends_so g.D.Disk.disk c.args.self.now c.hold.new.self c.hold.ensures.ahead c.args.bytes c.requires.payload c.in-Err.ending c.ends_behind.result
    (λ e fits of_entry. ends_in_chain g.D.Disk.disk c.args.self.now c.hold.new.self c.hold.ensures.ahead c.args.bytes c.requires.payload e fits of_entry c.in-Err.ending
    (subst (λ (t : ℕ). IsCut g.D.Disk.disk c.args.self.now c.hold.new.self (c.args.bytes + 5 + t) c.in-Err.ending) size c.in-Err.ensures.short))
    c.ends_behind.ensures

pub returns-then-not-is_same-clause-ends : goal.returns-then-not-is_same-clause-ends
returns-then-not-is_same-clause-ends g c =
    let ahead = c.hold.ensures.ahead in
    let there = ap (λ (v : Reading g.row.D.Denot). v.gate) c.self-2.view_is in
    let gate : c.args.self.now.gate ≡ c.self-2.inside.gate = omega (arith, there, ahead.same.gate) in
    let on : c.args.self.now.switched ≡ true = sym ahead.same.switched ∙ sym (ap (λ (v : Reading g.row.D.Denot). v.switched) c.self-2.view_is) ∙ c.if-not-self.false in
    let size : c.tail_len.result ≡ 32 = c.tail_len.ensures.value ∙ ap (λ (v : Reading g.row.D.Denot). tail_bytes v.switched) c.self.view_is ∙ ap tail_bytes on in
    let whole : c.args.bytes + 37 ≤ length c.hold.new.self.held = omega (arith, size, c.in_default.ensures.enough) in
    ends_so g.D.Disk.disk c.args.self.now c.hold.new.self ahead c.args.bytes c.requires.payload (Unchained (c.self-2.inside.gate + 5 + c.args.bytes) c.chain_behind-stood.result c.known_chain-chain.result) c.ends_behind-then-not-is_same.result
    (λ e fits of_entry. subst (λ (k : ℕ). EndsHere g.D.Disk.disk c.args.self.now (Unchained (k + 5 + c.args.bytes) c.chain_behind-stood.result c.known_chain-chain.result)) gate
    (ends_unchained g.D.Disk.disk c.args.self.now c.hold.new.self ahead c.args.bytes c.requires.payload e fits of_entry c.chain_behind-stood.result c.known_chain-chain.result on whole c.chain_behind-stood.ensures
    (c.known_chain-chain.ensures ∙ ap known_chain c.chain_with-computed.ensures
    ∙ ap (λ (v : Reading g.row.D.Denot). known_chain (chain_with v.chain c.payload.result.now)) c.self-2.view_is
    ∙ ap (λ (l : List ℕ). known_chain (chain_with c.hold.new.self.chain l)) c.payload.ensures
    ∙ ap (λ (k : Option (List ℕ)). known_chain (chain_with k (take c.args.bytes (drop 5 c.hold.new.self.held)))) ahead.same.chain)
    (λ same. absurd (cc (c.if-not-is_same.ensures.1 same)))))
    c.ends_behind-then-not-is_same.ensures
