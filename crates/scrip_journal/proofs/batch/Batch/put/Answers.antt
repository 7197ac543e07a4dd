use Rattle.std.proofs.Common.{◌≡◌, ◌+◌, ◌≤◌, ◌<◌, ◌++◌, ◌∷◌, [], List, ℕ, Bool, ◌||◌, Option, length, take, refl, sym, ap, ap₂, ◌∙◌, subst, arith}
use Rattle.std.proofs.lemmas.List.{length-take}
use Rattle.std.specs.Prelude.{IsSome, true}
use Rattle.std.specs.Int.{w32, to_be_bytes}
use Rattle.mc_records.specs.Entry.{Entry, payload}
use Rattle.mc_records.specs.Chains.{has_switch, is_switch}
use Rattle.mc_records.specs.Sizes.{tail, tail_by, tail_bytes, entry_size}
use Rattle.mc_records.proofs.SizeLaws.{length-tail, tail_size-by}
use Rattle.mc_records.specs.Views.{entry}
use Rattle.mc_records.proofs.ChainLaws.{has_switch-more}
use Rattle.scrip_journal.specs.Layout.{framed}
use Rattle.scrip_journal.specs.States.{IsChainOf, IsKnown, known_chain, chain_with}
use Rattle.scrip_journal.specs.Batches.{InBatch, IsBatch}
use Rattle.scrip_journal.proofs.Bodies.{block_is, framed_long}
use Rattle.scrip_journal.proofs.Known.{chain_goes_on, tail_of, tail_long, known_more}
use Rattle.scrip_journal.proofs.BatchSteps.{frame_closed, frame_long, buffer_grown, is_gathered}
use Rattle.scrip_journal.proofs.batch.Batch.put.Goals as goal

pub invariant_of-self : goal.invariant_of-self
invariant_of-self g c =
    let e = entry c.args.r.now in
    let inside = c.self.inside in
    let put = c.put_block_at-bytes in
    let t = tail_by inside.at.switched (known_chain put.result.1) in
    let t_long : length t ≡ tail_bytes inside.at.switched = ap (λ (k : Option (List ℕ)). length (tail_by inside.at.switched (known_chain k))) put.ensures.chain ∙ tail_long inside.at.switched inside.at.chain (payload e) in
    let long = frame_long (length (payload e)) (payload e) t in
    let old_long : length (take inside.bytes inside.at.buf.items) ≡ inside.bytes = omega (arith, c.self.invariant.0, length-take inside.bytes inside.at.buf.items) in
    let grown = buffer_grown put.new.buf.items (take inside.bytes inside.at.buf.items) (to_be_bytes w32 (length (payload e)) ++ (payload e ++ t)) inside.bytes put.result.0
    (put.ensures.block ∙ ap (λ (l : List ℕ). take inside.bytes inside.at.buf.items ++ 1 ∷ l) (frame_closed (to_be_bytes w32 (length (payload e))) (payload e) t)) old_long (omega (arith, long, t_long, put.ensures.size)) in
    let fits = c.has_room.ensures.0 c.if-not-has_room.false in
    let gate = ap (λ (v : InBatch g.row.D.Denot). v.gate) c.self.view_is in
    let block = ap (λ (v : InBatch g.row.D.Denot). length v.block) c.self.view_is in
    let limit = ap (λ (v : InBatch g.row.D.Denot). v.limit) c.self.view_is in
    let tails = ap (λ (v : InBatch g.row.D.Denot). tail_bytes v.switched) c.self.view_is in
    let known = subst (λ (v : InBatch g.row.D.Denot). is_switch e ≡ true → IsSome v.chain) (sym c.self.view_is) c.requires.known in
    let either = λ (on : c.stands_with-self-inside.result ≡ true). known_more inside.at.switched (is_switch e) inside.at.chain (payload e) c.self.invariant.1.1 known
    (ap (λ (b : Bool). inside.at.switched || b) (sym c.is_switch.ensures) ∙ sym c.stands_with-self-inside.ensures ∙ on) in (
      omega (arith, fits, gate, block, limit, tails, old_long, c.self.invariant.0, put.ensures.size, put.ensures.buffer, c.payload_len.ensures),
      (grown.1, λ on. subst (λ (k : Option (List ℕ)). IsSome k) (sym put.ensures.chain) (either on)),
    )

-- the block is what the entry adds to the journal
adds : (h : List Entry) (e : Entry) (switched : Bool) (block : ℕ) → switched ≡ has_switch h → block ≡ length (payload e) + tail_bytes switched + 5 → block ≡ entry_size h e
adds h e switched block is size = omega (arith, size, ap tail_bytes is, length-tail h e, tail_size-by h)

pub returns-clause-gathered : goal.returns-clause-gathered
returns-clause-gathered g c h es is =
    let e = entry c.args.r.now in
    let all : List Entry = h ++ es in
    let inside = c.self.inside in
    let put = c.put_block_at-bytes in
    let was = c.self.view_is in
    let before = ap (λ (v : InBatch g.row.D.Denot). v.chain) was in
    let switched : inside.at.switched ≡ has_switch all = ap (λ (v : InBatch g.row.D.Denot). v.switched) was ∙ is.switched_is in
    let with_it : IsChainOf (chain_with c.args.self.now.chain (payload e)) (all ++ e ∷ []) = chain_goes_on c.args.self.now.chain all e is.chain_is c.requires.known in
    let chain_is : IsChainOf put.result.1 (all ++ e ∷ []) = subst (λ (k : Option (List ℕ)). IsChainOf k (all ++ e ∷ [])) (sym (put.ensures.chain ∙ ap (λ (k : Option (List ℕ)). chain_with k (payload e)) before)) with_it in
    let t = tail_by inside.at.switched (known_chain put.result.1) in
    let end : t ≡ tail all e = tail_of inside.at.switched put.result.1 all e switched chain_is in
    let framed_is = block_is all e _ t end refl in
    let old_long : length (take inside.bytes inside.at.buf.items) ≡ inside.bytes = omega (arith, c.self.invariant.0, length-take inside.bytes inside.at.buf.items) in
    let long : length (framed all e) + 1 ≡ put.result.0 = framed_long all e ∙ sym (adds all e inside.at.switched put.result.0 switched put.ensures.size) in
    let grown = buffer_grown put.new.buf.items (take inside.bytes inside.at.buf.items) (framed all e) inside.bytes put.result.0
    (put.ensures.block ∙ ap (λ (l : List ℕ). take inside.bytes inside.at.buf.items ++ 1 ∷ l) framed_is) old_long long in
    is_gathered g.D.Disk.disk c.args.self.now h es is e _ c.requires.fits
    (ap (λ (v : InBatch g.row.D.Denot). v.disk) was)
    (ap (λ (v : InBatch g.row.D.Denot). v.gate) was)
    (ap (λ (v : InBatch g.row.D.Denot). v.first) was)
    (grown.0 ∙ ap (λ (v : InBatch g.row.D.Denot). v.block ++ 1 ∷ framed all e) was)
    (ap (λ (v : InBatch g.row.D.Denot). v.entries + 1) was)
    (c.stands_with-self-inside.ensures ∙ ap₂ (λ (a b : Bool). a || b) switched c.is_switch.ensures ∙ sym (has_switch-more all e))
    chain_is
