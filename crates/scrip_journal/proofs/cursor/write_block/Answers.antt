use Rattle.std.proofs.Common.{◌≡◌, ◌+◌, ◌++◌, ◌∷◌, [], List, ℕ, ap, ap₂, ◌∙◌, take, length, arith}
use Rattle.std.specs.Int.{w32, to_be_bytes}
use Rattle.mc_records.specs.Entry.{payload}
use Rattle.mc_records.specs.Sizes.{tail_by, tail_bytes}
use Rattle.mc_records.specs.Views.{entry}
use Rattle.scrip_journal.proofs.Bodies.{take_front}
use Rattle.scrip_journal.proofs.cursor.write_block.Goals as goal

pub returns-clause-block : goal.returns-clause-block
returns-clause-block c =
    let n = length (payload (entry c.args.r.now)) in
    let bytes = c.put_payload-bytes.result in
    let rest = c.put_tail.new.out in
    let head : c.copy_from_slice.new.self ≡ to_be_bytes w32 n = c.copy_from_slice.ensures.after ∙ c.to_be_bytes.ensures ∙ ap (to_be_bytes w32) c.put_payload-bytes.ensures.size in
    let total : bytes + (c.tail_len.result + 5) ≡ 4 + (bytes + tail_bytes c.args.switched + 1) = omega (arith, c.tail_len.ensures.value) in
    ap₂ (λ (k : ℕ) (h : List ℕ). take k (h ++ rest)) total head
    ∙ take_front (to_be_bytes w32 n) rest (bytes + tail_bytes c.args.switched + 1)
    ∙ ap (λ (l : List ℕ). to_be_bytes w32 n ++ l) (c.put_tail.ensures.written ∙ ap₂ (λ (l t : List ℕ). l ++ (tail_by c.args.switched t ++ 0 ∷ [])) c.put_payload-bytes.ensures.payload c.known_chain.ensures)
