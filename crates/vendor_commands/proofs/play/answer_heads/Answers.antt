use Rattle.std.proofs.Common.{◌≡◌, ◌∙◌, ℕ, refl, ap, subst}
use Rattle.house_core.specs.declared.tally.Tally.{Tally}
use Rattle.play_heads.specs.Playing.{Plays, count_of, link_of}
use Rattle.play_heads.specs.Receiving.{IsPlay, HasPlayed}
use Rattle.vendor_commands.specs.Play.{play_lines}
use Rattle.vendor_commands.proofs.PlayLemmas.{lines_of_play}
use Rattle.vendor_commands.proofs.play.answer_heads.Goals as goal

pub returns : goal.returns
returns c =
    let count = c.args.count in
    let heads = c.serve_bench.new.k in
    let plays : Plays heads = c.serve_bench.ensures.moved.plays c.new-heads.ensures.plays in
    let same : count_of heads ≡ count = c.serve_bench.ensures.moved.count ∙ c.new-heads.ensures.count in
    let play : IsPlay count (link_of heads) = subst (λ (n : ℕ). IsPlay n (link_of heads)) same (c.heads_told_are_of_their_play.ensures heads plays) in
    let played : HasPlayed count (link_of heads) = subst (λ (n : ℕ). HasPlayed n (link_of heads)) same ((c.if-not-is_done.ensures.done plays).0 refl) in
    lines_of_play count c.div_ceil.result c.in-Ok._links c.windows.result c.of.result c.args.bench.now c.serve_bench.new.bench (link_of c.new-heads.result) (link_of heads)
    c.requires c.in-Ok.ensures.tallied c.in-Ok.ensures.used c.new-heads.ensures.untouched play played c.windows.ensures
    (rw c.tally-tally.ensures at c.if-tally-ne0.false)
    (c.of.ensures ∙ c.in_ok-lines.ensures ∙ ap (λ (t : Tally). play_lines count t c.windows.result) c.tally-tally.ensures)
