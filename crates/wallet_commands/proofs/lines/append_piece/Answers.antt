use Rattle.std.proofs.Common.{◌∙◌, ap, ℕ}
use Rattle.std.specs.Prelude.{decimal}
use Rattle.scrip_form.specs.Scrip.{id_digits}
use Rattle.wallet_book.specs.Holdings.{state_of}
use Rattle.wallet_commands.proofs.LineLemmas.{piece_joined}
use Rattle.wallet_commands.proofs.lines.append_piece.Goals as goal

pub returns : goal.returns
returns c =
    piece_joined _ _ _ _ _ _ _ _ _ _ _ _ (state_of c.args.x.now.state) c.args.x.now.piece c.in_ok-append_word.ensures c.in_ok-append_word-2.ensures c.in_ok-append_word-3.ensures c.in_ok-append_word-4.ensures
    c.in_ok-extend_from_slice.ensures.items c.in_ok-extend_from_slice-2.ensures.items c.word_of.ensures (c.bytes.ensures.value ∙ c.vendor.ensures.vendor)
    (c.as_bytes.ensures.value ∙ c.format.ensures.text ∙ ap (λ (n : ℕ). decimal n) (c.get.ensures.units ∙ c.value.ensures.value)) (c.digits_of_id.ensures ∙ ap id_digits c.id.ensures.id)
    (c.as_bytes-2.ensures.value ∙ c.format-2.ensures.text ∙ ap (λ (n : ℕ). decimal n) c.expires.ensures.expires)
