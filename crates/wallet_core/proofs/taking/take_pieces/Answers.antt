use Rattle.std.proofs.Common.{◌≡◌, List, ℕ, ◌++◌, Err, ap, subst, sym, ◌∙◌}
use Rattle.mc_requests.specs.declared.refusal.Refusal.TheVariants.{BadInput}
use Rattle.mc_records.specs.Entry.{IsMoment}
use Rattle.mc_records.specs.Pieces.{pieces_bytes}
use Rattle.piece_lines.specs.declared.rule.PieceRule.TheVariants.{Any}
use Rattle.piece_lines.specs.Rules.{passes}
use Rattle.piece_lines.specs.PieceLines.{input_lines}
use Rattle.piece_lines.proofs.InputLaws.{are_pieces_read}
use Rattle.wallet_book.specs.Holdings.{texts_of}
use Rattle.wallet_core.specs.Taking.{taken_pieces}
use Rattle.wallet_core.proofs.TakenLaws.{taken_exact, taken_elements, taken_may}
use Rattle.wallet_core.proofs.taking.take_pieces.Goals as goal

pub unless_twice-requires : goal.unless_twice-requires
unless_twice-requires c =
    let t = c.in-Ok.ensures.tells in
    let are = are_pieces_read (passes Any) c.args.input.now t.pieces t.read in
    record { pieces = t.pieces; are = are; spelled = t.appended ∙ ap (λ (old : List ℕ). old ++ pieces_bytes t.pieces) c.new-elements.ensures.items }

pub returns-in-Ok-clause-exact : goal.returns-in-Ok-clause-exact
returns-in-Ok-clause-exact c = λ h is.
    let t = c.in-Ok.ensures.tells in
    let are = are_pieces_read (passes Any) c.args.input.now t.pieces t.read in
    let spelled : c.read_piece_lines.new.out.items ≡ pieces_bytes t.pieces = t.appended ∙ ap (λ (old : List ℕ). old ++ pieces_bytes t.pieces) c.new-elements.ensures.items in
    taken_exact c.args.book.now h (input_lines (passes Any) c.args.input.now) t.pieces c.read_piece_lines.new.out.items c.unless_twice.result is t.read are spelled (c.unless_twice.ensures.taken t.pieces are spelled)

pub returns-in-Ok-clause-elements : goal.returns-in-Ok-clause-elements
returns-in-Ok-clause-elements c =
    let t = c.in-Ok.ensures.tells in
    let are = are_pieces_read (passes Any) c.args.input.now t.pieces t.read in
    let spelled : c.read_piece_lines.new.out.items ≡ pieces_bytes t.pieces = t.appended ∙ ap (λ (old : List ℕ). old ++ pieces_bytes t.pieces) c.new-elements.ensures.items in
    taken_elements (texts_of c.args.book.now.holdings) t.pieces c.read_piece_lines.new.out.items c.unless_twice.result are spelled (c.unless_twice.ensures.taken t.pieces are spelled)

pub returns-in-Ok-clause-may : goal.returns-in-Ok-clause-may
returns-in-Ok-clause-may c = λ h is.
    let t = c.in-Ok.ensures.tells in
    let are = are_pieces_read (passes Any) c.args.input.now t.pieces t.read in
    let spelled : c.read_piece_lines.new.out.items ≡ pieces_bytes t.pieces = t.appended ∙ ap (λ (old : List ℕ). old ++ pieces_bytes t.pieces) c.new-elements.ensures.items in
    let moment : IsMoment c.args.book.now.time = subst IsMoment c.time.ensures c.seconds-seconds.ensures.last in
    taken_may c.args.book.now h t.pieces c.read_piece_lines.new.out.items c.unless_twice.result is moment c.unless_twice.ensures.taken are spelled

pub returns-in-Err-Line-clause-exact : goal.returns-in-Err-Line-clause-exact
returns-in-Err-Line-clause-exact c = λ h is.
    let told = rw c.in-Err-Line.field-0-is at c.in-Err-Line.ensures.tells in
    ap (taken_pieces h c.args.book.now.time) told ∙ ap (λ (n : ℕ). Err (BadInput n)) (sym c.from.ensures)
