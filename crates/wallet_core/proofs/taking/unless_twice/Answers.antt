use Rattle.std.proofs.Common.{◌≡◌, List, ℕ, ap, ◌∙◌, option_map, find}
use Rattle.mc_records.specs.Entry.{Held}
use Rattle.mc_records.specs.PieceViews.{pieces_of}
use Rattle.wallet_book.specs.Holdings.{texts_of}
use Rattle.wallet_core.specs.Taking.{is_twice, id_of}
use Rattle.wallet_core.proofs.TakenLaws.{took_none, took_twice}
use Rattle.wallet_core.proofs.taking.unless_twice.Goals as goal

pub returns-in-Some-clause-taken : goal.returns-in-Some-clause-taken
returns-in-Some-clause-taken c = λ ps are spelled.
    let texts : List (List ℕ) = texts_of c.args.book.now.holdings in
    let same : pieces_of c.taken_list.result ≡ ps = c.taken_list.ensures ps are (c.deref.ensures.value ∙ spelled) in
    took_twice texts ps c.args.elements.items c.in-Some.id (c.in-Some.ensures ∙ ap (λ (qs : List Held). option_map id_of (find (is_twice texts qs) qs)) same)

pub returns-in-None-clause-taken : goal.returns-in-None-clause-taken
returns-in-None-clause-taken c = λ ps are spelled.
    let texts : List (List ℕ) = texts_of c.args.book.now.holdings in
    let same : pieces_of c.taken_list.result ≡ ps = c.taken_list.ensures ps are (c.deref.ensures.value ∙ spelled) in
    took_none texts ps c.args.elements.items c.of.result (c.in-None.ensures ∙ ap (λ (qs : List Held). option_map id_of (find (is_twice texts qs) qs)) same) c.of.ensures
