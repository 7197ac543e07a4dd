use Rattle.std.proofs.Common.{◌≡◌, true, false, eqb, is_some, ap, sym, ◌∙◌}
use Rattle.kept_replies.specs.Kept.{has_number}
use Rattle.kept_replies.proofs.SearchLaws.{is_some-find}
use Rattle.kept_replies.proofs.kept.Kept.entry_of.Goals as goal

pub returns-in-Some-clause-none : goal.returns-in-Some-clause-none
returns-in-Some-clause-none c =
    let there : true ≡ has_number c.args.self.now.replies c.args.number.now = ap is_some c.in-Some.ensures.reply ∙ is_some-find (λ r. eqb r.entry.number c.args.number.now) c.args.self.now.replies in
    (λ e. absurd cc, λ e. there ∙ e)

pub returns-in-None-clause-none : goal.returns-in-None-clause-none
returns-in-None-clause-none c =
    let not_there : false ≡ has_number c.args.self.now.replies c.args.number.now = ap is_some c.in-None.ensures.reply ∙ is_some-find (λ r. eqb r.entry.number c.args.number.now) c.args.self.now.replies in
    (λ e. sym not_there, λ e. not_there ∙ e)
