use Rattle.std.proofs.Common.{◌||◌, is_some, refl, sym, ap, ◌∙◌}
use Rattle.std.specs.List.{list_any}
use Rattle.std.proofs.lemmas.Bool.{or_from}
use Rattle.mc_requests.specs.Requests.{asked_of}
use Rattle.kept_replies.specs.Index.{slot_leads}
use Rattle.kept_replies.specs.Store.{is_repeat}
use Rattle.kept_replies.proofs.SearchLaws.{is_some-find, find_passes_if}
use Rattle.kept_replies.proofs.kept.Kept.first_repeat.Goals as goal

pub returns-in-None-first_in-clause-repeat : goal.returns-in-None-first_in-clause-repeat
returns-in-None-first_in-clause-repeat c =
    find_passes_if (is_repeat c.args.self.now c.args.now (asked_of c.args.q.now)) c.args.older.now c.first_older.result c.first_older.ensures

pub returns-in-None-first_in-clause-none : goal.returns-in-None-first_in-clause-none
returns-in-None-first_in-clause-none c = λ none.
    let p = is_repeat c.args.self.now c.args.now (asked_of c.args.q.now) in
    let first = list_any (slot_leads c.args.tag p) c.args.first.now in
    let second = list_any (slot_leads c.args.tag p) c.args.second.now in
    or_from (first || second) (list_any p c.args.older.now) (or_from first second (c.in-None.ensures.none refl) (c.in-None-first_in.ensures.none refl))
    (sym (is_some-find p c.args.older.now) ∙ ap is_some (sym c.first_older.ensures) ∙ none)
