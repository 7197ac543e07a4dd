use Rattle.std.proofs.Common.{◌≡◌, sym, ◌∙◌}
use Rattle.mc_requests.specs.Requests.{asked_of}
use Rattle.kept_replies.proofs.ReplyLaws.{not_kept}
use Rattle.case_lines.proofs.issue_verbs.put_entry.Goals as goal

pub keep-requires-clause-new_request : goal.keep-requires-clause-new_request
keep-requires-clause-new_request c =
    let same : c.reserve.new.self.keep ≡ c.args.kept.now.keep = c.reserve.ensures.keep ∙ c.forget.ensures.keep in
    not_kept c.reserve.new.self c.clamped-start.result (asked_of c.args.q.now) c.args.kept.now.replies
    (rw same (c.reserve.ensures.replies ∙ c.forget.ensures.replies))
    (c.find.ensures.none.0 (sym c.is_some.ensures ∙ c.if-is_some.false))
