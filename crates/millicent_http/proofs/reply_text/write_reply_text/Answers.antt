use Rattle.mc_requests.specs.Replies.{reply_text}
use Rattle.millicent_http.proofs.Appends.{after}
use Rattle.millicent_http.proofs.reply_text.write_reply_text.Goals as goal

pub returns-clause-text : goal.returns-clause-text
unfolding reply_text
returns-clause-text c =
    after _ _ _ _ c.put.ensures.put
    (after _ _ _ _ c.put_change_or_dash-at.ensures.put
    (after _ _ _ _ c.put-at-3.ensures.put
    (after _ _ _ _ c.put_number_or_dash-at.ensures.put
    (after _ _ _ _ c.put-at-2.ensures.put
    (after _ _ _ _ c.put_refusal_or_dash-at.ensures.put
    (after _ _ _ _ c.put-at.ensures.put (rw c.from.ensures at c.put_number-at.ensures.put)))))))
