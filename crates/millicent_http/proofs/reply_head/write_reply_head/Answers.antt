use Rattle.mc_requests.specs.Replies.{reply_head}
use Rattle.millicent_http.proofs.Appends.{after}
use Rattle.millicent_http.proofs.reply_head.write_reply_head.Goals as goal

pub returns-clause-head : goal.returns-clause-head
unfolding reply_head
returns-clause-head c =
    after _ _ _ _ c.put.ensures.put
    (after _ _ _ _ c.put_sign-at.ensures.put
    (after _ _ _ _ c.put_change-at.ensures.put
    (after _ _ _ _ c.put_price-at.ensures.put
    (after _ _ _ _ c.put_refusal-at.ensures.put
    (after _ _ _ _ c.put_length-at.ensures.put
    (after _ _ _ _ c.put_allow-at.ensures.put
    (after _ _ _ _ c.put_kind-at.ensures.put
    (after _ _ _ _ c.put_field-at.ensures.put
    (after _ _ _ _ c.put_date-at.ensures.put c.put_status-at.ensures.put)))))))))
