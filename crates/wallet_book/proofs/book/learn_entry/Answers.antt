use Rattle.std.proofs.Common.{refl}
use Rattle.mc_records.specs.Entry.{Note}
use Rattle.wallet_book.proofs.EntryLaws.{learned_still}
use Rattle.wallet_book.proofs.LearnLaws.{switches}
use Rattle.wallet_book.proofs.book.learn_entry.Goals as goal

pub returns-in-Got : goal.returns-in-Got
returns-in-Got c = λ h book is number on tells. rw c.in-Got.is (c.learn_got.ensures h c.in-Got.moment book is)

pub returns-in-Pend : goal.returns-in-Pend
returns-in-Pend c = λ h book is number on tells. rw c.in-Pend.is (c.learn_pend.ensures h c.in-Pend.moment book is number)

pub returns-in-Done : goal.returns-in-Done
returns-in-Done c = λ h book is number on tells. rw c.in-Done.is (c.learn_done.ensures h c.in-Done.moment c.in-Done.price book is)

pub returns-in-Refused : goal.returns-in-Refused
returns-in-Refused c = λ h book is number on tells. rw c.in-Refused.is (c.learn_refused.ensures h c.in-Refused.moment book is)

pub returns-in-Switch : goal.returns-in-Switch
returns-in-Switch c = λ h book is number on tells. rw c.in-Switch.is (switches h _ _ c.in-Switch.moment c.in-Switch.chain c.args.switched is on (rw c.in-Switch.is at tells))

pub returns-in-Note : goal.returns-in-Note
returns-in-Note c = λ h book is number on tells. rw c.in-Note.is (refl, learned_still h _ _ (Note c.in-Note.moment c.in-Note.tag.now c.in-Note.bytes.now) (record { no_request = refl; no_settlement = λ n. refl; no_piece = λ g. refl; no_move = λ g t. refl }) is)
