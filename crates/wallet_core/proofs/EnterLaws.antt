-- Adding an entry to a wallet's book.
use Rattle.std.proofs.Common.{◌≡◌, ◌∙◌, ℕ, ◌+◌, ◌<◌, ◌≤◌, Bool, true, false, [], ◌∷◌, ◌++◌, length, Ok, Err, refl, sym, ap, arith}
use Rattle.std.proofs.lemmas.Bool.{le-ltb, lt-ltb}
use Rattle.mc_outside.specs.DiskView.{DiskView, IsDisk, Ran}
use Rattle.mc_outside.proofs.Runs.{ran_none}
use Rattle.mc_requests.specs.declared.limits.TheConstants.Limits.{MOST_JOURNAL}
use Rattle.mc_requests.specs.declared.refusal.Refusal.TheVariants.{JournalFull}
use Rattle.mc_records.specs.declared.sizes.TheConstants.{FRAME}
use Rattle.mc_records.specs.Entry.{Entry, payload}
use Rattle.mc_records.specs.Sizes.{size, entry_size, tail_bytes}
use Rattle.ledger_model.specs.Histories.{History}
use Rattle.ledger_model.specs.Lines.{Refuse, ◌>>=◌, refused_if}
use Rattle.ledger_model.specs.Answer.{fitted}
use Rattle.scrip_journal.specs.States.{AtRest, IsJournal}
use Rattle.scrip_journal.specs.Rests.{journal_leaves}
use Rattle.scrip_journal.specs.Exits.{EncodesNoOutput}
use Rattle.scrip_journal.proofs.Bodies.{size_more}
use Rattle.wallet_book.specs.Book.{BookView, WalletRepresents, Learns}
use Rattle.wallet_book.proofs.BookLaws.{long_entry}
use Rattle.wallet_model.specs.Follows.{WalletFollows}

-- ---- whether it fits

refused_by : (e : Entry) (full : Bool) (n m : ℕ) → full ≡ true → (refused_if full (JournalFull n m) >>= λ u. Ok e) ≡ Err (Refuse (JournalFull n m))
refused_by e true n m is = refl
refused_by e false n m is = absurd cc

passed_by : (e : Entry) (full : Bool) (n m : ℕ) → full ≡ false → (refused_if full (JournalFull n m) >>= λ u. Ok e) ≡ Ok e
passed_by e false n m is = refl
passed_by e true n m is = absurd cc

-- with this many bytes of a payload the journal is within its limit
pub fits : (b : BookView) (h : History) (e : Entry) (n : ℕ) → WalletRepresents b h → n ≡ length (payload e) → b.size + n + tail_bytes b.switched + FRAME ≤ b.limits.journal → fitted h b.limits e ≡ Ok e
fits b h e n is long within = passed_by e _ (size h) (length (payload e)) (le-ltb b.limits.journal (size h + entry_size h e) (omega (arith, long_entry h e, ap tail_bytes is.switched, is.sized, long, within)))

-- or it passes it
pub is_full : (b : BookView) (h : History) (e : Entry) (n : ℕ) → WalletRepresents b h → n ≡ length (payload e) → b.limits.journal < b.size + n + tail_bytes b.switched + FRAME → fitted h b.limits e ≡ Err (Refuse (JournalFull b.size n))
is_full b h e n is long over =
    refused_by e _ (size h) (length (payload e)) (lt-ltb b.limits.journal (size h + entry_size h e) (omega (arith, long_entry h e, ap tail_bytes is.switched, is.sized, long, over)))
    ∙ ap (λ (s : ℕ). Err (Refuse (JournalFull s (length (payload e))))) is.sized ∙ ap (λ (k : ℕ). Err (Refuse (JournalFull b.size k))) (sym long)

-- what fits does not pass it
pub not_full : (b : BookView) (h : History) (e : Entry) → fitted h b.limits e ≡ Ok e → b.limits.journal < size h + entry_size h e → ⊥
not_full b h e fits over =
    let full : fitted h b.limits e ≡ Err (Refuse (JournalFull (size h) (length (payload e)))) = refused_by e _ (size h) (length (payload e)) (lt-ltb b.limits.journal (size h + entry_size h e) over) in
    absurd cc

-- ---- nothing was written

pub ran_nothing : {D : Type 0} (view : D → DiskView) (j : AtRest D) (h : History) → IsDisk (view j.disk) → IsJournal view j h → Ran (view j.disk) (view j.disk) (EncodesNoOutput h (view j.disk).aside)
ran_nothing view j h disk is = ran_none (view j.disk) (EncodesNoOutput h (view j.disk).aside) disk (λ c leaves. (journal_leaves view j h is c leaves, refl))

-- ---- it was written

-- a journal with an entry more has room for it
pub has_room : {D : Type 0} (view : D → DiskView) (j : AtRest D) (h : History) (e : Entry) → IsJournal view j (h ++ e ∷ []) → size h + entry_size h e ≤ MOST_JOURNAL
has_room view j h e is = omega (arith, size_more h e, is.stands.most)

-- an entry that may follow is learned
pub learned : (b : BookView) (h : History) (e : Entry) (told : Bool) → WalletFollows h e → Learns b h e told → (told ≡ true) × WalletRepresents b (h ++ e ∷ [])
learned b h e true may is = (refl, is.1)
learned b h e false may is = absurd (is may)
