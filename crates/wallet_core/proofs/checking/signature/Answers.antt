use Rattle.std.proofs.Common.{◌≡◌, List, ℕ, [], ◌∷◌, ◌++◌, append_assoc, subst}
use Rattle.scrip_form.specs.Scrip.{text_version}
use Rattle.scrip_certs.specs.Hashing.{Hashes}
use Rattle.scrip_certs.specs.Digests.{line, request_text, reply_signature}
use Rattle.mc_requests.specs.Replies.{or_dash}
use Rattle.mc_requests.specs.Requests.{seen}
use Rattle.reply_reader.specs.Seen.{received_of}
use Rattle.wallet_model.specs.Received.{line_read}
use Rattle.wallet_core.proofs.checking.signature.Goals as goal

joined : (a h k n s : List ℕ) → (((([] ++ a) ++ h) ++ k) ++ n) ++ s ≡ (a ++ ((h ++ k) ++ n)) ++ s
joined a h k n s = simp append_assoc

pub returns : goal.returns
unfolding reply_signature
returns c =
    let a : List ℕ = line (or_dash (seen c.args.p.now.scrip)) ++ line (request_text c.args.p.now.target.now) in
    let h : List ℕ = line_read (received_of c.args.r.now) in
    let k : List ℕ = c.args.r.now.contents.now in
    let n : List ℕ = 10 ∷ [] in
    let s : List ℕ = c.args.p.now.secret in
    let v : ℕ = text_version (or_dash (seen c.args.p.now.scrip)) in
    let request : Hashes c.add_request.new.hasher v ([] ++ a) = rw c.or_dash-scrip.ensures at c.add_request.ensures v [] (rw c.or_dash-scrip.ensures at c.of_text-hasher.ensures) in
    let last : Hashes c.update-3.new.self v ((((([] ++ a) ++ h) ++ k) ++ n) ++ s) =
    c.update-3.ensures v (((([] ++ a) ++ h) ++ k) ++ n) (c.update-2.ensures v ((([] ++ a) ++ h) ++ k) (c.update.ensures v (([] ++ a) ++ h) (c.add_head.ensures v ([] ++ a) request))) in
    c.finalize.ensures v ((a ++ ((h ++ k) ++ n)) ++ s) (subst (Hashes c.update-3.new.self v) (joined a h k n s) last)
