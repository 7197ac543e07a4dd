-- The statuses of refusals.
use Rattle.std.proofs.Common.{◌≢◌, refl, arith}
use Rattle.std.specs.Prelude.{IsTrue}
use Rattle.mc_requests.specs.declared.refusal.Refusal.{Refusal}
use Rattle.mc_requests.specs.declared.refusal.Refusal.TheVariants.{BadHead, HeadTooLarge, NoHost, BodyRefused, BadTarget, BadMethod, RepeatedField, NoScrip, BadScrip, WrongVendor, UnknownIssuer, ExpiryMismatch, BadCertificate, Expired, Spent, NeedSignature, BadSignature, NoSuchGoods, TooLittle, SeriesFull, JournalFull, WrongVersion, NoAccount, StaleOrder, PoorAccount, NoVendor, NoStock, AccountFull, NotPlain, OverBudget, UpstreamFault, NoMemory, DiskFault}
use Rattle.mc_requests.specs.Refusals.{status_of}
use Rattle.millicent_http.specs.ReplyHeads.{is_status}

pub has_a_status : (f : Refusal) → status_of f ≢ 0 → IsTrue (is_status (status_of f)) × (status_of f ≢ 200)
has_a_status BadHead h = (refl, λ e. omega arith)
has_a_status HeadTooLarge h = (refl, λ e. omega arith)
has_a_status NoHost h = (refl, λ e. omega arith)
has_a_status BodyRefused h = (refl, λ e. omega arith)
has_a_status BadTarget h = (refl, λ e. omega arith)
has_a_status BadMethod h = (refl, λ e. omega arith)
has_a_status RepeatedField h = (refl, λ e. omega arith)
has_a_status NoScrip h = (refl, λ e. omega arith)
has_a_status (BadScrip a) h = (refl, λ e. omega arith)
has_a_status WrongVendor h = (refl, λ e. omega arith)
has_a_status UnknownIssuer h = (refl, λ e. omega arith)
has_a_status (ExpiryMismatch a b) h = (refl, λ e. omega arith)
has_a_status BadCertificate h = (refl, λ e. omega arith)
has_a_status (Expired a b) h = (refl, λ e. omega arith)
has_a_status Spent h = (refl, λ e. omega arith)
has_a_status NeedSignature h = (refl, λ e. omega arith)
has_a_status BadSignature h = (refl, λ e. omega arith)
has_a_status NoSuchGoods h = (refl, λ e. omega arith)
has_a_status (TooLittle a) h = (refl, λ e. omega arith)
has_a_status (SeriesFull a) h = (refl, λ e. omega arith)
has_a_status (JournalFull a b) h = (refl, λ e. omega arith)
has_a_status (WrongVersion a) h = (refl, λ e. omega arith)
has_a_status NoAccount h = (refl, λ e. omega arith)
has_a_status (StaleOrder a) h = (refl, λ e. omega arith)
has_a_status (PoorAccount a) h = (refl, λ e. omega arith)
has_a_status NoVendor h = (refl, λ e. omega arith)
has_a_status (NoStock a) h = (refl, λ e. omega arith)
has_a_status (AccountFull a) h = (refl, λ e. omega arith)
has_a_status NotPlain h = (refl, λ e. omega arith)
has_a_status (OverBudget a) h = (refl, λ e. omega arith)
has_a_status UpstreamFault h = (refl, λ e. omega arith)
has_a_status NoMemory h = (refl, λ e. omega arith)
has_a_status DiskFault h = (refl, λ e. omega arith)
has_a_status _ h = absurd (h refl)
