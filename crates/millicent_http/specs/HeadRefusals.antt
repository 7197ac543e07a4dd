-- The refusals of heads, among all refusals.
use Rattle.mc_requests.specs.declared.refusal.Refusal.{Refusal}
use Rattle.mc_requests.specs.declared.refusal.Refusal.TheVariants as refusals
use Rattle.millicent_http.specs.declared.item.HeadRefusal.{HeadRefusal}
use Rattle.millicent_http.specs.declared.item.HeadRefusal.TheVariants.{BadHead, HeadTooLarge, NoHost, BodyRefused, BadTarget, BadMethod, RepeatedField}

abbrev pub as_refusal : HeadRefusal → Refusal
as_refusal BadHead = refusals.BadHead
as_refusal HeadTooLarge = refusals.HeadTooLarge
as_refusal NoHost = refusals.NoHost
as_refusal BodyRefused = refusals.BodyRefused
as_refusal BadTarget = refusals.BadTarget
as_refusal BadMethod = refusals.BadMethod
as_refusal RepeatedField = refusals.RepeatedField
