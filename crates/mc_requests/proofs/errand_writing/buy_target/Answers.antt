use Rattle.std.proofs.Common.{◌≡◌, ℕ, List, ◌++◌, take, codes, append_assoc, subst, sym, ap}
use Rattle.std.specs.Prelude.{decimal}
use Rattle.scrip_form.specs.Texts.{IsTarget}
use Rattle.mc_requests.specs.Errands.{buy, IsErrand, errand_text}
use Rattle.mc_requests.proofs.errand_writing.buy_target.Goals as goal

pub target_of-requires : goal.target_of-requires
target_of-requires c =
    let vendor : List ℕ = c.args.vendor.now in
    let errand : IsErrand (buy vendor c.args.amount) = (c.bytes.ensures.name, record { some = c.requires; within = c.get.ensures.most }) in
    let text : take c.put_number-at.result c.put_number-at.new.out ≡ errand_text (buy vendor c.args.amount) =
    rw (c.put_number-at.ensures.put, c.put-at-3.ensures.put, c.put-at-2.ensures.put, c.put-at.ensures.put, c.bytes.ensures.value, c.get.ensures.units) (ap (λ (t : List ℕ). codes "/buy/" ++ t) (append_assoc vendor (codes "/") (decimal c.args.amount))) in
    subst IsTarget (sym text) (c.errands_are_texts.ensures.target (buy vendor c.args.amount) errand)
