-- What may follow, as the stalls answer it.
use Rattle.std.proofs.Common.{◌≡◌, ℕ, List, Option, sym, ap, subst}
use Rattle.std.specs.Prelude.{IfSome, Bool}
use Rattle.mc_requests.specs.declared.limits.Limits.{Limits}
use Rattle.mc_records.specs.Entry.{goods_deed, sale, credit, Entry, Accept, Licence, Stock}
use Rattle.ledger_model.specs.Histories.{History}
use Rattle.ledger_model.specs.Stock.{Sale, sale_at}
use Rattle.ledger_model.specs.Lawful.{unbounded, request_of, MayFollow}
use Rattle.ledger_model.specs.Answer.{answer, Take}
use Rattle.ledger_model.specs.Taken.{IsSupplied}
use Rattle.ledger_model.proofs.TakenLaws.{taken_sale}
use Rattle.broker_stalls.specs.Vendors.{StallsAllow, StallsAnswer}

pub allowed : (limits : Limits) (h : History) (e : Entry) → MayFollow limits h e → StallsAllow h e
allowed limits h (Licence m vendor terms) may = may.allowed.1
allowed limits h (Stock m vendor pieces) may = may.allowed.1
allowed limits h e may = tt

-- of a sale that was answered
pub sale_answered : (limits : Limits) (h : History) (m : ℕ) (scrip target : List ℕ) (sign : Option (List ℕ)) (price : ℕ) (change : Option ℕ) (stock : Bool) (id : ℕ)
    → answer h m (unbounded limits) (request_of scrip target sign) ≡ Take (Accept m scrip target sign price change (sale stock id))
    → StallsAnswer limits.series h (Accept m scrip target sign price change (sale stock id))
sale_answered limits h m scrip target sign price change stock id taken =
    let x = taken_sale h m (unbounded limits) (request_of scrip target sign) m scrip target sign price change stock id taken in
    subst (λ (o : Option Sale). IfSome o (λ s. IsSupplied limits.series h m s.vendor s.value s.stock s.id)) (sym (ap (sale_at stock id) x.asks)) x.supplied

pub answered : (limits : Limits) (h : History) (e : Entry) → MayFollow limits h e → StallsAnswer limits.series h e
answered limits h (Accept m scrip target sign price change goods_deed) may = tt
answered limits h (Accept m scrip target sign price change (credit after)) may = tt
answered limits h (Accept m scrip target sign price change (sale stock id)) may = sale_answered limits h m scrip target sign price change stock id may.allowed
answered limits h e may = tt
