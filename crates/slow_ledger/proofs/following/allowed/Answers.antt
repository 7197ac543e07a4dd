use Rattle.mc_records.specs.Entry.{Goods, Account, Deposit, Withdraw, Licence, Stock, Upgrade, Switch, Note}
use Rattle.mc_records.specs.PieceViews.{pieces_of}
use Rattle.mc_records.specs.TermsViews.{issuing_of}
use Rattle.slow_ledger.proofs.SlowLaws.{prefix_at}
use Rattle.slow_ledger.proofs.LawfulSteps.{operators_allowed}
use Rattle.slow_ledger.proofs.following.allowed.Goals as goal

pub returns-in-Mint : goal.returns-in-Mint
returns-in-Mint c = rw (c.in-Mint.ensures.found, ← c.first-before.ensures) c.mint_allowed.ensures

pub returns-in-Goods : goal.returns-in-Goods
returns-in-Goods c =
    let front = prefix_at c.args.h.now c.args.n (Goods c.in-Goods.moment c.in-Goods.target.now c.in-Goods.price c.in-Goods.kind c.in-Goods.contents.now) c.in-Goods.ensures.found in
    rw (c.in-Goods.ensures.found, ← front, ← c.through.ensures, ← c.first-before.ensures) c.goods_allowed.ensures

pub returns-in-Account : goal.returns-in-Account
returns-in-Account c =
    operators_allowed c.args.h.now c.first-before.result c.args.n c.args.limits c.operator_allowed.result (Account c.in-Account.moment c.in-Account.name.now c.in-Account.key) c.in-Account.ensures.found tt c.first-before.ensures c.operator_allowed.ensures

pub returns-in-Deposit : goal.returns-in-Deposit
returns-in-Deposit c =
    operators_allowed c.args.h.now c.first-before.result c.args.n c.args.limits c.operator_allowed-in-Deposit.result (Deposit c.in-Deposit.moment c.in-Deposit.name.now c.in-Deposit.amount c.in-Deposit.reference.now) c.in-Deposit.ensures.found tt c.first-before.ensures c.operator_allowed-in-Deposit.ensures

pub returns-in-Withdraw : goal.returns-in-Withdraw
returns-in-Withdraw c =
    operators_allowed c.args.h.now c.first-before.result c.args.n c.args.limits c.operator_allowed-in-Withdraw.result (Withdraw c.in-Withdraw.moment c.in-Withdraw.name.now c.in-Withdraw.amount c.in-Withdraw.reference.now) c.in-Withdraw.ensures.found tt c.first-before.ensures c.operator_allowed-in-Withdraw.ensures

pub returns-in-Licence : goal.returns-in-Licence
returns-in-Licence c =
    operators_allowed c.args.h.now c.first-before.result c.args.n c.args.limits c.operator_allowed-in-Licence.result (Licence c.in-Licence.moment c.in-Licence.vendor.now (issuing_of c.in-Licence.terms)) c.in-Licence.ensures.found tt c.first-before.ensures c.operator_allowed-in-Licence.ensures

pub returns-in-Stock : goal.returns-in-Stock
returns-in-Stock c =
    operators_allowed c.args.h.now c.first-before.result c.args.n c.args.limits c.operator_allowed-in-Stock.result (Stock c.in-Stock.moment c.in-Stock.vendor.now (pieces_of c.in-Stock.pieces)) c.in-Stock.ensures.found tt c.first-before.ensures c.operator_allowed-in-Stock.ensures

pub returns-in-Upgrade : goal.returns-in-Upgrade
returns-in-Upgrade c =
    operators_allowed c.args.h.now c.first-before.result c.args.n c.args.limits c.operator_allowed-in-Upgrade.result (Upgrade c.in-Upgrade.moment c.in-Upgrade.vendor.now c.in-Upgrade.issuer c.in-Upgrade.from) c.in-Upgrade.ensures.found tt c.first-before.ensures c.operator_allowed-in-Upgrade.ensures

pub returns-in-Switch : goal.returns-in-Switch
returns-in-Switch c =
    operators_allowed c.args.h.now c.first-before.result c.args.n c.args.limits c.operator_allowed-in-Switch.result (Switch c.in-Switch.moment c.in-Switch.chain) c.in-Switch.ensures.found tt c.first-before.ensures c.operator_allowed-in-Switch.ensures

pub returns-in-Note : goal.returns-in-Note
returns-in-Note c =
    operators_allowed c.args.h.now c.first-before.result c.args.n c.args.limits c.operator_allowed-in-Note.result (Note c.in-Note.moment c.in-Note.tag.now c.in-Note.bytes.now) c.in-Note.ensures.found tt c.first-before.ensures c.operator_allowed-in-Note.ensures
