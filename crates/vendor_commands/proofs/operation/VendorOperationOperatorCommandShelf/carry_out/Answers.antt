use Rattle.std.proofs.Common.{◌≡◌, ◌∙◌, sym}
use Rattle.site_words.specs.declared.operation.Operation.TheVariants as operations
use Rattle.vendor_commands.proofs.operation.VendorOperationOperatorCommandShelf.carry_out.Goals as goal

pub returns-in-Goods-clause-exact : goal.returns-in-Goods-clause-exact
returns-in-Goods-clause-exact g c h st all begun =
    let said : c.args.self.now ≡ operations.Goods c.in-Goods.listing = sym c.self.view_is ∙ c.in-Goods.is in
    rw said (c.list_goods.ensures.exact h c.args.line.now.items st (rw said at begun))

pub returns-in-Price-clause-exact : goal.returns-in-Price-clause-exact
returns-in-Price-clause-exact g c h st all begun =
    let said : c.args.self.now ≡ operations.Price c.in-Price.pricing = sym c.self.view_is ∙ c.in-Price.is in
    rw said (c.price_goods.ensures.exact h c.args.input.now c.args.line.now.items st (rw said at begun))

pub returns-in-Licence-clause-exact : goal.returns-in-Licence-clause-exact
returns-in-Licence-clause-exact g c h st all begun =
    let said : c.args.self.now ≡ operations.Licence c.in-Licence.licensing = sym c.self.view_is ∙ c.in-Licence.is in
    rw said (c.take_issuer.ensures.exact h c.args.input.now c.args.line.now.items st (rw said at begun))

pub returns-in-Mint-clause-exact : goal.returns-in-Mint-clause-exact
returns-in-Mint-clause-exact g c h st all begun =
    let said : c.args.self.now ≡ operations.Mint c.in-Mint.minting = sym c.self.view_is ∙ c.in-Mint.is in
    rw said (c.mint_pieces.ensures.exact h c.args.input.now st all)

pub returns-in-Upgrade-clause-exact : goal.returns-in-Upgrade-clause-exact
returns-in-Upgrade-clause-exact g c h st all begun =
    let said : c.args.self.now ≡ operations.Upgrade c.in-Upgrade.upgrading = sym c.self.view_is ∙ c.in-Upgrade.is in
    rw said (c.move_issuer.ensures.exact h c.args.input.now c.args.line.now.items st (rw said at begun))

pub returns-in-Chain-clause-exact : goal.returns-in-Chain-clause-exact
returns-in-Chain-clause-exact g c h st all begun =
    let said : c.args.self.now ≡ operations.Chain c.in-Chain.field-0 = sym c.self.view_is ∙ c.in-Chain.is in
    rw said (c.switch_book.ensures.exact h c.args.input.now st (rw said at begun))

pub returns-in-Goods-clause-refusals : goal.returns-in-Goods-clause-refusals
returns-in-Goods-clause-refusals g c =
    let said : c.args.self.now ≡ operations.Goods c.in-Goods.listing = sym c.self.view_is ∙ c.in-Goods.is in
    rw said c.list_goods.ensures.refusals

pub returns-in-Price-clause-refusals : goal.returns-in-Price-clause-refusals
returns-in-Price-clause-refusals g c =
    let said : c.args.self.now ≡ operations.Price c.in-Price.pricing = sym c.self.view_is ∙ c.in-Price.is in
    rw said c.price_goods.ensures.refusals

pub returns-in-Licence-clause-refusals : goal.returns-in-Licence-clause-refusals
returns-in-Licence-clause-refusals g c =
    let said : c.args.self.now ≡ operations.Licence c.in-Licence.licensing = sym c.self.view_is ∙ c.in-Licence.is in
    rw said c.take_issuer.ensures.refusals

pub returns-in-Mint-clause-refusals : goal.returns-in-Mint-clause-refusals
returns-in-Mint-clause-refusals g c =
    let said : c.args.self.now ≡ operations.Mint c.in-Mint.minting = sym c.self.view_is ∙ c.in-Mint.is in
    rw said c.mint_pieces.ensures.refusals

pub returns-in-Upgrade-clause-refusals : goal.returns-in-Upgrade-clause-refusals
returns-in-Upgrade-clause-refusals g c =
    let said : c.args.self.now ≡ operations.Upgrade c.in-Upgrade.upgrading = sym c.self.view_is ∙ c.in-Upgrade.is in
    rw said c.move_issuer.ensures.refusals

pub returns-in-Chain-clause-refusals : goal.returns-in-Chain-clause-refusals
returns-in-Chain-clause-refusals g c =
    let said : c.args.self.now ≡ operations.Chain c.in-Chain.field-0 = sym c.self.view_is ∙ c.in-Chain.is in
    rw said c.switch_book.ensures.refusals

pub returns-in-List-clause-exact : goal.returns-in-List-clause-exact
returns-in-List-clause-exact g c h st all begun =
    let said : c.args.self.now ≡ operations.List c.in-List.field-0 = sym c.self.view_is ∙ c.in-List.is in
    rw said (c.list_on_sale.ensures.exact h c.args.input.now st)

pub returns-in-List-clause-refusals : goal.returns-in-List-clause-refusals
returns-in-List-clause-refusals g c =
    let said : c.args.self.now ≡ operations.List c.in-List.field-0 = sym c.self.view_is ∙ c.in-List.is in
    rw said c.list_on_sale.ensures.refusals

pub returns-in-Status-clause-exact : goal.returns-in-Status-clause-exact
returns-in-Status-clause-exact g c h st all begun =
    let said : c.args.self.now ≡ operations.Status c.in-Status.field-0 = sym c.self.view_is ∙ c.in-Status.is in
    rw said (c.tell_status.ensures.exact h c.args.input.now st)

pub returns-in-Status-clause-refusals : goal.returns-in-Status-clause-refusals
returns-in-Status-clause-refusals g c =
    let said : c.args.self.now ≡ operations.Status c.in-Status.field-0 = sym c.self.view_is ∙ c.in-Status.is in
    rw said c.tell_status.ensures.refusals
