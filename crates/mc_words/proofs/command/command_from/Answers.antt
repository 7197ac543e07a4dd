use Rattle.std.proofs.Common.{refl}
use Rattle.command_table.specs.declared.table.CommandName.TheVariants as names
use Rattle.command_table.specs.Table.{form_of}
use Rattle.site_words.specs.Words.{broker_founder_values, inquiry_values, licence_upgrading_values, licensing_values, listing_values, looking_values, minting_values, opening_values, movement_values, playing_values, pricing_values, server_values, settling_values, shop_values, stating_values, stocking_values, switching_values, taking_values, upgrading_values, vendor_founder_values}
use Rattle.wallet_words.specs.Words.{buying_values, drawing_values, getting_values, relaying_values, renewing_values, retrying_values, book_alone_values, wallet_founder_values}
use Rattle.mc_words.specs.Commands.{command_with}
use Rattle.mc_words.proofs.command.command_from.Goals as goal

pub returns-in_ok-vendor-in-VendorInit : goal.returns-in_ok-vendor-in-VendorInit
unfolding form_of command_with vendor_founder_values
returns-in_ok-vendor-in-VendorInit c = record { row = names.VendorInit; is = c.in-VendorInit.is; one_sided = refl; values = vendor_founder_values c.in_ok-vendor-in-VendorInit.vendor; found' = c.in_ok-vendor-in-VendorInit.ensures; made = refl }

pub returns-in_ok-listing-in-VendorGoods : goal.returns-in_ok-listing-in-VendorGoods
unfolding form_of command_with listing_values
returns-in_ok-listing-in-VendorGoods c = record { row = names.VendorGoods; is = c.in-VendorGoods.is; one_sided = refl; values = listing_values c.in_ok-listing-in-VendorGoods.listing; found' = c.in_ok-listing-in-VendorGoods.ensures; made = refl }

pub returns-in_ok-pricing-in-VendorPrice : goal.returns-in_ok-pricing-in-VendorPrice
unfolding form_of command_with pricing_values
returns-in_ok-pricing-in-VendorPrice c = record { row = names.VendorPrice; is = c.in-VendorPrice.is; one_sided = refl; values = pricing_values c.in_ok-pricing-in-VendorPrice.pricing; found' = c.in_ok-pricing-in-VendorPrice.ensures; made = refl }

pub returns-in_ok-licensing-in-VendorLicence : goal.returns-in_ok-licensing-in-VendorLicence
unfolding form_of command_with licensing_values
returns-in_ok-licensing-in-VendorLicence c = record { row = names.VendorLicence; is = c.in-VendorLicence.is; one_sided = refl; values = licensing_values c.in_ok-licensing-in-VendorLicence.licensing; found' = c.in_ok-licensing-in-VendorLicence.ensures; made = refl }

pub returns-in_ok-minting-in-VendorMint : goal.returns-in_ok-minting-in-VendorMint
unfolding form_of command_with minting_values
returns-in_ok-minting-in-VendorMint c = record { row = names.VendorMint; is = c.in-VendorMint.is; one_sided = refl; values = minting_values c.in_ok-minting-in-VendorMint.minting; found' = c.in_ok-minting-in-VendorMint.ensures; made = refl }

pub returns-in_ok-upgrading-in-VendorUpgrade : goal.returns-in_ok-upgrading-in-VendorUpgrade
unfolding form_of command_with upgrading_values
returns-in_ok-upgrading-in-VendorUpgrade c = record { row = names.VendorUpgrade; is = c.in-VendorUpgrade.is; one_sided = refl; values = upgrading_values c.in_ok-upgrading-in-VendorUpgrade.upgrading; found' = c.in_ok-upgrading-in-VendorUpgrade.ensures; made = refl }

pub returns-in_ok-switching-in-VendorChain : goal.returns-in_ok-switching-in-VendorChain
unfolding form_of command_with switching_values
returns-in_ok-switching-in-VendorChain c = record { row = names.VendorChain; is = c.in-VendorChain.is; one_sided = refl; values = switching_values c.in_ok-switching-in-VendorChain.switching; found' = c.in_ok-switching-in-VendorChain.ensures; made = refl }

pub returns-in_ok-listed-in-VendorList : goal.returns-in_ok-listed-in-VendorList
unfolding form_of command_with looking_values
returns-in_ok-listed-in-VendorList c = record { row = names.VendorList; is = c.in-VendorList.is; one_sided = refl; values = looking_values c.in_ok-listed-in-VendorList.listed; found' = c.in_ok-listed-in-VendorList.ensures; made = refl }

pub returns-in_ok-watched-in-VendorStatus : goal.returns-in_ok-watched-in-VendorStatus
unfolding form_of command_with looking_values
returns-in_ok-watched-in-VendorStatus c = record { row = names.VendorStatus; is = c.in-VendorStatus.is; one_sided = refl; values = looking_values c.in_ok-watched-in-VendorStatus.watched; found' = c.in_ok-watched-in-VendorStatus.ensures; made = refl }

pub returns-in_ok-stating-in-VendorStatement : goal.returns-in_ok-stating-in-VendorStatement
unfolding form_of command_with stating_values
returns-in_ok-stating-in-VendorStatement c = record { row = names.VendorStatement; is = c.in-VendorStatement.is; one_sided = refl; values = stating_values c.in_ok-stating-in-VendorStatement.stating; found' = c.in_ok-stating-in-VendorStatement.ensures; made = refl }

pub returns-in_ok-server-in-VendorServe : goal.returns-in_ok-server-in-VendorServe
unfolding form_of command_with server_values
returns-in_ok-server-in-VendorServe c = record { row = names.VendorServe; is = c.in-VendorServe.is; one_sided = refl; values = server_values c.in_ok-server-in-VendorServe.server; found' = c.in_ok-server-in-VendorServe.ensures; made = refl }

pub returns-in_ok-shop-in-VendorOnce : goal.returns-in_ok-shop-in-VendorOnce
unfolding form_of command_with shop_values
returns-in_ok-shop-in-VendorOnce c = record { row = names.VendorOnce; is = c.in-VendorOnce.is; one_sided = refl; values = shop_values c.in_ok-shop-in-VendorOnce.shop; found' = c.in_ok-shop-in-VendorOnce.ensures; made = refl }

pub returns-in_ok-playing-in-VendorPlay : goal.returns-in_ok-playing-in-VendorPlay
unfolding form_of command_with playing_values
returns-in_ok-playing-in-VendorPlay c = record { row = names.VendorPlay; is = c.in-VendorPlay.is; one_sided = refl; values = playing_values c.in_ok-playing-in-VendorPlay.playing; found' = c.in_ok-playing-in-VendorPlay.ensures; made = refl }

pub returns-in_ok-broker-in-BrokerInit : goal.returns-in_ok-broker-in-BrokerInit
unfolding form_of command_with broker_founder_values
returns-in_ok-broker-in-BrokerInit c = record { row = names.BrokerInit; is = c.in-BrokerInit.is; one_sided = refl; values = broker_founder_values c.in_ok-broker-in-BrokerInit.broker; found' = c.in_ok-broker-in-BrokerInit.ensures; made = refl }

pub returns-in_ok-opening-in-BrokerAccount : goal.returns-in_ok-opening-in-BrokerAccount
unfolding form_of command_with opening_values
returns-in_ok-opening-in-BrokerAccount c = record { row = names.BrokerAccount; is = c.in-BrokerAccount.is; one_sided = refl; values = opening_values c.in_ok-opening-in-BrokerAccount.opening; found' = c.in_ok-opening-in-BrokerAccount.ensures; made = refl }

pub returns-in_ok-deposit-in-BrokerDeposit : goal.returns-in_ok-deposit-in-BrokerDeposit
unfolding form_of command_with movement_values
returns-in_ok-deposit-in-BrokerDeposit c = record { row = names.BrokerDeposit; is = c.in-BrokerDeposit.is; one_sided = refl; values = movement_values c.in_ok-deposit-in-BrokerDeposit.deposit; found' = c.in_ok-deposit-in-BrokerDeposit.ensures; made = refl }

pub returns-in_ok-withdrawal-in-BrokerWithdraw : goal.returns-in_ok-withdrawal-in-BrokerWithdraw
unfolding form_of command_with movement_values
returns-in_ok-withdrawal-in-BrokerWithdraw c = record { row = names.BrokerWithdraw; is = c.in-BrokerWithdraw.is; one_sided = refl; values = movement_values c.in_ok-withdrawal-in-BrokerWithdraw.withdrawal; found' = c.in_ok-withdrawal-in-BrokerWithdraw.ensures; made = refl }

pub returns-in_ok-inquiry-in-BrokerBalance : goal.returns-in_ok-inquiry-in-BrokerBalance
unfolding form_of command_with inquiry_values
returns-in_ok-inquiry-in-BrokerBalance c = record { row = names.BrokerBalance; is = c.in-BrokerBalance.is; one_sided = refl; values = inquiry_values c.in_ok-inquiry-in-BrokerBalance.inquiry; found' = c.in_ok-inquiry-in-BrokerBalance.ensures; made = refl }

pub returns-in_ok-taking-in-BrokerLicence : goal.returns-in_ok-taking-in-BrokerLicence
unfolding form_of command_with taking_values
returns-in_ok-taking-in-BrokerLicence c = record { row = names.BrokerLicence; is = c.in-BrokerLicence.is; one_sided = refl; values = taking_values c.in_ok-taking-in-BrokerLicence.taking; found' = c.in_ok-taking-in-BrokerLicence.ensures; made = refl }

pub returns-in_ok-stocking-in-BrokerStock : goal.returns-in_ok-stocking-in-BrokerStock
unfolding form_of command_with stocking_values
returns-in_ok-stocking-in-BrokerStock c = record { row = names.BrokerStock; is = c.in-BrokerStock.is; one_sided = refl; values = stocking_values c.in_ok-stocking-in-BrokerStock.stocking; found' = c.in_ok-stocking-in-BrokerStock.ensures; made = refl }

pub returns-in_ok-moving-in-BrokerUpgrade : goal.returns-in_ok-moving-in-BrokerUpgrade
unfolding form_of command_with licence_upgrading_values
returns-in_ok-moving-in-BrokerUpgrade c = record { row = names.BrokerUpgrade; is = c.in-BrokerUpgrade.is; one_sided = refl; values = licence_upgrading_values c.in_ok-moving-in-BrokerUpgrade.moving; found' = c.in_ok-moving-in-BrokerUpgrade.ensures; made = refl }

pub returns-in_ok-chained-in-BrokerChain : goal.returns-in_ok-chained-in-BrokerChain
unfolding form_of command_with switching_values
returns-in_ok-chained-in-BrokerChain c = record { row = names.BrokerChain; is = c.in-BrokerChain.is; one_sided = refl; values = switching_values c.in_ok-chained-in-BrokerChain.chained; found' = c.in_ok-chained-in-BrokerChain.ensures; made = refl }

pub returns-in_ok-accounts-in-BrokerList : goal.returns-in_ok-accounts-in-BrokerList
unfolding form_of command_with looking_values
returns-in_ok-accounts-in-BrokerList c = record { row = names.BrokerList; is = c.in-BrokerList.is; one_sided = refl; values = looking_values c.in_ok-accounts-in-BrokerList.accounts; found' = c.in_ok-accounts-in-BrokerList.ensures; made = refl }

pub returns-in_ok-state-in-BrokerStatus : goal.returns-in_ok-state-in-BrokerStatus
unfolding form_of command_with looking_values
returns-in_ok-state-in-BrokerStatus c = record { row = names.BrokerStatus; is = c.in-BrokerStatus.is; one_sided = refl; values = looking_values c.in_ok-state-in-BrokerStatus.state; found' = c.in_ok-state-in-BrokerStatus.ensures; made = refl }

pub returns-in_ok-settling-in-BrokerSettle : goal.returns-in_ok-settling-in-BrokerSettle
unfolding form_of command_with settling_values
returns-in_ok-settling-in-BrokerSettle c = record { row = names.BrokerSettle; is = c.in-BrokerSettle.is; one_sided = refl; values = settling_values c.in_ok-settling-in-BrokerSettle.settling; found' = c.in_ok-settling-in-BrokerSettle.ensures; made = refl }

pub returns-in_ok-desk-in-BrokerServe : goal.returns-in_ok-desk-in-BrokerServe
unfolding form_of command_with server_values
returns-in_ok-desk-in-BrokerServe c = record { row = names.BrokerServe; is = c.in-BrokerServe.is; one_sided = refl; values = server_values c.in_ok-desk-in-BrokerServe.desk; found' = c.in_ok-desk-in-BrokerServe.ensures; made = refl }

pub returns-in_ok-founder-in-WalletInit : goal.returns-in_ok-founder-in-WalletInit
unfolding form_of command_with wallet_founder_values
returns-in_ok-founder-in-WalletInit c = record { row = names.WalletInit; is = c.in-WalletInit.is; one_sided = refl; values = wallet_founder_values c.in_ok-founder-in-WalletInit.founder; found' = c.in_ok-founder-in-WalletInit.ensures; made = refl }

pub returns-in_ok-filling-in-WalletTake : goal.returns-in_ok-filling-in-WalletTake
unfolding form_of command_with book_alone_values
returns-in_ok-filling-in-WalletTake c = record { row = names.WalletTake; is = c.in-WalletTake.is; one_sided = refl; values = book_alone_values c.in_ok-filling-in-WalletTake.filling; found' = c.in_ok-filling-in-WalletTake.ensures; made = refl }

pub returns-in_ok-drawing-in-WalletDraw : goal.returns-in_ok-drawing-in-WalletDraw
unfolding form_of command_with drawing_values
returns-in_ok-drawing-in-WalletDraw c = record { row = names.WalletDraw; is = c.in-WalletDraw.is; one_sided = refl; values = drawing_values c.in_ok-drawing-in-WalletDraw.drawing; found' = c.in_ok-drawing-in-WalletDraw.ensures; made = refl }

pub returns-in_ok-buying-in-WalletBuy : goal.returns-in_ok-buying-in-WalletBuy
unfolding form_of command_with buying_values
returns-in_ok-buying-in-WalletBuy c = record { row = names.WalletBuy; is = c.in-WalletBuy.is; one_sided = refl; values = buying_values c.in_ok-buying-in-WalletBuy.buying; found' = c.in_ok-buying-in-WalletBuy.ensures; made = refl }

pub returns-in_ok-getting-in-WalletGet : goal.returns-in_ok-getting-in-WalletGet
unfolding form_of command_with getting_values
returns-in_ok-getting-in-WalletGet c = record { row = names.WalletGet; is = c.in-WalletGet.is; one_sided = refl; values = getting_values c.in_ok-getting-in-WalletGet.getting; found' = c.in_ok-getting-in-WalletGet.ensures; made = refl }

pub returns-in_ok-retrying-in-WalletRetry : goal.returns-in_ok-retrying-in-WalletRetry
unfolding form_of command_with retrying_values
returns-in_ok-retrying-in-WalletRetry c = record { row = names.WalletRetry; is = c.in-WalletRetry.is; one_sided = refl; values = retrying_values c.in_ok-retrying-in-WalletRetry.retrying; found' = c.in_ok-retrying-in-WalletRetry.ensures; made = refl }

pub returns-in_ok-telling-in-WalletList : goal.returns-in_ok-telling-in-WalletList
unfolding form_of command_with book_alone_values
returns-in_ok-telling-in-WalletList c = record { row = names.WalletList; is = c.in-WalletList.is; one_sided = refl; values = book_alone_values c.in_ok-telling-in-WalletList.telling; found' = c.in_ok-telling-in-WalletList.ensures; made = refl }

pub returns-in_ok-relaying-in-WalletLines : goal.returns-in_ok-relaying-in-WalletLines
unfolding form_of command_with relaying_values
returns-in_ok-relaying-in-WalletLines c = record { row = names.WalletLines; is = c.in-WalletLines.is; one_sided = refl; values = relaying_values c.in_ok-relaying-in-WalletLines.relaying; found' = c.in_ok-relaying-in-WalletLines.ensures; made = refl }

pub returns-in_ok-chaining-in-WalletChain : goal.returns-in_ok-chaining-in-WalletChain
unfolding form_of command_with book_alone_values
returns-in_ok-chaining-in-WalletChain c = record { row = names.WalletChain; is = c.in-WalletChain.is; one_sided = refl; values = book_alone_values c.in_ok-chaining-in-WalletChain.chaining; found' = c.in_ok-chaining-in-WalletChain.ensures; made = refl }

pub returns-in_ok-renewing-in-WalletRenew : goal.returns-in_ok-renewing-in-WalletRenew
unfolding form_of command_with renewing_values
returns-in_ok-renewing-in-WalletRenew c = record { row = names.WalletRenew; is = c.in-WalletRenew.is; one_sided = refl; values = renewing_values c.in_ok-renewing-in-WalletRenew.renewing; found' = c.in_ok-renewing-in-WalletRenew.ensures; made = refl }
