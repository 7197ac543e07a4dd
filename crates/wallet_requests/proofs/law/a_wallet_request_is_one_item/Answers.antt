use Rattle.wallet_requests.proofs.SentLemmas.{request_is_whole, request_is_item, part_is_none, history_asks}
use Rattle.wallet_requests.proofs.law.a_wallet_request_is_one_item.Goals as goal

pub returns : goal.returns
returns c = record {
  whole = λ p more can. request_is_whole p more can;
  heads = λ p more can. request_is_item p more can;
  part = λ p n can lt. part_is_none p n can lt;
  asked = λ h n p fits is. history_asks h n p fits is;
}
