use Rattle.keyring_file.proofs.GatheredLemmas.{in_order-is}
use Rattle.keyring_file.proofs.area_reading.in_order.Goals as goal

pub returns : goal.returns
returns c = in_order-is c.from_values.result c.args.pairs.items c.pairs_gather_one_list.ensures c.from_values.ensures
