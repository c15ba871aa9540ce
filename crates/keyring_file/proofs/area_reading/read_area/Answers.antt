use Rattle.std.proofs.Common.{arith}
use Rattle.keyring_file.proofs.Answering.{items_found, items_count, items_only, items_few}
use Rattle.keyring_file.proofs.area_reading.read_area.Goals as goal

pub returns-clause-found : goal.returns-clause-found
returns-clause-found c = items_found (λ v. v.items) c.args.area.now c.args.items c.area_of.result (λ i. omega (arith, c.type_inv.area i)) c.area_of.ensures

pub returns-clause-count : goal.returns-clause-count
returns-clause-count c = items_count (λ v. v.items) c.args.area.now c.args.items c.area_of.result (λ i. omega (arith, c.type_inv.area i)) c.area_of.ensures

pub returns-clause-only : goal.returns-clause-only
returns-clause-only c = items_only (λ v. v.items) c.args.area.now c.args.items c.area_of.result c.area_of.ensures

pub returns-clause-few : goal.returns-clause-few
returns-clause-few c = items_few (λ v. v.items) c.args.area.now c.args.items c.area_of.result (λ i. omega (arith, c.type_inv.area i)) c.area_of.ensures
