use Rattle.std.proofs.Common.{arith}
use Rattle.tests_items.proofs.ThousandLemmas.{all-thousand, bounded, of-tenth_group, of-third_group, of-thirteenth}
use Rattle.tests_items.proofs.counting.found_in.Goals as goal
use Rattle.tests_items.specs.Thousand.{tenth_group, third_group, thirteenth}

pub returns-clause-thirteenth : goal.returns-clause-thirteenth
returns-clause-thirteenth g c = λ is are. bounded c.args.wanted.now c.args.items.now thirteenth c.args.steps.now c.find.new.steps 1 2 is are c.find.ensures.few (omega arith) of-thirteenth

pub returns-clause-third_group : goal.returns-clause-third_group
returns-clause-third_group g c = λ is are. bounded c.args.wanted.now c.args.items.now third_group c.args.steps.now c.find.new.steps 0 100 is are c.find.ensures.few (omega arith) of-third_group

pub returns-clause-tenth_group : goal.returns-clause-tenth_group
returns-clause-tenth_group g c = λ is are. omega (arith, bounded c.args.wanted.now c.args.items.now tenth_group c.args.steps.now c.find.new.steps 0 0 is are c.find.ensures.few (omega arith) of-tenth_group)

pub returns-clause-all : goal.returns-clause-all
returns-clause-all g c = λ is none. omega (arith, all-thousand c.args.items.now is, c.find.ensures.few_of_all none)
