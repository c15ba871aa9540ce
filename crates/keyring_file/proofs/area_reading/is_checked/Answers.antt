use Rattle.keyring_file.proofs.AreaLaws.{short-unchecked}
use Rattle.keyring_file.proofs.area_reading.is_checked.Goals as goal

pub returns-then-area-lt16-clause-test : goal.returns-then-area-lt16-clause-test
returns-then-area-lt16-clause-test c = short-unchecked c.args.area.now c.if-area-lt16.true
