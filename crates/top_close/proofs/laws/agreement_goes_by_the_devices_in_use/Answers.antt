use Rattle.eng_cols.specs.Contents.{AnyStripe}
use Rattle.top_close.proofs.DyingLaws.{agrees_by_devices}
use Rattle.top_close.proofs.laws.agreement_goes_by_the_devices_in_use.Goals as goal

pub returns : goal.returns
returns c = λ y old new cols blocks. agrees_by_devices y old new cols blocks AnyStripe
