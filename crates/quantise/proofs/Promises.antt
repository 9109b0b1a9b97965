-- Everything that quantising promises. Assumes nothing.
use Rattle.quantise.specs.Promises.{Promises}
use Rattle.quantise.proofs.Account.{account}
use Rattle.quantise.proofs.Values.{values}
use Rattle.quantise.proofs.Peaks.{findings}
use Rattle.quantise.proofs.Unique.{no_second}

pub promises : Promises
promises = record { account = account; values = values; findings = λ p done. findings p done; no_second = no_second }
