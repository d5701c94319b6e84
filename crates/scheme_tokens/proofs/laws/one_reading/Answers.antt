use Rattle.scheme_tokens.proofs.Readings as readings
use Rattle.scheme_tokens.proofs.laws.one_reading.Goals as goal

pub returns : goal.returns
returns c = λ text ts us end fin h k. readings.one_reading ts us end fin text h k
