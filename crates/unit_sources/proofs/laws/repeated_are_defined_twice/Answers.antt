use Rattle.unit_sources.proofs.RepeatedLaws.{repeated_are}
use Rattle.unit_sources.proofs.laws.repeated_are_defined_twice.Goals as goal

pub returns : goal.returns
returns c all n u h = repeated_are all n u h
