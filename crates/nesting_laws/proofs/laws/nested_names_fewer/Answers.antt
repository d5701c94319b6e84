use Rattle.nesting_laws.proofs.Closed.{fewer_onward, not_all_onward}
use Rattle.nesting_laws.proofs.laws.nested_names_fewer.Goals as goal

pub returns-clause-named : goal.returns-clause-named
returns-clause-named c = λ all n m there named apart. fewer_onward all n m there named apart

pub returns-clause-most : goal.returns-clause-most
returns-clause-most c = λ all m there apart. not_all_onward all m there apart
