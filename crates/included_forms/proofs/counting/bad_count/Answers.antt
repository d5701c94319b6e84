use Rattle.included_forms.proofs.TallyLaws.{none_tally, bad_tally}
use Rattle.included_forms.proofs.counting.bad_count.Goals as goal

pub returns-in-None : goal.returns-in-None
returns-in-None c = λ limit gs. none_tally limit gs c.args.bad c.in-None.is

pub returns-in-Some : goal.returns-in-Some
returns-in-Some c = λ limit gs. bad_tally limit gs c.args.bad c.in-Some.source c.in-Some.is
