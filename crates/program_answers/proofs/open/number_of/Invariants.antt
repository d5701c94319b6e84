use Rattle.program_answers.proofs.OpenLaws.{HaveOther}
use Rattle.program_answers.proofs.open.number_of.Given as goal

-- those gone through have other uris
abbrev pub invariant-loop-number : goal.invariant-loop-number
invariant-loop-number l = HaveOther l.documents l.number l.uri
