use Rattle.std.proofs.Common.{None, arith}
use Rattle.core_forms.proofs.Fields.{two_names, three_names, not_names}
use Rattle.core_forms.proofs.records.field_with.Goals as goal

pub returns-then-names-eq2 : goal.returns-then-names-eq2
returns-then-names-eq2 c = λ ms are. two_names c.args.work.now c.args.names.now ms (record { ident = 0; occ = None }) are (omega arith)

pub returns-then-names-eq3 : goal.returns-then-names-eq3
returns-then-names-eq3 c = λ ms are. three_names c.args.work.now c.args.names.now ms (record { ident = 0; occ = None }) are (omega arith)

pub returns : goal.returns
returns c = λ ms are. not_names c.args.work.now c.args.names.now ms are (λ e. omega arith) (λ e. omega arith)
