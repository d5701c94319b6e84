use Rattle.std.proofs.Common.{List, map, sym, subst}
use Rattle.scheme_model.specs.Live.{unit_leaves}
use Rattle.core_tree.specs.Names.{AllMatch}
use Rattle.core_tree.specs.declared.cores.Target.{Target}
use Rattle.program_findings.specs.Unbound.{IsUnbound, unbound_in}
use Rattle.program_findings.proofs.ReferredForms.{referred}
use Rattle.program_findings.proofs.UnboundLaws.{forms_unbound}
use Rattle.program_findings.proofs.unbound.unbound.Goals as goal

pub returns : goal.returns
returns c = λ work unit rs stand.
    subst (λ (ts : List Target). AllMatch (IsUnbound work.symbols) ts (unbound_in (unit_leaves rs))) (sym c.in_ok-in_forms.ensures) (forms_unbound work unit 0 (map referred c.args.forms.now) rs stand)
