use Rattle.std.proofs.Common.{List, sym, subst}
use Rattle.core_forms.specs.Parts.{IsName}
use Rattle.core_forms.specs.declared.shape.NamePart.{NamePart}
use Rattle.core_tree.specs.Names.{AllMatch}
use Rattle.core_tree.specs.declared.traces.MacroUse as code_use
use Rattle.scheme_model.specs.Order.{meet_waiting}
use Rattle.unit_scopes.specs.Searched.{searched}
use Rattle.unit_scopes.specs.State.{Stands}
use Rattle.unit_scopes.specs.Stepped.{with_uses}
use Rattle.unit_scopes.proofs.UsesMet.{waits_at, use_met}
use Rattle.unit_scopes.proofs.scope.UnitScope.meet.Goals as goal

pub targets-requires-clause-names : goal.targets-requires-clause-names
targets-requires-clause-names c =
    let w = c.requires.waits in
    (w.0.literals, subst (λ (xs : List NamePart). AllMatch (IsName c.args.work.now) xs w.0.literals) (sym c.as_slice.ensures.value) w.1.literals)

pub returns-clause-met : goal.returns-clause-met
returns-clause-met c = λ known ls s fs w stands at waits.
    let work = c.args.work.now in
    let names = subst (λ (xs : List NamePart). AllMatch (IsName work) xs w.literals) (sym c.as_slice.ensures.value) waits.literals in
    let u = c.args.self.now in
    subst (λ (uses : List code_use.MacroUse). Stands work (with_uses u uses) ls (meet_waiting (searched known) fs w s)) (sym c.in_ok-push.ensures.ok)
    (use_met known fs work u ls s c.args.used.now.keyword c.in_ok-literals.literals w stands (waits_at known fs work u ls s c.args.used.now w stands waits).keyword (c.in_ok-literals.ensures ls s fs w.literals stands at names))
