use Rattle.std.proofs.Common.{Err, sym, subst}
use Rattle.scheme_model.specs.Order.{rules_at}
use Rattle.scheme_model.specs.RulesShape.{Rules}
use Rattle.scheme_model.specs.Ident.{Ident as Identifier}
use Rattle.unit_scopes.specs.Outcomes.{EndsHere}
use Rattle.unit_scopes.specs.Searched.{searched}
use Rattle.unit_scopes.specs.State.{IsMacro}
use Rattle.feature_requirements.specs.declared.fault.ExpandFault.{ExpandFault}
use Rattle.unit_scopes.specs.declared.macros.Macro.{Macro}
use Rattle.unit_scopes.proofs.NodeLaws.{here_err}
use Rattle.unit_scopes.proofs.SyntaxLaws.{counted_rules, uncounted_rules, rules_end, bad_end, read_as}
use Rattle.unit_scopes.proofs.scope.UnitScope.read_macro.Goals as goal

pub count-requires : goal.count-requires
count-requires c = c.requires.look.stands.form.few_nodes

pub returns-in_err-count-clause-read : goal.returns-in_err-count-clause-read
returns-in_err-count-clause-read c = λ known region ls s fs t r stands at for parts.
    let w = c.args.work.now in let u = c.args.self.now in let v = c.count.new.self in let here = c.args.here in
    let P : Macro → Rules Identifier → Type 0 = λ k rs. IsMacro w ls k (record { env = fs; rules = rs }) in
    here_err P w w region u v ls c.from_residual.result c.in_err-count.field-0.0 (rules_at (searched known) here t r s) c.from_residual.ensures.1
    (uncounted_rules known w region u v ls s here t r c.size.result (c.size.ensures t for) stands P c.in_err-count.field-0.0 c.in_err-count.ensures)

pub returns-in_ok-leaves-in-Ok-clause-read : goal.returns-in_ok-leaves-in-Ok-clause-read
returns-in_ok-leaves-in-Ok-clause-read c = λ known region ls s fs t r stands at for parts.
    let w = c.args.work.now in let u = c.args.self.now in let v = c.count.new.self in let here = c.args.here in
    let k : Macro = record { scope = c.args.scope; rules = c.in-Ok.checked; leaves = c.in_ok-leaves-in-Ok.leaves; edition = 0 } in
    let counted = counted_rules known w region u v ls s here t r c.size.result (c.size.ensures t for) stands c.in_ok-count.ensures in
    let h = c.in-Ok.ensures t for in
    rules_end known here t r s w region u v ls parts counted.0 counted.1 (λ k rs. IsMacro w ls k (record { env = fs; rules = rs })) k h.0 h.1
    (read_as w ls fs k t r h.0 at parts h.1 h.2 (c.in_ok-leaves-in-Ok.ensures t h.0 for h.1 h.2))

pub returns-in-Err-clause-read : goal.returns-in-Err-clause-read
returns-in-Err-clause-read c = λ known region ls s fs t r stands at for parts.
    let w = c.args.work.now in let u = c.args.self.now in let v = c.count.new.self in let here = c.args.here in
    let P : Macro → Rules Identifier → Type 0 = λ k rs. IsMacro w ls k (record { env = fs; rules = rs }) in
    let counted = counted_rules known w region u v ls s here t r c.size.result (c.size.ensures t for) stands c.in_ok-count.ensures in
    subst (λ (x : ExpandFault). EndsHere P w w region u v ls (Err x) (rules_at (searched known) here t r s)) (sym c.bad_rules.ensures)
    (bad_end known here t r s w region u v ls parts counted.0 counted.1 P c.in-Err.fault stands.form.few_nodes (c.in-Err.ensures t for))
