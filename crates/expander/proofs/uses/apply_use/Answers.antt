use Rattle.scheme_model.specs.Order.{use_of}
use Rattle.unit_scopes.specs.Used.{InstanceFor}
use Rattle.feature_requirements.specs.declared.fault.ExpandFault.TheVariants as fault
use Rattle.unit_scopes.proofs.OutcomeLaws.{leaves_itself}
use Rattle.expander.proofs.HeldLaws.{are_held}
use Rattle.expander.proofs.UseNotes.{use_noted}
use Rattle.expander.proofs.uses.apply_use.Goals as goal
use Rattle.noted_steps.specs.Noting.{state_of, noting}
use Rattle.noted_steps.specs.Used.{compared_first}
use Rattle.noted_steps.proofs.NodeLaws.{here_err}
use Rattle.noted_steps.proofs.NoteLaws.{plainly, plain_use}

pub returns-in_err-same-clause-used : goal.returns-in_err-same-clause-used
returns-in_err-same-clause-used c = λ known ls s fs keyword m ts tail scope e at for are.
    let w = c.args.work.now in
    let u = c.args.units.now in
    let region = c.args.region.now in
    here_err (InstanceFor w region u.unit u.form.number) w w region u u ls c.from_residual.result fault.Memory (use_of (noting known) c.args.at.here fs keyword m ts tail s) c.from_residual.ensures.1 (leaves_itself w region u e.form.few_nodes)

pub apply-given-requires-clause-usable : goal.apply-given-requires-clause-usable
apply-given-requires-clause-usable c = plain_use c.args.work.now c.args.units.now c.args.at c.requires.usable

pub returns-clause-used : goal.returns-clause-used
returns-clause-used c = λ known ls s fs keyword m ts tail scope e at for are.
    let old = c.args.work.now in
    let new = c.apply-given.new.work in
    let u = c.args.units.now in
    let v = c.apply-given.new.self in
    let region = c.args.region.now in
    let a = compared_first (noting known) fs m ts tail s in
    let ends = c.apply-given.ensures.used known ls (state_of s) fs keyword m ts tail (plainly old u ls a e) at for (are_held old known ls (state_of s) fs m scope c.args.at.scope c.args.compared.now c.in_ok-same.same ts tail are c.in_ok-same.ensures) in
    use_noted (InstanceFor new region v.unit v.form.number) known c.args.at.here fs keyword m ts tail s old new region u v ls c.apply-given.result e c.told_apart.ensures.idents c.apply-given.ensures.trace c.apply-given.ensures.macros ends
