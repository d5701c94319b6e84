use Rattle.std.proofs.Common.{Err, ap, subst}
use Rattle.scheme_model.specs.Order.{told}
use Rattle.scheme_model.specs.ScopedExpansion.{body_around}
use Rattle.unit_scopes.specs.Defining as plain_define
use Rattle.unit_scopes.specs.Searched.{define_searched}
use Rattle.feature_requirements.specs.declared.fault.ExpandFault.{ExpandFault}
use Rattle.noted_steps.specs.Noting.{state_of, own_notes}
use Rattle.noted_steps.proofs.DefineSteps.{Same, noted_so, made_ends, failed_ends}
use Rattle.noted_steps.proofs.NoteLaws.{plainly, plain_go}
use Rattle.noted_steps.proofs.defining.define.Goals as goal

pub define-requires-clause-can : goal.define-requires-clause-can
define-requires-clause-can c = plain_go c.args.work.now c.args.units.now c.args.spot c.args.asked.now c.requires.can

pub returns-in-Ok-clause-defined : goal.returns-in-Ok-clause-defined
returns-in-Ok-clause-defined c = λ known ls s fs n r p e placed is kept notes.
    let work = c.args.work.now in
    let u = c.args.units.now in
    let v = c.define.new.self in
    let h = c.in-Ok.ensures.defined known ls (state_of s) fs n r p (plainly work u ls s e) placed is kept notes in
    made_ends work u v c.note_made.new.units ls s c.args.spot fs c.args.here c.args.name n r p e placed is c.note_made.ensures.rest c.note_made.ensures.inside c.note_made.ensures.start
    c.told_apart.ensures.idents c.told_apart.ensures.symbols c.in-Ok.ensures.notes c.in-Ok.ensures.others
    (λ exact rs ms k out stood none.
    c.note_made.ensures.noted rs ms fs n r (own_notes s p.notes) k out stood
    (noted_so work u ls s fs c.args.asked.now c.args.name c.args.kept c.is_some.result c.definition-definition.result n r p.notes e is kept notes exact c.is_some.ensures c.definition-definition.ensures) none) h

pub returns-in-Err-At-clause-defined : goal.returns-in-Err-At-clause-defined
returns-in-Err-At-clause-defined c = λ known ls s fs n r p e placed is kept notes.
    let work = c.args.work.now in
    let u = c.args.units.now in
    let v = c.define.new.self in
    let h = c.in-Err-At.ensures.defined known ls (state_of s) fs n r p (plainly work u ls s e) placed is kept notes in
    let g = subst (λ (x : ExpandFault). plain_define.EndsIn (Same p) work u v ls c.args.spot fs (Err x) (told c.args.here (define_searched (body_around fs) n r fs p (state_of s)))) c.in-Err-At.field-0-is h in
    failed_ends work u v c.note_failed.new.units ls s c.args.spot fs c.args.here c.args.name n r p e placed is c.note_failed.ensures.rest c.note_failed.ensures.inside c.note_failed.ensures.start
    c.in-Err-At.fault (c.in-Err-At.ensures.refused c.in-Err-At.fault (ap Err c.in-Err-At.field-0-is))
    (λ exact rs ms out stood.
    c.note_failed.ensures.noted work.symbols rs ms fs n r (own_notes s p.notes) out stood
    (noted_so work u ls s fs c.args.asked.now c.args.name c.args.kept c.is_some.result c.definition-definition.result n r p.notes e is kept notes exact c.is_some.ensures c.definition-definition.ensures)) g

pub returns-in-Err-Full-clause-defined : goal.returns-in-Err-Full-clause-defined
returns-in-Err-Full-clause-defined c = λ known ls s fs n r p e placed is kept notes.
    let work = c.args.work.now in
    let u = c.args.units.now in
    let h = c.in-Err-Full.ensures.defined known ls (state_of s) fs n r p (plainly work u ls s e) placed is kept notes in
    subst (λ (x : ExpandFault). plain_define.EndsIn (Same p) work u c.define.new.self ls c.args.spot fs (Err x) (told c.args.here (define_searched (body_around fs) n r fs p (state_of s)))) c.in-Err-Full.field-0-is h
