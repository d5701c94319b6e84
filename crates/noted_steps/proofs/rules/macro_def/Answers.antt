use Rattle.std.proofs.Common.{false, sym, subst}
use Rattle.scheme_model.specs.Cores.{MacroDef}
use Rattle.scheme_model.specs.Expression.{macro_def, meaning_of}
use Rattle.scheme_model.specs.Requirements.{Known}
use Rattle.core_tree.specs.Names.{IsMacro}
use Rattle.unit_scopes.specs.Searched.{searched}
use Rattle.noted_steps.specs.Noting.{state_of}
use Rattle.noted_steps.proofs.NoteLaws.{plainly}
use Rattle.noted_steps.proofs.RulesLaws.{def_same}
use Rattle.noted_steps.proofs.rules.macro_def.Goals as goal

pub macro_def-requires : goal.macro_def-requires
macro_def-requires c =
    let l = c.requires in
    record { layout = l.layout; state = state_of l.state; meaning = meaning_of l.binder.bound l.binder.ident; stands = plainly c.args.work.now c.args.units.now l.layout l.state l.stands; means = l.means }

pub note_macro-requires : goal.note_macro-requires
note_macro-requires c =
    let l = c.requires in
    let known : Known = λ n. false in
    (l.state.unit, l.state.form, macro_def (searched known) (state_of l.state) l.binder, c.in_ok-def.ensures known l.layout (state_of l.state) l.binder (plainly c.args.work.now c.args.units.now l.layout l.state l.stands) l.is l.means)

pub returns-clause-def : goal.returns-clause-def
returns-clause-def c = λ known ls s b e is means.
    let work = c.args.work.now in
    subst (λ (m : MacroDef). IsMacro work s.unit s.form c.in_ok-def.def m) (sym (def_same known s b)) (c.in_ok-def.ensures known ls (state_of s) b (plainly work c.args.units.now ls s e) is means)

pub returns-clause-noted : goal.returns-clause-noted
returns-clause-noted c = λ known ls s b e is means. c.note_macro.ensures.noted known ls s b e (returns-clause-def c known ls s b e is means) means
