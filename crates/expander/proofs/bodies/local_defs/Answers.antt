use Rattle.std.proofs.Common.{◌+◌, List, false, None, refl, sym, ap, subst}
use Rattle.scheme_model.specs.Meaning.{Local}
use Rattle.scheme_model.specs.Requirements.{Known}
use Rattle.scheme_model.specs.Cores.{LocalNumber, MacroDef as ModelDef}
use Rattle.scheme_model.specs.Expression.{local_defs}
use Rattle.core_tree.specs.Names.{AllMatch, IsMacro}
use Rattle.core_tree.specs.declared.cores.Binder as code_binder
use Rattle.core_tree.specs.declared.cores.MacroDef.{MacroDef}
use Rattle.expander.proofs.LocalDefs.{DefsSoFar, macro_def_is, local_there, locals_past, one_def_more, all_defs}
use Rattle.expander.proofs.bodies.local_defs.Goals as goal
use Rattle.noted_steps.specs.Noting.{state_of, noting}
use Rattle.noted_steps.proofs.NoteLaws.{plainly}

abbrev no_binder : code_binder.Binder
no_binder = record { number = 0; ident = 0; occ = None }

nothing_known : Known
nothing_known = λ l. false

pub loop-binder-init : goal.loop-binder-init
loop-binder-init c = λ known ls s vs ns stands are.
    subst (λ (xs : List MacroDef). DefsSoFar c.args.work.now known s vs ns 0 xs) (sym c.new-defs.ensures.items) (λ ds h. h)

pub macro_def-requires : goal.macro_def-requires
macro_def-requires c =
    let can = c.requires in
    record {
      layout = can.layout;
      state = state_of can.state;
      meaning = Local (record { unit = can.state.unit; form = can.state.form; count = _ });
      stands = plainly c.args.work.now c.args.units.now can.layout can.state can.stands;
      means = refl;
    }

pub loop-binder-preserved : goal.loop-binder-preserved
loop-binder-preserved c = λ known ls s vs ns stands are.
    let work = c.args.work.now in
    let k = c.loop-binder.binder-index in
    let q = local_there work s c.args.binders.now vs ns k no_binder are c.loop-binder-test.true in
    let plain = c.in_ok-def.ensures known ls (state_of s) _ (plainly work c.args.units.now ls s stands) q.binder (ap Local q.binder.number) in
    let is = subst (λ (d : ModelDef). IsMacro work s.unit s.form c.in_ok-def.def d) (sym (macro_def_is known s (record { bound = LocalNumber q.number; ident = q.name.name; occ = q.name.occ }))) plain in
    subst (λ (xs : List MacroDef). DefsSoFar work known s vs ns (k + 1) xs) (sym c.in_ok-push.ensures.items)
    (one_def_more work known s vs ns k _ c.loop-binder.defs.items c.in_ok-def.def q (c.loop-binder.invariant known ls s vs ns stands are) is)

pub note_locals-requires : goal.note_locals-requires
note_locals-requires c =
    let work = c.args.work.now in
    let can = c.requires in
    let s = can.state in
    let k = c.loop-binder.binder-index in (
      s.unit,
      s.form,
      local_defs (noting nothing_known) s can.numbers can.names,
      subst (λ (xs : List MacroDef). AllMatch (IsMacro work s.unit s.form) xs (local_defs (noting nothing_known) s can.numbers can.names)) (sym c.deref.ensures.value)
          (all_defs work nothing_known s can.numbers can.names k c.loop-binder.defs.items (c.loop-binder.invariant nothing_known can.layout s can.numbers can.names can.stands can.are) (locals_past work s c.args.binders.now can.numbers can.names k can.are c.loop-binder-test.false)),
    )

pub returns-clause-defs : goal.returns-clause-defs
returns-clause-defs c = λ known ls s vs ns stands are.
    let work = c.args.work.now in
    let k = c.loop-binder.binder-index in
    all_defs work known s vs ns k c.loop-binder.defs.items (c.loop-binder.invariant known ls s vs ns stands are) (locals_past work s c.args.binders.now vs ns k are c.loop-binder-test.false)

pub returns-clause-noted : goal.returns-clause-noted
returns-clause-noted c = λ known ls s vs ns stands are.
    let work = c.args.work.now in
    let k = c.loop-binder.binder-index in
    c.note_locals.ensures.noted known ls s vs ns stands (subst (λ (xs : List MacroDef). AllMatch (IsMacro work s.unit s.form) xs (local_defs (noting known) s vs ns)) (sym c.deref.ensures.value)
    (all_defs work known s vs ns k c.loop-binder.defs.items (c.loop-binder.invariant known ls s vs ns stands are) (locals_past work s c.args.binders.now vs ns k are c.loop-binder-test.false)))
