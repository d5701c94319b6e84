use Rattle.std.proofs.Common.{◌≡◌, ℕ, ◌+◌, ◌-◌, ◌++◌, List, length, drop, refl, sym, ap, ◌∙◌, subst, arith}
use Rattle.scheme_model.specs.Cores.{Binder, MacroDef as model_def}
use Rattle.scheme_model.specs.Expression.{macro_def, macro_asked, locals_asked}
use Rattle.scheme_model.specs.Ident.{Ident as Identifier}
use Rattle.scheme_model.specs.Meaning.{Local}
use Rattle.scheme_model.specs.Order.{Asked}
use Rattle.scheme_model.specs.ScopedExpansion.{Frames, macro_at}
use Rattle.core_tree.specs.Names.{IsBinder, IsMacro}
use Rattle.core_tree.specs.declared.cores.MacroDef.{MacroDef}
use Rattle.unit_scopes.specs.declared.scope.UnitScope.{UnitScope}
use Rattle.noted_steps.specs.Noting.{Noting, noting}
use Rattle.noted_steps.specs.Standing.{Stands, with_notes}
use Rattle.noted_steps.proofs.NoteLaws.{pair_there}
use Rattle.noted_steps.proofs.RulesLaws.{local_binder, local_there, locals_past, binder_same, def_again, asked_before}
use Rattle.noted_steps.proofs.rules.note_locals.Goals as goal

pub loop-left-init : goal.loop-left-init
loop-left-init c = record {
  within = omega arith;
  rest = refl;
  noted = λ known ls s vs ns e are.
      let work = c.args.work.now in
      subst (λ (qs : List (Asked Frames Identifier)). Stands work c.args.units.now ls ((noting known).ask qs s)) (sym (locals_past known s work c.args.defs.now vs ns (length c.args.defs.now) are (omega arith))) e;
}

pub note_macro-requires : goal.note_macro-requires
note_macro-requires c =
    let h = c.requires in
    let within = c.loop-left.invariant.within in
    let some = c.loop-left-test.true in
    let d = c.index-defs-left.result in
    let q = pair_there (IsMacro c.args.work.now h.0 h.1) c.args.defs.now h.2 (c.loop-left.left - 1) d h.3 (omega (arith, within, some)) in
    (h.0, h.1, q.other, subst (λ (x : MacroDef). IsMacro c.args.work.now h.0 h.1 x q.other) (sym c.index-defs-left.is) q.held)

pub loop-left-preserved : goal.loop-left-preserved
loop-left-preserved c =
    let within = c.loop-left.invariant.within in
    let some = c.loop-left-test.true in
    let left = c.loop-left.left in
    let d = c.index-defs-left.result in
    record {
      within = omega (arith, within);
      rest = c.note_macro.ensures.rest ∙ ap (λ (x : UnitScope). with_notes x c.note_macro.new.units.form.trace.notes) c.loop-left.invariant.rest;
      noted = λ known ls s vs ns e are.
          let work = c.args.work.now in
          let v = c.note_macro.new.units in
          let p = local_there known s work c.args.defs.now vs ns (left - 1) d are (omega (arith, within, some)) in
          let b = local_binder known s p.number p.name in
          let rest = locals_asked (noting known) s (drop left vs) (drop left ns) in
          let t = (noting known).ask rest s in
          let held = subst (λ (x : MacroDef). IsMacro work s.unit s.form x (macro_def (noting known) s b)) (sym c.index-defs-left.is) p.held in
          let binder = subst (λ (x : Binder). IsBinder work.symbols s.unit s.form d.binder x) (binder_same known s b (macro_at s.macros (Local p.number))) held.binder in
          let again = subst (λ (m : model_def). IsMacro work s.unit s.form d m) (sym (def_again known s t.noted b)) held in
          let now = c.note_macro.ensures.noted known ls t b (c.loop-left.invariant.noted known ls s vs ns e are) again (ap Local binder.number) in
          let next : left - 1 + 1 ≡ left = omega (arith, some) in
          let asked = p.asked ∙ ap (λ (i : ℕ). macro_asked (noting known) s b ++ locals_asked (noting known) s (drop i vs) (drop i ns)) next in
          subst (λ (x : Noting). Stands work v ls x) (asked_before known s (macro_asked (noting known) s b) rest ∙ ap (λ (qs : List (Asked Frames Identifier)). (noting known).ask qs s) (sym asked)) now;
    }

pub returns : goal.returns
returns c =
    let none = c.loop-left-test.false in
    let is : c.loop-left.left ≡ 0 = omega (arith, none) in
    record {
      noted = λ known ls s vs ns e are.
          subst (λ (k : ℕ). Stands c.args.work.now c.loop-left.units ls ((noting known).ask (locals_asked (noting known) s (drop k vs) (drop k ns)) s)) is (c.loop-left.invariant.noted known ls s vs ns e are);
      rest = c.loop-left.invariant.rest;
    }
