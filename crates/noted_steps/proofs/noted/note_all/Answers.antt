use Rattle.std.proofs.Common.{◌≡◌, ℕ, ◌-◌, None, map, length, drop, refl, sym, ap, ◌∙◌, subst, arith}
use Rattle.std.proofs.lemmas.Option.{slice_get_within}
use Rattle.scheme_model.specs.Order.{Meant}
use Rattle.core_tree.specs.declared.cores.Target.{Target}
use Rattle.syntax_tree.specs.declared.meaning.Meaning.TheVariants.{Local}
use Rattle.unit_scopes.specs.declared.scope.UnitScope.{UnitScope}
use Rattle.noted_steps.specs.Noting.{noting}
use Rattle.noted_steps.specs.Standing.{Stands, TargetFor, with_notes}
use Rattle.noted_steps.proofs.NoteLaws.{pair_there, pairs_past, one_back}
use Rattle.noted_steps.proofs.noted.note_all.Goals as goal

abbrev no_target : Target
no_target = record { meaning = Local 0; ident = 0; occ = None }

pub loop-left-init : goal.loop-left-init
loop-left-init c = record {
  within = omega arith;
  rest = refl;
  noted = λ known ls s fs ns e are.
      let work = c.args.work.now in
      subst (λ rest. Stands work c.args.units.now ls ((noting known).ask (map (λ n. Meant fs n.name) rest) s)) (sym (pairs_past (TargetFor work s fs) c.args.targets.now ns (length c.args.targets.now) are (omega arith))) e;
}

pub note-requires : goal.note-requires
note-requires c =
    let h = c.requires in
    let within = c.loop-left.invariant.within in
    let some = c.loop-left-test.true in
    let q = pair_there (TargetFor c.args.work.now h.0 h.1) c.args.targets.now h.2 (c.loop-left.left - 1) no_target h.3 (omega (arith, within, some)) in
    slice_get_within c.args.work.now.symbols.idents _ _ q.held.ident

pub loop-left-preserved : goal.loop-left-preserved
loop-left-preserved c =
    let within = c.loop-left.invariant.within in
    let some = c.loop-left-test.true in
    let left = c.loop-left.left in
    record {
      within = omega (arith, within);
      rest = c.note.ensures.rest ∙ ap (λ (x : UnitScope). with_notes x c.note.new.units.form.trace.notes) c.loop-left.invariant.rest;
      noted = λ known ls s fs ns e are.
          let work = c.args.work.now in
          let q = one_back (TargetFor work s fs) c.args.targets.now ns (left - 1) left no_target are (omega (arith, some)) within in
          subst (λ rest. Stands work c.note.new.units ls ((noting known).ask (map (λ n. Meant fs n.name) rest) s)) (sym q.2)
          (c.note.ensures.noted known ls ((noting known).ask (map (λ n. Meant fs n.name) (drop left ns)) s) fs q.0 (c.loop-left.invariant.noted known ls s fs ns e are) q.1);
    }

pub returns : goal.returns
returns c =
    let none = c.loop-left-test.false in
    let is : c.loop-left.left ≡ 0 = omega (arith, none) in
    record {
      noted = λ known ls s fs ns e are.
          subst (λ (k : ℕ). Stands c.args.work.now c.loop-left.units ls ((noting known).ask (map (λ n. Meant fs n.name) (drop k ns)) s)) is (c.loop-left.invariant.noted known ls s fs ns e are);
      rest = c.loop-left.invariant.rest;
    }
