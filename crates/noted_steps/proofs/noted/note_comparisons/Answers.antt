use Rattle.std.proofs.Common.{◌≡◌, ℕ, ◌-◌, map, false, length, drop, refl, sym, ap, ◌∙◌, subst, arith}
use Rattle.std.proofs.lemmas.Option.{slice_get_within}
use Rattle.scheme_model.specs.Order.{Alike}
use Rattle.unit_scopes.specs.declared.scope.UnitScope.{UnitScope}
use Rattle.unit_scopes.specs.declared.uses.Comparison.{Comparison}
use Rattle.noted_steps.specs.Noting.{noting}
use Rattle.noted_steps.specs.Standing.{Stands, ComparedFor, with_notes}
use Rattle.noted_steps.proofs.NoteLaws.{pair_there, pairs_past, one_back, looks_on}
use Rattle.noted_steps.proofs.noted.note_comparisons.Goals as goal

abbrev no_comparison : Comparison
no_comparison = record { pair = record { literal = 0; ident = 0 }; held = false }

pub loop-left-init : goal.loop-left-init
loop-left-init c = record {
  within = omega arith;
  rest = refl;
  literals = c.requires.literals;
  look = c.requires.look;
  noted = λ known ls s gs fs qs e there at are.
      let work = c.args.work.now in
      subst (λ rest. Stands work c.args.units.now ls ((noting known).ask (map (λ q. Alike gs q.0 fs q.1) rest) s)) (sym (pairs_past (ComparedFor work s gs fs) c.args.comparisons.now qs (length c.args.comparisons.now) are (omega arith))) e;
}

pub note_comparison-requires-clause-literal : goal.note_comparison-requires-clause-literal
note_comparison-requires-clause-literal c =
    let h = c.requires.compared in
    let within = c.loop-left.invariant.within in
    let some = c.loop-left-test.true in
    let q = pair_there (ComparedFor c.args.work.now h.0 h.1 h.2) c.args.comparisons.now h.3 (c.loop-left.left - 1) no_comparison h.4 (omega (arith, within, some)) in
    slice_get_within c.args.work.now.symbols.idents _ _ q.held.literal

pub note_comparison-requires-clause-ident : goal.note_comparison-requires-clause-ident
note_comparison-requires-clause-ident c =
    let h = c.requires.compared in
    let within = c.loop-left.invariant.within in
    let some = c.loop-left-test.true in
    let q = pair_there (ComparedFor c.args.work.now h.0 h.1 h.2) c.args.comparisons.now h.3 (c.loop-left.left - 1) no_comparison h.4 (omega (arith, within, some)) in
    slice_get_within c.args.work.now.symbols.idents _ _ q.held.ident

pub loop-left-preserved : goal.loop-left-preserved
loop-left-preserved c =
    let within = c.loop-left.invariant.within in
    let some = c.loop-left-test.true in
    let left = c.loop-left.left in
    let u = c.loop-left.units in
    let v = c.note_comparison.new.units in
    record {
      within = omega (arith, within);
      rest = c.note_comparison.ensures.rest ∙ ap (λ (x : UnitScope). with_notes x v.form.trace.notes) c.loop-left.invariant.rest;
      literals = looks_on c.args.work.now u v c.args.literal_scope c.note_comparison.ensures.rest c.loop-left.invariant.literals;
      look = looks_on c.args.work.now u v c.args.scope c.note_comparison.ensures.rest c.loop-left.invariant.look;
      noted = λ known ls s gs fs qs e there at are.
          let work = c.args.work.now in
          let q = one_back (ComparedFor work s gs fs) c.args.comparisons.now qs (left - 1) left no_comparison are (omega (arith, some)) within in
          subst (λ rest. Stands work v ls ((noting known).ask (map (λ q. Alike gs q.0 fs q.1) rest) s)) (sym q.2)
          (c.note_comparison.ensures.noted known ls ((noting known).ask (map (λ q. Alike gs q.0 fs q.1) (drop left qs)) s) gs fs q.0 (c.loop-left.invariant.noted known ls s gs fs qs e there at are) there at
          (record { literal = q.1.literal; ident = q.1.ident; held = q.1.held }));
    }

pub returns : goal.returns
returns c =
    let none = c.loop-left-test.false in
    let is : c.loop-left.left ≡ 0 = omega (arith, none) in
    record {
      noted = λ known ls s gs fs qs e there at are.
          subst (λ (k : ℕ). Stands c.args.work.now c.loop-left.units ls ((noting known).ask (map (λ q. Alike gs q.0 fs q.1) (drop k qs)) s)) is (c.loop-left.invariant.noted known ls s gs fs qs e there at are);
      rest = c.loop-left.invariant.rest;
    }
