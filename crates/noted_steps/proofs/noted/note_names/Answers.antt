use Rattle.std.proofs.Common.{◌≡◌, ℕ, ◌-◌, None, map, length, drop, refl, sym, ap, ◌∙◌, subst, arith}
use Rattle.std.proofs.lemmas.Option.{slice_get_within}
use Rattle.scheme_model.specs.Order.{Meant}
use Rattle.core_forms.specs.Parts.{IsName}
use Rattle.core_forms.specs.declared.shape.NamePart.{NamePart}
use Rattle.unit_scopes.specs.declared.scope.UnitScope.{UnitScope}
use Rattle.noted_steps.specs.Noting.{noting}
use Rattle.noted_steps.specs.Standing.{Stands, with_notes}
use Rattle.noted_steps.proofs.NoteLaws.{pair_there, pairs_past, one_back, looks_on}
use Rattle.noted_steps.proofs.noted.note_names.Goals as goal

abbrev no_name : NamePart
no_name = record { ident = 0; occ = None }

pub loop-left-init : goal.loop-left-init
loop-left-init c = record {
  within = omega arith;
  rest = refl;
  look = c.requires.look;
  noted = λ known ls s fs ns e at are.
      let work = c.args.work.now in
      subst (λ rest. Stands work c.args.units.now ls ((noting known).ask (map (λ n. Meant fs n.name) rest) s)) (sym (pairs_past (IsName work) c.args.names.now ns (length c.args.names.now) are (omega arith))) e;
}

pub note_name-requires-clause-ident : goal.note_name-requires-clause-ident
note_name-requires-clause-ident c =
    let h = c.requires.names in
    let within = c.loop-left.invariant.within in
    let some = c.loop-left-test.true in
    let q = pair_there (IsName c.args.work.now) c.args.names.now h.0 (c.loop-left.left - 1) no_name h.1 (omega (arith, within, some)) in
    slice_get_within c.args.work.now.symbols.idents _ _ q.held.0

pub loop-left-preserved : goal.loop-left-preserved
loop-left-preserved c =
    let within = c.loop-left.invariant.within in
    let some = c.loop-left-test.true in
    let left = c.loop-left.left in
    let u = c.loop-left.units in
    let v = c.note_name.new.units in
    record {
      within = omega (arith, within);
      rest = c.note_name.ensures.rest ∙ ap (λ (x : UnitScope). with_notes x v.form.trace.notes) c.loop-left.invariant.rest;
      look = looks_on c.args.work.now u v c.args.scope c.note_name.ensures.rest c.loop-left.invariant.look;
      noted = λ known ls s fs ns e at are.
          let work = c.args.work.now in
          let q = one_back (IsName work) c.args.names.now ns (left - 1) left no_name are (omega (arith, some)) within in
          subst (λ rest. Stands work v ls ((noting known).ask (map (λ n. Meant fs n.name) rest) s)) (sym q.2)
          (c.note_name.ensures.noted known ls ((noting known).ask (map (λ n. Meant fs n.name) (drop left ns)) s) fs q.0 (c.loop-left.invariant.noted known ls s fs ns e at are) at q.1);
    }

pub returns : goal.returns
returns c =
    let none = c.loop-left-test.false in
    let is : c.loop-left.left ≡ 0 = omega (arith, none) in
    record {
      noted = λ known ls s fs ns e at are.
          subst (λ (k : ℕ). Stands c.args.work.now c.loop-left.units ls ((noting known).ask (map (λ n. Meant fs n.name) (drop k ns)) s)) is (c.loop-left.invariant.noted known ls s fs ns e at are);
      rest = c.loop-left.invariant.rest;
    }
