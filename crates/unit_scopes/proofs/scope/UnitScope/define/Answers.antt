use Rattle.std.proofs.Common.{◌≡◌, Bool, false, Option, Result, Ok, Err, refl, sym, ◌∙◌, subst}
use Rattle.scheme_model.specs.Ident.{Ident as Identifier}
use Rattle.scheme_model.specs.ExpansionFaults.{Named}
use Rattle.scheme_model.specs.Order.{Pending, Renamed, is_some, told}
use Rattle.scheme_model.specs.RulesShape.{Rules}
use Rattle.scheme_model.specs.Steps.{Broken}
use Rattle.scheme_model.specs.Substitution.{unchanged}
use Rattle.scheme_model.specs.ScopedExpansion.{Frames, FramedIdent, ScopedState, body_around, meaning_next, definition_added, is_defined}
use Rattle.feature_requirements.specs.declared.fault.ExpandFault.{ExpandFault}
use Rattle.unit_scopes.specs.Defining.{EndsIn}
use Rattle.unit_scopes.specs.Searched.{define_searched}
use Rattle.unit_scopes.proofs.DefineLaws.{changes, refuses, is_second, is_made, refused_ends, second_ends, kept_tells}
use Rattle.unit_scopes.proofs.MadeLaws.{refused_so, second_so, stands_so, any_rules, placed_takes, placed_noted, placed_beside}
use Rattle.unit_scopes.proofs.scope.UnitScope.define.Goals as goal

abbrev Same : Pending Identifier FramedIdent → Unit {0} → Renamed Identifier FramedIdent → Type 0
Same p done made = made ≡ unchanged p

-- some note would be told otherwise
abbrev changed : Named Identifier → Option (Rules Identifier) → Frames → Pending Identifier FramedIdent → ScopedState → Bool
changed n r fs p s = changes n.name (definition_added (body_around fs) n r fs s) (meaning_next s (body_around fs) n.name) (is_some r) p.notes

pub make-requires-clause-can : goal.make-requires-clause-can
make-requires-clause-can c =
    let can = c.requires.can in
    let n = c.requires.name.0 in
    let is = c.requires.name.1 in
    let b = body_around can.frames in
    let r = any_rules c.is_some.result in
    let so = c.in-Stands.ensures can.layout can.state can.frames n r.0 can.found can.stands can.placed is r.1 can.notes in
    let second = is_defined can.state b n.name in
    record {
      layout = can.layout;
      state = can.state;
      frames = can.frames;
      named = n;
      stands = can.stands;
      placed = can.placed;
      is = is;
      new = (stands_so (changes n.name (definition_added b n r.0 can.frames can.state) (meaning_next can.state b n.name) (is_some r.0) can.found) second (sym so)).1;
    }

pub returns-in-Redefines-clause-defined : goal.returns-in-Redefines-clause-defined
returns-in-Redefines-clause-defined c = λ known ls s fs n r p stands placed is kept notes.
    let work = c.args.work.now in
    let u = c.args.self.now in
    let spot = c.args.spot in
    let here = c.args.here in
    let b = body_around fs in
    let macro : is_some r ≡ c.is_some.result = sym (c.is_some.ensures ∙ kept_tells work ls fs c.args.kept r kept) in
    let so = refused_so (changed n r fs p s) (is_defined s b n.name) (sym (c.in-Redefines.ensures ls s fs n r p.notes stands placed is macro notes)) in
    let q = told here (define_searched b n r fs p s) in
    subst (λ (e : ExpandFault). EndsIn (λ done. Same p done) work u u ls spot fs (Err e) q) (sym c.fails_at.ensures)
    (refused_ends (λ done. Same p done) work u ls s spot fs here c.args.name n is stands placed q (refuses here b n r fs p s so))

pub returns-in-StoodBefore-clause-defined : goal.returns-in-StoodBefore-clause-defined
returns-in-StoodBefore-clause-defined c = λ known ls s fs n r p stands placed is kept notes.
    let work = c.args.work.now in
    let u = c.args.self.now in
    let spot = c.args.spot in
    let here = c.args.here in
    let b = body_around fs in
    let macro : is_some r ≡ c.is_some.result = sym (c.is_some.ensures ∙ kept_tells work ls fs c.args.kept r kept) in
    let so = second_so (changed n r fs p s) (is_defined s b n.name) (sym (c.in-StoodBefore.ensures ls s fs n r p.notes stands placed is macro notes)) in
    let q = told here (define_searched b n r fs p s) in
    subst (λ (e : ExpandFault). EndsIn (λ done. Same p done) work u u ls spot fs (Err e) q) (sym c.fails_at-in-StoodBefore.ensures)
    (second_ends (λ done. Same p done) work u ls s spot fs here c.args.name n is stands placed q (is_second here b n r fs p s so.0 so.1))

pub returns-in_ok-make-in-Stands : goal.returns-in_ok-make-in-Stands
returns-in_ok-make-in-Stands c =
    let u = c.args.self.now in
    let v = c.make.new.self in
    let spot = c.args.spot in
    let name = c.args.name in
    let kept = c.args.kept in
    let e = c.in_ok-make-in-Stands.ensures in
    record {
      defined = λ known ls s fs n r p stands placed is h notes.
          let work = c.args.work.now in
          let here = c.args.here in
          let b = body_around fs in
          let macro : is_some r ≡ c.is_some.result = sym (c.is_some.ensures ∙ kept_tells work ls fs kept r h) in
          let so = stands_so (changed n r fs p s) (is_defined s b n.name) (sym (c.in-Stands.ensures ls s fs n r p.notes stands placed is macro notes)) in
          subst (λ (q : Result (Renamed Identifier FramedIdent) Broken × ScopedState). EndsIn (λ done. Same p done) work u v ls spot fs (Ok tt) q) (sym (is_made here b n r fs p s so.0 so.1))
          (unchanged p, e.made ls s fs n r stands placed is h, refl, refl);
      counts = placed_takes u v spot name false kept e.placed;
      refused = λ f is. absurd cc;
      notes = placed_noted u v spot name false kept e.placed;
      others = placed_beside u v spot name false kept e.placed;
    }
