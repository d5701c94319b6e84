use Rattle.std.proofs.Common.{◌≡◌, ℕ, ◌<◌, Bool, sym, subst, arith}
use Rattle.std.specs.Prelude.{is_some as is_kept}
use Rattle.std.proofs.lemmas.Option.{slice_get_within}
use Rattle.scheme_model.specs.ScopedExpansion.{body_around, definition_added}
use Rattle.syntax_tree.specs.declared.meaning.Meaning.{Meaning}
use Rattle.unit_scopes.specs.Macros.{IsBound}
use Rattle.unit_scopes.specs.Defining.{next_here, Places, KeepsAny, GoesTo}
use Rattle.unit_scopes.specs.Stepped.{with_macros}
use Rattle.unit_scopes.specs.declared.scope.UnitScope.{UnitScope}
use Rattle.unit_scopes.proofs.CountingStands.{most_fit}
use Rattle.unit_scopes.proofs.DefineLaws.{undefined_here, is_bound_here}
use Rattle.unit_scopes.proofs.MadeLaws.{made_goes, placed_whole}
use Rattle.unit_scopes.proofs.scope.UnitScope.make.Goals as goal

pub place-requires : goal.place-requires
place-requires c =
    let u = c.args.self.now in
    let can = c.requires.can in
    let spot = c.args.spot in
    record {
      scope = subst (λ (len : ℕ). spot.scope < len) can.stands.env.count (slice_get_within can.layout spot.scope can.frames can.placed.at);
      room = let most = most_fit u.form.budget.nodes can.stands.form.few_nodes in let room = c.requires.room in omega (arith, most, room);
      undefined = undefined_here c.args.work.now u can.layout can.state spot.scope can.frames spot.in_body c.args.name.ident can.named.name can.stands can.placed.inside can.is.0 can.new;
    }

pub keep-requires : goal.keep-requires
keep-requires c = subst IsBound (sym c.next_meaning-meaning.ensures.value) (is_bound_here c.args.self.now c.args.spot.in_body c.args.name.ident)

pub returns : goal.returns
returns c =
    let u = c.args.self.now in
    let spot = c.args.spot in
    let name = c.args.name in
    let kept = c.args.kept in
    let again = c.args.again in
    let w = c.place.new.self in
    let v = c.keep.new.self in
    let value = c.next_meaning-meaning.ensures.value in
    let put : Places u w spot.in_body spot.scope name (next_here u spot.in_body name.ident) (is_kept kept) = subst (λ (m : Meaning). Places u w spot.in_body spot.scope name m (is_kept kept)) value (subst (λ (b : Bool). Places u w spot.in_body spot.scope name c.next_meaning-meaning.result b) c.is_some.ensures c.in_ok-place.ensures) in
    let keeps : KeepsAny w.macros v.macros w.form.number (next_here u spot.in_body name.ident) kept again = subst (λ (m : Meaning). KeepsAny w.macros v.macros w.form.number m kept again) value c.in_ok-keep.ensures.kept in
    let rest : v ≡ with_macros w v.macros = c.in_ok-keep.ensures.rest in
    let can = c.requires.can in
    let new = undefined_here c.args.work.now u can.layout can.state spot.scope can.frames spot.in_body name.ident can.named.name can.stands can.placed.inside can.is.0 can.new in
    record {
      made = λ ls s fs n r stands placed is h.
          subst (λ (x : UnitScope). GoesTo c.args.work.now u x ls spot fs (definition_added (body_around fs) n r fs s)) (sym rest)
          (made_goes c.args.work.now u ls s spot fs stands name n c.told_apart.ensures.idents c.told_apart.ensures.symbols c.sound.ensures is placed c.requires.room w v.macros new kept again r put keeps h);
      placed = placed_whole u w v spot name kept again put rest keeps;
    }
