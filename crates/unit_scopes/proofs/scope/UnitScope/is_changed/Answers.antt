use Rattle.std.proofs.Common.{◌∙◌}
use Rattle.std.specs.Prelude.{◌&&◌, ◌||◌}
use Rattle.scheme_model.specs.Substitution.{differ}
use Rattle.unit_scopes.proofs.ChangedNotes.{scope_there, ident_there, looked_up_at, compared_at, look_up_changed, comparison_changed}
use Rattle.unit_scopes.proofs.scope.UnitScope.is_changed.Goals as goal

pub meant_with-now-requires : goal.meant_with-now-requires
meant_with-now-requires c =
    let work = c.args.work.now in
    let h = c.requires in
    let p = looked_up_at work h.0 c.args.note c.in-LookedUp.at c.in-LookedUp.head c.in-LookedUp.keyword h.3 c.in-LookedUp.is h.5 in
    record {
      scope = scope_there work c.args.self.now h.0 h.1 c.args.coming h.2 h.4 c.in-LookedUp.at p.0 p.1;
      ident = ident_there work c.args.self.now h.0 h.1 c.args.coming h.2 h.4 c.in-LookedUp.at p.0 p.1;
    }

pub meant_with-first-requires : goal.meant_with-first-requires
meant_with-first-requires c =
    let work = c.args.work.now in
    let h = c.requires in
    let p = compared_at work h.0 c.args.note c.in-Compared.literal c.in-Compared.at c.in-Compared.held h.3 c.in-Compared.is h.5 in
    record {
      scope = scope_there work c.args.self.now h.0 h.1 c.args.coming h.2 h.4 c.in-Compared.literal p.0.0 p.0.1;
      ident = ident_there work c.args.self.now h.0 h.1 c.args.coming h.2 h.4 c.in-Compared.literal p.0.0 p.0.1;
    }

pub meant_with-second-requires : goal.meant_with-second-requires
meant_with-second-requires c =
    let work = c.args.work.now in
    let h = c.requires in
    let p = compared_at work h.0 c.args.note c.in-Compared.literal c.in-Compared.at c.in-Compared.held h.3 c.in-Compared.is h.5 in
    record {
      scope = scope_there work c.args.self.now h.0 h.1 c.args.coming h.2 h.4 c.in-Compared.at p.1.0 p.1.1;
      ident = ident_there work c.args.self.now h.0 h.1 c.args.coming h.2 h.4 c.in-Compared.at p.1.0 p.1.1;
    }

pub returns-in-LookedUp : goal.returns-in-LookedUp
returns-in-LookedUp c = λ ls t m q comes is.
    let work = c.args.work.now in
    let x = c.in-LookedUp in
    c.is_taken.ensures ∙ ((λ j. c.same_meaning-asks.ensures j && (x.keyword || (x.head && c.args.coming.is_macro)))
    ∙ look_up_changed work c.args.self.now ls t c.args.coming m c.told_apart.ensures.idents c.told_apart.ensures.symbols comes c.args.note x.at x.head x.keyword c.meant_with-now.result q x.is
    (λ p. c.meant_with-now.ensures ls t m p comes) is)

pub returns-in-Compared : goal.returns-in-Compared
returns-in-Compared c = λ ls t m q comes is.
    let work = c.args.work.now in
    let x = c.in-Compared in
    c.is_turned.ensures ∙ ((λ j. (c.same_meaning-of_first.ensures j || c.same_meaning-of_second.ensures j) && differ x.held (c.same_meaning-holds.ensures j))
    ∙ comparison_changed work c.args.self.now ls t c.args.coming m c.told_apart.ensures.idents c.told_apart.ensures.symbols comes c.args.note x.literal x.at x.held c.meant_with-first.result c.meant_with-second.result q x.is
    (λ p. c.meant_with-first.ensures ls t m p comes) (λ p. c.meant_with-second.ensures ls t m p comes) is)
