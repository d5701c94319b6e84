use Rattle.std.proofs.Common.{Bool, sym, ap, subst}
use Rattle.scheme_model.specs.ScopedExpansion.{body_around, meaning_next}
use Rattle.syntax_tree.specs.Meant.{IsMeaning}
use Rattle.syntax_tree.specs.declared.meaning.Meaning.{Meaning}
use Rattle.unit_scopes.specs.Defining.{next_here}
use Rattle.unit_scopes.proofs.DefineLaws.{meaning_here}
use Rattle.unit_scopes.proofs.scope.UnitScope.next_meaning.Goals as goal

pub returns-then-spot : goal.returns-then-spot
returns-then-spot c =
    let u = c.args.self.now in
    let value = ap (λ (b : Bool). next_here u b c.args.ident) (sym c.if-spot.true) in
    record {
      value = value;
      meaning = λ work ls s fs i stands spot is.
          subst (λ (m : Meaning). IsMeaning work.symbols s.unit s.form m (meaning_next s (body_around fs) i)) (sym value)
          (meaning_here work u ls s c.args.spot.scope fs stands c.args.spot.in_body c.args.ident i spot.inside is);
    }

pub returns-else-spot : goal.returns-else-spot
returns-else-spot c =
    let u = c.args.self.now in
    let value = ap (λ (b : Bool). next_here u b c.args.ident) (sym c.if-spot.false) in
    record {
      value = value;
      meaning = λ work ls s fs i stands spot is.
          subst (λ (m : Meaning). IsMeaning work.symbols s.unit s.form m (meaning_next s (body_around fs) i)) (sym value)
          (meaning_here work u ls s c.args.spot.scope fs stands c.args.spot.in_body c.args.ident i spot.inside is);
    }
