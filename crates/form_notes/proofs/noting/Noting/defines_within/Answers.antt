use Rattle.std.proofs.Common.{sym, ap, ◌∙◌}
use Rattle.std.proofs.lemmas.Option.{same_Some}
use Rattle.std.specs.Prelude.{◌||◌}
use Rattle.scheme_model.specs.Ident.{Written, Inserted}
use Rattle.syntax_tree.specs.Numbered.{number_of}
use Rattle.question_laws.specs.Noted.{defines_within}
use Rattle.form_notes.proofs.Layers.{written_is, inserted_is, fewer_layers}
use Rattle.form_notes.proofs.noting.Noting.defines_within.Goals as goal

pub returns-in-Written : goal.returns-in-Written
returns-in-Written c = λ r i s o is.
    let names = c.args.symbols.now in
    let p = written_is names c.inside.at c.in-Written.unit c.in-Written.symbol c.in-Written.ensures.ident c.in-Written.ensures.placed in
    let j = Written c.in-Written.unit p.0 in
    c.is_own.ensures names r j s o p.1 ∙ sym (c.inside.invariant.same r i j s o is p.1)

pub returns-then-is_own : goal.returns-then-is_own
returns-then-is_own c = λ r i s o is.
    let names = c.args.symbols.now in
    let p = inserted_is names c.inside.at c.in-Inserted.id c.in-Inserted.number c.in-Inserted.ensures.ident c.in-Inserted.ensures.placed in
    let j = Inserted p.0 (number_of c.in-Inserted.number) in
    ap (λ b. b || defines_within r.own p.0) (sym c.if-is_own.true ∙ c.is_own-in-Inserted.ensures names r j s o p.2) ∙ sym (c.inside.invariant.same r i j s o is p.2)

pub inside-smaller : goal.inside-smaller
inside-smaller c = fewer_layers c.args.symbols.now c.inside.at c.in-Inserted.id c.in-Inserted.number c.in-Inserted.ensures.ident c.in-Inserted.ensures.placed

pub inside-preserved : goal.inside-preserved
inside-preserved c =
    let names = c.args.symbols.now in
    let p = inserted_is names c.inside.at c.in-Inserted.id c.in-Inserted.number c.in-Inserted.ensures.ident c.in-Inserted.ensures.placed in
    record {
      within = c.in-Inserted.ensures.placed;
      same = λ r i j s o a b.
          let k = Inserted p.0 (number_of c.in-Inserted.number) in
          c.inside.invariant.same r i k s o a p.2
          ∙ (ap (λ x. x || defines_within r.own p.0) (sym (c.is_own-in-Inserted.ensures names r k s o p.2) ∙ c.if-is_own.false)
          ∙ ap (defines_within r.own) (same_Some p.0 j (sym p.1 ∙ b)));
    }
