use Rattle.std.proofs.Common.{sym, ap, ◌∙◌, subst, cond}
use Rattle.std.proofs.lemmas.Option.{same_Some}
use Rattle.scheme_model.specs.Ident.{Written, Inserted}
use Rattle.syntax_tree.specs.Macros.{IsIdent}
use Rattle.syntax_tree.specs.Numbered.{number_of}
use Rattle.question_laws.specs.Noted.{before_uses}
use Rattle.form_notes.specs.Noted.{began}
use Rattle.form_notes.proofs.Layers.{written_is, inserted_is, fewer_layers}
use Rattle.form_notes.proofs.noting.Noting.before_uses.Goals as goal

pub returns-in-Written : goal.returns-in-Written
returns-in-Written c = λ r i s is.
    let names = c.args.symbols.now in
    let p = written_is names c.inside.at c.in-Written.unit c.in-Written.symbol c.in-Written.ensures.ident c.in-Written.ensures.placed in
    let j = Written c.in-Written.unit p.0 in
    subst (IsIdent names c.inside.at) (sym (c.inside.invariant.same r i j s is p.1)) p.1

pub returns-then-not-is_to_come : goal.returns-then-not-is_to_come
returns-then-not-is_to_come c = λ r i s is.
    let names = c.args.symbols.now in
    let p = inserted_is names c.inside.at c.in-Inserted.id c.in-Inserted.number c.in-Inserted.ensures.ident c.in-Inserted.ensures.placed in
    let j = Inserted p.0 (number_of c.in-Inserted.number) in
    let t = sym (c.is_to_come.ensures r s) ∙ c.if-not-is_to_come.true in
    subst (IsIdent names c.inside.at) (sym (c.inside.invariant.same r i j s is p.2 ∙ ap (λ b. cond b (before_uses (began r) p.0) j) t)) p.2

pub inside-smaller : goal.inside-smaller
inside-smaller c = fewer_layers c.args.symbols.now c.inside.at c.in-Inserted.id c.in-Inserted.number c.in-Inserted.ensures.ident c.in-Inserted.ensures.placed

pub inside-preserved : goal.inside-preserved
inside-preserved c =
    let names = c.args.symbols.now in
    let p = inserted_is names c.inside.at c.in-Inserted.id c.in-Inserted.number c.in-Inserted.ensures.ident c.in-Inserted.ensures.placed in
    record {
      within = c.in-Inserted.ensures.placed;
      same = λ r i j s a b.
          let l = Inserted p.0 (number_of c.in-Inserted.number) in
          let t = sym (c.is_to_come.ensures r s) ∙ c.if-not-is_to_come.false in
          c.inside.invariant.same r i l s a p.2
          ∙ (ap (λ x. cond x (before_uses (began r) p.0) l) t
          ∙ ap (before_uses (began r)) (same_Some p.0 j (sym p.1 ∙ b)));
    }
