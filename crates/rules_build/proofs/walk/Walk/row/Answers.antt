use Rattle.std.proofs.Common.{refl, ap, ◌∙◌}
use Rattle.scheme_model.specs.Trees.{Tree}
use Rattle.scheme_model.specs.Building.{used_in}
use Rattle.scheme_model.specs.Ident.{Ident as Identifier, same_ident}
use Rattle.rules_build.proofs.RowLaws.{single}
use Rattle.rules_build.proofs.walk.Walk.row.Goals as goal

pub returns-in-Some-Many : goal.returns-in-Some-Many
returns-in-Some-Many c = λ region t bounds ms h holds are.
    let w = c.args.self.now.work.now in
    let q = c.in-Name.ensures.look t h in
    let v = c.in-Some-Many.field-0 in
    let e = c.only_value.ensures bounds v holds c.in-Some-Many.is in
    let s = single w region c.told_apart.ensures.idents c.in-Name.id q.0 q.3 q.1 bounds ms v c.in-Some-Many.values are e c.in-Some-Many.field-0-is in
    record {
      once = refl;
      ident = q.0;
      place = q.1;
      whole = q.2;
      is = q.3;
      variable = s.variable;
      values = s.values;
      same = s.same;
      used = ap (λ (x : Tree Identifier). used_in same_ident x ms) q.2 ∙ s.used;
      are = s.are;
    }
