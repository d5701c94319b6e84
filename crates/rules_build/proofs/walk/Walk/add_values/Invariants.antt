use Rattle.std.proofs.Common.{◌≡◌, Bool, true, Option, drop}
use Rattle.scheme_model.specs.declared.Occ.{Occ}
use Rattle.scheme_model.specs.Identifiers.{Number}
use Rattle.scheme_model.specs.Trees.{name}
use Rattle.scheme_model.specs.Matching.{Values}
use Rattle.scheme_model.specs.Ident.{Ident as Identifier, same_ident}
use Rattle.syntax_tree.specs.Macros.{IsIdent}
use Rattle.syntax_tree.specs.Works.{StandsFor}
use Rattle.syntax_tree.specs.declared.trees.table.Region.{Region}
use Rattle.rules_build.specs.Values.{AreValuesOf}
use Rattle.rules_build.proofs.RowSteps.{ValuesUpTo}
use Rattle.rules_build.proofs.walk.Walk.add_values.Given as goal

abbrev pub invariant-loop-binding : goal.invariant-loop-binding
invariant-loop-binding l =
    (region : Region) (k : Number) (dots : Identifier → Bool) (i : Identifier) (o : Option Occ) (j : Identifier) (vs : Values Identifier) → StandsFor l.self.work.now l.template (name i o) → IsIdent l.self.work.now.symbols l.id i →
    same_ident j i ≡ true → AreValuesOf l.self.work.now region l.values vs → ValuesUpTo l.self.work.now region k dots i o j vs (drop l.binding-index l.values) l.fn.room l.room l.fn.plans.items l.plans.items
