use Rattle.std.proofs.Common.{◌≡◌, List, drop}
use Rattle.scheme_model.specs.Shapes.{Clause, distinct_all}
use Rattle.scheme_model.specs.Ident.{Ident as Identifier, same_ident}
use Rattle.core_forms.specs.Parts.{AllMatch, IsClause}
use Rattle.core_forms.proofs.procedure.distinct_all.Given as goal

abbrev pub invariant-loop-clause : goal.invariant-loop-clause
invariant-loop-clause l =
    (cs : List (Clause Identifier)) → AllMatch (IsClause l.work) l.clauses cs → distinct_all same_ident cs ≡ distinct_all same_ident (drop l.clause-index cs)
