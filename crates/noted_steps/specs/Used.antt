-- A macro use of which the comparisons are asked first (R7RS 4.3.2).
use Rattle.std.specs.Prelude.{List, [], map, if◌then◌else◌}
use Rattle.scheme_model.specs.ExpansionFaults.{UseBudget}
use Rattle.scheme_model.specs.Meaning.{same_meaning}
use Rattle.scheme_model.specs.RulesShape.{role_of, dots_of}
use Rattle.scheme_model.specs.Matching.{matcher, first_match, compared}
use Rattle.scheme_model.specs.Trees.{Trees, Tail}
use Rattle.scheme_model.specs.Cores.{Target}
use Rattle.scheme_model.specs.Steps.{Step, fails}
use Rattle.scheme_model.specs.Order.{Here, Instance, Transformer, Alike, Ops, has_use, used}

-- those of a use that the budget leaves
abbrev pub pairs_of : {E A L S : Type 0} → Ops E A L S → Transformer E A → Trees A → Tail A → S → List (A × A)
pairs_of ops m ts tail s = if has_use ops s then compared (role_of ops.names m.rules) (dots_of ops.names m.rules) m.rules.rules ts tail else []

-- they are asked
abbrev pub compared_first : {E A L S : Type 0} → Ops E A L S → E → Transformer E A → Trees A → Tail A → S → S
compared_first ops e m ts tail s = ops.ask (map (λ q. Alike m.env q.0 e q.1) (pairs_of ops m ts tail s)) s

-- and then it is made
abbrev pub use_asked : {E A L S : Type 0} → Ops E A L S → Here → E → Target → Transformer E A → Trees A → Tail A → Step S (Instance A)
use_asked ops here e keyword m ts tail s =
    if has_use ops s then
    used ops here keyword m (ops.next_use s) (first_match (matcher ops.names m.rules (λ l j. same_meaning (ops.means m.env s l) (ops.means e s j))) m.rules.rules ts tail) (ops.begin_use m.env s)
    else fails here UseBudget s
