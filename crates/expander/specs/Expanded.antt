-- What the parts of expressions demand in the code as they are expanded, and what becomes of them (R7RS 4.1, 4.2).
use Rattle.std.specs.Prelude.{ℕ, ◌≤◌, List, length, Bool, true, false}
use Rattle.std.specs.Global.{Box}
use Rattle.scheme_model.specs.Ident.{Ident as Identifier}
use Rattle.scheme_model.specs.ExpansionFaults.{Named}
use Rattle.scheme_model.specs.Trees.{Trees}
use Rattle.scheme_model.specs.Measures.{trees_size}
use Rattle.scheme_model.specs.Shapes.{Clause, LocalMacros}
use Rattle.scheme_model.specs.Cores.{Core, Binders}
use Rattle.scheme_model.specs.Steps.{Step}
use Rattle.scheme_model.specs.Order.{Here, Item, Ops}
use Rattle.scheme_model.specs.Expression.{Expander, let_syntax, letrec_syntax}
use Rattle.syntax_tree.specs.Looks.{PartsStand, AllNamed}
use Rattle.syntax_tree.specs.declared.trees.Work.{Work}
use Rattle.syntax_tree.specs.declared.trees.nodes.Tree as number
use Rattle.syntax_tree.specs.declared.trees.table.Region.{Region}
use Rattle.core_forms.specs.Ends.{ShapeFor}
use Rattle.core_forms.specs.Forms.{Shape}
use Rattle.core_forms.specs.Named.{ShapeNamed}
use Rattle.core_forms.specs.Parts.{AreMacros}
use Rattle.core_forms.specs.declared.shape.ClauseShape as code_clause
use Rattle.core_forms.specs.declared.shape.CoreShape as code_shape
use Rattle.core_forms.specs.declared.shape.LocalMacro as code_macro
use Rattle.core_tree.specs.Cores.{CoreStands, IsClause}
use Rattle.core_tree.specs.Names.{AllMatch}
use Rattle.core_tree.specs.declared.cores.Clause as core_clause
use Rattle.core_tree.specs.declared.cores.Core as code_core
use Rattle.expander.specs.CoreSteps.{IsLeft}
use Rattle.unit_scopes.specs.Kept.{ClauseFor, KeptFor}
use Rattle.expander.specs.Passed.{ShapeFits}
use Rattle.form_parts.specs.declared.items.Kept as code_kept
use Rattle.unit_scopes.specs.declared.scope.UnitScope.{UnitScope}

-- ---- what calls demand

abbrev pub AreAtWork : Work → Region → List number.Tree → Type 0
AreAtWork work region ns = (ts : Trees Identifier) × PartsStand work ns ts × AllNamed work region ns

-- the forms of a body have no more nodes than a tree
abbrev pub BodyAtWork : Work → Region → List number.Tree → Type 0
BodyAtWork work region ns = (ts : Trees Identifier) × PartsStand work ns ts × AllNamed work region ns × (trees_size ts ≤ 4194304)

abbrev pub ShapeAtWork : Work → Region → code_shape.CoreShape → Type 0
ShapeAtWork work region x = (m : Shape) × ShapeFor work x m × ShapeNamed work region x × ShapeFits m × IsLeft m

abbrev pub ClauseAtWork : Work → Region → code_clause.ClauseShape → Type 0
ClauseAtWork work region x = (c : Clause Identifier) × ClauseFor work region x c

abbrev pub ClausesAtWork : Work → Region → List code_clause.ClauseShape → Type 0
ClausesAtWork work region xs = (cs : List (Clause Identifier)) × AllMatch (ClauseFor work region) xs cs

abbrev pub KeptAtWork : Work → Region → UnitScope → code_kept.Kept → Type 0
KeptAtWork work region u k = (i : Item Identifier) × KeptFor work region u.unit u.form.number k i

abbrev pub AreKeptAtWork : Work → Region → UnitScope → List code_kept.Kept → Type 0
AreKeptAtWork work region u ks = (is : List (Item Identifier)) × AllMatch (KeptFor work region u.unit u.form.number) ks is

abbrev pub MacrosAtWork : Work → List code_macro.LocalMacro → Type 0
MacrosAtWork work xs = (ns : List (Named Identifier)) × (ts : Trees Identifier) × AreMacros work xs ns ts × (length ns ≤ 4194304)

-- ---- what becomes of them

-- a clause with its binders and its body
abbrev pub ClauseStands : Work → (unit form : ℕ) → core_clause.Clause → Binders × Core → Type 0
ClauseStands work unit form x m = (y : Box code_core.Core) × IsClause work unit form x m.0 y × CoreStands work unit form y.value m.1

abbrev pub macros_step : {E L S : Type 0} → Bool → Expander E Identifier S → Ops E Identifier L S → ℕ → Here → E → LocalMacros Identifier → Step S Core
macros_step true f ops depth here e m s = letrec_syntax f ops depth here e m s
macros_step false f ops depth here e m s = let_syntax f ops depth here e m s
