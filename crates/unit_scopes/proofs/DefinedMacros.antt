-- Definitions of the operation `define`: of a variable, and of a macro, which is kept as what its name means.
use Rattle.std.proofs.Common.{◌≡◌, ℕ, ◌+◌, ◌≤◌, List, Bool, true, false, cond, Some, None, sym}
use Rattle.std.specs.BTreeMap.{BTreeMap, get, btree_map_len}
use Rattle.std.specs.Ordering.{nat_cmp, is_eq}
use Rattle.scheme_model.specs.Identifiers.{Number}
use Rattle.scheme_model.specs.Ident.{Ident as Identifier}
use Rattle.scheme_model.specs.ExpansionFaults.{Named}
use Rattle.scheme_model.specs.Meaning as model
use Rattle.scheme_model.specs.RulesShape.{Rules}
use Rattle.scheme_model.specs.ScopedExpansion.{Frames, ScopedState, next_number, definition_added}
use Rattle.syntax_tree.specs.Names.{AreToldApart}
use Rattle.syntax_tree.specs.Macros.{IsIdent}
use Rattle.syntax_tree.specs.declared.meaning.Meaning.TheVariants.{Local, Global}
use Rattle.syntax_tree.specs.declared.trees.Work.{Work}
use Rattle.scope_env.specs.Environment.{IsSound, with_bound}
use Rattle.core_forms.specs.Parts.{IsName}
use Rattle.core_forms.specs.declared.shape.NamePart.{NamePart}
use Rattle.unit_scopes.specs.Binds.{with_locals}
use Rattle.unit_scopes.specs.Macros.{Keeps}
use Rattle.unit_scopes.specs.State.{IsMacro, Stands, most_locals}
use Rattle.unit_scopes.specs.Stepped.{IsOpenBody, with_told, with_definition, with_macros}
use Rattle.unit_scopes.specs.declared.macros.Macro.{Macro}
use Rattle.unit_scopes.specs.declared.macros.Macros.{Macros}
use Rattle.unit_scopes.specs.declared.scope.UnitScope.{UnitScope}
use Rattle.unit_scopes.proofs.BodiesStand.{definition_stands}
use Rattle.unit_scopes.proofs.UnitsStand.{own_definition_stands}
use Rattle.unit_scopes.proofs.KeptStands.{kept_stands}

-- a macro in an open body
pub macro_definition_stands : (work : Work) (u : UnitScope) (ls : List Frames) (s : ScopedState) (scope : ℕ) (b : Number) (fs gs : Frames) (ident : ℕ) (n : Named Identifier) (ms : Macros) (k : Macro) (r : Rules Identifier) →
    AreToldApart work.symbols.idents → AreToldApart work.symbols.symbols → IsSound u.env → IsOpenBody ls scope b fs → IsIdent work.symbols ident n.name → u.form.budget.locals + 1 ≤ most_locals u.form.budget.nodes →
    Keeps u.macros ms u.form.number (Local u.form.budget.locals) k → IsMacro work ls k (record { env = gs; rules = r }) → Stands work u ls s →
    Stands work (with_macros (record (with_locals u (u.form.budget.locals + 1)) { env = with_bound u.env scope ident (Local u.form.budget.locals) }) ms) ls (definition_added (Some b) n (Some r) gs s)
macro_definition_stands work u ls s scope b fs gs ident n ms k r apart told sound body is room keeps kept e =
    let v = next_number s s.locals in
    let means : model.Local v ≡ model.Local (record { unit = s.unit; form = s.form; count = u.form.budget.locals }) = λ j. model.Local (record { unit = s.unit; form = s.form; count = sym e.form.locals j }) in
    kept_stands work (record (with_locals u (u.form.budget.locals + 1)) { env = with_bound u.env scope ident (Local u.form.budget.locals) }) ls (definition_added (Some b) n None gs s) ms
    (Local u.form.budget.locals) (model.Local v) k (record { env = gs; rules = r }) apart told keeps tt means kept
    (definition_stands work u ls s scope b fs gs ident n apart sound body is room e)

-- a variable of the unit
pub own_variable_stands : (work : Work) (u : UnitScope) (ls : List Frames) (s : ScopedState) (fs : Frames) (name : NamePart) (n : Named Identifier) (defined : BTreeMap ℕ Bool) →
    AreToldApart work.symbols.idents → IsSound u.env → IsName work name n → ((m : ℕ) → get nat_cmp defined m ≡ cond (is_eq (nat_cmp name.ident m)) (Some false) (get nat_cmp u.defined m)) →
    btree_map_len defined ≡ btree_map_len u.defined + 1 → Stands work u ls s → Stands work (with_definition (with_told u name) name.ident defined) ls (definition_added None n None fs s)
own_variable_stands work u ls s fs name n defined apart sound is put more e = own_definition_stands work u ls s name n.name n.occ false defined apart sound is.0 is.1 put more e

-- a macro of the unit
pub own_macro_stands : (work : Work) (u : UnitScope) (ls : List Frames) (s : ScopedState) (fs : Frames) (name : NamePart) (n : Named Identifier) (defined : BTreeMap ℕ Bool) (ms : Macros) (k : Macro) (r : Rules Identifier) →
    AreToldApart work.symbols.idents → AreToldApart work.symbols.symbols → IsSound u.env → IsName work name n →
    ((m : ℕ) → get nat_cmp defined m ≡ cond (is_eq (nat_cmp name.ident m)) (Some true) (get nat_cmp u.defined m)) → btree_map_len defined ≡ btree_map_len u.defined + 1 →
    Keeps u.macros ms u.form.number (Global u.unit name.ident) k → IsMacro work ls k (record { env = fs; rules = r }) → Stands work u ls s →
    Stands work (with_macros (with_definition (with_told u name) name.ident defined) ms) ls (definition_added None n (Some r) fs s)
own_macro_stands work u ls s fs name n defined ms k r apart told sound is put more keeps kept e =
    kept_stands work (with_definition (with_told u name) name.ident defined) ls _ ms (Global u.unit name.ident) (model.Global s.unit n.name) k (record { env = fs; rules = r }) apart told keeps tt (e.unit, is.0) kept
    (own_definition_stands work u ls s name n.name n.occ true defined apart sound is.0 is.1 put more e)
