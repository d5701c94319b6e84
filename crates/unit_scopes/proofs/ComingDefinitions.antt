-- What identifiers would mean with a definition that is about to be made, and what they mean by the scopes that stand.
use Rattle.std.proofs.Common.{◌≡◌, ℕ, List, [], ◌∷◌, ◌++◌, length, slice_get, Option, Some, None, refl, sym, ap, ◌∙◌, subst}
use Rattle.std.specs.FinMap as map
use Rattle.scheme_model.specs.Identifiers.{Number}
use Rattle.scheme_model.specs.Ident.{Ident as Identifier}
use Rattle.scheme_model.specs.ExpansionFaults.{Named}
use Rattle.scheme_model.specs.Meaning as model
use Rattle.scheme_model.specs.RulesShape.{Rules}
use Rattle.scheme_model.specs.Scopes.{Chain, Uses, Own, means}
use Rattle.scheme_model.specs.Substitution.{Defined}
use Rattle.scheme_model.specs.Order.{is_some}
use Rattle.scheme_model.specs.ScopedExpansion.{Enter, Frames, BodyDefinition, ScopedState, next_number, definition_added}
use Rattle.syntax_tree.specs.Names.{Names, AreToldApart}
use Rattle.syntax_tree.specs.Macros.{IsIdent}
use Rattle.syntax_tree.specs.Meant.{IsMeaning}
use Rattle.syntax_tree.specs.declared.meaning.Meaning.{Meaning}
use Rattle.syntax_tree.specs.declared.meaning.Meaning.TheVariants.{Local, Global}
use Rattle.syntax_tree.specs.declared.trees.Work.{Work}
use Rattle.syntax_tree.proofs.Places.{get_next}
use Rattle.scope_env.specs.Environment.{Environment, IsSound, with_bound}
use Rattle.scope_env.specs.Standing.{EnvFor, StandsFor}
use Rattle.scheme_model.specs.Meaning.{of_form}
use Rattle.scope_env.specs.Moved.{parent_of}
use Rattle.unit_scopes.specs.Chains.{chain_in, uses_in, given_in}
use Rattle.scheme_model.specs.CountedExpansion.{means_here}
use Rattle.unit_scopes.specs.State.{EnvStands, Stands}
use Rattle.unit_scopes.specs.Stepped.{IsOpenBody}
use Rattle.unit_scopes.specs.declared.scope.UnitScope.{UnitScope}
use Rattle.unit_scopes.proofs.ChainLaws.{chain_means}
use Rattle.unit_scopes.proofs.BodiesStand.{defined_env}
use Rattle.unit_scopes.proofs.UnitsStand.{own_env}

-- what is looked up in a scope of these frames, by a look-up in an environment that stands
pub meant_here : (names : Names) (env : Environment) (ls : List Frames) (s : ScopedState) (scope : ℕ) (fs : Frames) (i : Identifier) (m : Meaning) → EnvStands names env ls s → slice_get ls scope ≡ Some fs →
    ((given : Own) (uses : Uses) (c : Chain) (unit form : ℕ) → EnvFor names env given uses → StandsFor names env (Some scope) c → IsMeaning names unit form m (of_form unit form (means given uses c i))) →
    IsMeaning names s.unit s.form m (means_here s fs i)
meant_here names env ls s scope fs i m e at resolved =
    subst (λ (x : model.Meaning). IsMeaning names s.unit s.form m (of_form s.unit s.form x)) (chain_means s fs i)
    (resolved (given_in s) (uses_in s) (chain_in s fs) s.unit s.form e.given (e.scopes scope fs at))

-- with a definition in an open body
pub coming_in_body : (work : Work) (u : UnitScope) (ls : List Frames) (s : ScopedState) (scope : ℕ) (b : Number) (fs gs : Frames) (ident : ℕ) (n : Named Identifier) (r : Option (Rules Identifier)) →
    AreToldApart work.symbols.idents → IsSound u.env → IsOpenBody ls scope b fs → IsIdent work.symbols ident n.name → Stands work u ls s →
    EnvStands work.symbols (with_bound u.env scope ident (Local u.form.budget.locals)) ls (definition_added (Some b) n r gs s)
coming_in_body work u ls s scope b fs gs ident n r apart sound body is e =
    let d : BodyDefinition = record { body = b; ident = n.name; binder = next_number s s.locals } in
    let frames = Enter b body.uses ∷ fs in
    let before : EnvStands work.symbols u.env (body.older ++ frames ∷ []) s = subst (λ (l : List Frames). EnvStands work.symbols u.env l s) body.layout e.env in
    let p = before.inside (length body.older) (Enter b body.uses) fs (get_next body.older [] frames) in
    let inside : parent_of u.env scope ≡ Some p.0 = subst (λ (k : ℕ). parent_of u.env k ≡ Some p.0) (sym body.newest) p.1 in
    let now = defined_env work.symbols apart s body.older scope body.newest d body.uses fs body.others body.around u.env sound before p.0 ident inside is in
    let there : EnvStands work.symbols (with_bound u.env scope ident (Local (s.locals s.form))) ls (record s { definitions = d ∷ s.definitions }) =
    subst (λ (l : List Frames). EnvStands work.symbols (with_bound u.env scope ident (Local (s.locals s.form))) l (record s { definitions = d ∷ s.definitions })) (sym body.layout) now in
    let v : EnvStands work.symbols (with_bound u.env scope ident (Local u.form.budget.locals)) ls (record s { definitions = d ∷ s.definitions }) =
    subst (λ (k : ℕ). EnvStands work.symbols (with_bound u.env scope ident (Local k)) ls (record s { definitions = d ∷ s.definitions })) (sym e.form.locals) there in
    record {
      count = v.count;
      scopes = v.scopes;
      given = v.given;
      noted = v.noted;
      unnoted = v.unnoted;
      inside = v.inside;
      entered = v.entered;
      defined = v.defined;
      named = v.named;
      given_named = v.given_named;
    }

-- with a definition of the unit
pub coming_in_unit : (work : Work) (u : UnitScope) (ls : List Frames) (s : ScopedState) (gs : Frames) (ident : ℕ) (n : Named Identifier) (r : Option (Rules Identifier)) →
    AreToldApart work.symbols.idents → IsSound u.env → IsIdent work.symbols ident n.name → Stands work u ls s →
    EnvStands work.symbols (with_bound u.env u.root ident (Global u.unit ident)) ls (definition_added None n r gs s)
coming_in_unit work u ls s gs ident n r apart sound is e =
    let d : Defined = record { unit = s.unit; form = s.form; ident = n.name; keyword = is_some r; occ = n.occ } in
    let at : map.get u.env.roots s.unit ≡ Some u.root = ap (map.get u.env.roots) (sym e.unit) ∙ e.own in
    let there = own_env s d refl work.symbols apart u.env sound ls u.root ident at is e.env in
    let v : EnvStands work.symbols (with_bound u.env u.root ident (Global u.unit ident)) ls (record s { table = d ∷ s.table }) =
    subst (λ (w : ℕ). EnvStands work.symbols (with_bound u.env u.root ident (Global w ident)) ls (record s { table = d ∷ s.table })) (sym e.unit) there in
    record {
      count = v.count;
      scopes = v.scopes;
      given = v.given;
      noted = v.noted;
      unnoted = v.unnoted;
      inside = v.inside;
      entered = v.entered;
      defined = v.defined;
      named = v.named;
      given_named = v.given_named;
    }
