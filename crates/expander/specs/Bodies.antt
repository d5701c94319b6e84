-- Bodies and local macros in the code (R7RS 4.3.1, 5.3.2).
use Rattle.std.specs.Prelude.{◌≡◌, ℕ, ◌+◌, ◌^◌, ◌≤◌, List, [], ◌∷◌, Some, Vec}
use Rattle.std.specs.declared.alloc.Global.{Global}
use Rattle.scheme_model.specs.Identifiers.{Number}
use Rattle.scheme_model.specs.Ident.{Ident as Identifier}
use Rattle.scheme_model.specs.ExpansionFaults.{Named}
use Rattle.scheme_model.specs.Measures.{trees_size}
use Rattle.scheme_model.specs.Requirements.{Known}
use Rattle.scheme_model.specs.Trees.{Trees, no_trees, tree}
use Rattle.scheme_model.specs.Steps.{Step, ◌>>=◌, done}
use Rattle.scheme_model.specs.Cores.{LocalNumber}
use Rattle.scheme_model.specs.Order.{Here, Item, RulesParts, forms_at, rules_parts_of, meet_all, run}
use Rattle.scheme_model.specs.Expression.{left_of}
use Rattle.scheme_model.specs.ScopedExpansion.{Frames}
use Rattle.syntax_tree.specs.Looks.{PartsStand, AllNamed}
use Rattle.syntax_tree.specs.declared.trees.Work.{Work}
use Rattle.syntax_tree.specs.declared.trees.nodes.Tree as number
use Rattle.syntax_tree.specs.declared.trees.table.Region.{Region}
use Rattle.core_forms.specs.Parts.{AreMacros}
use Rattle.core_forms.specs.declared.shape.LocalMacro.{LocalMacro}
use Rattle.core_tree.specs.Names.{AllMatch, IsBinder}
use Rattle.core_tree.specs.declared.cores.Binder as code_binder
use Rattle.unit_scopes.specs.State.{most_locals}
use Rattle.unit_scopes.specs.Kept.{KeptFor}
use Rattle.unit_scopes.specs.Outcomes.{At}
use Rattle.form_parts.specs.declared.items.Kept as code_kept
use Rattle.unit_scopes.specs.declared.scope.UnitScope.{UnitScope}
use Rattle.noted_steps.specs.Noting.{Noting, noting}
use Rattle.noted_steps.specs.Standing.{Stands}
use Rattle.noted_steps.specs.Stepped.{entered, entered_frames}
use Rattle.noted_steps.specs.Kept.{CanLook}

-- ---- bodies

-- the frames of a body, and what its forms set aside; its macro uses are met
abbrev pub body_pass : (turns : ℕ) → Here → Trees Identifier → Known → Frames → Step Noting (Frames × List (Item Identifier))
body_pass turns here ts known fs s =
    left_of (run (noting known) turns (entered_frames s fs) (record { todo = forms_at here ts; aside = []; uses = []; notes = [] }) (entered s)) >>=
    λ l t. done (entered_frames s fs, l.items) (meet_all (noting known) (entered_frames s fs) l.uses t)

abbrev pub BodyFor : Work → Region → (unit form : ℕ) → List Frames → ℕ × Vec code_kept.Kept Global → Frames × List (Item Identifier) → Type 0
BodyFor work region unit form ls x m = At ls x.0 m.0 × AllMatch (KeptFor work region unit form) x.1.items m.1

-- forms that stand and may be named, where the locals that they may take are few
pub record CanEnter (work : Work) (region : Region) (u : UnitScope) (scope : ℕ) (forms : List number.Tree) : Type 0 where
  pub look : CanLook work u scope
  pub trees : Trees Identifier
  pub stand : PartsStand work forms trees
  pub named : AllNamed work region forms
  pub small : trees_size trees ≤ 4194304
  pub room : u.form.budget.locals + 2 ^ 42 ≤ most_locals u.form.budget.nodes

-- ---- local macros

abbrev pub HaveRules : Work → List LocalMacro → Type 0
HaveRules work macros = (ns : List (Named Identifier)) × (ts : Trees Identifier) × AreMacros work macros ns ts

-- each tree is a list of rules with a head, and these are its parts
abbrev pub RulesAre : Trees Identifier → List (RulesParts Identifier) → Type 0
RulesAre no_trees [] = Unit {0}
RulesAre no_trees (r ∷ rs) = ⊥
RulesAre (tree t ts) [] = ⊥
RulesAre (tree t ts) (r ∷ rs) = (rules_parts_of t ≡ Some r) × RulesAre ts rs

abbrev pub HaveHeads : Work → List LocalMacro → Type 0
HaveHeads work macros = (ns : List (Named Identifier)) × (ts : Trees Identifier) × (rs : List (RulesParts Identifier)) × AreMacros work macros ns ts × RulesAre ts rs

-- the binders are locals of the form, of these numbers
abbrev pub HaveNumbers : Noting → List code_binder.Binder → List Number → Type 0
HaveNumbers s [] [] = Unit {0}
HaveNumbers s [] (v ∷ vs) = ⊥
HaveNumbers s (b ∷ bs) [] = ⊥
HaveNumbers s (b ∷ bs) (v ∷ vs) = (v ≡ record { unit = s.unit; form = s.form; count = b.number }) × HaveNumbers s bs vs

-- and of these names
abbrev pub AreLocalMacros : Work → Noting → List code_binder.Binder → List Number → List (Named Identifier) → Type 0
AreLocalMacros work s [] [] [] = Unit {0}
AreLocalMacros work s [] [] (n ∷ ns) = ⊥
AreLocalMacros work s [] (v ∷ vs) ns = ⊥
AreLocalMacros work s (b ∷ bs) [] ns = ⊥
AreLocalMacros work s (b ∷ bs) (v ∷ vs) [] = ⊥
AreLocalMacros work s (b ∷ bs) (v ∷ vs) (n ∷ ns) =
    IsBinder work.symbols s.unit s.form b (record { bound = LocalNumber v; ident = n.name; occ = n.occ }) × AreLocalMacros work s bs vs ns

pub record CanKeep (work : Work) (u : UnitScope) (binders : List code_binder.Binder) : Type 0 where
  pub layout : List Frames
  pub state : Noting
  pub numbers : List Number
  pub names : List (Named Identifier)
  pub stands : Stands work u layout state
  pub are : AreLocalMacros work state binders numbers names
