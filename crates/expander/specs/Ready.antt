-- How an expression is read in the code, up to its parts that are to be expanded (R7RS 4.1, 4.2).
use Rattle.std.specs.Prelude.{◌≡◌, ◌⊎◌, ℕ, suc, List, [], ◌∷◌, Vec, true, false, Option, Some, None, Result, Ok, Err}
use Rattle.scheme_model.specs.declared.Occ.{Occ}
use Rattle.scheme_model.specs.Ident.{Ident as Identifier}
use Rattle.scheme_model.specs.Keywords.{CoreKeyword}
use Rattle.scheme_model.specs.Trees.{Tree, name, atom, list, vector, Trees, no_trees, tree, Tail}
use Rattle.scheme_model.specs.Meaning.{Head, IsCore, IsAuxiliary, IsMacro, IsNone, is_keyword}
use Rattle.scheme_model.specs.ExpansionFaults.{Named, KeywordAsValue}
use Rattle.scheme_model.specs.Cores.{Target, Core, Call}
use Rattle.scheme_model.specs.Steps.{Broken, Step, ◌>>=◌, done}
use Rattle.scheme_model.specs.Requirements.{Known}
use Rattle.scheme_model.specs.Order.{Transformer, Headed, RulesOf, head_of, target_of, use_of, meet_waiting}
use Rattle.scheme_model.specs.Expression.{Expander, whole, node, each, expression, expand}
use Rattle.scheme_model.specs.CountedExpansion.{means_here}
use Rattle.scheme_model.specs.ScopedExpansion.{Frames, ScopedState, macro_at}
use Rattle.form_parts.specs.FormsSeen.{head_name_of}
use Rattle.unit_scopes.specs.Searched.{searched}
use Rattle.unit_scopes.specs.State.{Stands}
use Rattle.unit_scopes.specs.Used.{target_at}
use Rattle.core_tree.specs.Names.{IsTarget}
use Rattle.core_tree.specs.declared.cores.Target as code_target
use Rattle.syntax_tree.specs.Looks.{PartsStand, AllNamed}
use Rattle.syntax_tree.specs.Works.{StandsFor}
use Rattle.syntax_tree.specs.declared.trees.Work.{Work}
use Rattle.syntax_tree.specs.declared.trees.nodes.Tree as number
use Rattle.syntax_tree.specs.declared.trees.table.Region.{Region}
use Rattle.core_forms.specs.Ends.{keyword_as, ShapeFor}
use Rattle.core_forms.specs.Forms.{Shape}
use Rattle.core_forms.specs.Named.{ShapeNamed}
use Rattle.core_forms.specs.declared.shape.CoreKeyword as code_keyword
use Rattle.core_tree.specs.Cores.{CoreStands}
use Rattle.core_tree.specs.Traces.{IsFault}
use Rattle.std.specs.declared.alloc.Global.{Global}
use Rattle.feature_requirements.specs.Faults.{plain_fault}
use Rattle.unit_scopes.specs.Counts.{Begins}
use Rattle.expander.specs.CoreSteps.{core_step, IsLeft}
use Rattle.unit_scopes.specs.Outcomes.{At, Leaves, MayFill, WorksOn, IsEnough, IsEnoughBelow}
use Rattle.expander.specs.Passed.{ShapeFits}
use Rattle.expander.specs.declared.expressions.At as code_at
use Rattle.expander.specs.declared.expressions.Headed as code_headed
use Rattle.expander.specs.declared.expressions.Headed.TheVariants as headed
use Rattle.expander.specs.declared.expressions.Ready as code_ready
use Rattle.expander.specs.declared.expressions.Ready.TheVariants as ready
use Rattle.feature_requirements.specs.declared.fault.ExpandFault.{ExpandFault}
use Rattle.feature_requirements.specs.declared.fault.ExpandFault.TheVariants as fault
use Rattle.unit_scopes.specs.declared.scope.UnitScope.{UnitScope}
use Rattle.noted_steps.specs.Noting.{Noting, state_of, noting}
use Rattle.noted_steps.specs.Outcomes.{Stays, Breaks}

abbrev pub Expanding : Type 0
Expanding = Expander Frames Identifier Noting

-- ---- macro uses at the head

abbrev pub not_macro : Head → Type 0
not_macro (IsCore k) = Unit {0}
not_macro (IsAuxiliary a) = Unit {0}
not_macro (IsMacro m) = ⊥
not_macro IsNone = Unit {0}

-- no macro is at the head
abbrev pub IsSettled : Known → ScopedState → Frames → Tree Identifier → Type 0
IsSettled known s fs (name i o) = Unit {0}
IsSettled known s fs (atom a o) = Unit {0}
IsSettled known s fs (vector ts o) = Unit {0}
IsSettled known s fs (list no_trees tail o) = Unit {0}
IsSettled known s fs (list (tree (name i p) ts) tail o) = not_macro (head_of (searched known) fs s i)
IsSettled known s fs (list (tree (atom a p) ts) tail o) = Unit {0}
IsSettled known s fs (list (tree (list us end p) ts) tail o) = Unit {0}
IsSettled known s fs (list (tree (vector us p) ts) tail o) = Unit {0}

-- the keyword of a use of a macro that there is; or no macro is at the head
abbrev pub IsMacroKeyword : Work → Known → ScopedState → Frames → Tree Identifier → Option code_target.Target → Type 0
IsMacroKeyword work known s fs t None = IsSettled known s fs t
IsMacroKeyword work known s fs t (Some keyword) =
    (i : Identifier) × (p : Option Occ) × (ts : Trees Identifier) × (tail : Tail Identifier) × (o : Option Occ) × (m : Transformer Frames Identifier)
    × (t ≡ list (tree (name i p) ts) tail o) × IsTarget work.symbols s.unit s.form keyword (target_of (searched known) fs s i p)
    × (head_of (searched known) fs s i ≡ IsMacro (means_here s fs i)) × (macro_at s.macros (means_here s fs i) ≡ Some m)

-- the rules of a macro are asked
abbrev pub rules_asked : Known → Target → Noting → Noting
rules_asked known keyword s = (noting known).ask (RulesOf keyword.meaning ∷ []) s

-- one use of a macro, whose rules are asked, and which is met at once: the tree that it gives
abbrev pub use_met : Known → Option Occ → Frames → Target → Transformer Frames Identifier → Trees Identifier → Tail Identifier → Step Noting (Tree Identifier)
use_met known here fs keyword m ts tail s = use_of (noting known) here fs keyword m ts tail (rules_asked known keyword s) >>= λ i t. done i.tree (meet_waiting (noting known) fs i.met t)

-- ---- lists

abbrev pub not_core : Head → Type 0
not_core (IsCore k) = ⊥
not_core (IsAuxiliary a) = Unit {0}
not_core (IsMacro m) = Unit {0}
not_core IsNone = Unit {0}

-- no keyword of a core form is at the head
abbrev pub IsPlain : Known → ScopedState → Frames → Tree Identifier → Type 0
IsPlain known s fs (name i o) = Unit {0}
IsPlain known s fs (atom a o) = Unit {0}
IsPlain known s fs (vector ts o) = Unit {0}
IsPlain known s fs (list no_trees tail o) = Unit {0}
IsPlain known s fs (list (tree (name i p) ts) tail o) = not_core (head_of (searched known) fs s i)
IsPlain known s fs (list (tree (atom a p) ts) tail o) = Unit {0}
IsPlain known s fs (list (tree (list us end p) ts) tail o) = Unit {0}
IsPlain known s fs (list (tree (vector us p) ts) tail o) = Unit {0}

-- the keyword of a core form; or there is none
abbrev pub IsCoreKeyword : Work → Known → ScopedState → Frames → Tree Identifier → Option (code_keyword.CoreKeyword × code_target.Target) → Type 0
IsCoreKeyword work known s fs t None = IsPlain known s fs t
IsCoreKeyword work known s fs t (Some k) =
    (i : Identifier) × (p : Option Occ) × (ts : Trees Identifier) × (tail : Tail Identifier) × (o : Option Occ) × (c : CoreKeyword)
    × (t ≡ list (tree (name i p) ts) tail o) × (keyword_as k.0 ≡ Some c) × (head_of (searched known) fs s i ≡ IsCore c) × IsTarget work.symbols s.unit s.form k.1 (target_of (searched known) fs s i p)

-- a use of the name at the head, where one is there
abbrev pub IsHeadTarget : Work → ScopedState → Frames → Option (Named Identifier) → Option code_target.Target → Type 0
IsHeadTarget work s fs None None = Unit {0}
IsHeadTarget work s fs None (Some x) = ⊥
IsHeadTarget work s fs (Some n) None = ⊥
IsHeadTarget work s fs (Some n) (Some x) = IsTarget work.symbols s.unit s.form x (target_at s fs n)

-- what stands at the head: the keyword of a macro, that of a core form, another name, or no name
abbrev pub IsHeaded : Work → Known → ScopedState → Frames → Tree Identifier → code_headed.Headed → Type 0
IsHeaded work known s fs t (headed.Macro keyword) = IsMacroKeyword work known s fs t (Some keyword)
IsHeaded work known s fs t (headed.Core core keyword) = IsSettled known s fs t × IsCoreKeyword work known s fs t (Some (core, keyword))
IsHeaded work known s fs t (headed.Plain keyword) = IsSettled known s fs t × IsPlain known s fs t × IsHeadTarget work s fs (head_name_of t) (Some keyword)
IsHeaded work known s fs t headed.Nameless = IsSettled known s fs t × IsPlain known s fs t × IsHeadTarget work s fs (head_name_of t) None

-- the keyword of a core form at the head of a form of the code, or that there is none
abbrev pub HasCore : Work → UnitScope → (scope : ℕ) → number.Tree → Option (code_keyword.CoreKeyword × code_target.Target) → Type 0
HasCore work u scope form core =
    (known : Known) (ls : List Frames) (s : ScopedState) (fs : Frames) (t : Tree Identifier) → Stands work u ls s → At ls scope fs → StandsFor work form t → IsCoreKeyword work known s fs t core

-- the parts of a call, or that they are none
abbrev pub IsCall : List number.Tree → Option number.Tree → Option Occ → Result (Vec number.Tree Global) ExpandFault → Type 0
IsCall ns tail here (Ok parts) = (parts.items ≡ ns) × (tail ≡ None) × (ns ≡ [] → ⊥)
IsCall ns tail here (Err (fault.At e)) = (fault.At e ≡ plain_fault here 31) × ((tail ≡ None → ⊥) ⊎ (ns ≡ []))
IsCall ns tail here (Err fault.Full) = ⊥
IsCall ns tail here (Err fault.Memory) = Unit {0}

-- the name at the head of a list is asked
abbrev pub head_asked : Known → Frames → Option (Named Identifier) → Noting → Noting
head_asked known fs None s = s
head_asked known fs (Some n) s = (noting known).ask (Headed fs n.name ∷ []) s

-- what is come to when all macros at the head are used: the same core in fewer turns, which are still enough
pub record Settled (known : Known) (depth turns : ℕ) (fs : Frames) (u v : UnitScope) (p : Result Core Broken × Noting) (here : Option Occ) (t : Tree Identifier) (s : Noting) : Type 0 where
  pub turns_left : ℕ
  pub enough : IsEnough depth v.form.budget.uses (suc turns_left)
  pub settled : IsSettled known (state_of s) fs t
  pub same : p ≡ expression (expand (noting known) turns_left) (noting known) depth here fs t s

abbrev pub Settles : Known → (depth turns : ℕ) → Work → Work → Region → UnitScope → UnitScope → List Frames → Frames → Result (number.Tree × Option Occ) ExpandFault → Result Core Broken × Noting → Type 0
Settles known depth turns old new region u v ls fs (Ok x) p =
    (t : Tree Identifier) × (s : Noting) × Stays old new region u v ls (head_asked known fs (head_name_of t) s) × WorksOn new region x.0 t × Settled known depth turns fs u v p x.1 t s
Settles known depth turns old new region u v ls fs (Err (fault.At e)) p = Stays old new region u v ls p.1 × ((b : Broken) × (p.0 ≡ Err b) × IsFault new.symbols e b)
Settles known depth turns old new region u v ls fs (Err fault.Full) p = Leaves old new region u × MayFill old u
Settles known depth turns old new region u v ls fs (Err fault.Memory) p = Leaves old new region u

-- the form that is come to and its place, whatever stands at its head
abbrev pub come_to : Result (number.Tree × Option Occ × Option (code_keyword.CoreKeyword × code_target.Target)) ExpandFault → Result (number.Tree × Option Occ) ExpandFault
come_to (Ok x) = Ok (x.0, x.1)
come_to (Err e) = Err e

-- ---- an expression that was read

-- it has its core; or it is a call of these parts; or a core form of this shape
abbrev pub ReadyFor : Known → (depth : ℕ) → Option Occ → Work → Region → (unit form : ℕ) → Frames → code_ready.Ready → (Expanding → Result Core Broken × Noting) → Noting → Type 0
ReadyFor known depth here work region unit form fs (ready.Core c) step t = (m : Core) × CoreStands work unit form c m × ((f : Expanding) → step f ≡ done m t)
ReadyFor known depth here work region unit form fs (ready.Call parts) step t =
    (ts : Trees Identifier) × PartsStand work parts.items ts × AllNamed work region parts.items
    × ((f : Expanding) → step f ≡ node (noting known) here 1 depth (λ below t1. each (λ u. f below here fs (whole u)) ts t1 >>= λ cs. done (Call cs)) t)
ReadyFor known depth here work region unit form fs (ready.Shape k shape) step t =
    (c : CoreKeyword) × (m : Shape) × (keyword_as k ≡ Some c) × ShapeFor work shape m × ShapeNamed work region shape × (ShapeFits m × IsLeft m)
    × ((f : Expanding) → step f ≡ core_step f (noting known) depth here fs c m t)

abbrev pub Reads : Known → (depth : ℕ) → Option Occ → Work → Region → UnitScope → UnitScope → List Frames → Frames → Result code_ready.Ready ExpandFault → (Expanding → Result Core Broken × Noting) → Type 0
Reads known depth here work region u v ls fs (Ok x) step = (t : Noting) × Stays work work region u v ls t × ReadyFor known depth here work region v.unit v.form.number fs x step t
Reads known depth here work region u v ls fs (Err (fault.At e)) step =
    (b : Broken) × (t : Noting) × Stays work work region u v ls t × IsFault work.symbols e b × ((f : Expanding) → step f ≡ (Err b, t))
Reads known depth here work region u v ls fs (Err fault.Full) step = Leaves work work region u × MayFill work u
Reads known depth here work region u v ls fs (Err fault.Memory) step = Leaves work work region u

-- ---- an expression that was settled and read

-- what is left of it, in fewer turns that are still enough for what stands deeper
abbrev pub Prepares : Known → (depth : ℕ) → Work → Work → Region → UnitScope → UnitScope → List Frames → Frames → Result (Option Occ × code_ready.Ready) ExpandFault → Result Core Broken × Noting → Type 0
Prepares known depth old new region u v ls fs (Ok x) p =
    (left : ℕ) × (step : Expanding → Result Core Broken × Noting) × (t : Noting) × Stays old new region u v ls t × IsEnoughBelow depth v.form.budget.uses left
    × (p ≡ step (expand (noting known) left)) × ReadyFor known depth x.0 new region v.unit v.form.number fs x.1 step t
Prepares known depth old new region u v ls fs (Err (fault.At e)) p = Stays old new region u v ls p.1 × Breaks new e p
Prepares known depth old new region u v ls fs (Err fault.Full) p = Leaves old new region u × MayFill old u
Prepares known depth old new region u v ls fs (Err fault.Memory) p = Leaves old new region u

-- ---- smaller steps

-- a keyword is no variable
abbrev pub TestsVariable : Work → Noting → Option Occ → Named Identifier → Head → Result (Unit {0}) ExpandFault → Type 0
TestsVariable work s here n h (Ok u) = is_keyword h ≡ false
TestsVariable work s here n h (Err (fault.At e)) = (is_keyword h ≡ true) × IsFault work.symbols e (record { fault = KeywordAsValue n; here = here })
TestsVariable work s here n h (Err fault.Full) = ⊥
TestsVariable work s here n h (Err fault.Memory) = ⊥

-- whether it passed, whatever it answered
abbrev pub passed : {A : Type 0} → Result A ExpandFault → Result (Unit {0}) ExpandFault
passed (Ok x) = Ok tt
passed (Err e) = Err e

-- a core node begins: its parts stand one level deeper
abbrev pub BeginsBelow : UnitScope → UnitScope → code_at.At → ℕ → Result code_at.At ExpandFault → Type 0
BeginsBelow old new at n (Ok below) = (below.scope ≡ at.scope) × (below.here ≡ at.here) × Begins old new at.here n at.depth (Ok below.depth)
BeginsBelow old new at n (Err e) = Begins old new at.here n at.depth (Err e)
