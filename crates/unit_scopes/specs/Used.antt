-- A macro use in the code, and its comparisons (R7RS 4.3.2).
use Rattle.std.specs.Prelude.{◌≡◌, ◌⊎◌, ℕ, ◌+◌, ◌-◌, ◌==◌, ◌≤◌, ◌&&◌, List, [], ◌∷◌, map, Bool, false, Some, None, Option, Result, Ok, Err}
use Rattle.scheme_model.specs.declared.Occ.{Occ}
use Rattle.scheme_model.specs.Identifiers.{Number}
use Rattle.scheme_model.specs.ExpansionFaults.{Named, Fault, EllipsisLength, NodeBudget, DepthBudget}
use Rattle.scheme_model.specs.RulesShape.{Rules}
use Rattle.scheme_model.specs.Matching.{Chosen, matcher, first_match}
use Rattle.scheme_model.specs.Building.{Built}
use Rattle.scheme_model.specs.Ident.{Ident as Identifier}
use Rattle.scheme_model.specs.Trees.{Tree, list, Trees, tree, Tail}
use Rattle.scheme_model.specs.Meaning.{same_meaning}
use Rattle.scheme_model.specs.Cores.{Target, MacroUse}
use Rattle.scheme_model.specs.Order.{Note, Compared, WaitingUse, Instance, Transformer}
use Rattle.scheme_model.specs.CountedExpansion.{means_here}
use Rattle.scheme_model.specs.ScopedExpansion.{Frames, FramedIdent, ScopedState, macro_at}
use Rattle.syntax_tree.specs.Macros.{identifiers, MatchedFor}
use Rattle.syntax_tree.specs.Bound.{IsMatched, BindingsNamed}
use Rattle.syntax_tree.specs.Works.{StandsFor, CanName, live_count}
use Rattle.syntax_tree.specs.declared.meaning.Meaning as code_meaning
use Rattle.syntax_tree.specs.declared.meaning.Meaning.TheVariants as meanings
use Rattle.syntax_tree.specs.declared.rules.IdPair.{IdPair}
use Rattle.syntax_tree.specs.declared.rules.Matched.{Matched}
use Rattle.syntax_tree.specs.declared.trees.Work.{Work}
use Rattle.syntax_tree.specs.declared.trees.nodes.Tree as number
use Rattle.syntax_tree.specs.declared.trees.table.Region.{Region}
use Rattle.rules_build.specs.declared.fault.BuildFault.{BuildFault}
use Rattle.rules_build.specs.declared.fault.BuildFault.TheVariants as builds
use Rattle.rules_match.specs.Matches.{means_same}
use Rattle.core_tree.specs.Names.{IsTarget}
use Rattle.unit_scopes.specs.State.{Stands}
use Rattle.unit_scopes.specs.Kept.{NoteFor, WaitsFor}
use Rattle.unit_scopes.specs.Outcomes.{At, MayFill, WorksOn}
use Rattle.feature_requirements.specs.Faults.{plain_fault}
use Rattle.unit_scopes.specs.Counts.{with_nodes}
use Rattle.unit_scopes.specs.Macros.{macro_in}
use Rattle.unit_scopes.specs.declared.macros.Macro.{Macro}
use Rattle.feature_requirements.specs.declared.fault.ExpandFault.{ExpandFault}
use Rattle.feature_requirements.specs.declared.fault.ExpandFault.TheVariants as fault
use Rattle.unit_scopes.specs.declared.asked.Note as code_note
use Rattle.unit_scopes.specs.declared.asked.Note.TheVariants as notes
use Rattle.unit_scopes.specs.declared.scope.UnitScope.{UnitScope}
use Rattle.unit_scopes.specs.declared.uses.Comparison.{Comparison}
use Rattle.unit_scopes.specs.declared.uses.Instance as code_instance
use Rattle.unit_scopes.specs.declared.uses.Use as code

-- the keyword means this macro, and these are the parts and the tail behind it
pub record UseFor (work : Work) (s : ScopedState) (at : code.Use) (keyword : Target) (m : Transformer Frames Identifier) (ts : Trees Identifier) (tail : Tail Identifier) : Type 0 where
  pub target : IsTarget work.symbols s.unit s.form at.keyword keyword
  pub macro : macro_at s.macros keyword.meaning ≡ Some m
  pub head : Tree Identifier
  pub place : Option Occ
  pub form : StandsFor work at.form (list (tree head ts) tail place)

-- some macro, where the code's scopes stand for some state
pub record CanUse (work : Work) (u : UnitScope) (at : code.Use) : Type 0 where
  pub layout : List Frames
  pub state : ScopedState
  pub frames : Frames
  pub stands : Stands work u layout state
  pub there : At layout at.scope frames
  pub keyword : Target
  pub transformer : Transformer Frames Identifier
  pub parts : Trees Identifier
  pub tail : Tail Identifier
  pub used : UseFor work state at keyword transformer parts tail

-- the note that a comparison makes, of a literal in one scope and an identifier in another
abbrev pub note_of : (literal_scope scope : ℕ) → Comparison → code_note.Note
note_of literal_scope scope c = notes.Compared (record { scope = literal_scope; ident = c.pair.literal }) (record { scope = scope; ident = c.pair.ident }) c.held

abbrev pub ComparisonFor : Work → List Frames → (literal_scope scope : ℕ) → Comparison → Note FramedIdent → Type 0
ComparisonFor work ls literal_scope scope c n = NoteFor work ls (note_of literal_scope scope c) n

-- of these pairs of a literal and an identifier exactly those are told that mean the same
abbrev pub AreHeld : Work → ScopedState → Frames → Frames → List IdPair → List (Identifier × Identifier) → Type 0
AreHeld work s macro_frames fs same [] = Unit {0}
AreHeld work s macro_frames fs same (q ∷ qs) =
    (means_same work same q.0 q.1 ≡ same_meaning (means_here s macro_frames q.0) (means_here s fs q.1)) × AreHeld work s macro_frames fs same qs

-- ---- comparisons

-- equal meanings of the code
abbrev pub meanings_equal : code_meaning.Meaning → code_meaning.Meaning → Bool
meanings_equal (meanings.Local n) (meanings.Local k) = n == k
meanings_equal (meanings.Local n) (meanings.Global v j) = false
meanings_equal (meanings.Local n) (meanings.Standard t) = false
meanings_equal (meanings.Local n) (meanings.Free t) = false
meanings_equal (meanings.Global u i) (meanings.Local k) = false
meanings_equal (meanings.Global u i) (meanings.Global v j) = (u == v) && (i == j)
meanings_equal (meanings.Global u i) (meanings.Standard t) = false
meanings_equal (meanings.Global u i) (meanings.Free t) = false
meanings_equal (meanings.Standard s) (meanings.Local k) = false
meanings_equal (meanings.Standard s) (meanings.Global v j) = false
meanings_equal (meanings.Standard s) (meanings.Standard t) = s == t
meanings_equal (meanings.Standard s) (meanings.Free t) = false
meanings_equal (meanings.Free s) (meanings.Local k) = false
meanings_equal (meanings.Free s) (meanings.Global v j) = false
meanings_equal (meanings.Free s) (meanings.Standard t) = false
meanings_equal (meanings.Free s) (meanings.Free t) = s == t

-- the comparison of a literal inside some frames with an identifier inside others
abbrev pub comparison_of : ScopedState → Frames → Frames → Identifier × Identifier → Note FramedIdent
comparison_of s gs fs q =
    Compared (record { frames = gs; ident = q.0 }) (record { frames = fs; ident = q.1 }) (same_meaning (means_here s gs q.0) (means_here s fs q.1))

-- ---- the parts of a use

-- the rule that matches, where literals are told apart by what they mean
abbrev pub match_of_use : ScopedState → Frames → Transformer Frames Identifier → Trees Identifier → Tail Identifier → Option (Chosen Identifier Identifier)
match_of_use s fs m ts tail = first_match (matcher identifiers m.rules (λ l j. same_meaning (means_here s m.env l) (means_here s fs j))) m.rules.rules ts tail

-- what was found is this match, or nothing matches
abbrev pub FindsUse : Work → Rules Identifier → Option (Chosen Identifier Identifier) → Option Matched → Type 0
FindsUse work r None None = Unit {0}
FindsUse work r None (Some matched) = ⊥
FindsUse work r (Some c) None = ⊥
FindsUse work r (Some c) (Some matched) = MatchedFor work matched r c

-- it is a match of the macro's rules, which nodes of the region may name
pub record HasMatch (work : Work) (region : Region) (u : UnitScope) (at : code.Use) (matched : Matched) : Type 0 where
  pub used : Macro
  pub macro : macro_in u.macros u.form.number at.keyword.meaning ≡ Some used
  pub of_rules : IsMatched work region used.rules matched
  pub named : BindingsNamed work region matched.bindings

-- the number of the use that begins next
abbrev pub use_number : UnitScope → Number
use_number u = record { unit = u.unit; form = u.form.number; count = u.form.budget.uses }

-- an identifier where it is used
abbrev pub target_at : ScopedState → Frames → Named Identifier → Target
target_at s fs n = record { meaning = means_here s fs n.name; ident = n.name; occ = n.occ }

-- a use that waited, with what its literals mean by now
abbrev pub met_at : ScopedState → Frames → WaitingUse Identifier → MacroUse
met_at s fs w = record { keyword = w.keyword; literals = map (target_at s fs) w.literals }

-- what a use gives: the instance, and the use, which is still to be met
abbrev pub InstanceFor : Work → Region → (unit form : ℕ) → code_instance.Instance → Instance Identifier → Type 0
InstanceFor work region unit form x i = WorksOn work region x.tree i.tree × WaitsFor work unit form x.met i.met

-- why an instance wasn't built
abbrev pub build_fault : Option Occ → BuildFault → ExpandFault
build_fault here builds.EllipsisLength = plain_fault here 27
build_fault here builds.NodeBudget = plain_fault here 45
build_fault here builds.DepthBudget = plain_fault here 46
build_fault here builds.Full = fault.Full
build_fault here builds.Memory = fault.Memory

-- it has one of the faults that an instance may have
abbrev pub FailsToBuild : Option Occ → ExpandFault → Result (Built (Tree Identifier)) (Fault Identifier) → Type 0
FailsToBuild here e s =
    ((s ≡ Err EllipsisLength) × (e ≡ plain_fault here 27)) ⊎ (((s ≡ Err NodeBudget) × (e ≡ plain_fault here 45)) ⊎ ((s ≡ Err DepthBudget) × (e ≡ plain_fault here 46)))

-- the instance was built and what it counts was counted; or it has the definition's fault, and nothing changes
abbrev pub Instances : Work → Work → Region → UnitScope → UnitScope → Option Occ → Result (Built (Tree Identifier)) (Fault Identifier) → Result number.Tree ExpandFault → Type 0
Instances old new region u v here s (Ok n) =
    (b : Built (Tree Identifier)) × (s ≡ Ok b) × StandsFor new n b.value × CanName new region n × (v ≡ with_nodes u b.count) × (u.form.budget.nodes + b.count ≤ 200000) × (live_count new ≤ live_count old + b.count)
Instances old new region u v here s (Err (fault.At e)) = (v ≡ u) × (new ≡ old) × FailsToBuild here (fault.At e) s
Instances old new region u v here s (Err fault.Full) = MayFill old u × (live_count new ≤ live_count old + (200000 - u.form.budget.nodes))
Instances old new region u v here s (Err fault.Memory) = live_count new ≤ live_count old + (200000 - u.form.budget.nodes)
