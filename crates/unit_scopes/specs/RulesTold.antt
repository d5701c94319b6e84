-- How the rules of macros are told by the code (R7RS 4.3.1, 5.4).
use Rattle.std.specs.Prelude.{◌≡◌, List, Result, Ok, Err}
use Rattle.scheme_model.specs.Ident.{Ident as Identifier}
use Rattle.scheme_model.specs.Meaning.{Meaning}
use Rattle.scheme_model.specs.Leaves.{Leaf}
use Rattle.scheme_model.specs.Cores.{RuleLeaf}
use Rattle.scheme_model.specs.CountedExpansion.{means_here}
use Rattle.scheme_model.specs.Steps.{Broken}
use Rattle.scheme_model.specs.ScopedExpansion.{Frames, ScopedState}
use Rattle.syntax_tree.specs.Meant.{IsMeaning}
use Rattle.syntax_tree.specs.declared.meaning.Meaning as code_meaning
use Rattle.syntax_tree.specs.declared.trees.Work.{Work}
use Rattle.core_tree.specs.Traces.{IsFault}
use Rattle.unit_scopes.specs.State.{Stands}
use Rattle.feature_requirements.specs.declared.fault.ExpandFault.{ExpandFault}
use Rattle.feature_requirements.specs.declared.fault.ExpandFault.TheVariants as fault
use Rattle.unit_scopes.specs.declared.scope.UnitScope.{UnitScope}

-- a meaning of some state that the scopes of the code stand for
pub record CanTell (work : Work) (u : UnitScope) (c : code_meaning.Meaning) : Type 0 where
  pub layout : List Frames
  pub state : ScopedState
  pub meaning : Meaning
  pub stands : Stands work u layout state
  pub means : IsMeaning work.symbols state.unit state.form c meaning

-- a test that changes nothing, of a step that gives a value or a fault and leaves the state
abbrev pub Tests : {Y : Type 0} → Work → ScopedState → Result (Unit {0}) ExpandFault → Result Y Broken × ScopedState → Type 0
Tests {Y} work s (Ok passed) p = (y : Y) × (p ≡ (Ok y, s))
Tests work s (Err (fault.At e)) p = (b : Broken) × (p ≡ (Err b, s)) × IsFault work.symbols e b
Tests work s (Err fault.Full) p = ⊥
Tests work s (Err fault.Memory) p = Unit {0}

-- a leaf of rules with what it means where their macro was defined
abbrev pub definition_leaf : ScopedState → Frames → Leaf Identifier → RuleLeaf
definition_leaf s fs l = record { target = record { meaning = means_here s fs l.leaf.name; ident = l.leaf.name; occ = l.leaf.occ }; literal = l.literal }
