-- What the scopes of the code and its notes stand for while a form is at work: a state of the expansion that notes what it asks.
use Rattle.std.specs.Prelude.{◌≡◌, ℕ, ◌<◌, List, [], length, slice_get, Bool, true, false, Some, None}
use Rattle.std.specs.Option.{option_map}
use Rattle.std.specs.FinMap as map_of
use Rattle.std.specs.BTreeMap.{get, btree_map_len}
use Rattle.std.specs.Ordering.{nat_cmp}
use Rattle.scheme_model.specs.Ident.{Ident as Identifier}
use Rattle.scheme_model.specs.Meaning.{Meaning, same_meaning}
use Rattle.scheme_model.specs.Order.{is_some}
use Rattle.scheme_model.specs.Questions.{bare_macro}
use Rattle.scheme_model.specs.RulesShape.{option_map as map_option}
use Rattle.scheme_model.specs.Substitution.{defined_in, definition_count}
use Rattle.scheme_model.specs.ScopedExpansion.{Frames, macro_at}
use Rattle.scheme_model.specs.ExpansionFaults.{Named}
use Rattle.scheme_model.specs.Cores.{Binder}
use Rattle.scheme_model.specs.Expression.{meaning_of}
use Rattle.syntax_tree.specs.Macros.{IsIdent}
use Rattle.syntax_tree.specs.Meant.{IsMeaning}
use Rattle.syntax_tree.specs.Names.{Names}
use Rattle.syntax_tree.specs.declared.meaning.Meaning as code_meaning
use Rattle.syntax_tree.specs.declared.trees.Work.{Work}
use Rattle.core_tree.specs.Names.{IsBinder, IsTarget}
use Rattle.core_tree.specs.declared.cores.Binder as code_binder
use Rattle.core_tree.specs.declared.cores.RuleLeaf as code_leaf
use Rattle.core_tree.specs.declared.cores.Target as code_target
use Rattle.question_laws.specs.Noted.{is_defined_in}
use Rattle.form_notes.specs.Noted.{is_own}
use Rattle.form_notes.specs.Standing.{NotingStands}
use Rattle.form_notes.specs.declared.noting.Noting as code_noting
use Rattle.unit_scopes.specs.Macros.{edition_in}
use Rattle.unit_scopes.specs.State.{EnvStands, MacrosStand, HasBegun, FormStands, is_program}
use Rattle.unit_scopes.specs.declared.macros.Macros.{Macros}
use Rattle.unit_scopes.specs.declared.scope.UnitScope as code
use Rattle.unit_scopes.specs.declared.uses.Comparison as code_comparison
use Rattle.noted_steps.specs.Noting.{Noting, state_of, means_here, target_at}

-- what the form at work has noted
abbrev pub with_notes : code.UnitScope → code_noting.Noting → code.UnitScope
with_notes u x = record u { form = record u.form { trace = record u.form.trace { notes = x } } }

-- the edition of each macro that the form hasn't made itself tells its rules, and 0 tells that there are none
pub record EditionsStand (names : Names) (ms : Macros) (s : Noting) : Type 0 where
  pub none : s.since.editions 0 ≡ None
  pub tells : (form : ℕ) (c : code_meaning.Meaning) (m : Meaning) → IsMeaning names s.unit form c m → is_own s.since m ≡ false →
      s.since.editions (edition_in ms form c) ≡ map_option bare_macro (macro_at s.macros m)

-- the part began where there were so many notes of the unit's forms; if nothing was noted yet, all notes are its own
pub record StartsAt (x : code_noting.Noting) (count : ℕ) (anew : Bool) : Type 0 where
  pub before : x.before ≡ count
  pub first : anew ≡ true → x.first ≡ 0

-- the scopes stand for the state, and the notes for its notes; what the form has defined in its unit is defined there
pub record Stands (work : Work) (scope : code.UnitScope) (ls : List Frames) (s : Noting) : Type 0 where
  pub unit : scope.unit ≡ s.unit
  pub program : is_program scope.kind ≡ s.program
  pub env : EnvStands work.symbols scope.env ls (state_of s)
  pub macros : MacrosStand work scope.macros ls (state_of s)
  pub root : slice_get ls scope.root ≡ Some []
  pub own : map_of.get scope.env.roots scope.unit ≡ Some scope.root
  pub begun : HasBegun scope.env.roots ls (state_of s)
  pub form : FormStands work.symbols scope.form (state_of s)
  pub defined : (n : ℕ) (i : Identifier) → IsIdent work.symbols n i → get nat_cmp scope.defined n ≡ option_map (λ d. d.keyword) (defined_in s.table s.unit i)
  pub known : (n : ℕ) (k : Bool) → get nat_cmp scope.defined n ≡ Some k → n < length work.symbols.idents
  pub count : btree_map_len scope.defined ≡ definition_count s.table s.unit
  pub made : (i : Identifier) → is_defined_in s.since.own s.unit i ≡ true → is_some (defined_in s.table s.unit i) ≡ true
  pub since_unit : s.since.unit ≡ s.unit
  pub since_form : s.since.form ≡ s.form
  pub editions : s.exact ≡ true → EditionsStand work.symbols scope.macros s
  pub notes : s.exact ≡ true → NotingStands work.symbols scope.form.trace.notes s.since s.noted
  pub start : s.exact ≡ true → StartsAt scope.form.trace.notes s.before s.anew

-- a use of an identifier in the code, inside some frames
abbrev pub TargetFor : Work → Noting → Frames → code_target.Target → Named Identifier → Type 0
TargetFor work s fs x n = IsTarget work.symbols s.unit s.form x (target_at s fs n)

-- a comparison of the code, of a literal inside some frames with an identifier inside others
pub record ComparedFor (work : Work) (s : Noting) (gs fs : Frames) (c : code_comparison.Comparison) (q : Identifier × Identifier) : Type 0 where
  pub literal : IsIdent work.symbols c.pair.literal q.0
  pub ident : IsIdent work.symbols c.pair.ident q.1
  pub held : c.held ≡ same_meaning (means_here s gs q.0) (means_here s fs q.1)

-- a leaf of rules in the code, inside some frames
abbrev pub LeafFor : Work → Noting → Frames → code_leaf.RuleLeaf → Named Identifier → Type 0
LeafFor work s fs l n = TargetFor work s fs l.target n

-- a binder with what it means, in some state that the scopes of the code and its notes stand for
pub record CanNote (work : Work) (u : code.UnitScope) (b : code_binder.Binder) (c : code_meaning.Meaning) : Type 0 where
  pub layout : List Frames
  pub state : Noting
  pub binder : Binder
  pub stands : Stands work u layout state
  pub is : IsBinder work.symbols state.unit state.form b binder
  pub means : IsMeaning work.symbols state.unit state.form c (meaning_of binder.bound binder.ident)
