-- What a unit begins with, in the definition and in the code (R7RS 5.1, 5.6).
use Rattle.std.specs.Prelude.{◌≡◌, ℕ, ◌==◌, ◌<◌, List, [], length, slice_get, Bool, false, Option, Some, None, if◌then◌else◌}
use Rattle.std.specs.Option.{option_map}
use Rattle.std.specs.FinMap as map
use Rattle.scheme_model.specs.Ident.{Written}
use Rattle.scheme_model.specs.Meaning.{Meaning}
use Rattle.scheme_model.specs.Substitution.{Entries}
use Rattle.scheme_model.specs.ScopedExpansion.{Frames, ScopedState}
use Rattle.syntax_tree.specs.Names.{Names, AreToldApart}
use Rattle.syntax_tree.specs.Meant.{IsSymbol, IsGivenMeaning}
use Rattle.syntax_tree.specs.declared.trees.Work.{Work}
use Rattle.scope_env.specs.Environment.{IsSound, with_bound}
use Rattle.unit_scopes.specs.State.{HasBegun, EnvStands, MacrosStand}
use Rattle.unit_scopes.specs.declared.scope.Imported as code
use Rattle.unit_scopes.specs.declared.scope.UnitScope.{UnitScope}

-- ---- the definition's states

-- what a unit imports, beside what others do
abbrev pub with_imports : (unit : ℕ) → (List ℕ → Option Meaning) → Entries → Entries
with_imports unit imported entry u x = if u == unit then imported x else entry u x

-- a unit that has done nothing yet; definitions, macros and places of macro uses are those of the units before
abbrev pub started : (unit : ℕ) → (program : Bool) → Entries → ScopedState → ScopedState
started unit program entry s = record {
  unit = unit;
  program = program;
  form = 0;
  locals = λ f. 0;
  uses = λ f. 0;
  nodes = λ f. 0;
  bodies = λ f. 0;
  keywords = λ f. [];
  met = λ f. [];
  table = s.table;
  entry = entry;
  macros = s.macros;
  places = s.places;
  definitions = s.definitions;
}

-- before all units
abbrev pub nothing_yet : ScopedState
nothing_yet = record {
  unit = 0;
  program = false;
  form = 0;
  locals = λ f. 0;
  uses = λ f. 0;
  nodes = λ f. 0;
  bodies = λ f. 0;
  keywords = λ f. [];
  met = λ f. [];
  table = [];
  entry = λ u x. None;
  macros = [];
  places = [];
  definitions = [];
}

-- ---- imports

-- each symbol has its number
abbrev pub AreNumbered : Names → List code.Imported → Type 0
AreNumbered names xs = (n : ℕ) (x : code.Imported) → slice_get xs n ≡ Some x → x.symbol < length names.symbols

-- what is imported by the numbers of symbols is what these symbols stand for, and nothing else is imported
pub record ImportsFor (names : Names) (xs : List code.Imported) (imported : List ℕ → Option Meaning) : Type 0 where
  pub given : (n : ℕ) (x : code.Imported) (s : List ℕ) → slice_get xs n ≡ Some x → IsSymbol names x.symbol s → (m : Meaning) × (imported s ≡ Some m) × IsGivenMeaning names x.meaning m
  pub only : (s : List ℕ) (m : Meaning) → imported s ≡ Some m → (n : ℕ) × ((x : code.Imported) × (slice_get xs n ≡ Some x) × IsSymbol names x.symbol s)

-- ---- the code between two units

-- the unit wasn't begun
abbrev pub IsNew : UnitScope → (unit : ℕ) → Type 0
IsNew scope unit = map.get scope.env.roots unit ≡ None

-- what is kept of all units so far
pub record HasUnits (work : Work) (scope : UnitScope) (ls : List Frames) (s : ScopedState) : Type 0 where
  pub env : EnvStands work.symbols scope.env ls s
  pub macros : MacrosStand work scope.macros ls s
  pub begun : HasBegun scope.env.roots ls s

-- ---- steps of the code

-- the unit's own scope binds a symbol that it imports
pub record BindsImport (old new : Work) (u v : UnitScope) (unit root : ℕ) (x : code.Imported) : Type 0 where
  pub ident : ℕ
  pub name : slice_get new.symbols.idents ident ≡ option_map (Written unit) (slice_get old.symbols.symbols x.symbol)
  pub after : v ≡ record u { env = with_bound u.env root ident x.meaning }
  pub sound : IsSound u.env
  pub apart : AreToldApart new.symbols.idents
  pub told : AreToldApart new.symbols.symbols
