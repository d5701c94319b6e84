-- Units that break as a whole, and what stays of units meanwhile.
use Rattle.std.specs.Prelude.{◌≡◌, ◌⊎◌, ℕ, nat_le, List, [], length, slice_get, Bool, false, Option, Some, None, if◌then◌else◌}
use Rattle.std.specs.Option.{is_some, option_map}
use Rattle.scheme_model.specs.Requirements.{LibraryName}
use Rattle.scheme_model.specs.IncludedUnits as included
use Rattle.scheme_model.specs.Program as model
use Rattle.scheme_model.specs.Includes.{max_units}
use Rattle.scheme_model.specs.IncludedUnits.{Placed}
use Rattle.scheme_model.specs.Program.{prepared, prepare, is_in, name_if, declared_fault, fault_before}
use Rattle.datum_reader.specs.Looks.{bytes_of}
use Rattle.core_tree.specs.Units.{imports_of}
use Rattle.base_library.specs.Texts.{names_of}
use Rattle.unit_sources.specs.declared.units.UnitSource.{UnitSource}
use Rattle.unit_sources.specs.Named.{imported_places}
use Rattle.read_documents.specs.declared.heads.Head.{Head}
use Rattle.read_documents.specs.declared.heads.WholeFault.{WholeFault}
use Rattle.read_documents.specs.declared.heads.WholeFault.TheVariants as fault
use Rattle.read_documents.specs.Changed.{Changes}

-- ---- what breaks a unit

-- a bad declaration is told by its unit and its bytes
abbrev pub told : model.WholeFault → WholeFault
told model.TooMany = fault.TooMany
told model.IncludeCycle = fault.IncludeCycle
told (model.BadDeclaration n d) = fault.BadDeclaration n (bytes_of d)
told model.DefinedTwice = fault.DefinedTwice
told model.ImportCycle = fault.ImportCycle
told model.TooLarge = fault.TooLarge

-- the first fault stays
abbrev pub or_fault : Option WholeFault → WholeFault → Option WholeFault
or_fault None f = Some f
or_fault (Some g) f = Some g

abbrev pub broken_by : WholeFault → Head → Head
broken_by f h = record h { fault = or_fault h.fault f }

abbrev pub broken_if : Bool → WholeFault → Head → Head
broken_if b f h = if b then broken_by f h else h

-- the units at these places break
abbrev pub Breaks : WholeFault → List ℕ → List Head → List Head → Type 0
Breaks f places old new = Changes (λ n h g. g ≡ broken_if (is_in n places) f h) old new

abbrev pub has_standard : Option (List ℕ) → Bool
has_standard None = false
has_standard (Some s) = is_some (names_of s)

-- the libraries with a standard name break
abbrev pub BreaksStandard : List Head → List Head → Type 0
BreaksStandard old new = Changes (λ n h g. g ≡ broken_if (has_standard h.name) fault.DefinedTwice h) old new

-- ---- units as they are listed, and as they are judged

-- what breaks a unit whatever the others are
abbrev pub fault_alone : ℕ → included.UnitSource → Option model.WholeFault
fault_alone n u = if nat_le max_units n then Some model.TooMany else declared_fault n u.forms None

-- a unit is broken by itself, or has its library's name; nothing is known yet of what it imports
pub record IsListed (spelled : LibraryName → List ℕ) (n : ℕ) (u : Placed) (h : Head) : Type 0 where
  pub fault : h.fault ≡ option_map told (fault_alone n u.source)
  pub name : fault_alone n u.source ≡ None → h.name ≡ option_map spelled (name_if n u.source)
  pub imports : h.imports ≡ []

pub record AreListed (spelled : LibraryName → List ℕ) (all : List Placed) (hs : List Head) : Type 0 where
  pub count : length hs ≡ length all
  pub each : (n : ℕ) (u : Placed) (h : Head) → slice_get all n ≡ Some u → slice_get hs n ≡ Some h → IsListed spelled n u h

-- a unit keeps its name, is broken as it is before its forms are expanded, and imports what it does
pub record IsJudged (all : List Placed) (n : ℕ) (u : Placed) (h g : Head) : Type 0 where
  pub name : g.name ≡ h.name
  pub fault : g.fault ≡ option_map told (fault_before all (prepare all 0 all) (prepared all n u))
  pub imports : g.imports ≡ imports_of (prepared all n u)

abbrev pub AreJudged : List Placed → List Head → List Head → Type 0
AreJudged all old new = Changes (λ n h g. (u : Placed) → slice_get all n ≡ Some u → IsJudged all n u h g) old new

-- the units of these sources import the places of the names in them
abbrev pub importing : (List ℕ → Option ℕ) → Option UnitSource → Head → Head
importing find None h = h
importing find (Some s) h = record h { imports = imported_places find s.imports }

abbrev pub FindsImports : (List ℕ → Option ℕ) → List UnitSource → List Head → List Head → Type 0
FindsImports find sources old new = Changes (λ n h g. g ≡ importing find (slice_get sources n) h) old new

-- ---- what stays

-- a unit keeps all but its import sets, which it keeps too or has no more
pub record SameSource (s t : UnitSource) : Type 0 where
  pub kind : t.kind ≡ s.kind
  pub name : t.name ≡ s.name
  pub span : t.span ≡ s.span
  pub exports : t.exports ≡ s.exports
  pub forms : t.forms ≡ s.forms
  pub imports : (t.imports ≡ s.imports) ⊎ (t.imports ≡ [])

abbrev pub SourcesStay : List UnitSource → List UnitSource → Type 0
SourcesStay old new = Changes (λ n. SameSource) old new

-- a broken unit has no import sets any more
abbrev pub without_if : Option Head → UnitSource → UnitSource
without_if None s = s
without_if (Some h) s = if is_some h.fault then record s { imports = [] } else s

abbrev pub Forgets : List Head → List UnitSource → List UnitSource → Type 0
Forgets hs old new = Changes (λ n s t. t ≡ without_if (slice_get hs n) s) old new
