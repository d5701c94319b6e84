-- What units that are read stand for (R7RS 5.1, 5.6.1): their forms, imports and exports, the strings that give them nothing, and the
-- bytes of their first tokens.
use Rattle.std.specs.Prelude.{◌≡◌, ℕ, List, [], ◌∷◌, ◌++◌, map, Bool, ◌&&◌, Option, Some, None, Result, Ok, Err, codes}
use Rattle.std.specs.Option.{option_map}
use Rattle.scheme_model.specs.Data.{Datum}
use Rattle.scheme_model.specs.Trees.{Tree, name, atom as atom_tree, list as list_tree, vector as vector_tree}
use Rattle.scheme_model.specs.ExpansionFaults.{Named}
use Rattle.scheme_model.specs.Program.{ImportSpec, ExportSpec, specs_from, exports_from}
use Rattle.scheme_model.specs.Declarations.{UnitForm, UnitKind, IsLibrary, IsProgram, IsPart, is_headed, is_proper, unit_or}
use Rattle.scheme_model.specs.Included.{Homed, LostString}
use Rattle.scheme_model.specs.IncludedUnits.{UnitSource, BadAt, TooManyTokens}
use Rattle.syntax_tree.specs.declared.units.UnitKind as code_kind
use Rattle.syntax_tree.specs.declared.units.UnitKind.TheVariants as kinds
use Rattle.import_sets.specs.Sets.{named}
use Rattle.datum_reader.specs.Views.{datum_of}
use Rattle.datum_reader.specs.FirstTokens.{first_token, span_of}
use Rattle.datum_reader.specs.Looks.{bytes_of}
use Rattle.unit_sources.specs.declared.units.ImportSpec as code_import
use Rattle.unit_sources.specs.declared.units.ExportSpec as code_export
use Rattle.unit_sources.specs.declared.units.UnitForm as code_form
use Rattle.unit_sources.specs.declared.units.LostString as code_lost
use Rattle.unit_sources.specs.declared.units.UnitSource as code
use Rattle.unit_sources.specs.declared.fault.LibraryFault.{LibraryFault}
use Rattle.unit_sources.specs.declared.fault.LibraryFault.TheVariants as fault
use Rattle.scheme_tokens.specs.LibraryNames.{library_text}
use Rattle.unit_sources.specs.SetsRead.{IsImportSpec}

-- ---- forms

abbrev pub form_of : code_form.UnitForm → UnitForm
form_of f = record { datum = datum_of f.datum; declared = f.declared; home = f.home }

abbrev pub forms_of : List code_form.UnitForm → List UnitForm
forms_of fs = map form_of fs

-- ---- imports

-- as many, and each stands for the other's
abbrev pub Pairs : {X A : Type 0} → (X → A → Type 0) → List X → List A → Type 0
Pairs R [] [] = Unit {0}
Pairs R [] (a ∷ xs) = ⊥
Pairs R (x ∷ xs) [] = ⊥
Pairs R (x ∷ xs) (a ∷ ys) = R x a × Pairs R xs ys

abbrev pub Adds : {X A : Type 0} → (X → A → Type 0) → List X → List X → List A → Type 0
Adds {X} R old new ys = (xs : List X) × (new ≡ old ++ xs) × Pairs R xs ys

abbrev pub AreSpecs : List code_import.ImportSpec → List ImportSpec → Type 0
AreSpecs cs ss = Pairs IsImportSpec cs ss

-- import sets were added to others
abbrev pub AddsSpecs : List code_import.ImportSpec → List code_import.ImportSpec → List ImportSpec → Type 0
AddsSpecs old new ss = Adds IsImportSpec old new ss

-- ---- exports

-- the identifier that a tree is
abbrev pub named_in : Tree (List ℕ) → Option (Named (List ℕ))
named_in (name s o) = Some (record { name = s; occ = o })
named_in (atom_tree a o) = None
named_in (list_tree ts end o) = None
named_in (vector_tree ts o) = None

-- an export's form and its two identifiers
pub record IsExportRead (c : code_export.ExportSpec) (x : ExportSpec) : Type 0 where
  pub form : c.form ≡ x.form
  pub inner : named c.inner ≡ x.inner
  pub outer : named c.outer ≡ x.outer

abbrev pub IsExportOf : Option code_export.ExportSpec → List ExportSpec → Type 0
IsExportOf None xs = xs ≡ []
IsExportOf (Some c) xs = (x : ExportSpec) × (xs ≡ x ∷ []) × IsExportRead c x

abbrev pub AreExportsRead : List code_export.ExportSpec → List ExportSpec → Type 0
AreExportsRead cs xs = Pairs IsExportRead cs xs

-- exports were added to others
abbrev pub AddsExports : List code_export.ExportSpec → List code_export.ExportSpec → List ExportSpec → Type 0
AddsExports old new xs = Adds IsExportRead old new xs

-- ---- strings that mean no text

-- a string as the code keeps it
abbrev pub lost_as : LostString → code_lost.LostString
lost_as l = record { document = l.document; span = span_of l.string.place; characters = l.string.characters }

abbrev pub AreLost : List code_lost.LostString → List LostString → Type 0
AreLost cs ls = cs ≡ map lost_as ls

-- ---- units

abbrev pub kind_of : code_kind.UnitKind → UnitKind
kind_of kinds.Library = IsLibrary
kind_of kinds.Program = IsProgram
kind_of kinds.Part = IsPart

-- a unit with this number, whose first datum is this one: its forms, and all that they import and export
pub record IsSource (unit : ℕ) (c : code.UnitSource) (u : UnitSource) (d : Datum) : Type 0 where
  pub forms : u.forms ≡ Ok (forms_of c.forms)
  pub kind : kind_of c.kind ≡ u.kind
  pub name : c.name ≡ option_map library_text u.name
  pub span : c.span ≡ first_token d
  pub imports : AreSpecs c.imports (specs_from unit 0 (forms_of c.forms))
  pub exports : AreExportsRead c.exports (exports_from unit 0 (forms_of c.forms))
  pub lost : AreLost c.lost u.lost

-- a unit was read; or its first bad declaration, with a unit of the document where it stands, or that its forms have too many tokens;
-- want of memory may come with any
abbrev pub IsUnitRead : ℕ → Datum → UnitSource → Result code.UnitSource LibraryFault → Type 0
IsUnitRead unit d u (Ok c) = IsSource unit c u d
IsUnitRead unit d u (Err fault.Memory) = Unit {0}
IsUnitRead unit d u (Err (fault.BadDeclaration n span)) = (h : Homed) × (u.forms ≡ Err (BadAt h)) × (n ≡ unit_or unit h.home) × (span ≡ bytes_of h.datum)
IsUnitRead unit d u (Err fault.TooManyTokens) = u.forms ≡ Err TooManyTokens
IsUnitRead unit d u (Err (fault.Cycle names)) = ⊥
IsUnitRead unit d u (Err fault.SameLibrary) = ⊥
IsUnitRead unit d u (Err (fault.NotDefined s)) = ⊥
IsUnitRead unit d u (Err (fault.SameExport s)) = ⊥

-- ---- what declarations are

abbrev pub is_import : Datum → Bool
is_import d = is_headed (codes "import") d && is_proper d
