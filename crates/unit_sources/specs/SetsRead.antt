-- Import sets as they are read (R7RS 5.2), and their places in the text.
use Rattle.std.specs.Prelude.{◌≡◌, ℕ, List, ◌∷◌, true, false, Option, Some, None, Result, Ok, Err}
use Rattle.std.specs.Option.{option_map}
use Rattle.scheme_model.specs.Data.{Datum}
use Rattle.scheme_model.specs.declared.Occ.{Occ}
use Rattle.scheme_model.specs.Trees.{Tail, list as list_tree}
use Rattle.scheme_model.specs.Entries as model
use Rattle.scheme_model.specs.Entries.{Modifier, modifier_named, IsOnly, IsExcept, IsPrefix, IsRename, Library, Only, Except, Prefix, Rename, Bad, set_of, library_set, modified_set}
use Rattle.scheme_model.specs.Program.{second_or, ImportSpec}
use Rattle.scheme_model.specs.Declarations.{list_parts}
use Rattle.import_sets.specs.Sets.{IsSetOf}
use Rattle.import_sets.specs.declared.set.ImportSet.{ImportSet}
use Rattle.datum_reader.specs.declared.datum.Datum as code
use Rattle.datum_reader.specs.Views.{datum_of}
use Rattle.unit_sources.specs.declared.units.ImportSpec as code_import
use Rattle.unit_sources.specs.declared.sets.Modifier as code_modifier
use Rattle.unit_sources.specs.declared.sets.Modifier.TheVariants as word
use Rattle.unit_sources.specs.declared.sets.Modified.{Modified}
use Rattle.datum_reader.specs.declared.shape_fault.ShapeFault.{ShapeFault}
use Rattle.datum_reader.specs.declared.shape_fault.ShapeFault.TheVariants as fault
use Rattle.datum_reader.specs.Looks.{tree_at, trees_at, bytes_of, is_list}
use Rattle.scheme_tokens.specs.LibraryNames.{library_text}

-- the code's set is this one, its library's name as a text
abbrev pub IsSetText : ImportSet → model.ImportSet → Type 0
IsSetText c s = IsSetOf (λ t n. t ≡ library_text n) c s

-- a set was made; or it has no shape
abbrev pub IsSetMade : Result ImportSet ShapeFault → model.ImportSet → Type 0
IsSetMade (Ok c) s = IsSetText c s
IsSetMade (Err fault.BadForm) s = s ≡ Bad
IsSetMade (Err fault.Memory) s = Unit {0}

-- ---- modifiers

abbrev pub modifier_as : code_modifier.Modifier → Modifier
modifier_as word.Only = IsOnly
modifier_as word.Except = IsExcept
modifier_as word.Prefix = IsPrefix
modifier_as word.Rename = IsRename

abbrev pub modifier_seen : Option code_modifier.Modifier → Option Modifier
modifier_seen m = option_map modifier_as m

-- the modifier of a word
abbrev pub modifier_for : Option (List ℕ) → Option Modifier
modifier_for None = None
modifier_for (Some s) = modifier_named s

-- a list with these parts is a set of this modifier, or a library's name if anything
abbrev pub IsModified : Option Modified → List code.Datum → Type 0
IsModified None ds = (place : ℕ → Occ) (end : Tail (List ℕ)) (o : Option Occ) →
    set_of (list_tree (trees_at place ds) end o) ≡ library_set (list_tree (trees_at place ds) end o)
IsModified (Some m) ds = (head : code.Datum) × (ds ≡ head ∷ m.inner.now ∷ m.rest.now)
    × ((place : ℕ → Occ) (end : Tail (List ℕ)) (o : Option Occ) →
    set_of (list_tree (trees_at place ds) end o) ≡ modified_set (modifier_as m.modifier) (set_of (tree_at place m.inner.now)) (trees_at place m.rest.now) end)

-- a modifier in front of a list, and what stands behind that
abbrev pub IsModifiedBy : Option code_modifier.Modifier → code.Datum → List code.Datum → Option Modified → Type 0
IsModifiedBy None d ds m = m ≡ None
IsModifiedBy (Some n) d ds None = is_list (datum_of d) ≡ false
IsModifiedBy (Some n) d ds (Some m) = (is_list (datum_of d) ≡ true) × (m.modifier ≡ n) × (m.inner.now ≡ d) × (m.rest.now ≡ ds)

-- ---- places

-- the set inside the outermost modifier
abbrev pub inner_datum : model.ImportSet → Datum → Datum
inner_datum (Library n) d = d
inner_datum (Only s ns) d = second_or d (list_parts d)
inner_datum (Except s ns) d = second_or d (list_parts d)
inner_datum (Prefix s p) d = second_or d (list_parts d)
inner_datum (Rename s ps) d = second_or d (list_parts d)
inner_datum Bad d = d

-- an import set with its unit and the bytes of the set, of the set inside its outermost modifier, and of its library's name
pub record IsImportSpec (c : code_import.ImportSpec) (s : ImportSpec) : Type 0 where
  pub unit : c.unit ≡ s.unit
  pub set : IsSetText c.set s.set
  pub span : c.span ≡ bytes_of s.whole
  pub inner : c.inner ≡ bytes_of (inner_datum s.set s.whole)
  pub library : c.library ≡ bytes_of s.library
