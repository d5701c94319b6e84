-- What texts list, as the code has it
use Rattle.std.specs.Prelude.{◌≡◌, ℕ, List, map, Bool, true, false, Result, Ok, Err}
use Rattle.scheme_model.specs.Declarations.{UnitForm, unit_or}
use Rattle.scheme_model.specs.Included.{Homed, FlatForm, LostString, Listing, Lists, BadAfter, TooLong}
use Rattle.scheme_model.specs.IncludedUnits.{unit_form, with_imports, importing}
use Rattle.datum_reader.specs.Looks.{bytes_of}
use Rattle.library_table.specs.declared.reading.Lists as code_lists
use Rattle.unit_sources.specs.declared.fault.LibraryFault.{LibraryFault}
use Rattle.unit_sources.specs.declared.fault.LibraryFault.TheVariants as fault
use Rattle.unit_sources.specs.UnitsRead.{AreLost, forms_of}

-- the forms of what is left of a unit, whose imports are declared where only imports came before
abbrev pub forms_left : Bool → List FlatForm → List UnitForm
forms_left true fs = map unit_form (with_imports fs)
forms_left false fs = map unit_form fs

abbrev pub listing_left : Bool → Listing → Listing
listing_left true l = importing l
listing_left false l = l

-- the forms and the strings of a listing, or its end
abbrev pub IsListingRead : ℕ → Bool → Listing → Result code_lists.Lists LibraryFault → Type 0
IsListingRead unit leading l (Ok c) = (n : ℕ) × (fs : List FlatForm) × (ls : List LostString) × (l ≡ Lists n fs ls) × (forms_of c.forms.items ≡ forms_left leading fs) × AreLost c.lost ls
IsListingRead unit leading l (Err fault.Memory) = Unit {0}
IsListingRead unit leading l (Err (fault.BadDeclaration m span)) = (n : ℕ) × (h : Homed) × (l ≡ BadAfter n h) × (m ≡ unit_or unit h.home) × (span ≡ bytes_of h.datum)
IsListingRead unit leading l (Err fault.TooManyTokens) = l ≡ TooLong
IsListingRead unit leading l (Err (fault.Cycle names)) = ⊥
IsListingRead unit leading l (Err fault.SameLibrary) = ⊥
IsListingRead unit leading l (Err (fault.NotDefined s)) = ⊥
IsListingRead unit leading l (Err (fault.SameExport s)) = ⊥

-- the end of a listing by the datum where it is bad
abbrev pub IsBadAt : ℕ → Homed → LibraryFault → Type 0
IsBadAt unit h e = e ≡ fault.BadDeclaration (unit_or unit h.home) (bytes_of h.datum)
