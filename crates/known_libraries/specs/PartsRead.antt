-- How parts of declarations are read: what is answered, and what libraries' names are known by.
use Rattle.std.specs.Prelude.{◌≡◌, ℕ, List, ◌++◌, Result, Ok, Err, String}
use Rattle.std.specs.declared.alloc.Global.{Global}
use Rattle.std.specs.BTreeSet.{BTreeSet, contains_text}
use Rattle.scheme_model.specs.Trees.{Trees, Tail}
use Rattle.scheme_model.specs.ExpansionFaults.{Fault, BadForm, ◌>>◌}
use Rattle.scheme_model.specs.Shapes.{some_of}
use Rattle.scheme_model.specs.Requirements.{LibraryPart, LibraryName, Known, parts_of}
use Rattle.scheme_tokens.specs.LibraryNames.{IsProper}
pub use Rattle.scheme_tokens.specs.LibraryNames.{part_text, behind_spaces, library_text}
use Rattle.datum_reader.specs.declared.shape_fault.ShapeFault.{ShapeFault}
use Rattle.datum_reader.specs.declared.shape_fault.ShapeFault.TheVariants as fault

-- ---- answers

-- a fault is the definition's; want of memory may come with any
abbrev pub Fails : {A B : Type 0} → ShapeFault → Result A (Fault B) → Type 0
Fails fault.BadForm r = r ≡ Err BadForm
Fails fault.Memory r = Unit {0}

-- an answer, seen by view, is the definition's
abbrev pub Reads : {X A B : Type 0} → (X → A) → Result X ShapeFault → Result A (Fault B) → Type 0
Reads view (Ok x) r = r ≡ Ok (view x)
Reads view (Err e) r = Fails e r

abbrev pub map_ok : {A B C : Type 0} → (A → B) → Result A C → Result B C
map_ok f (Ok a) = Ok (f a)
map_ok f (Err e) = Err e

-- ---- libraries by the texts of their names

-- the texts are those of the libraries that there are, among names that can be read
abbrev pub Knows : BTreeSet (String Global) → Known → Type 0
Knows texts known = (n : LibraryName) → IsProper n → known n ≡ contains_text texts (library_text n)

-- ---- what is added to a text

abbrev pub Puts : {B : Type 0} → List ℕ → List ℕ → Result Unit ShapeFault → Result LibraryPart (Fault B) → Type 0
Puts old new (Ok u) r = (p : LibraryPart) × (r ≡ Ok p) × (new ≡ old ++ part_text p)
Puts old new (Err e) r = Fails e r

abbrev pub PutsAll : {B : Type 0} → List ℕ → List ℕ → Result Unit ShapeFault → Result LibraryName (Fault B) → Type 0
PutsAll old new (Ok u) r = (ps : LibraryName) × (r ≡ Ok ps) × (new ≡ old ++ behind_spaces ps)
PutsAll old new (Err e) r = Fails e r

-- ---- lists that may not be dotted

abbrev pub name_in_list : Trees (List ℕ) → Tail (List ℕ) → Result LibraryName (Fault (List ℕ))
name_in_list ts end = some_of ts end >> parts_of (λ s. s)
