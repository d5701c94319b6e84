-- What the import sets of the code are, and what a call on them answers (R7RS 5.2).
use Rattle.std.specs.Prelude.{◌≡◌, ℕ, List, map, Result, Ok, Err}
use Rattle.scheme_model.specs.ExpansionFaults.{Named}
use Rattle.scheme_model.specs.Requirements.{LibraryName}
use Rattle.scheme_model.specs.Entries.{Entry, ImportSet, Library, Only, Except, Prefix, Rename, Bad, ImportFault, NotThere, Clash, BadSet}
use Rattle.syntax_tree.specs.Names.{Names, AreToldApart}
use Rattle.syntax_tree.specs.Meant.{AreEntries}
use Rattle.syntax_tree.specs.declared.units.Entry as code_entry
use Rattle.import_sets.specs.declared.set.SetName.{SetName}
use Rattle.import_sets.specs.declared.set.NamePair.{NamePair}
use Rattle.import_sets.specs.declared.set.ImportSet as code
use Rattle.import_sets.specs.declared.fault.ImportFault as code_fault
use Rattle.import_sets.specs.declared.fault.ImportFault.TheVariants as fault

-- ---- sets

-- an identifier of a set
abbrev pub named : SetName → Named (List ℕ)
named n = record { name = n.name; occ = n.occ }

abbrev pub paired : NamePair → Named (List ℕ) × Named (List ℕ)
paired p = (named p.from, named p.to)

-- the code's set is this one, whose library has a name that `library` tells of the text
abbrev pub IsSetOf : (library : List ℕ → LibraryName → Type 0) → code.ImportSet → ImportSet → Type 0
IsSetOf library (code.Library t) s = (n : LibraryName) × ((s ≡ Library n) × library t n)
IsSetOf library (code.Only' p c ns) s = (inner : ImportSet) × ((s ≡ Only inner (map named ns)) × IsSetOf library c inner)
IsSetOf library (code.Except' p c ns) s = (inner : ImportSet) × ((s ≡ Except inner (map named ns)) × IsSetOf library c inner)
IsSetOf library (code.Prefix' p c t) s = (inner : ImportSet) × ((s ≡ Prefix inner t) × IsSetOf library c inner)
IsSetOf library (code.Rename' p c ps) s = (inner : ImportSet) × ((s ≡ Rename inner (map paired ps)) × IsSetOf library c inner)
IsSetOf library code.Bad s = s ≡ Bad

-- the code's set is this one, whatever name its library has
abbrev pub IsSet : code.ImportSet → ImportSet → Type 0
IsSet c s = IsSetOf (λ t n. Unit {0}) c s

-- ---- answers

-- different numbers are different symbols, and different identifiers
pub record TellsApart (names : Names) : Type 0 where
  pub symbols : AreToldApart names.symbols
  pub idents : AreToldApart names.idents

-- a fault of the code is this answer; want of memory may come with any
abbrev pub FailsAs : code_fault.ImportFault → Result (List Entry) ImportFault → Type 0
FailsAs fault.Memory answer = Unit {0}
FailsAs (fault.NotThere n) answer = answer ≡ Err (NotThere (named n))
FailsAs (fault.Clash s) answer = answer ≡ Err (Clash s)
FailsAs fault.BadSet answer = answer ≡ Err BadSet

-- what a call answers stands for this answer, entry by entry
abbrev pub Answers : Names → Result (List code_entry.Entry) code_fault.ImportFault → Result (List Entry) ImportFault → Type 0
Answers names (Ok es) answer = (ds : List Entry) × ((answer ≡ Ok ds) × AreEntries names es ds)
Answers names (Err e) answer = FailsAs e answer
