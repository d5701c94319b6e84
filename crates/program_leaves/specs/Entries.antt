-- The entries of units by their names, and when they are those of a program.
use Rattle.std.specs.Prelude.{◌≡◌, ℕ, List, [], ◌∷◌, Option, Some, None, slice_get, if◌then◌else◌, String}
use Rattle.std.proofs.Common.{Bor}
use Rattle.std.specs.Str.{bytes_eq}
use Rattle.std.specs.Option.{option_map, option_and_then}
use Rattle.std.specs.BTreeMap.{BTreeMap, get_by_text}
use Rattle.std.specs.declared.alloc.Global.{Global}
use Rattle.scheme_model.specs.Entries.{Entry, entry_at}
use Rattle.scheme_model.specs.Program.{UnitResult, result_at}
use Rattle.scheme_model.specs.Spelling.{entries_at}
use Rattle.syntax_tree.specs.Names.{Names}
use Rattle.syntax_tree.specs.Meant.{IsEntry}
use Rattle.syntax_tree.specs.declared.units.Entry as code_entry
use Rattle.core_tree.specs.declared.units.Unit.{Unit as CodeUnit}

abbrev pub now_of : Bor code_entry.Entry → code_entry.Entry
now_of e = e.now

abbrev pub ByName : Type 0
ByName = BTreeMap (String Global) (Bor code_entry.Entry)

abbrev pub named : ByName → List ℕ → Option code_entry.Entry
named m s = option_map now_of (get_by_text m s)

-- the first entry with a name
abbrev pub entry_named : List code_entry.Entry → List ℕ → Option code_entry.Entry
entry_named [] s = None
entry_named (e ∷ es) s = if bytes_eq e.name s then Some e else entry_named es s

abbrev pub HasEntries : ByName → CodeUnit → Type 0
HasEntries m c = (s : List ℕ) → named m s ≡ entry_named c.entries s

abbrev pub entry_found : List ByName → ℕ → List ℕ → Option code_entry.Entry
entry_found ms u s = option_and_then (λ (m : ByName). named m s) (slice_get ms u)

-- an entry of the code for an entry of the definition, where there is one
abbrev pub IsEntryOf : Names → Option code_entry.Entry → Option Entry → Type 0
IsEntryOf names None None = Unit {0}
IsEntryOf names None (Some d) = ⊥
IsEntryOf names (Some e) None = ⊥
IsEntryOf names (Some e) (Some d) = IsEntry names e d

-- they give what the units have
abbrev pub Gives : Names → List ByName → List UnitResult → Type 0
Gives names ms rs = (u : ℕ) (s : List ℕ) → IsEntryOf names (entry_found ms u s) (entry_at (entries_at (result_at rs u)) s)
