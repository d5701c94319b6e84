-- An identifier as it came about, whatever binds it (R7RS 4.3): a symbol written in a unit, or one that a macro use inserted.
use Rattle.std.specs.Prelude.{ℕ, List, Bool, false, ◌&&◌, ◌==◌}
use Rattle.std.specs.Str.{bytes_eq}
use Rattle.scheme_model.specs.Identifiers.{Number, same_number, Name, Written as WrittenName, Inserted as InsertedName, Inner, Var}

pub data Ident : Type 0 where
  Written : (unit : ℕ) → (symbol : List ℕ) → Ident
  Inserted : Ident → (use_number : Number) → Ident

abbrev pub same_ident : Ident → Ident → Bool
same_ident (Written u s) (Written v t) = u == v && bytes_eq s t
same_ident (Written u s) (Inserted j l) = false
same_ident (Inserted i k) (Written v t) = false
same_ident (Inserted i k) (Inserted j l) = same_number k l && same_ident i j

-- the symbol innermost in an identifier
abbrev pub symbol_of : Ident → List ℕ
symbol_of (Written u s) = s
symbol_of (Inserted i k) = symbol_of i

-- a name without what was substituted
abbrev pub erase : Name → Ident
erase (WrittenName u s) = Written u s
erase (InsertedName i k) = Inserted (erase i) k
erase (Inner b i) = erase i
erase (Var v i) = erase i

-- the name of an identifier where nothing local is around
abbrev pub root : Ident → Name
root (Written u s) = WrittenName u s
root (Inserted i k) = InsertedName (root i) k
