-- Identifiers (R7RS 4.3). An identifier is a symbol written in a unit, one that a macro use inserted, one as it is
-- read inside a body, or one that a binder binds.
use Rattle.std.specs.Prelude.{ℕ, List, Bool, false, ◌&&◌, ◌==◌}
use Rattle.std.specs.Str.{bytes_eq}

-- the number of a macro use, a body or a binder: the unit, the form, and a running count
pub record Number : Type 0 where
  pub unit : ℕ
  pub form : ℕ
  pub count : ℕ

abbrev pub same_number : Number → Number → Bool
same_number k l = k.unit == l.unit && (k.form == l.form && k.count == l.count)

pub data Name : Type 0 where
  Written : (unit : ℕ) → (symbol : List ℕ) → Name
  Inserted : Name → (use_number : Number) → Name
  Inner : (body : Number) → Name → Name
  Var : (binder : Number) → Name → Name

-- one identifier
abbrev pub same_name : Name → Name → Bool
same_name (Written u s) (Written v t) = u == v && bytes_eq s t
same_name (Written u s) (Inserted j l) = false
same_name (Written u s) (Inner b j) = false
same_name (Written u s) (Var v j) = false
same_name (Inserted i k) (Written v t) = false
same_name (Inserted i k) (Inserted j l) = same_number k l && same_name i j
same_name (Inserted i k) (Inner b j) = false
same_name (Inserted i k) (Var v j) = false
same_name (Inner a i) (Written v t) = false
same_name (Inner a i) (Inserted j l) = false
same_name (Inner a i) (Inner b j) = same_number a b && same_name i j
same_name (Inner a i) (Var v j) = false
same_name (Var u i) (Written v t) = false
same_name (Var u i) (Inserted j l) = false
same_name (Var u i) (Inner b j) = false
same_name (Var u i) (Var v j) = same_number u v && same_name i j

-- the symbol innermost in an identifier
abbrev pub strip : Name → List ℕ
strip (Written u s) = s
strip (Inserted i k) = strip i
strip (Inner b i) = strip i
strip (Var v i) = strip i
