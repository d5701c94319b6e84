-- What an identifier means (R7RS 4.3), and what a form is by the meaning of its head.
use Rattle.std.specs.Prelude.{ℕ, List, Bool, true, false, ◌&&◌, ◌==◌, Option, Some, None}
use Rattle.std.specs.Str.{bytes_eq}
use Rattle.scheme_model.specs.Identifiers.{Number, same_number}
use Rattle.scheme_model.specs.Ident.{Ident, same_ident}
use Rattle.scheme_model.specs.Keywords.{CoreKeyword, core_named, Auxiliary, auxiliary_named}

-- a binder's variable or macro, a definition of a unit, a standard name, or nothing
pub data Meaning : Type 0 where
  Local : (binder : Number) → Meaning
  Global : (unit : ℕ) → Ident → Meaning
  Standard : (name : List ℕ) → Meaning
  Free : (symbol : List ℕ) → Meaning

abbrev pub same_meaning : Meaning → Meaning → Bool
same_meaning (Local v) (Local w) = same_number v w
same_meaning (Local v) (Global u i) = false
same_meaning (Local v) (Standard s) = false
same_meaning (Local v) (Free s) = false
same_meaning (Global u i) (Local v) = false
same_meaning (Global u i) (Global v j) = u == v && same_ident i j
same_meaning (Global u i) (Standard s) = false
same_meaning (Global u i) (Free s) = false
same_meaning (Standard s) (Local v) = false
same_meaning (Standard s) (Global u i) = false
same_meaning (Standard s) (Standard t) = bytes_eq s t
same_meaning (Standard s) (Free t) = false
same_meaning (Free s) (Local v) = false
same_meaning (Free s) (Global u i) = false
same_meaning (Free s) (Standard t) = false
same_meaning (Free s) (Free t) = bytes_eq s t

-- a local that is told by its count alone, as one of this form
abbrev pub of_form : (unit form : ℕ) → Meaning → Meaning
of_form unit form (Local v) = Local (record { unit = unit; form = form; count = v.count })
of_form unit form (Global u i) = Global u i
of_form unit form (Standard s) = Standard s
of_form unit form (Free s) = Free s

-- what the head of a form is: the keyword of a core form, an auxiliary keyword, a macro, or no keyword
pub data Head : Type 0 where
  IsCore : CoreKeyword → Head
  IsAuxiliary : Auxiliary → Head
  IsMacro : Meaning → Head
  IsNone : Head

abbrev pub is_keyword : Head → Bool
is_keyword (IsCore k) = true
is_keyword (IsAuxiliary a) = true
is_keyword (IsMacro m) = true
is_keyword IsNone = false

abbrev pub macro_or_none : Bool → Meaning → Head
macro_or_none true m = IsMacro m
macro_or_none false m = IsNone

abbrev pub other_standard : Option Auxiliary → Bool → Meaning → Head
other_standard (Some a) is_macro m = IsAuxiliary a
other_standard None is_macro m = macro_or_none is_macro m

abbrev pub standard_head : Option CoreKeyword → Option Auxiliary → Bool → Meaning → Head
standard_head (Some k) a is_macro m = IsCore k
standard_head None a is_macro m = other_standard a is_macro m

-- by a meaning, and whether there is a macro that means this
abbrev pub head_as : (Meaning → Bool) → Meaning → Head
head_as is_macro (Local v) = macro_or_none (is_macro (Local v)) (Local v)
head_as is_macro (Global u i) = macro_or_none (is_macro (Global u i)) (Global u i)
head_as is_macro (Standard s) = standard_head (core_named s) (auxiliary_named s) (is_macro (Standard s)) (Standard s)
head_as is_macro (Free s) = IsNone
