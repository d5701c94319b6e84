-- What means a macro in the code, by its maps.
use Rattle.std.specs.Prelude.{◌≡◌, ℕ, nat_eq, Bool, false, ◌&&◌, Option, Some, None, if◌then◌else◌}
use Rattle.std.specs.Ordering.{nat_cmp}
use Rattle.std.specs.BTreeMap.{get}
use Rattle.rules_match.specs.Found.{pair_cmp}
use Rattle.syntax_tree.specs.declared.meaning.Meaning.{Meaning}
use Rattle.syntax_tree.specs.declared.meaning.Meaning.TheVariants.{Local, Global, Standard, Free}
use Rattle.unit_scopes.specs.declared.macros.Macro.{Macro}
use Rattle.unit_scopes.specs.declared.macros.Macros.{Macros}

-- the macro that means this in a form
abbrev pub macro_in : Macros → ℕ → Meaning → Option Macro
macro_in m form (Local n) = get pair_cmp m.locals (form, n)
macro_in m form (Global u i) = get pair_cmp m.globals.all (u, i)
macro_in m form (Standard s) = get nat_cmp m.standards s
macro_in m form (Free s) = None

-- a macro with its edition
abbrev pub numbered : Macro → ℕ → Macro
numbered k n = record k { edition = n }

-- the edition of the macro that means this in a form; 0 is that of none
abbrev pub edition_of : Option Macro → ℕ
edition_of None = 0
edition_of (Some k) = k.edition

abbrev pub edition_in : Macros → ℕ → Meaning → ℕ
edition_in m form c = edition_of (macro_in m form c)

-- two meanings, each in a form, are one
abbrev pub same_key : ℕ → Meaning → ℕ → Meaning → Bool
same_key f (Local n) g (Local m) = nat_eq g f && nat_eq m n
same_key f (Local n) g (Global u i) = false
same_key f (Local n) g (Standard s) = false
same_key f (Local n) g (Free s) = false
same_key f (Global u i) g (Local m) = false
same_key f (Global u i) g (Global v j) = nat_eq v u && nat_eq j i
same_key f (Global u i) g (Standard s) = false
same_key f (Global u i) g (Free s) = false
same_key f (Standard s) g (Local m) = false
same_key f (Standard s) g (Global u i) = false
same_key f (Standard s) g (Standard t) = nat_eq t s
same_key f (Standard s) g (Free t) = false
same_key f (Free s) g m = false

-- what may mean a macro
abbrev pub IsBound : Meaning → Type 0
IsBound (Local n) = Unit {0}
IsBound (Global u i) = Unit {0}
IsBound (Standard s) = Unit {0}
IsBound (Free s) = ⊥

-- one macro more, in place of what meant this before
abbrev pub Keeps : Macros → Macros → ℕ → Meaning → Macro → Type 0
Keeps old new form meaning kept = (f : ℕ) (m : Meaning) → macro_in new f m ≡ (if same_key form meaning f m then Some kept else macro_in old f m)
