-- Surroundings that are the same as far as some units go (R7RS 5.2, 5.3): of each, which identifiers it defines and which of these are
-- keywords, what it imports, and the rules of its macros.
use Rattle.std.specs.Prelude.{◌≡◌, ℕ, List, map, Bool, true, Option, None}
use Rattle.scheme_model.specs.Ident.{Ident}
use Rattle.scheme_model.specs.Meaning.{Meaning, Global, Standard, Free}
use Rattle.scheme_model.specs.Requirements.{Known, LibraryName}
use Rattle.scheme_model.specs.RulesShape.{option_map}
use Rattle.scheme_model.specs.Order.{Transformer}
use Rattle.scheme_model.specs.Substitution.{Table, Entries, defined_in, definition_count}
use Rattle.scheme_model.specs.ScopedExpansion.{Frames, ScopedMacro, ScopedState, macro_at}
use Rattle.scheme_model.specs.ScopedProgram.{ScopedProgress}
use Rattle.scheme_model.specs.Questions.{Around, bare_macro}
use Rattle.scheme_model.specs.FormsAlike.{bare_note}
use Rattle.form_laws.specs.Begins.{Each}
use Rattle.mentioned_units.specs.Mentioned.{Mask, NoteIn}

-- whether it is defined, and as a keyword
abbrev pub defined_as : Table → ℕ → Ident → Option Bool
defined_as table u i = option_map (λ d. d.keyword) (defined_in table u i)

-- the macro that means this, but for the times at which bodies were entered
abbrev pub macro_of : List ScopedMacro → Meaning → Option (Transformer Frames Ident)
macro_of ks m = option_map bare_macro (macro_at ks m)

-- what stands by then: what units define and import, and their macros
pub record Standing : Type 0 where
  pub table : Table
  pub entry : Entries
  pub macros : List ScopedMacro

abbrev pub in_state : ScopedState → Standing
in_state s = record { table = s.table; entry = s.entry; macros = s.macros }

abbrev pub in_progress : ScopedProgress → Standing
in_progress g = record { table = g.table; entry = g.entry; macros = g.macros }

-- a unit is the same in both
pub record IsUnchanged (u : ℕ) (s t : Standing) : Type 0 where
  pub defined : (i : Ident) → defined_as t.table u i ≡ defined_as s.table u i
  pub imports : (x : List ℕ) → t.entry u x ≡ s.entry u x
  pub macros : (i : Ident) → macro_of t.macros (Global u i) ≡ macro_of s.macros (Global u i)

-- so are these units, and the macros of standard names; and one unit is at work in both, with as many definitions so far
pub record Unchanged (mask : Mask) (s t : ScopedState) : Type 0 where
  pub unit : t.unit ≡ s.unit
  pub program : t.program ≡ s.program
  pub units : (u : ℕ) → mask.units u ≡ true → IsUnchanged u (in_state s) (in_state t)
  pub standard : (x : List ℕ) → macro_of t.macros (Standard x) ≡ macro_of s.macros (Standard x)
  pub free : (x : List ℕ) → macro_of t.macros (Free x) ≡ macro_of s.macros (Free x)
  pub count : definition_count t.table t.unit ≡ definition_count s.table s.unit

-- of these libraries the same are known
abbrev pub KnowsSame : Mask → Known → Known → Type 0
KnowsSame mask known there = (l : LibraryName) → mask.libraries l ≡ true → there l ≡ known l

-- surroundings of one form that are the same so far, with the same notes, which mention these units alone
pub record SameSoFar (mask : Mask) (w v : Around) : Type 0 where
  pub form : v.state.form ≡ w.state.form
  pub state : Unchanged mask w.state v.state
  pub known : KnowsSame mask w.known v.known
  pub notes : map bare_note v.notes ≡ map bare_note w.notes
  pub noted : Each (NoteIn mask) w.notes

-- a unit has nothing yet
pub record HasNothing (u : ℕ) (s : Standing) : Type 0 where
  pub defined : (i : Ident) → defined_as s.table u i ≡ None
  pub macros : (i : Ident) → macro_of s.macros (Global u i) ≡ None
  pub count : definition_count s.table u ≡ 0
