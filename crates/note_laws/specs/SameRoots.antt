-- Two states with one root (R7RS 5.3): units define and import the same in both, and what isn't local has the same macros. Questions of
-- which the answer is read there, and notes that are asked behind definitions of the form.
use Rattle.std.specs.Prelude.{◌≡◌, ℕ, List, length, true, false}
use Rattle.scheme_model.specs.Meaning.{Meaning}
use Rattle.scheme_model.specs.RulesShape.{option_map}
use Rattle.scheme_model.specs.ScopedExpansion.{ScopedState, macro_at}
use Rattle.scheme_model.specs.Questions.{Moment, Around, Question, LooksUp, UsesRules, Compares, IsAssigned, Requires, Defines, at_moment, bare_macro, SameAnswer}
use Rattle.form_laws.specs.Begins.{IsEntry}
use Rattle.forgotten_locals.specs.Outside.{is_outside}
use Rattle.form_notes.specs.Noted.{Noted}
use Rattle.note_laws.specs.Tested.{is_definition}

pub record SameRoot (s t : ScopedState) : Type 0 where
  pub unit : t.unit ≡ s.unit
  pub program : t.program ≡ s.program
  pub table : t.table ≡ s.table
  pub entry : t.entry ≡ s.entry
  pub macros : (m : Meaning) → is_outside m ≡ true → option_map bare_macro (macro_at t.macros m) ≡ option_map bare_macro (macro_at s.macros m)

-- units import nothing local
abbrev pub NoLocalEntry : ScopedState → Type 0
NoLocalEntry s = (u : ℕ) (x : List ℕ) → IsEntry (s.entry u x)

-- no definition, and not the rules of a local macro
abbrev pub IsOfRoot : Question → Type 0
IsOfRoot (LooksUp i) = Unit {0}
IsOfRoot (UsesRules m) = is_outside m ≡ true
IsOfRoot (Compares l i) = Unit {0}
IsOfRoot (IsAssigned i) = Unit {0}
IsOfRoot (Requires l) = Unit {0}
IsOfRoot (Defines fs x r ns) = ⊥

-- ---- behind definitions of the form

-- it is asked behind some, and is none
pub record IsBehind (m : Noted) : Type 0 where
  pub behind : m.behind ≡ 0 → ⊥
  pub looks : is_definition m.question ≡ false

-- a question behind some definitions has the same answer in both
abbrev pub SameBehind : Around → Around → Moment × Question → Type 0
SameBehind w v q = (length q.0.table ≡ 0 → ⊥) → is_definition q.1 ≡ false → SameAnswer w v q

-- in u, by how many definitions there are, the root is what it is in v where a question is asked
pub record RootsBehind (v : Around) (u : ℕ → Around) (q : Moment × Question) : Type 0 where
  pub known : (u (length q.0.table)).known ≡ v.known
  pub root : SameRoot (at_moment v q.0) (u (length q.0.table)).state
