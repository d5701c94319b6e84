-- Which questions are noted for a form (R7RS 4.3, 5.3): what its own definitions don't answer is asked of its surroundings as they are
-- when it begins, and at its moment only where its own definitions may have a part in the answer.
use Rattle.std.specs.Prelude.{◌≡◌, ℕ, nat_lt, ◌==◌, List, [], ◌∷◌, ◌++◌, Bool, true, not, ◌&&◌, ◌||◌, Some, if◌then◌else◌}
use Rattle.std.specs.List.{Contains}
use Rattle.scheme_model.specs.Identifiers.{Number}
use Rattle.scheme_model.specs.Ident.{Ident, Written, Inserted}
use Rattle.scheme_model.specs.Meaning.{Global}
use Rattle.scheme_model.specs.Order.{is_some}
use Rattle.scheme_model.specs.Substitution.{Table, Entries, defined_in}
use Rattle.scheme_model.specs.ScopedExpansion.{ScopedMacro, ScopedState, macro_at}
use Rattle.scheme_model.specs.Questions.{Moment, Around, Question, LooksUp, UsesRules, Compares, IsAssigned, Requires, Defines}
use Rattle.scheme_model.specs.FormsAlike.{start}
use Rattle.form_laws.specs.Begins.{Each, SameForm}

-- a macro use that the form at work has yet to begin
abbrev pub is_to_come : ScopedState → Number → Bool
is_to_come s k = k.unit == s.unit && (k.form == s.form && not (nat_lt k.count (s.uses s.form)))

-- what an identifier was before macro uses of the form inserted it
abbrev pub before_uses : ScopedState → Ident → Ident
before_uses s (Written u x) = Written u x
before_uses s (Inserted i k) = if is_to_come s k then before_uses s i else Inserted i k

abbrev pub is_defined_in : Table → ℕ → Ident → Bool
is_defined_in own u i = is_some (defined_in own u i)

-- the form's own definitions have it, or an identifier within it
abbrev pub defines_within : Table → Ident → Bool
defines_within own (Written u x) = is_defined_in own u (Written u x)
defines_within own (Inserted i k) = is_defined_in own k.unit (Inserted i k) || defines_within own i

-- they answer it whatever is around the form: they have it, or what it was before a use of the form inserted it
abbrev pub answers_alone : ScopedState → Table → Ident → Bool
answers_alone s own (Written u x) = is_defined_in own u (Written u x)
answers_alone s own (Inserted i k) = is_defined_in own k.unit (Inserted i k) || (is_to_come s k && answers_alone s own i)

-- and so they do of two identifiers that are compared: of both, or of one where they have no part in the other
abbrev pub compares_alone : ScopedState → Table → Ident → Ident → Bool
compares_alone s own l i =
    (answers_alone s own l && (answers_alone s own i || not (defines_within own i))) || (answers_alone s own i && not (defines_within own l))

-- nothing where the form answers alone; the question at its moment where its definitions have a part in the answer; else, when it begins, this
abbrev pub noted_as : Around → (alone part : Bool) → Moment × Question → Question → List (Moment × Question)
noted_as w alone part now before = if alone then [] else if part then now ∷ [] else (start w.state, before) ∷ []

abbrev pub noted : Around → Moment × Question → List (Moment × Question)
noted w (n, LooksUp i) = noted_as w (answers_alone w.state n.table i) (defines_within n.table i) (n, LooksUp i) (LooksUp (before_uses w.state i))
noted w (n, UsesRules m) = if is_some (macro_at n.macros m) then [] else (start w.state, UsesRules m) ∷ []
noted w (n, Compares l i) =
    noted_as w (compares_alone w.state n.table l i) (defines_within n.table l || defines_within n.table i) (n, Compares l i) (Compares (before_uses w.state l) (before_uses w.state i))
noted w (n, IsAssigned i) = if is_defined_in n.table w.state.unit i then [] else (start w.state, IsAssigned i) ∷ []
noted w (n, Requires l) = (start w.state, Requires l) ∷ []
noted w (n, Defines fs x r ns) = (n, Defines fs x r ns) ∷ []

abbrev pub all_noted : Around → List (Moment × Question) → List (Moment × Question)
all_noted w [] = []
all_noted w (q ∷ qs) = noted w q ++ all_noted w qs

-- the form's own definitions have a part in the answer, or it is how one of them ends
abbrev pub HasPart : Moment × Question → Type 0
HasPart (n, LooksUp i) = defines_within n.table i ≡ true
HasPart (n, UsesRules m) = ⊥
HasPart (n, Compares l i) = (defines_within n.table l || defines_within n.table i) ≡ true
HasPart (n, IsAssigned i) = ⊥
HasPart (n, Requires l) = ⊥
HasPart (n, Defines fs x r ns) = Unit {0}

-- these are the noted questions, in any order, and each as often as it may be
pub record AreNotes (w : Around) (qs ns : List (Moment × Question)) : Type 0 where
  pub all : Each (λ (q : Moment × Question). Contains ns q) (all_noted w qs)
  pub alone : Each (λ (q : Moment × Question). Contains (all_noted w qs) q) ns

-- ---- two surroundings

-- a definition that is imported stands in its unit, and so does one that a macro is kept for
pub record AllStand (table : Table) (entry : Entries) (macros : List ScopedMacro) : Type 0 where
  pub imports : (u : ℕ) (x : List ℕ) (v : ℕ) (i : Ident) → entry u x ≡ Some (Global v i) → is_defined_in table v i ≡ true
  pub kept : (v : ℕ) (i : Ident) → is_some (macro_at macros (Global v i)) ≡ true → is_defined_in table v i ≡ true

abbrev pub IsClosed : ScopedState → Type 0
IsClosed s = AllStand s.table s.entry s.macros

-- one unit at one form, a program in both or in neither
pub record SameUnit (w v : Around) : Type 0 where
  pub form : SameForm w v
  pub program : v.state.program ≡ w.state.program
