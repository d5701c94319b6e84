-- What is noted of what a form asks (R7RS 4.3, 5.3), by what the part of it that is at work began with and has defined since. A note has
-- the answer, and how many definitions the form has made in its unit when it is asked.
use Rattle.std.specs.Prelude.{ℕ, List, [], ◌∷◌, length, Bool, true, false, ◌||◌, Option, None, if◌then◌else◌}
use Rattle.scheme_model.specs.ExpansionFaults.{Named}
use Rattle.scheme_model.specs.Ident.{Ident}
use Rattle.scheme_model.specs.Meaning.{Meaning, Local, Global, Standard, Free, same_meaning}
use Rattle.scheme_model.specs.Order.{Note, Transformer}
use Rattle.scheme_model.specs.Requirements.{LibraryName}
use Rattle.scheme_model.specs.RulesShape.{Rules}
use Rattle.scheme_model.specs.Substitution.{Table}
use Rattle.scheme_model.specs.ScopedExpansion.{Frames, FramedIdent, ScopedState}
use Rattle.scheme_model.specs.Questions.{Outcome, Question, LooksUp, UsesRules, Compares, IsAssigned, Requires, Defines, Answer, Means, Expands, Says, Ends}
use Rattle.question_laws.specs.Noted.{before_uses, is_defined_in, defines_within, answers_alone, compares_alone}

pub record Noted : Type 0 where
  pub behind : ℕ
  pub question : Question
  pub answer : Answer

-- where a part of a form began, what the form has defined in its unit since, and the rules of macros by their editions
pub record Since : Type 0 where
  pub unit : ℕ
  pub form : ℕ
  pub uses : ℕ
  pub own : Table
  pub editions : ℕ → Option (Transformer Frames Ident)

abbrev pub beginning : (unit form uses : ℕ) → (ℕ → Option (Transformer Frames Ident)) → Since
beginning unit form uses editions = record { unit = unit; form = form; uses = uses; own = []; editions = editions }

-- a state in which it may have begun
abbrev pub began : Since → ScopedState
began r = record {
  unit = r.unit;
  program = false;
  form = r.form;
  locals = λ f. 0;
  uses = λ f. r.uses;
  nodes = λ f. 0;
  bodies = λ f. 0;
  keywords = λ f. [];
  met = λ f. [];
  table = [];
  entry = λ u x. None;
  macros = [];
  places = [];
  definitions = [];
}

abbrev pub is_local : Meaning → Bool
is_local (Local v) = true
is_local (Global u i) = false
is_local (Standard x) = false
is_local (Free x) = false

-- a question at the form's start
abbrev pub at_start : Question → Answer → List Noted
at_start q a = record { behind = 0; question = q; answer = a } ∷ []

-- nothing where the form answers alone; the question as it is asked where its definitions have a part in the answer; else what it is at the start
abbrev pub noted_as : Since → (alone part : Bool) → (now before : Question) → Answer → List Noted
noted_as r alone part now before a = if alone then [] else if part then record { behind = length r.own; question = now; answer = a } ∷ [] else at_start before a

-- an identifier means this
abbrev pub looked_up : Since → Ident → Meaning → (keyword : Bool) → List Noted
looked_up r i m keyword =
    if is_local m then [] else noted_as r (answers_alone (began r) r.own i) (defines_within r.own i) (LooksUp i) (LooksUp (before_uses (began r) i)) (Means m keyword)

-- a literal means one thing, and an identifier another, or the same
abbrev pub compared : Since → (l i : Ident) → (literal ident : Meaning) → List Noted
compared r l i m n =
    if is_local m || is_local n then []
    else noted_as r (compares_alone (began r) r.own l i) (defines_within r.own l || defines_within r.own i) (Compares l i) (Compares (before_uses (began r) l) (before_uses (began r) i)) (Says (same_meaning m n))

-- the form has defined what means this
abbrev pub is_own : Since → Meaning → Bool
is_own r (Local v) = true
is_own r (Global u i) = is_defined_in r.own u i
is_own r (Standard x) = false
is_own r (Free x) = false

-- what means this has these rules
abbrev pub rules_used : Since → Meaning → Option (Transformer Frames Ident) → List Noted
rules_used r m t = if is_own r m then [] else at_start (UsesRules m) (Expands t)

abbrev pub assigned_as : Since → Ident → Bool → List Noted
assigned_as r i b = if is_defined_in r.own r.unit i then [] else at_start (IsAssigned i) (Says b)

abbrev pub required : LibraryName → Bool → List Noted
required l b = at_start (Requires l) (Says b)

abbrev pub defined_as : Since → Frames → Named Ident → Option (Rules Ident) → List (Note FramedIdent) → Outcome → List Noted
defined_as r fs x rules ns o = record { behind = length r.own; question = Defines fs x rules ns; answer = Ends o } ∷ []

-- the form has defined an identifier
abbrev pub defining : Since → Named Ident → Bool → Since
defining r x keyword = record r { own = record { unit = r.unit; form = r.form; ident = x.name; keyword = keyword; occ = x.occ } ∷ r.own }
