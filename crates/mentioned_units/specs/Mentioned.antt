-- Which units the questions of a form mention (R7RS 4.3, 5.2): those that an identifier was written or inserted in, and those of which a
-- definition is meant.
use Rattle.std.specs.Prelude.{◌≡◌, ℕ, List, [], ◌∷◌, Bool, true, Option, Some, None, Result, Ok, Err}
use Rattle.scheme_model.specs.Ident.{Ident, Written, Inserted}
use Rattle.scheme_model.specs.Trees.{Tree}
use Rattle.scheme_model.specs.Meaning.{Meaning, Local, Global, Standard, Free}
use Rattle.scheme_model.specs.Requirements.{Known, LibraryName}
use Rattle.scheme_model.specs.Steps.{Broken}
use Rattle.scheme_model.specs.Order.{Note, LookedUp, Compared, Left}
use Rattle.scheme_model.specs.ScopedExpansion.{FramedIdent, ScopedState}
use Rattle.scheme_model.specs.OwnAnswers.{root_means}
use Rattle.scheme_model.specs.Questions.{Moment, Around, at_moment, Question, LooksUp, UsesRules, Compares, IsAssigned, Requires, Defines}
use Rattle.scheme_model.specs.FormsAlike.{bound_moved, questions_of_pass, questions_of_left}
use Rattle.form_laws.specs.Begins.{Each}
use Rattle.question_laws.specs.Noted.{all_noted, IsClosed}
use Rattle.kept_forms.specs.KeptForms.{KeptForm, KeptParts, FormOrKept, LeftOrKept, kept_moved}
use Rattle.kept_forms.specs.Carried.{kept_aside, kept_parts, PassStays, RestStays, FormFits}
use Rattle.forgotten_locals.specs.Ways.{Way, AtTurns}

-- some units, and some names of libraries
pub record Mask : Type 0 where
  pub units : ℕ → Bool
  pub libraries : LibraryName → Bool

-- ---- what is mentioned

-- the unit in which it was written, and those whose forms began the uses that inserted it
abbrev pub units_in : Ident → List ℕ
units_in (Written u x) = u ∷ []
units_in (Inserted i k) = k.unit ∷ units_in i

abbrev pub IsIn : Mask → Ident → Type 0
IsIn mask i = Each (λ u. mask.units u ≡ true) (units_in i)

-- nothing local is meant, nor a definition of another unit
abbrev pub MeansIn : Mask → Meaning → Type 0
MeansIn mask (Local v) = ⊥
MeansIn mask (Global u i) = mask.units u ≡ true
MeansIn mask (Standard x) = Unit {0}
MeansIn mask (Free x) = Unit {0}

abbrev pub NoteIn : Mask → Note FramedIdent → Type 0
NoteIn mask (LookedUp l head keyword) = IsIn mask l.ident
NoteIn mask (Compared l j held) = IsIn mask l.ident × IsIn mask j.ident

-- a question, with what an identifier means in these surroundings, mentions no other units; a definition mentions the form's own, and is asked in view
-- of notes
abbrev pub Mentions : Mask → Around → Moment × Question → Type 0
Mentions mask w (n, LooksUp i) = IsIn mask i × MeansIn mask (root_means (at_moment w n) i)
Mentions mask w (n, UsesRules m) = MeansIn mask m
Mentions mask w (n, Compares l i) = IsIn mask l × IsIn mask i
Mentions mask w (n, IsAssigned i) = mask.units w.state.unit ≡ true
Mentions mask w (n, Requires l) = mask.libraries l ≡ true
Mentions mask w (n, Defines fs x r ns) = (mask.units w.state.unit ≡ true) × Each (NoteIn mask) ns

-- ---- along a unit

-- a form that was gone through in w stays where its turn comes in v, and what was noted of it there mentions no others
pub record PassMentions (mask : Mask) (w v : Around) (turns : ℕ) (t : Tree Ident) : Type 0 where
  pub stays : PassStays w v turns t
  pub program : v.state.program ≡ w.state.program
  pub closed : IsClosed w.state
  pub mentions : Each (Mentions mask w) (all_noted w (questions_of_pass w turns t))

-- and what it set aside
pub record RestMentions (mask : Mask) (w v : Around) (turns : ℕ) (l : Left Ident) : Type 0 where
  pub stays : RestStays w v turns l
  pub program : v.state.program ≡ w.state.program
  pub closed : IsClosed w.state
  pub mentions : Each (Mentions mask w) (all_noted w (questions_of_left w turns (Ok l)))

-- the form is kept, and it and its notes mention no others
abbrev pub IsMentioned : Mask → ℕ → Around → Tree Ident → Option KeptForm → Type 0
IsMentioned mask turns v t None = ⊥
IsMentioned mask turns v t (Some k) = (w : Around) × PassMentions mask w v turns t × (k.aside ≡ kept_aside w turns t) × Each (NoteIn mask) k.aside.pass.notes

-- the rest is kept, unless the form is broken
abbrev pub IsRestMentioned : Mask → ℕ → Around → Result (Left Ident) Broken → Option KeptParts → Type 0
IsRestMentioned mask turns v (Err e) None = Unit {0}
IsRestMentioned mask turns v (Err e) (Some k) = ⊥
IsRestMentioned mask turns v (Ok m) None = ⊥
IsRestMentioned mask turns v (Ok m) (Some k) = (w : Around) × (l : Left Ident) × (from : ℕ) × (to : ℕ) × RestMentions mask w v turns l × (k ≡ kept_moved (bound_moved from to) (kept_parts w turns from l))

-- each form of a unit is kept, and mentions no others
abbrev pub AllMentioned : Mask → Way → ℕ → Known → List FormOrKept → ScopedState → Type 0
AllMentioned mask way turns known xs s =
    Each (λ (x : FormOrKept). FormFits x.kept) xs
    × AtTurns (λ v (x : FormOrKept). IsMentioned mask turns v x.tree x.kept) (λ v (r : LeftOrKept). IsRestMentioned mask turns v r.left r.kept) way known xs s
