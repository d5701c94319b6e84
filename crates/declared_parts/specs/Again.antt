-- A form that was gone through in other surroundings is declared again where its turn comes (R7RS 5.3): its definitions are made again, if
-- what they have a part in has the same answers.
use Rattle.std.specs.Prelude.{◌≡◌, ℕ, List, [], ◌++◌, map, true, Option}
use Rattle.std.specs.List.{Contains}
use Rattle.scheme_model.specs.Ident.{Ident}
use Rattle.scheme_model.specs.Trees.{Tree}
use Rattle.scheme_model.specs.Order.{Note, Pass, Transformer}
use Rattle.scheme_model.specs.ScopedExpansion.{Frames, FramedIdent, ScopedMacro, ScopedState}
use Rattle.scheme_model.specs.Questions.{Moment, Around, Question, Asking, SameAnswer}
use Rattle.scheme_model.specs.FormsAlike.{start, again, set_aside_asking, questions_of_pass}
use Rattle.form_laws.specs.Begins.{Each}
use Rattle.question_laws.specs.Noted.{all_noted, IsClosed, SameUnit}
use Rattle.forgotten_locals.specs.Outside.{outside, IsOutside}
use Rattle.syntax_tree.specs.declared.meaning.Meaning.TheVariants.{Global}
use Rattle.syntax_tree.specs.declared.trees.Work.{Work}
use Rattle.feature_requirements.specs.Judged.{Knows}
use Rattle.form_notes.specs.Noted.{Noted}
use Rattle.unit_scopes.specs.Editions.{EditionsTell}
use Rattle.unit_scopes.specs.Forgotten.{AreAtRoot, AllOwn}
use Rattle.unit_scopes.specs.Macros.{edition_in}
use Rattle.unit_scopes.specs.Outcomes.{KeepsNumbers}
use Rattle.unit_scopes.specs.Stepped.{IsFresh}
use Rattle.unit_scopes.specs.Units.{UnitStands}
use Rattle.unit_scopes.specs.declared.scope.UnitScope.{UnitScope}
use Rattle.note_laws.specs.SameRoots.{NoLocalEntry}
use Rattle.note_laws.specs.Told.{bare_noted, told, since_of, ImportsOthers}
use Rattle.note_laws.specs.Tested.{is_definition}
use Rattle.declared_parts.specs.Parts.{IsPart}
use Rattle.declared_parts.specs.declared.parts.DeclaredPart.{DeclaredPart}
use Rattle.declared_parts.specs.declared.parts.KeptMacro.{KeptMacro}

-- ---- the form

-- what was around it when it was gone through, and what is around it where its turn comes
pub record Again : Type 0 where
  pub before : Around
  pub now : Around
  pub turns : ℕ
  pub tree : Tree Ident

abbrev pub aside_of : Again → Pass Ident FramedIdent × Asking
aside_of x = set_aside_asking x.before x.turns x.tree

-- the moment that it went to, its own notes, and what is noted of its questions
abbrev pub moment_of : Again → Moment
moment_of x = (aside_of x).1.moment

abbrev pub own_notes : Again → List (Note FramedIdent)
own_notes x = (aside_of x).0.notes

abbrev pub noted_of : Again → List (Moment × Question)
noted_of x = all_noted x.before (questions_of_pass x.before x.turns x.tree)

-- what isn't local of the state that it leaves, and the unit's notes then
abbrev pub state_after : Again → ScopedState
state_after x = outside (again x.now (moment_of x))

abbrev pub notes_after : Again → List (Note FramedIdent)
notes_after x = own_notes x ++ x.now.notes

-- a question has the same answer in both, unless it is asked when the form begins and isn't how a definition ends
abbrev pub SameLater : Around → Around → Moment × Question → Type 0
SameLater w v q = (q.0 ≡ start w.state → is_definition q.1 ≡ true) → SameAnswer w v q

abbrev pub AreSameLater : Again → Type 0
AreSameLater x = Each (SameLater x.before x.now) (noted_of x)

-- ---- when it can be declared again

-- it is the same form of its unit in both, and new where its turn comes; nothing local is around it there, and the unit imports nothing of
-- its own
pub record ComesAgain (x : Again) : Type 0 where
  pub same : SameUnit x.before x.now
  pub frames : Each (λ (k : ScopedMacro). k.frames ≡ []) x.before.state.macros
  pub entries_before : NoLocalEntry x.before.state
  pub outside : IsOutside x.now.state
  pub entries : NoLocalEntry x.now.state
  pub imports : ImportsOthers x.now.state
  pub closed : IsClosed x.now.state
  pub notes : AreAtRoot x.now.notes
  pub new : IsFresh x.now.state x.now.state.form

-- what is kept is that of the form, where it was gone through
pub record IsKeptOf (work : Work) (kept : DeclaredPart) (editions : ℕ → Option (Transformer Frames Ident)) (x : Again) : Type 0 where
  pub noted : List Noted
  pub part : IsPart work (since_of x.before editions) kept (own_notes x) noted
  pub told : map bare_noted noted ≡ map (told x.before) (noted_of x)

-- the open unit stands for what is around the form, and each of its scopes is a unit's own
pub record CanDeclare (work : Work) (u : UnitScope) (form : ℕ) (part : DeclaredPart) : Type 0 where
  pub again : Again
  pub comes : ComesAgain again
  pub editions : ℕ → Option (Transformer Frames Ident)
  pub kept : IsKeptOf work part editions again
  pub layout : List Frames
  pub stands : UnitStands work u layout again.now.state again.now.notes
  pub own : AllOwn u
  pub tells : EditionsTell work.symbols u.macros again.now.state editions
  pub knows : Knows u.libraries again.now.known
  pub number : form ≡ again.now.state.form

-- ---- what calls leave

-- the unit stands for this state and these notes; no scope is opened, no unit begun, and macros that stood keep their editions
pub record StandsAfter (work : Work) (u v : UnitScope) (ls : List Frames) (editions : ℕ → Option (Transformer Frames Ident)) (s : ScopedState) (notes : List (Note FramedIdent)) : Type 0 where
  pub stands : UnitStands work v ls s notes
  pub own : AllOwn v
  pub tells : EditionsTell work.symbols v.macros s editions
  pub libraries : v.libraries ≡ u.libraries
  pub roots : v.env.roots ≡ u.env.roots
  pub numbers : KeepsNumbers u v

-- each macro of the part is the unit's by now, with the edition that the part has for it
abbrev pub HasEditions : DeclaredPart → UnitScope → Type 0
HasEditions part u = (k : KeptMacro) (form : ℕ) → Contains part.macros k → edition_in u.macros form (Global u.unit k.ident) ≡ k.edition
