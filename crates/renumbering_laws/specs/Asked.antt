-- What becomes of all that a form asks and is answered under other numbers, and surroundings of a form that correspond. The times at
-- which bodies were entered stay as they are, since no answer tells them.
use Rattle.std.specs.Prelude.{◌≡◌, map}
use Rattle.scheme_model.specs.Ident.{Ident}
use Rattle.scheme_model.specs.Meaning.{Meaning}
use Rattle.scheme_model.specs.RulesShape.{option_map}
use Rattle.scheme_model.specs.Order.{Note, Pass, Transformer}
use Rattle.scheme_model.specs.Substitution.{definition_count, note_map}
use Rattle.scheme_model.specs.ScopedExpansion.{Frame, Bind, Enter, Frames, FramedIdent, BodyDefinition, UsePlace, ScopedMacro, macro_at}
use Rattle.scheme_model.specs.Questions.{Moment, Around, Question, LooksUp, UsesRules, Compares, IsAssigned, Requires, Defines, Answer, Means, Expands, Says, Ends, Asking}
use Rattle.scheme_model.specs.FormsAlike.{start}
use Rattle.renumbering_laws.specs.Moving.{move_named, move_rules}
use Rattle.renumbering_laws.specs.Renumbering.{Renumbering, number, ident, meaning, change, target, macro_use_as, pass_as}
use Rattle.renumbering_laws.specs.States.{defined_as, TablesMove, EntriesMove, CountsOn}

-- ---- frames, and what a form has made and found

abbrev pub new_frame : Renumbering → Frame → Frame
new_frame r (Bind x v) = Bind (ident r x) (number r v)
new_frame r (Enter b uses) = Enter (number r b) uses

abbrev pub new_frames : Renumbering → Frames → Frames
new_frames r fs = map (new_frame r) fs

abbrev pub new_framed : Renumbering → FramedIdent → FramedIdent
new_framed r p = record { frames = new_frames r p.frames; ident = ident r p.ident }

abbrev pub new_note : Renumbering → Note FramedIdent → Note FramedIdent
new_note r n = note_map (new_framed r) n

abbrev pub new_macro : Renumbering → Transformer Frames Ident → Transformer Frames Ident
new_macro r m = record { env = new_frames r m.env; rules = move_rules (change r) m.rules }

abbrev pub new_kept : Renumbering → ScopedMacro → ScopedMacro
new_kept r k = record { meaning = meaning r k.meaning; frames = new_frames r k.frames; rules = move_rules (change r) k.rules }

abbrev pub new_use : Renumbering → UsePlace → UsePlace
new_use r p = record { use_number = number r p.use_number; frames = new_frames r p.frames }

abbrev pub new_definition : Renumbering → BodyDefinition → BodyDefinition
new_definition r d = record { body = number r d.body; ident = ident r d.ident; binder = number r d.binder }

abbrev pub new_moment : Renumbering → Moment → Moment
new_moment r n = record {
  locals = n.locals;
  uses = n.uses;
  nodes = n.nodes;
  bodies = n.bodies;
  keywords = map (target r) n.keywords;
  met = map (macro_use_as r) n.met;
  table = map (defined_as r) n.table;
  macros = map (new_kept r) n.macros;
  places = map (new_use r) n.places;
  definitions = map (new_definition r) n.definitions;
}

-- ---- questions and answers

abbrev pub new_question : Renumbering → Question → Question
new_question r (LooksUp i) = LooksUp (ident r i)
new_question r (UsesRules m) = UsesRules (meaning r m)
new_question r (Compares l i) = Compares (ident r l) (ident r i)
new_question r (IsAssigned i) = IsAssigned (ident r i)
new_question r (Requires l) = Requires l
new_question r (Defines fs x rs ns) = Defines (new_frames r fs) (move_named (change r) x) (option_map (move_rules (change r)) rs) (map (new_note r) ns)

abbrev pub new_answer : Renumbering → Answer → Answer
new_answer r (Means m keyword) = Means (meaning r m) keyword
new_answer r (Expands m) = Expands (option_map (new_macro r) m)
new_answer r (Says b) = Says b
new_answer r (Ends o) = Ends o

abbrev pub new_asked : Renumbering → Moment × Question → Moment × Question
new_asked r q = (new_moment r q.0, new_question r q.1)

-- the moment that a form went to, and its questions by then
abbrev pub new_asking : Renumbering → Asking → Asking
new_asking r s = record { moment = new_moment r s.moment; asked = map (new_asked r) s.asked }

-- what it set aside and noted
abbrev pub new_pass : Renumbering → Pass Ident FramedIdent → Pass Ident FramedIdent
new_pass r p = pass_as r (ident r) (new_framed r) p

-- ---- surroundings

-- all that answers tell of them is the same, renumbered
pub record AroundMoves (r : Renumbering) (w v : Around) : Type 0 where
  pub unit : v.state.unit ≡ r.unit w.state.unit
  pub form : v.state.form ≡ r.form w.state.unit w.state.form
  pub program : v.state.program ≡ w.state.program
  pub table : TablesMove r w.state.table v.state.table
  pub entry : EntriesMove r w.state.entry v.state.entry
  pub macros : (m : Meaning) → macro_at v.state.macros (meaning r m) ≡ option_map (new_macro r) (macro_at w.state.macros m)
  pub known : v.known ≡ w.known
  pub notes : v.notes ≡ map (new_note r) w.notes

-- a form's turn comes in both: so are what it has counted and met by then, and from the next definition of its unit on the numbers of
-- definitions are as the renumbering tells them
pub record TurnsMove (r : Renumbering) (w v : Around) : Type 0 where
  pub around : AroundMoves r w v
  pub begun : start v.state ≡ new_moment r (start w.state)
  pub counts : CountsOn r w.state.unit (definition_count w.state.table w.state.unit) (definition_count v.state.table v.state.unit)
