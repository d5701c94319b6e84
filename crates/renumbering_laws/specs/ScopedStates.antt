-- States of expansion by scopes that correspond.
use Rattle.std.specs.Prelude.{◌≡◌, ℕ, List, map, Option}
use Rattle.scheme_model.specs.Ident.{Ident}
use Rattle.scheme_model.specs.Identifiers.{Number}
use Rattle.scheme_model.specs.Meaning.{Meaning}
use Rattle.scheme_model.specs.RulesShape.{option_map}
use Rattle.scheme_model.specs.Order.{Pending, Pass, Transformer}
use Rattle.scheme_model.specs.Substitution.{definition_count}
use Rattle.scheme_model.specs.ScopedExpansion.{Frame, Bind, Enter, Frames, FramedIdent, BodyDefinitions, UsePlace, ScopedMacro, ScopedState, around, find, macro_at}
use Rattle.renumbering_laws.specs.Moving.{move_rules}
use Rattle.renumbering_laws.specs.Renumbering.{Renumbering, number, ident, meaning, change, target, macro_use_as, pending_as, pass_as}
use Rattle.renumbering_laws.specs.States.{AtForms, ClocksMove, TablesMove, EntriesMove, CountsOn, DefinedAlike}

-- the old number of a form by its new one; needed as a body keeps how many uses each form had begun
pub record IsOnto (r : Renumbering) : Type 0 where
  pub back : (unit form : ℕ) → ℕ
  pub there : (u f : ℕ) → r.form u (back u f) ≡ f
  pub here : (u f : ℕ) → back u (r.form u f) ≡ f

module _ (r : Renumbering) (w : IsOnto r) where
  -- ---- frames

  abbrev pub frame_as : Frame → Frame
  frame_as (Bind x v) = Bind (ident r x) (number r v)
  frame_as (Enter b c) = Enter (number r b) (λ f. c (w.back b.unit f))

  abbrev pub frames_as : Frames → Frames
  frames_as fs = map frame_as fs

  abbrev pub framed_as : FramedIdent → FramedIdent
  framed_as l = record { frames = frames_as l.frames; ident = ident r l.ident }

  -- what is pending of a unit or a body, and what is left of it
  abbrev pub scoped_pending : Pending Ident FramedIdent → Pending Ident FramedIdent
  scoped_pending p = pending_as r (ident r) framed_as p

  abbrev pub scoped_pass : Pass Ident FramedIdent → Pass Ident FramedIdent
  scoped_pass p = pass_as r (ident r) framed_as p

  abbrev pub transformer_as : Transformer Frames Ident → Transformer Frames Ident
  transformer_as m = record { env = frames_as m.env; rules = move_rules (change r) m.rules }

  -- ---- what is found

  -- the frames around the macro of each use
  abbrev pub PlacesMove : List UsePlace → List UsePlace → Type 0
  PlacesMove ps qs = (k : Number) → around qs (number r k) ≡ frames_as (around ps k)

  abbrev pub ScopedMacrosMove : List ScopedMacro → List ScopedMacro → Type 0
  ScopedMacrosMove ks ls = (m : Meaning) → macro_at ls (meaning r m) ≡ option_map transformer_as (macro_at ks m)

  abbrev pub found_number : Option (Number × BodyDefinitions) → Option Number
  found_number o = option_map (λ (q : Number × BodyDefinitions). q.0) o

  -- the local that a body defines
  abbrev pub FindsMove : BodyDefinitions → BodyDefinitions → Type 0
  FindsMove ds es = (b : Number) (i : Ident) → found_number (find es (number r b) (ident r i)) ≡ option_map (number r) (found_number (find ds b i))

  -- ---- states

  -- at work on this unit
  pub record ScopedMove (u : ℕ) (s s' : ScopedState) : Type 0 where
    pub at : s.unit ≡ u
    pub unit : s'.unit ≡ r.unit s.unit
    pub program : s'.program ≡ s.program
    pub form : s'.form ≡ r.form s.unit s.form
    pub locals : ClocksMove r s.unit s.locals s'.locals
    pub uses : s'.uses ≡ (λ f. s.uses (w.back s.unit f))
    pub nodes : ClocksMove r s.unit s.nodes s'.nodes
    pub bodies : ClocksMove r s.unit s.bodies s'.bodies
    pub keywords : AtForms r s.unit (map (target r)) s.keywords s'.keywords
    pub met : AtForms r s.unit (map (macro_use_as r)) s.met s'.met
    pub table : TablesMove r s.table s'.table
    pub counts : CountsOn r s.unit (definition_count s.table s.unit) (definition_count s'.table s'.unit)
    pub entry : EntriesMove r s.entry s'.entry
    pub macros : ScopedMacrosMove s.macros s'.macros
    pub places : PlacesMove s.places s'.places
    pub definitions : FindsMove s.definitions s'.definitions

  -- between forms: whichever form work turns to
  abbrev pub ScopedRest : ℕ → ScopedState → ScopedState → Type 0
  ScopedRest u s s' = (f : ℕ) → ScopedMove u (record s { form = f }) (record s' { form = r.form u f })

  -- where work from s and s' on went
  abbrev pub ScopedGo : ℕ → ScopedState → ScopedState → ScopedState → ScopedState → Type 0
  ScopedGo u s s' t t' = ScopedMove u t t' × DefinedAlike r s.table s'.table t.table t'.table

  abbrev pub ScopedGoRest : ℕ → ScopedState → ScopedState → ScopedState → ScopedState → Type 0
  ScopedGoRest u s s' t t' = ScopedRest u t t' × DefinedAlike r s.table s'.table t.table t'.table
