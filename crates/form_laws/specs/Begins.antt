-- What a form of a unit may begin in (R7RS 5.1): nothing stands yet under the numbers that it is to count, and what stands in it was
-- inserted, if at all, by macro uses outside all frames.
use Rattle.std.specs.Prelude.{◌≡◌, ℕ, List, [], ◌∷◌, true, false, Option, Some, None, Result, Ok, Err}
use Rattle.scheme_model.specs.Identifiers.{Number}
use Rattle.scheme_model.specs.Ident.{Ident, Written, Inserted}
use Rattle.scheme_model.specs.Trees.{Tree, map_tree}
use Rattle.scheme_model.specs.Meaning.{Meaning, Local, Global, Standard, Free}
use Rattle.scheme_model.specs.RulesShape.{Rules, rules_map}
use Rattle.scheme_model.specs.Cores.{Bound, LocalNumber, Definition}
use Rattle.scheme_model.specs.Steps.{Broken}
use Rattle.scheme_model.specs.Order.{Item, Expression, Value, Function, Assigned, AssignedFunction, ValuesOf, Record, Macro, Note, LookedUp, Compared, WaitingUse, Left, is_some}
use Rattle.scheme_model.specs.Substitution.{Clock, defined_in, item_map, use_map}
use Rattle.scheme_model.specs.FrameImages.{is_before}
use Rattle.scheme_model.specs.ScopedExpansion.{FramedIdent, ScopedMacro, ScopedState, around, find, macro_at}
use Rattle.scheme_model.specs.Questions.{Around}
use Rattle.scheme_model.specs.FormsAlike.{start}

abbrev pub Each : {X : Type 0} → (X → Type 0) → List X → Type 0
Each P [] = Unit {0}
Each P (x ∷ xs) = P x × Each P xs

-- an identifier of which P holds
abbrev pub With : (Ident → Type 0) → Type 0
With P = (i : Ident) × P i

abbrev pub plain_of : {P : Ident → Type 0} → With P → Ident
plain_of p = p.0

-- P holds of each identifier in it
abbrev pub TreeWith : (Ident → Type 0) → Tree Ident → Type 0
TreeWith P t = (u : Tree (With P)) × (map_tree plain_of u ≡ t)

abbrev pub RulesWith : (Ident → Type 0) → Rules Ident → Type 0
RulesWith P r = (q : Rules (With P)) × (rules_map plain_of q ≡ r)

abbrev pub ItemWith : (Ident → Type 0) → Item Ident → Type 0
ItemWith P i = (j : Item (With P)) × (item_map plain_of j ≡ i)

abbrev pub UseWith : (Ident → Type 0) → WaitingUse Ident → Type 0
UseWith P u = (x : WaitingUse (With P)) × (use_map plain_of x ≡ u)

-- ---- numbers

-- a number that the unit at work has counted, and one that it has yet to count
abbrev pub IsCounted : ScopedState → Clock → Number → Type 0
IsCounted s clock k = is_before s.unit clock k ≡ true

abbrev pub IsToCome : ScopedState → Clock → Number → Type 0
IsToCome s clock k = is_before s.unit clock k ≡ false

-- ---- what stands in a unit

-- made by uses that are counted
abbrev pub IsMade : ScopedState → Ident → Type 0
IsMade s (Written u x) = Unit {0}
IsMade s (Inserted i k) = IsCounted s s.uses k × IsMade s i

-- each use that inserted it is counted, of a macro that no frame is around
abbrev pub IsRooted : ScopedState → Ident → Type 0
IsRooted s (Written u x) = Unit {0}
IsRooted s (Inserted i k) = (IsCounted s s.uses k × (around s.places k ≡ [])) × IsRooted s i

abbrev pub IsNoLocal : Meaning → Type 0
IsNoLocal (Local v) = ⊥
IsNoLocal (Global u i) = Unit {0}
IsNoLocal (Standard x) = Unit {0}
IsNoLocal (Free x) = Unit {0}

abbrev pub IsEntry : Option Meaning → Type 0
IsEntry None = Unit {0}
IsEntry (Some m) = IsNoLocal m

-- a macro that isn't local stands outside all frames
abbrev pub MacroStands : ScopedState → Meaning → ScopedMacro → Type 0
MacroStands s (Local v) k = Unit {0}
MacroStands s (Global u i) k = (k.frames ≡ []) × RulesWith (IsRooted s) k.rules
MacroStands s (Standard x) k = (k.frames ≡ []) × RulesWith (IsRooted s) k.rules
MacroStands s (Free x) k = (k.frames ≡ []) × RulesWith (IsRooted s) k.rules

pub record Begins (s : ScopedState) : Type 0 where
  pub bodies : (b : Number) → IsToCome s s.bodies b → (i : Ident) → find s.definitions b i ≡ None
  pub places : (k : Number) → IsToCome s s.uses k → around s.places k ≡ []
  pub locals : (v : Number) → IsToCome s s.locals v → macro_at s.macros (Local v) ≡ None
  pub defined : (u : ℕ) (i : Ident) → is_some (defined_in s.table u i) ≡ true → IsMade s i
  pub macros : Each (λ (k : ScopedMacro). MacroStands s k.meaning k) s.macros
  pub entries : (u : ℕ) (x : List ℕ) → IsEntry (s.entry u x)

-- ---- the form

abbrev pub PlaceStands : ScopedState → FramedIdent → Type 0
PlaceStands s l = (l.frames ≡ []) × IsRooted s l.ident

abbrev pub NoteStands : ScopedState → Note FramedIdent → Type 0
NoteStands s (LookedUp l head keyword) = PlaceStands s l
NoteStands s (Compared l j held) = PlaceStands s l × PlaceStands s j

-- a macro of the unit is defined in it
abbrev pub BindsInUnit : Bound → Type 0
BindsInUnit (LocalNumber v) = ⊥
BindsInUnit (Definition u n) = Unit {0}

abbrev pub MacroInUnit : Item Ident → Type 0
MacroInUnit (Expression x) = Unit {0}
MacroInUnit (Value b x) = Unit {0}
MacroInUnit (Function b here c) = Unit {0}
MacroInUnit (Assigned n x) = Unit {0}
MacroInUnit (AssignedFunction n here c) = Unit {0}
MacroInUnit (ValuesOf bs x) = Unit {0}
MacroInUnit (Record r) = Unit {0}
MacroInUnit (Macro b here) = BindsInUnit b.bound

-- a form that is gone through, behind the unit's forms that left these notes
pub record FormBegins (w : Around) (t : Tree Ident) : Type 0 where
  pub state : Begins w.state
  pub stands : TreeWith (IsRooted w.state) t
  pub notes : Each (NoteStands w.state) w.notes

-- what a form set aside, that is expanded
pub record LeftBegins (w : Around) (l : Left Ident) : Type 0 where
  pub state : Begins w.state
  pub uses : Each (UseWith (IsRooted w.state)) l.uses
  pub items : Each (ItemWith (IsRooted w.state)) l.items
  pub macros : Each MacroInUnit l.items

-- where it isn't broken
abbrev pub RestBegins : Around → Result (Left Ident) Broken → Type 0
RestBegins w (Ok l) = LeftBegins w l
RestBegins w (Err e) = Unit {0}

-- two surroundings of one form of a unit, which has counted the same in both
pub record SameForm (w v : Around) : Type 0 where
  pub unit : v.state.unit ≡ w.state.unit
  pub form : v.state.form ≡ w.state.form
  pub counts : start v.state ≡ start w.state
