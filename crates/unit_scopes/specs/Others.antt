-- What a step of a form leaves of the forms beside it: their counts, and what they met and defined.
use Rattle.std.specs.Prelude.{◌≡◌, ℕ, suc, ◌≤◌, ◌<◌, List, [], ◌∷◌, ◌++◌}
use Rattle.scheme_model.specs.Meaning.{Meaning, Local, Global, Standard, Free}
use Rattle.scheme_model.specs.Substitution.{Defined}
use Rattle.scheme_model.specs.ScopedExpansion.{ScopedMacro, ScopedState}

-- this holds of each of a list
abbrev pub Each : {X : Type 0} → (X → Type 0) → List X → Type 0
Each P [] = Unit {0}
Each P (x ∷ xs) = P x × Each P xs

-- things were put in front of a list, and this holds of each
pub record InFront {X : Type 0} (P : X → Type 0) (old new : List X) : Type 0 where
  pub front : List X
  pub each : Each P front
  pub whole : new ≡ front ++ old

-- a form has counted and met no more
pub record CountsStay (form : ℕ) (s t : ScopedState) : Type 0 where
  pub locals : t.locals form ≡ s.locals form
  pub uses : t.uses form ≡ s.uses form
  pub nodes : t.nodes form ≡ s.nodes form
  pub bodies : t.bodies form ≡ s.bodies form
  pub keywords : t.keywords form ≡ s.keywords form
  pub met : t.met form ≡ s.met form

-- a definition of this form of this unit
abbrev pub IsOf : (unit form : ℕ) → Defined → Type 0
IsOf unit form d = (d.unit ≡ unit) × (d.form ≡ form)

-- what is local, or defined by this unit
abbrev pub IsOwn : (unit : ℕ) → Meaning → Type 0
IsOwn unit (Local v) = Unit {0}
IsOwn unit (Global u i) = u ≡ unit
IsOwn unit (Standard x) = ⊥
IsOwn unit (Free x) = ⊥

abbrev pub IsOwnMacro : (unit : ℕ) → ScopedMacro → Type 0
IsOwnMacro unit k = IsOwn unit k.meaning

-- after a step of a form all others are as they were; in front of the table stand definitions of this form alone, and macros that
-- are new are local or of the unit at work
pub record OthersStay (form : ℕ) (s t : ScopedState) : Type 0 where
  pub unit : t.unit ≡ s.unit
  pub program : t.program ≡ s.program
  pub entry : t.entry ≡ s.entry
  pub counts : (m : ℕ) → (m ≡ form → ⊥) → CountsStay m s t
  pub table : InFront (IsOf s.unit form) s.table t.table
  pub macros : InFront (IsOwnMacro s.unit) s.macros t.macros

-- things of forms from one on, each of no later form than the one before it
abbrev pub InOrder : {X : Type 0} → (X → ℕ) → (first behind : ℕ) → List X → Type 0
InOrder of first behind [] = Unit {0}
InOrder of first behind (x ∷ xs) = (first ≤ of x) × (of x < behind) × InOrder of first (suc (of x)) xs
