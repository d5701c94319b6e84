-- What is local to the forms of units, and is forgotten between two of them (R7RS 4.3, 5.3).
use Rattle.std.specs.Prelude.{◌≡◌, ℕ, ◌+◌, ◌≤◌, ◌<◌, List, [], ◌∷◌, length, false, Some, None}
use Rattle.std.specs.FinMap.{get}
use Rattle.scheme_model.specs.Identifiers.{Number}
use Rattle.scheme_model.specs.Meaning.{Meaning, Local}
use Rattle.scheme_model.specs.Ident.{Ident}
use Rattle.scheme_model.specs.Order.{Note, LookedUp, Compared, Transformer}
use Rattle.scheme_model.specs.ScopedExpansion.{Frames, FramedIdent, ScopedState, macro_at}
use Rattle.scope_env.specs.Environment.{without_locals}
use Rattle.form_notes.specs.Noted.{is_local}
use Rattle.unit_scopes.specs.declared.asked.Asked.{Asked}
use Rattle.unit_scopes.specs.declared.macros.Macros.{Macros}
use Rattle.unit_scopes.specs.declared.scope.UnitScope.{UnitScope}

-- ---- in the definition

-- what units define and import and their macros are the same in t, and nothing local is there
pub record ForgetsLocals (s t : ScopedState) : Type 0 where
  pub unit : t.unit ≡ s.unit
  pub program : t.program ≡ s.program
  pub table : t.table ≡ s.table
  pub entry : t.entry ≡ s.entry
  pub macros : (m : Meaning) → is_local m ≡ false → macro_at t.macros m ≡ macro_at s.macros m
  pub locals : (v : Number) → macro_at t.macros (Local v) ≡ None
  pub places : t.places ≡ []
  pub definitions : t.definitions ≡ []

-- what isn't local stands outside of all frames: macros, and what was asked
abbrev pub MacrosAtRoot : ScopedState → Type 0
MacrosAtRoot s = (m : Meaning) (k : Transformer Frames Ident) → is_local m ≡ false → macro_at s.macros m ≡ Some k → k.env ≡ []

abbrev pub IsAtRoot : Note FramedIdent → Type 0
IsAtRoot (LookedUp p head keyword) = p.frames ≡ []
IsAtRoot (Compared p q held) = (p.frames ≡ []) × (q.frames ≡ [])

abbrev pub AreAtRoot : List (Note FramedIdent) → Type 0
AreAtRoot [] = Unit {0}
AreAtRoot (n ∷ ns) = IsAtRoot n × AreAtRoot ns

-- ---- in the code

-- each scope is a unit's own
abbrev pub AllOwn : UnitScope → Type 0
AllOwn u = (n : ℕ) → n < length u.env.scopes → (v : ℕ) × (get u.env.roots v ≡ Some n)

-- up to that of the open unit each scope is a unit's own, and all others are local
pub record OwnFirst (u : UnitScope) : Type 0 where
  pub older : (n : ℕ) → n ≤ u.root → (v : ℕ) × (get u.env.roots v ≡ Some n)
  pub newest : (v n : ℕ) → get u.env.roots v ≡ Some n → n ≤ u.root

-- without local scopes, and with these macros and notes
abbrev pub without_local_scopes : UnitScope → Macros → Asked → UnitScope
without_local_scopes u macros asked = record u { env = without_locals u.env (u.root + 1); macros = macros; asked = asked }
