-- The binders that frames are: a body is those that it has defined by now.
use Rattle.std.specs.Prelude.{ℕ, ◌==◌, [], ◌∷◌, ◌++◌, Option, None, if◌then◌else◌}
use Rattle.scheme_model.specs.Ident.{Ident as Identifier, Written, Inserted}
use Rattle.scheme_model.specs.Meaning.{Meaning}
use Rattle.scheme_model.specs.Identifiers.{Number, same_number}
use Rattle.scheme_model.specs.Scopes.{Chain, Uses, Own, defined_or}
use Rattle.scheme_model.specs.Substitution.{Entries, defined_in}
use Rattle.scheme_model.specs.ScopedExpansion.{Bind, Enter, Frames, BodyDefinitions, ScopedState, around}

-- what a body has defined, latest first
abbrev pub body_chain : BodyDefinitions → Number → Chain
body_chain [] b = []
body_chain (d ∷ ds) b = if same_number d.body b then record { ident = d.ident; binder = d.binder } ∷ body_chain ds b else body_chain ds b

abbrev pub chain_of : BodyDefinitions → Frames → Chain
chain_of ds [] = []
chain_of ds (Bind x v ∷ fs) = record { ident = x; binder = v } ∷ chain_of ds fs
chain_of ds (Enter b u ∷ fs) = body_chain ds b ++ chain_of ds fs

-- the binders around a place, and those around the macro of each use
abbrev pub chain_in : ScopedState → Frames → Chain
chain_in s fs = chain_of s.definitions fs

abbrev pub uses_in : ScopedState → Uses
uses_in s k = chain_in s (around s.places k)

-- a unit imports what is written in it alone
abbrev pub imported_in : Entries → ℕ → Identifier → Option Meaning
imported_in entry u (Written v x) = if u == v then entry u x else None
imported_in entry u (Inserted i k) = None

abbrev pub given_in : ScopedState → Own
given_in s u i = defined_or (defined_in s.table u i) u i (imported_in s.entry u i)
