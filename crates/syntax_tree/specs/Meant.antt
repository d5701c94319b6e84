-- What the meanings and the entries of the code stand for.
use Rattle.std.specs.Prelude.{◌≡◌, ℕ, List, [], ◌∷◌, slice_get, Option, Some, None}
use Rattle.scheme_model.specs.declared.Occ.{Occ}
use Rattle.scheme_model.specs.Meaning.{Meaning, Local, Global, Standard, Free}
use Rattle.scheme_model.specs.Entries.{Source, At, StandardName, Origin, Entry}
use Rattle.syntax_tree.specs.Names.{Names}
use Rattle.syntax_tree.specs.Macros.{IsIdent}
use Rattle.syntax_tree.specs.declared.meaning.Meaning as code_meaning
use Rattle.syntax_tree.specs.declared.meaning.Meaning.TheVariants as code
use Rattle.syntax_tree.specs.declared.units.Origin as code_origin
use Rattle.syntax_tree.specs.declared.units.Entry as code_entry

-- the number of a symbol
abbrev pub IsSymbol : Names → ℕ → List ℕ → Type 0
IsSymbol names n s = slice_get names.symbols n ≡ Some s

-- a meaning of the code, whose locals are those of a form of a unit
abbrev pub IsMeaning : Names → (unit form : ℕ) → code_meaning.Meaning → Meaning → Type 0
IsMeaning names unit form (code.Local n) m = m ≡ Local (record { unit = unit; form = form; count = n })
IsMeaning names unit form (code.Global u n) (Local v) = ⊥
IsMeaning names unit form (code.Global u n) (Global w i) = (u ≡ w) × IsIdent names n i
IsMeaning names unit form (code.Global u n) (Standard s) = ⊥
IsMeaning names unit form (code.Global u n) (Free s) = ⊥
IsMeaning names unit form (code.Standard n) (Local v) = ⊥
IsMeaning names unit form (code.Standard n) (Global w i) = ⊥
IsMeaning names unit form (code.Standard n) (Standard s) = IsSymbol names n s
IsMeaning names unit form (code.Standard n) (Free s) = ⊥
IsMeaning names unit form (code.Free n) (Local v) = ⊥
IsMeaning names unit form (code.Free n) (Global w i) = ⊥
IsMeaning names unit form (code.Free n) (Standard s) = ⊥
IsMeaning names unit form (code.Free n) (Free s) = IsSymbol names n s

-- ---- entries

-- a name that a unit gives has no local meaning, whatever the form
abbrev pub IsGivenMeaning : Names → code_meaning.Meaning → Meaning → Type 0
IsGivenMeaning names m n = (unit form : ℕ) → IsMeaning names unit form m n

-- what spells an entry of this meaning
abbrev pub IsSource : Meaning → Option Occ → Source → Type 0
IsSource m (Some o) s = s ≡ At o
IsSource (Local v) None s = ⊥
IsSource (Global u i) None s = ⊥
IsSource (Standard t) None s = s ≡ StandardName t
IsSource (Free t) None s = ⊥

abbrev pub IsOrigin : Meaning → code_origin.Origin → Origin → Type 0
IsOrigin m o p = IsSource m o.occ p.source × (o.prefix ≡ p.prefix)

abbrev pub AreOrigins : Meaning → List code_origin.Origin → List Origin → Type 0
AreOrigins m [] [] = Unit {0}
AreOrigins m [] (p ∷ ps) = ⊥
AreOrigins m (o ∷ os) [] = ⊥
AreOrigins m (o ∷ os) (p ∷ ps) = IsOrigin m o p × AreOrigins m os ps

pub record IsEntry (names : Names) (e : code_entry.Entry) (d : Entry) : Type 0 where
  pub name : e.name ≡ d.name
  pub meaning : IsGivenMeaning names e.meaning d.meaning
  pub origins : AreOrigins d.meaning e.origins d.origins

abbrev pub AreEntries : Names → List code_entry.Entry → List Entry → Type 0
AreEntries names [] [] = Unit {0}
AreEntries names [] (d ∷ ds) = ⊥
AreEntries names (e ∷ es) [] = ⊥
AreEntries names (e ∷ es) (d ∷ ds) = IsEntry names e d × AreEntries names es ds
