-- Names by scopes (R7RS 4.3): what an identifier has become after the substitutions of the binders around it, and what it means
-- by the innermost scope that binds it.
use Rattle.std.specs.Prelude.{◌≡◌, ℕ, List, [], ◌∷◌, true, Option, Some, None, if◌then◌else◌}
use Rattle.scheme_model.specs.Identifiers.{Number, Name, Written as WrittenName, Inserted as InsertedName, Var}
use Rattle.scheme_model.specs.Ident.{Ident, Written, Inserted, same_ident}
use Rattle.scheme_model.specs.Trees.{Tree, map_tree}
use Rattle.scheme_model.specs.Meaning.{Meaning, Local, Global, Free}
use Rattle.scheme_model.specs.Order.{is_some}
use Rattle.scheme_model.specs.Substitution.{Table, Entries, defined_in, Defined, is_plain, shallow}

-- a binder: the identifier that it binds in its region, and its number
pub record Bound : Type 0 where
  pub ident : Ident
  pub binder : Number

-- the binders around a place, the innermost first
abbrev pub Chain : Type 0
Chain = List Bound

-- the binders around the macro of each use, where it was defined
abbrev pub Uses : Type 0
Uses = Number → Chain

-- ---- what an identifier has become

-- under these binders, where nothing around them binds it; it is this name outside
abbrev pub under : Chain → Name → Ident → Name
under [] outside i = outside
under (b ∷ bs) outside i = if same_ident b.ident i then Var b.binder (under bs outside i) else under bs outside i

-- outside all binders of its region; what a use inserted was under the binders around the macro
abbrev pub outside : Uses → Ident → Name
outside uses (Written u s) = WrittenName u s
outside uses (Inserted i k) = InsertedName (under (uses k) (outside uses i) i) k

abbrev pub image : Uses → Chain → Ident → Name
image uses c i = under c (outside uses i) i

-- a tree after the substitutions of these binders, from the outermost on, each through the whole region
abbrev pub substituted : Uses → Chain → Tree Ident → Tree Name
substituted uses [] t = map_tree (outside uses) t
substituted uses (b ∷ bs) t = map_tree (shallow (image uses bs b.ident) b.binder) (substituted uses bs t)

-- no binder is around the macros whose uses inserted what units define
abbrev pub AreOutside : Table → Uses → Type 0
AreOutside table uses = (u : ℕ) (i : Ident) → is_some (defined_in table u i) ≡ true → is_plain (outside uses i) ≡ true

-- ---- what it means

-- the innermost binder of exactly this identifier
abbrev pub found : Chain → Ident → Option Number
found [] i = None
found (b ∷ bs) i = if same_ident b.ident i then Some b.binder else found bs i

-- what the scope of each unit gives: its definitions and its imports
abbrev pub Own : Type 0
Own = ℕ → Ident → Option Meaning

abbrev pub imported_as : Entries → ℕ → Ident → Option Meaning
imported_as entry u (Written v s) = entry u s
imported_as entry u (Inserted i k) = None

abbrev pub defined_or : Option Defined → ℕ → Ident → Option Meaning → Option Meaning
defined_or (Some d) u i other = Some (Global u i)
defined_or None u i other = other

abbrev pub own_of : Table → Entries → Own
own_of table entry u i = defined_or (defined_in table u i) u i (imported_as entry u i)

abbrev pub given_or : Option Meaning → Meaning → Meaning
given_or (Some m) other = m
given_or None other = other

abbrev pub local_or : Option Number → Meaning → Meaning
local_or (Some v) other = Local v
local_or None other = other

-- where no binder around it binds it: what its unit gives under exactly this identifier; else a written symbol is free, and what
-- a use inserted means what it means where the macro was defined
abbrev pub beyond : Own → Uses → Ident → Meaning
beyond own uses (Written u s) = given_or (own u (Written u s)) (Free s)
beyond own uses (Inserted i k) = given_or (own k.unit (Inserted i k)) (local_or (found (uses k) i) (beyond own uses i))

abbrev pub means : Own → Uses → Chain → Ident → Meaning
means own uses c i = local_or (found c i) (beyond own uses i)
