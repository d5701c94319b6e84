-- States of expansion by substitution that correspond: what one has under old numbers, the other has under new ones.
use Rattle.std.specs.Prelude.{◌≡◌, ℕ, ◌+◌, List, ◌++◌, map, false}
use Rattle.scheme_model.specs.Ident.{Ident}
use Rattle.scheme_model.specs.Identifiers.{Name}
use Rattle.scheme_model.specs.Meaning.{Meaning}
use Rattle.scheme_model.specs.RulesShape.{option_map}
use Rattle.scheme_model.specs.Order.{Pending, Pass}
use Rattle.scheme_model.specs.Substitution.{KeptMacro, Defined, defined_in, definition_count, Table, Entries, Clock, State, rules_at}
use Rattle.renumbering_laws.specs.Moving.{Change, move_rules}
use Rattle.renumbering_laws.specs.Renumbering.{Renumbering, number, place, ident, named_as, meaning, with_places, target, macro_use_as, pending_as, pass_as}

abbrev pub defined_as : Renumbering → Defined → Defined
defined_as r d = record { unit = r.unit d.unit; form = r.form d.unit d.form; ident = ident r d.ident; keyword = d.keyword; occ = place r d.occ }

-- what is pending of a unit or a body, and what is left of it
abbrev pub named_pending : Renumbering → Pending Name Name → Pending Name Name
named_pending r p = pending_as r (named_as r) (named_as r) p

abbrev pub named_pass : Renumbering → Pass Name Name → Pass Name Name
named_pass r p = pass_as r (named_as r) (named_as r) p

-- each name with its place
abbrev pub names_change : Renumbering → Change Name Name
names_change r = with_places r (named_as r)

-- what each form of a unit has is what it has under its new number
abbrev pub AtForms : {X Y : Type 0} → Renumbering → ℕ → (X → Y) → (ℕ → X) → (ℕ → Y) → Type 0
AtForms r u g c d = (f : ℕ) → d (r.form u f) ≡ g (c f)

abbrev pub ClocksMove : Renumbering → ℕ → Clock → Clock → Type 0
ClocksMove r u c d = (f : ℕ) → d (r.form u f) ≡ c f

-- each unit defines the same, in whatever order units come
abbrev pub TablesMove : Renumbering → Table → Table → Type 0
TablesMove r t t' = (u : ℕ) (i : Ident) → defined_in t' (r.unit u) (ident r i) ≡ option_map (defined_as r) (defined_in t u i)

abbrev pub EntriesMove : Renumbering → Entries → Entries → Type 0
EntriesMove r e e' = (u : ℕ) (x : List ℕ) → e' (r.unit u) x ≡ option_map (meaning r) (e u x)

-- the rules of each macro
abbrev pub MacrosMove : Renumbering → List KeptMacro → List KeptMacro → Type 0
MacrosMove r ks ks' = (m : Meaning) → rules_at ks' (meaning r m) ≡ option_map (move_rules (names_change r)) (rules_at ks m)

-- from the next definition of a unit on, the numbers of its definitions are as the renumbering tells them
abbrev pub CountsOn : Renumbering → ℕ → ℕ → ℕ → Type 0
CountsOn r u n n' = (m : ℕ) → n' + m ≡ r.definition u (n + m)

-- at work on this unit
pub record StatesMove (r : Renumbering) (u : ℕ) (s s' : State) : Type 0 where
  pub at : s.unit ≡ u
  pub unit : s'.unit ≡ r.unit s.unit
  pub program : s'.program ≡ s.program
  pub form : s'.form ≡ r.form s.unit s.form
  pub locals : ClocksMove r s.unit s.locals s'.locals
  pub uses : ClocksMove r s.unit s.uses s'.uses
  pub nodes : ClocksMove r s.unit s.nodes s'.nodes
  pub bodies : ClocksMove r s.unit s.bodies s'.bodies
  pub keywords : AtForms r s.unit (map (target r)) s.keywords s'.keywords
  pub met : AtForms r s.unit (map (macro_use_as r)) s.met s'.met
  pub table : TablesMove r s.table s'.table
  pub counts : CountsOn r s.unit (definition_count s.table s.unit) (definition_count s'.table s'.unit)
  pub entry : EntriesMove r s.entry s'.entry
  pub macros : MacrosMove r s.macros s'.macros
  pub in_body : s'.in_body ≡ s.in_body
  pub mine : s'.mine ≡ map (number r) s.mine

-- what was defined since these tables, latest first: the same, renumbered
pub record DefinedAlike (r : Renumbering) (from from' t t' : Table) : Type 0 where
  pub added : List Defined
  pub here : t ≡ added ++ from
  pub there : t' ≡ map (defined_as r) added ++ from'

-- between forms: whichever form work turns to
abbrev pub StatesRest : Renumbering → ℕ → State → State → Type 0
StatesRest r u s s' = (f : ℕ) → StatesMove r u (record s { form = f; in_body = false }) (record s' { form = r.form u f; in_body = false })

-- where work from s and s' on went
abbrev pub StatesGo : Renumbering → ℕ → State → State → State → State → Type 0
StatesGo r u s s' t t' = StatesMove r u t t' × DefinedAlike r s.table s'.table t.table t'.table

abbrev pub StatesGoRest : Renumbering → ℕ → State → State → State → State → Type 0
StatesGoRest r u s s' t t' = StatesRest r u t t' × DefinedAlike r s.table s'.table t.table t'.table
