-- Pattern variables by number, and what arrows they give (R7RS 4.3.2).
use Rattle.std.specs.Prelude.{ℕ, List, [], ◌∷◌, ◌++◌, ◌==◌, Bool, Option, Some, None, if◌then◌else◌}
use Rattle.std.specs.List.{flat_map}
use Rattle.scheme_model.specs.declared.Occ.{Occ}
use Rattle.scheme_model.specs.ExpansionFaults.{Named}
use Rattle.scheme_model.specs.RulesShape.{Role, IsLiteral, IsEllipsis, IsAny, IsVariable}
use Rattle.scheme_model.specs.Meaning.{Meaning}
use Rattle.scheme_model.specs.Live as live
use Rattle.scheme_model.specs.Live.{CoreLeaf}
use Rattle.scheme_model.specs.ProgramArrows.{Arrow, arrow_of, rule_arrows, leaf_arrows}
use Rattle.syntax_tree.specs.declared.rules.Named as code

-- a name, where its role is that of a variable
abbrev pub if_variable : {A : Type 0} → Role → Named A → List (Named A)
if_variable IsLiteral n = []
if_variable IsEllipsis n = []
if_variable IsAny n = []
if_variable IsVariable n = n ∷ []

-- the variables among names
abbrev pub chosen : {A : Type 0} → (A → Role) → List (Named A) → List (Named A)
chosen role ns = flat_map (λ n. if_variable (role n.name) n) ns

-- where the first of these with a number stands
abbrev pub place_among : List code.Named → ℕ → Option (Option Occ)
place_among [] n = None
place_among (v ∷ vs) n = if v.ident == n then Some v.occ else place_among vs n

-- the arrows that a leaf of a core gives
abbrev pub arrows_at : (Meaning → Option Occ) → (Option Occ → Bool) → CoreLeaf → List Arrow
arrows_at binder is_live (live.Binds b) = []
arrows_at binder is_live (live.Uses t) = arrow_of (binder t.meaning) t.occ
arrows_at binder is_live (live.Assigns t) = arrow_of (binder t.meaning) t.occ
arrows_at binder is_live (live.Quotes o) = []
arrows_at binder is_live (live.Defines m) = rule_arrows m.rules m.rules.rules ++ leaf_arrows binder is_live m.leaves

abbrev pub all_arrows_at : (Meaning → Option Occ) → (Option Occ → Bool) → List CoreLeaf → List Arrow
all_arrows_at binder is_live ls = flat_map (arrows_at binder is_live) ls
