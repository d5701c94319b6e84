-- Counts within their budgets, and faults, as the code has them.
use Rattle.std.specs.Prelude.{◌≡◌, ◌⊎◌, ℕ, ◌+◌, ◌≤◌, ◌<◌, Option, Some, None, Result, Ok, Err}
use Rattle.scheme_model.specs.declared.Occ.{Occ}
use Rattle.core_forms.specs.declared.shape.NamePart.{NamePart}
use Rattle.feature_requirements.specs.declared.fault.ExpandFault.{ExpandFault}
use Rattle.feature_requirements.specs.declared.fault.ExpandFault.TheVariants as fault
use Rattle.unit_scopes.specs.declared.scope.UnitScope.{UnitScope}
use Rattle.feature_requirements.specs.Faults.{plain_fault}

-- a fault that names an identifier, where the form was read
abbrev pub named_fault : Option Occ → ℕ → NamePart → ExpandFault
named_fault here code n = fault.At (record { code = code; name = Some n.ident; occ = n.occ; here = here; text = None })

-- with more nodes counted
abbrev pub with_nodes : UnitScope → ℕ → UnitScope
with_nodes u n = record u { form = record u.form { budget = record u.form.budget { nodes = u.form.budget.nodes + n } } }

-- nodes are counted, maybe none, and nothing else is done
abbrev pub CountsSome : UnitScope → UnitScope → Type 0
CountsSome old new = (n : ℕ) × (old.form.budget.nodes + n ≤ 200000) × (new ≡ with_nodes old n)

-- nodes are counted, or they would be too many
abbrev pub Counts : UnitScope → UnitScope → Option Occ → ℕ → Result (Unit {0}) ExpandFault → Type 0
Counts old new here n (Ok u) = (old.form.budget.nodes + n ≤ 200000) × (new ≡ with_nodes old n)
Counts old new here n (Err e) = (200000 < old.form.budget.nodes + n) × (new ≡ old) × (e ≡ plain_fault here 45)

-- a node would be too deep, or too many nodes would be counted
abbrev pub FailsToBegin : UnitScope → Option Occ → ℕ → ℕ → ExpandFault → Type 0
FailsToBegin old here n depth e = ((depth ≡ 0) × (e ≡ plain_fault here 46)) ⊎ ((0 < depth) × (200000 < old.form.budget.nodes + n) × (e ≡ plain_fault here 45))

abbrev pub Begins : UnitScope → UnitScope → Option Occ → ℕ → ℕ → Result ℕ ExpandFault → Type 0
Begins old new here n depth (Ok below) = (depth ≡ below + 1) × (old.form.budget.nodes + n ≤ 200000) × (new ≡ with_nodes old n)
Begins old new here n depth (Err e) = (new ≡ old) × FailsToBegin old here n depth e
