-- What the fault of a broken form stands for, and what was met in it.
use Rattle.std.specs.Prelude.{◌≡◌, ℕ, Option, Some, None}
use Rattle.scheme_model.specs.Ident.{Ident as Identifier}
use Rattle.scheme_model.specs.ExpansionFaults.{Named, fault_code, fault_name, error_text}
use Rattle.scheme_model.specs.Steps.{Broken}
use Rattle.scheme_model.specs.Diagnostics.{named_occ}
use Rattle.syntax_tree.specs.Names.{Names}
use Rattle.syntax_tree.specs.Macros.{IsIdent}
use Rattle.core_tree.specs.declared.traces.FormFault as code

-- the number of the identifier that a fault names
abbrev pub IsNamedBy : Names → Option ℕ → Option (Named Identifier) → Type 0
IsNamedBy names None None = Unit {0}
IsNamedBy names None (Some i) = ⊥
IsNamedBy names (Some n) None = ⊥
IsNamedBy names (Some n) (Some i) = IsIdent names n i.name

-- a fault of a form, where what it names stands, and where the form was read
pub record IsFault (names : Names) (e : code.FormFault) (b : Broken) : Type 0 where
  pub code : e.code ≡ fault_code b.fault
  pub name : IsNamedBy names e.name (fault_name b.fault)
  pub place : e.occ ≡ named_occ (fault_name b.fault)
  pub here : e.here ≡ b.here
  pub text : e.text ≡ error_text b.fault
