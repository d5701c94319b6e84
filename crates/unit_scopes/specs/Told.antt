-- The faults of forms that were misread, and of rules that are none, as the definition tells them.
use Rattle.std.specs.Prelude.{◌≡◌, ℕ, Option, Some, None, Result, Err}
use Rattle.std.specs.Option.{option_map}
use Rattle.scheme_model.specs.declared.Occ.{Occ}
use Rattle.scheme_model.specs.ExpansionFaults.{named, Fault, BadRules, TwoEllipses, DuplicateVariable, EllipsisDepth, IdleEllipsis, BadForm, DuplicateBinder, BadPlace, BadRecord, BadQuasi, fault_code, fault_name}
use Rattle.scheme_model.specs.Diagnostics.{named_occ}
use Rattle.scheme_model.specs.Ident.{Ident as Identifier}
use Rattle.syntax_tree.specs.Names.{Names}
use Rattle.core_forms.specs.declared.fault.CoreFault.{CoreFault}
use Rattle.core_forms.specs.declared.fault.CoreFault.TheVariants as core
use Rattle.rules_check.specs.declared.fault.RulesFault.{RulesFault}
use Rattle.rules_check.specs.declared.fault.RulesFault.TheVariants as rules
use Rattle.core_tree.specs.Traces.{IsFault}
use Rattle.feature_requirements.specs.declared.fault.ExpandFault.{ExpandFault}
use Rattle.feature_requirements.specs.declared.fault.ExpandFault.TheVariants as fault

-- the faults of the definition, with identifiers by number; want of memory is none
abbrev pub core_fault : CoreFault → Option (Fault ℕ)
core_fault core.BadForm = Some BadForm
core_fault (core.DuplicateBinder n) = Some (DuplicateBinder (named n.ident n.occ))
core_fault core.BadPlace = Some BadPlace
core_fault core.BadRecord = Some BadRecord
core_fault core.BadQuasi = Some BadQuasi
core_fault core.Memory = None

abbrev pub rules_fault : RulesFault → Option (Fault ℕ)
rules_fault rules.BadShape = Some BadRules
rules_fault rules.TwoEllipses = Some TwoEllipses
rules_fault (rules.DuplicateVariable n) = Some (DuplicateVariable (named n.ident n.occ))
rules_fault (rules.Depth n) = Some (EllipsisDepth (named n.ident n.occ))
rules_fault rules.IdleEllipsis = Some IdleEllipsis
rules_fault rules.Memory = None

-- a fault as it is told, or want of memory
abbrev pub told : (here : Option Occ) → Option (Fault ℕ) → ExpandFault
told here None = fault.Memory
told here (Some f) = fault.At (record { code = fault_code f; name = option_map (λ n. n.name) (fault_name f); occ = named_occ (fault_name f); here = here; text = None })

-- what the code tells is the fault of the definition
abbrev pub Tells : {Y : Type 0} → Names → Option Occ → ExpandFault → Result Y (Fault Identifier) → Type 0
Tells names here (fault.At e) r = (b : Fault Identifier) × (r ≡ Err b) × IsFault names e (record { fault = b; here = here })
Tells names here fault.Full r = ⊥
Tells names here fault.Memory r = Unit {0}
