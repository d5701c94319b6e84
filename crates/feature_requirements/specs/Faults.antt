-- The faults of forms that name no identifier.
use Rattle.std.specs.Prelude.{ℕ, List, Option, Some, None}
use Rattle.scheme_model.specs.declared.Occ.{Occ}
use Rattle.feature_requirements.specs.declared.fault.ExpandFault.{ExpandFault}
use Rattle.feature_requirements.specs.declared.fault.ExpandFault.TheVariants as fault

abbrev pub plain_fault : Option Occ → ℕ → ExpandFault
plain_fault here code = fault.At (record { code = code; name = None; occ = None; here = here; text = None })

abbrev pub text_fault : Option Occ → List ℕ → ExpandFault
text_fault here text = fault.At (record { code = 47; name = None; occ = None; here = here; text = Some text })
