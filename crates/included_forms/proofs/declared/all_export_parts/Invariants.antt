use Rattle.std.proofs.Common.{◌≡◌, drop}
use Rattle.scheme_model.specs.Declarations.{all_export_parts}
use Rattle.datum_reader.specs.Views.{data_of}
use Rattle.included_forms.proofs.declared.all_export_parts.Given as goal

abbrev pub invariant-loop-part : goal.invariant-loop-part
invariant-loop-part l = all_export_parts (data_of (drop l.part-index l.parts)) ≡ all_export_parts (data_of l.parts)
