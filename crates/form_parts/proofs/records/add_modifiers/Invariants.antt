use Rattle.std.proofs.Common.{◌≡◌, ◌++◌, take}
use Rattle.std.specs.Prelude.{filter_map}
use Rattle.form_parts.proofs.records.add_modifiers.Given as goal

abbrev pub invariant-loop-field : goal.invariant-loop-field
invariant-loop-field l = l.names.items ≡ l.initial.names.items ++ filter_map (λ f. f.modifier) (take l.field-index l.fields)
