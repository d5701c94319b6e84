use Rattle.std.proofs.Common.{◌≡◌, map, take}
use Rattle.form_parts.proofs.records.Record.field_names.Given as goal

abbrev pub invariant-loop-field : goal.invariant-loop-field
invariant-loop-field l = l.names.items ≡ map (λ f. f.name) (take l.field-index l.self.fields.items)
