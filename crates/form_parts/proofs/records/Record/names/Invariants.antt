use Rattle.std.proofs.Common.{◌≡◌, ◌∷◌, map, take}
use Rattle.form_parts.proofs.records.Record.names.Given as goal

abbrev pub invariant-loop-field : goal.invariant-loop-field
invariant-loop-field l = l.names.items ≡ l.self.name ∷ l.self.constructor ∷ l.self.predicate ∷ map (λ f. f.accessor) (take l.field-index l.self.fields.items)
