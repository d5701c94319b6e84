use Rattle.std.proofs.Common.{◌≡◌, ◌++◌, drop}
use Rattle.declared_parts.specs.Parts.{macros_taken}
use Rattle.declared_parts.proofs.parts.own_macros.Given as goal

abbrev pub invariant-loop-note : goal.invariant-loop-note
invariant-loop-note l =
    l.macros ++ macros_taken l.units.macros l.units.form.number l.units.unit (drop l.note-index l.notes) ≡ macros_taken l.units.macros l.units.form.number l.units.unit l.notes
