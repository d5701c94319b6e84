-- The diagnostics of a document, where it has some.
use Rattle.std.specs.Prelude.{List, [], Option, Some, None}
use Rattle.ls_base.specs.declared.answers.Diagnostic as told

abbrev pub or_none : Option (List told.Diagnostic) → List told.Diagnostic
or_none None = []
or_none (Some ds) = ds
