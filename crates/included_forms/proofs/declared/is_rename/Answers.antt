use Rattle.std.proofs.Common.{ap, sym, ◌∙◌}
use Rattle.scheme_model.specs.Declarations.{is_rename}
use Rattle.datum_reader.specs.Views.{data_of}
use Rattle.datum_reader.proofs.DataRows.{dotted_parts}
use Rattle.included_forms.proofs.declared.is_rename.Goals as goal

pub returns-then-dotted : goal.returns-then-dotted
returns-then-dotted c = λ end e. sym (ap is_rename (dotted_parts (data_of c.args.parts.now) end (e ∙ c.if-dotted.true)))
