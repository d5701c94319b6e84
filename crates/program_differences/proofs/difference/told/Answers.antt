use Rattle.std.proofs.Common.{◌∙◌}
use Rattle.scheme_model.specs.ProgramArrows.{program_leaves, program_keywords, program_names, program_table}
use Rattle.rename_model.specs.Difference.{kind_of}
use Rattle.program_differences.specs.Differences.{kind_number}
use Rattle.program_differences.proofs.difference.told.Goals as goal

pub side_of-requires : goal.side_of-requires
side_of-requires c = (c.requires.0.old.shown, c.requires.1.old.shown)

pub side_of-requires-2 : goal.side_of-requires-2
side_of-requires-2 c = (c.requires.0.new.shown, c.requires.1.new.shown)

pub returns : goal.returns
returns c = λ all rest p q a before after is. record {
  kind = c.kind_of.ensures ∙ (λ j. kind_number (kind_of c.args.class.now (is.old.spot j) (is.old.place j)));
  unit = c.in_ok-number_of.ensures ∙ is.unit;
  form = c.in_ok-number_of-2.ensures ∙ is.form;
  place = is.old.place;
  before = c.in_ok-side_of.ensures (program_leaves p.units) (program_keywords p.units) (program_names all p p.units) (program_table p) a.old.shown before is.old.shown;
  after = c.in_ok-side_of-2.ensures (program_leaves q.units) (program_keywords q.units) (program_names rest q q.units) (program_table q) a.new.shown after is.new.shown;
}
