use Rattle.std.proofs.Common.{ap, sym, ◌∙◌, arith}
use Rattle.scheme_model.specs.Program.{is_in}
use Rattle.import_sets.proofs.turns.is_open.Goals as goal

pub all_done-requires : goal.all_done-requires
all_done-requires c = λ p i. let lt = c.requires.within c.args.place p (sym (ap (is_in p) c.row.ensures) ∙ i) in let size = c.requires.size in omega arith
