use Rattle.std.proofs.Common.{ap, ◌∙◌}
use Rattle.std.specs.Prelude.{◌||◌}
use Rattle.scheme_model.specs.Program.{is_in}
use Rattle.import_sets.specs.Waiting.{has}
use Rattle.import_sets.proofs.turns.look_again.Goals as goal

pub returns : goal.returns
returns c = λ n. c.in_ok-add_all.ensures n ∙ ap (λ b. has c.args.waiting.now n || b) (ap (is_in n) c.row.ensures)
