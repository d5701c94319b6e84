use Rattle.std.proofs.Common.{refl}
use Rattle.syntax_tree.proofs.WorkLaws.{spare_keeps}
use Rattle.syntax_tree.proofs.trees.Work.reserve.Goals as goal

pub returns-in_err-reserve-clause-keeps : goal.returns-in_err-reserve-clause-keeps
returns-in_err-reserve-clause-keeps c = spare_keeps c.args.self.now (record { trees = c.reserve.new.self; symbols = c.args.self.now.symbols }) c.reserve.ensures.kept refl

pub returns-clause-keeps : goal.returns-clause-keeps
returns-clause-keeps c = spare_keeps c.args.self.now (record { trees = c.reserve.new.self; symbols = c.args.self.now.symbols }) c.reserve.ensures.kept refl
