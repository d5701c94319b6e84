use Rattle.syntax_tree.proofs.InternLaws.{other_length}
use Rattle.syntax_tree.proofs.texts.same_text.Goals as goal

pub returns-then-a-b : goal.returns-then-a-b
returns-then-a-b c = other_length c.args.a.now c.args.b.now c.if-a-b.true
