use Rattle.agreeing_numbers.proofs.TablesAgree.{tables_agree}
use Rattle.agreeing_numbers.proofs.laws.tables_agree_with_pairs.Goals as goal

pub returns : goal.returns
returns c = λ before after is_home q follows. tables_agree before after is_home q follows
