use Rattle.note_laws.proofs.ItemSides.{uses_same, item_same, left_same}
use Rattle.note_laws.proofs.laws.second_parts_define_nothing.Goals as goal

pub returns : goal.returns
returns c = record {
  uses = λ known us s. uses_same known us s;
  item = λ known turns i s. item_same known turns i s;
  left = λ known turns l s. left_same known turns l s;
}
