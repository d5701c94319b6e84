use Rattle.renumbering_laws.proofs.UnitLaws.{unit_moved, scoped_unit_moved}
use Rattle.renumbering_laws.proofs.PreludeLaws.{before_moves, scoped_before_moves}
use Rattle.renumbering_laws.proofs.DatumLaws.{named_forms_move, scoped_forms_move}
use Rattle.renumbering_laws.proofs.laws.units_are_renumbered.Goals as goal

pub returns : goal.returns
returns c = record {
  scoped = λ r w known p q g h entry entry' o m forms so_far entries. scoped_unit_moved r o known p q entry entry' entries w g h m so_far forms;
  substituted = λ r known p q g h entry entry' o m forms so_far entries. unit_moved r o known p q entry entry' entries g h m so_far forms;
  prelude = λ r w o k. scoped_before_moves r o k w;
  substituted_prelude = λ r o k. before_moves r o k;
  same_forms = λ r p q number forms kept. (named_forms_move r p q number forms kept, scoped_forms_move r p q number forms kept);
}
