use Rattle.renumbering_laws.proofs.PairingLaws.{sends}
use Rattle.renumbering_laws.proofs.PairedLaws.{has_inverse, keeps_prelude}
use Rattle.renumbering_laws.proofs.laws.pairs_are_renumberings.Goals as goal

pub returns : goal.returns
returns c = record {
  inverse = λ units forms. has_inverse units forms;
  sent = λ ps h. sends ps h;
  prelude_kept = λ units forms h k. keeps_prelude units forms h k;
}
