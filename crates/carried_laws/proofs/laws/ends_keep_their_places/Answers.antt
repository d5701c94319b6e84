use Rattle.carried_laws.proofs.EndsKeep.{ends_keep}
use Rattle.carried_laws.proofs.laws.ends_keep_their_places.Goals as goal

pub returns : goal.returns
returns c = λ kind fs gs q f told alike h at is. ends_keep kind told fs gs alike q f h at is
