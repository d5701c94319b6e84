use Rattle.datum_reader.specs.Views.{datum_of}
use Rattle.datum_reader.proofs.WellFormedLaws.{can_seed}
use Rattle.datum_reader.proofs.FormLaws.{taken_is_form}
use Rattle.datum_reader.proofs.seeding.seed_as.Goals as goal

pub seed_datum-requires-clause-read : goal.seed_datum-requires-clause-read
seed_datum-requires-clause-read c = can_seed (datum_of c.args.datum.now) c.requires.read

pub returns-in_err-seed_datum-clause-form : goal.returns-in_err-seed_datum-clause-form
returns-in_err-seed_datum-clause-form c = taken_is_form c.args.into c.args.home (datum_of c.args.datum.now)

pub returns-clause-form : goal.returns-clause-form
returns-clause-form c = taken_is_form c.args.into c.args.home (datum_of c.args.datum.now)
