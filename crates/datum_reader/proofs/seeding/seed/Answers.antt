use Rattle.datum_reader.specs.Views.{datum_of}
use Rattle.datum_reader.proofs.FormLaws.{seeded_is_form}
use Rattle.datum_reader.proofs.seeding.seed.Goals as goal

pub returns-in_err-seed_as-clause-form : goal.returns-in_err-seed_as-clause-form
returns-in_err-seed_as-clause-form c = seeded_is_form c.args.unit c.args.form (datum_of c.args.datum.now)

pub returns-clause-form : goal.returns-clause-form
returns-clause-form c = seeded_is_form c.args.unit c.args.form (datum_of c.args.datum.now)
