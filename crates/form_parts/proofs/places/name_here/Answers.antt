use Rattle.std.proofs.Common.{◌∙◌}
use Rattle.form_parts.proofs.LeafLaws.{written_here, inserted_here}
use Rattle.form_parts.proofs.places.name_here.Goals as goal

pub returns-in-Written : goal.returns-in-Written
returns-in-Written c = λ i is. c.or_here.ensures ∙ written_here c.args.work.now.symbols c.args.ident i is c.args.occ c.args.here c.in-Written.unit c.in-Written.symbol c.in-Written.ensures.ident

pub returns-in-Inserted : goal.returns-in-Inserted
returns-in-Inserted c = λ i is. inserted_here c.args.work.now.symbols c.args.ident i is c.args.occ c.args.here c.in-Inserted.id c.in-Inserted.number c.in-Inserted.ensures.ident
