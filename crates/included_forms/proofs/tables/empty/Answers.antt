use Rattle.included_forms.proofs.BuildLaws.{table_first}
use Rattle.included_forms.proofs.tables.empty.Goals as goal

pub returns : goal.returns
returns c = λ o usable. table_first o c.args.usable.now (record { parts = c.new.result; places = c.in_ok-places.places }) usable c.in_ok-places.ensures c.new.ensures.items
