use Rattle.std.proofs.Common.{◌∙◌, ap}
use Rattle.datum_reader.proofs.LookLaws.{list_look}
use Rattle.datum_reader.proofs.look.look_at.Goals as goal

pub returns-in-List : goal.returns-in-List
returns-in-List c = list_look c.args.datum.now c.in-List.parts c.in-List.end c.as_slice.result.now c.is_some.result c.in-List.is (c.as_slice.ensures.value ∙ ap (λ v. v.items) c.deref.ensures) c.is_some.ensures
