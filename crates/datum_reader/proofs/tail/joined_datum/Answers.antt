use Rattle.std.proofs.Common.{◌∙◌, ap, sym, refl, Vec}
use Rattle.scheme_model.specs.Data.{row}
use Rattle.datum_reader.specs.Views.{data_of, end_data}
use Rattle.std.specs.declared.alloc.Global.{Global}
use Rattle.datum_reader.specs.declared.datum.Datum as code
use Rattle.datum_reader.specs.OpenViews.{tail_datum}
use Rattle.datum_reader.proofs.DatumLaws.{list_joined}
use Rattle.datum_reader.proofs.tail.joined_datum.Goals as goal

pub returns-in_ok-new-in-List : goal.returns-in_ok-new-in-List
returns-in_ok-new-in-List c =
    list_joined _ c.in_ok-new-in-List.field-0 c.in-List.chain.rest.end _ refl (ap (λ (v : Vec code.Datum Global). row (data_of v.items) (end_data c.in-List.chain.rest.end)) c.in_ok-new-in-List.ensures.ok ∙ c.in_ok-parts-in-List.ensures (end_data c.in-List.chain.rest.end)) ∙ ap tail_datum (sym c.in-List.is)
