use Rattle.std.proofs.Common.{◌∙◌, ap, Vec}
use Rattle.scheme_model.specs.Data.{Datum, list, row, none}
use Rattle.datum_reader.specs.Open as model
use Rattle.datum_reader.specs.Open.{up_to}
use Rattle.datum_reader.specs.Views.{data_of, placed}
use Rattle.std.specs.declared.alloc.Global.{Global}
use Rattle.datum_reader.specs.declared.datum.Datum as code
use Rattle.datum_reader.specs.OpenViews.{spot_of}
use Rattle.datum_reader.proofs.DatumLaws.{abbreviated}
use Rattle.datum_reader.proofs.step.abbreviation.Goals as goal

pub returns : goal.returns
returns c =
    abbreviated c.in_ok-datum.datum c.args.spot c.args.items.items c.push.new.self.items c.make_marked.result c.in_ok-push.ensures.items (c.make_marked.ensures ∙ ap (λ (v : Vec code.Datum Global). list (up_to (spot_of c.args.spot) (placed c.in_ok-datum.datum.first c.in_ok-datum.datum.last c.in_ok-datum.datum.span)) (row (data_of v.items) none)) c.in_ok-parts.ensures.ok)
    ∙ ap (λ (q : Datum). model.abbreviation (spot_of c.args.spot) (data_of c.args.items.items) q) c.in_ok-datum.ensures
