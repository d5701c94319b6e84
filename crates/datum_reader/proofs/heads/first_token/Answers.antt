use Rattle.std.proofs.Common.{refl, sym, ap, ◌∙◌}
use Rattle.scheme_model.specs.Data.{row}
use Rattle.datum_reader.specs.Views.{data_of}
use Rattle.datum_reader.proofs.DatumLaws.{place-datum}
use Rattle.ls_base.specs.declared.places.Span.{Span}
use Rattle.datum_reader.specs.Looks.{end_with}
use Rattle.datum_reader.specs.FirstTokens.{span_of, list_token, first_token}
use Rattle.datum_reader.proofs.LookLaws.{list_look}
use Rattle.datum_reader.proofs.heads.first_token.Goals as goal

pub returns-in-List : goal.returns-in-List
returns-in-List c =
    let d = c.args.datum.now in
    let l = list_look d c.in-List.parts c.in-List.field-1 c.as_slice.result.now _ c.in-List.is (c.as_slice.ensures.value ∙ ap (λ v. v.items) c.deref.ensures) refl in
    c.list_token.ensures l.0 ∙ ap (λ (s : Span). list_token s (row (data_of c.as_slice.result.now) (end_with l.0))) (sym (ap span_of (place-datum d))) ∙ sym (ap first_token l.1)
