-- The identifiers of parts stand one behind the other.
use Rattle.std.proofs.Common.{◌++◌, ap, ◌∙◌, Vec}
use Rattle.std.specs.declared.alloc.Global.{Global}
use Rattle.datum_reader.specs.declared.datum.Datum as code
use Rattle.datum_reader.specs.Views.{data_of, datum_of}
use Rattle.document_units.specs.Identifiers.{all_names, end_names, occs_in}
use Rattle.scheme_model.specs.Sites.{name_tokens}
use Rattle.document_units.proofs.IdentifierLaws.{both_added, list_names, vector_names}
use Rattle.document_units.proofs.identifiers.+names.Goals as goal

pub add_datum-returns-in_ok-add_parts-in-Vector : goal.add_datum-returns-in_ok-add_parts-in-Vector
add_datum-returns-in_ok-add_parts-in-Vector t c =
    c.in_ok-add_parts-in-Vector.ensures ∙ ap (λ ts. c.args.names.now.items ++ occs_in c.args.at.unit c.args.at.form c.args.at.first ts)
    (vector_names c.args.datum.now c.in-Vector.parts c.as_slice.result.now c.in-Vector.is (c.as_slice.ensures.value ∙ ap (λ (v : Vec code.Datum Global). v.items) c.deref.ensures))

pub add_datum-returns-in_ok-add_end-in-List : goal.add_datum-returns-in_ok-add_end-in-List
add_datum-returns-in_ok-add_end-in-List t c =
    both_added c.args.names.now.items c.add_parts-in-List.new.names.items c.add_end.new.names.items c.args.at.unit c.args.at.form c.args.at.first
    (all_names (data_of c.as_slice-in-List.result.now)) (end_names c.in-List.end) (name_tokens (datum_of c.args.datum.now)) c.in_ok-add_parts-in-List.ensures c.in_ok-add_end-in-List.ensures
    (list_names c.args.datum.now c.in-List.parts c.in-List.end c.as_slice-in-List.result.now c.in-List.is (c.as_slice-in-List.ensures.value ∙ ap (λ (v : Vec code.Datum Global). v.items) c.deref-in-List.ensures))
