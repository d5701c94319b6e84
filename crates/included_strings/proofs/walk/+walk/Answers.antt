-- The strings of a datum's parts stand one behind the other.
use Rattle.std.proofs.Common.{◌++◌, refl, ap, ◌∙◌, Vec}
use Rattle.std.specs.declared.alloc.Global.{Global}
use Rattle.datum_reader.specs.declared.datum.Datum as code
use Rattle.datum_reader.specs.Views.{data_of, datum_of}
use Rattle.scheme_model.specs.Includes.{includes, includes_declarations}
use Rattle.included_strings.specs.Strings.{texts_in, texts_in_all, texts_in_end, texts_now, texts_or_none}
use Rattle.included_strings.proofs.WalkLaws.{added, list_texts, vector_texts}
use Rattle.included_strings.proofs.walk.+walk.Goals as goal

pub add_datum-returns-in_ok-add_parts-in-Vector : goal.add_datum-returns-in_ok-add_parts-in-Vector
add_datum-returns-in_ok-add_parts-in-Vector t c =
    c.in_ok-add_parts-in-Vector.ensures ∙ ap (λ ts. texts_now c.args.strings.now.items ++ ts) (vector_texts c.args.datum.now c.in-Vector.parts c.as_slice.result.now c.in-Vector.is (c.as_slice.ensures.value ∙ ap (λ (v : Vec code.Datum Global). v.items) c.deref.ensures))

pub add_datum-returns-in_ok-add_end-in-List : goal.add_datum-returns-in_ok-add_end-in-List
add_datum-returns-in_ok-add_end-in-List t c =
    let d = datum_of c.args.datum.now in
    let old = texts_now c.args.strings.now.items in
    let first = texts_now c.add_strings.new.strings.items in
    let second = texts_now c.add_strings-in-List.new.strings.items in
    let third = texts_now c.add_parts-in-List.new.strings.items in
    let new = texts_now c.add_end.new.strings.items in
    let own = texts_or_none (includes d) in
    let declared = texts_or_none (includes_declarations d) in
    let parts = texts_in_all (data_of c.as_slice-in-List.result.now) in
    let end = texts_in_end c.in-List.end in
    added old first new own (declared ++ (parts ++ end)) (texts_in d) (c.in_ok-add_strings-in-List.ensures (includes d) c.includes.ensures)
    (added first second new declared (parts ++ end) (declared ++ (parts ++ end)) (c.in_ok-add_strings-in-List-2.ensures (includes_declarations d) c.includes_declarations.ensures)
    (added second third new parts end (parts ++ end) c.in_ok-add_parts-in-List.ensures c.in_ok-add_end-in-List.ensures refl) refl)
    (list_texts c.args.datum.now c.in-List.parts c.in-List.end c.as_slice-in-List.result.now c.in-List.is (c.as_slice-in-List.ensures.value ∙ ap (λ (v : Vec code.Datum Global). v.items) c.deref-in-List.ensures))
