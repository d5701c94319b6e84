use Rattle.std.proofs.Common.{List, None, true, map, ap, ◌∙◌, subst}
use Rattle.scheme_model.specs.Data.{Datum, place_of}
use Rattle.scheme_model.specs.Declarations.{IsProgram}
use Rattle.scheme_model.specs.Included.{forms_of}
use Rattle.scheme_model.specs.IncludedUnits.{UnitSource, importing, own, source_by}
use Rattle.scheme_model.specs.Includes.{program_data}
use Rattle.datum_reader.specs.Views.{data_of}
use Rattle.unit_sources.specs.UnitsRead.{kind_of, IsSource, IsUnitRead}
use Rattle.library_table.proofs.ListingRows.{unit_ends, unit_made, one_unit}
use Rattle.library_table.proofs.programs.read_program.Goals as goal

pub returns-in_err-lists : goal.returns-in_err-lists
returns-in_err-lists c = λ o t are table serve d rest e span u is.
    let n = c.args.document in
    let l = forms_of t (map (own n) (program_data (data_of c.args.«data».now))) in
    let same = ap (λ (ds : List Datum). source_by IsProgram None (place_of d) (importing (forms_of t (map (own n) ds)))) e ∙ one_unit _ u is in
    subst (λ (v : UnitSource). IsUnitRead c.args.unit d v c.from_residual-in_err-lists.result) same
    (unit_ends c.args.unit true d IsProgram None (place_of d) l c.from_residual-in_err-lists.result c.in_err-lists.field-0.0 c.from_residual-in_err-lists.ensures.1 (c.in_err-lists.ensures l (c.in_ok-listed.ensures o t are table serve)))

pub returns : goal.returns
returns c = λ o t are table serve d rest e span u is.
    let n = c.args.document in
    let l = forms_of t (map (own n) (program_data (data_of c.args.«data».now))) in
    let same = ap (λ (ds : List Datum). source_by IsProgram None (place_of d) (importing (forms_of t (map (own n) ds)))) e ∙ one_unit _ u is in
    let s = c.in_ok-source.ensures in
    subst (λ (v : UnitSource). IsSource c.args.unit c.in_ok-source.field-0 v d) same
    (unit_made c.args.unit true d IsProgram None (place_of d) l c.in_ok-source.field-0 c.in_ok-lists.lists (c.in_ok-lists.ensures l (c.in_ok-listed.ensures o t are table serve)) (ap kind_of s.kind) s.name
    (s.span ∙ span) s.forms s.lost s.imports s.exports)
