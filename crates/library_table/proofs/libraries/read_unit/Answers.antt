use Rattle.std.proofs.Common.{false, ap, ◌∙◌}
use Rattle.scheme_model.specs.Data.{place_of}
use Rattle.scheme_model.specs.Declarations.{IsLibrary, behind_head, library_name}
use Rattle.scheme_model.specs.IncludedUnits.{library_listing, own}
use Rattle.datum_reader.specs.Views.{datum_of}
use Rattle.unit_sources.specs.UnitsRead.{kind_of}
use Rattle.library_table.proofs.ListingRows.{unit_ends, unit_made}
use Rattle.library_table.proofs.libraries.read_unit.Goals as goal

pub returns-in_err-lists : goal.returns-in_err-lists
returns-in_err-lists c = λ o t are table serve.
    let d = datum_of c.args.datum.now in
    let l = library_listing t o.known (own c.args.document d) (behind_head d) in
    unit_ends c.args.unit false d IsLibrary (library_name d) (place_of d) l c.from_residual-in_err-lists.result c.in_err-lists.field-0.0 c.from_residual-in_err-lists.ensures.1 (c.in_err-lists.ensures l (c.in_ok-listed.ensures o t are table serve))

pub returns : goal.returns
returns c = λ o t are table serve.
    let d = datum_of c.args.datum.now in
    let l = library_listing t o.known (own c.args.document d) (behind_head d) in
    let s = c.in_ok-source.ensures in
    unit_made c.args.unit false d IsLibrary (library_name d) (place_of d) l c.in_ok-source.field-0 c.in_ok-lists.lists (c.in_ok-lists.ensures l (c.in_ok-listed.ensures o t are table serve)) (ap kind_of s.kind) (s.name ∙ c.in_ok-name.ensures)
    (s.span ∙ c.first_token-span.ensures) s.forms s.lost s.imports s.exports
