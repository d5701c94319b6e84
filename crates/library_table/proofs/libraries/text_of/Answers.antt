use Rattle.std.proofs.Common.{subst}
use Rattle.scheme_model.specs.ExpansionFaults.{BadForm}
use Rattle.scheme_model.specs.Declarations.{symbol_tree}
use Rattle.scheme_model.specs.Requirements.{library_name_of}
use Rattle.scheme_tokens.specs.LibraryNames.{library_text}
use Rattle.datum_reader.specs.Views.{datum_of}
use Rattle.datum_reader.specs.declared.shape_fault.ShapeFault.{ShapeFault}
use Rattle.known_libraries.specs.PartsRead.{Fails, map_ok}
use Rattle.unit_sources.proofs.NameRows.{alone, text_there, no_text}
use Rattle.library_table.proofs.libraries.text_of.Goals as goal

pub returns-in-Ok : goal.returns-in-Ok
returns-in-Ok c = text_there (library_name_of (λ s. s) (symbol_tree (datum_of c.args.name.now))) c.in-Ok.text (c.in-Ok.ensures alone)

pub returns-in-Err-BadForm : goal.returns-in-Err-BadForm
returns-in-Err-BadForm c =
    let r = library_name_of (λ s. s) (symbol_tree (datum_of c.args.name.now)) in
    no_text r BadForm (subst (λ (f : ShapeFault). Fails f (map_ok library_text r)) c.in-Err-BadForm.field-0-is (c.in-Err-BadForm.ensures alone))
