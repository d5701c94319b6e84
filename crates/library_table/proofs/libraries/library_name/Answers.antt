use Rattle.std.proofs.Common.{◌≡◌, IfOk, refl, subst, sym}
use Rattle.std.specs.Option.{option_map}
use Rattle.scheme_model.specs.Data.{Datum, place_of}
use Rattle.scheme_model.specs.Declarations.{library_name}
use Rattle.scheme_tokens.specs.LibraryNames.{library_text}
use Rattle.datum_reader.specs.Views.{datum_of}
use Rattle.unit_sources.proofs.NameRows.{unnamed, other_unnamed}
use Rattle.library_table.proofs.libraries.library_name.Goals as goal

pub returns-in-List : goal.returns-in-List
returns-in-List c =
    let h = c.in-List.ensures in
    subst (λ (d : Datum). IfOk c.second_name.result (λ name. name ≡ option_map library_text (library_name d))) (sym h.1) (c.second_name.ensures (place_of (datum_of c.args.datum.now)) h.0)

pub returns-in-Name : goal.returns-in-Name
returns-in-Name c = unnamed (datum_of c.args.datum.now) _ c.in-Name.ensures.2 refl

pub returns-in-Implied : goal.returns-in-Implied
returns-in-Implied c = unnamed (datum_of c.args.datum.now) _ c.in-Implied.ensures.1 refl

pub returns-in-Numeral : goal.returns-in-Numeral
returns-in-Numeral c = unnamed (datum_of c.args.datum.now) _ c.in-Numeral.ensures.1 refl

pub returns-in-Other : goal.returns-in-Other
returns-in-Other c = other_unnamed (datum_of c.args.datum.now) c.in-Other.ensures
