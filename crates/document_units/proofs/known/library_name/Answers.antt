-- A datum that is no library has no name; one that is has the name behind its head.
use Rattle.std.proofs.Common.{◌≡◌, IfOk, Option, sym, ap, ◌∙◌, subst}
use Rattle.std.specs.Option.{option_map}
use Rattle.scheme_model.specs.Requirements.{LibraryName}
use Rattle.scheme_tokens.specs.LibraryNames.{library_text}
use Rattle.datum_reader.specs.Views.{datum_of}
use Rattle.document_units.proofs.KnownSteps.{library_named, not_named}
use Rattle.document_units.proofs.known.library_name.Goals as goal

pub returns-then-not-is_headed : goal.returns-then-not-is_headed
returns-then-not-is_headed c = ap (option_map library_text) (not_named (datum_of c.args.datum.now) (sym c.if-not-is_headed.true ∙ c.is_headed.ensures))

pub returns : goal.returns
returns c =
    subst (λ (o : Option LibraryName). IfOk c.library_name.result (λ name. name ≡ option_map library_text o)) (library_named (datum_of c.args.datum.now) (sym c.if-not-is_headed.false ∙ c.is_headed.ensures)) c.library_name.ensures
