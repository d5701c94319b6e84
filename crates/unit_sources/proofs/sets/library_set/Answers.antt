use Rattle.std.proofs.Common.{sym, ap}
use Rattle.scheme_model.specs.Requirements.{library_name_of}
use Rattle.scheme_model.specs.Entries.{Library, or_bad}
use Rattle.datum_reader.specs.Looks.{tree_at}
use Rattle.scheme_tokens.specs.LibraryNames.{library_text}
use Rattle.known_libraries.proofs.NameTexts.{ok_of}
use Rattle.unit_sources.proofs.sets.library_set.Goals as goal

pub returns-in-Ok : goal.returns-in-Ok
returns-in-Ok c = λ at.
    let p = ok_of library_text (library_name_of (λ s. s) (tree_at at c.args.datum.now)) c.in-Ok.name (c.in-Ok.ensures at) in
    (p.0, (ap (λ r. or_bad r Library) p.1, sym p.2))
