use Rattle.std.proofs.Common.{sym, ap, ◌∙◌, arith}
use Rattle.scheme_model.specs.Diagnostics.{bytes_of, bytes_or}
use Rattle.read_documents.specs.Places.{bytes_at, spans_of}
use Rattle.unit_imports.proofs.entries.place_or.Goals as goal

pub returns-in-None-clause-exact : goal.returns-in-None-clause-exact
returns-in-None-clause-exact c = λ reads us are. ap (bytes_or (bytes_of (spans_of reads) us) (bytes_at c.args.found)) (sym c.in-None.is)

pub returns-in-Some-clause-inside : goal.returns-in-Some-clause-inside
returns-in-Some-clause-inside c = let some = c.requires.found in c.at.ensures.inside (omega arith)

pub returns-in-Some-clause-exact : goal.returns-in-Some-clause-exact
returns-in-Some-clause-exact c = λ reads us are. c.at.ensures.exact reads us are ∙ ap (bytes_or (bytes_of (spans_of reads) us) (bytes_at c.args.found)) (sym c.in-Some.is)
