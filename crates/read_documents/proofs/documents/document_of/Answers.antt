-- A document has what it was made of.
use Rattle.std.proofs.Common.{rules, w64}
use mir.Val.{SFits}
use Rattle.std.proofs.lemmas.Int.{to_z-of_z}
use Rattle.read_documents.proofs.documents.document_of.Goals as goal

pub returns-clause-document : goal.returns-clause-document
returns-clause-document c = λ read is called told.
    let fits : SFits w64 c.args.opened.version = search rules in
    record { uri = c.in_ok-uri.ensures; version = to_z-of_z w64 c.args.opened.version fits; lines = c.in_ok-lines.ensures; read = read; called = called; is_read = is; so = told }

pub returns-clause-read : goal.returns-clause-read
returns-clause-read c = λ h. h
