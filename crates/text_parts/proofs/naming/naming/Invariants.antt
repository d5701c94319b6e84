use Rattle.std.proofs.Common.{◌≡◌, length}
use Rattle.scheme_model.specs.Includes.{named_by, naming}
use Rattle.text_parts.specs.Documents.{documents_in}
use Rattle.text_parts.specs.Marks.{Marks}
use Rattle.text_parts.specs.Places.{Each}
use Rattle.text_parts.proofs.naming.naming.Given as goal

abbrev pub invariant-loop-document : goal.invariant-loop-document
invariant-loop-document l =
    (length l.rows.items ≡ l.document) × Each (λ n row. Marks row (length (naming (documents_in l.uris l.texts))) (named_by (naming (documents_in l.uris l.texts)) n)) l.rows.items
