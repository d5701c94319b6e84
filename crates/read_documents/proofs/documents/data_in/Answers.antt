-- Each of the data was read from the text, and the bytes are those of its tokens.
use Rattle.datum_reader.proofs.SeedLaws.{item_was_read}
use Rattle.read_documents.proofs.DocumentLaws.{spans_told}
use Rattle.read_documents.proofs.documents.data_in.Goals as goal

pub returns-clause-read : goal.returns-clause-read
returns-clause-read c = λ n d at. item_was_read c.args.text.now c.in_ok-read.read.1 n d c.utf8.text c.requires c.in_ok-read.ensures.found at

pub returns-clause-spans : goal.returns-clause-spans
returns-clause-spans c = λ ts reads. spans_told c.in_ok-read.read.0.items ts (c.in_ok-read.ensures.spans ts reads)
