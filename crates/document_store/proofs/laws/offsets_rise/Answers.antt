use Rattle.document_store.proofs.Rising.{offset_of-mono}
use Rattle.document_store.proofs.laws.offsets_rise.Goals as goal

pub returns : goal.returns
returns c = offset_of-mono
