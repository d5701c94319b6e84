use Rattle.datum_reader.proofs.NamePlaces as places
use Rattle.datum_reader.proofs.laws.names_are_tokens.Goals as goal

pub returns : goal.returns
returns c = places.names_read
