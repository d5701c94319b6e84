-- The units as they are listed: what is sure of them.
use Rattle.std.specs.Prelude.{◌≡◌, ℕ, ◌^◌, ◌<◌, length}
use Rattle.document_units.specs.declared.listing.Units.{Units}
use Rattle.read_documents.specs.Places.{AreHeadsIn}
use Rattle.read_documents.specs.WereRead.{AreSourcesRead}

-- each has a head and a source, stands in one of so many documents, and was read
pub record IsSound (count : ℕ) (u : Units) : Type 0 where
  pub heads : AreHeadsIn count u.heads.items
  pub sources : length u.sources.items ≡ length u.heads.items
  pub few : length u.heads.items < 2 ^ 32
  pub read : AreSourcesRead u.sources.items
