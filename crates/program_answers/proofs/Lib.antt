pub mod TextLaws  -- The texts of the documents that are read, and places in them
pub mod ListLaws  -- The lists of documents, one document after another
pub mod PublishLaws  -- What is published, one document after another
pub mod PublishedMaps  -- What is published, as a map by uri
pub mod TextLists  -- Texts have one row of lists, and aren't without
pub mod SameDiagnostics  -- Whether two lists of diagnostics are the same is decided
pub mod NewsLaws  -- What is news of texts is told in one way
pub mod SiteLaws  -- The identifiers of data, of forms and of units, part by part, and the first one that passes
pub mod TokenCuts  -- A text can be cut where its tokens begin and end (R7RS 7.1.1)
pub mod OpenLaws  -- The open documents by their places and by their uris
pub mod OrderedLaws  -- Lists in order, each item once
pub mod BytesLaws  -- The orders of bytes, of lit bytes and of drawn pairs, in the definition and in the code
pub mod ListedLaws  -- Lists that stand for others as they grow, and lists with the same members
pub mod AskedLaws  -- Answers about an occurrence, by what the index has
pub mod LongestLaws  -- The longest prefix of an occurrence among parts, and the parts of its class
