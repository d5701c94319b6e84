pub mod TokenEdits  -- The edits of tokens, by how each is written
pub mod Fronts  -- What a text begins with, and what may stand before it
pub mod GlyphLaws  -- The bytes of tokens
pub mod EditLaws  -- An edited text has the same tokens, but for the new names
pub mod DataLaws  -- Data are written by the tokens that there are now as they were by those before
pub mod ReadLaws  -- An edited text reads, and its data are the old ones with the new names
pub mod MemberLaws  -- The edits of a text are those of its tokens, and the edited text reads
pub mod NameLaws  -- The identifiers of what was read are name tokens, so an edited document reads
pub mod KeyLaws  -- Occurrences that are one as keys of maps, and maps of which the first name counts
pub mod EditRuns  -- Edits one behind another
pub mod SpellLaws  -- A name is written in one way only (R7RS 7.1.1), so what spells it is what the edits have
pub mod CutLaws  -- The edits of a text are for its tokens, which stand one behind another, and a text can be cut where tokens begin and end (R7RS 7.1.1)
pub mod Shown  -- What a rename of the identifier at an offset of a document edits, in the notation of rows
pub mod SymbolLaws  -- A text is one identifier in one way at most (R7RS 7.1.1)
pub mod OwnLaws  -- A token that is written anew as it stands keeps its name (R7RS 7.1.1)
pub mod BackLaws  -- Where identifiers get their old names back the old text comes back (R7RS 7.1.1)
pub mod rows
