pub mod Open  -- What is open while data are read from tokens, and how each token changes it (R7RS 7.1.2)
pub mod Seeded  -- The tree of a datum (R7RS 7.1.2) as a form of a unit
pub mod Texts  -- Texts, by the tokens that scheme_tokens tells of them
pub mod WellFormed  -- Data as reading gives them
pub mod Views  -- What the tokens and data of the code stand for
pub mod OpenViews  -- What is open in the code while data are read, and what answers of its steps say
pub mod Seeding  -- The trees of parts of a form, and what seeding them leaves of the nodes and names that stood before
pub mod NameTokens  -- Which tokens of a text the identifiers of a form were read from (R7RS 7.1.2)
pub mod Looks  -- What is seen of a datum (R7RS 7.1.2)
pub mod Forms  -- The places of tokens in forms
pub mod FirstTokens  -- The bytes of the first tokens of data
