pub mod Identifiers  -- Identifiers (R7RS 4.3)
pub mod Trees  -- Trees whose leaves are names of a kind, with the occurrences that they were read at
pub mod StandardNames  -- The names of `(scheme base)` (R7RS Appendix A)
pub mod Kinds  -- The kinds of tokens (R7RS 7.1.1), and tokens with their places
pub mod Data  -- Data (R7RS 7.1.2), with the numbers and the bytes of their tokens
pub mod Numbered  -- Tokens by their numbers, the places of data, and the numerals of bytevectors (R7RS 7.1.2)
pub mod Faults  -- The faults of data by the numbers that callers know, each with the bytes that it is shown at
pub mod Written  -- Data as they are written (R7RS 7.1.2)
pub mod Begun  -- Data that are partly written (R7RS 7.1.2)
pub mod Stopping  -- Where the reading of a text stops (R7RS 7.1.2)
pub mod DataTrees  -- The tree of a datum (R7RS 7.1.2)
pub mod Texts  -- The texts of the open documents, and what a document event makes of them (LSP 3.17, text synchronisation)
pub mod Wording  -- The texts of errors and of logs that a session sends (JSON-RPC 2.0, section 5.1; LSP 3.17, `window/logMessage`)
pub mod Session  -- A session (JSON-RPC 2.0; LSP 3.17, lifecycle)
pub mod Measures  -- How many nodes a tree has, and how deep it is
pub mod TreeParts  -- The parts of trees
pub mod Ident  -- An identifier as it came about, whatever binds it (R7RS 4.3)
pub mod Keywords  -- The keywords of core forms by their names in the standard libraries (R7RS 4.1 to 4.3, 5), and the auxiliary ones
pub mod Meaning  -- What an identifier means (R7RS 4.3), and what a form is by the meaning of its head
pub mod ExpansionFaults  -- Why a form is broken
pub mod Shapes  -- The shapes of core forms (R7RS 4.1, 4.2.1, 4.3, 5.3, 5.5)
pub mod Requirements  -- The clauses of `cond-expand` (R7RS 4.2.1)
pub mod Quasiquote  -- Quasiquoted data (R7RS 4.2.8)
pub mod RulesShape  -- The rules of a macro (R7RS 4.3.2), and which shapes they have
pub mod Matching  -- Matching (R7RS 4.3.2)
pub mod Building  -- Building (R7RS 4.3.2)
pub mod Cores  -- Cores
pub mod Holes  -- Where the holes of a quasiquoted datum are (R7RS 4.2.8)
pub mod Steps  -- Steps of an expansion
pub mod Order  -- The order of expansion (R7RS 4.3, 5.3)
pub mod Leaves  -- The leaves of rules that mean something where their macro is defined (R7RS 4.3.2)
pub mod Expression  -- The core of an expression (R7RS 4.1, 4.2, 4.3), by the operations of a side
pub mod Substitution  -- Expansion by substitution
pub mod Scopes  -- Names by scopes (R7RS 4.3)
pub mod Renaming  -- Renamings
pub mod ScopedExpansion  -- Expansion by scopes
pub mod CountedExpansion  -- Expansion by scopes where a local is told by its count alone, as one of the form at work
pub mod FrameImages  -- What an identifier has become in the definition that substitutes, by the frames around it
pub mod UnitExpansion  -- The expansion of a unit's forms (R7RS 5.1, 5.3)
pub mod OwnAnswers  -- What a form answers itself
pub mod Questions  -- What the expansion of a form asks of what is around it, each question at its moment
pub mod FormsAlike  -- What a form of a unit comes to, and what it asks
pub mod Entries  -- Import sets, and the names that they give (R7RS 5.2, 5.6)
pub mod Declarations  -- What stands in a document (R7RS 5.1, 5.6.1)
pub mod Includes  -- Lists that include other texts (R7RS 4.1.7, 5.6.1), which documents name which, and which of them are parts of others
pub mod Included  -- What texts give where they are included (R7RS 4.1.7, 5.6.1)
pub mod IncludedUnits  -- The units of documents that include texts (R7RS 4.1.7, 5.1, 5.6.1)
pub mod TreeTexts  -- The trees of a text of symbols, `#t`, `#f`, quoted data and lists (R7RS 7.1.2), without places
pub mod Prelude  -- Derived forms as macros (R7RS 4.2, 7.3)
pub mod StandardLibraries  -- The standard libraries and their names (R7RS Appendix A)
pub mod Program  -- The program of the open documents (R7RS 5)
pub mod ScopedProgram  -- The program of the open documents by scopes
pub mod Live  -- The leaves of cores, the uses of names in imports and exports, and which occurrences are live
pub mod ProgramArrows  -- Arrows
pub mod DiagnosticTexts  -- The texts of all diagnostics, by their codes and what they name
pub mod Diagnostics  -- The diagnostics of a program
pub mod Spelling  -- What spells an identifier
pub mod Accesses  -- How occurrences are used (LSP 3.17, DocumentHighlightKind)
pub mod Sites  -- Identifiers where they stand in texts (R7RS 7.1.1), and the one at a place of a text
pub mod Answers  -- What is answered about a program (LSP 3.17, "Language Features")
