pub mod IdentLaws  -- Identifiers and names
pub mod MeaningLaws  -- What a name means that nothing local stands around
pub mod ScopeLaws  -- Names by scopes are names by substitution
pub mod RenamingLaws  -- Steps of laws of renamings
pub mod ShapeLaws  -- Reading the shape of a core form commutes with a renaming that tells identifiers apart
pub mod PatternLaws  -- What rules tell of their patterns and templates, once each identifier is renamed
pub mod RulesLaws  -- Reading and checking the rules of a macro commutes with a renaming that tells identifiers apart
pub mod CompareLaws  -- Which literals of rules are compared with which identifiers of a use, once both sides are renamed
pub mod MatchLaws  -- Matching commutes with renamings of the rules and of the form under which rules tell their identifiers alike, and literals mean the same
pub mod MatchedLaws  -- Which rule a use matches, and with what, depends on the sameness of literals at the pairs that are compared alone
pub mod BuildLaws  -- Building an instance of a template commutes with renamings of the template and of what its variables stand for
pub mod OpenBodies  -- A body that is open, by the time at which it was entered
pub mod Clocks  -- Clocks, form by form
pub mod Distinct  -- Names that a reading tells to differ
pub mod Shown  -- Forms in the notation of rows
pub mod IncludeLaws  -- An included text stands in the place of the list that includes it
pub mod ShownIncludes  -- Programs of texts that include others in the notation of rows
