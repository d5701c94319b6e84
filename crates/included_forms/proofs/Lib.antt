mod InRows  -- Listings in a row
mod Planned  -- Steps that were added one after another
mod StringLaws  -- The texts that strings mean, one after another
mod DeclaredLaws  -- Declarations by their kinds (R7RS 5.6.1)
mod ClauseLaws  -- The clauses of `cond-expand` as they are read
mod ChoiceLaws  -- The clauses of a `cond-expand` one after another
mod PlanLaws  -- What the plans of programs, libraries and included texts give
mod TallyLaws  -- What is left of listings without their forms and strings, one behind the other
mod TableLaws  -- What the texts of a table give and count
mod WritingLaws  -- The forms that steps give, one step after another
mod BuildLaws  -- How tables are built, and what strings give by the standing of the documents that they mean
mod LosingLaws  -- The strings that steps lose, from the last step to the first
mod OnceLaws  -- Strings, each once
pub mod ServeLaws  -- Strings give what the data of the texts give that they mean, with all that these include
mod ListedLaws  -- What is written out by what is counted
