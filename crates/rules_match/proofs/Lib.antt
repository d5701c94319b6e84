pub mod Parts  -- Rows of trees
pub mod PairSteps  -- Comparing a row of parts, step by step
pub mod Taking  -- When the parts and the tail of a pattern can take those of a list
pub mod RuleLaws  -- Rules by number, and the lists that are their patterns
pub mod Variables  -- The variables of a match are those of the pattern, from left to right
pub mod Adding  -- What was matched, one after another
pub mod Steps  -- Matching of a row of parts, step by step
pub mod ColumnLaws  -- What variables stand for, place by place
pub mod EachLaws  -- Matching of one pattern with many trees, place by place
pub mod VariableLaws  -- The columns of a pattern's variables, part by part
pub mod AtomLaws  -- Atoms by the numbers of their texts
pub mod KnownLaws  -- The pairs of literals and identifiers that mean the same, by number
pub mod NoLiterals  -- Rules without literals compare none
pub mod Naming  -- What nodes of a region may name of what is matched
mod rows  -- The definitions on worked rows
