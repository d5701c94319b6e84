use Rattle.class_edits.proofs.LongestLaws as longest
use Rattle.class_edits.proofs.laws.longest_is_kept.Goals as goal

pub returns : goal.returns
returns c = λ ls at prefix. longest.longest_is ls at prefix
