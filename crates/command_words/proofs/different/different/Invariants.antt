use Rattle.std.proofs.Common.{◌≡◌, ◌≤◌, length, take}
use Rattle.ls_base.specs.Limits.{max_documents}
use Rattle.command_words.specs.Different.{different}
use Rattle.command_words.proofs.different.different.Given as goal

-- the different ones of the words so far, which are few enough
abbrev pub invariant-loop-word : goal.invariant-loop-word
invariant-loop-word l = record { are : l.all ≡ different (take l.word-index l.words); few : length l.all ≤ max_documents }
