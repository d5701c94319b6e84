use Rattle.std.proofs.Common.{◌≡◌, ◌++◌, take}
use Rattle.command_words.specs.ClapWords.{seen}
use Rattle.command_words.specs.Words.{texts}
use Rattle.command_words.proofs.positionals.push_words.Given as goal

-- those so far were added
abbrev pub invariant-loop-word : goal.invariant-loop-word
invariant-loop-word l = seen l.all.items ≡ seen l.fn.all.items ++ texts (take l.word-index l.words)
