use Rattle.std.proofs.Common.{◌≡◌, take}
use Rattle.command_words.specs.ClapWords.{seen}
use Rattle.command_words.proofs.clap_words.texts_of.Given as goal

-- copies of those so far
abbrev pub invariant-loop-word : goal.invariant-loop-word
invariant-loop-word l = l.texts ≡ seen (take l.word-index l.words)
