use Rattle.std.proofs.Common.{◌≡◌, ◌∙◌, ap, false, true}
use Rattle.command_words.specs.ClapWords.{seen}
use Rattle.command_words.specs.Words.{are_taken, positional_words, texts}
use Rattle.command_words.proofs.Naming.{asked_as, none_at, not_taken, picked, some_at}
use Rattle.command_words.proofs.reading.command_behind.Goals as goal

pub returns-in_ok-command-in-Some : goal.returns-in_ok-command-in-Some
returns-in_ok-command-in-Some c =
    let rest = texts c.args.rest.now in
    let found = some_at (are_taken rest ≡ false) (λ all. (are_taken rest ≡ true) × (seen all.items ≡ positional_words rest)) c.in_ok-words.words c.in-Some.words c.in-Some.is c.in_ok-words.ensures in
    let command = c.in_ok-command-in-Some.command in
    picked c.args.first.now rest command found.0 (asked_as c.args.first.now (seen c.as_slice.result.now) (positional_words rest) command (ap seen c.as_slice.ensures.value ∙ found.1) c.in_ok-command-in-Some.ensures)

pub returns-in-None : goal.returns-in-None
returns-in-None c =
    let rest = texts c.args.rest.now in not_taken c.args.first.now rest (none_at (are_taken rest ≡ false) (λ all. (are_taken rest ≡ true) × (seen all.items ≡ positional_words rest)) c.in_ok-words.words c.in-None.is c.in_ok-words.ensures)
