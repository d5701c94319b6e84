use Rattle.std.proofs.Common.{◌≡◌, ◌≢◌, [], ◌∷◌, refl}
use Rattle.command_words.specs.ClapWords.{seen}
use Rattle.command_words.specs.Words.{Word}
use Rattle.command_words.proofs.Naming.{no_replay, none_at, some_at}
use Rattle.command_words.proofs.reading.replay.Goals as goal

pub returns-in-Some : goal.returns-in-Some
returns-in-Some c = (refl, some_at ((w : Word) → seen c.args.words.now ≢ w ∷ []) (λ w. seen c.args.words.now ≡ w ∷ []) c.in_ok-word.word c.in-Some.file c.in-Some.is c.in_ok-word.ensures)

pub returns-in-None : goal.returns-in-None
returns-in-None c = no_replay (seen c.args.words.now) (none_at ((w : Word) → seen c.args.words.now ≢ w ∷ []) (λ w. seen c.args.words.now ≡ w ∷ []) c.in_ok-word.word c.in-None.is c.in_ok-word.ensures)
