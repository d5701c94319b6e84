use Rattle.std.proofs.Common.{◌≡◌, ◌≢◌, [], ◌∷◌, sym, codes}
use Rattle.command_words.specs.ClapWords.{seen}
use Rattle.command_words.specs.Words.{Word}
use Rattle.command_words.specs.declared.clap_words.FourWords.{FourWords}
use Rattle.command_words.proofs.Naming.{asked_as, no_rename, none_at, some_at}
use Rattle.command_words.proofs.reading.rename.Goals as goal

pub returns-in-Some : goal.returns-in-Some
returns-in-Some c =
    let words = seen c.args.words.now in
    let w = c.in-Some.four in
    asked_as (codes "rename") (w.file ∷ w.line ∷ w.column ∷ w.name ∷ []) words c.rename_of-command.result (sym (some_at ((a b c d : Word) → words ≢ a ∷ b ∷ c ∷ d ∷ []) (λ (w : FourWords). words ≡ w.file ∷ w.line ∷ w.column ∷ w.name ∷ []) c.in_ok-four.four c.in-Some.four c.in-Some.is c.in_ok-four.ensures)) c.rename_of-command.ensures

pub returns-in-None : goal.returns-in-None
returns-in-None c = let words = seen c.args.words.now in no_rename words (none_at ((a b c d : Word) → words ≢ a ∷ b ∷ c ∷ d ∷ []) (λ (w : FourWords). words ≡ w.file ∷ w.line ∷ w.column ∷ w.name ∷ []) c.in_ok-four.four c.in-None.is c.in_ok-four.ensures)
