use Rattle.std.proofs.Common.{◌≡◌, ◌≢◌, [], ◌∷◌, ◌∙◌, sym, ap, codes}
use Rattle.command_words.specs.ClapWords.{seen}
use Rattle.command_words.specs.Words.{Word}
use Rattle.command_words.proofs.Naming.{asked_as, no_selfrun, none_at, some_at}
use Rattle.command_words.proofs.reading.selfrun.Goals as goal

pub returns-in-Some : goal.returns-in-Some
returns-in-Some c =
    asked_as (codes "selfrun") (c.as_str.result.now ∷ []) (seen c.args.words.now) c.selfrun_of-command.result
    (ap (λ (w : Word). w ∷ []) c.as_str.ensures ∙ sym (some_at ((w : Word) → seen c.args.words.now ≢ w ∷ []) (λ w. seen c.args.words.now ≡ w ∷ []) c.in_ok-word.word c.in-Some.count c.in-Some.is c.in_ok-word.ensures)) c.selfrun_of-command.ensures

pub returns-in-None : goal.returns-in-None
returns-in-None c = no_selfrun (seen c.args.words.now) (none_at ((w : Word) → seen c.args.words.now ≢ w ∷ []) (λ w. seen c.args.words.now ≡ w ∷ []) c.in_ok-word.word c.in-None.is c.in_ok-word.ensures)
