use Rattle.std.proofs.Common.{◌≡◌, ◌<◌, ◌≤◌, List, length, refl, ap, arith, codes}
use Rattle.ls_base.specs.Limits.{max_documents}
use Rattle.command_words.specs.Different.{different}
use Rattle.command_words.specs.Words.{Word}
use Rattle.command_words.specs.declared.command.Command.TheVariants.{Check, TooManyFiles}
use Rattle.command_words.proofs.Naming.{asked_as, none_at, some_at}
use Rattle.command_words.proofs.reading.check_of.Goals as goal

pub returns-in-Some : goal.returns-in-Some
returns-in-Some c =
    let few = some_at (max_documents < length (different c.as_slice.result.now)) (λ all. (all ≡ different c.as_slice.result.now) × (length all ≤ max_documents)) c.in_ok-files.files c.in-Some.files c.in-Some.is c.in_ok-files.ensures in
    let same = ap (λ (ws : List Word). length ws) c.as_slice.ensures in
    let some : 0 < length c.as_slice.result.now = omega (arith, same, c.requires) in
    asked_as (codes "check") c.as_slice.result.now c.args.words.now (Check c.in-Some.files) c.as_slice.ensures (refl, (some, few.0, few.1))

pub returns-in-None : goal.returns-in-None
returns-in-None c =
    asked_as (codes "check") c.as_slice.result.now c.args.words.now TooManyFiles c.as_slice.ensures (refl, none_at (max_documents < length (different c.as_slice.result.now)) (λ all. (all ≡ different c.as_slice.result.now) × (length all ≤ max_documents)) c.in_ok-files.files c.in-None.is c.in_ok-files.ensures)
