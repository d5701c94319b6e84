use Rattle.std.proofs.Common.{◌≡◌, ◌<◌, [], length, codes}
use Rattle.command_words.specs.ClapWords.{seen}
use Rattle.command_words.proofs.Naming.{asked_as, no_check, none_at, some_at}
use Rattle.command_words.proofs.reading.check.Goals as goal

pub check_of-requires : goal.check_of-requires
check_of-requires c = (some_at (seen c.args.words.now ≡ []) (λ all. (all ≡ seen c.args.words.now) × (0 < length all)) c.in_ok-all.all c.in-Some.all c.in-Some.is c.in_ok-all.ensures).1

pub returns-in_ok-command-in-Some : goal.returns-in_ok-command-in-Some
returns-in_ok-command-in-Some c =
    asked_as (codes "check") c.in-Some.all (seen c.args.words.now) c.in_ok-command-in-Some.command (some_at (seen c.args.words.now ≡ []) (λ all. (all ≡ seen c.args.words.now) × (0 < length all)) c.in_ok-all.all c.in-Some.all c.in-Some.is c.in_ok-all.ensures).0 c.in_ok-command-in-Some.ensures

pub returns-in-None : goal.returns-in-None
returns-in-None c = no_check (seen c.args.words.now) (none_at (seen c.args.words.now ≡ []) (λ all. (all ≡ seen c.args.words.now) × (0 < length all)) c.in_ok-all.all c.in-None.is c.in_ok-all.ensures)
