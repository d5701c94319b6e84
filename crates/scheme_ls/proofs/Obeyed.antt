-- A command ended, so it ended as that command does.
use Rattle.std.proofs.Common.{◌≡◌, ℕ, List, sym, subst}
use Rattle.ls_base.specs.declared.places.Pos.{Pos}
use Rattle.command_words.specs.declared.command.Command.{Command}
use Rattle.command_words.specs.declared.command.Command.TheVariants.{Arrows, Check, Rename, Replay, Selfrun, Serve, ServeAhead, TooManyFiles, Unknown}
use Rattle.scheme_ls.specs.RunOutcome.{ArrowsDone, AsksNothing, CommandEndsAs, Seen, ServeAheadDone, ServeDone, UsageDone, Works}
use Rattle.file_runs.specs.WorkOutcome.{CheckEndsAs, RenameEndsAs, SelfrunEndsAs}
use Rattle.scheme_ls.specs.ReplayOutcome.{ReplayEndsAs}
use Rattle.command_output.specs.declared.status.Status.{Status}
use Rattle.command_output.specs.declared.status.Status.TheVariants.{TooLong}

module _ (command : Command) (old new : Seen) (status : Status) where
  ended : (other : Command) → command ≡ other → CommandEndsAs other old new status → CommandEndsAs command old new status
  ended other is ends = subst (λ (c : Command). CommandEndsAs c old new status) (sym is) ends

  pub arrows_ended : command ≡ Arrows → ArrowsDone old new status → CommandEndsAs command old new status
  arrows_ended is done = ended Arrows is done

  pub serve_ended : command ≡ Serve → ServeDone old new status → CommandEndsAs command old new status
  serve_ended is done = ended Serve is done

  pub ahead_ended : command ≡ ServeAhead → ServeAheadDone old new status → CommandEndsAs command old new status
  ahead_ended is done = ended ServeAhead is done

  pub replay_ended : (file : List ℕ) → command ≡ Replay file → Works (ReplayEndsAs file) old new status → CommandEndsAs command old new status
  replay_ended file is done = ended (Replay file) is done

  pub check_ended : (files : List (List ℕ)) → command ≡ Check files → Works (CheckEndsAs files) old new status → CommandEndsAs command old new status
  check_ended files is done = ended (Check files) is done

  pub too_many_ended : command ≡ TooManyFiles → status ≡ TooLong → new ≡ old → CommandEndsAs command old new status
  too_many_ended is long none = ended TooManyFiles is (long, none)

  pub rename_ended : (file : List ℕ) (position : Pos) (name : List ℕ) → command ≡ Rename file position name → Works (RenameEndsAs file position name) old new status → CommandEndsAs command old new status
  rename_ended file position name is done = ended (Rename file position name) is done

  pub selfrun_ended : (libraries : ℕ) → command ≡ Selfrun libraries → Works (SelfrunEndsAs libraries) old new status → CommandEndsAs command old new status
  selfrun_ended libraries is done = ended (Selfrun libraries) is done

  pub unknown_ended : command ≡ Unknown → UsageDone old.streams new.streams status → AsksNothing old new → CommandEndsAs command old new status
  unknown_ended is usage none = ended Unknown is (usage, none)
