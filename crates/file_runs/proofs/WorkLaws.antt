-- How a command ends that works on files, or on a workspace made of a number, once its lines were printed or memory ran out.
use Rattle.std.proofs.Common.{◌≡◌, ◌⊎◌, ◌∙◌, ap, refl, sym, subst, inl, inr, ℕ, ◌+◌, List, Bool}
use Rattle.std.specs.FinMap.{entries}
use Rattle.ls_base.specs.Limits.{max_text}
use Rattle.ls_base.specs.declared.places.Pos.{Pos}
use Rattle.read_documents.specs.Readings.{Read, AreReadAs, uses_in}
use Rattle.program_answers.proofs.TextLists.{some_row}
use Rattle.rename_conditions.specs.Readers.{Reader, IsReader}
use Rattle.rename_conditions.proofs.ReaderLaws.{reader_is_there}
use Rattle.file_fetching.specs.FilesSeen.{FilesSeen}
use Rattle.file_fetching.specs.Fetching.{Fetches, FetchesAll}
use Rattle.file_commands.specs.Checking.{checked_in, opened}
use Rattle.file_commands.specs.Renaming.{renamed_in, renaming_uses}
use Rattle.file_commands.specs.declared.checking.Checked.{Checked}
use Rattle.file_commands.specs.declared.renaming.Renamed.{Renamed}
use Rattle.generated_workspace.specs.Generated.{selfrun_texts}
use Rattle.generated_workspace.specs.Selfrun.{selfrun_lines, selfrun_uses}
use Rattle.command_output.specs.Prints.{SinkSeen}
use Rattle.file_runs.specs.WorkOutcome.{CheckEndsAs, PrintsLines, RenameEndsAs, RunsOut, SelfrunEndsAs, WorkSeen, check_status, rename_status, renamed_lines}
use Rattle.command_output.specs.declared.status.Status.{Status}
use Rattle.command_output.specs.declared.status.Status.TheVariants.{Done}

-- lines and a status by other names
same_lines : (text lines : List ℕ) (end other status : Status) (old new : SinkSeen) → text ≡ lines → end ≡ other → PrintsLines text end old new status → PrintsLines lines other old new status
same_lines text lines end other status old new same ends printed =
    subst (λ (e : Status). PrintsLines lines e old new status) ends (subst (λ (t : List ℕ). PrintsLines t end old new status) same printed)

-- ---- `check`

module _ (names contents : List (List ℕ)) (old new : WorkSeen) (status : Status) where
  pub checked_out : FetchesAll old.files new.files names max_text contents → RunsOut old.sink new.sink status → CheckEndsAs names old new status
  checked_out fetched out =
      let row = some_row (entries (opened names contents)) in
      inl (record { contents = contents; fetched = fetched; rs = row.0; read = row.1; ends = inr out })

  pub checks : (shown : List (List ℕ)) (checked : Checked) (text : List ℕ) (end : Status) → FetchesAll old.files new.files names max_text contents → shown ≡ contents →
      ((rs : List Read) → AreReadAs (entries (opened names shown)) rs → checked ≡ checked_in rs names shown) →
      ((rs : List Read) → AreReadAs (entries (opened names shown)) rs → new.steps ≡ old.steps + uses_in rs) →
      text ≡ checked.lines → end ≡ check_status checked.has_error → PrintsLines text end old.sink new.sink status → CheckEndsAs names old new status
  checks shown checked text end fetched same told steps lines ends printed =
      let row = some_row (entries (opened names contents)) in
      let rs = row.0 in
      let read : AreReadAs (entries (opened names shown)) rs = subst (λ (cs : List (List ℕ)). AreReadAs (entries (opened names cs)) rs) (sym same) row.1 in
      let is : checked ≡ checked_in rs names contents = told rs read ∙ ap (λ (cs : List (List ℕ)). checked_in rs names cs) same in
      inl (record {
        contents = contents;
        fetched = fetched;
        rs = rs;
        read = row.1;
        ends = inl (
          same_lines text (checked_in rs names contents).lines end (check_status (checked_in rs names contents).has_error) status old.sink new.sink
              (lines ∙ ap (λ (c : Checked). c.lines) is) (ends ∙ ap (λ (c : Checked). check_status c.has_error) is) printed,
          steps rs read,
        );
      })

-- ---- `rename`

module _ (name content : List ℕ) (position : Pos) (new_name : List ℕ) (old new : WorkSeen) (status : Status) where
  pub renamed_out : Fetches old.files new.files name max_text content → RunsOut old.sink new.sink status → RenameEndsAs name position new_name old new status
  renamed_out fetched out = inl (record { content = content; fetched = fetched; r = reader_is_there.0; rules = reader_is_there.1; ends = inr out })

  pub renames : (shown : List ℕ) (renamed : Renamed) (text : List ℕ) (end : Status) → Fetches old.files new.files name max_text content → shown ≡ content →
      ((r : Reader) → IsReader r → renamed ≡ renamed_in r name shown position new_name) →
      ((r : Reader) → IsReader r → new.steps ≡ old.steps + renaming_uses r name shown position new_name) →
      text ≡ renamed_lines renamed → end ≡ rename_status renamed → PrintsLines text end old.sink new.sink status → RenameEndsAs name position new_name old new status
  renames shown renamed text end fetched same told steps lines ends printed =
      let r = reader_is_there.0 in
      let is : renamed ≡ renamed_in r name content position new_name = told r reader_is_there.1 ∙ ap (λ (c : List ℕ). renamed_in r name c position new_name) same in
      inl (record {
        content = content;
        fetched = fetched;
        r = r;
        rules = reader_is_there.1;
        ends = inl (
          same_lines text (renamed_lines (renamed_in r name content position new_name)) end (rename_status (renamed_in r name content position new_name)) status old.sink new.sink
              (lines ∙ ap renamed_lines is) (ends ∙ ap rename_status is) printed,
          steps r reader_is_there.1 ∙ ap (λ (c : List ℕ). old.steps + renaming_uses r name c position new_name) same,
        );
      })

-- ---- `selfrun`

module _ (libraries : ℕ) (old new : WorkSeen) (status : Status) where
  pub selfrun_out : new.files ≡ old.files → RunsOut old.sink new.sink status → SelfrunEndsAs libraries old new status
  selfrun_out unasked out =
      let row = some_row (entries (selfrun_texts libraries)) in
      record { unasked = unasked; r = reader_is_there.0; rules = reader_is_there.1; rs = row.0; read = row.1; ends = inr out }

  pub selfruns : (lines text : List ℕ) → new.files ≡ old.files →
      ((r : Reader) (rs : List Read) → IsReader r → AreReadAs (entries (selfrun_texts libraries)) rs → lines ≡ selfrun_lines r rs libraries) →
      ((r : Reader) → IsReader r → new.steps ≡ old.steps + selfrun_uses r libraries) →
      text ≡ lines → PrintsLines text Done old.sink new.sink status → SelfrunEndsAs libraries old new status
  selfruns lines text unasked told steps same printed =
      let row = some_row (entries (selfrun_texts libraries)) in
      let r = reader_is_there.0 in
      record {
        unasked = unasked;
        r = r;
        rules = reader_is_there.1;
        rs = row.0;
        read = row.1;
        ends = inl (
          same_lines text (selfrun_lines r row.0 libraries) Done Done status old.sink new.sink (same ∙ told r row.0 reader_is_there.1 row.1) refl printed,
          steps r reader_is_there.1,
        );
      }
