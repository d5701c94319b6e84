-- What a run counts is told by its words, by what it read and wrote, and by its number, unless memory ran out or a write failed.
use Rattle.std.proofs.Common.{◌≡◌, ◌∙◌, ◌⊎◌, inl, inr, ◌+◌, ◌<◌, ◌≤◌, ℕ, List, [], ◌∷◌, ◌++◌, length, drop, Option, Some, None, Bool, true, false, refl, sym, ap, subst, append_assoc, append-nil, arith}
use Rattle.std.specs.FinMap.{entries}
use Rattle.std.specs.List.{AllByRecursion}
use Rattle.std.proofs.lemmas.List.{append_cancel_left, length-map, take-append-drop}
use Rattle.ls_base.specs.declared.places.Pos.{Pos}
use Rattle.ls_outside.specs.Calls.{LastTakesNone}
use Rattle.ls_outside.specs.Sources.{AreCuts, bytes_of}
use Rattle.command_words.specs.declared.command.Command.{Command}
use Rattle.command_words.specs.declared.command.Command.TheVariants.{Arrows, Check, Rename, Replay, Selfrun, Serve, ServeAhead, TooManyFiles, Unknown}
use Rattle.command_words.proofs.OneCommand.{one_command}
use Rattle.read_documents.specs.Readings.{Read, AreReadAs, uses_in}
use Rattle.program_answers.proofs.TextLists.{one_row}
use Rattle.rename_conditions.specs.Readers.{Reader}
use Rattle.rename_conditions.proofs.ReaderLaws.{readers_are_one}
use Rattle.file_fetching.specs.Fetching.{AreHeld, ReadEach, max_recording}
use Rattle.file_fetching.specs.declared.fetching.FetchStop.{FetchStop}
use Rattle.file_fetching.specs.declared.fetching.FetchStop.TheVariants as fetch
use Rattle.file_commands.specs.Checking.{opened}
use Rattle.file_commands.specs.Renaming.{renaming_uses}
use Rattle.file_commands.specs.declared.renaming.Renamed.{Renamed}
use Rattle.file_commands.specs.declared.renaming.Renamed.TheVariants as renamed
use Rattle.command_output.specs.Reads.{source_seen}
use Rattle.command_output.specs.Statuses.{code_of, fetch_status}
use Rattle.command_output.specs.Streams.{Streams, streams}
use Rattle.command_output.specs.declared.status.Status.{Status}
use Rattle.session_serving.specs.CountedBytes.{CountsAll}
use Rattle.session_serving.specs.ServeOutcome.{Serves}
use Rattle.session_serving.specs.SessionEnds.{session_status}
use Rattle.session_serving.specs.declared.answering.Exit.TheVariants as exits
use Rattle.session_serving.specs.declared.serve.SessionEnd.{SessionEnd}
use Rattle.session_serving.specs.declared.serve.SessionEnd.TheVariants as serve
use Rattle.session_serving.proofs.OneCount.{IsTold, all_over, one_of_bytes, one_reading_whole, one_session, one_session_ahead}
use Rattle.text_arrows.specs.ArrowsOutcome.{ArrowsEndsAs, OpensNone}
use Rattle.text_arrows.specs.ArrowsStatuses.{arrows_status}
use Rattle.text_arrows.specs.CountedText.{CountsAlone}
use Rattle.text_arrows.specs.declared.arrows.ArrowsEnd.{ArrowsEnd}
use Rattle.text_arrows.specs.declared.arrows.ArrowsEnd.TheVariants as arrows
use Rattle.text_arrows.specs.declared.arrows.TextEnd.TheVariants as text
use Rattle.text_arrows.proofs.OneText as alone
use Rattle.scheme_ls.specs.RunOutcome.{CommandEndsAs, NothingDone, RunEnds, Seen, counting}
use Rattle.file_runs.specs.WorkOutcome.{CheckEndsAs, PrintsLines, RenameEndsAs, RunsOut, WorkEndsAs, WorkSeen, check_status, rename_status, work_seen, selfrun_uses}
use Rattle.scheme_ls.specs.ReplayOutcome.{Replays, ReplayEndsAs, recording_piece}

-- a number that neither want of memory nor a failed write has
record IsPlain (code : ℕ) : Type 0 where
  memory : code ≡ 4 → ⊥
  write : code ≡ 5 → ⊥

-- ---- `arrows`

-- a text was opened, or none was
data Opened (old new : Streams) (before now code : ℕ) : Type 0 where
  One : (text : List ℕ) → LastTakesNone old.source.reads new.source.reads text → CountsAlone text before now → code < 2 → Opened old new before now code
  NoText : now ≡ before → 2 < code → Opened old new before now code

opened_by : (old new : Streams) (before now : ℕ) (end : ArrowsEnd) → ArrowsEndsAs old new before now end → (OpensNone end → now ≡ before) → (code : ℕ) → IsPlain code → code ≡ code_of (arrows_status end) → Opened old new before now code
opened_by old new before now (arrows.Answered text.Printed) ends none code plain is = One ends.text ends.reads.whole.calls ends.counted (omega (arith, is))
opened_by old new before now (arrows.Answered text.Refused) ends none code plain is = One ends.text ends.reads.whole.calls ends.counted (omega (arith, is))
opened_by old new before now (arrows.Answered text.WriteFailed) ends none code plain is = absurd (plain.write is)
opened_by old new before now (arrows.Answered text.NoMemory) ends none code plain is = absurd (plain.memory is)
opened_by old new before now arrows.TooLong ends none code plain is = NoText (none tt) (omega (arith, is))
opened_by old new before now arrows.ReadFailed ends none code plain is = NoText (none tt) (omega (arith, is))
opened_by old new before now arrows.NoMemory ends none code plain is = absurd (plain.memory is)

one_opened : (old new : Streams) (before m n code : ℕ) → Opened old new before m code → Opened old new before n code → m ≡ n
one_opened old new before m n code (One x read counted low) (One y other more below) =
    alone.one_count x before m n counted (subst (λ (t : List ℕ). CountsAlone t before n) (sym (one_reading_whole old.source.reads new.source.reads x y read other)) more)
one_opened old new before m n code (One x read counted low) (NoText same high) = absurd (omega (arith, low, high))
one_opened old new before m n code (NoText same high) (One x read counted low) = absurd (omega (arith, low, high))
one_opened old new before m n code (NoText same high) (NoText as_before over) = same ∙ sym as_before

-- ---- sessions

told_end : (end : SessionEnd) (code : ℕ) → IsPlain code → code ≡ code_of (session_status end) → IsTold end
told_end (serve.Exited exit) code plain is = tt
told_end serve.InputEnded code plain is = tt
told_end serve.ReadFailed code plain is = tt
told_end serve.WriteFailed code plain is = plain.write is
told_end serve.NoMemory code plain is = plain.memory is
told_end serve.FrameFault code plain is = tt
told_end serve.Endless code plain is = tt

-- ---- lines

work_counts : (lines : List ℕ) (end : Status) (uses : ℕ) (old new : WorkSeen) (status : Status) (code : ℕ) → IsPlain code → code ≡ code_of status → WorkEndsAs lines end uses old new status → (new.steps ≡ old.steps + uses) × (code ≡ code_of end)
work_counts lines end uses old new status code plain is (inl done) = (done.1, by_lines done.0)
  where
    by_lines : PrintsLines lines end old.sink new.sink status → code ≡ code_of end
    by_lines (inl printed) = is ∙ ap code_of printed.0
    by_lines (inr failed) = absurd (plain.write (is ∙ ap code_of failed.0))
work_counts lines end uses old new status code plain is (inr out) = absurd (plain.memory (is ∙ ap code_of out.0))

check_low : (has_error : Bool) → code_of (check_status has_error) < 2
check_low true = omega arith
check_low false = omega arith

rename_low : (r : Renamed) → code_of (rename_status r) < 2
rename_low (renamed.Edits lines) = omega arith
rename_low (renamed.Refused lines) = omega arith
rename_low (renamed.NotUtf8 lines) = omega arith

fetch_high : (stop : FetchStop) → (code_of (fetch_status stop) ≡ 3) ⊎ ((code_of (fetch_status stop) ≡ 7) ⊎ (code_of (fetch_status stop) ≡ 4))
fetch_high fetch.Long = inr (inl refl)
fetch_high fetch.Failed = inl refl
fetch_high fetch.Memory = inr (inr refl)

over_two : (stop : FetchStop) (code : ℕ) → code ≡ code_of (fetch_status stop) → code < 2 → ⊥
over_two stop code is low = by (fetch_high stop)
  where
    by : (code_of (fetch_status stop) ≡ 3) ⊎ ((code_of (fetch_status stop) ≡ 7) ⊎ (code_of (fetch_status stop) ≡ 4)) → ⊥
    by (inl three) = omega (arith, is, low, three)
    by (inr (inl seven)) = omega (arith, is, low, seven)
    by (inr (inr four)) = omega (arith, is, low, four)

-- ---- `check`

abbrev IsSome : List ℕ → Type 0
IsSome piece = 0 < length piece

-- up to the first empty piece
to_first_empty : (p q x y : List (List ℕ)) → AllByRecursion IsSome p → AllByRecursion IsSome q → p ++ [] ∷ x ≡ q ++ [] ∷ y → (p ≡ q) × (x ≡ y)
to_first_empty [] [] x y a b is = (refl, rest is)
  where
    rest : [] ∷ x ≡ [] ∷ y → x ≡ y
    rest same = cc
to_first_empty [] (g ∷ q) x y a b is = absurd (by (head is))
  where
    head : [] ∷ x ≡ g ∷ (q ++ [] ∷ y) → [] ≡ g
    head same = cc

    by : [] ≡ g → ⊥
    by empty = let none = sym (ap length empty) in let some = b.0 in omega (arith, none, some)
to_first_empty (f ∷ p) [] x y a b is = absurd (by (head is))
  where
    head : f ∷ (p ++ [] ∷ x) ≡ [] ∷ y → f ≡ []
    head same = cc

    by : f ≡ [] → ⊥
    by empty = let none = ap length empty in let some = a.0 in omega (arith, none, some)
to_first_empty (f ∷ p) (g ∷ q) x y a b is =
    let more = to_first_empty p q x y a.1 b.1 (tail is) in
    (λ j. head is j ∷ more.0 j, more.1)
  where
    head : f ∷ (p ++ [] ∷ x) ≡ g ∷ (q ++ [] ∷ y) → f ≡ g
    head same = cc

    tail : f ∷ (p ++ [] ∷ x) ≡ g ∷ (q ++ [] ∷ y) → p ++ [] ∷ x ≡ q ++ [] ∷ y
    tail same = cc

-- contents were read, and what was read before stands in front
each_grows : (old new contents : List (List ℕ)) → ReadEach old new contents → (more : List (List ℕ)) × (new ≡ old ++ more)
each_grows old new [] h = ([], h ∙ sym (append-nil old))
each_grows old new (content ∷ contents) h =
    let first = h.1 in
    let more = each_grows h.0 new contents h.2 in
    let calls = first.earlier.take.calls in (
      calls ++ ([] ∷ more.0),
      more.1 ∙ ap (λ (mid : List (List ℕ)). mid ++ more.0) (first.call ∙ ap (λ (mid : List (List ℕ)). mid ++ [] ∷ []) first.earlier.take.more)
          ∙ append_assoc (old ++ calls) ([] ∷ []) more.0 ∙ append_assoc old calls ([] ∷ more.0),
    )

-- the calls of the first content, and those of the others behind them
record FirstCalls (old new : List (List ℕ)) (content : List ℕ) (mid : List (List ℕ)) : Type 0 where
  calls : List (List ℕ)
  later : List (List ℕ)
  some : AllByRecursion IsSome calls
  whole : content ≡ bytes_of calls
  mid_is : mid ≡ old ++ (calls ++ [] ∷ [])
  all : new ≡ old ++ (calls ++ [] ∷ later)

first_calls : (old new contents : List (List ℕ)) (content : List ℕ) (h : ReadEach old new (content ∷ contents)) → FirstCalls old new content h.0
first_calls old new contents content h =
    let first = h.1 in
    let calls = first.earlier.take.calls in
    let more = each_grows h.0 new contents h.2 in
    let mid_is : h.0 ≡ old ++ (calls ++ [] ∷ []) = first.call ∙ ap (λ (mid : List (List ℕ)). mid ++ [] ∷ []) first.earlier.take.more ∙ append_assoc old calls ([] ∷ []) in
    record {
      calls = calls;
      later = more.0;
      some = first.earlier.some;
      whole = first.earlier.take.whole;
      mid_is = mid_is;
      all = more.1 ∙ ap (λ (mid : List (List ℕ)). mid ++ more.0) mid_is ∙ append_assoc old (calls ++ [] ∷ []) more.0 ∙ ap (λ (rest : List (List ℕ)). old ++ rest) (append_assoc calls ([] ∷ []) more.0);
    }

one_contents : (old new xs ys : List (List ℕ)) → length xs ≡ length ys → ReadEach old new xs → ReadEach old new ys → xs ≡ ys
one_contents old new [] [] same h k = refl
one_contents old new [] (y ∷ ys) same h k = absurd (omega (arith, same))
one_contents old new (x ∷ xs) [] same h k = absurd (omega (arith, same))
one_contents old new (x ∷ xs) (y ∷ ys) same h k =
    let a = first_calls old new xs x h in
    let b = first_calls old new ys y k in
    let calls = to_first_empty a.calls b.calls a.later b.later a.some b.some (append_cancel_left old (a.calls ++ [] ∷ a.later) (b.calls ++ [] ∷ b.later) (sym a.all ∙ b.all)) in
    let mid : h.0 ≡ k.0 = a.mid_is ∙ ap (λ (cs : List (List ℕ)). old ++ (cs ++ [] ∷ [])) calls.0 ∙ sym b.mid_is in
    let content : x ≡ y = a.whole ∙ ap bytes_of calls.0 ∙ sym b.whole in
    let more = one_contents h.0 new xs ys (omega (arith, same)) h.2 (subst (λ (m : List (List ℕ)). ReadEach m new ys) (sym mid) k.2) in
    λ j. content j ∷ more j

held_length : (held : Option (List ℕ → Option (List ℕ))) (names contents : List (List ℕ)) → AreHeld held names contents → length contents ≡ length names
held_length None names contents are = are
held_length (Some held) names contents are = sym (length-map contents Some) ∙ sym (ap length are) ∙ length-map names held

module _ (old new : Seen) (code : ℕ) (plain : IsPlain code) where
  abbrev work_before : WorkSeen
  work_before = work_seen old.files old.streams.sink old.steps

  abbrev work_after : ℕ → WorkSeen
  work_after n = work_seen new.files new.streams.sink n

  one_check : (names : List (List ℕ)) (m n : ℕ) (s t : Status) → code ≡ code_of s → code ≡ code_of t → CommandEndsAs (Check names) old (counting new m) s → CommandEndsAs (Check names) old (counting new n) t → m ≡ n
  one_check names m n s t is so h k = by h.ends k.ends
    where
      by : CheckEndsAs names work_before (work_after m) s → CheckEndsAs names work_before (work_after n) t → m ≡ n
      by (inl a) (inl b) =
          let contents = one_contents old.files.reads new.files.reads a.contents b.contents (held_length old.files.held names a.contents a.fetched.are ∙ sym (held_length old.files.held names b.contents b.fetched.are)) a.fetched.reads b.fetched.reads in
          let rows = one_row (entries (opened names a.contents)) a.rs b.rs a.read (subst (λ (cs : List (List ℕ)). AreReadAs (entries (opened names cs)) b.rs) (sym contents) b.read) in
          (work_counts _ _ _ work_before (work_after m) s code plain is a.ends).0 ∙ ap (λ (rs : List Read). old.steps + uses_in rs) rows ∙ sym (work_counts _ _ _ work_before (work_after n) t code plain so b.ends).0
      by (inl a) (inr b) = let low = check_low _ in let same = (work_counts _ _ _ work_before (work_after m) s code plain is a.ends).1 in absurd (over_two b.stop code (so ∙ ap code_of b.stops.status_is) (subst (λ (c : ℕ). c < 2) (sym same) low))
      by (inr a) (inl b) = let low = check_low _ in let same = (work_counts _ _ _ work_before (work_after n) t code plain so b.ends).1 in absurd (over_two a.stop code (is ∙ ap code_of a.stops.status_is) (subst (λ (c : ℕ). c < 2) (sym same) low))
      by (inr a) (inr b) = a.stops.uncounted ∙ sym b.stops.uncounted

  -- ---- one file
  one_rename : (name : List ℕ) (position : Pos) (new_name : List ℕ) (m n : ℕ) (s t : Status) → code ≡ code_of s → code ≡ code_of t →
      CommandEndsAs (Rename name position new_name) old (counting new m) s → CommandEndsAs (Rename name position new_name) old (counting new n) t → m ≡ n
  one_rename name position new_name m n s t is so h k = by h.ends k.ends
    where
      by : RenameEndsAs name position new_name work_before (work_after m) s → RenameEndsAs name position new_name work_before (work_after n) t → m ≡ n
      by (inl a) (inl b) =
          let content = one_reading_whole old.files.reads new.files.reads a.content b.content a.fetched.reads b.fetched.reads in
          let reader = readers_are_one a.r b.r a.rules b.rules in
          (work_counts _ _ _ work_before (work_after m) s code plain is a.ends).0
          ∙ (λ j. old.steps + renaming_uses (reader j) name (content j) position new_name)
          ∙ sym (work_counts _ _ _ work_before (work_after n) t code plain so b.ends).0
      by (inl a) (inr b) = let low = rename_low _ in let same = (work_counts _ _ _ work_before (work_after m) s code plain is a.ends).1 in absurd (over_two b.stop code (so ∙ ap code_of b.stops.status_is) (subst (λ (c : ℕ). c < 2) (sym same) low))
      by (inr a) (inl b) = let low = rename_low _ in let same = (work_counts _ _ _ work_before (work_after n) t code plain so b.ends).1 in absurd (over_two a.stop code (is ∙ ap code_of a.stops.status_is) (subst (λ (c : ℕ). c < 2) (sym same) low))
      by (inr a) (inr b) = a.stops.uncounted ∙ sym b.stops.uncounted

  one_selfrun : (libraries m n : ℕ) (s t : Status) → code ≡ code_of s → code ≡ code_of t → CommandEndsAs (Selfrun libraries) old (counting new m) s → CommandEndsAs (Selfrun libraries) old (counting new n) t → m ≡ n
  one_selfrun libraries m n s t is so h k =
      let reader = readers_are_one h.ends.r k.ends.r h.ends.rules k.ends.rules in
      (work_counts _ _ _ work_before (work_after m) s code plain is h.ends.ends).0 ∙ ap (λ (r : Reader). old.steps + selfrun_uses r libraries) reader ∙ sym (work_counts _ _ _ work_before (work_after n) t code plain so k.ends.ends).0

-- ---- `replay`

cut_bytes : (bytes : List ℕ) (pieces : List (List ℕ)) → AreCuts recording_piece bytes pieces → bytes_of pieces ≡ bytes
cut_bytes bytes [] cut = sym cut
cut_bytes bytes (piece ∷ pieces) cut =
    (λ j. cut.1 j ++ cut_bytes (drop recording_piece bytes) pieces cut.2 j) ∙ take-append-drop recording_piece bytes

-- a source that never fails fails at no read
none_rose : (n : ℕ) → n ≡ 0 → (0 < n) ⊎ (n ≡ 18446744073709551615) → ⊥
none_rose n none (inl more) = omega (arith, none, more)
none_rose n none (inr last) = omega (arith, none, last)

never_fails : (end : SessionEnd) (bytes : List ℕ) (old new : WorkSeen) (status : Status) (r : Replays bytes old new status) → r.end ≡ end → end ≡ serve.ReadFailed → ⊥
never_fails end bytes old new status r is failed = by r.end (is ∙ failed) r.serves
  where
    by : (e : SessionEnd) → e ≡ serve.ReadFailed → Serves (streams (source_seen (Some r.pieces) 0 []) old.sink) (streams r.after new.sink) old.steps new.steps e → ⊥
    by e here h = none_rose r.after.faults r.sure (subst (Serves (streams (source_seen (Some r.pieces) 0 []) old.sink) (streams r.after new.sink) old.steps new.steps) here h).ends.source.failed.rose

session_low : (end : SessionEnd) (code : ℕ) → IsPlain code → code ≡ code_of (session_status end) → code ≡ 7 → ⊥
session_low (serve.Exited exits.Clean) code plain is seven = omega (arith, is, seven)
session_low (serve.Exited exits.Early) code plain is seven = omega (arith, is, seven)
session_low serve.InputEnded code plain is seven = omega (arith, is, seven)
session_low serve.ReadFailed code plain is seven = omega (arith, is, seven)
session_low serve.WriteFailed code plain is seven = omega (arith, is, seven)
session_low serve.NoMemory code plain is seven = omega (arith, is, seven)
session_low serve.FrameFault code plain is seven = omega (arith, is, seven)
session_low serve.Endless code plain is seven = omega (arith, is, seven)

-- 3 is the status of a read that fails, and no other end of a session has it
three_failed : (end : SessionEnd) (code : ℕ) → code ≡ code_of (session_status end) → code ≡ 3 → end ≡ serve.ReadFailed
three_failed (serve.Exited exits.Clean) code is three = absurd (omega (arith, is, three))
three_failed (serve.Exited exits.Early) code is three = absurd (omega (arith, is, three))
three_failed serve.InputEnded code is three = absurd (omega (arith, is, three))
three_failed serve.ReadFailed code is three = refl
three_failed serve.WriteFailed code is three = absurd (omega (arith, is, three))
three_failed serve.NoMemory code is three = absurd (omega (arith, is, three))
three_failed serve.FrameFault code is three = absurd (omega (arith, is, three))
three_failed serve.Endless code is three = absurd (omega (arith, is, three))

replay_counts : (bytes : List ℕ) (old new : WorkSeen) (status : Status) (code : ℕ) → IsPlain code → code ≡ code_of status → length bytes ≤ max_recording → Replays bytes old new status → CountsAll bytes old.steps new.steps
replay_counts bytes old new status code plain is short r =
    let whole = cut_bytes bytes r.pieces r.cut in
    let size = ap length whole in
    subst (λ (b : List ℕ). CountsAll b old.steps new.steps) whole
    (all_over r.pieces old.sink (streams r.after new.sink) old.steps new.steps r.end (told_end r.end code plain (is ∙ ap code_of r.status_is)) (never_fails r.end bytes old new status r refl) (omega (arith, short, size)) r.serves)

replay_stops : (bytes : List ℕ) (old new : WorkSeen) (status : Status) (code : ℕ) (stop : FetchStop) → IsPlain code → code ≡ code_of status → Replays bytes old new status → code ≡ code_of (fetch_status stop) → ⊥
replay_stops bytes old new status code stop plain is r so = by (fetch_high stop)
  where
    by : (code_of (fetch_status stop) ≡ 3) ⊎ ((code_of (fetch_status stop) ≡ 7) ⊎ (code_of (fetch_status stop) ≡ 4)) → ⊥
    by (inl three) = never_fails r.end bytes old new status r refl (three_failed r.end code (is ∙ ap code_of r.status_is) (so ∙ three))
    by (inr (inl seven)) = session_low r.end code plain (is ∙ ap code_of r.status_is) (so ∙ seven)
    by (inr (inr four)) = plain.memory (so ∙ four)

module _ (old new : Seen) (code : ℕ) (plain : IsPlain code) where
  abbrev replay_before : WorkSeen
  replay_before = work_seen old.files old.streams.sink old.steps

  abbrev replay_after : ℕ → WorkSeen
  replay_after n = work_seen new.files new.streams.sink n

  one_replay : (name : List ℕ) (m n : ℕ) (s t : Status) → code ≡ code_of s → code ≡ code_of t → CommandEndsAs (Replay name) old (counting new m) s → CommandEndsAs (Replay name) old (counting new n) t → m ≡ n
  one_replay name m n s t is so h k = by h.ends k.ends
    where
      by : ReplayEndsAs name replay_before (replay_after m) s → ReplayEndsAs name replay_before (replay_after n) t → m ≡ n
      by (inl a) (inl b) = both a.ends b.ends
        where
          both : Replays a.content replay_before (replay_after m) s ⊎ RunsOut old.streams.sink new.streams.sink s → Replays b.content replay_before (replay_after n) t ⊎ RunsOut old.streams.sink new.streams.sink t → m ≡ n
          both (inl p) (inl q) =
              let content = one_reading_whole old.files.reads new.files.reads a.content b.content a.fetched.reads b.fetched.reads in
              one_of_bytes a.content old.steps m n (replay_counts a.content replay_before (replay_after m) s code plain is a.fetched.within_limit p)
              (subst (λ (c : List ℕ). CountsAll c old.steps n) (sym content) (replay_counts b.content replay_before (replay_after n) t code plain so b.fetched.within_limit q))
          both (inr out) q = absurd (plain.memory (is ∙ ap code_of out.0))
          both (inl p) (inr out) = absurd (plain.memory (so ∙ ap code_of out.0))
      by (inl a) (inr b) = one a.ends
        where
          one : Replays a.content replay_before (replay_after m) s ⊎ RunsOut old.streams.sink new.streams.sink s → m ≡ n
          one (inl p) = absurd (replay_stops a.content replay_before (replay_after m) s code b.stop plain is p (so ∙ ap code_of b.stops.status_is))
          one (inr out) = absurd (plain.memory (is ∙ ap code_of out.0))
      by (inr a) (inl b) = one b.ends
        where
          one : Replays b.content replay_before (replay_after n) t ⊎ RunsOut old.streams.sink new.streams.sink t → m ≡ n
          one (inl p) = absurd (replay_stops b.content replay_before (replay_after n) t code a.stop plain so p (is ∙ ap code_of a.stops.status_is))
          one (inr out) = absurd (plain.memory (so ∙ ap code_of out.0))
      by (inr a) (inr b) = a.stops.uncounted ∙ sym b.stops.uncounted

  -- ---- all commands

  one_command_count : (command : Command) (m n : ℕ) (s t : Status) → code ≡ code_of s → code ≡ code_of t → CommandEndsAs command old (counting new m) s → CommandEndsAs command old (counting new n) t → m ≡ n
  one_command_count Arrows m n s t is so h k =
      one_opened old.streams new.streams old.steps m n code (opened_by old.streams new.streams old.steps m h.end h.ends h.uncounted code plain (is ∙ ap code_of h.status_is))
      (opened_by old.streams new.streams old.steps n k.end k.ends k.uncounted code plain (so ∙ ap code_of k.status_is))
  one_command_count Serve m n s t is so h k =
      one_session old.streams new.streams old.steps m n h.end k.end (told_end h.end code plain (is ∙ ap code_of h.status_is)) (told_end k.end code plain (so ∙ ap code_of k.status_is)) h.serves k.serves
  one_command_count ServeAhead m n s t is so h k =
      one_session_ahead old.streams new.streams old.steps m n h.end k.end (told_end h.end code plain (is ∙ ap code_of h.status_is)) (told_end k.end code plain (so ∙ ap code_of k.status_is)) h.serves k.serves
  one_command_count (Replay file) m n s t is so h k = one_replay file m n s t is so h k
  one_command_count (Check files) m n s t is so h k = one_check old new code plain files m n s t is so h k
  one_command_count TooManyFiles m n s t is so h k = ap (λ (x : Seen). x.steps) h.1 ∙ sym (ap (λ (x : Seen). x.steps) k.1)
  one_command_count (Rename file position name) m n s t is so h k = one_rename old new code plain file position name m n s t is so h k
  one_command_count (Selfrun libraries) m n s t is so h k = one_selfrun old new code plain libraries m n s t is so h k
  one_command_count Unknown m n s t is so h k = h.1.steps ∙ sym k.1.steps

  either_count : (command : Command) (m n : ℕ) (s t : Status) → code ≡ code_of s → code ≡ code_of t → CommandEndsAs command old (counting new m) s ⊎ NothingDone old (counting new m) s →
      CommandEndsAs command old (counting new n) t ⊎ NothingDone old (counting new n) t → m ≡ n
  either_count command m n s t is so (inl h) (inl k) = one_command_count command m n s t is so h k
  either_count command m n s t is so (inr none) k = absurd (plain.memory (is ∙ ap code_of none.0))
  either_count command m n s t is so (inl h) (inr none) = absurd (plain.memory (so ∙ ap code_of none.0))

pub one_count : (words : List (List ℕ)) (old new : Seen) (m n code : ℕ) → (code ≡ 4 → ⊥) → (code ≡ 5 → ⊥) → RunEnds words old (counting new m) code → RunEnds words old (counting new n) code → m ≡ n
one_count words old new m n code memory write h k =
    either_count old new code (record { memory = memory; write = write }) h.command m n h.status k.status h.number k.number h.ends
    (subst (λ (c : Command). CommandEndsAs c old (counting new n) k.status ⊎ NothingDone old (counting new n) k.status) (sym (one_command words h.command k.command h.asked k.asked)) k.ends)
