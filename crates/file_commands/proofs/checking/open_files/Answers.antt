-- One file more is opened.
use Rattle.std.proofs.Common.{◌≡◌, ◌≤◌, ◌+◌, List, [], length, Vec, Global, ℕ, ap, ◌∙◌, arith, rules, subst, sym}
use Rattle.std.proofs.lemmas.Slice.Zip.{Zip-more, either_empty_from_Zip}
use Rattle.std.specs.Cmp.Lexicographic.{slice_cmp}
use Rattle.std.specs.FinMap.{len, len-empty}
use Rattle.std.specs.Iterator.Adapters.{zip_first, zip_second}
use Rattle.std.specs.List.{AllByRecursion, fold, zip}
use Rattle.std.specs.Ordering.{nat_cmp}
use Rattle.std.specs.Slice.Iter.{iter_rest}
use Rattle.ls_base.specs.Limits.{max_documents, max_text}
use Rattle.document_store.specs.Texts.{Document, Texts}
use Rattle.file_commands.specs.Checking.{bytes_in, open_file, opened}
use Rattle.file_commands.proofs.FileLaws.{files_more, files_none}
use Rattle.file_commands.proofs.Room.{fits_now, fit_after}
use Rattle.file_commands.proofs.checking.open_files.Goals as goal

pub loop-name-init : goal.loop-name-init
loop-name-init c =
    let first : iter_rest (zip_first c.into_iter-name-iterator.result) ≡ c.args.names.now = search rules in
    let second : iter_rest (zip_second c.into_iter-name-iterator.result) ≡ c.args.contents.now = search rules in
    let none : len c.new-store.result ≡ 0 = ap (λ (t : Texts). len t) c.new-store.ensures ∙ len-empty (slice_cmp nat_cmp) Document in
    record {
      same = λ i. fold open_file (c.new-store.ensures i) (zip (first i) (bytes_in (second i)));
      fit = record {
        room = omega (arith, none, ap (λ (xs : List (List ℕ)). length xs) first, c.requires.few);
        short = subst (λ (xs : List (Vec ℕ Global)). AllByRecursion (λ content. length content ≤ max_text) (bytes_in xs)) (sym second) c.requires.short;
      };
    }

pub loop-name-preserved : goal.loop-name-preserved
loop-name-preserved c =
    let s = c.loop-name.name-iterator in
    let t = c.next.new.self in
    let more = Zip-more s t c.next.result (c.in-Some.name, c.in-Some.content) c.in-Some.is c.next.ensures.steps in
    record {
      same = files_more open_file (iter_rest (zip_first s)) (iter_rest (zip_second s)) c.loop-name.store (opened c.args.names.now (bytes_in c.args.contents.now)) (iter_rest (zip_first t)) (iter_rest (zip_second t))
          c.in-Some.name.now c.in-Some.content.now c.as_slice.result.now c.open_file.new.store more.0 more.1 c.as_slice.ensures.value c.in_ok-open_file.ensures c.loop-name.invariant.same;
      fit = fit_after c.loop-name.store (iter_rest (zip_first s)) (iter_rest (zip_first t)) (iter_rest (zip_second s)) (iter_rest (zip_second t)) c.in-Some.name.now c.in-Some.content.now more.0 more.1 c.loop-name.invariant.fit
          c.open_file.new.store c.as_slice.result.now c.as_slice.ensures.value c.in_ok-open_file.ensures;
    }

pub returns : goal.returns
returns c =
    let s = c.loop-name.name-iterator in
    files_none open_file (iter_rest (zip_first s)) (iter_rest (zip_second s)) c.loop-name.store (opened c.args.names.now (bytes_in c.args.contents.now))
    (either_empty_from_Zip s c.next.new.self c.next.result c.in-None.is c.next.ensures.steps) c.loop-name.invariant.same
