-- Each unit is new when its turn comes, since each stands once in the order.
use Rattle.std.proofs.Common.{◌≡◌, ℕ, zero, suc, ◌+◌, ◌<◌, [], ◌∷◌, ◌++◌, take, drop, length, refl, sym, ap, ◌∙◌, subst, arith, get_or, List, None}
use Rattle.std.specs.Prelude.{Option}
use Rattle.std.proofs.lemmas.List.{length-replicate, take_all, take_more}
use Rattle.std.proofs.lemmas.Option.{slice_get-get_or}
use Rattle.syntax_tree.proofs.Places.{none_some}
use Rattle.unit_scopes.specs.Opened.{IsNew}
use Rattle.unit_scopes.proofs.OutcomeLaws.{grows_itself}
use Rattle.form_expansion.proofs.BenchLaws.{grows_behind}
use Rattle.unit_imports.specs.declared.expanded.Expanded.{Expanded}
use Rattle.scheme_model.specs.ScopedProgram.{scoped_before}
use Rattle.program_expansion.specs.UnitResults.{HaveCome, IsUpTo}
use Rattle.unit_results.specs.Formed.{CameFormed}
use Rattle.unit_imports.specs.EntriesMeant.{ExportsMean}
use Rattle.document_units.specs.Turned.{scoped_at}
use Rattle.unit_results.specs.UnitsExpanded.{AreAllFound}
use Rattle.program_expansion.specs.UsesInTurn.{uses_at}
use Rattle.unit_results.specs.UnitsFound.{HaveFound}
use Rattle.document_units.proofs.BrokenLaws.{heads_itself, heads_on, names_itself, names_then}
use Rattle.read_documents.proofs.HeadsKept.{heads_kept}
use Rattle.unit_results.proofs.SoundKept.{sound_with}
use Rattle.program_expansion.proofs.Turns.{in_at, later_hold}
use Rattle.program_expansion.proofs.UpTo.{none_come}
use Rattle.unit_results.proofs.UnitsTurns.{none_found, none_mean, none_formed}
use Rattle.program_expansion.proofs.expanding.expand_all.Goals as goal

-- the places up to one, it, and those behind it
split_at : (xs : List ℕ) (i p : ℕ) → i < length xs → xs ≡ take i xs ++ get_or xs i p ∷ drop (suc i) xs
split_at [] i p lt = absurd (omega arith)
split_at (x ∷ xs) zero p lt = refl
split_at (x ∷ xs) (suc i) p lt = ap (λ (l : List ℕ). x ∷ l) (split_at xs i p (omega arith))

none_more : (n : ℕ) → n ≡ n + 0
none_more n = omega arith

pub loop-place-init : goal.loop-place-init
loop-place-init g c =
    let is = c.in_ok-all.ensures in
    let none : Option Expanded = None in
    record {
      bench = c.requires.bench;
      grows = grows_itself c.args.bench.now.work c.args.bench.now.region;
      region = refl;
      heads = heads_itself c.args.units.now.heads.items;
      kept = names_itself c.args.units.now.heads.items;
      sources = refl;
      count = omega (arith, c.in_ok-all.all.ok.0, ap length is, length-replicate c.len.result none, c.len.ensures);
      found = subst (λ (xs : List (Option Expanded)). AreAllFound (length c.args.documents.now) xs) (sym is) (none_found (length c.args.documents.now) c.len.result);
      mean = subst (λ (xs : List (Option Expanded)). ExportsMean c.args.bench.now.work.symbols xs) (sym is) (none_mean c.args.bench.now.work.symbols c.len.result);
      formed = subst (λ (xs : List (Option Expanded)). CameFormed c.args.bench.now.work xs) (sym is) (none_formed c.args.bench.now.work c.len.result);
      up = λ spelled us known order many finds knows goes heads sources.
          record { knows = knows; goes = goes; come = subst (λ (xs : List (Option Expanded)). HaveCome us scoped_before c.args.bench.now.work xs) (sym is) (none_come us scoped_before refl c.args.bench.now.work c.len.result); heads = heads; sources = sources; count = ap (λ (xs : List (Option Expanded)). length xs) is ∙ (length-replicate c.len.result none ∙ (c.len.ensures ∙ many)) };
      steps = λ spelled us known order many finds knows goes heads sources. none_more c.args.steps.now;
      finds = λ spelled us known order many finds knows goes heads sources reads ends are tokens results lost. λ n e r at there. none_some r there;
      new = λ k u le at. c.requires.new u (in_at c.args.order.now k u at);
    }

pub expand_at-requires-clause-units : goal.expand_at-requires-clause-units
expand_at-requires-clause-units g c =
    sound_with (length c.args.documents.now) c.args.units.now c.loop-place.units c.loop-place.invariant.heads (cc (c.loop-place.invariant.sources)) c.requires.units

pub expand_at-requires-clause-place : goal.expand_at-requires-clause-place
expand_at-requires-clause-place g c =
    let i = c.loop-place.place-index in
    let p = get_or c.args.order.now i 0 in
    let at = slice_get-get_or c.args.order.now i 0 (omega arith) in
    let lt = c.requires.order.within p (in_at c.args.order.now i p at) in
    omega (arith, lt, c.loop-place.invariant.heads.size, c.loop-place.units.heads.ok.0, c.args.units.now.heads.ok.0)

pub expand_at-requires-clause-count : goal.expand_at-requires-clause-count
expand_at-requires-clause-count g c = omega (arith, c.loop-place.invariant.count, c.loop-place.invariant.heads.size, c.loop-place.units.heads.ok.0, c.args.units.now.heads.ok.0)

pub expand_at-requires-clause-new : goal.expand_at-requires-clause-new
expand_at-requires-clause-new g c =
    let i = c.loop-place.place-index in
    let p = get_or c.args.order.now i 0 in
    let at = slice_get-get_or c.args.order.now i 0 (omega arith) in
    c.loop-place.invariant.new i p (omega arith) at

pub loop-place-preserved : goal.loop-place-preserved
loop-place-preserved g c =
    let i = c.loop-place.place-index in
    let p = get_or c.args.order.now i 0 in
    let lt : i < length c.args.order.now = omega arith in
    let at = slice_get-get_or c.args.order.now i 0 lt in
    record {
      bench = c.in_ok-expand_at.ensures.bench;
      grows = grows_behind c.args.bench.now c.loop-place.bench c.expand_at.new.bench.work c.loop-place.invariant.grows c.loop-place.invariant.region c.expand_at.ensures.grows;
      region = c.in_ok-expand_at.ensures.region ∙ c.loop-place.invariant.region;
      heads = heads_on c.args.units.now.heads.items c.loop-place.units.heads.items c.expand_at.new.units.heads.items c.loop-place.invariant.heads c.in_ok-expand_at.ensures.heads;
      kept = names_then c.args.units.now.heads.items c.loop-place.units.heads.items c.expand_at.new.units.heads.items c.loop-place.invariant.kept c.in_ok-expand_at.ensures.kept;
      sources = c.expand_at.ensures.sources ∙ c.loop-place.invariant.sources;
      count = omega (arith, c.in_ok-expand_at.ensures.count, c.loop-place.invariant.count);
      found = c.in_ok-expand_at.ensures.found;
      mean = c.in_ok-expand_at.ensures.mean;
      formed = c.in_ok-expand_at.ensures.formed;
      up = λ spelled us known order many finds knows goes heads sources.
          subst (λ (done : List ℕ). IsUpTo spelled us known done c.expand_at.new.bench c.expand_at.new.units c.expand_at.new.all.items) (sym (take_more c.args.order.now i 0 lt))
          (c.in_ok-expand_at.ensures.next spelled us known (take i c.args.order.now) (drop (suc i) c.args.order.now) (sym order ∙ split_at c.args.order.now i 0 lt) finds
          (c.loop-place.invariant.up spelled us known order many finds knows goes heads sources));
      steps = λ spelled us known order many finds knows goes heads sources.
          let one = c.in_ok-expand_at.ensures.steps spelled us known (take i c.args.order.now) (drop (suc i) c.args.order.now) (sym order ∙ split_at c.args.order.now i 0 lt) finds
          (c.loop-place.invariant.up spelled us known order many finds knows goes heads sources) in
          let was = c.loop-place.invariant.steps spelled us known order many finds knows goes heads sources in
          let whole = ap (uses_at us known) (take_more c.args.order.now i 0 lt) in
          omega (arith, one, was, whole);
      finds = λ spelled us known order many finds knows goes heads sources reads ends are tokens results lost.
          subst (λ (done : List ℕ). HaveFound reads ends (scoped_at us known done) c.expand_at.new.all.items) (sym (take_more c.args.order.now i 0 lt))
          (c.in_ok-expand_at.ensures.finds spelled us known (take i c.args.order.now) (drop (suc i) c.args.order.now) (sym order ∙ split_at c.args.order.now i 0 lt) finds
          (c.loop-place.invariant.up spelled us known order many finds knows goes heads sources) reads ends
          (heads_kept reads 0 c.args.units.now.heads.items c.loop-place.units.heads.items ends c.loop-place.invariant.heads are) tokens results lost
          (c.loop-place.invariant.finds spelled us known order many finds knows goes heads sources reads ends are tokens results lost));
      new = later_hold c.args.order.now c.requires.order.once (IsNew c.loop-place.bench.scope) (IsNew c.expand_at.new.bench.scope) i p at c.in_ok-expand_at.ensures.others c.loop-place.invariant.new;
    }

pub returns-clause-up : goal.returns-clause-up
returns-clause-up g c = λ spelled us known order many finds knows goes heads sources.
    subst (λ (done : List ℕ). IsUpTo spelled us known done c.loop-place.bench c.loop-place.units c.loop-place.all.items) (take_all c.loop-place.place-index c.args.order.now (omega arith) ∙ order)
    (c.loop-place.invariant.up spelled us known order many finds knows goes heads sources)

pub returns-clause-steps : goal.returns-clause-steps
returns-clause-steps g c = λ spelled us known order many finds knows goes heads sources.
    c.loop-place.invariant.steps spelled us known order many finds knows goes heads sources
    ∙ ap (λ (done : List ℕ). c.args.steps.now + uses_at us known done) (take_all c.loop-place.place-index c.args.order.now (omega arith) ∙ order)

pub returns-clause-finds : goal.returns-clause-finds
returns-clause-finds g c = λ spelled us known order many finds knows goes heads sources reads ends are tokens results lost.
    subst (λ (done : List ℕ). HaveFound reads ends (scoped_at us known done) c.loop-place.all.items) (take_all c.loop-place.place-index c.args.order.now (omega arith) ∙ order)
    (c.loop-place.invariant.finds spelled us known order many finds knows goes heads sources reads ends are tokens results lost)

pub returns-clause-grows : goal.returns-clause-grows
returns-clause-grows g c = c.loop-place.invariant.grows

pub returns-in_err-expand_at-clause-grows : goal.returns-in_err-expand_at-clause-grows
returns-in_err-expand_at-clause-grows g c = grows_behind c.args.bench.now c.loop-place.bench c.expand_at.new.bench.work c.loop-place.invariant.grows c.loop-place.invariant.region c.expand_at.ensures.grows
