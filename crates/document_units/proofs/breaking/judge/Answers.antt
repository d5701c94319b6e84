use Rattle.std.proofs.Common.{ℕ, List, length, take, vec_len, sym, ap, ◌∙◌, subst, arith}
use Rattle.scheme_model.specs.Requirements.{LibraryName}
use Rattle.scheme_model.specs.Includes.{max_units}
use Rattle.scheme_model.specs.IncludedUnits.{Placed}
use Rattle.base_library.specs.Texts.{SpellsStandard}
use Rattle.unit_sources.specs.declared.units.UnitSource.{UnitSource}
use Rattle.unit_sources.specs.Named.{place_named}
use Rattle.unit_sources.specs.Sources.{AreUnits}
use Rattle.read_documents.specs.declared.heads.Head.{Head}
use Rattle.read_documents.specs.Broken.{AreListed, AreJudged, Forgets, SourcesStay}
use Rattle.document_units.proofs.BrokenLaws.{few_taken, taken_within, places_wider}
use Rattle.document_units.proofs.BrokenSteps.{forgets_stay}
use Rattle.document_units.proofs.Handed.{handed}
use Rattle.document_units.proofs.JudgedLaws.{units_handed, on_ok, in_turns}
use Rattle.document_units.proofs.breaking.judge.Goals as goal

pub break_all-requires-clause-few : goal.break_all-requires-clause-few
break_all-requires-clause-few c = let e = ap length c.foremost.ensures in let le = few_taken max_units c.as_slice.result.now in omega arith

pub break_all-requires-clause-heads : goal.break_all-requires-clause-heads
break_all-requires-clause-heads c =
    let e = ap length c.foremost.ensures in let le = taken_within max_units c.as_slice.result.now in omega (arith, c.as_slice.ensures.len, c.requires.same)

pub break_all-requires-clause-named : goal.break_all-requires-clause-named
break_all-requires-clause-named c = λ s. c.requires.named s ∙ ap (place_named s 0) (sym (c.foremost.ensures ∙ ap (take max_units) c.as_slice.ensures.value))

pub in_order-requires : goal.in_order-requires
in_order-requires c = let e = ap length c.foremost-2.ensures in let le = few_taken max_units c.as_slice-3.result.now in omega arith

-- what the heads are judged by
heads_judged : (c : goal.After-in_order) (spelled : LibraryName → List ℕ) → SpellsStandard spelled → (all : List Placed) → AreUnits spelled (take max_units c.args.units.now.sources.items) (take max_units all) → AreListed spelled all c.args.units.now.heads.items →
    AreJudged all c.args.units.now.heads.items c.break_all.new.heads.items
heads_judged c spelled standard all are listed =
    c.in_ok-break_all.ensures.judged spelled standard all
    (subst (λ (l : List UnitSource). AreUnits spelled l (take max_units all)) (sym (c.foremost.ensures ∙ ap (take max_units) c.as_slice.ensures.value)) are) listed

forgotten : (c : goal.After-in_order) → Forgets c.break_all.new.heads.items c.args.units.now.sources.items c.forget_imports.new.sources.items
forgotten c = subst (λ (l : List Head). Forgets l c.args.units.now.sources.items c.forget_imports.new.sources.items) c.as_slice-2.ensures.value c.forget_imports.ensures

pub returns-clause-judged : goal.returns-clause-judged
returns-clause-judged c = λ spelled standard all are listed. on_ok c.in_order.result (AreJudged all c.args.units.now.heads.items c.break_all.new.heads.items) (heads_judged c spelled standard all are listed)

pub returns-clause-turns : goal.returns-clause-turns
returns-clause-turns c = λ spelled standard all are listed.
    let a = c.args.units.now.heads.items in
    let old = c.args.units.now.sources.items in
    let given = units_handed spelled all a c.break_all.new.heads.items old c.forget_imports.new.sources.items are (heads_judged c spelled standard all are listed)
    (omega (arith, c.requires.same, c.args.units.now.heads.ok.0, c.args.units.now.sources.ok.0)) (forgotten c) in
    in_turns all c.in_order.result
    (c.in_order.ensures.turns spelled standard.tells (handed all) (subst (λ (l : List UnitSource). AreUnits spelled l (handed all)) (sym (c.foremost-2.ensures ∙ ap (take max_units) c.as_slice-3.ensures.value)) given))

pub returns-clause-forgotten : goal.returns-clause-forgotten
returns-clause-forgotten c = on_ok c.in_order.result (Forgets c.break_all.new.heads.items c.args.units.now.sources.items c.forget_imports.new.sources.items) (forgotten c)

pub returns-clause-sources : goal.returns-clause-sources
returns-clause-sources c =
    on_ok c.in_order.result (SourcesStay c.args.units.now.sources.items c.forget_imports.new.sources.items) (forgets_stay c.break_all.new.heads.items c.args.units.now.sources.items c.forget_imports.new.sources.items (forgotten c))

pub returns-clause-places : goal.returns-clause-places
returns-clause-places c =
    let e = ap length c.foremost-2.ensures in
    let le = taken_within max_units c.as_slice-3.result.now in
    places_wider c.in_order.result (length c.foremost-2.result.now) (vec_len c.args.units.now.heads)
    (omega (arith, c.as_slice-3.ensures.len, c.requires.same, c.forget_imports.ensures.size, c.forget_imports.new.sources.ok.0, c.args.units.now.sources.ok.0)) c.in_order.ensures.places

pub returns-clause-few : goal.returns-clause-few
returns-clause-few c =
    let e = ap length c.foremost-2.ensures in
    let le = few_taken max_units c.as_slice-3.result.now in
    places_wider c.in_order.result (length c.foremost-2.result.now) max_units (omega arith) c.in_order.ensures.places
