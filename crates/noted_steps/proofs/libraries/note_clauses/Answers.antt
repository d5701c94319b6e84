use Rattle.std.proofs.Common.{suc, refl, ap, ◌∙◌, add-one}
use Rattle.scheme_model.specs.Ident.{symbol_of}
use Rattle.scheme_model.specs.Matching.{behind}
use Rattle.scheme_model.specs.Requirements.{all_libraries}
use Rattle.syntax_tree.proofs.Looking.{part_standing, part_there, behind_past}
use Rattle.unit_scopes.specs.declared.scope.UnitScope.{UnitScope}
use Rattle.noted_steps.specs.Asked.{all_behind, clause_asked, names_asked}
use Rattle.noted_steps.specs.Standing.{with_notes}
use Rattle.noted_steps.proofs.LibraryLaws.{names_none, names_more, names_all, from_one, knows_on}
use Rattle.noted_steps.proofs.libraries.note_clauses.Goals as goal

pub loop-k-init : goal.loop-k-init
loop-k-init c = record {
  rest = refl;
  noted = λ known ls s ts knows e stands. names_none known c.args.work.now ls s c.args.units.now (all_behind ts) (all_libraries symbol_of (behind 1 ts)) (ap (all_libraries symbol_of) (from_one ts)) e;
}

pub note_clause-requires : goal.note_clause-requires
note_clause-requires c = part_standing c.args.work.now c.loop-k.k c.args.clauses.now (record { number = 0 }) c.requires c.loop-k-test.true

pub loop-k-preserved : goal.loop-k-preserved
loop-k-preserved c =
    let w = c.args.work.now in
    let k = c.loop-k.k in
    let u = c.loop-k.units in
    let v = c.note_clause.new.units in
    record {
      rest = c.note_clause.ensures.rest ∙ ap (λ (x : UnitScope). with_notes x v.form.trace.notes) c.loop-k.invariant.rest;
      noted = λ known ls s ts knows e stands.
          let p = part_there w k c.args.clauses.now ts (record { number = 0 }) stands c.loop-k-test.true in
          let h = c.loop-k.invariant.noted known ls s ts knows e stands in
          rw add-one (names_more known w ls s u v (all_behind ts) (all_libraries symbol_of (behind k ts)) (clause_asked p.part) (all_libraries symbol_of (behind (suc k) ts)) h (ap (all_libraries symbol_of) p.split)
          (c.note_clause.ensures.noted known ls (names_asked known h.asked s) p.part (knows_on c.args.units.now u known c.loop-k.invariant.rest knows) h.stands p.stands));
    }

pub returns : goal.returns
returns c = record {
  noted = λ known ls s ts knows e stands.
      let w = c.args.work.now in
      let k = c.loop-k.k in
      names_all known w ls s c.loop-k.units (all_behind ts) (all_libraries symbol_of (behind k ts)) (ap (all_libraries symbol_of) (behind_past w k c.args.clauses.now ts stands c.loop-k-test.false)) (c.loop-k.invariant.noted known ls s ts knows e stands);
  rest = c.loop-k.invariant.rest;
}
