use Rattle.std.proofs.Common.{ℕ, suc, List, [], ◌++◌, append-nil, refl, sym, ap, ◌∙◌, subst, add-one, rules, arith}
use Rattle.std.specs.Prelude.{is_some}
use Rattle.scheme_model.specs.Ident.{Ident as Identifier}
use Rattle.scheme_model.specs.Matching.{behind}
use Rattle.scheme_model.specs.Quasiquote.{first_name, mark_in, level_behind, marks_at, pair_marks, tail_marks, element_marks}
use Rattle.scheme_model.specs.Trees.{Tree, Trees, Tail}
use Rattle.syntax_tree.proofs.Looking.{part_standing, part_there, behind_past, no_end}
use Rattle.core_forms.proofs.Finding.{Counted, can_positive, into_row, into_parts, part_of_parts, part_of_row, room_at, counted_more, last_of_row}
use Rattle.core_forms.proofs.Lists.{end_tree}
use Rattle.unit_scopes.specs.declared.scope.UnitScope.{UnitScope}
use Rattle.noted_steps.specs.Asked.{IsNear, mark_here, heads_asked}
use Rattle.noted_steps.specs.Standing.{Stands, with_notes}
use Rattle.noted_steps.proofs.NoteLaws.{looks_on}
use Rattle.noted_steps.proofs.MarkLaws.{heads_none, heads_more, heads_all, goes_on, ends_there}
use Rattle.noted_steps.proofs.marks.+marks.Goals as goal

-- ---- one datum

pub note_datum-note_row-requires : goal.note_datum-note_row-requires
note_datum-note_row-requires t c =
    let w = c.args.work.now in
    let h = c.requires.level in
    let pos = can_positive w c.args.datum c.args.level c.args.left h in
    let l = c.in-List.ensures.look h.0 h.1 in
    (first_of (search rules, omega arith), (c.requires.look, into_row w c.args.level c.args.left h.0 c.in-List.items.now c.in-List.end l.0 l.1 l.2 h.2 h.3 l.3 l.4 l.5))

pub note_datum-note_parts-requires : goal.note_datum-note_parts-requires
note_datum-note_parts-requires t c =
    let w = c.args.work.now in
    let h = c.requires.level in
    let pos = can_positive w c.args.datum c.args.level c.args.left h in
    let l = c.in-Vector.ensures.look h.0 h.1 in
    (first_of (search rules, omega arith), (c.requires.look, into_parts w c.args.level c.args.left h.0 c.in-Vector.items.now l.0 l.1 h.2 h.3 l.2 l.3))

pub note_datum-returns-in-Name-clause-noted : goal.note_datum-returns-in-Name-clause-noted
note_datum-returns-in-Name-clause-noted t c = λ known ls s fs u e at stands.
    let l = c.in-Name.ensures.look u stands in
    subst (λ (x : Tree Identifier). Stands c.args.work.now c.args.units.now ls (heads_asked known fs (marks_at (mark_here known s fs) c.args.level x) s)) (sym l.2) e

pub note_datum-returns-in-Atom-clause-noted : goal.note_datum-returns-in-Atom-clause-noted
note_datum-returns-in-Atom-clause-noted t c = λ known ls s fs u e at stands.
    let l = c.in-Atom.ensures.look u stands in
    subst (λ (x : Tree Identifier). Stands c.args.work.now c.args.units.now ls (heads_asked known fs (marks_at (mark_here known s fs) c.args.level x) s)) (sym l.2) e

pub note_datum-returns-in-List-clause-noted : goal.note_datum-returns-in-List-clause-noted
note_datum-returns-in-List-clause-noted t c = λ known ls s fs u e at stands.
    let l = c.in-List.ensures.look u stands in
    subst (λ (x : Tree Identifier). Stands c.args.work.now c.note_row.new.units ls (heads_asked known fs (marks_at (mark_here known s fs) c.args.level x) s)) (sym l.3) (c.note_row.ensures.noted known ls s fs l.0 l.1 e at l.4 l.5)

pub note_datum-returns-in-Vector-clause-noted : goal.note_datum-returns-in-Vector-clause-noted
note_datum-returns-in-Vector-clause-noted t c = λ known ls s fs u e at stands.
    let l = c.in-Vector.ensures.look u stands in
    subst (λ (x : Tree Identifier). Stands c.args.work.now c.note_parts.new.units ls (heads_asked known fs (marks_at (mark_here known s fs) c.args.level x) s)) (sym l.2) (c.note_parts.ensures.noted known ls s fs l.0 e at l.3)

-- ---- the parts of a vector

pub note_parts-loop-k-init : goal.note_parts-loop-k-init
note_parts-loop-k-init t c = (refl, c.requires.look, λ known ls s fs ts e at stands. heads_none known c.args.work.now ls fs s c.args.units.now (element_marks (mark_here known s fs) c.args.level ts) e)

pub note_parts-note_datum-requires : goal.note_parts-note_datum-requires
note_parts-note_datum-requires t c =
    let w = c.args.work.now in
    let k = c.loop-k.k in
    (first_of (search rules, omega arith), (c.loop-k.invariant.1, part_of_parts w c.args.items.now c.args.level c.args.left k (record { number = 0 }) c.requires.level c.loop-k-test.true))

pub note_parts-loop-k-preserved : goal.note_parts-loop-k-preserved
note_parts-loop-k-preserved t c =
    let w = c.args.work.now in
    let k = c.loop-k.k in
    let u = c.loop-k.units in
    let v = c.note_datum.new.units in (
      c.note_datum.ensures.rest ∙ ap (λ (x : UnitScope). with_notes x v.form.trace.notes) c.loop-k.invariant.0,
      looks_on w u v c.args.scope c.note_datum.ensures.rest c.loop-k.invariant.1,
      λ known ls s fs ts e at stands.
          let mark = mark_here known s fs in
          let level = c.args.level in
          let p = part_there w k c.args.items.now ts (record { number = 0 }) stands c.loop-k-test.true in
          let h = c.loop-k.invariant.2 known ls s fs ts e at stands in
          rw add-one (heads_more known w ls fs s u v (element_marks mark level ts) (element_marks mark level (behind k ts)) (marks_at mark level p.part) (element_marks mark level (behind (suc k) ts)) h (ap (element_marks mark level) p.split)
          (c.note_datum.ensures.noted known ls (heads_asked known fs h.asked s) fs p.part h.stands at p.stands)),
    )

pub note_parts-returns-clause-noted : goal.note_parts-returns-clause-noted
note_parts-returns-clause-noted t c = λ known ls s fs ts e at stands.
    let w = c.args.work.now in
    let k = c.loop-k.k in
    let mark = mark_here known s fs in
    heads_all known w ls fs s c.loop-k.units (element_marks mark c.args.level ts) (element_marks mark c.args.level (behind k ts)) (ap (element_marks mark c.args.level) (behind_past w k c.args.items.now ts stands c.loop-k-test.false)) (c.loop-k.invariant.2 known ls s fs ts e at stands)

pub note_parts-returns-clause-rest : goal.note_parts-returns-clause-rest
note_parts-returns-clause-rest t c = c.loop-k.invariant.0

-- ---- the parts and the tail of a list

pub note_row-loop-k-init : goal.note_row-loop-k-init
note_row-loop-k-init t c = (
  refl,
  c.requires.look,
  λ ts tail stands ends. omega arith,
  λ known ls s fs ts tail e at stands ends. heads_none known c.args.work.now ls fs s c.args.units.now (pair_marks (mark_here known s fs) c.args.level ts (tail_marks (mark_here known s fs) tail)) e,
)

pub note_row-note_first-requires : goal.note_row-note_first-requires
note_row-note_first-requires t c =
    let w = c.args.work.now in
    let h = c.requires.level in
    record {
      look = c.loop-k.invariant.1;
      part = part_standing w c.loop-k.k c.args.items.now (record { number = 0 }) (h.parts, h.parts_stand) c.loop-k-test.true;
      small = room_at w c.args.items.now c.args.end c.args.level c.loop-k.inner c.args.left c.loop-k.k (record { number = 0 }) h c.loop-k.invariant.2 c.loop-k-test.true;
    }

pub note_row-note_datum-requires : goal.note_row-note_datum-requires
note_row-note_datum-requires t c =
    let w = c.args.work.now in
    let k = c.loop-k.k in (
      first_of (search rules, omega arith),
      (
        looks_on w c.loop-k.units c.note_first.new.units c.args.scope c.note_first.ensures.rest c.loop-k.invariant.1,
        part_of_row w c.args.items.now c.args.end c.args.level c.loop-k.inner c.args.left k (record { number = 0 }) c.requires.level c.loop-k.invariant.2 c.loop-k-test.true,
      ),
    )

pub note_row-returns-in-Nothing-clause-noted : goal.note_row-returns-in-Nothing-clause-noted
note_row-returns-in-Nothing-clause-noted t c = λ known ls s fs ts tail e at stands ends.
    let w = c.args.work.now in
    let k = c.loop-k.k in
    let mark = mark_here known s fs in
    let end = tail_marks mark tail in
    let inner = c.loop-k.inner in
    let u = c.loop-k.units in
    let v = c.note_first.new.units in
    let p = part_there w k c.args.items.now ts (record { number = 0 }) stands c.loop-k-test.true in
    let h = c.loop-k.invariant.3 known ls s fs ts tail e at stands ends in
    let n = heads_asked known fs h.asked s in
    let stops = sym (c.note_first.ensures.behind known ls n fs p.part h.stands at p.stands) ∙ c.in-Nothing.is in
    let rest : ℕ → List Identifier = λ l. pair_marks mark l (behind (suc k) ts) end in
    let split = ap (λ (x : Trees Identifier). pair_marks mark inner x end) p.split ∙ ap (λ (is : List Identifier). first_name p.part ++ is) (ends_there (mark_in mark p.part) inner (marks_at mark inner p.part) (rest (level_behind (mark_in mark p.part) inner)) stops) in
    heads_all known w ls fs s v (pair_marks mark c.args.level ts end) [] refl
    (heads_more known w ls fs s u v (pair_marks mark c.args.level ts end) (pair_marks mark inner (behind k ts) end) (first_name p.part) [] h split (c.note_first.ensures.noted known ls n fs p.part h.stands at p.stands))

pub note_row-returns-in-Nothing-clause-rest : goal.note_row-returns-in-Nothing-clause-rest
note_row-returns-in-Nothing-clause-rest t c = c.note_first.ensures.rest ∙ ap (λ (x : UnitScope). with_notes x c.note_first.new.units.form.trace.notes) c.loop-k.invariant.0

pub note_row-loop-k-preserved : goal.note_row-loop-k-preserved
note_row-loop-k-preserved t c =
    let w = c.args.work.now in
    let k = c.loop-k.k in
    let inner = c.loop-k.inner in
    let next = c.in-Level.next in
    let u = c.loop-k.units in
    let v = c.note_first.new.units in
    let x1 = c.note_datum.new.units in (
      c.note_datum.ensures.rest ∙ ap (λ (x : UnitScope). with_notes x x1.form.trace.notes) (c.note_first.ensures.rest ∙ ap (λ (x : UnitScope). with_notes x v.form.trace.notes) c.loop-k.invariant.0),
      looks_on w v x1 c.args.scope c.note_datum.ensures.rest (looks_on w u v c.args.scope c.note_first.ensures.rest c.loop-k.invariant.1),
      subst (Counted w c.args.items.now c.args.end c.args.level next) (sym (add-one k))
          (counted_more w c.args.items.now c.args.end c.args.level inner next k (record { number = 0 }) c.loop-k.invariant.2 c.loop-k-test.true (subst (IsNear inner) c.in-Level.is c.note_first.ensures.near)),
      λ known ls s fs ts tail e at stands ends.
          let mark = mark_here known s fs in
          let end = tail_marks mark tail in
          let p = part_there w k c.args.items.now ts (record { number = 0 }) stands c.loop-k-test.true in
          let h = c.loop-k.invariant.3 known ls s fs ts tail e at stands ends in
          let n = heads_asked known fs h.asked s in
          let goes = sym (c.note_first.ensures.behind known ls n fs p.part h.stands at p.stands) ∙ c.in-Level.is in
          let all = pair_marks mark c.args.level ts end in
          let rest : ℕ → List Identifier = λ l. pair_marks mark l (behind (suc k) ts) end in
          let here = marks_at mark inner p.part in
          let split = ap (λ (x : Trees Identifier). pair_marks mark inner x end) p.split ∙ ap (λ (is : List Identifier). first_name p.part ++ is) (goes_on (mark_in mark p.part) inner next here rest goes) in
          let one = heads_more known w ls fs s u v all (pair_marks mark inner (behind k ts) end) (first_name p.part) (here ++ rest next) h split (c.note_first.ensures.noted known ls n fs p.part h.stands at p.stands) in
          rw add-one (heads_more known w ls fs s v x1 all (here ++ rest next) here (rest next) one refl (c.note_datum.ensures.noted known ls (heads_asked known fs one.asked s) fs p.part one.stands at p.stands)),
    )

pub note_row-returns-in-None-clause-noted : goal.note_row-returns-in-None-clause-noted
note_row-returns-in-None-clause-noted t c = λ known ls s fs ts tail e at stands ends.
    let w = c.args.work.now in
    let k = c.loop-k.k in
    let mark = mark_here known s fs in
    let end = tail_marks mark tail in
    let inner = c.loop-k.inner in
    let past = behind_past w k c.args.items.now ts stands c.loop-k-test.false in
    let none = no_end w c.args.end tail (ap is_some c.in-None.is) ends in
    heads_all known w ls fs s c.loop-k.units (pair_marks mark c.args.level ts end) (pair_marks mark inner (behind k ts) end) (ap (λ (x : Trees Identifier). pair_marks mark inner x end) past ∙ ap (λ (x : Tail Identifier). tail_marks mark x inner) none)
    (c.loop-k.invariant.3 known ls s fs ts tail e at stands ends)

pub note_row-returns-in-None-clause-rest : goal.note_row-returns-in-None-clause-rest
note_row-returns-in-None-clause-rest t c = c.loop-k.invariant.0

pub note_row-note_datum-requires-in-Some : goal.note_row-note_datum-requires-in-Some
note_row-note_datum-requires-in-Some t c =
    let w = c.args.work.now in
    (first_of (search rules, omega arith), (c.loop-k.invariant.1, last_of_row w c.args.items.now c.args.end c.in-Some.last c.args.level c.loop-k.inner c.args.left c.loop-k.k c.in-Some.is c.requires.level c.loop-k.invariant.2))

pub note_row-returns-in-Some-clause-noted : goal.note_row-returns-in-Some-clause-noted
note_row-returns-in-Some-clause-noted t c = λ known ls s fs ts tail e at stands ends.
    let w = c.args.work.now in
    let k = c.loop-k.k in
    let mark = mark_here known s fs in
    let end = tail_marks mark tail in
    let inner = c.loop-k.inner in
    let u = c.loop-k.units in
    let v = c.note_datum-in-Some.new.units in
    let past = behind_past w k c.args.items.now ts stands c.loop-k-test.false in
    let d = end_tree w c.args.end c.in-Some.last tail c.in-Some.is ends in
    let h = c.loop-k.invariant.3 known ls s fs ts tail e at stands ends in
    let all = pair_marks mark c.args.level ts end in
    let split = ap (λ (x : Trees Identifier). pair_marks mark inner x end) past ∙ (ap (λ (x : Tail Identifier). tail_marks mark x inner) d.1 ∙ sym (append-nil (marks_at mark inner d.0))) in
    heads_all known w ls fs s v all [] refl
    (heads_more known w ls fs s u v all (pair_marks mark inner (behind k ts) end) (marks_at mark inner d.0) [] h split (c.note_datum-in-Some.ensures.noted known ls (heads_asked known fs h.asked s) fs d.0 h.stands at d.2))

pub note_row-returns-in-Some-clause-rest : goal.note_row-returns-in-Some-clause-rest
note_row-returns-in-Some-clause-rest t c = c.note_datum-in-Some.ensures.rest ∙ ap (λ (x : UnitScope). with_notes x c.note_datum-in-Some.new.units.form.trace.notes) c.loop-k.invariant.0
