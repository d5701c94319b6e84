use Rattle.std.proofs.Common.{◌≡◌, suc, List, [], refl, sym, ap, ◌∙◌, subst, add-one, rules, arith}
use Rattle.scheme_model.specs.Ident.{Ident as Identifier, symbol_of}
use Rattle.scheme_model.specs.Matching.{behind}
use Rattle.scheme_model.specs.Requirements.{LibraryName, libraries_of, libraries_among}
use Rattle.scheme_model.specs.Trees.{Tree, Tail, list}
use Rattle.syntax_tree.proofs.Looking.{within_positive, list_parts_within, part_within, part_there, behind_past, no_end, some_end}
use Rattle.feature_requirements.specs.declared.requirements.Connective.{Connective}
use Rattle.unit_scopes.specs.declared.scope.UnitScope.{UnitScope}
use Rattle.noted_steps.specs.Asked.{libraries_behind, names_asked}
use Rattle.noted_steps.specs.Standing.{Stands, with_notes}
use Rattle.noted_steps.proofs.LibraryLaws.{names_none, names_more, names_all, from_one, knows_on, by_word, by_its_word, dotted_asks}
use Rattle.noted_steps.proofs.libraries.+libraries.Goals as goal

pub note_requirement-returns-then-is_some-clause-noted : goal.note_requirement-returns-then-is_some-clause-noted
note_requirement-returns-then-is_some-clause-noted t c = λ known ls s u knows e stands.
    let l = c.in-List.ensures.look u stands in
    let d = some_end c.args.work.now c.in-List.end l.1 (sym c.is_some.ensures ∙ c.if-is_some.true) l.5 in
    let none : libraries_of symbol_of u ≡ [] = ap (libraries_of symbol_of) l.3 ∙ (ap (λ (x : Tail Identifier). libraries_of symbol_of (list l.0 x l.2)) d.1 ∙ dotted_asks l.0 d.0 l.2) in
    subst (λ (ns : List LibraryName). Stands c.args.work.now c.args.units.now ls (names_asked known ns s)) (sym none) e

pub note_requirement-word_of-requires : goal.note_requirement-word_of-requires
note_requirement-word_of-requires t c = let p = c.requires in let l = c.in-List.ensures.look p.0 p.1 in (l.0, l.4)

pub note_requirement-note_requirements-requires : goal.note_requirement-note_requirements-requires
note_requirement-note_requirements-requires t c =
    let w = c.args.work.now in
    let p = c.requires in
    let l = c.in-List.ensures.look p.0 p.1 in
    let deep = within_positive w c.args.requirement c.args.left p in
    (first_of (search rules, omega arith), list_parts_within w c.args.left p.0 c.in-List.parts.now l.0 l.1 l.2 p.2 l.3 l.4)

pub note_requirement-note_requirements-requires-in-Or : goal.note_requirement-note_requirements-requires-in-Or
note_requirement-note_requirements-requires-in-Or t c =
    let w = c.args.work.now in
    let p = c.requires in
    let l = c.in-List.ensures.look p.0 p.1 in
    let deep = within_positive w c.args.requirement c.args.left p in
    (first_of (search rules, omega arith), list_parts_within w c.args.left p.0 c.in-List.parts.now l.0 l.1 l.2 p.2 l.3 l.4)

pub note_requirement-note_requirements-requires-in-Not : goal.note_requirement-note_requirements-requires-in-Not
note_requirement-note_requirements-requires-in-Not t c =
    let w = c.args.work.now in
    let p = c.requires in
    let l = c.in-List.ensures.look p.0 p.1 in
    let deep = within_positive w c.args.requirement c.args.left p in
    (first_of (search rules, omega arith), list_parts_within w c.args.left p.0 c.in-List.parts.now l.0 l.1 l.2 p.2 l.3 l.4)

pub note_requirement-note_library-requires : goal.note_requirement-note_library-requires
note_requirement-note_library-requires t c = let p = c.requires in let l = c.in-List.ensures.look p.0 p.1 in (l.0, l.4)

pub note_requirement-returns-in-And-clause-noted : goal.note_requirement-returns-in-And-clause-noted
note_requirement-returns-in-And-clause-noted t c = λ known ls s u knows e stands.
    let l = c.in-List.ensures.look u stands in
    let none = no_end c.args.work.now c.in-List.end l.1 (sym c.is_some.ensures ∙ c.if-is_some.false) l.5 in
    let is = ap (libraries_of symbol_of) l.3 ∙ (ap (λ (x : Tail Identifier). libraries_of symbol_of (list l.0 x l.2)) none ∙ (by_its_word l.0 l.2 ∙ ap (λ (k : Connective). by_word k l.0) (sym (c.word_of.ensures l.0 l.4) ∙ c.in-And.is))) in
    subst (λ (ns : List LibraryName). Stands c.args.work.now c.note_requirements.new.units ls (names_asked known ns s)) (sym is) (c.note_requirements.ensures.noted known ls s l.0 knows e l.4)

pub note_requirement-returns-in-Or-clause-noted : goal.note_requirement-returns-in-Or-clause-noted
note_requirement-returns-in-Or-clause-noted t c = λ known ls s u knows e stands.
    let l = c.in-List.ensures.look u stands in
    let none = no_end c.args.work.now c.in-List.end l.1 (sym c.is_some.ensures ∙ c.if-is_some.false) l.5 in
    let is = ap (libraries_of symbol_of) l.3 ∙ (ap (λ (x : Tail Identifier). libraries_of symbol_of (list l.0 x l.2)) none ∙ (by_its_word l.0 l.2 ∙ ap (λ (k : Connective). by_word k l.0) (sym (c.word_of.ensures l.0 l.4) ∙ c.in-Or.is))) in
    subst (λ (ns : List LibraryName). Stands c.args.work.now c.note_requirements-in-Or.new.units ls (names_asked known ns s)) (sym is) (c.note_requirements-in-Or.ensures.noted known ls s l.0 knows e l.4)

pub note_requirement-returns-in-Not-clause-noted : goal.note_requirement-returns-in-Not-clause-noted
note_requirement-returns-in-Not-clause-noted t c = λ known ls s u knows e stands.
    let l = c.in-List.ensures.look u stands in
    let none = no_end c.args.work.now c.in-List.end l.1 (sym c.is_some.ensures ∙ c.if-is_some.false) l.5 in
    let is = ap (libraries_of symbol_of) l.3 ∙ (ap (λ (x : Tail Identifier). libraries_of symbol_of (list l.0 x l.2)) none ∙ (by_its_word l.0 l.2 ∙ ap (λ (k : Connective). by_word k l.0) (sym (c.word_of.ensures l.0 l.4) ∙ c.in-Not.is))) in
    subst (λ (ns : List LibraryName). Stands c.args.work.now c.note_requirements-in-Not.new.units ls (names_asked known ns s)) (sym is) (c.note_requirements-in-Not.ensures.noted known ls s l.0 knows e l.4)

pub note_requirement-returns-in-Library-clause-noted : goal.note_requirement-returns-in-Library-clause-noted
note_requirement-returns-in-Library-clause-noted t c = λ known ls s u knows e stands.
    let l = c.in-List.ensures.look u stands in
    let none = no_end c.args.work.now c.in-List.end l.1 (sym c.is_some.ensures ∙ c.if-is_some.false) l.5 in
    let is = ap (libraries_of symbol_of) l.3 ∙ (ap (λ (x : Tail Identifier). libraries_of symbol_of (list l.0 x l.2)) none ∙ (by_its_word l.0 l.2 ∙ ap (λ (k : Connective). by_word k l.0) (sym (c.word_of.ensures l.0 l.4) ∙ c.in-Library.is))) in
    subst (λ (ns : List LibraryName). Stands c.args.work.now c.note_library.new.units ls (names_asked known ns s)) (sym is) (c.note_library.ensures.noted known ls s l.0 knows e l.4)

pub note_requirement-returns-in-Unknown-clause-noted : goal.note_requirement-returns-in-Unknown-clause-noted
note_requirement-returns-in-Unknown-clause-noted t c = λ known ls s u knows e stands.
    let l = c.in-List.ensures.look u stands in
    let none = no_end c.args.work.now c.in-List.end l.1 (sym c.is_some.ensures ∙ c.if-is_some.false) l.5 in
    let is = ap (libraries_of symbol_of) l.3 ∙ (ap (λ (x : Tail Identifier). libraries_of symbol_of (list l.0 x l.2)) none ∙ (by_its_word l.0 l.2 ∙ ap (λ (k : Connective). by_word k l.0) (sym (c.word_of.ensures l.0 l.4) ∙ c.in-Unknown.is))) in
    subst (λ (ns : List LibraryName). Stands c.args.work.now c.args.units.now ls (names_asked known ns s)) (sym is) e

pub note_requirement-returns-in-Name-clause-noted : goal.note_requirement-returns-in-Name-clause-noted
note_requirement-returns-in-Name-clause-noted t c = λ known ls s u knows e stands.
    let l = c.in-Name.ensures.look u stands in
    subst (λ (x : Tree Identifier). Stands c.args.work.now c.args.units.now ls (names_asked known (libraries_of symbol_of x) s)) (sym l.2) e

pub note_requirement-returns-in-Atom-clause-noted : goal.note_requirement-returns-in-Atom-clause-noted
note_requirement-returns-in-Atom-clause-noted t c = λ known ls s u knows e stands.
    let l = c.in-Atom.ensures.look u stands in
    subst (λ (x : Tree Identifier). Stands c.args.work.now c.args.units.now ls (names_asked known (libraries_of symbol_of x) s)) (sym l.2) e

pub note_requirement-returns-in-Vector-clause-noted : goal.note_requirement-returns-in-Vector-clause-noted
note_requirement-returns-in-Vector-clause-noted t c = λ known ls s u knows e stands.
    let l = c.in-Vector.ensures.look u stands in
    subst (λ (x : Tree Identifier). Stands c.args.work.now c.args.units.now ls (names_asked known (libraries_of symbol_of x) s)) (sym l.2) e

-- ---- a row of requirements

pub note_requirements-loop-k-init : goal.note_requirements-loop-k-init
note_requirements-loop-k-init t c = (
  refl,
  λ known ls s ts knows e stands. names_none known c.args.work.now ls s c.args.units.now (libraries_behind ts) (libraries_among symbol_of (behind 1 ts)) (ap (libraries_among symbol_of) (from_one ts)) e,
)

pub note_requirements-note_requirement-requires : goal.note_requirements-note_requirement-requires
note_requirements-note_requirement-requires t c =
    (first_of (search rules, omega arith), part_within c.args.work.now c.args.parts.now c.args.left c.loop-k.k (record { number = 0 }) c.requires c.loop-k-test.true)

pub note_requirements-loop-k-preserved : goal.note_requirements-loop-k-preserved
note_requirements-loop-k-preserved t c =
    let w = c.args.work.now in
    let k = c.loop-k.k in
    let u = c.loop-k.units in
    let v = c.note_requirement.new.units in (
      c.note_requirement.ensures.rest ∙ ap (λ (x : UnitScope). with_notes x v.form.trace.notes) c.loop-k.invariant.0,
      λ known ls s ts knows e stands.
          let p = part_there w k c.args.parts.now ts (record { number = 0 }) stands c.loop-k-test.true in
          let h = c.loop-k.invariant.1 known ls s ts knows e stands in
          rw add-one (names_more known w ls s u v (libraries_behind ts) (libraries_among symbol_of (behind k ts)) (libraries_of symbol_of p.part) (libraries_among symbol_of (behind (suc k) ts)) h (ap (libraries_among symbol_of) p.split)
          (c.note_requirement.ensures.noted known ls (names_asked known h.asked s) p.part (knows_on c.args.units.now u known c.loop-k.invariant.0 knows) h.stands p.stands)),
    )

pub note_requirements-returns-clause-noted : goal.note_requirements-returns-clause-noted
note_requirements-returns-clause-noted t c = λ known ls s ts knows e stands.
    let w = c.args.work.now in
    let k = c.loop-k.k in
    names_all known w ls s c.loop-k.units (libraries_behind ts) (libraries_among symbol_of (behind k ts)) (ap (libraries_among symbol_of) (behind_past w k c.args.parts.now ts stands c.loop-k-test.false)) (c.loop-k.invariant.1 known ls s ts knows e stands)

pub note_requirements-returns-clause-rest : goal.note_requirements-returns-clause-rest
note_requirements-returns-clause-rest t c = c.loop-k.invariant.0
