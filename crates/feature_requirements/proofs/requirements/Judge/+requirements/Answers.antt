use Rattle.std.proofs.Common.{◌+◌, ◌<◌, Bool, Ok, length, sym, ap, ◌∙◌, arith}
use Rattle.std.specs.Prelude.{◌&&◌, ◌||◌, not}
use Rattle.scheme_model.specs.Trees.{list}
use Rattle.scheme_model.specs.Matching.{behind}
use Rattle.scheme_model.specs.ExpansionFaults.{◌>>◌}
use Rattle.scheme_model.specs.Requirements.{holds, all_hold, some_holds, none_holds}
use Rattle.scheme_model.specs.Ident.{symbol_of}
use Rattle.syntax_tree.proofs.Looking.{within_positive, list_parts_within, part_there, part_within, split_one, behind_past, no_end}
use Rattle.std.proofs.lemmas.Option.{slice_get_within}
use Rattle.core_forms.proofs.Lists.{row_parts}
use Rattle.feature_requirements.specs.Judged.{map_ok, word_holds, by_connective}
use Rattle.feature_requirements.proofs.JudgeLaws.{reads_same, reads_err, fails_same, fails_then, all_more, all_fails, all_end, some_more, some_fails, some_end, only_part, rest_within, list_named}
use Rattle.feature_requirements.proofs.requirements.Judge.+requirements.Goals as goal

pub holds-list_holds-requires : goal.holds-list_holds-requires
holds-list_holds-requires t c =
    let w = c.args.self.now.work.now in
    let p = c.requires in
    let q = c.in-List.ensures.look p.0 p.1 in
    let deep = within_positive w c.args.tree c.args.left p in
    (omega arith, list_parts_within w c.args.left p.0 c.in-List.parts.now q.0 q.1 q.2 p.2 q.3 q.4)

pub holds-returns-in-List : goal.holds-returns-in-List
holds-returns-in-List t c = λ known u k h.
    let q = c.in-List.ensures.look u h in
    reads_same (λ b. b) c.list_holds.result (holds symbol_of known (list q.0 q.1 q.2)) (holds symbol_of known u) (ap (holds symbol_of known) q.3)
    (c.list_holds.ensures known q.0 q.1 q.2 k q.4 q.5)

pub word_holds-returns-in-And : goal.word_holds-returns-in-And
word_holds-returns-in-And t c = λ known ts k h.
    reads_same (λ b. b) c.all_hold.result (all_hold symbol_of known ts) (word_holds known c.args.word.now ts) (ap (λ w. by_connective known w ts) (sym c.in-And.ensures)) (c.all_hold.ensures known ts k h)

pub word_holds-returns-in-Or : goal.word_holds-returns-in-Or
word_holds-returns-in-Or t c = λ known ts k h.
    reads_same (λ b. b) c.some_holds.result (some_holds symbol_of known ts) (word_holds known c.args.word.now ts) (ap (λ w. by_connective known w ts) (sym c.in-Or.ensures)) (c.some_holds.ensures known ts k h)

pub word_holds-returns-in-Not : goal.word_holds-returns-in-Not
word_holds-returns-in-Not t c = λ known ts k h.
    reads_same (λ b. b) c.none_holds.result (none_holds symbol_of known ts) (word_holds known c.args.word.now ts) (ap (λ w. by_connective known w ts) (sym c.in-Not.ensures)) (c.none_holds.ensures known ts k h)

pub all_hold-holds-requires : goal.all_hold-holds-requires
all_hold-holds-requires t c =
    (omega arith, part_within c.args.self.now.work.now c.args.parts.now c.args.left c.loop-part.part-index _ c.requires c.loop-part-test.true)

pub all_hold-returns-in_err-here : goal.all_hold-returns-in_err-here
all_hold-returns-in_err-here t c = λ known ts k h.
    let w = c.args.self.now.work.now in
    let i = c.loop-part.part-index in
    let p = part_there w i c.args.parts.now ts (record { number = 0 }) h c.loop-part-test.true in
    let e = c.in_err-here.field-0.0 in
    reads_err (λ b. b) c.from_residual.result e (all_hold symbol_of known ts) c.from_residual.ensures.1
    (all_fails known p.part (behind (i + 1) ts) (behind i ts) (split_one w i ts _ p) (all_hold symbol_of known ts) c.loop-part.hold e (c.loop-part.invariant known ts k h) (c.in_err-here.ensures known p.part k p.stands))

pub all_hold-loop-part-preserved : goal.all_hold-loop-part-preserved
all_hold-loop-part-preserved t c = λ known ts k h.
    let w = c.args.self.now.work.now in
    let i = c.loop-part.part-index in
    let p = part_there w i c.args.parts.now ts (record { number = 0 }) h c.loop-part-test.true in
    all_more known p.part (behind (i + 1) ts) (behind i ts) (split_one w i ts _ p) (all_hold symbol_of known ts) c.loop-part.hold c.in_ok-here.here (c.loop-part.invariant known ts k h) (c.in_ok-here.ensures known p.part k p.stands)
    ∙ ap (λ (x : Bool). map_ok (λ (b : Bool). x && b) (all_hold symbol_of known (behind (i + 1) ts))) (sym c.both-next.ensures)

pub all_hold-returns : goal.all_hold-returns
all_hold-returns t c = λ known ts k h.
    let i = c.loop-part.part-index in
    c.loop-part.invariant known ts k h ∙ all_end known (behind i ts) c.loop-part.hold (behind_past c.args.self.now.work.now i c.args.parts.now ts h c.loop-part-test.false)

pub some_holds-holds-requires : goal.some_holds-holds-requires
some_holds-holds-requires t c =
    (omega arith, part_within c.args.self.now.work.now c.args.parts.now c.args.left c.loop-part.part-index _ c.requires c.loop-part-test.true)

pub some_holds-returns-in_err-here : goal.some_holds-returns-in_err-here
some_holds-returns-in_err-here t c = λ known ts k h.
    let w = c.args.self.now.work.now in
    let i = c.loop-part.part-index in
    let p = part_there w i c.args.parts.now ts (record { number = 0 }) h c.loop-part-test.true in
    let e = c.in_err-here.field-0.0 in
    reads_err (λ b. b) c.from_residual.result e (some_holds symbol_of known ts) c.from_residual.ensures.1
    (some_fails known p.part (behind (i + 1) ts) (behind i ts) (split_one w i ts _ p) (some_holds symbol_of known ts) c.loop-part.hold e (c.loop-part.invariant known ts k h) (c.in_err-here.ensures known p.part k p.stands))

pub some_holds-loop-part-preserved : goal.some_holds-loop-part-preserved
some_holds-loop-part-preserved t c = λ known ts k h.
    let w = c.args.self.now.work.now in
    let i = c.loop-part.part-index in
    let p = part_there w i c.args.parts.now ts (record { number = 0 }) h c.loop-part-test.true in
    some_more known p.part (behind (i + 1) ts) (behind i ts) (split_one w i ts _ p) (some_holds symbol_of known ts) c.loop-part.hold c.in_ok-here.here (c.loop-part.invariant known ts k h) (c.in_ok-here.ensures known p.part k p.stands)
    ∙ ap (λ (x : Bool). map_ok (λ (b : Bool). x || b) (some_holds symbol_of known (behind (i + 1) ts))) (sym c.either-next.ensures)

pub some_holds-returns : goal.some_holds-returns
some_holds-returns t c = λ known ts k h.
    let i = c.loop-part.part-index in
    c.loop-part.invariant known ts k h ∙ some_end known (behind i ts) c.loop-part.hold (behind_past c.args.self.now.work.now i c.args.parts.now ts h c.loop-part-test.false)

pub list_holds-look_at-requires : goal.list_holds-look_at-requires
list_holds-look_at-requires t c =
    let p = row_parts c.args.self.now.work.now c.args.parts.now c.in-Some.head.now c.in-Some.rest.now c.requires.0 c.in-Some.ensures.cases.0 c.requires.1 in
    (p.0, p.3)

pub list_holds-symbol_of-requires : goal.list_holds-symbol_of-requires
list_holds-symbol_of-requires t c =
    let w = c.args.self.now.work.now in
    let p = row_parts w c.args.parts.now c.in-Some.head.now c.in-Some.rest.now c.requires.0 c.in-Some.ensures.cases.0 c.requires.1 in
    let q = c.in-Name.ensures.look p.0 p.3 in
    slice_get_within w.symbols.idents c.in-Name.ident q.0 q.3

pub list_holds-word_holds-requires : goal.list_holds-word_holds-requires
list_holds-word_holds-requires t c =
    (omega arith, rest_within c.args.self.now.work.now c.args.parts.now c.in-Some.head.now c.in-Some.rest.now c.args.left c.in-Some.ensures.cases.0 c.requires)

pub list_holds-returns-in-Name : goal.list_holds-returns-in-Name
list_holds-returns-in-Name t c = λ known ts tail o k h g.
    let w = c.args.self.now.work.now in
    let p = row_parts w c.args.parts.now c.in-Some.head.now c.in-Some.rest.now ts c.in-Some.ensures.cases.0 h in
    let q = c.in-Name.ensures.look p.0 p.3 in
    let gone = no_end w c.args.end tail (sym c.is_some.ensures ∙ c.if-is_some.false) g in
    reads_same (λ b. b) c.word_holds.result (word_holds known c.symbol_of.result.now p.1) (holds symbol_of known (list ts tail o))
    (list_named known ts p.1 p.0 tail o q.0 q.1 c.symbol_of.result.now p.2 q.2 gone (c.symbol_of.ensures q.0 q.3)) (c.word_holds.ensures known p.1 k p.4)

pub none_holds-holds-requires : goal.none_holds-holds-requires
none_holds-holds-requires t c =
    let one : 0 < length c.args.parts.now = omega arith in
    (omega arith, part_within c.args.self.now.work.now c.args.parts.now c.args.left 0 _ c.requires one)

pub none_holds-returns-in_err-here : goal.none_holds-returns-in_err-here
none_holds-returns-in_err-here t c = λ known ts k h.
    let p = only_part c.args.self.now.work.now c.args.parts.now (record { number = 0 }) ts c.if-parts-ne1.false h in
    let e = c.in_err-here.field-0.0 in
    let r = holds symbol_of known p.0 in
    reads_err (λ b. b) c.from_residual.result e (none_holds symbol_of known ts) c.from_residual.ensures.1
    (fails_same e (r >> λ a. Ok (not a)) (none_holds symbol_of known ts) (ap (none_holds symbol_of known) p.1) (fails_then e r (λ a. Ok (not a)) (c.in_err-here.ensures known p.0 k p.2)))

pub none_holds-returns : goal.none_holds-returns
none_holds-returns t c = λ known ts k h.
    let p = only_part c.args.self.now.work.now c.args.parts.now (record { number = 0 }) ts c.if-parts-ne1.false h in
    ap (none_holds symbol_of known) p.1 ∙ ap (λ r. r >> λ a. Ok (not a)) (c.in_ok-here.ensures known p.0 k p.2)
