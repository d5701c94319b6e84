use Rattle.std.proofs.Common.{◌≡◌, ◌+◌, ◌<◌, ℕ, List, Bool, Some, Ok, length, drop, refl, sym, ap, ◌∙◌, arith}
use Rattle.std.specs.Prelude.{◌&&◌, ◌||◌, not}
use Rattle.std.proofs.lemmas.Bool.Decides.{nat_tests}
use Rattle.scheme_model.specs.Data.{place_of}
use Rattle.scheme_model.specs.Trees.{Trees, list}
use Rattle.scheme_model.specs.ExpansionFaults.{◌>>◌}
use Rattle.scheme_model.specs.Requirements.{holds, all_hold, some_holds, none_holds}
use Rattle.datum_reader.specs.Views.{datum_of}
use Rattle.datum_reader.specs.Looks.{tree_at, trees_at}
use Rattle.known_libraries.specs.PartsRead.{map_ok}
use Rattle.known_libraries.specs.Chosen.{word_holds, by_connective}
use Rattle.known_libraries.proofs.Chaining.{reads_same, reads_err, fails_same, fails_then}
use Rattle.datum_reader.proofs.LookLaws.{list_seen, nothing_in}
use Rattle.known_libraries.proofs.WeightLaws.{parts_lighter, item_lighter}
use Rattle.known_libraries.proofs.TreeRows.{trees_more, trees_end}
use Rattle.known_libraries.proofs.RequirementRows.{some_word, all_more, all_fails, all_end, some_more, some_fails, some_end, none_long, none_one}
use Rattle.known_libraries.proofs.requirements.+requirements.Goals as goal

pub holds-list_holds-requires : goal.holds-list_holds-requires
holds-list_holds-requires t c = (omega (arith, parts_lighter c.in-List.parts.now c.in-List.dotted (datum_of c.args.datum.now) c.in-List.ensures), tt)

pub holds-returns-in-List : goal.holds-returns-in-List
holds-returns-in-List t c = λ has k at.
    let d = c.args.datum.now in
    let ds = c.in-List.parts.now in
    let l = list_seen at ds c.in-List.dotted (datum_of d) c.in-List.ensures in
    let o = Some (at (place_of (datum_of d)).first) in
    reads_same (λ b. b) c.list_holds.result (holds (λ s. s) has (list (trees_at at ds) l.end o)) (holds (λ s. s) has (tree_at at d)) (ap (holds (λ s. s) has) l.whole)
    (c.list_holds.ensures has k at l.end o l.dotted)

pub list_holds-returns-in-Some : goal.list_holds-returns-in-Some
list_holds-returns-in-Some t c = λ has k at end o e.
    let ds = c.args.parts.now in
    let h = c.in-Parts.head.now in
    let r = c.in-Parts.rest.now in
    let w = c.in-Some.word.now in
    reads_same (λ b. b) c.word_holds.result (word_holds has w (trees_at at r)) (holds (λ s. s) has (list (trees_at at ds) end o))
    (some_word has at ds h r end o c.in-Parts.ensures w (c.in-Some.ensures.word at) (e ∙ c.if-dotted.false)) (c.word_holds.ensures has k at)

pub none_holds-returns-then-not-is_empty : goal.none_holds-returns-then-not-is_empty
none_holds-returns-then-not-is_empty t c = λ has k at.
    let some : 0 < length c.in-Parts.rest.now = grind (arith, nat_tests) in
    none_long has at c.args.parts.now c.in-Parts.first.now c.in-Parts.rest.now c.in-Parts.ensures some

pub none_holds-returns-in_err-here-in-Parts : goal.none_holds-returns-in_err-here-in-Parts
none_holds-returns-in_err-here-in-Parts t c = λ has k at.
    let none : length c.in-Parts.rest.now ≡ 0 = grind (arith, nat_tests) in
    let one = none_one has at c.args.parts.now c.in-Parts.first.now c.in-Parts.rest.now c.in-Parts.ensures (nothing_in c.in-Parts.rest.now none) in
    let e = c.in_err-here-in-Parts.field-0.0 in
    let h = holds (λ s. s) has (tree_at at c.in-Parts.first.now) in
    reads_err (λ b. b) c.from_residual.result e (none_holds (λ s. s) has (trees_at at c.args.parts.now)) c.from_residual.ensures.1
    (fails_same e (h >> λ a. Ok (not a)) (none_holds (λ s. s) has (trees_at at c.args.parts.now)) one (fails_then e h (λ a. Ok (not a)) (c.in_err-here-in-Parts.ensures has k at)))

pub none_holds-returns-in_ok-here-in-Parts : goal.none_holds-returns-in_ok-here-in-Parts
none_holds-returns-in_ok-here-in-Parts t c = λ has k at.
    let none : length c.in-Parts.rest.now ≡ 0 = grind (arith, nat_tests) in
    let one = none_one has at c.args.parts.now c.in-Parts.first.now c.in-Parts.rest.now c.in-Parts.ensures (nothing_in c.in-Parts.rest.now none) in
    one ∙ ap (λ r. r >> λ a. Ok (not a)) (c.in_ok-here-in-Parts.ensures has k at)

pub all_hold-holds-requires : goal.all_hold-holds-requires
all_hold-holds-requires t c = (omega (arith, item_lighter c.args.parts.now c.loop-part.part-index c.part-item.result (omega arith) c.part-item.is), tt)

pub all_hold-returns-in_err-here : goal.all_hold-returns-in_err-here
all_hold-returns-in_err-here t c = λ has k at.
    let ds = c.args.parts.now in
    let i = c.loop-part.part-index in
    let d = c.part-item.result in
    let hold = c.loop-part.hold in
    let e = c.in_err-here.field-0.0 in
    let whole = all_hold (λ s. s) has (trees_at at ds) in
    reads_err (λ b. b) c.from_residual.result e whole c.from_residual.ensures.1
    (all_fails has (tree_at at d) (trees_at at (drop (i + 1) ds)) whole hold e
    (c.loop-part.invariant has k at ∙ ap (λ (ts : Trees (List ℕ)). map_ok (λ (b : Bool). hold && b) (all_hold (λ s. s) has ts)) (trees_more at ds i d (omega arith) c.part-item.is)) (c.in_err-here.ensures has k at))

pub all_hold-loop-part-preserved : goal.all_hold-loop-part-preserved
all_hold-loop-part-preserved t c = λ has k at.
    let ds = c.args.parts.now in
    let i = c.loop-part.part-index in
    let d = c.part-item.result in
    let hold = c.loop-part.hold in
    let whole = all_hold (λ s. s) has (trees_at at ds) in
    let more = all_more has (tree_at at d) (trees_at at (drop (i + 1) ds)) whole hold c.in_ok-here.here
    (c.loop-part.invariant has k at ∙ ap (λ (ts : Trees (List ℕ)). map_ok (λ (b : Bool). hold && b) (all_hold (λ s. s) has ts)) (trees_more at ds i d (omega arith) c.part-item.is)) (c.in_ok-here.ensures has k at) in
    more

pub all_hold-returns : goal.all_hold-returns
all_hold-returns t c = λ has k at.
    let ds = c.args.parts.now in
    let hold = c.loop-part.hold in
    c.loop-part.invariant has k at ∙ ap (λ (ts : Trees (List ℕ)). map_ok (λ (b : Bool). hold && b) (all_hold (λ s. s) has ts)) (trees_end at ds c.loop-part.part-index (omega arith)) ∙ all_end hold _ refl

pub some_holds-holds-requires : goal.some_holds-holds-requires
some_holds-holds-requires t c = (omega (arith, item_lighter c.args.parts.now c.loop-part.part-index c.part-item.result (omega arith) c.part-item.is), tt)

pub some_holds-returns-in_err-here : goal.some_holds-returns-in_err-here
some_holds-returns-in_err-here t c = λ has k at.
    let ds = c.args.parts.now in
    let i = c.loop-part.part-index in
    let d = c.part-item.result in
    let hold = c.loop-part.hold in
    let e = c.in_err-here.field-0.0 in
    let whole = some_holds (λ s. s) has (trees_at at ds) in
    reads_err (λ b. b) c.from_residual.result e whole c.from_residual.ensures.1
    (some_fails has (tree_at at d) (trees_at at (drop (i + 1) ds)) whole hold e
    (c.loop-part.invariant has k at ∙ ap (λ (ts : Trees (List ℕ)). map_ok (λ (b : Bool). hold || b) (some_holds (λ s. s) has ts)) (trees_more at ds i d (omega arith) c.part-item.is)) (c.in_err-here.ensures has k at))

pub some_holds-loop-part-preserved : goal.some_holds-loop-part-preserved
some_holds-loop-part-preserved t c = λ has k at.
    let ds = c.args.parts.now in
    let i = c.loop-part.part-index in
    let d = c.part-item.result in
    let hold = c.loop-part.hold in
    let whole = some_holds (λ s. s) has (trees_at at ds) in
    let more = some_more has (tree_at at d) (trees_at at (drop (i + 1) ds)) whole hold c.in_ok-here.here
    (c.loop-part.invariant has k at ∙ ap (λ (ts : Trees (List ℕ)). map_ok (λ (b : Bool). hold || b) (some_holds (λ s. s) has ts)) (trees_more at ds i d (omega arith) c.part-item.is)) (c.in_ok-here.ensures has k at) in
    more

pub some_holds-returns : goal.some_holds-returns
some_holds-returns t c = λ has k at.
    let ds = c.args.parts.now in
    let hold = c.loop-part.hold in
    c.loop-part.invariant has k at ∙ ap (λ (ts : Trees (List ℕ)). map_ok (λ (b : Bool). hold || b) (some_holds (λ s. s) has ts)) (trees_end at ds c.loop-part.part-index (omega arith)) ∙ some_end hold _ refl

pub word_holds-returns-in-And : goal.word_holds-returns-in-And
word_holds-returns-in-And t c = λ has k at.
    let ts = trees_at at c.args.parts.now in
    reads_same (λ b. b) c.all_hold.result (all_hold (λ s. s) has ts) (word_holds has c.args.word.now ts) (ap (λ w. by_connective has w ts) (sym c.in-And.ensures)) (c.all_hold.ensures has k at)

pub word_holds-returns-in-Or : goal.word_holds-returns-in-Or
word_holds-returns-in-Or t c = λ has k at.
    let ts = trees_at at c.args.parts.now in
    reads_same (λ b. b) c.some_holds.result (some_holds (λ s. s) has ts) (word_holds has c.args.word.now ts) (ap (λ w. by_connective has w ts) (sym c.in-Or.ensures)) (c.some_holds.ensures has k at)

pub word_holds-returns-in-Not : goal.word_holds-returns-in-Not
word_holds-returns-in-Not t c = λ has k at.
    let ts = trees_at at c.args.parts.now in
    reads_same (λ b. b) c.none_holds.result (none_holds (λ s. s) has ts) (word_holds has c.args.word.now ts) (ap (λ w. by_connective has w ts) (sym c.in-Not.ensures)) (c.none_holds.ensures has k at)
