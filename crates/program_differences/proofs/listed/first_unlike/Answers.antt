use Rattle.std.proofs.Common.{◌≡◌, false, true, length, Some, sym, ap, ◌∙◌, arith, rules}
use Rattle.std.specs.Prelude.{slice_get}
use Rattle.core_tree.specs.declared.units.Unit.{Unit as CodeUnit}
use Rattle.program_differences.specs.Listed.{alike_in, first_unlike}
use Rattle.program_differences.proofs.ListedLaws.{unlike_here, unlike_past, unlike_longer, unlike_none}
use Rattle.program_differences.proofs.listed.first_unlike.Goals as goal

pub returns-then-not-is_alike_at : goal.returns-then-not-is_alike_at
returns-then-not-is_alike_at c =
    let k = c.loop-place.place in
    let unit = c.index-old-place.result in
    let apart : c.is_alike_at.result ≡ false = first_of (search rules, cc) in
    let tests = ap (λ (x : CodeUnit). alike_in x (slice_get c.args.new.now k)) (sym c.index-old-place.is) ∙ sym c.is_alike_at.ensures ∙ apart in
    unlike_here c.args.old.now c.args.new.now k unit (first_unlike 0 c.args.old.now c.args.new.now) (omega arith) tests c.loop-place.invariant

pub loop-place-preserved : goal.loop-place-preserved
loop-place-preserved c =
    let k = c.loop-place.place in
    let unit = c.index-old-place.result in
    let same : c.is_alike_at.result ≡ true = first_of (search rules, cc) in
    let tests = ap (λ (x : CodeUnit). alike_in x (slice_get c.args.new.now k)) (sym c.index-old-place.is) ∙ sym c.is_alike_at.ensures ∙ same in
    unlike_past c.args.old.now c.args.new.now k unit (first_unlike 0 c.args.old.now c.args.new.now) (omega arith) tests c.loop-place.invariant

pub returns-then-new-old : goal.returns-then-new-old
returns-then-new-old c =
    let k = c.loop-place.place in
    let end : length c.args.old.now ≡ k = omega arith in
    ap Some end ∙ unlike_longer c.args.old.now c.args.new.now k (first_unlike 0 c.args.old.now c.args.new.now) (omega arith) (omega arith) c.loop-place.invariant

pub returns : goal.returns
returns c =
    let k = c.loop-place.place in
    unlike_none c.args.old.now c.args.new.now k (first_unlike 0 c.args.old.now c.args.new.now) (omega arith) (omega arith) c.loop-place.invariant
