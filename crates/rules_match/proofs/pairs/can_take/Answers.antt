use Rattle.std.proofs.Common.{arith}
use Rattle.scheme_model.specs.RulesShape.{dots_of}
use Rattle.scheme_model.specs.Matching.{behind}
use Rattle.syntax_tree.specs.Macros.{identifiers}
use Rattle.syntax_tree.proofs.Looking.{count_stands}
use Rattle.rules_match.proofs.Parts.{count_behind, end_proper, end_dotted}
use Rattle.rules_match.proofs.Taking.{take_tail, take_more, take_exact}
use Rattle.rules_match.proofs.pairs.can_take.Goals as goal

pub returns-in-Some : goal.returns-in-Some
returns-in-Some c = λ r ps tail ts end tells pr fr.
    let w = c.args.work.now in
    let p = count_stands w c.args.pattern.items.now ps pr.parts in
    let q = count_stands w c.args.form.items.now ts fr.parts in
    let pb = count_behind c.args.from ps in
    let qb = count_behind c.args.from ts in
    let d = c.count_dots-dots.ensures.value r ps tells pr.parts in
    let t = end_dotted w c.args.pattern.end tail _ c.in-Some.is pr.tail in
    take_tail (dots_of identifiers r) (behind c.args.from ps) tail (behind c.args.from ts) end c.saturating_sub-least.result c.saturating_sub-there.result (omega arith) (omega arith) t.0 t.1

pub returns-then-dots-gt0 : goal.returns-then-dots-gt0
returns-then-dots-gt0 c = λ r ps tail ts end tells pr fr.
    let w = c.args.work.now in
    let p = count_stands w c.args.pattern.items.now ps pr.parts in
    let q = count_stands w c.args.form.items.now ts fr.parts in
    let pb = count_behind c.args.from ps in
    let qb = count_behind c.args.from ts in
    let d = c.count_dots-dots.ensures.value r ps tells pr.parts in
    take_more (dots_of identifiers r) (behind c.args.from ps) tail (behind c.args.from ts) end c.saturating_sub-least.result c.saturating_sub-there.result (omega arith) (omega arith) (omega arith)
    (end_proper w c.args.pattern.end tail c.in-None.is pr.tail) (end_proper w c.args.form.end end c.in-None-end.is fr.tail)

pub returns-else-dots-gt0 : goal.returns-else-dots-gt0
returns-else-dots-gt0 c = λ r ps tail ts end tells pr fr.
    let w = c.args.work.now in
    let p = count_stands w c.args.pattern.items.now ps pr.parts in
    let q = count_stands w c.args.form.items.now ts fr.parts in
    let pb = count_behind c.args.from ps in
    let qb = count_behind c.args.from ts in
    let d = c.count_dots-dots.ensures.value r ps tells pr.parts in
    take_exact (dots_of identifiers r) (behind c.args.from ps) tail (behind c.args.from ts) end c.saturating_sub-least.result c.saturating_sub-there.result (omega arith) (omega arith) (omega arith)
    (end_proper w c.args.pattern.end tail c.in-None.is pr.tail) (end_proper w c.args.form.end end c.in-None-end.is fr.tail)
