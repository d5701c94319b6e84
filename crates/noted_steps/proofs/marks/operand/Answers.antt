use Rattle.std.proofs.Common.{◌≡◌, ◌+◌, ℕ, get_or, Some, sym, ap, ◌∙◌, subst, arith}
use Rattle.scheme_model.specs.ExpansionFaults.{BadForm}
use Rattle.scheme_model.specs.Shapes.{one_of}
use Rattle.scheme_model.specs.Trees.{list, tree}
use Rattle.syntax_tree.specs.Looks.{PartsStand}
use Rattle.core_forms.proofs.Lists.{one_not, one_dotted}
use Rattle.syntax_tree.proofs.Looking.{count_stands, no_end, some_end, part_standing}
use Rattle.noted_steps.specs.Asked.{IsOperand}
use Rattle.noted_steps.proofs.MarkLaws.{failed_operand, second_of}
use Rattle.noted_steps.proofs.marks.operand.Goals as goal

pub returns-then-items-ne2-clause-operand : goal.returns-then-items-ne2-clause-operand
returns-then-items-ne2-clause-operand c = λ head ts tail o stands.
    let work = c.args.work.now in
    let l = c.in-List.ensures.look (list (tree head ts) tail o) stands in
    let same : tree head ts ≡ l.0 = cc in
    let parts = subst (PartsStand work c.in-List.items.now) (sym same) l.4 in
    let long = count_stands work c.in-List.items.now (tree head ts) parts in
    failed_operand work (one_of ts tail) BadForm (one_not ts tail (λ e. c.if-items-ne2.true (sym long ∙ ap (λ (k : ℕ). k + 1) e)))

pub returns-then-is_some-clause-operand : goal.returns-then-is_some-clause-operand
returns-then-is_some-clause-operand c = λ head ts tail o stands.
    let work = c.args.work.now in
    let l = c.in-List.ensures.look (list (tree head ts) tail o) stands in
    let same : tail ≡ l.1 = cc in
    let d = some_end work c.in-List.end l.1 (sym c.is_some.ensures ∙ c.if-is_some.true) l.5 in
    failed_operand work (one_of ts tail) BadForm (ap (one_of ts) (same ∙ d.1) ∙ one_dotted ts d.0)

pub returns-else-is_some-clause-operand : goal.returns-else-is_some-clause-operand
returns-else-is_some-clause-operand c = λ head ts tail o stands.
    let work = c.args.work.now in
    let l = c.in-List.ensures.look (list (tree head ts) tail o) stands in
    let same : tree head ts ≡ l.0 = cc in
    let tails : tail ≡ l.1 = cc in
    let parts = subst (PartsStand work c.in-List.items.now) (sym same) l.4 in
    let two = second_of work c.in-List.items.now (record { number = 0 }) head ts c.if-items-ne2.false parts in
    let none = no_end work c.in-List.end l.1 (sym c.is_some.ensures ∙ c.if-is_some.false) l.5 in
    subst (IsOperand work (Some (get_or c.in-List.items.now 1 (record { number = 0 })))) (sym ((λ j. one_of (two.1 j) ((tails ∙ none) j)))) two.2

pub returns-else-is_some-clause-standing : goal.returns-else-is_some-clause-standing
returns-else-is_some-clause-standing c =
    let work = c.args.work.now in
    let l = c.in-List.ensures.look c.requires.0 c.requires.1 in
    part_standing work 1 c.in-List.items.now (record { number = 0 }) (l.0, l.4) (omega (arith, c.if-items-ne2.false))
