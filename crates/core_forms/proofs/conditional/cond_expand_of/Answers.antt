use Rattle.std.proofs.Common.{sym, ap, ◌∙◌}
use Rattle.scheme_model.specs.Trees.{Trees, Tail, tree}
use Rattle.scheme_model.specs.Ident.{Ident as Identifier}
use Rattle.syntax_tree.proofs.Looking.{no_end, some_end}
use Rattle.core_forms.specs.Forms.{choices_in}
use Rattle.core_forms.specs.Parts.{AreChoices}
use Rattle.core_forms.specs.Steps.{cond_expand_of}
use Rattle.core_forms.proofs.Reading.{ends_same}
use Rattle.core_forms.proofs.conditional.cond_expand_of.Goals as goal

pub returns-then-is_some-clause-read : goal.returns-then-is_some-clause-read
returns-then-is_some-clause-read c = λ ts tail stands ends.
    let l = c.in-Parts.ensures.read ts stands in
    let there = some_end c.args.work.now c.args.end tail (sym c.is_some.ensures ∙ c.if-is_some.true) ends in
    ap (λ (x : Trees Identifier). cond_expand_of x tail) l.2 ∙ ap (λ (x : Tail Identifier). cond_expand_of (tree l.0 l.1) x) there.1

pub returns-else-is_some-clause-read : goal.returns-else-is_some-clause-read
returns-else-is_some-clause-read c = λ ts tail stands ends.
    let w = c.args.work.now in
    let l = c.in-Parts.ensures.read ts stands in
    let gone = no_end w c.args.end tail (sym c.is_some.ensures ∙ c.if-is_some.false) ends in
    let whole = ap (λ (x : Trees Identifier). cond_expand_of x tail) l.2 ∙ ap (λ (x : Tail Identifier). cond_expand_of (tree l.0 l.1) x) gone ∙ sym (ap choices_in l.2) in
    ends_same w (AreChoices w) (cond_expand_of ts tail) (choices_in ts) c.choices_in.result whole (c.choices_in.ensures.read ts stands)
