use Rattle.std.proofs.Common.{◌++◌, List, ℕ, length, sym, ap, ◌∙◌}
use Rattle.std.proofs.lemmas.Bool.{eqb-true}
use Rattle.text_edits.proofs.KeyLaws.{no_stem, no_text, not_zero, some_stem, stem_there}
use Rattle.text_edits.proofs.names.stem_of.Goals as goal

pub returns-in-None : goal.returns-in-None
returns-in-None c = sym (no_stem c.args.prefix.now c.args.name.now (λ rest e. c.in-None.ensures.cases rest e))

pub returns-then-is_empty : goal.returns-then-is_empty
returns-then-is_empty c =
    let h = c.in-Some.ensures.cases in
    let stem = c.in-Some.stem.now in
    let whole = h.1.1 ∙ ap (λ (q : List ℕ). c.args.prefix.now ++ q) (sym h.2) in
    sym (stem_there c.args.prefix.now c.args.name.now stem whole ∙ no_text stem (eqb-true (length stem) 0 (sym c.is_empty.ensures ∙ c.if-is_empty.true)))

pub returns-else-is_empty : goal.returns-else-is_empty
returns-else-is_empty c =
    let h = c.in-Some.ensures.cases in
    let stem = c.in-Some.stem.now in
    let whole = h.1.1 ∙ ap (λ (q : List ℕ). c.args.prefix.now ++ q) (sym h.2) in
    sym (stem_there c.args.prefix.now c.args.name.now stem whole ∙ some_stem stem (not_zero (length stem) (sym c.is_empty.ensures ∙ c.if-is_empty.false)))
