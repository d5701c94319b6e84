use Rattle.std.proofs.Common.{◌∙◌, sym, ap, List, ℕ, codes}
use Rattle.std.specs.Str.{bytes_eq}
use Rattle.command_words.specs.Words.{texts}
use Rattle.command_words.proofs.AheadWords.{by_first, by_second, two_texts}
use Rattle.command_words.proofs.reading.is_ahead.Goals as goal

pub returns-then-eq : goal.returns-then-eq
returns-then-eq c =
    by_second (texts c.args.words.now) _ _ _ (two_texts _ _ _ c.in-len2.len_at_least c.in-len2.len_below c.first-item.is c.second-item.is)
    (ap (λ (w : List ℕ). bytes_eq w (codes "serve")) (sym c.as_str.ensures.value) ∙ sym c.eq.ensures ∙ c.if-eq.true)
    (c.eq-then-eq.ensures ∙ ap (λ (w : List ℕ). bytes_eq w (codes "--ahead")) c.as_str-then-eq.ensures.value)

pub returns-else-eq : goal.returns-else-eq
returns-else-eq c =
    by_first (texts c.args.words.now) _ _ _ (two_texts _ _ _ c.in-len2.len_at_least c.in-len2.len_below c.first-item.is c.second-item.is)
    (c.eq.ensures ∙ ap (λ (w : List ℕ). bytes_eq w (codes "serve")) c.as_str.ensures.value) c.if-eq.false
