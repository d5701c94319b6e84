use Rattle.std.proofs.Common.{ℕ, ◌∙◌, sym, subst, arith}
use Rattle.std.specs.Prelude.{MatchOption, Option}
use Rattle.command_words.specs.Numbers.{IsNumber}
use Rattle.command_words.proofs.NumberLaws.{parsed}
use Rattle.command_words.proofs.numbers.number_of.Goals as goal

pub returns : goal.returns
returns c =
    let word = c.args.word.now in
    let P : Option ℕ → Type 0 = λ o. MatchOption o ((n : ℕ) → ¬ IsNumber word n) (IsNumber word) in
    subst P (sym c.ok.ensures.value) (parsed word c.parse.result (sym c.has_plus.ensures ∙ c.if-has_plus.false) (omega arith) c.parse.ensures.value.0)
