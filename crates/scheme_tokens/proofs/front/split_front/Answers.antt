use Rattle.std.proofs.Common.{◌≡◌, ◌-◌, length, take, ap, ◌∙◌, subst, arith}
use Rattle.std.specs.Str.{IsUtf8, chars}
use Rattle.std.proofs.lemmas.Str.{IsCharBoundary-from_drop}
use Rattle.scheme_tokens.proofs.Fronts.{front_split}
use Rattle.scheme_tokens.specs.Mirror.Told.{test_of}
use Rattle.scheme_tokens.proofs.front.split_front.Goals as goal

pub range-requires-clause-end_boundary : goal.range-requires-clause-end_boundary
range-requires-clause-end_boundary c =
    IsCharBoundary-from_drop c.args.text.now _ (omega arith) (subst IsUtf8 c.skip-rest.ensures.place c.skip-rest.ensures.utf8)

pub returns-clause-front : goal.returns-clause-front
returns-clause-front c =
    let text = c.args.text.now in
    let n = length text - length c.skip-rest.result.now in
    let no_less : n - 0 ≡ n = omega arith in
    let front : c.range.result.now ≡ take n text = c.range.ensures.value ∙ ap (λ m. take m text) no_less in
    ap chars front ∙ front_split (test_of c.args.class) text c.skip-rest.result.now n (subst IsUtf8 front c.range.utf8) c.skip-rest.ensures.place c.skip-rest.ensures.rest
