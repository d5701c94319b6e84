use Rattle.std.proofs.Common.{ap, ◌∙◌, arith}
use Rattle.std.specs.Str.{chars}
use Rattle.std.proofs.lemmas.Result.{IfOk-weaker}
use Rattle.scheme_tokens.specs.Mirror.Words.{is_inside, front_of}
use Rattle.scheme_tokens.proofs.Fronts.{some_bytes, front_of-cons}
use Rattle.scheme_tokens.proofs.TokenLaws.{hash_inside}
use Rattle.scheme_tokens.proofs.scan.hash_token.Goals as goal

pub returns-in_default-c-clause-within : goal.returns-in_default-c-clause-within
returns-in_default-c-clause-within c =
    let word = some_bytes c.split_front.result.0.now 35 (front_of is_inside (chars c.args.behind.now))
    (c.split_front.ensures.front ∙ ap (front_of is_inside) c.requires.hash ∙ front_of-cons is_inside 35 (chars c.args.behind.now) hash_inside) in
    IfOk-weaker c.hash_word.result _ _ (λ x h. omega (arith, word, h, c.split_front.ensures.sizes)) c.hash_word.ensures.within
